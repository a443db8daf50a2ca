use Rattle.std.proofs.Common.{◌-◌, ◌≤◌}
use Rattle.hx_word.specs.Opening.{opened_of}
use Rattle.hx_advise.specs.Course.{Keeps}
use Rattle.hx_advise.proofs.region.follow.Given as goal

abbrev pub invariant-loop-words : goal.invariant-loop-words
invariant-loop-words l = record {
  few : l.words ≤ l.steps;
  keeps : Keeps l.code (opened_of l.opened) l.fn.course.store.items l.words l.course;
}

abbrev pub decreases-loop-words : goal.decreases-loop-words
decreases-loop-words l = l.steps - l.words
