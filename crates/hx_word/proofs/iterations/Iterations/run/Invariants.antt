use Rattle.std.proofs.Common.{◌-◌, ◌≡◌, ◌≤◌, None, vec_capacity}
use Rattle.hx_tree.specs.declared.limits.TheConstants.{TEXT_LIMIT}
use Rattle.hx_code.specs.Region.{region_after}
use Rattle.hx_word.specs.Running.{running, RunsWell}
use Rattle.hx_word.proofs.iterations.Iterations.run.Given as goal

abbrev pub invariant-loop-words : goal.invariant-loop-words
invariant-loop-words l = record {
  few : l.words ≤ l.steps;
  ran : region_after l.code l.words (running l.fn.self l.fn.store None) ≡ running l.self l.store None;
  well : RunsWell l.code (running l.self l.store None);
  opened : l.self.opened ≡ l.fn.self.opened;
  room : TEXT_LIMIT ≤ vec_capacity l.self.text;
}

abbrev pub decreases-loop-words : goal.decreases-loop-words
decreases-loop-words l = l.steps - l.words
