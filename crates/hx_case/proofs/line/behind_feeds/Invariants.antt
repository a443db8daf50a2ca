use Rattle.std.proofs.Common.{◌≡◌, length}
use Rattle.hx_case.specs.Pointed.{behind_feeds}
use Rattle.hx_case.proofs.line.behind_feeds.Given as goal

abbrev pub invariant-loop-left : goal.invariant-loop-left
invariant-loop-left l = behind_feeds l.left l.rest ≡ behind_feeds l.fn.feeds l.fn.source

abbrev pub decreases-loop-left : goal.decreases-loop-left
decreases-loop-left l = length l.rest
