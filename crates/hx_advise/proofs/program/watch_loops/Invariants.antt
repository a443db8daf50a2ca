use Rattle.hx_advise.specs.Runs.{Stands}
use Rattle.hx_advise.proofs.program.watch_loops.Given as goal

abbrev pub invariant-loop-left : goal.invariant-loop-left
invariant-loop-left l = Stands l.code l.fn.plain.machine l.steps l.left l.plain l.loops.items

abbrev pub decreases-loop-left : goal.decreases-loop-left
decreases-loop-left l = l.left
