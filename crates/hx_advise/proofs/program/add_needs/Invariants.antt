use Rattle.hx_advise.proofs.NeedsAdded.{AreAdded}
use Rattle.hx_advise.proofs.program.add_needs.Given as goal

abbrev pub invariant-loop-word : goal.invariant-loop-word
invariant-loop-word l = AreAdded l.initial.all.items l.more l.all.items l.word
