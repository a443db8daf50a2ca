use Rattle.hx_code.specs.Validation.{AreOnlyEnters}
use Rattle.hx_code.specs.declared.validate.TheConstants.{NOWHERE}
use Rattle.hx_code.proofs.validate.find_enters.Given as goal

abbrev pub invariant-loop-place : goal.invariant-loop-place
invariant-loop-place l = AreOnlyEnters l.words NOWHERE l.place l.first l.places
