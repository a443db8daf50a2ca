use Rattle.std.proofs.Common.{◌≡◌, ℕ, ◌<◌, Some}
use Rattle.std.specs.Prelude.{slice_get}
use Rattle.hx_code.specs.declared.word.Word.{Word}
use Rattle.hx_code.specs.declared.table.Spot.{Spot}
use Rattle.hx_code.specs.Validation.{tables_of, IsFine}
use Rattle.hx_code.proofs.validate.words_are_fine.Given as goal

abbrev pub invariant-loop-place : goal.invariant-loop-place
invariant-loop-place l = (p : ℕ) (w : Word) (s : Spot) → p < l.place → slice_get l.words p ≡ Some w → slice_get l.tables.spots.items p ≡ Some s → IsFine (tables_of l.tables) p w s
