use Rattle.std.proofs.Common.{◌≡◌, ℕ, ◌<◌, ◌+◌, Some, arith, subst, sym, ◌∙◌, List, refl}
use Rattle.std.proofs.lemmas.Option.{slice_get_within}
use Rattle.std.specs.Prelude.{slice_get}
use Rattle.hx_code.specs.declared.word.Word.{Word}
use Rattle.hx_code.specs.declared.table.Spot.{Spot}
use Rattle.hx_code.specs.Code.{CodeView}
use Rattle.hx_code.specs.Validation.{IsFine, tables_of}
use Rattle.hx_code.proofs.Validation.{one_more, same_some}
use Rattle.hx_code.proofs.validate.words_are_fine.Goals as goal

-- one more word
more_words : (code : CodeView) (words : List Word) (spots : List Spot) (n : ℕ) (w : Word) (s : Spot) → slice_get words n ≡ Some w → slice_get spots n ≡ Some s → IsFine code n w s
    → ((p : ℕ) (v : Word) (t : Spot) → p < n → slice_get words p ≡ Some v → slice_get spots p ≡ Some t → IsFine code p v t)
    → (p : ℕ) (v : Word) (t : Spot) → p < n + 1 → slice_get words p ≡ Some v → slice_get spots p ≡ Some t → IsFine code p v t
more_words code words spots n w s a b fine before p v t below c d =
    one_more words (λ k x. (t : Spot) → slice_get spots k ≡ Some t → IsFine code k x t) n w a (λ y e. subst (IsFine code n w) (same_some s y (sym b ∙ e)) fine) (λ k x lt is y e. before k x y lt is e) p v below c t d

pub loop-place-preserved : goal.loop-place-preserved
loop-place-preserved c = more_words (tables_of c.args.tables.now) _ _ _ _ _ c.word_in-word.ensures (subst (λ xs. slice_get xs c.loop-place.place ≡ Some c.spot_in-spot.result) c.deref.ensures.value c.spot_in-spot.ensures) (c.if-not-is_fine.ensures.0 refl) c.loop-place.invariant

pub returns-then-not-is_fine : goal.returns-then-not-is_fine
returns-then-not-is_fine c =
    let b = subst (λ xs. slice_get xs c.loop-place.place ≡ Some c.spot_in-spot.result) c.deref.ensures.value c.spot_in-spot.ensures in
    (λ no. absurd cc, λ all. c.if-not-is_fine.ensures.1 (all c.loop-place.place c.word_in-word.result c.spot_in-spot.result c.word_in-word.ensures b))

pub returns : goal.returns
returns c = (λ _ p w s a b. let lt = slice_get_within c.args.words.now p w a in c.loop-place.invariant p w s (omega (arith, lt, c.loop-place-test.false)) a b, λ _. refl)
