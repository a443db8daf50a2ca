use Rattle.std.proofs.Common.{◌≡◌, inl, inr, ◌+◌, arith, subst, sym, ap, ◌∙◌, length, length-set}
use Rattle.std.proofs.lemmas.List.{get_or-replicate}
use Rattle.hx_code.specs.Validation.{AreOnlyEnters}
use Rattle.hx_code.proofs.Validation.{table_same, table_more, table_twice}
use Rattle.hx_code.proofs.validate.find_enters.Goals as goal
use Rattle.hx_code.proofs.validate.find_enters.Goals.{in-None, in-Some+else-places-index}

pub loop-place-init : goal.loop-place-init
loop-place-init c = λ i lt. inl (get_or-replicate 256 i 4294967295 0 lt, λ p below e. absurd (omega arith))

pub loop-place-preserved : goal.loop-place-preserved
loop-place-preserved c = elim c.match-entered.branch [
  | in-None w ↦ subst (AreOnlyEnters c.args.words.now 4294967295 (c.loop-place.place + 1) c.args.first) (sym w.places-is) (table_same c.args.words.now 4294967295 c.loop-place.place c.args.first c.loop-place.places c.word_in-word.result c.word_in-word.ensures c.loop-place.invariant w.in-None.ensures)
  | in-Some+else-places-index w ↦
      let e = w.in-Some.ensures in
      let free = w.if-places-index.false in
      let long : length c.loop-place.places ≡ 256 = sym (length-set c.loop-place.places w.in-Some.index c.loop-place.place) ∙ sym (ap length w.places-is) ∙ c.match-entered.array_long in
      subst (AreOnlyEnters c.args.words.now 4294967295 (c.loop-place.place + 1) c.args.first) (sym w.places-is) (table_more c.args.words.now 4294967295 c.loop-place.place c.args.first c.loop-place.places c.word_in-word.result w.in-Some.index c.word_in-word.ensures c.loop-place.invariant long e.0 e.1 free (omega (arith, c.loop-place-test.true, c.requires)))
]

pub returns-then-places-index-clause-twice : goal.returns-then-places-index-clause-twice
returns-then-places-index-clause-twice c =
    let e = c.in-Some.ensures in
    inr (table_twice c.args.words.now 4294967295 c.loop-place.place c.args.first c.loop-place.places c.word_in-word.result c.in-Some.index c.word_in-word.ensures c.loop-place.invariant e.0 e.1 c.if-places-index.true)

pub returns-clause-found : goal.returns-clause-found
returns-clause-found c = λ _.
    let same : c.loop-place.place ≡ length c.args.words.now = omega (arith, c.loop-place-test.false, c.loop-place.auto.place-end) in
    subst (λ n. AreOnlyEnters c.args.words.now 4294967295 n c.args.first c.loop-place.places) same c.loop-place.invariant
