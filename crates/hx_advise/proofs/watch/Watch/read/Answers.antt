use Rattle.std.proofs.Common.{◌≡◌, ℕ, suc, ◌+◌, ◌-◌, ◌^◌, ◌<◌, List, ◌∷◌, inl, inr, Some, length, get_or, refl, ap, sym, subst, ◌∙◌, arith}
use Rattle.std.specs.Prelude.{slice_get, slice_index}
use Rattle.std.proofs.lemmas.Option.{slice_get-get_or}
use Rattle.hx_advise.specs.Events.{Read}
use Rattle.hx_advise.specs.Watch.{WatchView, IsAgain, Tells}
use Rattle.hx_advise.proofs.Watches.{tells_own, tells_need}
use Rattle.hx_advise.proofs.watch.Watch.read.Goals as goal
use Rattle.hx_advise.proofs.watch.Watch.read.Goals.{else-writer-ne0-via-then-writer-ne0+else-writer-self, else-writer-ne0-via-else-writer-ne0}

-- an element, whatever stands for one past the end
element : (xs : List ℕ) (k n : ℕ) → k < length xs → n ≡ get_or xs k n → n ≡ slice_index xs k
element xs k n lt e =
    let one : slice_get xs k ≡ Some (get_or xs k n) = slice_get-get_or xs k n lt in
    let other : slice_get xs k ≡ Some (get_or xs k 0) = slice_get-get_or xs k 0 lt in
    cc

pub returns-then-writer-self-clause-tells : goal.returns-then-writer-self-clause-tells
returns-then-writer-self-clause-tells c = λ es t.
    let lt = subst (λ (w : WatchView). c.args.word < length w.writers) (sym c.self.view_is) c.requires in
    let before = subst (λ (w : WatchView). Tells w es) (sym c.self.view_is) t in
    let e = element c.self.inside.writers.items c.args.word c.index-writer.result.now lt c.index-writer.ensures in
    let m = c.need-then-writer-self.ensures in
    let now = c.self.inside.turn in
    let k = c.index-writer.result.now in
    let some = c.if-writer-ne0.true in
    let le = c.if-writer-self.true in
    let same : c.need.inside.turn ≡ now = ap (λ (w : WatchView). w.turn) c.need.view_is in
    let far : (c.need.inside.turn - k) + 1 ≡ now - (k - 1) = omega (arith, same, some, le) in
    let writer : slice_index c.self.inside.writers.items c.args.word ≡ suc (k - 1) = omega (arith, e, some) in
    let earlier : k - 1 < now = omega (arith, some, le) in
    let few : now + 1 < 2 ^ 64 = c.self.invariant.0 in
    let inside : c.args.word < length c.self.inside.needs.items = omega (arith, c.self.invariant.1, lt) in
    subst (λ (w : WatchView). Tells w (Read c.args.word ∷ es)) (sym m.rest)
    (tells_need _ _ es c.args.word (k - 1) lt inside writer earlier few refl refl c.saturating_add-self-inside.ensures refl refl
    (record {
      needs = λ n at. let x = m.needs n at in (x.0, subst (λ (d : ℕ). IsAgain (now + 1) d n x.0) far x.1, x.2);
      needed = subst (λ (d : ℕ). IsAgain (now + 1) d c.self.inside.needed c.need-then-writer-self.new.self.needed) far m.needed;
    })
    before)

pub returns-else-writer-ne0-clause-tells : goal.returns-else-writer-ne0-clause-tells
returns-else-writer-ne0-clause-tells c = λ es t.
    let lt = subst (λ (w : WatchView). c.args.word < length w.writers) (sym c.self.view_is) c.requires in
    let before = subst (λ (w : WatchView). Tells w es) (sym c.self.view_is) t in
    let e = element c.self.inside.writers.items c.args.word c.index-writer.result.now lt c.index-writer.ensures in
    elim c.else-writer-ne0.branch [
      | else-writer-ne0-via-then-writer-ne0+else-writer-self w ↦
          let later : c.self.inside.turn < slice_index c.self.inside.writers.items c.args.word = let g = w.if-writer-self.false in omega (arith, g, e) in
          subst (λ (w : WatchView). Tells w (Read c.args.word ∷ es)) (sym w.self-is)
          (tells_own _ _ es c.args.word lt (inr later) refl refl c.saturating_add-self-inside.ensures refl refl refl refl before)
      | else-writer-ne0-via-else-writer-ne0 w ↦
          let none : slice_index c.self.inside.writers.items c.args.word ≡ 0 = sym e ∙ w.if-writer-ne0.false in
          subst (λ (w : WatchView). Tells w (Read c.args.word ∷ es)) (sym w.self-is)
          (tells_own _ _ es c.args.word lt (inl none) refl refl c.saturating_add-self-inside.ensures refl refl refl refl before)
    ]
