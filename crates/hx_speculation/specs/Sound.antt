-- What a board keeps through every call.
use Rattle.std.specs.Prelude.{◌≡◌, ℕ, suc, List, [], ◌∷◌, map, Option, Some, None, true}
use Rattle.hx_code.specs.declared.word.Exit.{Exit}
use Rattle.hx_code.specs.Region.{held}
use Rattle.hx_speculation.specs.Iteration.{Store, overlay, Agrees}
use Rattle.hx_speculation.specs.Region.{Region, Plain, Going, Over, Comes}
use Rattle.hx_speculation.specs.Frame.{IsTracked}
use Rattle.hx_speculation.specs.Slots.{Slot}
use Rattle.hx_speculation.specs.Board.{Board, Call, Start, Load, Write, Head, Alive, Settle, Abandon}

-- where the head stands, by the starts of the active iterations
abbrev pub head_start : {σ : Type 0} → Region σ → ℕ → List σ → σ
head_start r j [] = r.opening j
head_start r j (q ∷ qs) = q

-- the iterations from j on stand at their opening states
abbrev pub AreOpening : {σ : Type 0} → Region σ → ℕ → List σ → Type 0
AreOpening r j [] = Unit {0}
AreOpening r j (q ∷ qs) = (q ≡ r.opening j) × AreOpening r (suc j) qs

-- all but the first, which is j
abbrev pub RestIsOpening : {σ : Type 0} → Region σ → ℕ → List σ → Type 0
RestIsOpening r j [] = Unit {0}
RestIsOpening r j (q ∷ qs) = AreOpening r (suc j) qs

-- each mark's value is what its iteration sees
abbrev pub MarksAreSeen : {σ : Type 0} → Store → List (Slot σ) → Type 0
MarksAreSeen s [] = Unit {0}
MarksAreSeen s (x ∷ xs) = Agrees s x.marks × MarksAreSeen (overlay x.buffer s) xs

abbrev pub starts_of : {σ : Type 0} → List (Slot σ) → List σ
starts_of xs = map (λ x. x.start) xs

-- the plain state that a board shows
abbrev pub shown : {σ : Type 0} → Region σ → Board σ → Option Exit → Plain σ
shown r b None = Going (head_start r b.head (starts_of b.active)) b.store b.text b.head
shown r b (Some e) = Over e b.store b.text b.head

-- it shows where the plain region comes to; its own region is counted, and as many whole turns as the head's number says
pub record IsSound {σ : Type 0} (r : Region σ) (entry : Store) (b : Board σ) : Type 0 where
  pub prefix : Comes r entry (shown r b b.exit)
  pub marks : MarksAreSeen b.store b.active
  pub rest : RestIsOpening r b.head (starts_of b.active)
  pub turns : b.counts.turns ≡ held b.head
  pub regions : b.counts.regions ≡ 1

-- a frame of the board's own code that is handed in is tracked
abbrev pub HasTrackedFrame : {σ : Type 0} → Region σ → Call σ → Type 0
HasTrackedFrame r (Settle t f is_own) = is_own ≡ true → IsTracked r.ask f
HasTrackedFrame r (Start w is_own) = Unit {0}
HasTrackedFrame r (Load w attempt a) = Unit {0}
HasTrackedFrame r (Write w attempt a v) = Unit {0}
HasTrackedFrame r (Head w attempt) = Unit {0}
HasTrackedFrame r (Alive w attempt) = Unit {0}
HasTrackedFrame r (Abandon w) = Unit {0}

abbrev pub HaveTrackedFrames : {σ : Type 0} → Region σ → List (Call σ) → Type 0
HaveTrackedFrames r [] = Unit {0}
HaveTrackedFrames r (c ∷ cs) = HasTrackedFrame r c × HaveTrackedFrames r cs
