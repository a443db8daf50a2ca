-- Iterations that get along with their first attempt.
use Rattle.std.specs.Prelude.{◌≡◌, ℕ, suc, ◌<◌, ◌⊎◌, List, [], ◌∷◌}
use Rattle.hx_speculation.specs.Iteration.{Store, Agrees}
use Rattle.hx_speculation.specs.Region.{Region}
use Rattle.hx_speculation.specs.Slots.{Slot}
use Rattle.hx_speculation.specs.Watch.{in_turn, ComesWatched, Begins}

-- of the active iterations, j being the first, each that the plain region begins has attempt 1
abbrev pub AttemptsAreOne : {σ : Type 0} → Region σ → Store → ℕ → List (Slot σ) → Type 0
AttemptsAreOne r entry j [] = Unit {0}
AttemptsAreOne r entry j (x ∷ xs) = (Begins r entry j → x.attempt ≡ 1) × AttemptsAreOne r entry (suc j) xs

-- iteration j, which starts at q, has committed no word yet: it is behind the head, or it is the head, and the plain region's turn
-- has written nothing where the board stands, with this store and text
abbrev pub HasCommittedNone : {σ : Type 0} → Region σ → Store → ℕ → Store → List ℕ → ℕ → σ → Type 0
HasCommittedNone r entry head s text j q = (head < j) ⊎ ((j ≡ head) × ComesWatched r entry (in_turn j q s text []))

-- of the active iterations, j being the first, each that the plain region begins has only marked what the entry's store has, as
-- long as it has committed no word
abbrev pub MarksAreOfEntry : {σ : Type 0} → Region σ → Store → ℕ → Store → List ℕ → ℕ → List (Slot σ) → Type 0
MarksAreOfEntry r entry head s text j [] = Unit {0}
MarksAreOfEntry r entry head s text j (x ∷ xs) =
    (Begins r entry j → HasCommittedNone r entry head s text j x.start → Agrees entry x.marks) × MarksAreOfEntry r entry head s text (suc j) xs
