-- The plain region: its iterations one after another, over one store.
use Rattle.std.specs.Prelude.{◌≡◌, ℕ, zero, suc, ◌+◌, List, [], ◌++◌, length, Bool, true, nat_le, if◌then◌else◌}
use Rattle.hx_tree.specs.declared.limits.TheConstants.{TEXT_LIMIT}
use Rattle.hx_code.specs.declared.word.Exit.{Exit}
use Rattle.hx_code.specs.declared.word.Exit.TheVariants.{Left, Returned, Faulted}
use Rattle.hx_speculation.specs.Iteration.{Store, write, Ask, Goes, Loads, Stores, Prints, TurnEnds, Leaves, Returns, Faults}

-- what each state of an iteration asks for, where iteration j begins, how many bytes were printed before the region, and
-- whether two states are the same
pub record Region (σ : Type 0) : Type 0 where
  pub ask : σ → Ask σ
  pub opening : ℕ → σ
  pub printed : ℕ
  pub same : σ → σ → Bool
  pub same_holds : (p q : σ) → same p q ≡ true → p ≡ q
  pub same_itself : (q : σ) → same q q ≡ true

-- a region as it runs, or as it has ended: the committed store, its text, and how many whole turns there were
pub data Plain (σ : Type 0) : Type 0 where
  Going : (here : σ) → (store : Store) → (text : List ℕ) → (turns : ℕ) → Plain σ
  Over : (exit : Exit) → (store : Store) → (text : List ℕ) → (turns : ℕ) → Plain σ

-- so many more bytes pass no limit
abbrev pub has_room_for : {σ : Type 0} → Region σ → List ℕ → List ℕ → Bool
has_room_for r text bytes = nat_le (r.printed + length text + length bytes) TEXT_LIMIT

-- what is asked for is given
abbrev pub does : {σ : Type 0} → Region σ → Ask σ → Store → List ℕ → ℕ → Plain σ
does r (Goes q) s text k = Going q s text k
does r (Loads a q) s text k = Going (q (s a)) s text k
does r (Stores a v q) s text k = Going q (write s a v) text k
does r (Prints bytes q full) s text k = if has_room_for r text bytes then Going q s (text ++ bytes) k else Over (Faulted full) s text k
does r TurnEnds s text k = Going (r.opening (suc k)) s text (suc k)
does r Leaves s text k = Over Left s text k
does r (Returns v) s text k = Over (Returned v) s text k
does r (Faults fault) s text k = Over (Faulted fault) s text k

-- one word; an ended region stays
abbrev pub step : {σ : Type 0} → Region σ → Plain σ → Plain σ
step r (Going q s text k) = does r (r.ask q) s text k
step r (Over e s text k) = Over e s text k

abbrev pub steps : {σ : Type 0} → Region σ → ℕ → Plain σ → Plain σ
steps r zero p = p
steps r (suc n) p = steps r n (step r p)

-- the plain region from its entry comes to this
abbrev pub Comes : {σ : Type 0} → Region σ → Store → Plain σ → Type 0
Comes r entry p = (n : ℕ) × (steps r n (Going (r.opening 0) entry [] 0) ≡ p)
