-- From the words of a region to those of the machine that runs it.
use Rattle.std.proofs.Common.{◌≡◌, ℕ, zero, suc, ◌+◌, ◌≤◌, ℤ, List, [], ◌∷◌, ◌++◌, length, Option, Some, None, Bool, true, false, is_none, is_some, refl, ap, sym, subst, ◌∙◌, add-zero}
use Rattle.std.specs.Prelude.{if◌then◌else◌}
use Rattle.hx_tree.specs.declared.limits.TheConstants.{TEXT_LIMIT}
use Rattle.hx_code.specs.declared.word.Exit.{Exit}
use Rattle.hx_code.specs.declared.word.Exit.TheVariants.{Left, Returned, Faulted}
use Rattle.hx_code.specs.Code.{CodeView, store_words}
use Rattle.hx_code.specs.Call.{CallView}
use Rattle.hx_code.specs.Region.{held, RegionState, region_step, region_after, RegionResult, result_of}
use Rattle.hx_code.specs.Machine.{Machine, machine_step, machine_after, by_end, region_next, resumed, goes_behind, returns}
use Rattle.hx_word.specs.declared.state.State.{State}
use Rattle.hx_word.specs.Running.{running}
use Rattle.hx_word.specs.Plain.{machine_of, with_store_of, one_store, opens_next, openings, Quiet, GoesOn, StandsWell, RunsInside}
use Rattle.hx_word.proofs.RegionSteps.{region_stays}
use Rattle.hx_word.proofs.MachineSteps.{out_of}

abbrev pub in_region : Machine → RegionState → Machine
in_region m z = record m { within = Some z }

-- a word of a machine that runs a region
on_step : (code : CodeView) (m : Machine) (z : RegionState) → m.end ≡ None → machine_step code (in_region m z) ≡ region_next code (region_step code z).exit (region_step code z) (in_region m z)
on_step code m z going = ap (λ e. by_end code e (in_region m z)) going

-- a region that goes on went on before
goes_before : (code : CodeView) (n : ℕ) (z : RegionState) → (region_after code (suc n) z).exit ≡ None → (region_after code n z).exit ≡ None
goes_before code n z none = tested (region_after code n z).exit refl
  where
    tested : (e : Option Exit) → (region_after code n z).exit ≡ e → (region_after code n z).exit ≡ None
    tested None is = is
    tested (Some e) is =
        let same : region_step code (region_after code n z) ≡ region_after code n z = region_stays code (suc zero) (region_after code n z) e is in
        let no : Some e ≡ None = sym is ∙ sym (ap (λ (y : RegionState). y.exit) same) ∙ none in
        absurd cc

pub inside_after : (code : CodeView) (n : ℕ) (m : Machine) (z : RegionState) → m.end ≡ None → (region_after code n z).exit ≡ None → machine_after code n (in_region m z) ≡ in_region m (region_after code n z)
inside_after code zero m z going none = refl
inside_after code (suc n) m z going none =
    let y = region_after code n z in
    ap (machine_step code) (inside_after code n m z going (goes_before code n z none)) ∙ on_step code m y going ∙ ap (λ e. region_next code e (region_step code y) (in_region m y)) none

pub inside_ends : (code : CodeView) (n : ℕ) (m : Machine) (z : RegionState) (e : Exit) → m.end ≡ None → (region_after code n z).exit ≡ None → (region_after code (suc n) z).exit ≡ Some e → machine_after code (suc n) (in_region m z) ≡ resumed code (region_after code (suc n) z).opened.region (result_of code e (region_after code (suc n) z)) m
inside_ends code n m z e going none over =
    let y = region_after code n z in
    ap (machine_step code) (inside_after code n m z going none) ∙ on_step code m y going ∙ ap (λ x. region_next code x (region_step code y) (in_region m y)) over

-- ---- inside a region none opens

same_either : (b : Bool) → (if b then false else false) ≡ false
same_either true = refl
same_either false = refl

opens_inside : (code : CodeView) (x : Machine) (z : RegionState) → x.within ≡ Some z → opens_next code x ≡ false
opens_inside code x z is = ap (λ w. if is_some (machine_step code x).within then is_none w else false) is ∙ same_either (is_some (machine_step code x).within)

pub quiet_next : (code : CodeView) (n : ℕ) (m : Machine) (z : RegionState) → m.end ≡ None → (region_after code n z).exit ≡ None → Quiet code (suc n) (in_region m z)
quiet_next code zero m z going none = ap (λ b. 0 + (if b then 1 else 0)) (opens_inside code (in_region m z) z refl)
quiet_next code (suc n) m z going none =
    let here : (machine_after code (suc n) (in_region m z)).within ≡ Some (region_after code (suc n) z) = ap (λ (x : Machine). x.within) (inside_after code (suc n) m z going none) in
    let before : Quiet code (suc n) (in_region m z) = quiet_next code n m z going (goes_before code n z none) in
    let next : opens_next code (machine_after code (suc n) (in_region m z)) ≡ false = opens_inside code (machine_after code (suc n) (in_region m z)) (region_after code (suc n) z) here in
    ap (λ b. openings code (suc n) (in_region m z) + (if b then 1 else 0)) next ∙ rw add-zero before

pub quiet_inside : (code : CodeView) (n : ℕ) (m : Machine) (z : RegionState) → m.end ≡ None → (region_after code n z).exit ≡ None → Quiet code n (in_region m z)
quiet_inside code zero m z going none = refl
quiet_inside code (suc n) m z going none = quiet_next code n m z going (goes_before code n z none)

-- ---- behind a region none runs

returns_none : (v : ℤ) (cs : List CallView) (m : Machine) → m.within ≡ None → (returns v cs m).within ≡ None
returns_none v [] m none = none
returns_none v (d ∷ []) m none = none
returns_none v (d ∷ c ∷ rest) m none = none

behind_none : (code : CodeView) (r : ℕ) (e : Exit) (words : List ℤ) (m : Machine) → m.within ≡ None → (goes_behind code r e words m).within ≡ None
behind_none code r Left words m none = none
behind_none code r (Returned v) words m none = returns_none v m.local.calls m none
behind_none code r (Faulted fault) words m none = none

pub resumed_none : (code : CodeView) (r : ℕ) (e : RegionResult) (m : Machine) → (resumed code r e m).within ≡ None
resumed_none code r e m = behind_none code r e.exit e.words (record m { store = e.store; text = m.text ++ e.text; turns = held (m.turns + e.turns); regions = held (m.regions + e.regions); within = None }) refl

pub one_store_none : (m : Machine) → m.within ≡ None → one_store m ≡ m
one_store_none m none = ap (λ w. with_store_of w m) none

-- ---- what is kept inside

pub in_is : (s : State) → s.is_inside ≡ true → machine_of s ≡ in_region (out_of s) (running s.iterations s.store.items None)
in_is s inside = ap (λ b. record (out_of s) { within = if b then Some (running s.iterations s.store.items None) else None }) inside

pub runs_in : (code : CodeView) (s : State) → s.is_inside ≡ true → s.end ≡ None → StandsWell code (machine_of s) → RunsInside code (running s.iterations s.store.items None) s.calls s.text.items
runs_in code s inside going well =
    let w = subst (StandsWell code) (in_is s inside) well in
    subst (λ e. GoesOn code e (Some (running s.iterations s.store.items None)) (in_region (out_of s) (running s.iterations s.store.items None))) going w.goes

pub stands_in : (code : CodeView) (s : State) → s.is_inside ≡ true → s.end ≡ None → RunsInside code (running s.iterations s.store.items None) s.calls s.text.items → length s.store.items ≡ store_words code → length s.text.items ≤ TEXT_LIMIT → StandsWell code (machine_of s)
stands_in code s inside going runs store text =
    subst (StandsWell code) (sym (in_is s inside)) (record { store = store; text = text; goes = subst (λ e. GoesOn code e (Some (running s.iterations s.store.items None)) (in_region (out_of s) (running s.iterations s.store.items None))) (sym going) runs })
