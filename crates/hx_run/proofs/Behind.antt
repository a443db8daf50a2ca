-- A region's end, told by whoever ran it, is where the machine comes to that opened it.
use Rattle.std.proofs.Common.{◌≡◌, ℕ, zero, suc, ◌+◌, ◌≤◌, ℤ, List, [], ◌∷◌, length, Option, Some, None, true, refl, ap, sym, subst, ◌∙◌}
use Rattle.hx_tree.specs.declared.limits.TheConstants.{TEXT_LIMIT}
use Rattle.hx_code.specs.declared.word.Exit.{Exit}
use Rattle.hx_code.specs.declared.word.Exit.TheVariants.{Left, Returned, Faulted}
use Rattle.hx_code.specs.Code.{CodeView}
use Rattle.hx_code.specs.Call.{CallView}
use Rattle.hx_code.specs.Valid.{IsValid}
use Rattle.hx_code.specs.Region.{Opened, RegionState, RegionResult, region_step, region_after}
use Rattle.hx_code.specs.Machine.{Machine, machine_step, machine_after, opening_machine, returns, goes_behind, resumed}
use Rattle.hx_word.specs.declared.entry.Entry.{Entry}
use Rattle.hx_word.specs.declared.entry.RegionEnd.{RegionEnd}
use Rattle.hx_word.specs.declared.plain.Paused.TheVariants.{At}
use Rattle.hx_word.specs.Entry.{EntryFits, EndFits, IsEndOf, result_from}
use Rattle.hx_word.specs.Laws.{OpensWith, begun_from}
use Rattle.hx_word.specs.Plain.{PlainView, OpenView, whole, one_store, with_store_of, opens_next}
use Rattle.hx_word.specs.Ran.{PausedFrom}
use Rattle.hx_word.specs.Running.{BeforeLast}
use Rattle.hx_word.proofs.Alone.{after_keeps, regions_end}
use Rattle.hx_word.proofs.RegionSteps.{region_stays}
use Rattle.hx_board.specs.Ends.{EndsPlainly, plainly}
use Rattle.hx_run.specs.Runs.{IsBehind, after}
use Rattle.hx_run.proofs.Runs.{IsReached, after_more}

-- an end fits the region from whose entry it came
pub end_fits : (code : CodeView) (o : Opened) (printed : List ℕ) (entry : Entry) (e : RegionEnd) → EntryFits code o.region entry → entry.text_len ≡ length printed → EndsPlainly code o.region entry e → EndFits code o printed e
end_fits code o printed entry e fits text p = record {
  store = p.lasts.store;
  locals = p.lasts.locals ∙ fits.locals;
  text = subst (λ n. n + length e.text.items ≤ TEXT_LIMIT) (ap (λ q. q.printed) (after_keeps code p.words (begun_from code o.region entry)) ∙ text) p.lasts.text;
}

-- ---- the last word of a region

record LastOf (code : CodeView) (z y : RegionState) : Type 0 where
  words : ℕ
  before : BeforeLast code words z
  same : region_after code words z ≡ y

last_by : (code : CodeView) (n : ℕ) (z : RegionState) (x : Exit) → z.exit ≡ None → (region_after code n z).exit ≡ Some x → LastOf code z (region_after code n z)
last_by code zero z x none some = let no : None ≡ Some x = sym none ∙ some in absurd cc
last_by code (suc n) z x none some = by (λ y is. last_by code n z y none is) (region_after code n z).exit refl
  where
    by : ((y : Exit) → (region_after code n z).exit ≡ Some y → LastOf code z (region_after code n z)) → (e : Option Exit) → (region_after code n z).exit ≡ e → LastOf code z (region_after code (suc n) z)
    by before None is = record { words = suc n; before = (n, refl, is); same = refl }
    by before (Some y) is =
        let stays : region_step code (region_after code n z) ≡ region_after code n z = region_stays code 1 (region_after code n z) y is in
        let there = before y is in
        record { words = there.words; before = there.before; same = there.same ∙ sym stays }

-- ---- behind the region

same_result : (o : Opened) (e : RegionEnd) → e.counts.regions ≡ 1 → result_from o e ≡ result_from o (plainly e)
same_result o e one = let r = result_from o e in λ i. record { exit = r.exit; store = r.store; words = r.words; text = r.text; regions = one i; turns = r.turns }

pub behind_reached : (code : CodeView) → IsValid code → (m : Machine) (o : OpenView) (entry : Entry) (e : RegionEnd) → OpensWith code m o entry → EndsPlainly code o.region.opened.region entry e → (n : ℕ) × (resumed code o.region.opened.region (result_from o.region.opened e) (whole o) ≡ machine_after code n m)
behind_reached code valid m o entry e opens p =
    let r = o.region.opened.region in
    let z = begun_from code r entry in
    let last = last_by code p.words z e.exit refl p.end.exit in
    let ends = subst (λ y. IsEndOf code y (length entry.locals.items) (plainly e)) (sym last.same) p.end in
    (suc last.words, ap (λ x. resumed code r x (whole o)) (same_result o.region.opened e p.regions) ∙ regions_end code valid m o entry last.words (plainly e) opens last.before ends)

returns_within : (v : ℤ) (cs : List CallView) (m : Machine) → (returns v cs m).within ≡ m.within
returns_within v [] m = refl
returns_within v (d ∷ []) m = refl
returns_within v (d ∷ c ∷ rest) m = refl

behind_within : (code : CodeView) (r : ℕ) (x : Exit) (words : List ℤ) (m : Machine) → (goes_behind code r x words m).within ≡ m.within
behind_within code r Left words m = refl
behind_within code r (Returned v) words m = returns_within v m.local.calls m
behind_within code r (Faulted fault) words m = refl

-- behind a region there is none, so the machine's store is the present one
one_store_resumed : (code : CodeView) (r : ℕ) (e : RegionResult) (m y : Machine) → resumed code r e m ≡ y → resumed code r e m ≡ one_store y
one_store_resumed code r e m y is =
    let none : y.within ≡ None = ap (λ (x : Machine). x.within) (sym is) ∙ behind_within code r e.exit e.words _ in is ∙ ap (λ w. with_store_of w y) (sym none)

pub is_behind : (code : CodeView) → IsValid code → (o : OpenView) (entry : Entry) (e : RegionEnd) (p : PlainView) → o.code ≡ code → ((m : Machine) → opens_next code m ≡ true → whole o ≡ one_store (machine_step code m) → OpensWith code m o entry)
    → EndsPlainly code o.region.opened.region entry e → p ≡ record { code = code; machine = resumed code o.region.opened.region (result_from o.region.opened e) (whole o) } → IsBehind o p
is_behind code valid o entry e p own opens ends is = record {
  code = ap (λ (x : PlainView). x.code) is ∙ sym own;
  machine = subst (λ c. (m : Machine) → opens_next c m ≡ true → whole o ≡ one_store (machine_step c m) → (n : ℕ) × (p.machine ≡ one_store (machine_after c n m))) (sym own) (λ m next here.
      let found = behind_reached code valid m o entry e (opens m next here) ends in
      (found.0, ap (λ (x : PlainView). x.machine) is ∙ one_store_resumed code o.region.opened.region (result_from o.region.opened e) (whole o) (machine_after code found.0 m) found.1));
}

-- ---- a run that has come to a region goes on behind it

pub reached_behind : (code : CodeView) (input : List ℤ) (plain : PlainView) (o : OpenView) (p : PlainView) (n : ℕ) → IsReached code input plain → ((m : Machine) → one_store m ≡ plain.machine → PausedFrom plain.code m n (At o)) → IsBehind o p → IsReached code input p
reached_behind code input plain o p n h paused b =
    let start = after code input h.words in
    let at = subst (λ c. PausedFrom c start n (At o)) h.same (paused start h.machine) in
    let behind = subst (λ c. (m : Machine) → opens_next c m ≡ true → whole o ≡ one_store (machine_step c m) → (k : ℕ) × (p.machine ≡ one_store (machine_after c k m))) at.4 b.machine in
    let found = behind (machine_after code at.0 start) at.3 at.5 in
    let words = ap (machine_after code found.0) (after_more code at.0 h.words (opening_machine code input)) ∙ after_more code found.0 (at.0 + h.words) (opening_machine code input) in
    record { same = b.code ∙ at.4; words = found.0 + (at.0 + h.words); machine = sym (found.1 ∙ ap one_store words) }

-- the code of a region that has opened is the run's own
pub own_code : (code : CodeView) (input : List ℤ) (plain : PlainView) (o : OpenView) (n : ℕ) → IsReached code input plain → ((m : Machine) → one_store m ≡ plain.machine → PausedFrom plain.code m n (At o)) → o.code ≡ code
own_code code input plain o n h paused = (paused (after code input h.words) h.machine).4 ∙ h.same
