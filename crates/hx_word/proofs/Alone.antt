-- A region by itself and within a machine: what it was opened with differs in private words that it never names.
use Rattle.std.proofs.Common.{◌≡◌, ℕ, zero, suc, ◌+◌, ◌-◌, ◌%◌, ◌^◌, ◌<◌, ℤ, pos, ◌+ℤ◌, ◌*ℤ◌, List, [], ◌∷◌, ◌++◌, length, take, drop, replicate, Option, Some, None, Bool, true, false, is_none, is_some, refl, ap, sym, subst, ◌∙◌, arith, length-set}
use Rattle.std.specs.Prelude.{if◌then◌else◌, nat_le, slice_get, slice_set, slice_index_or}
use Rattle.std.specs.List.{All}
use Rattle.std.proofs.lemmas.List.{get_or_append_left, set-append_left, take-append-drop}
use Rattle.std.proofs.Math.Seq.{take-append_seam}
use Rattle.hx_tree.specs.declared.limits.TheConstants.{PRIVATE_LIMIT, TEXT_LIMIT}
use Rattle.hx_tree.specs.Numbers.{wrap}
use Rattle.hx_tree.specs.declared.outcome.FaultKind.TheVariants.{TextFull}
use Rattle.hx_tree.specs.declared.outcome.End.{End}
use Rattle.hx_tree.specs.declared.outcome.End.TheVariants.{Fault}
use Rattle.hx_code.specs.declared.table.Carried.{Carried}
use Rattle.hx_code.specs.declared.table.Induct.{Induct}
use Rattle.hx_code.specs.declared.table.Spot.{Spot}
use Rattle.hx_code.specs.declared.word.Ask.{Ask}
use Rattle.hx_code.specs.declared.word.Ask.TheVariants.{Goes, Loads, Stores, Prints, Faults, Calls, Enters, Turns, Leaves, Returns}
use Rattle.hx_code.specs.declared.word.Exit.{Exit}
use Rattle.hx_code.specs.declared.word.Exit.TheVariants.{Left, Returned, Faulted}
use Rattle.hx_code.specs.Code.{CodeView, RegionView, region_of}
use Rattle.hx_code.specs.Valid.{IsValid, IsCounterOrNone, privates_of}
use Rattle.hx_code.specs.Call.{fault_at, bytes_of}
use Rattle.hx_code.specs.Local.{LocalView, LocalWant, LocalAsks, LocalStuck, asks_of, blank, begun}
use Rattle.hx_code.specs.Machine.{Machine, does, does_want, by_within, by_end, machine_step, machine_after, resumed}
use Rattle.hx_code.specs.Region.{Opened, RegionState, opening, copied_words, from_cells, with_counter, held, iteration_words, region_opening, region_does, region_want, by_exit, region_step, region_after, RegionResult, result_of, words_after}
use Rattle.hx_word.specs.declared.entry.Entry.{Entry}
use Rattle.hx_word.specs.declared.entry.RegionEnd.{RegionEnd}
use Rattle.hx_word.specs.Laws.{OpensWith, begun_from, EndsAlike, GoesAlike}
use Rattle.hx_word.specs.Plain.{OpenView, whole, with_store_of, opens_next}
use Rattle.hx_word.specs.Entry.{function_in, privates_in, padded, opened_from, region_counts, result_from, EntryFits, IsEntryOf, IsEndOf}
use Rattle.hx_code.proofs.Regions.{length-from, length-counter}
use Rattle.hx_word.proofs.Regions.{region_there}
use Rattle.hx_word.proofs.MachineSteps.{machine_then}
use Rattle.hx_word.proofs.Inside.{in_region, inside_after, inside_ends}
use Rattle.hx_word.proofs.Advance.{runs_there}

-- ---- private words that no one names

tail_all : {X : Type 0} (P : X → Type 0) (x : X) (xs : List X) → All P (x ∷ xs) → All P xs
tail_all P x xs h = λ k d lt. h (suc k) d (omega (arith, lt))

pub copied_alike : (ks : List ℕ) (xs ys zs to : List ℤ) → All (λ k. k < length xs) ks → copied_words ks (xs ++ ys) to ≡ copied_words ks (xs ++ zs) to
copied_alike [] xs ys zs to h = refl
copied_alike (k ∷ ks) xs ys zs to h =
    let here : k < length xs = h zero 0 (omega arith) in
    let same : slice_index_or (xs ++ ys) k (pos 0) ≡ slice_index_or (xs ++ zs) k (pos 0) = get_or_append_left xs ys (pos 0) k here ∙ sym (get_or_append_left xs zs (pos 0) k here) in
    ap (λ v. copied_words ks (xs ++ ys) (slice_set to k v)) same ∙ copied_alike ks xs ys zs _ (tail_all (λ k. k < length xs) k ks h)

pub cells_alike : (globals : ℕ) (cs : List Carried) (store xs ys : List ℤ) → All (λ (c : Carried). c.private < length xs) cs → from_cells globals cs store (xs ++ ys) ≡ from_cells globals cs store xs ++ ys
cells_alike globals [] store xs ys h = refl
cells_alike globals (c ∷ cs) store xs ys h =
    let v = slice_index_or store (globals + c.cell) (pos 0) in
    let here : c.private < length xs = h zero c (omega arith) in
    let rest : All (λ (d : Carried). d.private < length (slice_set xs c.private v)) cs = subst (λ n. All (λ (d : Carried). d.private < n) cs) (sym (length-set xs c.private v)) (tail_all (λ (d : Carried). d.private < length xs) c cs h) in
    ap (from_cells globals cs store) (set-append_left xs ys c.private v here) ∙ cells_alike globals cs store (slice_set xs c.private v) ys rest

-- a counter's private word is among the first n
abbrev CounterBelow : ℕ → Option Induct → Type 0
CounterBelow n None = Unit {0}
CounterBelow n (Some c) = c.private < n

counter_reads : (c : Option Induct) (xs ys : List ℤ) (j : ℕ) (to : List ℤ) → CounterBelow (length xs) c → with_counter c (xs ++ ys) j to ≡ with_counter c xs j to
counter_reads None xs ys j to h = refl
counter_reads (Some c) xs ys j to h = ap (λ v. slice_set to c.private (wrap (v +ℤ pos j *ℤ c.step))) (get_or_append_left xs ys (pos 0) c.private h)

counter_sets : (c : Option Induct) (words : List ℤ) (j : ℕ) (xs ys : List ℤ) → CounterBelow (length xs) c → with_counter c words j (xs ++ ys) ≡ with_counter c words j xs ++ ys
counter_sets None words j xs ys h = refl
counter_sets (Some c) words j xs ys h = set-append_left xs ys c.private _ h

-- ---- two regions that were opened alike

pub record OpenedAlike (code : CodeView) (o p : Opened) : Type 0 where
  pub region : o.region ≡ p.region
  pub printed : o.printed ≡ p.printed
  pub begins : (j : ℕ) → opening code o j ≡ opening code p j

abbrev pub at_opened : Opened → RegionState → RegionState
at_opened o z = record z { opened = o }

prints_alike : (o p : Opened) (l : LocalView) (z : RegionState) (text : List ℕ) (e : Exit) (n k : ℕ) → o.printed ≡ p.printed
    → (if nat_le (p.printed + n + k) TEXT_LIMIT then record (at_opened p z) { local = l; text = text } else record (at_opened p z) { local = l; exit = Some e })
    ≡ at_opened p (if nat_le (o.printed + n + k) TEXT_LIMIT then record (at_opened o z) { local = l; text = text } else record (at_opened o z) { local = l; exit = Some e })
prints_alike o p l z text e n k same =
    ap (λ q. if nat_le (q + n + k) TEXT_LIMIT then record (at_opened p z) { local = l; text = text } else record (at_opened p z) { local = l; exit = Some e }) (sym same) ∙ either (nat_le (o.printed + n + k) TEXT_LIMIT)
  where
    either : (b : Bool) → (if b then record (at_opened p z) { local = l; text = text } else record (at_opened p z) { local = l; exit = Some e })
        ≡ at_opened p (if b then record (at_opened o z) { local = l; text = text } else record (at_opened o z) { local = l; exit = Some e })
    either true = refl
    either false = refl

does_alike : (code : CodeView) (o p : Opened) → OpenedAlike code o p → (ask : Ask) (l : LocalView) (z : RegionState) → region_does code ask l (at_opened p z) ≡ at_opened p (region_does code ask l (at_opened o z))
does_alike code o p alike Goes l z = refl
does_alike code o p alike (Loads a) l z = refl
does_alike code o p alike (Stores a v) l z = refl
does_alike code o p alike (Prints output at) l z = prints_alike o p l z (z.text ++ bytes_of output) (Faulted (fault_at TextFull at)) (length z.text) (length (bytes_of output)) alike.printed
does_alike code o p alike (Faults fault) l z = refl
does_alike code o p alike (Calls f at) l z = refl
does_alike code o p alike (Enters r t) l z = refl
does_alike code o p alike Turns l z =
    let j = (z.iteration + 1) % 2 ^ 64 in
    ap (λ x. record (at_opened p z) { iteration = j; local = x; turns = held (z.turns + 1) }) (sym (alike.begins j))
does_alike code o p alike Leaves l z = refl
does_alike code o p alike (Returns v) l z = refl

wants_alike : (code : CodeView) (o p : Opened) → OpenedAlike code o p → (w : LocalWant) (z : RegionState) → region_want code w (at_opened p z) ≡ at_opened p (region_want code w (at_opened o z))
wants_alike code o p alike LocalStuck z = refl
wants_alike code o p alike (LocalAsks ask l) z = does_alike code o p alike ask l z

exits_alike : (code : CodeView) (o p : Opened) → OpenedAlike code o p → (e : Option Exit) (z : RegionState) → by_exit code e (at_opened p z) ≡ at_opened p (by_exit code e (at_opened o z))
exits_alike code o p alike None z = wants_alike code o p alike (asks_of code z.local) z
exits_alike code o p alike (Some e) z = refl

-- ---- what a region was opened with stays

does_keeps : (code : CodeView) (ask : Ask) (l : LocalView) (z : RegionState) → (region_does code ask l z).opened ≡ z.opened
does_keeps code Goes l z = refl
does_keeps code (Loads a) l z = refl
does_keeps code (Stores a v) l z = refl
does_keeps code (Prints output at) l z = either (nat_le (z.opened.printed + length z.text + length (bytes_of output)) TEXT_LIMIT)
  where
    either : (b : Bool) → (if b then record z { local = l; text = z.text ++ bytes_of output } else record z { local = l; exit = Some (Faulted (fault_at TextFull at)) }).opened ≡ z.opened
    either true = refl
    either false = refl
does_keeps code (Faults fault) l z = refl
does_keeps code (Calls f at) l z = refl
does_keeps code (Enters r t) l z = refl
does_keeps code Turns l z = refl
does_keeps code Leaves l z = refl
does_keeps code (Returns v) l z = refl

wants_keeps : (code : CodeView) (w : LocalWant) (z : RegionState) → (region_want code w z).opened ≡ z.opened
wants_keeps code LocalStuck z = refl
wants_keeps code (LocalAsks ask l) z = does_keeps code ask l z

step_keeps : (code : CodeView) (e : Option Exit) (z : RegionState) → (by_exit code e z).opened ≡ z.opened
step_keeps code None z = wants_keeps code (asks_of code z.local) z
step_keeps code (Some e) z = refl

pub after_keeps : (code : CodeView) (n : ℕ) (z : RegionState) → (region_after code n z).opened ≡ z.opened
after_keeps code zero z = refl
after_keeps code (suc n) z = let y = region_after code n z in step_keeps code y.exit y ∙ after_keeps code n z

-- ---- so both go alike

pub after_alike : (code : CodeView) (o p : Opened) → OpenedAlike code o p → (n : ℕ) (z : RegionState) → z.opened ≡ o → region_after code n (at_opened p z) ≡ at_opened p (region_after code n z)
after_alike code o p alike zero z is = refl
after_alike code o p alike (suc n) z is =
    let y = region_after code n z in
    let kept : y.opened ≡ o = after_keeps code n z ∙ is in
    let same : at_opened o y ≡ y = ap (λ q. at_opened q y) (sym kept) in
    ap (region_step code) (after_alike code o p alike n z is) ∙ exits_alike code o p alike y.exit y ∙ ap (λ x. at_opened p (by_exit code y.exit x)) same

pub opening_alike : (code : CodeView) (o p : Opened) (store : List ℤ) → OpenedAlike code o p → region_opening code p store ≡ at_opened p (region_opening code o store)
opening_alike code o p store alike = ap (λ l. record (region_opening code p store) { local = l }) (sym (alike.begins 0))

-- ---- a region from its entry was opened as its machine opened it

-- the private words that a region names are those of its function
named_below : (code : CodeView) → IsValid code → (r : ℕ) → r < length code.regions → All (λ (c : Carried). c.private < privates_in code r) (region_of code r).carried × All (λ k. k < privates_in code r) (region_of code r).copied × CounterBelow (privates_in code r) (region_of code r).induct
named_below code v r lt =
    let g = region_of code r in
    let at = region_there code r lt in
    let begins = v.regions r g at in
    let spot : Spot = record { function = begins.spot.function; region = Some r; height = 0 } in
    let known = (v.carries r g at).known spot begins.start in
    let same : privates_in code r ≡ privates_of (slice_get code.functions begins.spot.function) = ap (λ s. privates_of (slice_get code.functions (function_in s))) begins.start in
    (subst (λ n. All (λ (c : Carried). c.private < n) g.carried) (sym same) known.carried, subst (λ n. All (λ k. k < n) g.copied) (sym same) known.copied, subst (λ n. CounterBelow n g.induct) (sym same) (counter_in begins.spot.function g.induct known.counter))
  where
    counter_in : (f : ℕ) (c : Option Induct) → IsCounterOrNone code f c → CounterBelow (privates_of (slice_get code.functions f)) c
    counter_in f None h = tt
    counter_in f (Some c) h = h

-- what an entry names, and behind it what it doesn't
split_at : (n : ℕ) (xs words : List ℤ) → xs ≡ take n words → words ≡ xs ++ drop n words
split_at n xs words is = sym (take-append-drop n words) ∙ ap (λ ys. ys ++ drop n words) (sym is)

pub from_entry : (code : CodeView) → IsValid code → (o : Opened) (store : List ℤ) (e : Entry) → IsEntryOf code o store e → EntryFits code o.region e → OpenedAlike code o (opened_from o.region e)
from_entry code v o store e is fits = record {
  region = refl;
  printed = sym is.text;
  begins = λ j. ap (λ b. record { below = b; region = Some o.region; calls = begun g.start (iteration_words g o.words j) ∷ [] }) below ∙ ap (λ ws. record { below = e.depth - 1; region = Some o.region; calls = begun g.start ws ∷ [] }) (words j);
}
  where
    g : RegionView
    g = region_of code o.region

    below : o.below ≡ e.depth - 1
    below = omega (arith, is.depth)

    words : (j : ℕ) → iteration_words g o.words j ≡ iteration_words g (padded e.locals.items) j
    words j =
        let xs = e.locals.items in
        let n = privates_in code o.region in
        let behind = drop n o.words in
        let zeros = replicate (PRIVATE_LIMIT - length xs) (pos 0) in
        let below = named_below code v o.region fits.region in
        let named : All (λ k. k < length xs) g.copied = subst (λ i. All (λ k. k < i) g.copied) (sym fits.locals) below.1 in
        let counts : CounterBelow (length xs) g.induct = subst (λ i. CounterBelow i g.induct) (sym fits.locals) below.2 in
        ap (λ ws. iteration_words g ws j) (split_at n xs o.words is.locals)
        ∙ ap (with_counter g.induct (xs ++ behind) j) (copied_alike g.copied xs behind zeros blank named)
        ∙ counter_reads g.induct xs behind j (copied_words g.copied (xs ++ zeros) blank) counts
        ∙ sym (counter_reads g.induct xs zeros j (copied_words g.copied (xs ++ zeros) blank) counts)

-- ---- and it ends as it ends there

-- private words behind a region, which iteration j ended, those that its entry names before the others
record Behind (code : CodeView) (o : Opened) (e : Entry) (x : Exit) (j : ℕ) (store : List ℤ) : Type 0 where
  named : List ℤ
  alone : words_after code x (opened_from o.region e) j store ≡ named ++ replicate (PRIVATE_LIMIT - length e.locals.items) (pos 0)
  inside : words_after code x o j store ≡ named ++ drop (privates_in code o.region) o.words
  long : length named ≡ length e.locals.items

words_behind : (code : CodeView) → IsValid code → (o : Opened) (first : List ℤ) (e : Entry) → IsEntryOf code o first e → EntryFits code o.region e → (x : Exit) (j : ℕ) (store : List ℤ) → Behind code o e x j store
words_behind code v o first e is fits Left j store = record {
  named = named;
  alone = behind (replicate (PRIVATE_LIMIT - length xs) (pos 0));
  inside = ap (λ ws. with_counter g.induct ws j (from_cells code.globals g.carried store ws)) (split_at n xs o.words is.locals) ∙ behind (drop n o.words);
  long = length-counter g.induct xs j cells ∙ length-from code.globals g.carried store xs;
}
  where
    g : RegionView
    g = region_of code o.region

    n : ℕ
    n = privates_in code o.region

    xs : List ℤ
    xs = e.locals.items

    cells : List ℤ
    cells = from_cells code.globals g.carried store xs

    named : List ℤ
    named = with_counter g.induct xs j cells

    -- with other words behind those that the entry names
    behind : (ys : List ℤ) → with_counter g.induct (xs ++ ys) j (from_cells code.globals g.carried store (xs ++ ys)) ≡ named ++ ys
    behind ys =
        let below = named_below code v o.region fits.region in
        let carried : All (λ (c : Carried). c.private < length xs) g.carried = subst (λ i. All (λ (c : Carried). c.private < i) g.carried) (sym fits.locals) below.0 in
        let counts : CounterBelow (length xs) g.induct = subst (λ i. CounterBelow i g.induct) (sym fits.locals) below.2 in
        let there : CounterBelow (length cells) g.induct = subst (λ i. CounterBelow i g.induct) (sym (length-from code.globals g.carried store xs)) counts in
        ap (with_counter g.induct (xs ++ ys) j) (cells_alike code.globals g.carried store xs ys carried) ∙ counter_reads g.induct xs ys j (cells ++ ys) counts ∙ counter_sets g.induct xs j cells ys there
words_behind code v o first e is fits (Returned r) j store = record { named = e.locals.items; alone = refl; inside = split_at (privates_in code o.region) e.locals.items o.words is.locals; long = refl }
words_behind code v o first e is fits (Faulted f) j store = record { named = e.locals.items; alone = refl; inside = split_at (privates_in code o.region) e.locals.items o.words is.locals; long = refl }

pub words_alike : (code : CodeView) → IsValid code → (o : Opened) (first : List ℤ) (e : Entry) → IsEntryOf code o first e → EntryFits code o.region e → (x : Exit) (j : ℕ) (store locals : List ℤ) → locals ≡ take (length e.locals.items) (words_after code x (opened_from o.region e) j store)
    → words_after code x o j store ≡ locals ++ drop (length locals) o.words
words_alike code v o first e is fits x j store locals taken =
    let b = words_behind code v o first e is fits x j store in
    let zeros = replicate (PRIVATE_LIMIT - length e.locals.items) (pos 0) in
    let same : locals ≡ b.named = taken ∙ ap (take (length e.locals.items)) b.alone ∙ ap (λ n. take n (b.named ++ zeros)) (sym b.long) ∙ take-append_seam b.named zeros in
    let count : privates_in code o.region ≡ length b.named = sym fits.locals ∙ sym b.long in
    b.inside ∙ ap (λ n. b.named ++ drop n o.words) count ∙ ap (λ ys. ys ++ drop (length ys) o.words) (sym same)

pub ends_alike : (code : CodeView) → IsValid code → (o : Opened) (first : List ℤ) (e : Entry) → IsEntryOf code o first e → EntryFits code o.region e → (y : RegionState) → y.opened ≡ o → (end : RegionEnd) → IsEndOf code (at_opened (opened_from o.region e) y) (length e.locals.items) end
    → result_of code end.exit y ≡ result_from o end
ends_alike code v o first e is fits y here end ends =
    let words : words_after code end.exit y.opened y.iteration y.store ≡ end.locals.items ++ drop (length end.locals.items) o.words =
    ap (λ q. words_after code end.exit q y.iteration y.store) here ∙ words_alike code v o first e is fits end.exit y.iteration y.store end.locals.items ends.locals in
    let turns : end.counts ≡ region_counts y.turns = ends.counts in
    rw (ends.store, ends.text, turns, words) refl

-- ---- as a region opens

none_of : {A : Type 0} (x : Option A) → is_none x ≡ true → x ≡ None
none_of None is = refl
none_of (Some a) is = absurd cc

same_some : {x y : RegionState} → Some x ≡ Some y → x ≡ y
same_some h = cc

-- the region is at its beginning, and the run goes on
abbrev pub IsOpening : CodeView → Machine → RegionState → Type 0
IsOpening code x z = (z ≡ region_opening code z.opened z.store) × (x.end ≡ None)

not_within : (z : RegionState) (before after : Option RegionState) → before ≡ None → after ≡ before → after ≡ Some z → ⊥
not_within z before after none same some = let no : None ≡ Some z = sym none ∙ sym same ∙ some in absurd cc

opens_does : (code : CodeView) (m : Machine) (z : RegionState) → m.end ≡ None → m.within ≡ None → (ask : Ask) (l : LocalView) → (does code ask l m).within ≡ Some z → IsOpening code (does code ask l m) z
opens_does code m z going none Goes l some = absurd (not_within z m.within _ none refl some)
opens_does code m z going none (Loads a) l some = absurd (not_within z m.within _ none refl some)
opens_does code m z going none (Stores a v) l some = absurd (not_within z m.within _ none refl some)
opens_does code m z going none (Prints output at) l some = absurd (not_within z m.within _ none (either (nat_le (length m.text + length (bytes_of output)) TEXT_LIMIT)) some)
  where
    either : (b : Bool) → (if b then record m { local = l; text = m.text ++ bytes_of output } else record m { local = l; end = Some (Fault (fault_at TextFull at)) }).within ≡ m.within
    either true = refl
    either false = refl
opens_does code m z going none (Faults fault) l some = absurd (not_within z m.within _ none refl some)
opens_does code m z going none (Calls f at) l some = absurd (not_within z m.within _ none refl some)
opens_does code m z going none (Enters r t) l some = (subst (λ x. x ≡ region_opening code x.opened x.store) (same_some some) refl, going)
opens_does code m z going none Turns l some = absurd (not_within z m.within _ none refl some)
opens_does code m z going none Leaves l some = absurd (not_within z m.within _ none refl some)
opens_does code m z going none (Returns v) l some = absurd (not_within z m.within _ none refl some)

opens_want : (code : CodeView) (m : Machine) (z : RegionState) → m.end ≡ None → m.within ≡ None → (w : LocalWant) → (does_want code w m).within ≡ Some z → IsOpening code (does_want code w m) z
opens_want code m z going none LocalStuck some = absurd (not_within z m.within m.within none refl some)
opens_want code m z going none (LocalAsks ask l) some = opens_does code m z going none ask l some

pub opens_well : (code : CodeView) (m : Machine) (z : RegionState) → opens_next code m ≡ true → (machine_step code m).within ≡ Some z → IsOpening code (machine_step code m) z
opens_well code m z opens some = by_end_of m.end refl
  where
    outside : m.within ≡ None
    outside = none_of m.within (sym (ap (λ w. if is_some w then is_none m.within else false) some) ∙ opens)

    by_end_of : (e : Option End) → m.end ≡ e → IsOpening code (machine_step code m) z
    by_end_of (Some e) is =
        let same : machine_step code m ≡ m = ap (λ x. by_end code x m) is in
        absurd (not_within z m.within (machine_step code m).within outside (ap (λ (x : Machine). x.within) same) some)
    by_end_of None is =
        let same : machine_step code m ≡ does_want code (asks_of code m.local) m = ap (λ x. by_end code x m) is ∙ ap (λ w. by_within code w m) outside in
        subst (λ x. IsOpening code x z) (sym same) (opens_want code m z is outside (asks_of code m.local) (ap (λ (x : Machine). x.within) (sym same) ∙ some))

-- ---- together

-- a machine in which a region opens, and the region from its entry
record Opening (code : CodeView) (m : Machine) (o : OpenView) (e : Entry) : Type 0 where
  inside : machine_step code m ≡ in_region (machine_step code m) o.region
  going : (machine_step code m).end ≡ None
  alike : OpenedAlike code o.region.opened (opened_from o.region.opened.region e)
  begins : begun_from code o.region.opened.region e ≡ at_opened (opened_from o.region.opened.region e) o.region

opens_so : (code : CodeView) → IsValid code → (m : Machine) (o : OpenView) (e : Entry) → OpensWith code m o e → Opening code m o e
opens_so code v m o e opens =
    let from = o.region.opened in
    let alone = opened_from from.region e in
    let some : (machine_step code m).within ≡ Some o.region = runs_there (machine_step code m) (whole o) o.region (sym opens.here) refl in
    let well = opens_well code m o.region opens.opens some in
    let same = from_entry code v from o.region.store e opens.shows opens.fits in
    record {
      inside = ap (λ w. record (machine_step code m) { within = w }) some;
      going = well.1;
      alike = same;
      begins = ap (region_opening code alone) opens.shows.store ∙ opening_alike code from alone o.region.store same ∙ ap (at_opened alone) (sym well.0);
    }

-- the region from its entry, after some words
goes_so : (code : CodeView) (m : Machine) (o : OpenView) (e : Entry) → Opening code m o e → (n : ℕ) → region_after code n (begun_from code o.region.opened.region e) ≡ at_opened (opened_from o.region.opened.region e) (region_after code n o.region)
goes_so code m o e so n = ap (region_after code n) so.begins ∙ after_alike code o.region.opened (opened_from o.region.opened.region e) so.alike n o.region refl

-- the machine, after some words behind the one that opened the region
runs_so : (code : CodeView) (m : Machine) (o : OpenView) (e : Entry) → Opening code m o e → (n : ℕ) → machine_after code (suc n) m ≡ machine_after code n (in_region (machine_step code m) o.region)
runs_so code m o e so n =
    let sum : suc zero + n ≡ suc n = omega arith in
    subst (λ k. machine_after code k m ≡ machine_after code n (machine_step code m)) sum (machine_then code (suc zero) n m) ∙ ap (machine_after code n) so.inside

pub regions_go : GoesAlike
regions_go code v m o e n opens none =
    let so = opens_so code v m o e opens in
    let from = o.region.opened in
    let y = region_after code n o.region in
    let going : y.exit ≡ None = ap (λ (z : RegionState). z.exit) (sym (goes_so code m o e so n)) ∙ none in
    let here : (machine_after code (suc n) m).within ≡ Some y = ap (λ (x : Machine). x.within) (runs_so code m o e so n ∙ inside_after code n (machine_step code m) o.region so.going going) in
    let kept : at_opened from y ≡ y = ap (λ q. at_opened q y) (sym (after_keeps code n o.region)) in
    here ∙ ap Some (sym kept) ∙ ap (λ (z : RegionState). Some (at_opened from z)) (sym (goes_so code m o e so n))

resumes_same : (code : CodeView) (r : ℕ) (e : RegionResult) (m : Machine) (w : Option RegionState) → resumed code r e (with_store_of w m) ≡ resumed code r e m
resumes_same code r e m None = refl
resumes_same code r e m (Some z) = refl

ends_so : (code : CodeView) → IsValid code → (m : Machine) (o : OpenView) (e : Entry) → OpensWith code m o e → (k : ℕ) (end : RegionEnd) → (region_after code k (begun_from code o.region.opened.region e)).exit ≡ None
    → IsEndOf code (region_after code (suc k) (begun_from code o.region.opened.region e)) (length e.locals.items) end → resumed code o.region.opened.region (result_from o.region.opened end) (whole o) ≡ machine_after code (suc (suc k)) m
ends_so code v m o e opens k end none ends =
    let so = opens_so code v m o e opens in
    let from = o.region.opened in
    let at = machine_step code m in
    let y = region_after code (suc k) o.region in
    let kept : y.opened ≡ from = after_keeps code (suc k) o.region in
    let end_there = subst (λ z. IsEndOf code z (length e.locals.items) end) (goes_so code m o e so (suc k)) ends in
    let going : (region_after code k o.region).exit ≡ None = ap (λ (z : RegionState). z.exit) (sym (goes_so code m o e so k)) ∙ none in
    let result : result_of code end.exit y ≡ result_from from end = ends_alike code v from o.region.store e opens.shows opens.fits y kept end end_there in
    let over : machine_after code (suc k) (in_region at o.region) ≡ resumed code y.opened.region (result_of code end.exit y) at = inside_ends code k at o.region end.exit so.going going end_there.exit in
    let there : machine_after code (suc (suc k)) m ≡ resumed code from.region (result_from from end) at =
    runs_so code m o e so (suc k) ∙ over ∙ ap (λ (q : Opened). resumed code q.region (result_of code end.exit y) at) kept ∙ ap (λ r. resumed code from.region r at) result in
    ap (resumed code from.region (result_from from end)) opens.here ∙ resumes_same code from.region (result_from from end) at at.within ∙ sym there

pub regions_end : EndsAlike
regions_end code v m o e n end opens before ends =
    let first = begun_from code o.region.opened.region e in
    subst (λ j. IsEndOf code (region_after code j first) (length e.locals.items) end → resumed code o.region.opened.region (result_from o.region.opened end) (whole o) ≡ machine_after code (suc j) m) (sym before.1) (ends_so code v m o e opens before.0 end before.2) ends
