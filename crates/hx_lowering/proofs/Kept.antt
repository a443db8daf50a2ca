-- Each word keeps a machine's numbers of 32 bits, where the constants of its code are.
use Rattle.std.proofs.Common.{◌≡◌, ℕ, zero, suc, ◌+◌, ◌%◌, ◌^◌, Bool, true, false, List, [], ◌∷◌, ◌++◌, length, Option, Some, None, ℤ, pos, w32, refl, if◌then◌else◌}
use Rattle.std.specs.Prelude.{nat_le, slice_set, slice_get, slice_index_or}
use Rattle.std.proofs.lemmas.Int.{SFits-int_wrap}
use Rattle.hx_tree.specs.declared.token.Pos.{Pos}
use Rattle.hx_tree.specs.declared.limits.TheConstants.{CALL_LIMIT, PRIVATE_LIMIT, TEXT_LIMIT}
use Rattle.hx_tree.specs.declared.outcome.FaultKind.{FaultKind}
use Rattle.hx_tree.specs.declared.outcome.FaultKind.TheVariants.{ZeroDivisor, IndexOutOfRange, CallTooDeep, TextFull}
use Rattle.hx_tree.specs.declared.outcome.End.{End}
use Rattle.hx_tree.specs.declared.outcome.End.TheVariants as end
use Rattle.hx_tree.specs.Numbers.{is_zero, operator_value}
use Rattle.hx_code.specs.declared.word.Word.{Word}
use Rattle.hx_code.specs.declared.word.Word.TheVariants.{Const, Priv, SetPriv, Glob, SetGlob, Elem, SetElem, Dup, Drop, Unary, Binary, Jump, JumpFalse, JumpTrue, Call, Ret, Print, Emit, Enter, Turn, Leave}
use Rattle.hx_code.specs.declared.word.Ask.{Ask}
use Rattle.hx_code.specs.declared.word.Ask.TheVariants.{Goes, Loads, Stores, Prints, Faults, Calls, Enters, Turns, Leaves, Returns}
use Rattle.hx_code.specs.declared.word.Exit.{Exit}
use Rattle.hx_code.specs.declared.word.Exit.TheVariants.{Left, Returned, Faulted}
use Rattle.hx_code.specs.declared.table.Carried.{Carried}
use Rattle.hx_code.specs.declared.table.Induct.{Induct}
use Rattle.hx_code.specs.Code.{CodeView, FuncView, RegionView, region_of}
use Rattle.hx_code.specs.Call.{CallView, Want, Asks, Stuck, next_with, on_top, on_two, or_fault, at_index, fault_at, bytes_of, wants, wants_of, wants_at}
use Rattle.hx_code.specs.Local.{LocalView, LocalWant, LocalAsks, LocalStuck, with_calls, blank, with_arguments, opened, loaded_on, depth, called, returned, entered, asked_by, by_want, by_calls, asks_of}
use Rattle.hx_code.specs.Region.{copied_words, into_cells, from_cells, with_counter, iteration_words, RegionState, region_does, region_prints, region_want, by_exit, region_step, words_after, held}
use Rattle.hx_code.specs.Machine.{Machine, innermost_words, opens, left_to, returns, goes_behind, region_next, prints, does, does_want, by_within, by_end, machine_step, machine_after}
use Rattle.hx_lowering.proofs.Ranged.{IsNumber, AreNumbers, IfNumber, unary_number, operator_number, number_at, numbers_set, numbers_drop, zeros, InCall, InCalls, InExit, InRegion, WithinIt, HasNumbers}

-- ---- one word

abbrev pub IsSmall : Word → Type 0
IsSmall (Const z) = IsNumber z
IsSmall _ = Unit {0}

-- what is asked with a number
abbrev InAsk : Ask → Type 0
InAsk (Stores a v) = IsNumber v
InAsk (Returns v) = IsNumber v
InAsk _ = Unit {0}

abbrev InWant : Want → Type 0
InWant Stuck = Unit {0}
InWant (Asks ask d) = InAsk ask × InCall d

on_top_in : (os : List ℤ) (go : ℤ → List ℤ → Want) → AreNumbers os → ((v : ℤ) (rest : List ℤ) → IsNumber v → AreNumbers rest → InWant (go v rest)) → InWant (on_top os go)
on_top_in [] go i f = tt
on_top_in (v ∷ rest) go i f = f v rest i.0 i.1

on_two_in : (os : List ℤ) (go : ℤ → ℤ → List ℤ → Want) → AreNumbers os → ((x y : ℤ) (rest : List ℤ) → IsNumber x → IsNumber y → AreNumbers rest → InWant (go x y rest)) → InWant (on_two os go)
on_two_in [] go i f = tt
on_two_in (y ∷ []) go i f = tt
on_two_in (y ∷ x ∷ rest) go i f = f x y rest i.1.0 i.0 i.1.1

or_fault_in : {A : Type 0} (kind : FaultKind) (place : Pos) (c : CallView) (o : Option A) (go : A → Want) → InCall c → ((a : A) → InWant (go a)) → InWant (or_fault kind place c o go)
or_fault_in kind place c None go i f = (tt, i)
or_fault_in kind place c (Some a) go i f = f a

value_in : (place : Pos) (c : CallView) (o : Option ℤ) (rest : List ℤ) → InCall c → AreNumbers rest → IfNumber o → InWant (or_fault ZeroDivisor place c o (λ v. Asks Goes (next_with c (v ∷ rest))))
value_in place c None rest i r n = (tt, i)
value_in place c (Some v) rest i r n = (tt, (i.0, (n, r)))

either : (b : Bool) (x y : Want) → InWant x → InWant y → InWant (if b then x else y)
either true x y f g = f
either false x y f g = g

wants_in : (w : Word) (c : CallView) → IsSmall w → InCall c → InWant (wants w c)
wants_in (Const n) c s i = (tt, (i.0, (s, i.1)))
wants_in (Priv k) c s i = (tt, (i.0, (number_at c.privates k i.0, i.1)))
wants_in (SetPriv k) c s i = on_top_in c.operands _ i.1 (λ v rest n r. (tt, (numbers_set c.privates k v i.0 n, r)))
wants_in (Glob a) c s i = (tt, i)
wants_in (SetGlob a) c s i = on_top_in c.operands _ i.1 (λ v rest n r. (n, (i.0, r)))
wants_in (Elem a at) c s i = on_top_in c.operands _ i.1 (λ v rest n r. or_fault_in IndexOutOfRange at c (at_index v a.length) _ i (λ k. (tt, (i.0, r))))
wants_in (SetElem a at) c s i = on_two_in c.operands _ i.1 (λ x y rest n m r. or_fault_in IndexOutOfRange at c (at_index x a.length) _ i (λ k. (m, (i.0, r))))
wants_in Dup c s i = on_top_in c.operands _ i.1 (λ v rest n r. (tt, (i.0, (n, (n, r)))))
wants_in Drop c s i = on_top_in c.operands _ i.1 (λ v rest n r. (tt, (i.0, r)))
wants_in (Unary o) c s i = on_top_in c.operands _ i.1 (λ v rest n r. (tt, (i.0, (unary_number o v n, r))))
wants_in (Binary o at) c s i = on_two_in c.operands _ i.1 (λ x y rest n m r. value_in at c (operator_value o x y) rest i r (operator_number o x y n m))
wants_in (Jump t) c s i = (tt, i)
wants_in (JumpFalse t) c s i = on_top_in c.operands _ i.1 (λ v rest n r. either (is_zero v) _ _ (tt, (i.0, r)) (tt, (i.0, r)))
wants_in (JumpTrue t) c s i = on_top_in c.operands _ i.1 (λ v rest n r. either (is_zero v) _ _ (tt, (i.0, r)) (tt, (i.0, r)))
wants_in (Call f at) c s i = (tt, i)
wants_in Ret c s i = on_top_in c.operands _ i.1 (λ v rest n r. (n, i))
wants_in (Print at) c s i = on_top_in c.operands _ i.1 (λ v rest n r. (tt, (i.0, r)))
wants_in (Emit at) c s i = on_top_in c.operands _ i.1 (λ v rest n r. (tt, (i.0, r)))
wants_in (Enter r t) c s i = (tt, i)
wants_in Turn c s i = (tt, i)
wants_in Leave c s i = (tt, i)

-- each constant of the code is a number
abbrev pub CodeIsSmall : CodeView → Type 0
CodeIsSmall code = (p : ℕ) (w : Word) → slice_get code.words p ≡ Some w → IsSmall w

wants_at_in : (code : CodeView) → CodeIsSmall code → (c : CallView) → InCall c → InWant (wants_at code c)
wants_at_in code small c i = go (slice_get code.words c.place) refl
  where
    go : (o : Option Word) → slice_get code.words c.place ≡ o → InWant (wants_of o c)
    go None e = tt
    go (Some w) e = wants_in w c (small c.place w e) i

-- ---- calls

abbrev InLocal : LocalWant → Type 0
InLocal LocalStuck = Unit {0}
InLocal (LocalAsks ask l) = InAsk ask × InCalls l.calls

arguments_in : (n : ℕ) (os ps : List ℤ) → AreNumbers os → AreNumbers ps → AreNumbers (with_arguments n os ps)
arguments_in zero os ps o p = p
arguments_in (suc n) [] ps o p = p
arguments_in (suc n) (v ∷ os) ps o p = arguments_in n os (slice_set ps n v) o.1 (numbers_set ps n v p o.0)

loaded_in : (v : ℤ) (cs : List CallView) → IsNumber v → InCalls cs → InCalls (loaded_on v cs)
loaded_in v [] n i = tt
loaded_in v (c ∷ rest) n i = ((i.0.0, (n, i.0.1)), i.1)

called_in : (o : Option FuncView) (at : Pos) (l : LocalView) (d : CallView) (rest : List CallView) → InCall d → InCalls rest → InLocal (called o at (with_calls l (d ∷ rest)))
called_in None at l d rest i j = tt
called_in (Some g) at l d rest i j = go (nat_le CALL_LIMIT (depth (with_calls l (d ∷ rest))))
  where
    go : (b : Bool) → InLocal (if b then LocalAsks (Faults (fault_at CallTooDeep at)) (with_calls l (d ∷ rest)) else LocalAsks Goes (with_calls l (opened g (d ∷ rest))))
    go true = (tt, (i, j))
    go false = (tt, ((arguments_in g.parameters d.operands blank i.1 (zeros PRIVATE_LIMIT), tt), ((i.0, numbers_drop g.parameters d.operands i.1), j)))

returned_in : (v : ℤ) (l : LocalView) (d : CallView) (rest : List CallView) → IsNumber v → InCall d → InCalls rest → InLocal (returned v (with_calls l (d ∷ rest)) rest)
returned_in v l d [] n i j = (n, (i, j))
returned_in v l d (c ∷ rest) n i j = (tt, loaded_in v (c ∷ rest) n j)

entered_in : (o : Option ℕ) (r t : ℕ) (l : LocalView) (d : CallView) (rest : List CallView) → InCall d → InCalls rest → InLocal (entered o r t (with_calls l (d ∷ rest)))
entered_in None r t l d rest i j = (tt, (i, j))
entered_in (Some q) r t l d rest i j = (tt, (i, j))

asked_in : (code : CodeView) (ask : Ask) (l : LocalView) (d : CallView) (rest : List CallView) → InAsk ask → InCall d → InCalls rest → InLocal (asked_by code ask (with_calls l (d ∷ rest)) rest)
asked_in code (Calls f at) l d rest a i j = called_in (slice_get code.functions f) at l d rest i j
asked_in code (Returns v) l d rest a i j = returned_in v l d rest a i j
asked_in code (Enters r t) l d rest a i j = entered_in l.region r t l d rest i j
asked_in code Goes l d rest a i j = (tt, (i, j))
asked_in code (Loads k) l d rest a i j = (tt, (i, j))
asked_in code (Stores k v) l d rest a i j = (a, (i, j))
asked_in code (Prints output at) l d rest a i j = (tt, (i, j))
asked_in code (Faults fault) l d rest a i j = (tt, (i, j))
asked_in code Turns l d rest a i j = (tt, (i, j))
asked_in code Leaves l d rest a i j = (tt, (i, j))

asks_in : (code : CodeView) → CodeIsSmall code → (l : LocalView) → InCalls l.calls → InLocal (asks_of code l)
asks_in code small l i = go l.calls i
  where
    by_wanted : (w : Want) (rest : List CallView) → InWant w → InCalls rest → InLocal (by_want code l rest w)
    by_wanted Stuck rest f j = tt
    by_wanted (Asks ask d) rest f j = asked_in code ask l d rest f.0 f.1 j

    go : (cs : List CallView) → InCalls cs → InLocal (by_calls code l cs)
    go [] i = tt
    go (c ∷ rest) i = by_wanted (wants_at code c) rest (wants_at_in code small c i.0) i.1

-- ---- regions

copied_in : (ks : List ℕ) (from to : List ℤ) → AreNumbers from → AreNumbers to → AreNumbers (copied_words ks from to)
copied_in [] from to f t = t
copied_in (k ∷ ks) from to f t = copied_in ks from (slice_set to k (slice_index_or from k (pos 0))) f (numbers_set to k _ t (number_at from k f))

cells_in : (g : ℕ) (cs : List Carried) (words store : List ℤ) → AreNumbers words → AreNumbers store → AreNumbers (into_cells g cs words store)
cells_in g [] words store w s = s
cells_in g (c ∷ cs) words store w s = cells_in g cs words (slice_set store (g + c.cell) (slice_index_or words c.private (pos 0))) w (numbers_set store (g + c.cell) _ s (number_at words c.private w))

cells_out : (g : ℕ) (cs : List Carried) (store words : List ℤ) → AreNumbers store → AreNumbers words → AreNumbers (from_cells g cs store words)
cells_out g [] store words s w = w
cells_out g (c ∷ cs) store words s w = cells_out g cs store (slice_set words c.private (slice_index_or store (g + c.cell) (pos 0))) s (numbers_set words c.private _ w (number_at store (g + c.cell) s))

counter_in : (o : Option Induct) (words : List ℤ) (j : ℕ) (to : List ℤ) → AreNumbers to → AreNumbers (with_counter o words j to)
counter_in None words j to t = t
counter_in (Some c) words j to t = numbers_set to c.private _ t (SFits-int_wrap w32 _)

iteration_in : (g : RegionView) (words : List ℤ) (j : ℕ) → AreNumbers words → AreNumbers (iteration_words g words j)
iteration_in g words j w = counter_in g.induct words j (copied_words g.copied words blank) (copied_in g.copied words blank w (zeros PRIVATE_LIMIT))

region_prints_in : (bytes : List ℕ) (at : Pos) (l : LocalView) (z : RegionState) → InCalls l.calls → InRegion z → InRegion (region_prints bytes at l z)
region_prints_in bytes at l z c i = go (nat_le (z.opened.printed + length z.text + length bytes) TEXT_LIMIT)
  where
    go : (b : Bool) → InRegion (if b then record z { local = l; text = z.text ++ bytes } else record z { local = l; exit = Some (Faulted (fault_at TextFull at)) })
    go true = (i.0, c, i.2, i.3)
    go false = (i.0, c, i.2, tt)

region_does_in : (code : CodeView) (ask : Ask) (l : LocalView) (z : RegionState) → InAsk ask → InCalls l.calls → InRegion z → InRegion (region_does code ask l z)
region_does_in code Goes l z a c i = (i.0, c, i.2, i.3)
region_does_in code (Loads k) l z a c i = (i.0, loaded_in _ l.calls (number_at z.store k i.0) c, i.2, i.3)
region_does_in code (Stores k v) l z a c i = (numbers_set z.store k v i.0 a, c, i.2, i.3)
region_does_in code (Prints output at) l z a c i = region_prints_in (bytes_of output) at l z c i
region_does_in code (Faults fault) l z a c i = (i.0, c, i.2, tt)
region_does_in code (Calls f at) l z a c i = (i.0, c, i.2, i.3)
region_does_in code (Enters r t) l z a c i = (i.0, c, i.2, i.3)
region_does_in code Turns l z a c i = (i.0, ((iteration_in (region_of code z.opened.region) z.opened.words ((z.iteration + 1) % 2 ^ 64) i.2, tt), tt), i.2, i.3)
region_does_in code Leaves l z a c i = (i.0, c, i.2, tt)
region_does_in code (Returns v) l z a c i = (i.0, c, i.2, a)

region_step_in : (code : CodeView) → CodeIsSmall code → (z : RegionState) → InRegion z → InRegion (region_step code z)
region_step_in code small z i = go z.exit
  where
    by_wanted : (w : LocalWant) → InLocal w → InRegion (region_want code w z)
    by_wanted LocalStuck f = i
    by_wanted (LocalAsks ask l) f = region_does_in code ask l z f.0 f.1 i

    go : (o : Option Exit) → InRegion (by_exit code o z)
    go None = by_wanted (asks_of code z.local) (asks_in code small z.local i.1)
    go (Some e) = i

-- ---- the machine

innermost_in : (cs : List CallView) → InCalls cs → AreNumbers (innermost_words cs)
innermost_in [] i = tt
innermost_in (c ∷ rest) i = i.0.0

opens_in : (code : CodeView) (r : ℕ) (l : LocalView) (m : Machine) → InCalls l.calls → HasNumbers m → HasNumbers (opens code r l m)
opens_in code r l m c h =
    let words = innermost_in l.calls c in
    record {
      store = h.store;
      calls = c;
      within = (
        cells_in code.globals (region_of code r).carried (innermost_words l.calls) m.store words h.store,
        ((iteration_in (region_of code r) (innermost_words l.calls) 0 words, tt), tt),
        words,
        tt,
      );
    }

prints_in : (bytes : List ℕ) (at : Pos) (l : LocalView) (m : Machine) → InCalls l.calls → HasNumbers m → HasNumbers (prints bytes at l m)
prints_in bytes at l m c h = go (nat_le (length m.text + length bytes) TEXT_LIMIT)
  where
    go : (b : Bool) → HasNumbers (if b then record m { local = l; text = m.text ++ bytes } else record m { local = l; end = Some (end.Fault (fault_at TextFull at)) })
    go true = record { store = h.store; calls = c; within = h.within }
    go false = record { store = h.store; calls = c; within = h.within }

does_in : (code : CodeView) (ask : Ask) (l : LocalView) (m : Machine) → InAsk ask → InCalls l.calls → HasNumbers m → HasNumbers (does code ask l m)
does_in code Goes l m a c h = record { store = h.store; calls = c; within = h.within }
does_in code (Loads k) l m a c h = record { store = h.store; calls = loaded_in _ l.calls (number_at m.store k h.store) c; within = h.within }
does_in code (Stores k v) l m a c h = record { store = numbers_set m.store k v h.store a; calls = c; within = h.within }
does_in code (Prints output at) l m a c h = prints_in (bytes_of output) at l m c h
does_in code (Faults fault) l m a c h = record { store = h.store; calls = c; within = h.within }
does_in code (Calls f at) l m a c h = record { store = h.store; calls = c; within = h.within }
does_in code (Enters r t) l m a c h = opens_in code r l m c h
does_in code Turns l m a c h = record { store = h.store; calls = c; within = h.within }
does_in code Leaves l m a c h = record { store = h.store; calls = c; within = h.within }
does_in code (Returns v) l m a c h = record { store = h.store; calls = c; within = h.within }

left_in : (p : ℕ) (words : List ℤ) (cs : List CallView) → AreNumbers words → InCalls cs → InCalls (left_to p words cs)
left_in p words [] w i = tt
left_in p words (c ∷ rest) w i = ((w, i.0.1), i.1)

returns_in : (v : ℤ) (cs : List CallView) (m : Machine) → IsNumber v → InCalls cs → HasNumbers m → HasNumbers (returns v cs m)
returns_in v [] m n i h = record { store = h.store; calls = h.calls; within = h.within }
returns_in v (d ∷ []) m n i h = record { store = h.store; calls = h.calls; within = h.within }
returns_in v (d ∷ c ∷ rest) m n i h = record { store = h.store; calls = loaded_in v (c ∷ rest) n i.1; within = h.within }

behind_in : (code : CodeView) (r : ℕ) (e : Exit) (words : List ℤ) (m : Machine) → InExit (Some e) → AreNumbers words → HasNumbers m → HasNumbers (goes_behind code r e words m)
behind_in code r Left words m x w h = record { store = h.store; calls = left_in (region_of code r).exit words m.local.calls w h.calls; within = h.within }
behind_in code r (Returned v) words m x w h = returns_in v m.local.calls m x h.calls h
behind_in code r (Faulted f) words m x w h = record { store = h.store; calls = h.calls; within = h.within }

words_in : (code : CodeView) (e : Exit) (z : RegionState) → InRegion z → AreNumbers (words_after code e z.opened z.iteration z.store)
words_in code Left z i =
    let g = region_of code z.opened.region in
    counter_in g.induct z.opened.words z.iteration (from_cells code.globals g.carried z.store z.opened.words) (cells_out code.globals g.carried z.store z.opened.words i.0 i.2)
words_in code (Returned v) z i = i.2
words_in code (Faulted f) z i = i.2

next_in : (code : CodeView) (o : Option Exit) (z : RegionState) (m : Machine) → InExit o → InRegion z → HasNumbers m → HasNumbers (region_next code o z m)
next_in code None z m x i h = record { store = h.store; calls = h.calls; within = i }
next_in code (Some e) z m x i h = behind_in code z.opened.region e (words_after code e z.opened z.iteration z.store)
    (record m { store = z.store; text = m.text ++ z.text; turns = held (m.turns + z.turns); regions = held (m.regions + 1); within = None })
    x (words_in code e z i) (record { store = i.0; calls = h.calls; within = tt })

step_in : (code : CodeView) → CodeIsSmall code → (m : Machine) → HasNumbers m → HasNumbers (machine_step code m)
step_in code small m h = by_ended m.end
  where
    by_wanted : (w : LocalWant) → InLocal w → HasNumbers (does_want code w m)
    by_wanted LocalStuck f = h
    by_wanted (LocalAsks ask l) f = does_in code ask l m f.0 f.1 h

    by_region : (o : Option RegionState) → WithinIt o → HasNumbers (by_within code o m)
    by_region None i = by_wanted (asks_of code m.local) (asks_in code small m.local h.calls)
    by_region (Some z) i = let y = region_step_in code small z i in next_in code (region_step code z).exit (region_step code z) m y.3 y h

    by_ended : (o : Option End) → HasNumbers (by_end code o m)
    by_ended None = by_region m.within h.within
    by_ended (Some e) = h

-- however many words follow
pub stays_so : (code : CodeView) → CodeIsSmall code → (m : Machine) → HasNumbers m → (n : ℕ) → HasNumbers (machine_after code n m)
stays_so code small m h zero = h
stays_so code small m h (suc n) = step_in code small (machine_after code n m) (stays_so code small m h n)
