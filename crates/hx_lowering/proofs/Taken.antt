-- What a region takes along of the private words that are declared outside its turns.
use Rattle.std.proofs.Common.{◌≡◌, ℕ, ◌≤◌, ◌<◌, Bool, true, false, List, length, Option, Some, None, ℤ, pos, refl, sym, ap, ◌∙◌, arith, if◌then◌else◌, length-set, get_or-set_other, get_or-set_same}
use Rattle.std.specs.Prelude.{nat_lt, nat_eq, not, ◌&&◌, ◌||◌, option_map, slice_set, slice_index_or}
use Rattle.std.proofs.lemmas.Bool.{lt-ltb, ltb-true}
use Rattle.std.proofs.lemmas.Bool.Decides.{Decides-eqb}
use Rattle.std.proofs.lemmas.List.{length-replicate}
use Rattle.hx_tree.specs.declared.limits.TheConstants.{CELL_LIMIT, PRIVATE_LIMIT}
use Rattle.hx_resolved.specs.Resolved as resolved
use Rattle.hx_resolved.specs.Resolved.{Clauses}
use Rattle.hx_resolved.specs.declared.program.Induct as counted
use Rattle.hx_resolved.specs.Carried.{if_any, any_of, assigns, stmt_assigns, simple_begins, kept_if, induct_of, is_induct, turns_read, turns_assign, turns_declare, is_carried, is_copied, region_of}
use Rattle.hx_code.specs.Local.{blank}
use Rattle.hx_code.specs.declared.table.Induct.{Induct}
use Rattle.hx_code.specs.Region.{copied_words, counter_at, with_counter}
use Rattle.hx_lowering.specs.Lines.{cell_of}
use Rattle.hx_lowering.specs.Draft.{cells_from, counter_of}
use Rattle.hx_lowering.proofs.Ranged.{AreNumbers}
use Rattle.hx_lowering.proofs.Counters.{first_value}
use Rattle.hx_lowering.proofs.Cells.{From, filter_rises, few_pass, carried_found, carried_absent, cell_bounds, length-copied, copied_at}

-- neither read nor assigned in the turns: no word of theirs looks at it
abbrev pub fixed_in : ℕ → (reads writes : ℕ → Bool) → (ℕ → ℤ) → ℕ → Option ℤ
fixed_in low reads writes base k = if nat_lt k low && not (reads k || writes k) then Some (base k) else None

-- read and not assigned: it keeps its value
abbrev pub kept_in : ℕ → (reads writes : ℕ → Bool) → (ℕ → ℤ) → ℕ → Option ℤ
kept_in low reads writes base k = if nat_lt k low && (reads k && not (writes k)) then Some (base k) else None

pub unfixed_read : (low : ℕ) (reads writes : ℕ → Bool) (base : ℕ → ℤ) (k : ℕ) → reads k ≡ true → fixed_in low reads writes base k ≡ None
unfixed_read low reads writes base k e =
    ap (λ r. if nat_lt k low && not (r || writes k) then Some (base k) else None) e ∙ no_and (nat_lt k low) (base k)
  where
    no_and : (b : Bool) (z : ℤ) → (if b && false then Some z else None) ≡ None
    no_and true z = refl
    no_and false z = refl

or_true : (b : Bool) → (b || true) ≡ true
or_true true = refl
or_true false = refl

pub unfixed_write : (low : ℕ) (reads writes : ℕ → Bool) (base : ℕ → ℤ) (k : ℕ) → writes k ≡ true → fixed_in low reads writes base k ≡ None
unfixed_write low reads writes base k e =
    ap (λ r. if nat_lt k low && not r then Some (base k) else None) (ap (λ w. reads k || w) e ∙ or_true (reads k)) ∙ no_and (nat_lt k low) (base k)
  where
    no_and : (b : Bool) (z : ℤ) → (if b && false then Some z else None) ≡ None
    no_and true z = refl
    no_and false z = refl

pub unkept_write : (low : ℕ) (reads writes : ℕ → Bool) (base : ℕ → ℤ) (k : ℕ) → writes k ≡ true → kept_in low reads writes base k ≡ None
unkept_write low reads writes base k e =
    ap (λ w. if nat_lt k low && (reads k && not w) then Some (base k) else None) e ∙ no_and (nat_lt k low) (reads k) (base k)
  where
    no_and : (b c : Bool) (z : ℤ) → (if b && (c && false) then Some z else None) ≡ None
    no_and true true z = refl
    no_and true false z = refl
    no_and false c z = refl

-- words of the turns' own are neither
pub own_unfixed : (low : ℕ) (reads writes : ℕ → Bool) (base : ℕ → ℤ) (k : ℕ) → nat_lt k low ≡ false → fixed_in low reads writes base k ≡ None
own_unfixed low reads writes base k e = ap (λ b. if b && not (reads k || writes k) then Some (base k) else None) e

pub own_unkept : (low : ℕ) (reads writes : ℕ → Bool) (base : ℕ → ℤ) (k : ℕ) → nat_lt k low ≡ false → kept_in low reads writes base k ≡ None
own_unkept low reads writes base k e = ap (λ b. if b && (reads k && not (writes k)) then Some (base k) else None) e

pub is_fixed : (low : ℕ) (reads writes : ℕ → Bool) (base : ℕ → ℤ) (k : ℕ) → k < low → reads k ≡ false → writes k ≡ false → fixed_in low reads writes base k ≡ Some (base k)
is_fixed low reads writes base k lt r w =
    ap (λ b. if b && not (reads k || writes k) then Some (base k) else None) (lt-ltb k low lt)
    ∙ ap (λ x. if not (x || writes k) then Some (base k) else None) r ∙ ap (λ x. if not x then Some (base k) else None) w

pub is_kept : (low : ℕ) (reads writes : ℕ → Bool) (base : ℕ → ℤ) (k : ℕ) → k < low → reads k ≡ true → writes k ≡ false → kept_in low reads writes base k ≡ Some (base k)
is_kept low reads writes base k lt r w =
    ap (λ b. if b && (reads k && not (writes k)) then Some (base k) else None) (lt-ltb k low lt)
    ∙ ap (λ x. if x && not (writes k) then Some (base k) else None) r ∙ ap (λ x. if not x then Some (base k) else None) w

-- what is known of a word that is kept
pub kept_so : (low : ℕ) (reads writes : ℕ → Bool) (base : ℕ → ℤ) (k : ℕ) (z : ℤ) → kept_in low reads writes base k ≡ Some z → (k < low) × (reads k ≡ true) × (writes k ≡ false) × (base k ≡ z)
kept_so low reads writes base k z h = go (nat_lt k low) (reads k) (writes k) refl refl refl h
  where
    go : (a b c : Bool) → nat_lt k low ≡ a → reads k ≡ b → writes k ≡ c → (if a && (b && not c) then Some (base k) else None) ≡ Some z → (k < low) × (reads k ≡ true) × (writes k ≡ false) × (base k ≡ z)
    go true true false x r w h = let same : base k ≡ z = cc in (ltb-true k low x, r, w, same)
    go true true true x r w h = absurd cc
    go true false c x r w h = absurd cc
    go false b c x r w h = absurd cc

-- ---- what changes in the turns, beside the induction local

abbrev pub changed : Clauses → resolved.Stmt → ℕ → Bool
changed cs rb k = turns_assign k cs rb && not (is_induct cs rb k)

both_true : (a b : Bool) → (a && b) ≡ true → (a ≡ true) × (b ≡ true)
both_true true true e = (refl, refl)
both_true true false e = absurd cc
both_true false b e = absurd cc

not_true : (b : Bool) → not b ≡ true → b ≡ false
not_true true e = absurd cc
not_true false e = refl

-- the induction local is what the step counts, and the body doesn't assign it
pub record IsCounted (cs : Clauses) (rb : resolved.Stmt) (k : ℕ) : Type 0 where
  pub it : counted.Induct
  pub counts : cs.counts ≡ Some it
  pub is : induct_of cs rb ≡ Some it
  pub named : nat_eq it.private k ≡ true
  pub unassigned : stmt_assigns it.private rb ≡ false

pub is_counted : (cs : Clauses) (rb : resolved.Stmt) (k : ℕ) → is_induct cs rb k ≡ true → IsCounted cs rb k
is_counted cs rb k e = by_counts cs.counts refl e
  where
    test : counted.Induct → Bool
    test i = any_of (simple_begins i.private) cs.init && not (stmt_assigns i.private rb)

    by_counts : (o : Option counted.Induct) → cs.counts ≡ o → if_any (λ i. nat_eq i.private k) (kept_if (λ i. any_of (simple_begins i.private) cs.init && not (stmt_assigns i.private rb)) o) ≡ true → IsCounted cs rb k
    by_counts None c e = absurd cc
    by_counts (Some i) c e = by_test (any_of (simple_begins i.private) cs.init && not (stmt_assigns i.private rb)) refl e
      where
        by_test : (b : Bool) → (any_of (simple_begins i.private) cs.init && not (stmt_assigns i.private rb)) ≡ b → if_any (λ q. nat_eq q.private k) (if b then Some i else None) ≡ true → IsCounted cs rb k
        by_test false t e = absurd cc
        by_test true t e = record {
          it = i;
          counts = c;
          is = ap (kept_if (λ q. any_of (simple_begins q.private) cs.init && not (stmt_assigns q.private rb))) c ∙ ap (λ b. if b then Some i else None) t;
          named = e;
          unassigned = not_true (stmt_assigns i.private rb) (both_true (any_of (simple_begins i.private) cs.init) (not (stmt_assigns i.private rb)) t).1;
        }

pub changed_by_body : (cs : Clauses) (rb : resolved.Stmt) (k : ℕ) → stmt_assigns k rb ≡ true → changed cs rb k ≡ true
changed_by_body cs rb k e = ap (λ b. (if_any (assigns k) cs.step || b) && not (is_induct cs rb k)) e ∙ ap (λ b. b && not (is_induct cs rb k)) (or_true (if_any (assigns k) cs.step)) ∙ go (is_induct cs rb k) refl
  where
    go : (b : Bool) → is_induct cs rb k ≡ b → not (is_induct cs rb k) ≡ true
    go false i = ap not i
    go true i =
        let c = is_counted cs rb k i in
        let t : true ≡ false = sym e ∙ ap (λ q. stmt_assigns q rb) (sym ((Decides-eqb c.it.private k).0 c.named)) ∙ c.unassigned in
        absurd cc

-- what is assigned and doesn't change is the induction local
pub assigned_unchanged : (cs : Clauses) (rb : resolved.Stmt) (k : ℕ) → turns_assign k cs rb ≡ true → changed cs rb k ≡ false → is_induct cs rb k ≡ true
assigned_unchanged cs rb k a c = go (is_induct cs rb k) refl
  where
    go : (b : Bool) → is_induct cs rb k ≡ b → b ≡ true
    go true i = refl
    go false i = let t : true ≡ false = sym (ap (λ x. x && not (is_induct cs rb k)) a ∙ ap not i) ∙ c in absurd cc

pub unassigned_if : (cs : Clauses) (rb : resolved.Stmt) (k : ℕ) → changed cs rb k ≡ false → is_induct cs rb k ≡ false → turns_assign k cs rb ≡ false
unassigned_if cs rb k c i = go (turns_assign k cs rb) refl
  where
    go : (b : Bool) → turns_assign k cs rb ≡ b → b ≡ false
    go false a = refl
    go true a = let t : true ≡ false = sym (ap (λ x. x && not (is_induct cs rb k)) a ∙ ap not i) ∙ c in absurd cc

pub unassigned_unchanged : (cs : Clauses) (rb : resolved.Stmt) (k : ℕ) → turns_assign k cs rb ≡ false → changed cs rb k ≡ false
unassigned_unchanged cs rb k a = ap (λ x. x && not (is_induct cs rb k)) a

pub changed_is_none : (cs : Clauses) (rb : resolved.Stmt) (k : ℕ) → changed cs rb k ≡ true → is_induct cs rb k ≡ false
changed_is_none cs rb k c = not_true (is_induct cs rb k) (both_true (turns_assign k cs rb) (not (is_induct cs rb k)) c).1

-- what is assigned isn't fixed, where the induction local is read
pub unfixed_assigned : (low : ℕ) (cs : Clauses) (rb : resolved.Stmt) (base : ℕ → ℤ) (k : ℕ) → (is_induct cs rb k ≡ true → turns_read k cs rb ≡ true) → turns_assign k cs rb ≡ true
    → fixed_in low (λ q. turns_read q cs rb) (λ q. changed cs rb q) base k ≡ None
unfixed_assigned low cs rb base k reads_it a = go (changed cs rb k) refl
  where
    go : (b : Bool) → changed cs rb k ≡ b → fixed_in low (λ q. turns_read q cs rb) (λ q. changed cs rb q) base k ≡ None
    go true c = unfixed_write low (λ q. turns_read q cs rb) (λ q. changed cs rb q) base k c
    go false c = unfixed_read low (λ q. turns_read q cs rb) (λ q. changed cs rb q) base k (reads_it (assigned_unchanged cs rb k a c))

-- ---- the counter of a region

abbrev pub counter : Clauses → resolved.Stmt → Option Induct
counter cs rb = option_map counter_of (induct_of cs rb)

-- the private words with which the region opened, with the counter of iteration j
abbrev pub base_at : Clauses → resolved.Stmt → List ℤ → ℕ → ℕ → ℤ
base_at cs rb words j k = slice_index_or (with_counter (counter cs rb) words j words) k (pos 0)

pub length-counter : (o : Option Induct) (words : List ℤ) (j : ℕ) (to : List ℤ) → length (with_counter o words j to) ≡ length to
length-counter None words j to = refl
length-counter (Some c) words j to = length-set to c.private (counter_at c words j)

pub counter_other : (cs : Clauses) (rb : resolved.Stmt) (k : ℕ) (words : List ℤ) (j : ℕ) (to : List ℤ) → is_induct cs rb k ≡ false
    → slice_index_or (with_counter (counter cs rb) words j to) k (pos 0) ≡ slice_index_or to k (pos 0)
counter_other cs rb k words j to e = go (induct_of cs rb) e
  where
    go : (o : Option counted.Induct) → if_any (λ i. nat_eq i.private k) o ≡ false → slice_index_or (with_counter (option_map counter_of o) words j to) k (pos 0) ≡ slice_index_or to k (pos 0)
    go None e = refl
    go (Some i) e = get_or-set_other to i.private k (counter_at (counter_of i) words j) (pos 0) (λ s. (let t : true ≡ false = sym ((Decides-eqb i.private k).1 (sym s)) ∙ e in absurd cc))

pub counter_here : (cs : Clauses) (rb : resolved.Stmt) (k : ℕ) (c : IsCounted cs rb k) (words : List ℤ) (j : ℕ) (to : List ℤ) → k < length to
    → slice_index_or (with_counter (counter cs rb) words j to) k (pos 0) ≡ counter_at (counter_of c.it) words j
counter_here cs rb k c words j to lt =
    let it : c.it.private ≡ k = (Decides-eqb c.it.private k).0 c.named in
    ap (λ o. slice_index_or (with_counter (option_map counter_of o) words j to) k (pos 0)) c.is
    ∙ ap (λ q. slice_index_or (slice_set to c.it.private (counter_at (counter_of c.it) words j)) q (pos 0)) (sym it)
    ∙ get_or-set_same to c.it.private (counter_at (counter_of c.it) words j) (pos 0) (omega (arith, it, lt))

-- the same counter among other words
pub counter_same : (cs : Clauses) (rb : resolved.Stmt) (k : ℕ) (words : List ℤ) (j : ℕ) (to to' : List ℤ) → k < length to → k < length to'
    → (is_induct cs rb k ≡ false → slice_index_or to k (pos 0) ≡ slice_index_or to' k (pos 0))
    → slice_index_or (with_counter (counter cs rb) words j to) k (pos 0) ≡ slice_index_or (with_counter (counter cs rb) words j to') k (pos 0)
counter_same cs rb k words j to to' lt lt' other = go (is_induct cs rb k) refl
  where
    go : (b : Bool) → is_induct cs rb k ≡ b → slice_index_or (with_counter (counter cs rb) words j to) k (pos 0) ≡ slice_index_or (with_counter (counter cs rb) words j to') k (pos 0)
    go false e = counter_other cs rb k words j to e ∙ other e ∙ sym (counter_other cs rb k words j to' e)
    go true e = let c = is_counted cs rb k e in counter_here cs rb k c words j to lt ∙ sym (counter_here cs rb k c words j to' lt')

-- before the first iteration it is what the region found
pub base_first : (cs : Clauses) (rb : resolved.Stmt) (k : ℕ) (words : List ℤ) → AreNumbers words → k < length words → base_at cs rb words 0 k ≡ slice_index_or words k (pos 0)
base_first cs rb k words small lt = go (is_induct cs rb k) refl
  where
    go : (b : Bool) → is_induct cs rb k ≡ b → base_at cs rb words 0 k ≡ slice_index_or words k (pos 0)
    go false e = counter_other cs rb k words 0 words e
    go true e =
        let c = is_counted cs rb k e in
        let it : c.it.private ≡ k = (Decides-eqb c.it.private k).0 c.named in
        counter_here cs rb k c words 0 words lt ∙ first_value (counter_of c.it) words small ∙ ap (λ q. slice_index_or words q (pos 0)) it

pub base_other : (cs : Clauses) (rb : resolved.Stmt) (k : ℕ) (words : List ℤ) (j : ℕ) → is_induct cs rb k ≡ false → base_at cs rb words j k ≡ slice_index_or words k (pos 0)
base_other cs rb k words j e = counter_other cs rb k words j words e

-- ---- the three cases, for the words of a loop with so many private words in its function

module _ (privates low : ℕ) (cs : Clauses) (rb : resolved.Stmt) (few : privates ≤ PRIVATE_LIMIT) (below : low ≤ privates) (declares : (k : ℕ) → k < low → turns_declare k rb ≡ false) where
  abbrev pub reads : ℕ → Bool
  reads k = turns_read k cs rb

  abbrev pub writes : ℕ → Bool
  writes k = changed cs rb k

  abbrev pub carried : List ℕ
  carried = (region_of privates cs rb).carried

  abbrev pub copied : List ℕ
  copied = (region_of privates cs rb).copied

  carries_it : (k : ℕ) → k < low → writes k ≡ true → is_carried cs rb k ≡ true
  carries_it k lt w = ap (λ d. not d && turns_assign k cs rb && not (is_induct cs rb k)) (declares k lt) ∙ w

  and_none : (b c d : Bool) → (c && d) ≡ false → (b && c && d) ≡ false
  and_none true c d e = e
  and_none false c d e = refl

  pub in_cell : (k : ℕ) → k < low → writes k ≡ true → (c : ℕ) × (cell_of (cells_from carried 0) k ≡ Some c)
  in_cell k lt w = let f = carried_found (is_carried cs rb) k 0 privates 0 (carries_it k lt w) (omega arith) (omega arith) in (f.0, f.3)

  pub in_none : (k : ℕ) → writes k ≡ false → cell_of (cells_from carried 0) k ≡ None
  in_none k w = carried_absent (is_carried cs rb) k 0 privates 0 (and_none (not (turns_declare k rb)) (turns_assign k cs rb) (not (is_induct cs rb k)) w)

  pub few_cells : length carried ≤ PRIVATE_LIMIT
  few_cells = let le = few_pass (is_carried cs rb) 0 privates in omega arith

  pub small_cell : (k c : ℕ) → cell_of (cells_from carried 0) k ≡ Some c → c < CELL_LIMIT
  small_cell k c h = let b = cell_bounds carried k 0 c h in let high = b.1 in let le = few_cells in omega arith

  pub rises : From 0 carried
  rises = filter_rises (is_carried cs rb) 0 privates

  long : (ps : List ℤ) → length (copied_words copied ps blank) ≡ PRIVATE_LIMIT
  long ps = length-copied copied ps blank ∙ length-replicate PRIVATE_LIMIT (pos 0)

  -- an iteration begins with the copied words and the counter
  pub begins_with : (k : ℕ) → k < low → reads k ≡ true → writes k ≡ false → (ps : List ℤ) → length ps ≡ PRIVATE_LIMIT → (j : ℕ)
      → slice_index_or (with_counter (counter cs rb) ps j (copied_words copied ps blank)) k (pos 0) ≡ base_at cs rb ps j k
  begins_with k lt r w ps full j =
      let l = long ps in
      counter_same cs rb k ps j (copied_words copied ps blank) ps (omega (arith, l)) (omega (arith, full))
      (λ i. (let w' = unassigned_if cs rb k w i in
      let is : is_copied cs rb k ≡ true =
      ap (λ d. not d && turns_read k cs rb && not (turns_assign k cs rb) && not (is_induct cs rb k)) (declares k lt)
      ∙ ap (λ x. x && not (turns_assign k cs rb) && not (is_induct cs rb k)) r
      ∙ ap (λ x. not x && not (is_induct cs rb k)) w' ∙ ap not i in
      copied_at (is_copied cs rb) k 0 privates ps blank is (omega arith) (omega arith) (omega (arith, length-replicate PRIVATE_LIMIT (pos 0)))))
