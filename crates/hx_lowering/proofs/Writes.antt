-- The words of an assignment write where it writes.
use Rattle.std.proofs.Common.{◌≡◌, ℕ, ◌+◌, ◌≤◌, ◌<◌, Bool, true, false, List, [], ◌∷◌, length, take, drop, Option, Some, None, ℤ, pos, negsuc, refl, sym, ap, subst, ◌∙◌, arith, if◌then◌else◌, length-set, get_or-set_other, get_or-set_same}
use Rattle.std.specs.Prelude.{slice_get, slice_set, option_map, nat_lt, bytes_eq}
use Rattle.std.proofs.lemmas.List.{drop-set-lt, drop-set-add, length-drop}
use Rattle.std.proofs.lemmas.Bool.{ltb-true, ltb-false, le-ltb}
use Rattle.hx_tree.specs.declared.limits.TheConstants.{PRIVATE_LIMIT}
use Rattle.hx_tree.specs.declared.outcome.FaultKind.TheVariants.{IndexOutOfRange}
use Rattle.hx_tree.specs.Tree.{Program, Name}
use Rattle.hx_tree.specs.World.{Map, look_up, World, Answer, Run, and_then, ◌>>=◌, or_fault, words_of, with_word, set_word, write_element, replace_store}
use Rattle.hx_resolved.specs.declared.program.Words.{Words}
use Rattle.hx_code.specs.declared.word.Word.{Word}
use Rattle.hx_code.specs.declared.word.Word.TheVariants.{SetPriv, SetGlob, SetElem}
use Rattle.hx_code.specs.declared.word.Ask.TheVariants as ask
use Rattle.hx_code.specs.Code.{CodeView}
use Rattle.hx_code.specs.Call.{or_fault as or_asks, Asks, wants, at_index, fault_at}
use Rattle.hx_code.specs.Machine.{Machine}
use Rattle.hx_lowering.specs.declared.line.Line.{Line}
use Rattle.hx_lowering.specs.Lines.{Version, put, cell_of, set_at, set_private, array_of}
use Rattle.hx_lowering.proofs.Globals.{Layout, store_from, words_in, place_of, found, its_words, lies_in, written, elsewhere_behind}
use Rattle.hx_lowering.proofs.Follow.{Follows}
use Rattle.hx_lowering.proofs.Values.{private_value, value_at}
use Rattle.hx_lowering.proofs.Scene.{Scene, Fair, Holds}
use Rattle.hx_lowering.proofs.Setting.{Ground}
use Rattle.hx_lowering.proofs.Stand.{Has, word_stands, length-put}
use Rattle.hx_lowering.proofs.At.{layout_of, call_at, world_at, At, at_place, roomy, goes_to, stores_to, faults_to}

-- a word that isn't there isn't written
not_written : (store : Map (List ℤ)) (x : List ℕ) (i v : ℤ) → with_word (words_of store x) i v ≡ None → set_word store x i v ≡ None
not_written [] x i v h = refl
not_written ((y, words) ∷ rest) x i v h = go (not_written rest x i v) (bytes_eq y x) h
  where
    go : (with_word (words_of rest x) i v ≡ None → set_word rest x i v ≡ None) → (b : Bool)
        → with_word (elim (if b then Some words else look_up rest x) [ Some ws ↦ ws | None ↦ [] ]) i v ≡ None
        → (if b then option_map (λ words'. (y, words') ∷ rest) (with_word words i v) else option_map (λ rest'. (y, words) ∷ rest') (set_word rest x i v)) ≡ None
    go next true e = ap (option_map (λ words'. (y, words') ∷ rest)) e
    go next false e = ap (option_map (λ rest'. (y, words) ∷ rest')) (next e)

-- a word of a global is written, or isn't there, as the machine has it
pub set_where : (lay : Layout) (st : List ℤ) (x : List ℕ) (ws : Words) (i v : ℤ) → place_of lay 0 x ≡ Some ws → words_in lay ≤ length st
    → set_word (store_from lay 0 st) x i v ≡ option_map (λ k. store_from lay 0 (slice_set st (ws.base + k) v)) (at_index i ws.length)
set_where lay st x ws (negsuc i) v lies room = not_written (store_from lay 0 st) x (negsuc i) v refl
set_where lay st x ws (pos i) v lies room = go (nat_lt i ws.length) refl
  where
    go : (b : Bool) → nat_lt i ws.length ≡ b → set_word (store_from lay 0 st) x (pos i) v ≡ option_map (λ k. store_from lay 0 (slice_set st (ws.base + k) v)) (if b then Some i else None)
    go true e = written lay 0 st x ws i v lies (omega arith) (ltb-true i ws.length e)
    go false e =
        let le = ltb-false i ws.length e in
        let len = its_words lay 0 st x ws lies (omega arith) in
        let past : length (take ws.length (drop ws.base st)) ≤ i = omega (arith, len, le) in
        not_written (store_from lay 0 st) x (pos i) v
        (ap (λ o. with_word (elim o [ Some words ↦ words | None ↦ [] ]) (pos i) v) (found lay 0 st x ws lies)
        ∙ ap (λ b. if b then Some (slice_set (take ws.length (drop ws.base st)) i v) else None) (le-ltb i (length (take ws.length (drop ws.base st))) past))

pub index_below : (i : ℤ) (n k : ℕ) → at_index i n ≡ Some k → k < n
index_below (negsuc i) n k h = absurd cc
index_below (pos i) n k h = go (nat_lt i n) refl h
  where
    go : (b : Bool) → nat_lt i n ≡ b → (if b then Some i else None) ≡ Some k → k < n
    go true e h = let same : i ≡ k = cc in let lt = ltb-true i n e in omega (arith, lt, same)
    go false e h = absurd cc

-- a private word got another value
pub record Changed (s : Scene) (k : ℕ) (z : ℤ) (ps cells ps' cells' : List ℤ) : Type 0 where
  pub here : value_at s.version ps' cells' k ≡ z
  pub others : (j : ℕ) → (j ≡ k → ⊥) → value_at s.version ps cells j ≡ value_at s.version ps' cells' j
  pub holds : Holds s ps' cells'

module _ (p : Program) (code : CodeView) (words : code.globals ≡ words_in (layout_of p)) (s : Scene) (fair : Fair p code s) where
  -- a private word is written, in its place or in its cell
  pub private_written : {A : Type 0} (n h k : ℕ) (z : ℤ) (ps os cells : List ℤ) → Holds s ps cells → s.kept k ≡ None → k < PRIVATE_LIMIT → (w : World) (m : Machine) (lines : List Line) (a : Answer A) (Done : A → World → Machine → Type 0)
      → Has code (put s.version h (set_private s.version k) lines) → At p code s.ground (length lines) ps (z ∷ os) cells w m
      → ((ps' cells' : List ℤ) (m' : Machine) → Changed s k z ps cells ps' cells' → At p code s.ground (length (put s.version h (set_private s.version k) lines)) ps' os cells' w m' → Follows code n m' a Done)
      → Follows code n m a Done
  private_written n h k z ps os cells holds free lt w m lines a Done has at go_on = go (cell_of s.version.carried k) refl has go_on
    where
      unlike : (j : ℕ) (q : ℤ) → s.kept j ≡ Some q → j ≡ k → ⊥
      unlike j q e same = let t : Some q ≡ None = sym e ∙ ap s.kept same ∙ free in absurd cc

      go : (o : Option ℕ) → cell_of s.version.carried k ≡ o → Has code (put s.version h (set_at o s.version.globals k) lines)
          → ((ps' cells' : List ℤ) (m' : Machine) → Changed s k z ps cells ps' cells' → At p code s.ground (length (put s.version h (set_at o s.version.globals k) lines)) ps' os cells' w m' → Follows code n m' a Done)
          → Follows code n m a Done
      go None e has go_on =
          let ps' = slice_set ps k z in
          let long = holds.long in
          let room : k < length ps = omega (arith, long, lt) in
          goes_to p code s.ground n (length lines) (length lines + 1) ps ps' (z ∷ os) os cells w m (SetPriv k) a Done at (word_stands code s.version h (SetPriv k) lines has) refl
          (λ m' at'. go_on ps' cells m'
          (record {
            here = ap (λ o. private_value o ps' cells k) e ∙ get_or-set_same ps k z (pos 0) room;
            others = λ j ne. other (cell_of s.version.carried j) j ne;
            holds = record { long = length-set ps k z ∙ holds.long; keeps = λ j q e'. get_or-set_other ps k j z (pos 0) (unlike j q e') ∙ holds.keeps j q e'; freezes = holds.freezes };
          })
          (at_place p code s.ground (length lines + 1) _ ps' os cells w m' (sym (length-put s.version h (SetPriv k) lines)) at'))
        where
          other : (o : Option ℕ) (j : ℕ) → (j ≡ k → ⊥) → private_value o ps cells j ≡ private_value o (slice_set ps k z) cells j
          other None j ne = sym (get_or-set_other ps k j z (pos 0) ne)
          other (Some c) j ne = refl
      go (Some c) e has go_on =
          let G = words_in (layout_of p) in
          let st = at.memory.store in
          let st' = slice_set st (s.version.globals + c) z in
          let cells' = slice_set cells c z in
          let active = fair.carries k c e in
          let cells_is = at.cells_are active in
          let low = fair.small k c e in
          let room = at.room in
          let many : c < length cells = subst (λ l. c < length l) cells_is (omega (arith, length-drop G st, room, low)) in
          stores_to p code s.ground n (length lines) (length lines + 1) ps (z ∷ os) os cells cells' w w m (SetGlob (s.version.globals + c)) (s.version.globals + c) z a Done at (word_stands code s.version h (SetGlob (s.version.globals + c)) lines has) refl
          (at.world ∙ ap (λ ws. record (world_at p code s.ground at.memory) { store = ws }) (sym (elsewhere_behind (layout_of p) 0 st (s.version.globals + c) z (omega (arith, fair.globals)))))
          (omega (arith, length-set st (s.version.globals + c) z, room))
          (λ a'. ap (λ g. drop G (slice_set st (g + c) z)) fair.globals ∙ drop-set-add G st c z ∙ ap (λ l. slice_set l c z) cells_is)
          (λ m' at'. go_on ps cells' m'
          (record {
            here = ap (λ o. private_value o ps cells' k) e ∙ get_or-set_same cells c z (pos 0) many;
            others = λ j ne. other (cell_of s.version.carried j) j refl ne;
            holds = record { long = holds.long; keeps = holds.keeps; freezes = λ cs e'. (let t : Some c ≡ None = sym e ∙ fair.still cs e' k in absurd cc) };
          })
          (at_place p code s.ground (length lines + 1) _ ps os cells' w m' (sym (length-put s.version h (SetGlob (s.version.globals + c)) lines)) at'))
        where
          other : (o : Option ℕ) → (j : ℕ) → cell_of s.version.carried j ≡ o → (j ≡ k → ⊥) → private_value o ps cells j ≡ private_value o ps (slice_set cells c z) j
          other None j e' ne = refl
          other (Some d) j e' ne = sym (get_or-set_other cells c d z (pos 0) (λ same. ne (fair.apart j k c (e' ∙ ap Some same) e)))

module _ (p : Program) (code : CodeView) (K : Ground) (v : Version) (words : code.globals ≡ words_in (layout_of p)) where
  -- a word of a global, where it is known to be
  stored : {A : Type 0} (n place place' : ℕ) (x : Name) (i z : ℤ) (ws : Words) (ps os os' cells : List ℤ) (w : World) (m : Machine) (word : Word) (f : Unit {0} → Run A) (Done : A → World → Machine → Type 0)
      → place_of (layout_of p) 0 x.text ≡ Some ws
      → (at : At p code K place ps os cells w m) → slice_get code.words place ≡ Some word
      → (k : ℕ) → k < ws.length → wants word (call_at place ps os) ≡ Asks (ask.Stores (ws.base + k) z) (call_at place' ps os')
      → ((w' : World) (m' : Machine) → At p code K place' ps os' cells w' m' → Follows code n m' (f tt w') Done)
      → Follows code n m (f tt (record w { store = store_from (layout_of p) 0 (slice_set at.memory.store (ws.base + k) z) })) Done
  stored n place place' x i z ws ps os os' cells w m word f Done lies at stands k lt asks go_on =
      let inside = lies_in (layout_of p) 0 x.text ws lies in
      let low : ws.base + k < words_in (layout_of p) = omega (arith, inside.1, lt) in
      let st = at.memory.store in
      let w' : World = record w { store = store_from (layout_of p) 0 (slice_set st (ws.base + k) z) } in
      let room = at.room in
      stores_to p code K n place place' ps os os' cells cells w w' m word (ws.base + k) z (f tt w') Done at stands asks
      (ap (λ (u : World). record u { store = store_from (layout_of p) 0 (slice_set st (ws.base + k) z) }) at.world)
      (omega (arith, length-set st (ws.base + k) z, room))
      (λ a. drop-set-lt (words_in (layout_of p)) st (ws.base + k) z low ∙ at.cells_are a)
      (go_on w')

  -- an element of an array is written
  pub element_written : {A : Type 0} (n h : ℕ) (x : Name) (i z : ℤ) (ws : Words) (ps os cells : List ℤ) (w : World) (m : Machine) (lines : List Line) (f : Unit {0} → Run A) (Done : A → World → Machine → Type 0)
      → place_of (layout_of p) 0 x.text ≡ Some ws
      → Has code (put v h (SetElem (array_of ws) x.pos) lines) → At p code K (length lines) ps (z ∷ (i ∷ os)) cells w m
      → ((w' : World) (m' : Machine) → At p code K (length (put v h (SetElem (array_of ws) x.pos) lines)) ps os cells w' m' → Follows code n m' (f tt w') Done)
      → Follows code n m ((write_element x i z >>= f) w) Done
  element_written n h x i z ws ps os cells w m lines f Done lies has at go_on =
      subst (λ o. Follows code n m (and_then (and_then (or_fault IndexOutOfRange x.pos o w) replace_store) f) Done)
      (sym (ap (λ (u : World). set_word u.store x.text i z) at.world ∙ set_where (layout_of p) at.memory.store x.text ws i z lies (roomy p code K _ _ _ _ _ _ at)))
      (go (at_index i ws.length) refl)
    where
      go : (q : Option ℕ) → at_index i ws.length ≡ q
          → Follows code n m (and_then (and_then (or_fault IndexOutOfRange x.pos (option_map (λ k. store_from (layout_of p) 0 (slice_set at.memory.store (ws.base + k) z)) q) w) replace_store) f) Done
      go None e =
          faults_to p code K n (length lines) ps (z ∷ (i ∷ os)) cells w m (SetElem (array_of ws) x.pos) (call_at (length lines) ps (z ∷ (i ∷ os))) (fault_at IndexOutOfRange x.pos) Done words at (word_stands code v h _ lines has)
          (ap (λ q. or_asks IndexOutOfRange x.pos (call_at (length lines) ps (z ∷ (i ∷ os))) q (λ k. Asks (ask.Stores (ws.base + k) z) (call_at (length lines + 1) ps os))) e)
      go (Some k) e =
          stored n (length lines) (length lines + 1) x i z ws ps (z ∷ (i ∷ os)) os cells w m (SetElem (array_of ws) x.pos) f Done lies at (word_stands code v h _ lines has) k (index_below i ws.length k e)
          (ap (λ q. or_asks IndexOutOfRange x.pos (call_at (length lines) ps (z ∷ (i ∷ os))) q (λ k. Asks (ask.Stores (ws.base + k) z) (call_at (length lines + 1) ps os))) e)
          (λ w' m' at'. go_on w' m' (at_place p code K (length lines + 1) _ ps os cells w' m' (sym (length-put v h _ lines)) at'))

  -- a global int is written
  pub word_written : {A : Type 0} (n h : ℕ) (x : Name) (a : ℕ) (z : ℤ) (ps os cells : List ℤ) (w : World) (m : Machine) (lines : List Line) (f : Unit {0} → Run A) (Done : A → World → Machine → Type 0)
      → place_of (layout_of p) 0 x.text ≡ Some (record { base = a; length = 1 })
      → Has code (put v h (SetGlob a) lines) → At p code K (length lines) ps (z ∷ os) cells w m
      → ((w' : World) (m' : Machine) → At p code K (length (put v h (SetGlob a) lines)) ps os cells w' m' → Follows code n m' (f tt w') Done)
      → Follows code n m ((write_element x (pos 0) z >>= f) w) Done
  word_written n h x a z ps os cells w m lines f Done lies has at go_on =
      let same : a ≡ a + 0 = omega arith in
      subst (λ o. Follows code n m (and_then (and_then (or_fault IndexOutOfRange x.pos o w) replace_store) f) Done)
      (sym (ap (λ (u : World). set_word u.store x.text (pos 0) z) at.world ∙ set_where (layout_of p) at.memory.store x.text (record { base = a; length = 1 }) (pos 0) z lies (roomy p code K _ _ _ _ _ _ at)))
      (stored n (length lines) (length lines + 1) x (pos 0) z (record { base = a; length = 1 }) ps (z ∷ os) os cells w m (SetGlob a) f Done lies at (word_stands code v h _ lines has) 0 (omega arith)
      (ap (λ b. Asks (ask.Stores b z) (call_at (length lines + 1) ps os)) same)
      (λ w' m' at'. go_on w' m' (at_place p code K (length lines + 1) _ ps os cells w' m' (sym (length-put v h _ lines)) at')))
