-- Locals by their names and by their private words.
use Rattle.std.proofs.Common.{◌≡◌, ℕ, ◌+◌, ◌≤◌, ◌<◌, Bool, true, false, List, [], ◌∷◌, length, take, drop, Option, Some, None, ℤ, pos, negsuc, refl, sym, ap, subst, ◌∙◌, arith, if◌then◌else◌}
use Rattle.std.specs.Prelude.{bytes_eq, is_some, option_map, slice_get, slice_index_or, nat_lt}
use Rattle.std.proofs.lemmas.List.{get_or-take, get_or-drop, length-take, length-drop}
use Rattle.std.proofs.lemmas.Option.{slice_get-get_or, slice_get_past}
use Rattle.std.proofs.lemmas.Bool.{ltb-true, ltb-false}
use Rattle.hx_tree.specs.Tree.{Name, Program}
use Rattle.hx_tree.specs.World.{Map, look_up, Environment, local_value, first_of, words_of, word_at}
use Rattle.hx_tree.specs.declared.tree.Returns.{Returns}
use Rattle.hx_tree.specs.Accepted.{IntKind, ArrayKind, FunctionKind, Surroundings, is_among, is_local, kind_of, kinds_of}
use Rattle.hx_resolved.specs.declared.program.Words.{Words}
use Rattle.hx_resolved.specs.Symbols.{Scopes, private_word, symbols_of}
use Rattle.hx_resolved.specs.Resolve.{word_named, words_named, int_word, array_words, or_else, no_words}
use Rattle.hx_code.specs.Call.{at_index}
use Rattle.hx_lowering.proofs.Globals.{Layout, store_from, place_of, words_in, found, lies_in}
use Rattle.hx_lowering.proofs.At.{layout_of}
use Rattle.hx_lowering.proofs.Known.{Agree, agrees}

-- ---- scopes

abbrev pub names_in : Map ℕ → List (List ℕ)
names_in [] = []
names_in ((x, k) ∷ rest) = x ∷ names_in rest

abbrev pub names_of : Scopes → List (List (List ℕ))
names_of [] = []
names_of (scope ∷ outer) = names_in scope ∷ names_of outer

-- the locals, where each private word has a value
abbrev pub values_in : Map ℕ → (ℕ → ℤ) → Map ℤ
values_in [] held = []
values_in ((x, k) ∷ rest) held = (x, held k) ∷ values_in rest held

abbrev pub env_of : Scopes → (ℕ → ℤ) → Environment
env_of [] held = []
env_of (scope ∷ outer) held = values_in scope held ∷ env_of outer held

value_in : (scope : Map ℕ) (held : ℕ → ℤ) (x : List ℕ) → look_up (values_in scope held) x ≡ option_map held (look_up scope x)
value_in [] held x = refl
value_in ((y, k) ∷ rest) held x = go (value_in rest held x) (bytes_eq y x)
  where
    go : look_up (values_in rest held) x ≡ option_map held (look_up rest x) → (b : Bool) → (if b then Some (held k) else look_up (values_in rest held) x) ≡ option_map held (if b then Some k else look_up rest x)
    go next true = refl
    go next false = next

pub value_of : (scopes : Scopes) (held : ℕ → ℤ) (x : List ℕ) → local_value (env_of scopes held) x ≡ option_map held (private_word scopes x)
value_of [] held x = refl
value_of (scope ∷ outer) held x =
    ap (λ o. first_of o (local_value (env_of outer held) x)) (value_in scope held x) ∙ go (value_of outer held x) (look_up scope x)
  where
    go : local_value (env_of outer held) x ≡ option_map held (private_word outer x) → (o : Option ℕ) → first_of (option_map held o) (local_value (env_of outer held) x) ≡ option_map held (first_of o (private_word outer x))
    go next (Some k) = refl
    go next None = next

is_in : (scope : Map ℕ) (x : List ℕ) → is_among x (names_in scope) ≡ is_some (look_up scope x)
is_in [] x = refl
is_in ((y, k) ∷ rest) x = go (is_in rest x) (bytes_eq y x)
  where
    go : is_among x (names_in rest) ≡ is_some (look_up rest x) → (b : Bool) → (if b then true else is_among x (names_in rest)) ≡ is_some (if b then Some k else look_up rest x)
    go next true = refl
    go next false = next

pub is_its : (scopes : Scopes) (x : List ℕ) → is_local x (names_of scopes) ≡ is_some (private_word scopes x)
is_its [] x = refl
is_its (scope ∷ outer) x =
    ap (λ b. if b then true else is_local x (names_of outer)) (is_in scope x) ∙ go (is_its outer x) (look_up scope x)
  where
    go : is_local x (names_of outer) ≡ is_some (private_word outer x) → (o : Option ℕ) → (if is_some o then true else is_local x (names_of outer)) ≡ is_some (first_of o (private_word outer x))
    go next (Some k) = refl
    go next None = next

-- ---- what a name is where it stands

-- the surroundings are those of a program, with these scopes
pub record Around (p : Program) (scopes : Scopes) (here : Surroundings) : Type 0 where
  pub kinds : here.globals ≡ kinds_of p
  pub names : here.locals ≡ names_of scopes

kind_is : (p : Program) (scopes : Scopes) (here : Surroundings) (x : Name) (o : Option ℕ) → Around p scopes here → private_word scopes x.text ≡ o
    → kind_of x here ≡ (if is_some o then Some IntKind else look_up (kinds_of p) x.text)
kind_is p scopes here x o a e =
    ap (λ ks. if is_local x.text here.locals then Some IntKind else look_up ks x.text) a.kinds
    ∙ ap (λ ls. if is_local x.text ls then Some IntKind else look_up (kinds_of p) x.text) a.names
    ∙ ap (λ b. if b then Some IntKind else look_up (kinds_of p) x.text) (is_its scopes x.text ∙ ap is_some e)

-- a global int
pub int_is : (p : Program) (scopes : Scopes) (here : Surroundings) (x : Name) → Around p scopes here → private_word scopes x.text ≡ None → kind_of x here ≡ Some IntKind
    → place_of (layout_of p) 0 x.text ≡ Some (record { base = word_named x (symbols_of p); length = 1 })
int_is p scopes here x a e k =
    let kind : look_up (kinds_of p) x.text ≡ Some IntKind = sym (kind_is p scopes here x None a e) ∙ k in
    let found : Agree (Some IntKind) (look_up (symbols_of p) x.text) (place_of (layout_of p) 0 x.text) = subst (λ o. Agree o (look_up (symbols_of p) x.text) (place_of (layout_of p) 0 x.text)) kind (agrees p x.text) in
    let word : word_named x (symbols_of p) ≡ found.0 = ap (λ s. or_else (int_word s) 0) found.1 in
    found.2 ∙ ap (λ n. Some (record { base = n; length = 1 })) (sym word)

-- an array, which is never a local
pub array_is : (p : Program) (scopes : Scopes) (here : Surroundings) (x : Name) → Around p scopes here → kind_of x here ≡ Some ArrayKind
    → place_of (layout_of p) 0 x.text ≡ Some (words_named x (symbols_of p))
array_is p scopes here x a k = go (private_word scopes x.text) refl
  where
    go : (o : Option ℕ) → private_word scopes x.text ≡ o → place_of (layout_of p) 0 x.text ≡ Some (words_named x (symbols_of p))
    go (Some j) e = let h : Some IntKind ≡ Some ArrayKind = sym (kind_is p scopes here x (Some j) a e) ∙ k in absurd cc
    go None e =
        let kind : look_up (kinds_of p) x.text ≡ Some ArrayKind = sym (kind_is p scopes here x None a e) ∙ k in
        let found : Agree (Some ArrayKind) (look_up (symbols_of p) x.text) (place_of (layout_of p) 0 x.text) = subst (λ o. Agree o (look_up (symbols_of p) x.text) (place_of (layout_of p) 0 x.text)) kind (agrees p x.text) in
        let words : words_named x (symbols_of p) ≡ record { base = found.0; length = found.1 } = ap (λ s. or_else (array_words s) no_words) found.2 in
        found.3 ∙ ap Some (sym words)

-- a function, which is never a local
pub function_here : (p : Program) (scopes : Scopes) (here : Surroundings) (x : Name) (r : Returns) (k : ℕ) → Around p scopes here → kind_of x here ≡ Some (FunctionKind r k)
    → look_up (kinds_of p) x.text ≡ Some (FunctionKind r k)
function_here p scopes here x r n a k = go (private_word scopes x.text) refl
  where
    go : (o : Option ℕ) → private_word scopes x.text ≡ o → look_up (kinds_of p) x.text ≡ Some (FunctionKind r n)
    go (Some j) e = let h : Some IntKind ≡ Some (FunctionKind r n) = sym (kind_is p scopes here x (Some j) a e) ∙ k in absurd cc
    go None e = sym (kind_is p scopes here x None a e) ∙ k

-- ---- words of a global

word_in : (words : List ℤ) (a n i : ℕ) → a + n ≤ length words → slice_get (take n (drop a words)) i ≡ (if nat_lt i n then Some (slice_index_or words (a + i) (pos 0)) else None)
word_in words a n i room = go (nat_lt i n) refl
  where
    len : length (take n (drop a words)) ≡ n
    len = omega (arith, length-take n (drop a words), length-drop a words)

    go : (b : Bool) → nat_lt i n ≡ b → slice_get (take n (drop a words)) i ≡ (if b then Some (slice_index_or words (a + i) (pos 0)) else None)
    go true e =
        let lt = ltb-true i n e in
        let within : i < length (take n (drop a words)) = omega (arith, len, lt) in
        slice_get-get_or (take n (drop a words)) i (pos 0) within
        ∙ ap Some (get_or-take n (drop a words) i (pos 0) lt ∙ get_or-drop a words i (pos 0))
    go false e = let le = ltb-false i n e in slice_get_past (take n (drop a words)) i (omega (arith, len, le))

-- a word of a global at an index, as the words of the machine have it
pub word_of : (lay : Layout) (st : List ℤ) (x : List ℕ) (w : Words) (i : ℤ) → place_of lay 0 x ≡ Some w → words_in lay ≤ length st
    → word_at (words_of (store_from lay 0 st) x) i ≡ option_map (λ k. slice_index_or st (w.base + k) (pos 0)) (at_index i w.length)
word_of lay st x w i h room =
    ap (λ o. word_at (elim o [ Some words ↦ words | None ↦ [] ]) i) (found lay 0 st x w h) ∙ go i
  where
    l : (0 ≤ w.base) × (w.base + w.length ≤ 0 + words_in lay)
    l = lies_in lay 0 x w h

    go : (i : ℤ) → word_at (take w.length (drop w.base st)) i ≡ option_map (λ k. slice_index_or st (w.base + k) (pos 0)) (at_index i w.length)
    go (negsuc i) = refl
    go (pos i) = word_in st w.base w.length i (omega (arith, l.1)) ∙ same (nat_lt i w.length)
      where
        same : (b : Bool) → (if b then Some (slice_index_or st (w.base + i) (pos 0)) else None) ≡ option_map (λ k. slice_index_or st (w.base + k) (pos 0)) (if b then Some i else None)
        same true = refl
        same false = refl
