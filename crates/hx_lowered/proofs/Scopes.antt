-- The locals that are known at a place of an accepted program, by their names and by their private words.
use Rattle.std.proofs.Common.{◌≡◌, ℕ, suc, ◌+◌, ◌≤◌, ◌<◌, Bool, true, false, List, [], ◌∷◌, length, Option, Some, None, refl, sym, ap, subst, ◌∙◌, arith, if◌then◌else◌}
use Rattle.std.specs.Prelude.{bytes_eq, is_some}
use Rattle.hx_tree.specs.Tree.{Name, LocalDecl, Init, NoInit, InitLocals, InitAssign}
use Rattle.hx_tree.specs.World.{look_up, first_of}
use Rattle.hx_tree.specs.Meaning.{texts_of}
use Rattle.hx_tree.specs.Accepted.{Kind, IntKind, Surroundings, is_local, with_name, with_local, with_locals, after_init, kind_of, init_locals}
use Rattle.hx_resolved.specs.Symbols.{Scopes, private_word, with_word, with_words, words_after_init, numbered}
use Rattle.hx_lowering.proofs.Names.{names_in, names_of, is_its}

-- the names of the surroundings are those of the scopes, whose private words are below n
pub record Here (n : ℕ) (locals : List (List (List ℕ))) (scopes : Scopes) : Type 0 where
  pub names : locals ≡ names_of scopes
  pub below : (x : List ℕ) (k : ℕ) → private_word scopes x ≡ Some k → k < n

pub here_scope : (n : ℕ) (locals : List (List (List ℕ))) (scopes : Scopes) → Here n locals scopes → Here n ([] ∷ locals) ([] ∷ scopes)
here_scope n locals scopes h = record { names = ap (λ ls. [] ∷ ls) h.names; below = h.below }

pub here_with : (n : ℕ) (locals : List (List (List ℕ))) (scopes : Scopes) (x : Name) (k : ℕ) → Here n locals scopes → k < n → Here n (with_name x locals) (with_word scopes x.text k)
here_with n locals scopes x k h lt = record { names = ap (with_name x) h.names ∙ same scopes; below = go scopes h.below }
  where
    same : (scopes : Scopes) → with_name x (names_of scopes) ≡ names_of (with_word scopes x.text k)
    same [] = refl
    same (scope ∷ outer) = refl

    go : (scopes : Scopes) → ((y : List ℕ) (j : ℕ) → private_word scopes y ≡ Some j → j < n) → (y : List ℕ) (j : ℕ) → private_word (with_word scopes x.text k) y ≡ Some j → j < n
    go [] below y j e = absurd cc
    go (scope ∷ outer) below y j e = pick (bytes_eq x.text y) e
      where
        pick : (b : Bool) → first_of (if b then Some k else look_up scope y) (private_word outer y) ≡ Some j → j < n
        pick true e = let is : k ≡ j = cc in subst (λ i. i < n) is lt
        pick false e = below y j e

pub here_locals : (n : ℕ) (ds : List LocalDecl) (here : Surroundings) (scopes : Scopes) (k : ℕ) → Here n here.locals scopes → k + length ds ≤ n
    → Here n (with_locals ds here).locals (with_words ds scopes k)
here_locals n [] here scopes k h le = h
here_locals n (d ∷ ds) here scopes k h le =
    here_locals n ds (with_local d here) (with_word scopes d.name.text k) (k + 1) (here_with n here.locals scopes d.name k h (low (length ds) le)) (next (length ds) le)
  where
    low : (l : ℕ) → k + suc l ≤ n → k < n
    low l le = omega arith

    next : (l : ℕ) → k + suc l ≤ n → k + 1 + l ≤ n
    next l le = omega arith

pub here_init : (n : ℕ) (i : Init) (here : Surroundings) (scopes : Scopes) (k : ℕ) → Here n here.locals scopes → k + init_locals i ≤ n
    → Here n (after_init i here).locals (words_after_init i scopes k)
here_init n NoInit here scopes k h le = h
here_init n (InitLocals ds) here scopes k h le = here_locals n ds here scopes k h le
here_init n (InitAssign a) here scopes k h le = h

pub same_globals : (ds : List LocalDecl) (here : Surroundings) → (with_locals ds here).globals ≡ here.globals
same_globals [] here = refl
same_globals (d ∷ ds) here = same_globals ds (with_local d here)

pub globals_after : (i : Init) (here : Surroundings) → (after_init i here).globals ≡ here.globals
globals_after NoInit here = refl
globals_after (InitLocals ds) here = same_globals ds here
globals_after (InitAssign a) here = refl

pub same_loop : (ds : List LocalDecl) (here : Surroundings) → (with_locals ds here).in_loop ≡ here.in_loop
same_loop [] here = refl
same_loop (d ∷ ds) here = same_loop ds (with_local d here)

-- the parameters of a function
pub here_parameters : (xs : List Name) (n : ℕ) → length xs ≤ n → Here n (texts_of xs ∷ []) (numbered xs 0 ∷ [])
here_parameters xs n le = record { names = ap (λ ns. ns ∷ []) (texts xs 0); below = λ x k e. omega (arith, low xs 0 x k (first (look_up (numbered xs 0) x) e)) }
  where
    texts : (xs : List Name) (k : ℕ) → texts_of xs ≡ names_in (numbered xs k)
    texts [] k = refl
    texts (x ∷ xs) k = ap (λ rest. x.text ∷ rest) (texts xs (k + 1))

    first : {k : ℕ} (o : Option ℕ) → first_of o None ≡ Some k → o ≡ Some k
    first (Some j) e = e
    first None e = e

    low : (xs : List Name) (from : ℕ) (x : List ℕ) (k : ℕ) → look_up (numbered xs from) x ≡ Some k → k < from + length xs
    low [] from x k e = absurd cc
    low (y ∷ xs) from x k e = pick (λ h. low xs (from + 1) x k h) (bytes_eq y.text x) e
      where
        here : (l : ℕ) → from ≡ k → k < from + suc l
        here l e = omega arith

        later : (l : ℕ) → k < from + 1 + l → k < from + suc l
        later l e = omega arith

        pick : (look_up (numbered xs (from + 1)) x ≡ Some k → k < from + 1 + length xs) → (b : Bool) → (if b then Some from else look_up (numbered xs (from + 1)) x) ≡ Some k → k < from + suc (length xs)
        pick next true e = let is : from ≡ k = cc in here (length xs) is
        pick next false e = later (length xs) (next e)

-- ---- what a name is where it stands

kind_is : (n : ℕ) (here : Surroundings) (scopes : Scopes) (x : Name) (o : Option ℕ) → Here n here.locals scopes → private_word scopes x.text ≡ o
    → kind_of x here ≡ (if is_some o then Some IntKind else look_up here.globals x.text)
kind_is n here scopes x o h e =
    ap (λ ls. if is_local x.text ls then Some IntKind else look_up here.globals x.text) h.names
    ∙ ap (λ b. if b then Some IntKind else look_up here.globals x.text) (is_its scopes x.text ∙ ap is_some e)

-- an int that is no local is a global int
pub global_kind : (n : ℕ) (here : Surroundings) (scopes : Scopes) (x : Name) → Here n here.locals scopes → private_word scopes x.text ≡ None → kind_of x here ≡ look_up here.globals x.text
global_kind n here scopes x h e = kind_is n here scopes x None h e

-- a name that is no int is no local
pub other_kind : (n : ℕ) (here : Surroundings) (scopes : Scopes) (x : Name) (kind : Kind) → Here n here.locals scopes → kind_of x here ≡ Some kind → (Some IntKind ≡ Some kind → ⊥)
    → look_up here.globals x.text ≡ Some kind
other_kind n here scopes x kind h e apart = go (private_word scopes x.text) refl
  where
    go : (o : Option ℕ) → private_word scopes x.text ≡ o → look_up here.globals x.text ≡ Some kind
    go (Some j) is = absurd (apart (sym (kind_is n here scopes x (Some j) h is) ∙ e))
    go None is = sym (kind_is n here scopes x None h is) ∙ e
