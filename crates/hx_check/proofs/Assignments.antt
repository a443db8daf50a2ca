-- The checks of assignments and declarations are right exactly where they are accepted, and give them resolved.
use Rattle.std.proofs.Common.{◌≡◌, ℕ, ◌+◌, ◌<◌, ◌≤◌, Bool, true, false, List, [], ◌∷◌, ◌++◌, length, refl, ap, sym, ◌∙◌, subst, append_assoc, append-nil, add-zero, arith}
use Rattle.std.specs.Prelude.{Option, Some, None, Ok, nat_lt, option_map}
use Rattle.std.proofs.lemmas.Bool.{lt-ltb}
use Rattle.hx_tree.specs.declared.limits.TheConstants.{PRIVATE_LIMIT}
use Rattle.hx_tree.specs.declared.token.Pos.{Pos}
use Rattle.hx_tree.specs.declared.tree.Returns.{Returns}
use Rattle.hx_tree.specs.declared.tree.Returns.TheVariants as returns
use Rattle.hx_tree.specs.Tree as tree
use Rattle.hx_tree.specs.World.{Map, look_up}
use Rattle.hx_tree.specs.Accepted.{Surroundings, AcceptsExpr, AcceptsPlace, AcceptsAssignment, AcceptsLocals, AcceptsInit, AcceptsReturn, IfThere, IsNew, with_name, with_local, with_locals, after_init, init_locals}
use Rattle.hx_check.specs.declared.error.CheckError.{CheckError}
use Rattle.hx_check.specs.declared.here.Here.{Here}
use Rattle.hx_resolved.specs.declared.symbol.Symbol.{Symbol}
use Rattle.hx_resolved.specs.Resolved.{Expr, Place, Assignment, Simple, Declare, Assign}
use Rattle.hx_resolved.specs.Symbols.{Known, Scopes, private_word, with_word, with_words, words_after_init, is_in_scope}
use Rattle.hx_resolved.specs.Resolve.{resolve_expr, resolve_place, resolve_assignment, resolve_locals, resolve_init, expr_or_zero}
use Rattle.hx_check.specs.Reading.{unless, check_expr, check_place, check_assignment, check_or_zero, check_test, check_step, check_array, check_new, declare, check_locals, check_init, check_return}
use Rattle.hx_check.proofs.Steps.{bind_ok, bind_at, if_at, else_ok, else_at, same_ok}
use Rattle.hx_check.proofs.WhatIsNamed.{surroundings, kinds, texts, is_among_is, kind_is, int_written, int_known, array_at, array_known}
use Rattle.hx_check.proofs.Expressions.{complete, sound}

-- ---- places and assignments

pub complete_place : (p : tree.Place) (symbols : Map Symbol) (here : Here) (scopes : Scopes) → AcceptsPlace p (surroundings symbols here scopes) → check_place p symbols scopes ≡ Ok (resolve_place p symbols scopes)
complete_place (tree.ToVariable x) symbols here scopes h =
    int_written x (private_word scopes x.text) (look_up symbols x.text) (sym (kind_is x symbols here scopes) ∙ h)
complete_place (tree.ToElement x e) symbols here scopes h =
    bind_at _ _ _ _ (array_at x (private_word scopes x.text) (look_up symbols x.text) (sym (kind_is x symbols here scopes) ∙ h.0))
    (bind_at _ _ _ _ (complete e symbols here scopes h.1) refl)

pub sound_place : (p : tree.Place) (symbols : Map Symbol) (here : Here) (scopes : Scopes) (r : Place) → check_place p symbols scopes ≡ Ok r → AcceptsPlace p (surroundings symbols here scopes)
sound_place (tree.ToVariable x) symbols here scopes r h =
    kind_is x symbols here scopes ∙ int_known x (private_word scopes x.text) (look_up symbols x.text) _ r h
sound_place (tree.ToElement x e) symbols here scopes r h =
    let a = bind_ok (check_array x symbols scopes) _ r h in
    let b = bind_ok (check_expr e symbols scopes) _ r a.2 in
    (kind_is x symbols here scopes ∙ array_known x (private_word scopes x.text) (look_up symbols x.text) a.0 a.1, sound e symbols here scopes b.0 b.1)

pub complete_assignment : (a : tree.Assignment) (symbols : Map Symbol) (here : Here) (scopes : Scopes) → AcceptsAssignment a (surroundings symbols here scopes) → check_assignment a symbols scopes ≡ Ok (resolve_assignment a symbols scopes)
complete_assignment (tree.Set p e) symbols here scopes h =
    bind_at _ _ _ _ (complete_place p symbols here scopes h.0) (bind_at _ _ _ _ (complete e symbols here scopes h.1) refl)
complete_assignment (tree.Update p op pos e) symbols here scopes h =
    bind_at _ _ _ _ (complete_place p symbols here scopes h.0) (bind_at _ _ _ _ (complete e symbols here scopes h.1) refl)
complete_assignment (tree.Increment p) symbols here scopes h = bind_at _ _ _ _ (complete_place p symbols here scopes h) refl
complete_assignment (tree.Decrement p) symbols here scopes h = bind_at _ _ _ _ (complete_place p symbols here scopes h) refl

pub sound_assignment : (a : tree.Assignment) (symbols : Map Symbol) (here : Here) (scopes : Scopes) (r : Assignment) → check_assignment a symbols scopes ≡ Ok r → AcceptsAssignment a (surroundings symbols here scopes)
sound_assignment (tree.Set p e) symbols here scopes r h =
    let a = bind_ok (check_place p symbols scopes) _ r h in
    let b = bind_ok (check_expr e symbols scopes) _ r a.2 in
    (sound_place p symbols here scopes a.0 a.1, sound e symbols here scopes b.0 b.1)
sound_assignment (tree.Update p op pos e) symbols here scopes r h =
    let a = bind_ok (check_place p symbols scopes) _ r h in
    let b = bind_ok (check_expr e symbols scopes) _ r a.2 in
    (sound_place p symbols here scopes a.0 a.1, sound e symbols here scopes b.0 b.1)
sound_assignment (tree.Increment p) symbols here scopes r h =
    let a = bind_ok (check_place p symbols scopes) _ r h in sound_place p symbols here scopes a.0 a.1
sound_assignment (tree.Decrement p) symbols here scopes r h =
    let a = bind_ok (check_place p symbols scopes) _ r h in sound_place p symbols here scopes a.0 a.1

-- ---- what may be absent

pub complete_or_zero : (e : Option tree.Expr) (symbols : Map Symbol) (here : Here) (scopes : Scopes) → IfThere AcceptsExpr e (surroundings symbols here scopes) → check_or_zero e symbols scopes ≡ Ok (expr_or_zero e symbols scopes)
complete_or_zero None symbols here scopes h = refl
complete_or_zero (Some e) symbols here scopes h = complete e symbols here scopes h

pub sound_or_zero : (e : Option tree.Expr) (symbols : Map Symbol) (here : Here) (scopes : Scopes) (r : Expr) → check_or_zero e symbols scopes ≡ Ok r → IfThere AcceptsExpr e (surroundings symbols here scopes)
sound_or_zero None symbols here scopes r h = tt
sound_or_zero (Some e) symbols here scopes r h = sound e symbols here scopes r h

pub complete_test : (e : Option tree.Expr) (symbols : Map Symbol) (here : Here) (scopes : Scopes) → IfThere AcceptsExpr e (surroundings symbols here scopes) → check_test e symbols scopes ≡ Ok (option_map (λ e'. resolve_expr e' symbols scopes) e)
complete_test None symbols here scopes h = refl
complete_test (Some e) symbols here scopes h = bind_at _ _ _ _ (complete e symbols here scopes h) refl

pub sound_test : (e : Option tree.Expr) (symbols : Map Symbol) (here : Here) (scopes : Scopes) (r : Option Expr) → check_test e symbols scopes ≡ Ok r → IfThere AcceptsExpr e (surroundings symbols here scopes)
sound_test None symbols here scopes r h = tt
sound_test (Some e) symbols here scopes r h = let a = bind_ok (check_expr e symbols scopes) _ r h in sound e symbols here scopes a.0 a.1

pub complete_step : (a : Option tree.Assignment) (symbols : Map Symbol) (here : Here) (scopes : Scopes) → IfThere AcceptsAssignment a (surroundings symbols here scopes) → check_step a symbols scopes ≡ Ok (option_map (λ a'. resolve_assignment a' symbols scopes) a)
complete_step None symbols here scopes h = refl
complete_step (Some a) symbols here scopes h = bind_at _ _ _ _ (complete_assignment a symbols here scopes h) refl

pub sound_step : (a : Option tree.Assignment) (symbols : Map Symbol) (here : Here) (scopes : Scopes) (r : Option Assignment) → check_step a symbols scopes ≡ Ok r → IfThere AcceptsAssignment a (surroundings symbols here scopes)
sound_step None symbols here scopes r h = tt
sound_step (Some a) symbols here scopes r h = let b = bind_ok (check_assignment a symbols scopes) _ r h in sound_assignment a symbols here scopes b.0 b.1

pub complete_return : (pos : Pos) (r : Returns) (e : Option tree.Expr) (symbols : Map Symbol) (here : Here) (scopes : Scopes) → AcceptsReturn r e (surroundings symbols here scopes) → check_return pos r e symbols scopes ≡ Ok (expr_or_zero e symbols scopes)
complete_return pos returns.Int None symbols here scopes h = absurd h
complete_return pos returns.Int (Some e) symbols here scopes h = complete e symbols here scopes h
complete_return pos returns.Void None symbols here scopes h = refl
complete_return pos returns.Void (Some e) symbols here scopes h = absurd h

pub sound_return : (pos : Pos) (r : Returns) (e : Option tree.Expr) (symbols : Map Symbol) (here : Here) (scopes : Scopes) (v : Expr) → check_return pos r e symbols scopes ≡ Ok v → AcceptsReturn r e (surroundings symbols here scopes)
sound_return pos returns.Int None symbols here scopes v h = cc
sound_return pos returns.Int (Some e) symbols here scopes v h = sound e symbols here scopes v h
sound_return pos returns.Void None symbols here scopes v h = tt
sound_return pos returns.Void (Some e) symbols here scopes v h = cc

pub unless_ok : (b : Bool) (e : CheckError) (u : Unit {0}) → unless b e ≡ Ok u → b ≡ true
unless_ok true e u h = refl
unless_ok false e u h = cc

pub unless_at : (b : Bool) (e : CheckError) → b ≡ true → unless b e ≡ Ok tt
unless_at b e h = ap (λ b'. unless b' e) h

-- ---- declarations

-- what is known after so many further locals
abbrev pub at : Scopes → ℕ → Known
at scopes k = record { scopes = scopes; next = k }

texts_with : (scopes : Scopes) (x : tree.Name) (k : ℕ) → with_name x (texts scopes) ≡ texts (with_word scopes x.text k)
texts_with [] x k = refl
texts_with (scope ∷ outer) x k = refl

abbrev placed : Map Symbol → Here → List (List (List ℕ)) → Surroundings
placed symbols here locals = record { globals = kinds symbols; locals = locals; returns = here.returns; in_loop = here.in_loop }

pub with_local_is : (d : tree.LocalDecl) (symbols : Map Symbol) (here : Here) (scopes : Scopes) (k : ℕ) → with_local d (surroundings symbols here scopes) ≡ surroundings symbols here (with_word scopes d.name.text k)
with_local_is d symbols here scopes k = ap (placed symbols here) (texts_with scopes d.name k)

pub with_locals_is : (ds : List tree.LocalDecl) (symbols : Map Symbol) (here : Here) (scopes : Scopes) (k : ℕ) → with_locals ds (surroundings symbols here scopes) ≡ surroundings symbols here (with_words ds scopes k)
with_locals_is [] symbols here scopes k = refl
with_locals_is (d ∷ ds) symbols here scopes k =
    ap (with_locals ds) (with_local_is d symbols here scopes k) ∙ with_locals_is ds symbols here (with_word scopes d.name.text k) (k + 1)

pub after_init_is : (i : tree.Init) (symbols : Map Symbol) (here : Here) (scopes : Scopes) (k : ℕ) → after_init i (surroundings symbols here scopes) ≡ surroundings symbols here (words_after_init i scopes k)
after_init_is tree.NoInit symbols here scopes k = refl
after_init_is (tree.InitLocals ds) symbols here scopes k = with_locals_is ds symbols here scopes k
after_init_is (tree.InitAssign a) symbols here scopes k = refl

new_at : (x : tree.Name) (scopes : Scopes) → IsNew x (texts scopes) → is_in_scope x.text scopes ≡ false
new_at x [] h = refl
new_at x (scope ∷ outer) h = sym (is_among_is x.text scope) ∙ h

new_known : (x : tree.Name) (scopes : Scopes) → is_in_scope x.text scopes ≡ false → IsNew x (texts scopes)
new_known x [] h = tt
new_known x (scope ∷ outer) h = is_among_is x.text scope ∙ h

pub complete_new : (x : tree.Name) (known : Known) → IsNew x (texts known.scopes) → check_new x known ≡ Ok tt
complete_new x known h = else_at (is_in_scope x.text known.scopes) _ _ (new_at x known.scopes h)

pub sound_new : (x : tree.Name) (known : Known) (u : Unit {0}) → check_new x known ≡ Ok u → IsNew x (texts known.scopes)
sound_new x known u h = new_known x known.scopes (else_ok (is_in_scope x.text known.scopes) _ _ u h).0

pub declare_at : (x : tree.Name) (scopes : Scopes) (k : ℕ) → k < PRIVATE_LIMIT → declare x (at scopes k) ≡ Ok (k, at (with_word scopes x.text k) (k + 1))
declare_at x scopes k h = if_at (nat_lt k PRIVATE_LIMIT) _ _ (lt-ltb k PRIVATE_LIMIT h)

pub complete_locals : (ds : List tree.LocalDecl) (symbols : Map Symbol) (here : Here) (scopes : Scopes) (k : ℕ) (done : List Simple) → k + length ds ≤ PRIVATE_LIMIT → AcceptsLocals ds (surroundings symbols here scopes) → check_locals ds symbols (at scopes k) done ≡ Ok (done ++ resolve_locals ds symbols scopes k, at (with_words ds scopes k) (k + length ds))
complete_locals [] symbols here scopes k done room h =
    ap (λ l. Ok (l, at scopes k)) (sym (append-nil done)) ∙ ap (λ n. Ok (done ++ [], at scopes n)) (sym (add-zero k))
complete_locals (d ∷ ds) symbols here scopes k done room h =
    let next = Declare k (expr_or_zero d.init symbols scopes) in
    let rest = subst (λ (s : Surroundings). AcceptsLocals ds s) (with_local_is d symbols here scopes k) h.2 in
    let count : (k + 1) + length ds ≡ k + length (d ∷ ds) = omega arith in
    bind_at _ _ _ _ (complete_new d.name (at scopes k) h.1)
    (bind_at _ _ _ _ (complete_or_zero d.init symbols here scopes h.0)
    (bind_at _ _ _ _ (declare_at d.name scopes k (omega arith))
    (complete_locals ds symbols here (with_word scopes d.name.text k) (k + 1) (done ++ next ∷ []) (omega arith) rest
    ∙ ap (λ l. Ok (l, at (with_words (d ∷ ds) scopes k) ((k + 1) + length ds))) (append_assoc done (next ∷ []) (resolve_locals ds symbols (with_word scopes d.name.text k) (k + 1)))
    ∙ ap (λ n. Ok (done ++ resolve_locals (d ∷ ds) symbols scopes k, at (with_words (d ∷ ds) scopes k) n)) count)))

pub sound_locals : (ds : List tree.LocalDecl) (symbols : Map Symbol) (here : Here) (scopes : Scopes) (k : ℕ) (done : List Simple) (r : List Simple × Known) → k + length ds ≤ PRIVATE_LIMIT → check_locals ds symbols (at scopes k) done ≡ Ok r → AcceptsLocals ds (surroundings symbols here scopes)
sound_locals [] symbols here scopes k done r room h = tt
sound_locals (d ∷ ds) symbols here scopes k done r room h =
    let a = bind_ok (check_new d.name (at scopes k)) _ r h in
    let b = bind_ok (check_or_zero d.init symbols scopes) _ r a.2 in
    let c = bind_ok (declare d.name (at scopes k)) _ r b.2 in
    let same = same_ok (declare d.name (at scopes k)) c.0 (k, at (with_word scopes d.name.text k) (k + 1)) c.1 (declare_at d.name scopes k (omega arith)) in
    let go = subst (λ (p : ℕ × Known). check_locals ds symbols p.1 (done ++ Declare p.0 b.0 ∷ []) ≡ Ok r) same c.2 in
    let rest = sound_locals ds symbols here (with_word scopes d.name.text k) (k + 1) (done ++ Declare k b.0 ∷ []) r (omega arith) go in (
      sound_or_zero d.init symbols here scopes b.0 b.1,
      sound_new d.name (at scopes k) a.0 a.1,
      subst (λ (s : Surroundings). AcceptsLocals ds s) (sym (with_local_is d symbols here scopes k)) rest,
    )

pub complete_init : (i : tree.Init) (symbols : Map Symbol) (here : Here) (scopes : Scopes) (k : ℕ) → k + init_locals i ≤ PRIVATE_LIMIT → AcceptsInit i (surroundings symbols here scopes) → check_init i symbols (at scopes k) ≡ Ok (resolve_init i symbols scopes k, at (words_after_init i scopes k) (k + init_locals i))
complete_init tree.NoInit symbols here scopes k room h = ap (λ n. Ok ([], at scopes n)) (sym (add-zero k))
complete_init (tree.InitLocals ds) symbols here scopes k room h = complete_locals ds symbols here scopes k [] room h
complete_init (tree.InitAssign a) symbols here scopes k room h =
    bind_at _ _ _ _ (complete_assignment a symbols here scopes h)
    (ap (λ n. Ok (Assign (resolve_assignment a symbols scopes) ∷ [], at scopes n)) (sym (add-zero k)))

pub sound_init : (i : tree.Init) (symbols : Map Symbol) (here : Here) (scopes : Scopes) (k : ℕ) (r : List Simple × Known) → k + init_locals i ≤ PRIVATE_LIMIT → check_init i symbols (at scopes k) ≡ Ok r → AcceptsInit i (surroundings symbols here scopes)
sound_init tree.NoInit symbols here scopes k r room h = tt
sound_init (tree.InitLocals ds) symbols here scopes k r room h = sound_locals ds symbols here scopes k [] r room h
sound_init (tree.InitAssign a) symbols here scopes k r room h =
    let b = bind_ok (check_assignment a symbols scopes) _ r h in sound_assignment a symbols here scopes b.0 b.1
