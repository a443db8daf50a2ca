-- The checks of expressions are right exactly where they are accepted, and give the resolved expression.
use Rattle.std.proofs.Common.{◌≡◌, true, List, [], ◌∷◌, ◌++◌, refl, ap, sym, ◌∙◌, append_assoc, append-nil}
use Rattle.std.specs.Prelude.{Ok, nat_le}
use Rattle.std.proofs.lemmas.Bool.{leb-true, le-leb}
use Rattle.hx_tree.specs.declared.limits.TheConstants.{CONSTANT_LIMIT}
use Rattle.hx_tree.specs.Tree as tree
use Rattle.hx_tree.specs.World.{Map, look_up}
use Rattle.hx_tree.specs.Accepted.{AcceptsExpr, AcceptsExprs, count}
use Rattle.hx_check.specs.declared.here.Here.{Here}
use Rattle.hx_resolved.specs.declared.symbol.Symbol.{Symbol}
use Rattle.hx_resolved.specs.Resolved.{Expr, Call, Exprs, no_exprs, expr_and, exprs}
use Rattle.hx_resolved.specs.Symbols.{Scopes, private_word}
use Rattle.hx_resolved.specs.Resolve.{resolve_expr, resolve_exprs, function_at}
use Rattle.hx_check.specs.Reading.{check_expr, check_exprs, check_array, check_callee}
use Rattle.hx_check.proofs.Steps.{bind_ok, bind_at, if_ok, if_at}
use Rattle.hx_check.proofs.WhatIsNamed.{surroundings, kind_is, int_read, int_known, array_at, array_known, value_at, value_known}

-- the resolved expressions as a list
abbrev pub list_of : Exprs → List Expr
list_of no_exprs = []
list_of (expr_and e es) = e ∷ list_of es

pub exprs-list : (es : Exprs) → exprs (list_of es) ≡ es
exprs-list no_exprs = refl
exprs-list (expr_and e es) = ap (λ es'. expr_and e es') (exprs-list es)

mutual
  pub complete : (e : tree.Expr) (symbols : Map Symbol) (here : Here) (scopes : Scopes) → AcceptsExpr e (surroundings symbols here scopes) → check_expr e symbols scopes ≡ Ok (resolve_expr e symbols scopes)
  complete (tree.Number n) symbols here scopes h = if_at (nat_le n CONSTANT_LIMIT) _ _ (le-leb n CONSTANT_LIMIT h)
  complete (tree.Variable x) symbols here scopes h =
      int_read x (private_word scopes x.text) (look_up symbols x.text) (sym (kind_is x symbols here scopes) ∙ h)
  complete (tree.Element x e) symbols here scopes h =
      bind_at _ _ _ _ (array_at x (private_word scopes x.text) (look_up symbols x.text) (sym (kind_is x symbols here scopes) ∙ h.0))
      (bind_at _ _ _ _ (complete e symbols here scopes h.1) refl)
  complete (tree.Call f es) symbols here scopes h =
      bind_at _ _ _ _ (value_at f (count es) (private_word scopes f.text) (look_up symbols f.text) (sym (kind_is f symbols here scopes) ∙ h.0))
      (bind_at _ _ _ _ (complete_all es symbols here scopes [] h.1)
      (ap (λ es'. Ok (Call (function_at f symbols) f.pos es')) (exprs-list (resolve_exprs es symbols scopes))))
  complete (tree.Paren e) symbols here scopes h = complete e symbols here scopes h
  complete (tree.Unary op e) symbols here scopes h = bind_at _ _ _ _ (complete e symbols here scopes h) refl
  complete (tree.Binary op pos l r) symbols here scopes h =
      bind_at _ _ _ _ (complete l symbols here scopes h.0) (bind_at _ _ _ _ (complete r symbols here scopes h.1) refl)
  complete (tree.Conditional c a b) symbols here scopes h =
      bind_at _ _ _ _ (complete c symbols here scopes h.0)
      (bind_at _ _ _ _ (complete a symbols here scopes h.1) (bind_at _ _ _ _ (complete b symbols here scopes h.2) refl))

  pub complete_all : (es : tree.Exprs) (symbols : Map Symbol) (here : Here) (scopes : Scopes) (done : List Expr) → AcceptsExprs es (surroundings symbols here scopes) → check_exprs es symbols scopes done ≡ Ok (done ++ list_of (resolve_exprs es symbols scopes))
  complete_all tree.no_exprs symbols here scopes done h = ap (λ l. Ok l) (sym (append-nil done))
  complete_all (tree.expr_and e es) symbols here scopes done h =
      bind_at _ _ _ _ (complete e symbols here scopes h.0)
      (complete_all es symbols here scopes (done ++ resolve_expr e symbols scopes ∷ []) h.1
      ∙ ap (λ l. Ok l) (append_assoc done (resolve_expr e symbols scopes ∷ []) (list_of (resolve_exprs es symbols scopes))))

mutual
  pub sound : (e : tree.Expr) (symbols : Map Symbol) (here : Here) (scopes : Scopes) (r : Expr) → check_expr e symbols scopes ≡ Ok r → AcceptsExpr e (surroundings symbols here scopes)
  sound (tree.Number n) symbols here scopes r h = leb-true n CONSTANT_LIMIT (if_ok (nat_le n CONSTANT_LIMIT) _ _ r h).0
  sound (tree.Variable x) symbols here scopes r h =
      kind_is x symbols here scopes ∙ int_known x (private_word scopes x.text) (look_up symbols x.text) _ r h
  sound (tree.Element x e) symbols here scopes r h =
      let a = bind_ok (check_array x symbols scopes) _ r h in
      let b = bind_ok (check_expr e symbols scopes) _ r a.2 in
      (kind_is x symbols here scopes ∙ array_known x (private_word scopes x.text) (look_up symbols x.text) a.0 a.1, sound e symbols here scopes b.0 b.1)
  sound (tree.Call f es) symbols here scopes r h =
      let a = bind_ok (check_callee true f (count es) symbols scopes) _ r h in
      let b = bind_ok (check_exprs es symbols scopes []) _ r a.2 in
      (kind_is f symbols here scopes ∙ value_known f (count es) (private_word scopes f.text) (look_up symbols f.text) a.0 a.1, sound_all es symbols here scopes [] b.0 b.1)
  sound (tree.Paren e) symbols here scopes r h = sound e symbols here scopes r h
  sound (tree.Unary op e) symbols here scopes r h = let a = bind_ok (check_expr e symbols scopes) _ r h in sound e symbols here scopes a.0 a.1
  sound (tree.Binary op pos l right) symbols here scopes r h =
      let a = bind_ok (check_expr l symbols scopes) _ r h in
      let b = bind_ok (check_expr right symbols scopes) _ r a.2 in
      (sound l symbols here scopes a.0 a.1, sound right symbols here scopes b.0 b.1)
  sound (tree.Conditional test chosen other) symbols here scopes r h =
      let a = bind_ok (check_expr test symbols scopes) _ r h in
      let b = bind_ok (check_expr chosen symbols scopes) _ r a.2 in
      let c = bind_ok (check_expr other symbols scopes) _ r b.2 in
      (sound test symbols here scopes a.0 a.1, sound chosen symbols here scopes b.0 b.1, sound other symbols here scopes c.0 c.1)

  pub sound_all : (es : tree.Exprs) (symbols : Map Symbol) (here : Here) (scopes : Scopes) (done r : List Expr) → check_exprs es symbols scopes done ≡ Ok r → AcceptsExprs es (surroundings symbols here scopes)
  sound_all tree.no_exprs symbols here scopes done r h = tt
  sound_all (tree.expr_and e es) symbols here scopes done r h =
      let a = bind_ok (check_expr e symbols scopes) _ r h in
      (sound e symbols here scopes a.0 a.1, sound_all es symbols here scopes (done ++ a.0 ∷ []) r a.2)
