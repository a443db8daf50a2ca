-- The checks of functions are right exactly where they are accepted, and give them resolved.
use Rattle.std.proofs.Common.{◌≡◌, ℕ, ◌+◌, ◌≤◌, false, List, [], ◌∷◌, length, refl, ap, sym, subst}
use Rattle.std.specs.Prelude.{Ok, nat_le}
use Rattle.std.proofs.lemmas.Bool.{leb-true, le-leb}
use Rattle.hx_tree.specs.declared.limits.TheConstants.{PARAMETER_LIMIT, PRIVATE_LIMIT, OPERAND_LIMIT}
use Rattle.hx_tree.specs.Tree as tree
use Rattle.hx_tree.specs.World.{Map}
use Rattle.hx_tree.specs.Meaning.{texts_of}
use Rattle.hx_tree.specs.Need.{function_need}
use Rattle.hx_tree.specs.Accepted.{Surroundings, AcceptsParts, AcceptsFunction, at_start, private_words}
use Rattle.hx_check.specs.declared.error.CheckError.{CheckError}
use Rattle.hx_check.specs.declared.error.CheckError.TheVariants.{LimitPassed}
use Rattle.hx_check.specs.declared.here.Here.{Here}
use Rattle.hx_resolved.specs.declared.symbol.Symbol.{Symbol}
use Rattle.hx_resolved.specs.Resolved.{Function}
use Rattle.hx_resolved.specs.Symbols.{Scopes, numbered}
use Rattle.hx_resolved.specs.Resolve.{resolve_function, resolve_parts}
use Rattle.hx_check.specs.Reading.{limited, check_distinct, check_parts, check_function, with_parameters}
use Rattle.hx_check.proofs.Steps.{bind_ok, bind_at, if_ok, if_at, same_ok}
use Rattle.hx_check.proofs.WhatIsNamed.{surroundings, kinds, texts_in}
use Rattle.hx_check.proofs.Distinct.{distinct_of, fresh_of, complete_distinct, sound_distinct}
use Rattle.hx_check.proofs.Statements.{complete_parts, sound_parts, stmts-list, around}

pub limited_at : (n limit : ℕ) (e : CheckError) → n ≤ limit → limited n limit e ≡ Ok n
limited_at n limit e h = if_at (nat_le n limit) _ _ (le-leb n limit h)

pub limited_ok : (n limit : ℕ) (e : CheckError) (m : ℕ) → limited n limit e ≡ Ok m → (n ≤ limit) × (m ≡ n)
limited_ok n limit e m h =
    let a = if_ok (nat_le n limit) (Ok n) e m h in
    (leb-true n limit a.0, sym (same_ok (Ok n) n m refl a.1))

texts_numbered : (xs : List tree.Name) (k : ℕ) → texts_of xs ≡ texts_in (numbered xs k)
texts_numbered [] k = refl
texts_numbered (x ∷ xs) k = ap (λ l. x.text ∷ l) (texts_numbered xs (k + 1))

-- where the body of a function stands
abbrev pub here_in : tree.Func → Here
here_in f = record { returns = f.returns; privates = private_words f; in_loop = false; is_marked = false }

abbrev first_scopes : tree.Func → Scopes
first_scopes f = numbered (tree.param_names f.params) 0 ∷ []

starts_so : (symbols : Map Symbol) (f : tree.Func) → at_start (kinds symbols) f ≡ surroundings symbols (here_in f) (first_scopes f)
starts_so symbols f =
    ap (λ l. record { globals = kinds symbols; locals = l ∷ []; returns = f.returns; in_loop = false }) (texts_numbered (tree.param_names f.params) 0)

pub complete_function : (f : tree.Func) (symbols : Map Symbol) → AcceptsFunction (kinds symbols) f → check_function f symbols ≡ Ok (resolve_function symbols f)
complete_function f symbols h =
    let xs = tree.param_names f.params in
    let body : AcceptsParts f.body (surroundings symbols (here_in f) (first_scopes f)) = subst (λ (su : Surroundings). AcceptsParts f.body su) (starts_so symbols f) h.body in
    let few : private_words f ≤ PRIVATE_LIMIT = h.few_private in
    let r = resolve_parts f.body (around symbols (here_in f)) (first_scopes f) (length xs) in
    bind_at _ _ _ _ (limited_at (private_words f) PRIVATE_LIMIT (LimitPassed f.name.pos) few)
    (bind_at _ _ _ _ (limited_at (function_need f) OPERAND_LIMIT (LimitPassed f.name.pos) h.few_operands)
    (bind_at _ _ _ _ (complete_distinct xs [] (fresh_of (texts_of xs) h.distinct))
    (bind_at _ _ _ _ (complete_parts f.body symbols (here_in f) (first_scopes f) (length xs) [] few body)
    (ap (λ b. Ok (record { name = f.name.text; parameters = length xs; privates = private_words f; need = function_need f; body = b })) (stmts-list r)))))

pub sound_function : (f : tree.Func) (symbols : Map Symbol) (r : Function) → length (tree.param_names f.params) ≤ PARAMETER_LIMIT → check_function f symbols ≡ Ok r → AcceptsFunction (kinds symbols) f
sound_function f symbols r few h =
    let xs = tree.param_names f.params in
    let e = LimitPassed f.name.pos in
    let a = bind_ok (limited (private_words f) PRIVATE_LIMIT e) _ r h in
    let b = bind_ok (limited (function_need f) OPERAND_LIMIT e) _ r a.2 in
    let c = bind_ok (check_distinct xs []) _ r b.2 in
    let private = limited_ok (private_words f) PRIVATE_LIMIT e a.0 a.1 in
    let here : ℕ → Here = λ n. record { returns = f.returns; privates = n; in_loop = false; is_marked = false } in
    let d = bind_ok (check_parts f.body symbols (here a.0) (with_parameters xs) []) _ r c.2 in
    let go = subst (λ (n : ℕ). check_parts f.body symbols (here n) (with_parameters xs) [] ≡ Ok d.0) private.1 d.1 in
    let accepted = sound_parts f.body symbols (here_in f) (first_scopes f) (length xs) [] d.0 private.0 go in
    record {
      distinct = distinct_of (texts_of xs) (sound_distinct xs [] c.0 c.1);
      body = subst (λ (su : Surroundings). AcceptsParts f.body su) (sym (starts_so symbols f)) accepted;
      few_params = few;
      few_private = private.0;
      few_operands = (limited_ok (function_need f) OPERAND_LIMIT e b.0 b.1).0;
    }
