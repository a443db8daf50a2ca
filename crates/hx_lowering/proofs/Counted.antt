-- What the step of a loop does to the local that it counts.
use Rattle.std.proofs.Common.{◌≡◌, ℕ, Bool, true, false, List, Option, Some, None, ℤ, pos, ◌+ℤ◌, refl, sym, ap, subst, ◌∙◌, if◌then◌else◌}
use Rattle.std.specs.Prelude.{nat_le, neg_ℤ, option_map, ◌||◌}
use Rattle.std.proofs.lemmas.Bool.Decides.{Decides-eqb}
use Rattle.hx_tree.specs.declared.limits.TheConstants.{CONSTANT_LIMIT}
use Rattle.hx_tree.specs.declared.token.Pos.{Pos}
use Rattle.hx_tree.specs.declared.tree.Operator.{Operator}
use Rattle.hx_tree.specs.declared.tree.Operator.TheVariants.{Add, Sub}
use Rattle.hx_tree.specs.Numbers.{wrap}
use Rattle.hx_tree.specs.Tree as tree
use Rattle.hx_tree.specs.Tree.{Program, Name}
use Rattle.hx_tree.specs.World.{World, Gives, Run, ◌>>=◌, gives, Environment, local_value, set_local, read_element, write_element}
use Rattle.hx_tree.specs.Value.{Calling, operate}
use Rattle.hx_tree.specs.Effect.{step_of, update_place, no_place}
use Rattle.hx_resolved.specs.declared.program.Induct as counted
use Rattle.hx_resolved.specs.Resolved as resolved
use Rattle.hx_resolved.specs.Symbols.{Scopes, private_word, symbols_of}
use Rattle.hx_resolved.specs.Carried.{if_any, assignment_reads, index_reads, expr_reads}
use Rattle.hx_resolved.specs.Resolve.{resolve_assignment, to_variable, word_named}
use Rattle.hx_resolved.specs.Counts.{number_token, counted_by, induct_with, step_counts}
use Rattle.hx_lowering.proofs.Names.{env_of, value_of}

-- ---- number tokens

pub record IsToken (e : tree.Expr) (z : ℤ) : Type 0 where
  pub n : ℕ
  pub is : e ≡ tree.Number n
  pub value : pos n ≡ z

token : (e : tree.Expr) (z : ℤ) → number_token e ≡ Some z → IsToken e z
token (tree.Number n) z h = go (nat_le n CONSTANT_LIMIT) h
  where
    go : (b : Bool) → (if b then Some (pos n) else None) ≡ Some z → IsToken (tree.Number n) z
    go true h = record { n = n; is = refl; value = cc }
    go false h = absurd cc
token (tree.Variable x) z h = absurd cc
token (tree.Element x e) z h = absurd cc
token (tree.Call f es) z h = absurd cc
token (tree.Paren e) z h = absurd cc
token (tree.Unary o e) z h = absurd cc
token (tree.Binary o at l r) z h = absurd cc
token (tree.Conditional c a b) z h = absurd cc

-- ---- updates of a local by a number

module _ (p : Program) (scopes : Scopes) where
  -- a step counts this
  pub record Counts (step : Option tree.Assignment) (i : counted.Induct) : Type 0 where
    pub name : List ℕ
    pub is : private_word scopes name ≡ Some i.private
    pub reads : if_any (assignment_reads i.private) (option_map (λ a. resolve_assignment a (symbols_of p) scopes) step) ≡ true
    pub gives_it : (call : Calling) (f : ℕ → ℤ) (w : World) → step_of step call (env_of scopes f) w ≡ Gives (set_local (env_of scopes f) name (wrap (f i.private +ℤ i.step))) w

  module _ (x : Name) (k : ℕ) (is : private_word scopes x.text ≡ Some k) where
    abbrev read_by : Option ℤ → Run ℤ
    read_by (Some v) = gives v
    read_by None = read_element x (pos 0)

    abbrev write_by : Environment → ℤ → Option ℤ → Run Environment
    write_by env z (Some old) = gives (set_local env x.text z)
    write_by env z None = do
      done ← write_element x (pos 0) z
      gives env

    local : (f : ℕ → ℤ) → local_value (env_of scopes f) x.text ≡ Some (f k)
    local f = value_of scopes f x.text ∙ ap (option_map f) is

    adds : (place : Pos) (z : ℤ) (call : Calling) (f : ℕ → ℤ) (w : World) → update_place (tree.ToVariable x) Add place (gives z) call (env_of scopes f) w ≡ Gives (set_local (env_of scopes f) x.text (wrap (f k +ℤ z))) w
    adds place z call f w =
        ap (λ o. (read_by o >>= (λ old. gives z >>= (λ v. operate Add place old v >>= (λ new. write_by (env_of scopes f) new o)))) w) (local f)

    subtracts : (place : Pos) (z : ℤ) (call : Calling) (f : ℕ → ℤ) (w : World) → update_place (tree.ToVariable x) Sub place (gives z) call (env_of scopes f) w ≡ Gives (set_local (env_of scopes f) x.text (wrap (f k +ℤ neg_ℤ z))) w
    subtracts place z call f w =
        ap (λ o. (read_by o >>= (λ old. gives z >>= (λ v. operate Sub place old v >>= (λ new. write_by (env_of scopes f) new o)))) w) (local f)

    read_it : (op : Operator) (place : Pos) (e : resolved.Expr) → assignment_reads k (resolved.Update (to_variable (private_word scopes x.text) (word_named x (symbols_of p))) op place e) ≡ true
    read_it op place e =
        ap (λ o. assignment_reads k (resolved.Update (to_variable o (word_named x (symbols_of p))) op place e)) is
        ∙ ap (λ b. b || index_reads k (resolved.ToPrivate k) || expr_reads k e) ((Decides-eqb k k).1 refl)

    -- the four forms
    up : Counts (Some (tree.Increment (tree.ToVariable x))) (record { private = k; step = pos 1 })
    up = record { name = x.text; is = is; reads = read_it Add no_place (resolved.Number 1); gives_it = adds no_place (pos 1) }

    down : Counts (Some (tree.Decrement (tree.ToVariable x))) (record { private = k; step = neg_ℤ (pos 1) })
    down = record { name = x.text; is = is; reads = read_it Sub no_place (resolved.Number 1); gives_it = subtracts no_place (pos 1) }

    up_by : (place : Pos) (n : ℕ) → Counts (Some (tree.Update (tree.ToVariable x) Add place (tree.Number n))) (record { private = k; step = pos n })
    up_by place n = record { name = x.text; is = is; reads = read_it Add place (resolved.Number n); gives_it = adds place (pos n) }

    down_by : (place : Pos) (n : ℕ) → Counts (Some (tree.Update (tree.ToVariable x) Sub place (tree.Number n))) (record { private = k; step = neg_ℤ (pos n) })
    down_by place n = record { name = x.text; is = is; reads = read_it Sub place (resolved.Number n); gives_it = subtracts place (pos n) }

  -- ---- what a step counts

  both_there : (o : Option ℕ) (z : ℤ) (i : counted.Induct) → induct_with o (Some z) ≡ Some i → (o ≡ Some i.private) × (z ≡ i.step)
  both_there (Some k) z i h = (ap (option_map (λ (q : counted.Induct). q.private)) h, cc)
  both_there None z i h = absurd cc

  pub counts_so : (step : Option tree.Assignment) (i : counted.Induct) → step_counts step scopes ≡ Some i → Counts step i
  counts_so None i h = absurd cc
  counts_so (Some (tree.Set q e)) i h = absurd cc
  counts_so (Some (tree.Increment (tree.ToVariable x))) i h =
      let b = both_there (private_word scopes x.text) (pos 1) i h in
      subst (λ z. Counts (Some (tree.Increment (tree.ToVariable x))) (record { private = i.private; step = z })) b.1 (up x i.private b.0)
  counts_so (Some (tree.Increment (tree.ToElement x e))) i h = absurd cc
  counts_so (Some (tree.Decrement (tree.ToVariable x))) i h =
      let b = both_there (private_word scopes x.text) (neg_ℤ (pos 1)) i h in
      subst (λ z. Counts (Some (tree.Decrement (tree.ToVariable x))) (record { private = i.private; step = z })) b.1 (down x i.private b.0)
  counts_so (Some (tree.Decrement (tree.ToElement x e))) i h = absurd cc
  counts_so (Some (tree.Update (tree.ToElement x j) op place e)) i h = absurd cc
  counts_so (Some (tree.Update (tree.ToVariable x) op place e)) i h = by_amount (counted_by op e) refl h
    where
      by_op : (op : Operator) (z : ℤ) → counted_by op e ≡ Some z → private_word scopes x.text ≡ Some i.private → z ≡ i.step → Counts (Some (tree.Update (tree.ToVariable x) op place e)) i
      by_op Add z c is same =
          let t = token e z c in
          subst (λ q. Counts (Some (tree.Update (tree.ToVariable x) Add place q)) i) (sym t.is)
          (subst (λ q. Counts (Some (tree.Update (tree.ToVariable x) Add place (tree.Number t.n))) (record { private = i.private; step = q })) (t.value ∙ same) (up_by x i.private is place t.n))
      by_op Sub z c is same = by_token (number_token e) refl c
        where
          by_token : (o : Option ℤ) → number_token e ≡ o → option_map neg_ℤ o ≡ Some z → Counts (Some (tree.Update (tree.ToVariable x) Sub place e)) i
          by_token None t h = absurd cc
          by_token (Some y) t h =
              let q = token e y t in
              let value : neg_ℤ y ≡ z = cc in
              subst (λ u. Counts (Some (tree.Update (tree.ToVariable x) Sub place u)) i) (sym q.is)
              (subst (λ u. Counts (Some (tree.Update (tree.ToVariable x) Sub place (tree.Number q.n))) (record { private = i.private; step = u })) (ap neg_ℤ q.value ∙ value ∙ same) (down_by x i.private is place q.n))
      by_op _ z c is same = absurd cc

      by_amount : (o : Option ℤ) → counted_by op e ≡ o → induct_with (private_word scopes x.text) o ≡ Some i → Counts (Some (tree.Update (tree.ToVariable x) op place e)) i
      by_amount (Some z) c h = let b = both_there (private_word scopes x.text) z i h in by_op op z c b.0 b.1
      by_amount None c h = no_amount (private_word scopes x.text) h
        where
          no_amount : (o : Option ℕ) → induct_with o None ≡ Some i → Counts (Some (tree.Update (tree.ToVariable x) op place e)) i
          no_amount (Some k) h = absurd cc
          no_amount None h = absurd cc
