-- What the step of a loop counts: `x++`, `x--`, `x += N` and `x -= N` count a local x, where N is a number token.
use Rattle.std.specs.Prelude.{ℕ, nat_le, if◌then◌else◌, ℤ, pos, neg_ℤ, Option, Some, None, option_map}
use Rattle.hx_tree.specs.declared.limits.TheConstants.{CONSTANT_LIMIT}
use Rattle.hx_tree.specs.declared.tree.Operator.{Operator}
use Rattle.hx_tree.specs.declared.tree.Operator.TheVariants.{Add, Sub}
use Rattle.hx_tree.specs.Tree as tree
use Rattle.hx_resolved.specs.declared.program.Induct.{Induct}
use Rattle.hx_resolved.specs.Symbols.{Scopes, private_word}

-- the value of a number token
abbrev pub number_token : tree.Expr → Option ℤ
number_token (tree.Number n) = if nat_le n CONSTANT_LIMIT then Some (pos n) else None
number_token _ = None

-- by how much `x += e` and `x -= e` count, where e is a number token
abbrev pub counted_by : Operator → tree.Expr → Option ℤ
counted_by Add e = number_token e
counted_by Sub e = option_map neg_ℤ (number_token e)
counted_by _ e = None

-- a private word and by how much it is counted, where there are both
abbrev pub induct_with : Option ℕ → Option ℤ → Option Induct
induct_with (Some k) (Some z) = Some (record { private = k; step = z })
induct_with (Some k) None = None
induct_with None by = None

-- a place that is a local's, counted by so much
abbrev pub counted_at : tree.Place → Scopes → Option ℤ → Option Induct
counted_at (tree.ToVariable x) scopes by = induct_with (private_word scopes x.text) by
counted_at (tree.ToElement x e) scopes by = None

-- what a step counts: `x++` and `x--` count by 1 and -1, `x += N` and `x -= N` by N and -N; `x = x + 1` counts nothing
abbrev pub counted : tree.Assignment → Scopes → Option Induct
counted (tree.Set p e) scopes = None
counted (tree.Update p op place e) scopes = counted_at p scopes (counted_by op e)
counted (tree.Increment p) scopes = counted_at p scopes (Some (pos 1))
counted (tree.Decrement p) scopes = counted_at p scopes (Some (neg_ℤ (pos 1)))

abbrev pub step_counts : Option tree.Assignment → Scopes → Option Induct
step_counts None scopes = None
step_counts (Some a) scopes = counted a scopes
