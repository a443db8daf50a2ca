-- Worked rows: the limits, as the reference of the language tells them; and what stands at a limit and one past it.
use Rattle.std.specs.Prelude.{◌≡◌, ℕ, zero, suc, ◌≤◌, List, [], ◌∷◌, length, sum_by, None, codes, refl}
use Rattle.std.proofs.Common.{arith}
use Rattle.hx_tree.specs.declared.limits.TheConstants.{SOURCE_LIMIT, NAME_LIMIT, CONSTANT_LIMIT, HEIGHT_LIMIT, FUNCTION_LIMIT, PARAMETER_LIMIT, PRIVATE_LIMIT, OPERAND_LIMIT, GLOBAL_LIMIT, ARRAY_LIMIT, CALL_LIMIT, TEXT_LIMIT, WORKER_LIMIT, TABLE_LIMIT, INPUT_LIMIT}
use Rattle.hx_tree.specs.declared.tree.Returns.TheVariants as returns
use Rattle.hx_tree.specs.declared.tree.BinaryOp.TheVariants as binary
use Rattle.hx_tree.specs.declared.tree.Operator.TheVariants as operator
use Rattle.hx_tree.specs.Tree.{Name, Expr, Number, Binary, Locals, Statement, Print, Parts, no_parts, parts, Scalar, Array, NamedParams, param_names, Func, Globals, Function, Program}
use Rattle.hx_tree.specs.World.{Map}
use Rattle.hx_tree.specs.Accepted.{Kind, IsAccepted, AcceptsItem, AcceptsShape, item_words, private_words}
use Rattle.hx_tree.specs.Need.{function_need}
use Rattle.hx_tree.specs.Meaning.{functions_of}
use Rattle.hx_tree.specs.Rows.{at, named}

pub limits_of_sources : SOURCE_LIMIT ∷ NAME_LIMIT ∷ CONSTANT_LIMIT ∷ HEIGHT_LIMIT ∷ [] ≡ 65536 ∷ 63 ∷ 2147483647 ∷ 200 ∷ []
limits_of_sources = refl

pub limits_of_programs : FUNCTION_LIMIT ∷ PARAMETER_LIMIT ∷ PRIVATE_LIMIT ∷ OPERAND_LIMIT ∷ GLOBAL_LIMIT ∷ ARRAY_LIMIT ∷ [] ≡ 256 ∷ 8 ∷ 64 ∷ 256 ∷ 262144 ∷ 262144 ∷ []
limits_of_programs = refl

pub limits_of_runs : CALL_LIMIT ∷ TEXT_LIMIT ∷ WORKER_LIMIT ∷ TABLE_LIMIT ∷ INPUT_LIMIT ∷ [] ≡ 64 ∷ 1048576 ∷ 16 ∷ 4096 ∷ 1048576 ∷ []
limits_of_runs = refl

-- ---- at a limit, and one past it

abbrev times : {A : Type 0} → ℕ → A → List A
times zero x = []
times (suc n) x = x ∷ times n x

abbrev row_name : Name
row_name = named (codes "x") (at 1 1)

abbrev row_function : ℕ → Parts → Func
row_function n body = record { returns = returns.Int; name = row_name; params = NamedParams (times n row_name); body = body }

pub eight_parameters : length (param_names (row_function 8 no_parts).params) ≤ PARAMETER_LIMIT
eight_parameters = let few : 8 ≤ 8 = omega arith in few

pub nine_parameters : (kinds : Map Kind) → AcceptsItem kinds (Function (row_function 9 no_parts)) → ⊥
nine_parameters kinds h = let few : 9 ≤ 8 = h.few_params in absurd (omega arith)

-- a parameter, and so many locals
abbrev row_locals : ℕ → Func
row_locals n = row_function 1 (parts (Locals (times n (record { name = row_name; init = None })) ∷ []))

pub private_words_of_64 : private_words (row_locals 63) ≤ PRIVATE_LIMIT
private_words_of_64 = let few : 64 ≤ 64 = omega arith in few

pub private_words_of_65 : (kinds : Map Kind) → AcceptsItem kinds (Function (row_locals 64)) → ⊥
private_words_of_65 kinds h = let few : 65 ≤ 64 = h.few_private in absurd (omega arith)

-- `1+(1+(.. 1))` without its parentheses, which hold as many operands as there are numbers
abbrev row_sum : ℕ → Expr
row_sum zero = Number 1
row_sum (suc n) = Binary (binary.Strict operator.Add) (at 1 1) (Number 1) (row_sum n)

abbrev row_operands : ℕ → Func
row_operands n = row_function 0 (parts (Statement (Print (at 1 1) (row_sum n)) ∷ []))

pub operands_of_256 : function_need (row_operands 255) ≤ OPERAND_LIMIT
operands_of_256 = let few : 256 ≤ 256 = omega arith in few

pub operands_of_257 : (kinds : Map Kind) → AcceptsItem kinds (Function (row_operands 256)) → ⊥
operands_of_257 kinds h = let few : 257 ≤ 256 = h.few_operands in absurd (omega arith)

-- arrays, and all globals

pub longest_array : AcceptsShape (Array 262144 [])
longest_array = let few : 262144 ≤ 262144 = omega arith in let some : 1 ≤ 262144 = omega arith in (some, few, omega arith, λ _ _ inside. absurd (omega arith))

pub array_past_the_longest : AcceptsShape (Array 262145 []) → ⊥
array_past_the_longest h = let few : 262145 ≤ 262144 = h.1 in absurd (omega arith)

pub array_of_none : AcceptsShape (Array 0 []) → ⊥
array_of_none h = let some : 1 ≤ 0 = h.0 in absurd (omega arith)

-- an array of so many words, and an int
abbrev row_globals : ℕ → Program
row_globals n = record { items = Globals (record { name = row_name; shape = Array n [] } ∷ record { name = row_name; shape = Scalar None } ∷ []) ∷ [] }

pub globals_of_262144 : sum_by item_words (row_globals 262143).items ≤ GLOBAL_LIMIT
globals_of_262144 = let few : 262144 ≤ 262144 = omega arith in few

pub globals_of_262145 : IsAccepted (row_globals 262144) → ⊥
globals_of_262145 h = let few : 262145 ≤ 262144 = h.few_words in absurd (omega arith)

abbrev row_functions : ℕ → Program
row_functions n = record { items = times n (Function (row_function 0 no_parts)) }

pub functions_of_256 : length (functions_of (row_functions 256)) ≤ FUNCTION_LIMIT
functions_of_256 = let few : 256 ≤ 256 = omega arith in few

pub functions_of_257 : IsAccepted (row_functions 257) → ⊥
functions_of_257 h = let few : 257 ≤ 256 = h.few_functions in absurd (omega arith)
