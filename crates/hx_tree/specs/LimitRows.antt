-- Worked rows: each limit at its value, and one past it.
use Rattle.std.specs.Prelude.{◌≡◌, ℕ, zero, suc, ◌≤◌, ◌++◌, List, [], ◌∷◌, Some, None, codes, refl, replicate, length, map, sum_by, pos}
use Rattle.std.specs.Int.{int_wrap}
use Rattle.std.proofs.Common.{arith}
use Rattle.std.proofs.lemmas.List.{length-replicate}
use Rattle.hx_tree.specs.declared.limits.TheConstants.{SOURCE_LIMIT, FUNCTION_LIMIT, PARAMETER_LIMIT, PRIVATE_LIMIT, OPERAND_LIMIT, GLOBAL_LIMIT}
use Rattle.hx_tree.specs.declared.tree.Returns.TheVariants as returns
use Rattle.hx_tree.specs.declared.tree.BinaryOp.TheVariants as binary
use Rattle.hx_tree.specs.declared.tree.Operator.TheVariants as op
use Rattle.hx_tree.specs.declared.outcome.End.TheVariants as end
use Rattle.hx_tree.specs.declared.outcome.FaultKind.TheVariants as fault
use Rattle.hx_tree.specs.Tree.{Expr, Number, Variable, Binary, exprs, Print, If, CallStatement, Locals, Statement, Parts, no_parts, parts, Array, NoParams, NamedParams, Params, Func, Globals, Function, Program}
use Rattle.hx_tree.specs.Lexis.{Word, IsName, constant_of, keyword_of}
use Rattle.hx_tree.specs.Grammar.{Spells}
use Rattle.hx_tree.specs.World.{World, Gives, Faults, print_bytes}
use Rattle.hx_tree.specs.Need.{function_need}
use Rattle.hx_tree.specs.Accepted.{IsAccepted, AcceptsShape, AcceptsFunction, private_words, item_words}
use Rattle.hx_tree.specs.Meaning.{functions_of, meaning}
use Rattle.hx_tree.specs.Rows.{at, named}

-- ---- what a program has

abbrev function : Params → Parts → Func
function ps body = record { returns = returns.Int; name = named (codes "f") (at 1 5); params = ps; body = body }

-- so many functions
abbrev functions : ℕ → Program
functions n = record { items = replicate n (Function (function NoParams no_parts)) }

pub functions_at_limit : length (functions_of (functions 256)) ≤ FUNCTION_LIMIT
functions_at_limit = omega arith

pub functions_past_limit : IsAccepted (functions 257) → ⊥
functions_past_limit h = let few : 257 ≤ 256 = h.few_functions in absurd (omega arith)

-- so many words of globals
abbrev globals : ℕ → Program
globals n = record { items = Globals (record { name = named (codes "a") (at 1 5); shape = Array n [] } ∷ []) ∷ Globals (record { name = named (codes "b") (at 1 5); shape = Array 1 [] } ∷ []) ∷ [] }

pub globals_at_limit : sum_by item_words (globals 262143).items ≤ GLOBAL_LIMIT
globals_at_limit = omega arith

pub globals_past_limit : IsAccepted (globals 262144) → ⊥
globals_past_limit h = let few : 262145 ≤ 262144 = h.few_words in absurd (omega arith)

pub array_at_limit : AcceptsShape (Array 262144 [])
array_at_limit = (omega arith, omega arith, omega arith, λ i none lt. absurd (omega arith))

pub array_past_limit : AcceptsShape (Array 262145 []) → ⊥
array_past_limit h = absurd (omega (arith, h.1))

-- ---- what a function has

abbrev parameters : ℕ → Func
parameters n = function (NamedParams (replicate n (named (codes "x") (at 1 7)))) no_parts

pub parameters_at_limit : length (replicate 8 (named (codes "x") (at 1 7))) ≤ PARAMETER_LIMIT
parameters_at_limit = omega arith

pub parameters_past_limit : AcceptsFunction [] (parameters 9) → ⊥
parameters_past_limit h = let few : 9 ≤ 8 = h.few_params in absurd (omega arith)

-- one parameter, and so many locals
abbrev locals : ℕ → Func
locals n = function (NamedParams (named (codes "x") (at 1 7) ∷ [])) (parts (Locals (replicate n (record { name = named (codes "y") (at 1 9); init = None })) ∷ []))

pub locals_at_limit : private_words (locals 63) ≤ PRIVATE_LIMIT
locals_at_limit = omega arith

pub locals_past_limit : AcceptsFunction [] (locals 64) → ⊥
locals_past_limit h = let few : 65 ≤ 64 = h.few_private in absurd (omega arith)

-- 1+(1+(..)), with so many ones
abbrev ones : ℕ → Expr
ones zero = Number 1
ones (suc n) = Binary (binary.Strict op.Add) (at 1 9) (Number 1) (ones n)

abbrev adding : ℕ → Func
adding n = function NoParams (parts (Statement (Print (at 1 9) (ones n)) ∷ []))

pub operands_at_limit : function_need (adding 255) ≤ OPERAND_LIMIT
operands_at_limit = omega arith

pub operands_past_limit : AcceptsFunction [] (adding 256) → ⊥
operands_past_limit h = let few : 257 ≤ 256 = h.few_operands in absurd (omega arith)

-- ---- constants, names and sources

pub constants : map constant_of (codes "2147483647" ∷ codes "2147483648" ∷ []) ≡ Some 2147483647 ∷ None ∷ []
unfolding constant_of
constants = refl

abbrev letters : ℕ → List ℕ
letters n = replicate n 97

pub name_at_limit : IsName Word (letters 63) (letters 63)
unfolding keyword_of
name_at_limit = (refl, refl, omega arith)

pub name_past_limit : IsName Word (letters 64) (letters 64) → ⊥
name_past_limit h = let few : 64 ≤ 63 = h.2 in absurd (omega arith)

pub source_at_limit : length (replicate {A = ℕ} 65536 32) ≤ SOURCE_LIMIT
source_at_limit = let long = length-replicate {A = ℕ} 65536 32 in omega (arith, long)

pub source_past_limit : (p : Program) → Spells (replicate 65537 32) p → ⊥
source_past_limit p h = let long = length-replicate {A = ℕ} 65537 32 in absurd (omega (arith, long, h.is_short))

-- ---- runs

-- void f(int n){ if(n) f(n-1); } int main(){ f(..); }: with f(62) 64 calls are active in the end
abbrev falling : ℕ → Program
falling n = record { items = Function (record { returns = returns.Void; name = named (codes "f") (at 1 6); params = NamedParams (named (codes "n") (at 1 12) ∷ []); body = parts (Statement (If (Variable (named (codes "n") (at 1 19))) (CallStatement (named (codes "f") (at 1 22)) (exprs (Binary (binary.Strict op.Sub) (at 1 25) (Variable (named (codes "n") (at 1 24))) (Number 1) ∷ [])))) ∷ []) }) ∷ Function (record { returns = returns.Int; name = named (codes "main") (at 1 36); params = NoParams; body = parts (Statement (CallStatement (named (codes "f") (at 1 44)) (exprs (Number n ∷ []))) ∷ []) }) ∷ [] }

pub calls_at_limit : meaning (falling 62) [] 0 ≡ Some (record { text = []; globals = []; finish = end.Normal (pos 0); turns = 0 })
unfolding int_wrap
calls_at_limit = refl

pub calls_past_limit : meaning (falling 63) [] 0 ≡ Some (record { text = []; globals = []; finish = end.Fault (record { kind = fault.CallTooDeep; pos = at 1 22 }); turns = 0 })
unfolding int_wrap
calls_past_limit = refl

-- a byte more where 1,048,575 were printed, and where 1,048,576 were
pub text_at_limit : (w : World) → length w.text ≡ 1048575 → print_bytes (at 1 1) (49 ∷ []) w ≡ Gives tt (record w { text = w.text ++ 49 ∷ [] })
text_at_limit w long = rw long refl

pub text_past_limit : (w : World) → length w.text ≡ 1048576 → print_bytes (at 1 1) (49 ∷ []) w ≡ Faults (record { kind = fault.TextFull; pos = at 1 1 }) w
text_past_limit w long = rw long refl
