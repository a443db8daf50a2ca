use Rattle.std.proofs.Common.{rules, arith}
use Rattle.std.proofs.lemmas.Grind.{common_steps}
use Rattle.hx_check.specs.Views.{symbols_in, scopes_of}
use Rattle.hx_check.proofs.Calls.{call_at}
use Rattle.hx_check.proofs.expression.+expressions.Goals as goal

pub expression-returns-in_err-number-in-Call : goal.expression-returns-in_err-number-in-Call
expression-returns-in_err-number-in-Call t c =
    rw (call_at c.args.e.now c.in-Call.f c.in-Call.args (symbols_in c.args.symbols.now) (scopes_of c.args.scopes.now) c.in-Call.is) (search rules)

pub expression-returns-in_err-args-in-Call : goal.expression-returns-in_err-args-in-Call
expression-returns-in_err-args-in-Call t c =
    rw (call_at c.args.e.now c.in-Call.f c.in-Call.args (symbols_in c.args.symbols.now) (scopes_of c.args.scopes.now) c.in-Call.is) (search rules)

pub expression-returns-in_ok-args-in-Call : goal.expression-returns-in_ok-args-in-Call
expression-returns-in_ok-args-in-Call t c =
    rw (call_at c.args.e.now c.in-Call.f c.in-Call.args (symbols_in c.args.symbols.now) (scopes_of c.args.scopes.now) c.in-Call.is) (search rules)

pub arguments-loop-e-preserved : goal.arguments-loop-e-preserved
arguments-loop-e-preserved t c = grind (arith, common_steps)

pub arguments-loop-e-init : goal.arguments-loop-e-init
arguments-loop-e-init t c = grind (arith, common_steps)

pub arguments-offset_bounds-es-e-index : goal.arguments-offset_bounds-es-e-index
arguments-offset_bounds-es-e-index t c = grind (arith, common_steps)

pub arguments-bounds-es-e-index : goal.arguments-bounds-es-e-index
arguments-bounds-es-e-index t c = grind (arith, common_steps)

pub arguments-returns-in_err-expression : goal.arguments-returns-in_err-expression
arguments-returns-in_err-expression t c = grind (arith, common_steps)

pub arguments-returns-in_err-push : goal.arguments-returns-in_err-push
arguments-returns-in_err-push t c = grind (arith, common_steps)

pub arguments-loop-e-smaller : goal.arguments-loop-e-smaller
arguments-loop-e-smaller t c = grind (arith, common_steps)

pub arguments-returns : goal.arguments-returns
arguments-returns t c = grind (arith, common_steps)

pub boxed_expression-expression-requires : goal.boxed_expression-expression-requires
boxed_expression-expression-requires t c = grind (arith, common_steps)

pub boxed_expression-returns-in_err-e : goal.boxed_expression-returns-in_err-e
boxed_expression-returns-in_err-e t c = grind (arith, common_steps)

pub boxed_expression-returns-in_err-new : goal.boxed_expression-returns-in_err-new
boxed_expression-returns-in_err-new t c = grind (arith, common_steps)

pub boxed_expression-returns : goal.boxed_expression-returns
boxed_expression-returns t c = grind (arith, common_steps)

pub expression-returns-then-number-gt-CONSTANT_LIMIT : goal.expression-returns-then-number-gt-CONSTANT_LIMIT
expression-returns-then-number-gt-CONSTANT_LIMIT t c = grind (arith, common_steps)

pub expression-returns-in_err-int_named-in-Variable : goal.expression-returns-in_err-int_named-in-Variable
expression-returns-in_err-int_named-in-Variable t c = grind (arith, common_steps)

pub expression-returns-in_err-words-in-Element : goal.expression-returns-in_err-words-in-Element
expression-returns-in_err-words-in-Element t c = grind (arith, common_steps)

pub expression-returns-in_err-index-in-Element : goal.expression-returns-in_err-index-in-Element
expression-returns-in_err-index-in-Element t c = grind (arith, common_steps)

pub expression-returns-in_err-operand-in-Unary : goal.expression-returns-in_err-operand-in-Unary
expression-returns-in_err-operand-in-Unary t c = grind (arith, common_steps)

pub expression-returns-in_err-left-in-Binary : goal.expression-returns-in_err-left-in-Binary
expression-returns-in_err-left-in-Binary t c = grind (arith, common_steps)

pub expression-returns-in_err-right-in-Binary : goal.expression-returns-in_err-right-in-Binary
expression-returns-in_err-right-in-Binary t c = grind (arith, common_steps)

pub expression-returns-else-number-gt-CONSTANT_LIMIT : goal.expression-returns-else-number-gt-CONSTANT_LIMIT
expression-returns-else-number-gt-CONSTANT_LIMIT t c = grind (arith, common_steps)

pub expression-returns-in_ok-int_named-in-Variable : goal.expression-returns-in_ok-int_named-in-Variable
expression-returns-in_ok-int_named-in-Variable t c = grind (arith, common_steps)

pub expression-returns-in_ok-index-in-Element : goal.expression-returns-in_ok-index-in-Element
expression-returns-in_ok-index-in-Element t c = grind (arith, common_steps)

pub expression-returns-in-Paren : goal.expression-returns-in-Paren
expression-returns-in-Paren t c = grind (arith, common_steps)

pub expression-returns-in_ok-operand-in-Unary : goal.expression-returns-in_ok-operand-in-Unary
expression-returns-in_ok-operand-in-Unary t c = grind (arith, common_steps)

pub expression-returns-in_ok-right-in-Binary : goal.expression-returns-in_ok-right-in-Binary
expression-returns-in_ok-right-in-Binary t c = grind (arith, common_steps)
