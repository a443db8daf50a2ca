use Rattle.std.proofs.Common.{refl, sym, ap, ◌∙◌}
use Rattle.hx_tree.specs.Tree as new
use Rattle.hx_tree.specs.View.{name_of}
use Rattle.hx_profile1.specs.View as given
use Rattle.hx_profile1.specs.Lifted.{lift_expr}
use Rattle.hx_profile1.proofs.Nodes.{lifted_call}
use Rattle.hx_profile1.proofs.lift.+expressions.Goals as goal

pub expression-returns-in_ok-arguments-in-Call : goal.expression-returns-in_ok-arguments-in-Call
expression-returns-in_ok-arguments-in-Call t c =
    c.call.ensures
    ∙ ap (λ es. new.Call (name_of c.in-Call.f) (new.exprs es)) c.in_ok-arguments-in-Call.ensures
    ∙ sym (ap (λ e. lift_expr (given.expr_of e)) c.in-Call.is ∙ lifted_call c.in-Call.f c.in-Call.args)

pub expression-returns-in-Number : goal.expression-returns-in-Number
expression-returns-in-Number t c = rw (c.in-Number.is) refl

pub expression-returns-in-Variable : goal.expression-returns-in-Variable
expression-returns-in-Variable t c = rw (c.in-Variable.is) refl

pub expression-returns-in_ok-boxed_expression-in-Element : goal.expression-returns-in_ok-boxed_expression-in-Element
expression-returns-in_ok-boxed_expression-in-Element t c = rw (c.in-Element.is, c.in_ok-boxed_expression-in-Element.ensures) refl

pub expression-returns-in_ok-boxed_expression-in-Paren : goal.expression-returns-in_ok-boxed_expression-in-Paren
expression-returns-in_ok-boxed_expression-in-Paren t c = rw (c.in-Paren.is, c.in_ok-boxed_expression-in-Paren.ensures) refl

pub expression-returns-in_ok-boxed_expression-in-Unary : goal.expression-returns-in_ok-boxed_expression-in-Unary
expression-returns-in_ok-boxed_expression-in-Unary t c = rw (c.in-Unary.is, c.in_ok-boxed_expression-in-Unary.ensures) refl

pub expression-returns-in_ok-right-in-Binary : goal.expression-returns-in_ok-right-in-Binary
expression-returns-in_ok-right-in-Binary t c = rw (c.in-Binary.is, c.in_ok-left-in-Binary.ensures, c.in_ok-right-in-Binary.ensures) refl
