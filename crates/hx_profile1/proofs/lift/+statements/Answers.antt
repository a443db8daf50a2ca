use Rattle.std.proofs.Common.{map, refl, sym, ap, ◌∙◌}
use Rattle.hx_tree.specs.Tree as new
use Rattle.hx_tree.specs.View.{name_of}
use Rattle.hx_profile1.specs.View as given
use Rattle.hx_profile1.specs.Lifted.{lift_stmt}
use Rattle.hx_profile1.proofs.Nodes.{lifted_block, lifted_exprs}
use Rattle.hx_profile1.proofs.lift.+statements.Goals as goal

pub statement-returns-in_ok-parts-in-Block : goal.statement-returns-in_ok-parts-in-Block
statement-returns-in_ok-parts-in-Block t c =
    c.block.ensures
    ∙ ap (λ ps. new.Block (new.parts ps)) c.in_ok-parts-in-Block.ensures
    ∙ sym (ap (λ s. lift_stmt (given.stmt_of s)) c.in-Block.is ∙ lifted_block c.in-Block.ps)

pub statement-returns-in_ok-arguments-in-CallStatement : goal.statement-returns-in_ok-arguments-in-CallStatement
statement-returns-in_ok-arguments-in-CallStatement t c =
    ap (λ es. new.CallStatement (name_of c.in-CallStatement.f) (new.exprs es)) c.in_ok-arguments-in-CallStatement.ensures
    ∙ sym (ap (λ s. lift_stmt (given.stmt_of s)) c.in-CallStatement.is ∙ ap (λ es. new.CallStatement (name_of c.in-CallStatement.f) es) (lifted_exprs (map given.expr_of c.in-CallStatement.es.items)))

pub statement-returns-in_ok-assignment-in-Assign : goal.statement-returns-in_ok-assignment-in-Assign
statement-returns-in_ok-assignment-in-Assign t c = rw (c.in-Assign.is, c.in_ok-assignment-in-Assign.ensures) refl

pub statement-returns-in_ok-expression-in-Print : goal.statement-returns-in_ok-expression-in-Print
statement-returns-in_ok-expression-in-Print t c = rw (c.in-Print.is, c.in_ok-expression-in-Print.ensures) refl

pub statement-returns-in_ok-expression-in-Emit : goal.statement-returns-in_ok-expression-in-Emit
statement-returns-in_ok-expression-in-Emit t c = rw (c.in-Emit.is, c.in_ok-expression-in-Emit.ensures) refl

pub statement-returns-in_ok-test-in-If : goal.statement-returns-in_ok-test-in-If
statement-returns-in_ok-test-in-If t c =
    let test = rw (c.in_ok-test-in-If.ensures.0) at c.expression-in-If.ensures in
    let body = rw (c.in_ok-test-in-If.ensures.1) at c.boxed_statement.ensures in
    rw (c.in-If.is, test, body) refl

pub statement-returns-in_ok-test-in-IfElse : goal.statement-returns-in_ok-test-in-IfElse
statement-returns-in_ok-test-in-IfElse t c =
    let both = rw (c.in_ok-test-in-IfElse.ensures.0) at c.test_and_body-test_and_body.ensures in
    let test = rw (both.0) at c.expression-in-IfElse.ensures in
    let body = rw (both.1) at c.boxed_statement-in-IfElse.ensures in
    let other = rw (c.in_ok-test-in-IfElse.ensures.1) at c.boxed_statement-in-IfElse-2.ensures in
    rw (c.in-IfElse.is, test, body, other) refl

pub statement-returns-in_ok-test-in-While : goal.statement-returns-in_ok-test-in-While
statement-returns-in_ok-test-in-While t c =
    let test = rw (c.in_ok-test-in-While.ensures.0) at c.expression-in-While.ensures in
    let body = rw (c.in_ok-test-in-While.ensures.1) at c.boxed_statement-in-While.ensures in
    rw (c.in-While.is, test, body) refl

pub statement-returns-in_ok-head-in-For : goal.statement-returns-in_ok-head-in-For
statement-returns-in_ok-head-in-For t c =
    let head = rw (c.in_ok-head-in-For.ensures.0) at c.clauses.ensures in
    let body = rw (c.in_ok-head-in-For.ensures.1) at c.boxed_statement-in-For.ensures in
    rw (c.in-For.is, head, body) refl

pub statement-returns-in_ok-if_there-in-Return : goal.statement-returns-in_ok-if_there-in-Return
statement-returns-in_ok-if_there-in-Return t c = rw (c.in-Return.is, c.in_ok-if_there-in-Return.ensures) refl

pub statement-returns-in-Empty : goal.statement-returns-in-Empty
statement-returns-in-Empty t c = rw (c.in-Empty.is) refl

pub statement-returns-in-Break : goal.statement-returns-in-Break
statement-returns-in-Break t c = rw (c.in-Break.is) refl

pub statement-returns-in-Continue : goal.statement-returns-in-Continue
statement-returns-in-Continue t c = rw (c.in-Continue.is) refl
