use Rattle.std.proofs.Common.{rules, arith}
use Rattle.std.proofs.lemmas.Grind.{common_steps}
use Rattle.hx_check.specs.Views.{symbols_in, known_of}
use Rattle.hx_tree.specs.View.{for_clauses_of, stmt_of}
use Rattle.hx_check.proofs.Calls.{block_of, for_at}
use Rattle.hx_check.proofs.statement.+statements.Goals as goal

pub statement-returns-in-Block : goal.statement-returns-in-Block
statement-returns-in-Block t c =
    rw (block_of c.args.s.now c.in-Block.ps c.in-Block.is) (search rules)

pub for_statement-returns-in_err-body : goal.for_statement-returns-in_err-body
for_statement-returns-in_err-body t c =
    rw (for_at c.args.marked (for_clauses_of c.args.head.now) (stmt_of c.args.body.now) (symbols_in c.args.symbols.now) c.args.here (known_of c.args.locals.now)) (search rules)

pub statement-returns-in-Assign : goal.statement-returns-in-Assign
statement-returns-in-Assign t c = rw c.in-Assign.is (c.assign_statement.ensures c.args.here)

pub statement-returns-in-CallStatement : goal.statement-returns-in-CallStatement
statement-returns-in-CallStatement t c =
    rw c.in-CallStatement.is (rw c.deref-in-CallStatement.ensures.value at (c.call_statement.ensures c.args.here))

pub statement-returns-in-Print : goal.statement-returns-in-Print
statement-returns-in-Print t c = rw c.in-Print.is (c.print_statement.ensures c.args.here)

pub statement-returns-in-Emit : goal.statement-returns-in-Emit
statement-returns-in-Emit t c = rw c.in-Emit.is (c.emit_statement.ensures c.args.here)

pub statements-loop-p-preserved : goal.statements-loop-p-preserved
statements-loop-p-preserved t c = grind (arith, common_steps)

pub block_statement-returns-in_err-open : goal.block_statement-returns-in_err-open
block_statement-returns-in_err-open t c = grind (arith, common_steps)

pub block_statement-statements-requires : goal.block_statement-statements-requires
block_statement-statements-requires t c = grind (arith, common_steps)

pub block_statement-returns-in_err-body : goal.block_statement-returns-in_err-body
block_statement-returns-in_err-body t c = grind (arith, common_steps)

pub block_statement-returns : goal.block_statement-returns
block_statement-returns t c = grind (arith, common_steps)

pub boxed_statement-statement-requires : goal.boxed_statement-statement-requires
boxed_statement-statement-requires t c = grind (arith, common_steps)

pub boxed_statement-returns-in_err-s : goal.boxed_statement-returns-in_err-s
boxed_statement-returns-in_err-s t c = grind (arith, common_steps)

pub boxed_statement-returns-in_err-new : goal.boxed_statement-returns-in_err-new
boxed_statement-returns-in_err-new t c = grind (arith, common_steps)

pub boxed_statement-returns : goal.boxed_statement-returns
boxed_statement-returns t c = grind (arith, common_steps)

pub for_statement-returns-in_err-open : goal.for_statement-returns-in_err-open
for_statement-returns-in_err-open t c = grind (arith, common_steps)

pub for_statement-returns-in_err-clauses : goal.for_statement-returns-in_err-clauses
for_statement-returns-in_err-clauses t c = grind (arith, common_steps)

pub for_statement-boxed_statement-requires : goal.for_statement-boxed_statement-requires
for_statement-boxed_statement-requires t c = grind (arith, common_steps)

pub for_statement-returns : goal.for_statement-returns
for_statement-returns t c = grind (arith, common_steps)

pub if_statement-returns-in_err-condition : goal.if_statement-returns-in_err-condition
if_statement-returns-in_err-condition t c = grind (arith, common_steps)

pub if_statement-boxed_statement-requires : goal.if_statement-boxed_statement-requires
if_statement-boxed_statement-requires t c = grind (arith, common_steps)

pub if_statement-returns-in_err-body : goal.if_statement-returns-in_err-body
if_statement-returns-in_err-body t c = grind (arith, common_steps)

pub if_statement-returns : goal.if_statement-returns
if_statement-returns t c = grind (arith, common_steps)

pub part-returns-in_err-simples-in-Locals : goal.part-returns-in_err-simples-in-Locals
part-returns-in_err-simples-in-Locals t c = grind (arith, common_steps)

pub part-returns-in_err-append-in-Locals : goal.part-returns-in_err-append-in-Locals
part-returns-in_err-append-in-Locals t c = grind (arith, common_steps)

pub part-returns-in_err-s-in-Stmt : goal.part-returns-in_err-s-in-Stmt
part-returns-in_err-s-in-Stmt t c = grind (arith, common_steps)

pub part-returns-in_err-push-in-Stmt : goal.part-returns-in_err-push-in-Stmt
part-returns-in_err-push-in-Stmt t c = grind (arith, common_steps)

pub part-returns-in_ok-append-in-Locals : goal.part-returns-in_ok-append-in-Locals
part-returns-in_ok-append-in-Locals t c = grind (arith, common_steps)

pub part-returns-in_ok-push-in-Stmt : goal.part-returns-in_ok-push-in-Stmt
part-returns-in_ok-push-in-Stmt t c = grind (arith, common_steps)

pub statement-returns-in_err-condition-in-IfElse : goal.statement-returns-in_err-condition-in-IfElse
statement-returns-in_err-condition-in-IfElse t c = grind (arith, common_steps)

pub statement-returns-in_err-body-in-IfElse : goal.statement-returns-in_err-body-in-IfElse
statement-returns-in_err-body-in-IfElse t c = grind (arith, common_steps)

pub statement-returns-in_err-other-in-IfElse : goal.statement-returns-in_err-other-in-IfElse
statement-returns-in_err-other-in-IfElse t c = grind (arith, common_steps)

pub statement-returns-in_err-check_loop-in-Break : goal.statement-returns-in_err-check_loop-in-Break
statement-returns-in_err-check_loop-in-Break t c = grind (arith, common_steps)

pub statement-returns-in_err-check_loop-in-Continue : goal.statement-returns-in_err-check_loop-in-Continue
statement-returns-in_err-check_loop-in-Continue t c = grind (arith, common_steps)

pub statement-returns-in_err-value-in-Return : goal.statement-returns-in_err-value-in-Return
statement-returns-in_err-value-in-Return t c = grind (arith, common_steps)

pub statement-returns-in-Empty : goal.statement-returns-in-Empty
statement-returns-in-Empty t c = grind (arith, common_steps)

pub statement-returns-in-If : goal.statement-returns-in-If
statement-returns-in-If t c = grind (arith, common_steps)

pub statement-returns-in_ok-other-in-IfElse : goal.statement-returns-in_ok-other-in-IfElse
statement-returns-in_ok-other-in-IfElse t c = grind (arith, common_steps)

pub statement-returns-in-While : goal.statement-returns-in-While
statement-returns-in-While t c = grind (arith, common_steps)

pub statement-returns-in-For : goal.statement-returns-in-For
statement-returns-in-For t c = grind (arith, common_steps)

pub statement-returns-in_ok-check_loop-in-Break : goal.statement-returns-in_ok-check_loop-in-Break
statement-returns-in_ok-check_loop-in-Break t c = grind (arith, common_steps)

pub statement-returns-in_ok-check_loop-in-Continue : goal.statement-returns-in_ok-check_loop-in-Continue
statement-returns-in_ok-check_loop-in-Continue t c = grind (arith, common_steps)

pub statement-returns-in_ok-value-in-Return : goal.statement-returns-in_ok-value-in-Return
statement-returns-in_ok-value-in-Return t c = grind (arith, common_steps)

pub statements-loop-p-init : goal.statements-loop-p-init
statements-loop-p-init t c = grind (arith, common_steps)

pub statements-offset_bounds-ps-p-index : goal.statements-offset_bounds-ps-p-index
statements-offset_bounds-ps-p-index t c = grind (arith, common_steps)

pub statements-returns-in_err-part : goal.statements-returns-in_err-part
statements-returns-in_err-part t c = grind (arith, common_steps)

pub statements-loop-p-smaller : goal.statements-loop-p-smaller
statements-loop-p-smaller t c = grind (arith, common_steps)

pub statements-returns : goal.statements-returns
statements-returns t c = grind (arith, common_steps)

pub while_statement-returns-in_err-condition : goal.while_statement-returns-in_err-condition
while_statement-returns-in_err-condition t c = grind (arith, common_steps)

pub while_statement-boxed_statement-requires : goal.while_statement-boxed_statement-requires
while_statement-boxed_statement-requires t c = grind (arith, common_steps)

pub while_statement-returns-in_err-body : goal.while_statement-returns-in_err-body
while_statement-returns-in_err-body t c = grind (arith, common_steps)

pub while_statement-returns : goal.while_statement-returns
while_statement-returns t c = grind (arith, common_steps)
