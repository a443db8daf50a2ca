use Rattle.std.proofs.lemmas.Grind.{common_steps}
use Rattle.std.proofs.Common.{Ok, map, length, refl, ap, arith}
use Rattle.std.proofs.lemmas.Result.{err_from_is_err_and, on_ok_weaker}
use Rattle.hx_tree.specs.declared.token.Mark.TheVariants as mark
use Rattle.hx_tree.specs.Tree.{Locals, Statement, Block, IfElse, While, DoWhile, For, Break, Continue, parts}
use Rattle.hx_tree.specs.View.{expr_of, for_clauses_of, part_of, stmt_of}
use Rattle.hx_grammar.specs.Reading.{◌>>=◌, until, all_of, in_parens_at, locals_at, for_clauses_at, if_at, else_at, while_at, do_at, for_at, part_at, parts_at, block_at, break_at, continue_at, marked_stmt_at, stmt_at}
use Rattle.hx_parse.proofs.Marks.{behind_shorter}
use Rattle.hx_parse.proofs.Loops.{fails_then, open_fails, closed_gives, extended, until_ends, until_extend, until_stop}
use Rattle.hx_parse.proofs.Steps.{stmt_zero, stmt_is}
use Rattle.hx_parse.proofs.parser.Parser.+stmt.Goals as goal

pub parts-returns-in_err-all-clause-read : goal.parts-returns-in_err-all-clause-read
unfolding parts_at
parts-returns-in_err-all-clause-read t c =
    let p = err_from_is_err_and c.from_residual.result c.from_residual.ensures.1 in
    rw (p.1, p.2) (until_stop part_of mark.CloseBrace (part_at c.args.room (stmt_at c.args.room)) (all_of (until mark.CloseBrace) (part_at c.args.room (stmt_at c.args.room)) c.args.self.now) c.loop-all.all.items c.part.result c.in_err-all.field-0.0 c.loop-all.self c.part.new.self c.loop-all.invariant.goes c.loop-all-test.ensures.0 (rw c.loop-all-test.ensures.1 at c.part.ensures.read) c.in_err-all.ensures.refused)

pub parts-loop-all-smaller : goal.parts-loop-all-smaller
parts-loop-all-smaller t c = omega (arith, ap length c.loop-all-test.ensures.1, extended _ _ c.part.result c.in_ok-all.ensures.given c.part.ensures.shorter)

pub parts-loop-all-preserved : goal.parts-loop-all-preserved
parts-loop-all-preserved t c = record {
  goes = until_extend part_of mark.CloseBrace (part_at c.args.room (stmt_at c.args.room)) (all_of (until mark.CloseBrace) (part_at c.args.room (stmt_at c.args.room)) c.args.self.now) c.loop-all.all.items c.in_ok-all.all.items c.part.result c.loop-all.self c.part.new.self c.loop-all.invariant.goes c.loop-all-test.ensures.0 (rw c.loop-all-test.ensures.1 at c.part.ensures.read) (rw c.loop-all-test.ensures.1 at c.part.ensures.shorter) c.in_ok-all.ensures.given;
  is_shorter = omega (arith, ap length c.loop-all-test.ensures.1, extended _ _ c.part.result c.in_ok-all.ensures.given c.part.ensures.shorter);
}

pub parts-returns-clause-read : goal.parts-returns-clause-read
unfolding parts_at
parts-returns-clause-read t c = until_ends mark.CloseBrace (part_at c.args.room (stmt_at c.args.room)) (all_of (until mark.CloseBrace) (part_at c.args.room (stmt_at c.args.room)) c.args.self.now) (map part_of c.loop-all.all.items) c.loop-all.self c.take.new.self c.loop-all.invariant.goes c.loop-all-test.ensures

pub parts-returns-clause-shorter : goal.parts-returns-clause-shorter
parts-returns-clause-shorter t c = omega (arith, behind_shorter mark.CloseBrace c.loop-all.self c.take.new.self c.loop-all-test.ensures)

pub choice-returns-in_err-test-clause-shorter : goal.choice-returns-in_err-test-clause-shorter
choice-returns-in_err-test-clause-shorter t c = grind (arith, common_steps)

pub choice-body-requires : goal.choice-body-requires
choice-body-requires t c = grind (arith, common_steps)

pub choice-returns-in_err-test-2-clause-shorter : goal.choice-returns-in_err-test-2-clause-shorter
choice-returns-in_err-test-2-clause-shorter t c = grind (arith, common_steps)

pub choice-choice_behind-requires : goal.choice-choice_behind-requires
choice-choice_behind-requires t c = grind (arith, common_steps)

pub choice-returns-clause-shorter : goal.choice-returns-clause-shorter
choice-returns-clause-shorter t c = grind (arith, common_steps)

pub choice_behind-body-requires : goal.choice_behind-body-requires
choice_behind-body-requires t c = grind (arith, common_steps)

pub choice_behind-returns-in_err-test-clause-shorter : goal.choice_behind-returns-in_err-test-clause-shorter
choice_behind-returns-in_err-test-clause-shorter t c = grind (arith, common_steps)

pub choice_behind-returns-clause-shorter : goal.choice_behind-returns-clause-shorter
choice_behind-returns-clause-shorter t c = grind (arith, common_steps)

pub for_loop-returns-in_err-clauses-clause-shorter : goal.for_loop-returns-in_err-clauses-clause-shorter
for_loop-returns-in_err-clauses-clause-shorter t c = grind (arith, common_steps)

pub for_loop-body-requires : goal.for_loop-body-requires
for_loop-body-requires t c = grind (arith, common_steps)

pub for_loop-returns-in_err-clauses-2-clause-shorter : goal.for_loop-returns-in_err-clauses-2-clause-shorter
for_loop-returns-in_err-clauses-2-clause-shorter t c = grind (arith, common_steps)

pub for_loop-returns-clause-shorter : goal.for_loop-returns-clause-shorter
for_loop-returns-clause-shorter t c = grind (arith, common_steps)

pub marked_statement-parts-requires : goal.marked_statement-parts-requires
marked_statement-parts-requires t c = grind (arith, common_steps)

pub marked_statement-returns-in_err-parts-in-OpenBrace-clause-shorter : goal.marked_statement-returns-in_err-parts-in-OpenBrace-clause-shorter
marked_statement-returns-in_err-parts-in-OpenBrace-clause-shorter t c = grind (arith, common_steps)

pub marked_statement-choice-requires : goal.marked_statement-choice-requires
marked_statement-choice-requires t c = grind (arith, common_steps)

pub marked_statement-while_loop-requires : goal.marked_statement-while_loop-requires
marked_statement-while_loop-requires t c = grind (arith, common_steps)

pub marked_statement-while_loop-requires-in-MarkedWhile : goal.marked_statement-while_loop-requires-in-MarkedWhile
marked_statement-while_loop-requires-in-MarkedWhile t c = grind (arith, common_steps)

pub marked_statement-for_loop-requires : goal.marked_statement-for_loop-requires
marked_statement-for_loop-requires t c = grind (arith, common_steps)

pub marked_statement-for_loop-requires-in-MarkedFor : goal.marked_statement-for_loop-requires-in-MarkedFor
marked_statement-for_loop-requires-in-MarkedFor t c = grind (arith, common_steps)

pub marked_statement-returns-in-Semicolon-clause-shorter : goal.marked_statement-returns-in-Semicolon-clause-shorter
marked_statement-returns-in-Semicolon-clause-shorter t c = grind (arith, common_steps)

pub marked_statement-returns-in_ok-parts-in-OpenBrace-clause-shorter : goal.marked_statement-returns-in_ok-parts-in-OpenBrace-clause-shorter
marked_statement-returns-in_ok-parts-in-OpenBrace-clause-shorter t c = grind (arith, common_steps)

pub marked_statement-returns-in-Print-clause-shorter : goal.marked_statement-returns-in-Print-clause-shorter
marked_statement-returns-in-Print-clause-shorter t c = grind (arith, common_steps)

pub marked_statement-returns-in-Emit-clause-shorter : goal.marked_statement-returns-in-Emit-clause-shorter
marked_statement-returns-in-Emit-clause-shorter t c = grind (arith, common_steps)

pub marked_statement-returns-in-If-clause-shorter : goal.marked_statement-returns-in-If-clause-shorter
marked_statement-returns-in-If-clause-shorter t c = grind (arith, common_steps)

pub marked_statement-returns-in-While-clause-shorter : goal.marked_statement-returns-in-While-clause-shorter
marked_statement-returns-in-While-clause-shorter t c = grind (arith, common_steps)

pub marked_statement-returns-in-MarkedWhile-clause-shorter : goal.marked_statement-returns-in-MarkedWhile-clause-shorter
marked_statement-returns-in-MarkedWhile-clause-shorter t c = grind (arith, common_steps)

pub marked_statement-returns-in-For-clause-shorter : goal.marked_statement-returns-in-For-clause-shorter
marked_statement-returns-in-For-clause-shorter t c = grind (arith, common_steps)

pub marked_statement-returns-in-MarkedFor-clause-shorter : goal.marked_statement-returns-in-MarkedFor-clause-shorter
marked_statement-returns-in-MarkedFor-clause-shorter t c = grind (arith, common_steps)

pub marked_statement-returns-in-Break-clause-shorter : goal.marked_statement-returns-in-Break-clause-shorter
marked_statement-returns-in-Break-clause-shorter t c = on_ok_weaker c.closed.result (λ h. omega (arith, h)) c.closed.ensures.shorter

pub marked_statement-returns-in-Continue-clause-shorter : goal.marked_statement-returns-in-Continue-clause-shorter
marked_statement-returns-in-Continue-clause-shorter t c = on_ok_weaker c.closed-in-Continue.result (λ h. omega (arith, h)) c.closed-in-Continue.ensures.shorter

pub marked_statement-returns-in-Return-clause-shorter : goal.marked_statement-returns-in-Return-clause-shorter
marked_statement-returns-in-Return-clause-shorter t c = grind (arith, common_steps)

pub part-statement-requires : goal.part-statement-requires
part-statement-requires t c = grind (arith, common_steps)

pub parts-part-requires : goal.parts-part-requires
parts-part-requires t c = grind (arith, common_steps)

pub some_statement-marked_statement-requires : goal.some_statement-marked_statement-requires
some_statement-marked_statement-requires t c = grind (arith, common_steps)

pub some_statement-returns-in-None-clause-shorter : goal.some_statement-returns-in-None-clause-shorter
some_statement-returns-in-None-clause-shorter t c = grind (arith, common_steps)

pub some_statement-returns-in-Number-clause-shorter : goal.some_statement-returns-in-Number-clause-shorter
some_statement-returns-in-Number-clause-shorter t c = grind (arith, common_steps)

pub some_statement-returns-in-Name-clause-shorter : goal.some_statement-returns-in-Name-clause-shorter
some_statement-returns-in-Name-clause-shorter t c = grind (arith, common_steps)

pub some_statement-returns-in-Mark-clause-shorter : goal.some_statement-returns-in-Mark-clause-shorter
some_statement-returns-in-Mark-clause-shorter t c = grind (arith, common_steps)

pub statement-returns-then-room-eq0-clause-shorter : goal.statement-returns-then-room-eq0-clause-shorter
statement-returns-then-room-eq0-clause-shorter t c = grind (arith, common_steps)

pub statement-overflow_sub-room : goal.statement-overflow_sub-room
statement-overflow_sub-room t c = grind (arith, common_steps)

pub statement-some_statement-requires : goal.statement-some_statement-requires
statement-some_statement-requires t c = grind (arith, common_steps)

pub statement-returns-clause-shorter : goal.statement-returns-clause-shorter
statement-returns-clause-shorter t c = grind (arith, common_steps)

pub while_loop-returns-in_err-test-clause-shorter : goal.while_loop-returns-in_err-test-clause-shorter
while_loop-returns-in_err-test-clause-shorter t c = grind (arith, common_steps)

pub while_loop-body-requires : goal.while_loop-body-requires
while_loop-body-requires t c = grind (arith, common_steps)

pub while_loop-returns-in_err-test-2-clause-shorter : goal.while_loop-returns-in_err-test-2-clause-shorter
while_loop-returns-in_err-test-2-clause-shorter t c = grind (arith, common_steps)

pub while_loop-returns-clause-shorter : goal.while_loop-returns-clause-shorter
while_loop-returns-clause-shorter t c = grind (arith, common_steps)

pub marked_statement-returns-in-Print-clause-read : goal.marked_statement-returns-in-Print-clause-read
unfolding marked_stmt_at
marked_statement-returns-in-Print-clause-read t c = rw (c.in-Print.is) c.print.ensures.read

pub marked_statement-returns-in-Emit-clause-read : goal.marked_statement-returns-in-Emit-clause-read
unfolding marked_stmt_at
marked_statement-returns-in-Emit-clause-read t c = rw (c.in-Emit.is) c.emit.ensures.read

pub marked_statement-returns-in-If-clause-read : goal.marked_statement-returns-in-If-clause-read
unfolding marked_stmt_at
marked_statement-returns-in-If-clause-read t c = rw (c.in-If.is) c.choice.ensures.read

pub marked_statement-returns-in-While-clause-read : goal.marked_statement-returns-in-While-clause-read
unfolding marked_stmt_at
marked_statement-returns-in-While-clause-read t c = rw (c.in-While.is) c.while_loop.ensures.read

pub marked_statement-returns-in-MarkedWhile-clause-read : goal.marked_statement-returns-in-MarkedWhile-clause-read
unfolding marked_stmt_at
marked_statement-returns-in-MarkedWhile-clause-read t c = rw (c.in-MarkedWhile.is) c.while_loop-in-MarkedWhile.ensures.read

pub marked_statement-returns-in-Do-clause-read : goal.marked_statement-returns-in-Do-clause-read
unfolding marked_stmt_at
marked_statement-returns-in-Do-clause-read t c = rw (c.in-Do.is) c.do_loop.ensures.read

pub marked_statement-returns-in-For-clause-read : goal.marked_statement-returns-in-For-clause-read
unfolding marked_stmt_at
marked_statement-returns-in-For-clause-read t c = rw (c.in-For.is) c.for_loop.ensures.read

pub marked_statement-returns-in-MarkedFor-clause-read : goal.marked_statement-returns-in-MarkedFor-clause-read
unfolding marked_stmt_at
marked_statement-returns-in-MarkedFor-clause-read t c = rw (c.in-MarkedFor.is) c.for_loop-in-MarkedFor.ensures.read

pub marked_statement-returns-in-Break-clause-read : goal.marked_statement-returns-in-Break-clause-read
unfolding marked_stmt_at break_at
marked_statement-returns-in-Break-clause-read t c =
    rw (c.in-Break.is) (closed_gives stmt_of _ c.args.self.now c.closed.new.self (Ok (Break c.args.pos, c.args.self.now)) mark.Semicolon c.closed.result refl c.closed.ensures.given c.closed.ensures.refused)

pub marked_statement-returns-in-Continue-clause-read : goal.marked_statement-returns-in-Continue-clause-read
unfolding marked_stmt_at continue_at
marked_statement-returns-in-Continue-clause-read t c =
    rw (c.in-Continue.is) (closed_gives stmt_of _ c.args.self.now c.closed-in-Continue.new.self (Ok (Continue c.args.pos, c.args.self.now)) mark.Semicolon c.closed-in-Continue.result refl c.closed-in-Continue.ensures.given c.closed-in-Continue.ensures.refused)

pub marked_statement-returns-in-Return-clause-read : goal.marked_statement-returns-in-Return-clause-read
unfolding marked_stmt_at
marked_statement-returns-in-Return-clause-read t c = rw (c.in-Return.is) c.return_statement.ensures.read

pub marked_statement-returns-in-Do-clause-shorter : goal.marked_statement-returns-in-Do-clause-shorter
marked_statement-returns-in-Do-clause-shorter t c = c.do_loop.ensures.shorter

pub marked_statement-returns-in-Semicolon-clause-read : goal.marked_statement-returns-in-Semicolon-clause-read
unfolding marked_stmt_at
marked_statement-returns-in-Semicolon-clause-read t c = rw (c.in-Semicolon.is) refl

pub marked_statement-returns-in_err-parts-in-OpenBrace-clause-read : goal.marked_statement-returns-in_err-parts-in-OpenBrace-clause-read
unfolding marked_stmt_at block_at
marked_statement-returns-in_err-parts-in-OpenBrace-clause-read t c =
    let p = err_from_is_err_and c.from_residual.result c.from_residual.ensures.1 in
    rw (c.in-OpenBrace.is, p.1, p.2) (fails_then c.in_err-parts-in-OpenBrace.field-0.0 (parts_at c.args.room (stmt_at c.args.room) c.args.self.now) (λ ps. Ok (Block (parts ps.0), ps.1)) c.in_err-parts-in-OpenBrace.ensures.read)

pub marked_statement-returns-in_ok-parts-in-OpenBrace-clause-read : goal.marked_statement-returns-in_ok-parts-in-OpenBrace-clause-read
unfolding marked_stmt_at block_at
marked_statement-returns-in_ok-parts-in-OpenBrace-clause-read t c = rw (c.in-OpenBrace.is, c.in_ok-parts-in-OpenBrace.ensures.read, c.block.ensures) refl

pub choice-returns-in_err-test-2-clause-read : goal.choice-returns-in_err-test-2-clause-read
unfolding if_at
choice-returns-in_err-test-2-clause-read t c =
    let p = err_from_is_err_and c.from_residual-in_err-test-2.result c.from_residual-in_err-test-2.ensures.1 in
    let h = rw (c.in_err-test-2.ensures) at c.body.ensures.read in
    rw (p.1, p.2, c.in_ok-test.ensures.read) (fails_then c.in_err-test-2.field-0.0 (stmt_at c.args.room c.in_parens.new.self) (λ s. else_at (stmt_at c.args.room) (expr_of c.in_ok-test.test) s.0 s.1) h)

pub choice_behind-returns-in_err-test-clause-read : goal.choice_behind-returns-in_err-test-clause-read
unfolding else_at
choice_behind-returns-in_err-test-clause-read t c =
    let p = err_from_is_err_and c.from_residual.result c.from_residual.ensures.1 in
    let h = rw (c.in_err-test.ensures) at c.body.ensures.read in
    rw (p.1, p.2, c.if-take.ensures) (fails_then c.in_err-test.field-0.0 (stmt_at c.args.room c.take.new.self) (λ s. Ok (IfElse (expr_of c.args.test) (stmt_of c.args.body.value) s.0, s.1)) h)

pub choice_behind-returns-then-take-clause-read : goal.choice_behind-returns-then-take-clause-read
unfolding else_at
choice_behind-returns-then-take-clause-read t c =
    let other = rw (c.in_ok-test.ensures.1) at c.body.ensures.read in
    let held = c.in_ok-test.ensures.0 in
    rw (c.if-take.ensures, other, ap (λ two. two.0) held, ap (λ two. two.1) held) refl

pub choice_behind-returns-then-take-clause-shorter : goal.choice_behind-returns-then-take-clause-shorter
choice_behind-returns-then-take-clause-shorter t c =
    let other = rw (c.in_ok-test.ensures.1) at c.body.ensures.shorter in
    omega (arith, behind_shorter mark.Else c.args.self.now c.take.new.self c.if-take.ensures, other)

pub choice_behind-returns-clause-read : goal.choice_behind-returns-clause-read
unfolding else_at
choice_behind-returns-clause-read t c = rw (c.if-take.ensures.0, c.if-take.ensures.1) refl

pub for_loop-returns-in_err-clauses-clause-read : goal.for_loop-returns-in_err-clauses-clause-read
unfolding for_at
for_loop-returns-in_err-clauses-clause-read t c =
    let p = err_from_is_err_and c.from_residual.result c.from_residual.ensures.1 in
    rw (p.1, p.2) (fails_then c.in_err-clauses.field-0.0 (for_clauses_at c.args.room c.args.self.now) (λ x. stmt_at c.args.room x.1 >>= λ s. Ok (For c.args.is_marked x.0 s.0, s.1)) c.in_err-clauses.ensures.read)

pub for_loop-returns-in_err-clauses-2-clause-read : goal.for_loop-returns-in_err-clauses-2-clause-read
unfolding for_at
for_loop-returns-in_err-clauses-2-clause-read t c =
    let p = err_from_is_err_and c.from_residual-in_err-clauses-2.result c.from_residual-in_err-clauses-2.ensures.1 in
    let h = rw (c.in_err-clauses-2.ensures) at c.body.ensures.read in
    rw (p.1, p.2, c.in_ok-clauses.ensures.read) (fails_then c.in_err-clauses-2.field-0.0 (stmt_at c.args.room c.for_clauses.new.self) (λ s. Ok (For c.args.is_marked (for_clauses_of c.in_ok-clauses.clauses) s.0, s.1)) h)

pub while_loop-returns-in_err-test-clause-read : goal.while_loop-returns-in_err-test-clause-read
unfolding while_at
while_loop-returns-in_err-test-clause-read t c =
    let p = err_from_is_err_and c.from_residual.result c.from_residual.ensures.1 in
    rw (p.1, p.2) (fails_then c.in_err-test.field-0.0 (in_parens_at c.args.room c.args.self.now) (λ x. stmt_at c.args.room x.1 >>= λ s. Ok (While c.args.is_marked x.0 s.0, s.1)) c.in_err-test.ensures.read)

pub while_loop-returns-in_err-test-2-clause-read : goal.while_loop-returns-in_err-test-2-clause-read
unfolding while_at
while_loop-returns-in_err-test-2-clause-read t c =
    let p = err_from_is_err_and c.from_residual-in_err-test-2.result c.from_residual-in_err-test-2.ensures.1 in
    let h = rw (c.in_err-test-2.ensures) at c.body.ensures.read in
    rw (p.1, p.2, c.in_ok-test.ensures.read) (fails_then c.in_err-test-2.field-0.0 (stmt_at c.args.room c.in_parens.new.self) (λ s. Ok (While c.args.is_marked (expr_of c.in_ok-test.test) s.0, s.1)) h)

pub part-returns-in_err-locals-clause-read : goal.part-returns-in_err-locals-clause-read
unfolding part_at
part-returns-in_err-locals-clause-read t c =
    let p = err_from_is_err_and c.from_residual.result c.from_residual.ensures.1 in
    rw (p.1, p.2, c.if-take.ensures) (open_fails _ c.locals-locals.result c.locals-locals.new.self (locals_at c.args.room c.take.new.self) mark.Semicolon (λ ds to. Ok (Locals ds.0, to)) c.in_err-locals.field-0.0 c.locals-locals.ensures.read c.in_err-locals.ensures.refused)

pub part-returns-then-take-clause-read : goal.part-returns-then-take-clause-read
unfolding part_at
part-returns-then-take-clause-read t c =
    let given = c.in_ok-locals.ensures.given in
    let locals = rw (given.0) at c.locals-locals.ensures.read in
    rw (c.if-take.ensures, locals, given.1) refl

pub part-returns-then-take-clause-shorter : goal.part-returns-then-take-clause-shorter
part-returns-then-take-clause-shorter t c =
    let locals = rw (c.in_ok-locals.ensures.given.0) at c.locals-locals.ensures.shorter in
    omega (arith, behind_shorter mark.Int c.args.self.now c.take.new.self c.if-take.ensures, locals, c.in_ok-locals.ensures.shorter)

pub part-returns-in_err-statement-clause-read : goal.part-returns-in_err-statement-clause-read
unfolding part_at
part-returns-in_err-statement-clause-read t c =
    let p = err_from_is_err_and c.from_residual-in_err-statement.result c.from_residual-in_err-statement.ensures.1 in
    let h = rw (c.if-take.ensures.1) at c.in_err-statement.ensures.read in
    rw (p.1, p.2, c.if-take.ensures.0) (fails_then c.in_err-statement.field-0.0 (stmt_at c.args.room c.args.self.now) (λ s. Ok (Statement s.0, s.1)) h)

pub part-returns-clause-read : goal.part-returns-clause-read
unfolding part_at
part-returns-clause-read t c =
    let statement = rw (c.if-take.ensures.1) at c.in_ok-statement.ensures.read in
    rw (c.if-take.ensures.0, statement) refl

pub part-returns-clause-shorter : goal.part-returns-clause-shorter
part-returns-clause-shorter t c = rw (c.if-take.ensures.1) at c.in_ok-statement.ensures.shorter

pub statement-returns-then-room-eq0-clause-read : goal.statement-returns-then-room-eq0-clause-read
statement-returns-then-room-eq0-clause-read t c = rw (c.if-room-eq0.true) (stmt_zero c.args.self.now)

pub statement-returns-clause-read : goal.statement-returns-clause-read
statement-returns-clause-read t c = rw (stmt_is c.args.room c.args.self.now (omega arith)) c.some_statement.ensures.read

pub do_loop-returns-in_err-body-2-clause-read : goal.do_loop-returns-in_err-body-2-clause-read
unfolding do_at
do_loop-returns-in_err-body-2-clause-read t c =
    let p = err_from_is_err_and c.from_residual-in_err-body-2.result c.from_residual-in_err-body-2.ensures.1 in
    let body = rw (c.in_ok-body.ensures.given.0) at c.body-body.ensures.read in
    let h = rw (c.in_err-body-2.ensures) at c.closed-2.ensures.refused in
    rw (p.1, p.2, body, c.in_ok-body.ensures.given.1)
    (open_fails expr_of c.in_parens-test.result c.in_parens-test.new.self (in_parens_at c.args.room c.closed.new.self) mark.Semicolon (λ e to. Ok (DoWhile (stmt_of c.in_ok-body.body.value) e.0, to)) c.in_err-body-2.field-0.0 c.in_parens-test.ensures.read h)

pub do_loop-returns-clause-read : goal.do_loop-returns-clause-read
unfolding do_at
do_loop-returns-clause-read t c =
    let body = rw (c.in_ok-body.ensures.given.0) at c.body-body.ensures.read in
    let given = rw (c.in_ok-body-2.ensures.1) at c.closed-2.ensures.given in
    let test = rw (given.0) at c.in_parens-test.ensures.read in
    rw (body, c.in_ok-body.ensures.given.1, test, given.1, c.in_ok-body-2.ensures.0) refl

pub do_loop-returns-clause-shorter : goal.do_loop-returns-clause-shorter
do_loop-returns-clause-shorter t c =
    let body = rw (c.in_ok-body.ensures.given.0) at c.body-body.ensures.shorter in
    let given = rw (c.in_ok-body-2.ensures.1) at c.closed-2.ensures.given in
    let test = rw (given.0) at c.in_parens-test.ensures.shorter in
    let closed = rw (c.in_ok-body-2.ensures.1) at c.closed-2.ensures.shorter in
    omega (arith, body, c.in_ok-body.ensures.shorter, test, closed)
