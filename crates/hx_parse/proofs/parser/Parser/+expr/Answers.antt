use Rattle.std.proofs.lemmas.Grind.{common_steps}
use Rattle.std.proofs.Common.{◌≡◌, ◌<◌, [], ◌∷◌, ◌++◌, map, length, Ok, refl, ap, ◌∙◌, arith}
use Rattle.std.proofs.lemmas.Result.{err_from_is_err_and, on_ok_weaker}
use Rattle.std.proofs.lemmas.List.{map_push}
use Rattle.hx_tree.specs.declared.token.Mark.TheVariants as mark
use Rattle.hx_tree.specs.Tree.{Expr, Element, Call, Paren, Conditional, exprs}
use Rattle.hx_tree.specs.View.{expr_of}
use Rattle.hx_tree.specs.Height.{height}
use Rattle.hx_grammar.specs.Reading.{◌>>=◌, listed, arguments_at, named_at, marked_at, arms_at, expr_at}
use Rattle.hx_parse.specs.declared.expressions.Measured.{Measured}
use Rattle.hx_parse.specs.Gives.{name_in}
use Rattle.hx_parse.proofs.Marks.{behind_shorter, operator_shorter}
use Rattle.hx_parse.proofs.Loops.{fails_then, open_fails, listed_no_first, commas_end, commas_go_on, commas_fail, no_arguments, arguments_are, arguments_fail, arguments_stay_open, chain_begins, chain_no_operand, chain_ends, chain_too_deep, chain_goes_on, chain_no_right, heights-push, no_room, no_test, no_choice, no_question, test_too_high, choice_is}
use Rattle.hx_parse.proofs.parser.Parser.+expr.Goals.{expr-then-layer-lt-ALL-via-then-layer-lt-ALL, expr-then-layer-lt-ALL-via-else-layer-lt-ALL+then-not-take}
use Rattle.hx_parse.proofs.parser.Parser.+expr.Goals as goal

abbrev made_of : Measured → Expr
made_of s = expr_of s.expr

pub expr-returns-then-room-eq0-clause-read : goal.expr-returns-then-room-eq0-clause-read
expr-returns-then-room-eq0-clause-read t c = rw (c.if-room-eq0.true) (no_room c.args.layer c.args.self.now)

pub expr-returns-in_err-test-clause-read : goal.expr-returns-in_err-test-clause-read
expr-returns-in_err-test-clause-read t c =
    let p = err_from_is_err_and c.from_residual.result c.from_residual.ensures.1 in
    rw (p.1, p.2) (no_test c.in_err-test.field-0.0 c.args.room c.args.layer c.args.self.now (omega arith) c.in_err-test.ensures.read)

pub expr-returns-then-layer-lt-ALL-clause-read : goal.expr-returns-then-layer-lt-ALL-clause-read
expr-returns-then-layer-lt-ALL-clause-read t c =
    elim c.then-layer-lt-ALL.branch [
      | expr-then-layer-lt-ALL-via-then-layer-lt-ALL w ↦
          rw w.self-is (no_choice c.args.room c.args.layer c.args.self.now c.chained.new.self (expr_of c.in_ok-test.test.expr) (omega arith) c.in_ok-test.ensures.read (omega (arith, w.if-layer-lt-ALL.true)))
      | expr-then-layer-lt-ALL-via-else-layer-lt-ALL+then-not-take w ↦
          rw (w.self-is, w.if-not-take.ensures.1) (no_question c.args.room c.args.layer c.args.self.now c.chained.new.self (expr_of c.in_ok-test.test.expr) (omega arith) c.in_ok-test.ensures.read w.if-not-take.ensures.0)
    ]

pub expr-returns-then-test-room-clause-read : goal.expr-returns-then-test-room-clause-read
expr-returns-then-test-room-clause-read t c =
    test_too_high c.args.room c.args.layer c.args.self.now c.chained.new.self c.take.new.self (expr_of c.in_ok-test.test.expr) (omega arith) c.in_ok-test.ensures.read (omega arith) c.if-not-take.ensures
    (omega (arith, c.if-test-room.true, c.in_ok-test.ensures.height.0))

pub expr-returns-clause-read : goal.expr-returns-clause-read
expr-returns-clause-read t c =
    let low : height (expr_of c.in_ok-test.test.expr) < c.args.room = omega (arith, c.if-test-room.false, c.in_ok-test.ensures.height.0, c.in_ok-test.ensures.height.1) in
    rw (choice_is c.args.room c.args.layer c.args.self.now c.chained.new.self c.take.new.self (expr_of c.in_ok-test.test.expr) (omega arith) c.in_ok-test.ensures.read (omega arith) c.if-not-take.ensures low) c.arms.ensures.read

pub expr-returns-clause-shorter : goal.expr-returns-clause-shorter
expr-returns-clause-shorter t c =
    on_ok_weaker c.arms.result (λ h. omega (arith, h, behind_shorter mark.Question c.chained.new.self c.take.new.self c.if-not-take.ensures, c.in_ok-test.ensures.shorter)) c.arms.ensures.shorter

pub chained-returns-in_err-left-clause-read : goal.chained-returns-in_err-left-clause-read
chained-returns-in_err-left-clause-read t c =
    let p = err_from_is_err_and c.from_residual.result c.from_residual.ensures.1 in
    rw (p.1, p.2) (chain_no_operand c.in_err-left.field-0.0 c.args.room c.args.layer c.args.self.now c.in_err-left.ensures.read)

pub chained-loop-op-init : goal.chained-loop-op-init
chained-loop-op-init t c = record {
  chained = chain_begins c.args.room c.args.layer c.args.self.now c.operand.new.self (expr_of c.in_ok-left.left.expr) c.in_ok-left.ensures.read;
  is_height = c.in_ok-left.ensures.height.0;
  is_low = omega (arith, c.in_ok-left.ensures.height.1);
  is_shorter = c.in_ok-left.ensures.shorter;
  is_room = omega arith;
}

pub chained-loop-op-preserved : goal.chained-loop-op-preserved
chained-loop-op-preserved t c =
    let low : height (expr_of c.loop-op.left.expr) < c.args.room = omega arith in
    record {
      chained = rw (c.in_ok-left-2.ensures.tree) (chain_goes_on c.args.room c.args.layer c.args.self.now c.loop-op.self c.take_operator.new.self c.expr.new.self (expr_of c.loop-op.left.expr) (expr_of c.in_ok-right.right.expr) c.in-Some.op c.in-Some.pos c.loop-op.invariant.chained c.in-Some.ensures low (rw (← c.layer_of.ensures) c.in_ok-right.ensures.read));
      is_height = rw (c.in_ok-left-2.ensures.tree) (omega (arith, c.in_ok-left-2.ensures.height, c.in_ok-right.ensures.height.0));
      is_low = omega (arith, c.in_ok-left-2.ensures.height, c.in_ok-right.ensures.height.1);
      is_shorter = omega (arith, operator_shorter c.args.layer c.loop-op.self c.take_operator.new.self c.in-Some.op c.in-Some.pos c.in-Some.ensures, c.in_ok-right.ensures.shorter);
      is_room = omega arith;
    }

pub chained-returns-then-left-room-clause-read : goal.chained-returns-then-left-room-clause-read
chained-returns-then-left-room-clause-read t c =
    chain_too_deep c.args.room c.args.layer c.args.self.now c.loop-op.self c.take_operator.new.self (expr_of c.loop-op.left.expr) c.in-Some.op c.in-Some.pos c.loop-op.invariant.chained c.in-Some.ensures (omega arith)

pub chained-returns-in_err-right-clause-read : goal.chained-returns-in_err-right-clause-read
chained-returns-in_err-right-clause-read t c =
    let low : height (expr_of c.loop-op.left.expr) < c.args.room = omega arith in
    let p = err_from_is_err_and c.from_residual-in_err-right.result c.from_residual-in_err-right.ensures.1 in
    rw (p.1, p.2) (chain_no_right c.in_err-right.field-0.0 c.args.room c.args.layer c.args.self.now c.loop-op.self c.take_operator.new.self (expr_of c.loop-op.left.expr) c.in-Some.op c.in-Some.pos c.loop-op.invariant.chained c.in-Some.ensures low (rw (← c.layer_of.ensures) c.in_err-right.ensures.read))

pub chained-returns-clause-read : goal.chained-returns-clause-read
chained-returns-clause-read t c =
    rw (c.in_default.ensures.1) (chain_ends c.args.room c.args.layer c.args.self.now c.loop-op.self (expr_of c.loop-op.left.expr) c.loop-op.invariant.chained c.in_default.ensures.0)

pub arguments-returns-then-take-clause-read : goal.arguments-returns-then-take-clause-read
arguments-returns-then-take-clause-read t c = rw (c.new-all.ensures.items) (no_arguments (expr_at c.args.room) c.args.self.now c.take.new.self c.if-take.ensures)

pub arguments-returns-then-take-clause-shorter : goal.arguments-returns-then-take-clause-shorter
arguments-returns-then-take-clause-shorter t c = omega (arith, behind_shorter mark.CloseParen c.args.self.now c.take.new.self c.if-take.ensures)

pub arguments-returns-in_err-first-clause-read : goal.arguments-returns-in_err-first-clause-read
arguments-returns-in_err-first-clause-read t c =
    let p = err_from_is_err_and c.from_residual.result c.from_residual.ensures.1 in
    rw (p.1, p.2) (arguments_fail c.in_err-first.field-0.0 (expr_at c.args.room) c.args.self.now c.if-take.ensures.0 (listed_no_first c.in_err-first.field-0.0 (expr_at c.args.room 11) c.args.self.now (rw (c.if-take.ensures.1) at c.in_err-first.ensures.read)))

pub arguments-loop-self-smaller : goal.arguments-loop-self-smaller
arguments-loop-self-smaller t c = omega (arith, behind_shorter mark.Comma c.loop-self.self c.take-in-loop-self.new.self c.loop-self-test.ensures, c.in_ok-next.ensures.shorter)

pub arguments-loop-self-preserved : goal.arguments-loop-self-preserved
arguments-loop-self-preserved t c =
    let e : map expr_of c.push-in-loop-self.new.self.items ≡ map expr_of c.loop-self.all.items ++ expr_of c.in_ok-next.next.expr ∷ [] = rw c.in_ok-push-2.ensures.items (map_push _ c.loop-self.all.items c.in_ok-next.next.expr) in
    record {
      goes = rw e (commas_go_on (expr_at c.args.room 11) (listed (expr_at c.args.room 11) c.args.self.now) (map expr_of c.loop-self.all.items) (expr_of c.in_ok-next.next.expr) c.loop-self.self c.take-in-loop-self.new.self c.expr-in-loop-self.new.self c.loop-self.invariant.goes c.loop-self-test.ensures c.in_ok-next.ensures.read c.in_ok-next.ensures.shorter);
      is_height = rw (e, heights-push) (omega (arith, c.max-height.ensures, c.in_ok-next.ensures.height.0));
      is_low = omega (arith, c.max-height.ensures, c.in_ok-next.ensures.height.1);
      is_shorter = omega (arith, behind_shorter mark.Comma c.loop-self.self c.take-in-loop-self.new.self c.loop-self-test.ensures, c.in_ok-next.ensures.shorter);
    }

pub arguments-returns-in_err-next-clause-read : goal.arguments-returns-in_err-next-clause-read
arguments-returns-in_err-next-clause-read t c =
    let p = err_from_is_err_and c.from_residual-in_err-next.result c.from_residual-in_err-next.ensures.1 in
    rw (p.1, p.2) (arguments_fail c.in_err-next.field-0.0 (expr_at c.args.room) c.args.self.now c.if-take.ensures.0 (commas_fail c.in_err-next.field-0.0 (expr_at c.args.room 11) (listed (expr_at c.args.room 11) c.args.self.now) (map expr_of c.loop-self.all.items) c.loop-self.self c.take-in-loop-self.new.self c.loop-self.invariant.goes c.loop-self-test.ensures c.in_err-next.ensures.read))

pub arguments-returns-in_err-expect-clause-read : goal.arguments-returns-in_err-expect-clause-read
arguments-returns-in_err-expect-clause-read t c =
    let p = err_from_is_err_and c.from_residual-in_err-expect.result c.from_residual-in_err-expect.ensures.1 in
    let h = commas_end (expr_at c.args.room 11) (listed (expr_at c.args.room 11) c.args.self.now) (map expr_of c.loop-self.all.items) c.loop-self.self c.loop-self.invariant.goes c.loop-self-test.ensures.0 in
    rw (p.1, p.2) (arguments_stay_open c.in_err-expect.field-0.0 (expr_at c.args.room) c.args.self.now c.loop-self.self (map expr_of c.loop-self.all.items) c.if-take.ensures.0 h (rw (c.loop-self-test.ensures.1) at c.in_err-expect.ensures.read))

pub arguments-returns-clause-read : goal.arguments-returns-clause-read
arguments-returns-clause-read t c =
    let h = commas_end (expr_at c.args.room 11) (listed (expr_at c.args.room 11) c.args.self.now) (map expr_of c.loop-self.all.items) c.loop-self.self c.loop-self.invariant.goes c.loop-self-test.ensures.0 in
    arguments_are (expr_at c.args.room) c.args.self.now c.loop-self.self c.expect.new.self (map expr_of c.loop-self.all.items) c.if-take.ensures.0 h (rw (c.loop-self-test.ensures.1) at c.in_ok-expect.ensures.read)

pub arguments-returns-clause-shorter : goal.arguments-returns-clause-shorter
arguments-returns-clause-shorter t c = omega (arith, ap length c.loop-self-test.ensures.1, c.in_ok-expect.ensures.shorter)

pub arguments-same-self : goal.arguments-same-self
arguments-same-self t c = grind (arith, common_steps)

pub arguments-returns-then-take-clause-height : goal.arguments-returns-then-take-clause-height
arguments-returns-then-take-clause-height t c = grind (arith, common_steps)

pub arguments-expr-requires : goal.arguments-expr-requires
arguments-expr-requires t c = grind (arith, common_steps)

pub arguments-expr-requires-in-loop-self : goal.arguments-expr-requires-in-loop-self
arguments-expr-requires-in-loop-self t c = grind (arith, common_steps)

pub arguments-returns-clause-height : goal.arguments-returns-clause-height
arguments-returns-clause-height t c = grind (arith, common_steps)

pub expr-returns-then-room-eq0-clause-height : goal.expr-returns-then-room-eq0-clause-height
expr-returns-then-room-eq0-clause-height t c = grind (arith, common_steps)

pub expr-returns-then-room-eq0-clause-shorter : goal.expr-returns-then-room-eq0-clause-shorter
expr-returns-then-room-eq0-clause-shorter t c = grind (arith, common_steps)

pub chained-overflow_sub-room : goal.chained-overflow_sub-room
chained-overflow_sub-room t c = grind (arith, common_steps)

pub chained-operand-requires : goal.chained-operand-requires
chained-operand-requires t c = grind (arith, common_steps)

pub chained-returns-then-left-room-clause-height : goal.chained-returns-then-left-room-clause-height
chained-returns-then-left-room-clause-height t c = grind (arith, common_steps)

pub chained-returns-then-left-room-clause-shorter : goal.chained-returns-then-left-room-clause-shorter
chained-returns-then-left-room-clause-shorter t c = grind (arith, common_steps)

pub chained-overflow_sub-layer_of : goal.chained-overflow_sub-layer_of
chained-overflow_sub-layer_of t c = grind (arith, common_steps)

pub chained-overflow_sub-room-in-Some : goal.chained-overflow_sub-room-in-Some
chained-overflow_sub-room-in-Some t c = grind (arith, common_steps)

pub chained-expr-requires : goal.chained-expr-requires
chained-expr-requires t c = grind (arith, common_steps)

pub chained-binary-requires-clause-left : goal.chained-binary-requires-clause-left
chained-binary-requires-clause-left t c = grind (arith, common_steps)

pub chained-binary-requires-clause-right : goal.chained-binary-requires-clause-right
chained-binary-requires-clause-right t c = grind (arith, common_steps)

pub chained-same-self : goal.chained-same-self
chained-same-self t c = grind (arith, common_steps)

pub chained-same-self-in-Some : goal.chained-same-self-in-Some
chained-same-self-in-Some t c = grind (arith, common_steps)

pub chained-loop-op-smaller : goal.chained-loop-op-smaller
chained-loop-op-smaller t c = grind (arith, common_steps)

pub chained-returns-clause-height : goal.chained-returns-clause-height
chained-returns-clause-height t c = grind (arith, common_steps)

pub chained-returns-clause-shorter : goal.chained-returns-clause-shorter
chained-returns-clause-shorter t c = grind (arith, common_steps)

pub marked-overflow_add-result : goal.marked-overflow_add-result
marked-overflow_add-result t c = grind (arith, common_steps)

pub marked-same-self : goal.marked-same-self
marked-same-self t c = grind (arith, common_steps)

pub marked-same-self-in-OpenParen : goal.marked-same-self-in-OpenParen
marked-same-self-in-OpenParen t c = grind (arith, common_steps)

pub marked-unary-requires : goal.marked-unary-requires
marked-unary-requires t c = grind (arith, common_steps)

pub marked-unary-requires-in-Tilde : goal.marked-unary-requires-in-Tilde
marked-unary-requires-in-Tilde t c = grind (arith, common_steps)

pub marked-unary-requires-in-Exclamation : goal.marked-unary-requires-in-Exclamation
marked-unary-requires-in-Exclamation t c = grind (arith, common_steps)

pub marked-returns-in_ok-new-in-OpenParen-clause-height : goal.marked-returns-in_ok-new-in-OpenParen-clause-height
marked-returns-in_ok-new-in-OpenParen-clause-height t c = grind (arith, common_steps)

pub marked-returns-in_ok-new-in-OpenParen-clause-shorter : goal.marked-returns-in_ok-new-in-OpenParen-clause-shorter
marked-returns-in_ok-new-in-OpenParen-clause-shorter t c = grind (arith, common_steps)

pub marked-returns-in-Minus-clause-height : goal.marked-returns-in-Minus-clause-height
marked-returns-in-Minus-clause-height t c = grind (arith, common_steps)

pub marked-returns-in-Minus-clause-shorter : goal.marked-returns-in-Minus-clause-shorter
marked-returns-in-Minus-clause-shorter t c = grind (arith, common_steps)

pub marked-returns-in-Tilde-clause-height : goal.marked-returns-in-Tilde-clause-height
marked-returns-in-Tilde-clause-height t c = grind (arith, common_steps)

pub marked-returns-in-Tilde-clause-shorter : goal.marked-returns-in-Tilde-clause-shorter
marked-returns-in-Tilde-clause-shorter t c = grind (arith, common_steps)

pub marked-returns-in-Exclamation-clause-height : goal.marked-returns-in-Exclamation-clause-height
marked-returns-in-Exclamation-clause-height t c = grind (arith, common_steps)

pub marked-returns-in-Exclamation-clause-shorter : goal.marked-returns-in-Exclamation-clause-shorter
marked-returns-in-Exclamation-clause-shorter t c = grind (arith, common_steps)

pub named-overflow_add-result : goal.named-overflow_add-result
named-overflow_add-result t c = grind (arith, common_steps)

pub named-same-self : goal.named-same-self
named-same-self t c = grind (arith, common_steps)

pub named-same-self-then-take : goal.named-same-self-then-take
named-same-self-then-take t c = grind (arith, common_steps)

pub named-returns-then-take-clause-height : goal.named-returns-then-take-clause-height
named-returns-then-take-clause-height t c = grind (arith, common_steps)

pub named-arguments-requires : goal.named-arguments-requires
named-arguments-requires t c = grind (arith, common_steps)

pub named-overflow_add-result-then-take-2 : goal.named-overflow_add-result-then-take-2
named-overflow_add-result-then-take-2 t c = grind (arith, common_steps)

pub named-returns-then-take-2-clause-height : goal.named-returns-then-take-2-clause-height
named-returns-then-take-2-clause-height t c = grind (arith, common_steps)

pub named-returns-clause-height : goal.named-returns-clause-height
named-returns-clause-height t c = grind (arith, common_steps)

pub named-returns-clause-shorter : goal.named-returns-clause-shorter
named-returns-clause-shorter t c = grind (arith, common_steps)

pub operand-named-requires : goal.operand-named-requires
operand-named-requires t c = grind (arith, common_steps)

pub operand-marked-requires : goal.operand-marked-requires
operand-marked-requires t c = grind (arith, common_steps)

pub operand-returns-in-None-clause-height : goal.operand-returns-in-None-clause-height
operand-returns-in-None-clause-height t c = grind (arith, common_steps)

pub operand-returns-in-None-clause-shorter : goal.operand-returns-in-None-clause-shorter
operand-returns-in-None-clause-shorter t c = grind (arith, common_steps)

pub operand-returns-in-Number-clause-height : goal.operand-returns-in-Number-clause-height
operand-returns-in-Number-clause-height t c = grind (arith, common_steps)

pub operand-returns-in-Number-clause-shorter : goal.operand-returns-in-Number-clause-shorter
operand-returns-in-Number-clause-shorter t c = grind (arith, common_steps)

pub operand-returns-in-Name-clause-height : goal.operand-returns-in-Name-clause-height
operand-returns-in-Name-clause-height t c = grind (arith, common_steps)

pub operand-returns-in-Name-clause-shorter : goal.operand-returns-in-Name-clause-shorter
operand-returns-in-Name-clause-shorter t c = grind (arith, common_steps)

pub operand-returns-in-Mark-clause-height : goal.operand-returns-in-Mark-clause-height
operand-returns-in-Mark-clause-height t c = grind (arith, common_steps)

pub operand-returns-in-Mark-clause-shorter : goal.operand-returns-in-Mark-clause-shorter
operand-returns-in-Mark-clause-shorter t c = grind (arith, common_steps)

pub unary-expr-requires : goal.unary-expr-requires
unary-expr-requires t c = grind (arith, common_steps)

pub unary-overflow_add-result : goal.unary-overflow_add-result
unary-overflow_add-result t c = grind (arith, common_steps)

pub unary-same-self : goal.unary-same-self
unary-same-self t c = grind (arith, common_steps)

pub unary-same-self-2 : goal.unary-same-self-2
unary-same-self-2 t c = grind (arith, common_steps)

pub unary-returns-clause-height : goal.unary-returns-clause-height
unary-returns-clause-height t c = grind (arith, common_steps)

pub unary-returns-clause-shorter : goal.unary-returns-clause-shorter
unary-returns-clause-shorter t c = grind (arith, common_steps)

pub arms-expr-chosen-requires : goal.arms-expr-chosen-requires
arms-expr-chosen-requires t c = grind (arith, common_steps)

pub arms-returns-in_err-test-clause-read : goal.arms-returns-in_err-test-clause-read
unfolding arms_at
arms-returns-in_err-test-clause-read t c =
    let p = err_from_is_err_and c.from_residual.result c.from_residual.ensures.1 in
    let h = rw (c.in_err-test.ensures) at c.closed.ensures.refused in
    rw (p.1, p.2) (open_fails made_of c.expr-chosen.result c.expr-chosen.new.self (expr_at c.args.room 11 c.args.self.now) mark.Colon (λ a rest. expr_at c.args.room 11 rest >>= λ b. Ok (Conditional (expr_of c.args.test.expr) a.0 b.0, b.1)) c.in_err-test.field-0.0 c.expr-chosen.ensures.read h)

pub arms-returns-in_err-test-2-clause-read : goal.arms-returns-in_err-test-2-clause-read
unfolding arms_at
arms-returns-in_err-test-2-clause-read t c =
    let p = err_from_is_err_and c.from_residual-in_err-test-2.result c.from_residual-in_err-test-2.ensures.1 in
    let given = rw (c.in_ok-test.ensures.1) at c.closed.ensures.given in
    let chosen = rw (given.0) at c.expr-chosen.ensures.read in
    let h = rw (c.in_err-test-2.ensures) at c.expr.ensures.read in
    rw (p.1, p.2, chosen, given.1) (fails_then c.in_err-test-2.field-0.0 (expr_at c.args.room 11 c.closed.new.self) (λ b. Ok (Conditional (expr_of c.args.test.expr) (expr_of c.in_ok-test.chosen.expr) b.0, b.1)) h)

pub arms-returns-clause-read : goal.arms-returns-clause-read
unfolding arms_at
arms-returns-clause-read t c =
    let given = rw (c.in_ok-test.ensures.1) at c.closed.ensures.given in
    let chosen = rw (given.0) at c.expr-chosen.ensures.read in
    let other = rw (c.in_ok-test-2.ensures.1) at c.expr.ensures.read in
    let held = c.in_ok-test-2.ensures.0 in
    rw (c.in_ok-conditional.ensures.tree, ap (λ two. two.0) held, ap (λ two. two.1) held, c.in_ok-test.ensures.0, chosen, given.1, other) refl

pub arms-returns-clause-height : goal.arms-returns-clause-height
arms-returns-clause-height t c =
    let given = rw (c.in_ok-test.ensures.1) at c.closed.ensures.given in
    let chosen = rw (given.0) at c.expr-chosen.ensures.height in
    let other = rw (c.in_ok-test-2.ensures.1) at c.expr.ensures.height in
    let test_is = ap (λ two. two.0) c.in_ok-test-2.ensures.0 ∙ c.in_ok-test.ensures.0 in
    let chosen_is = ap (λ two. two.1) c.in_ok-test-2.ensures.0 in
    let all = rw (test_is, chosen_is) at c.in_ok-conditional.ensures.height in
    rw (c.in_ok-conditional.ensures.tree, test_is, chosen_is) (omega (arith, all, c.requires.test.0, chosen.0, other.0), omega (arith, all, c.requires.test.1, chosen.1, other.1))

pub arms-returns-clause-shorter : goal.arms-returns-clause-shorter
arms-returns-clause-shorter t c =
    let given = rw (c.in_ok-test.ensures.1) at c.closed.ensures.given in
    let chosen = rw (given.0) at c.expr-chosen.ensures.shorter in
    let colon = rw (c.in_ok-test.ensures.1) at c.closed.ensures.shorter in
    let other = rw (c.in_ok-test-2.ensures.1) at c.expr.ensures.shorter in
    omega (arith, chosen, colon, other)

pub marked-returns-in_err-inner-in-OpenParen-clause-read : goal.marked-returns-in_err-inner-in-OpenParen-clause-read
unfolding marked_at
marked-returns-in_err-inner-in-OpenParen-clause-read t c =
    let p = err_from_is_err_and c.from_residual.result c.from_residual.ensures.1 in
    rw (p.1, p.2, c.in-OpenParen.is) (open_fails made_of c.expr-inner.result c.expr-inner.new.self (expr_at c.args.room 11 c.args.self.now) mark.CloseParen (λ e to. Ok (Paren e.0, to)) c.in_err-inner-in-OpenParen.field-0.0 c.expr-inner.ensures.read c.in_err-inner-in-OpenParen.ensures.refused)

pub marked-returns-in_ok-new-in-OpenParen-clause-read : goal.marked-returns-in_ok-new-in-OpenParen-clause-read
unfolding marked_at
marked-returns-in_ok-new-in-OpenParen-clause-read t c =
    let given = c.in_ok-inner-in-OpenParen.ensures.given in
    let inner = rw (given.0) at c.expr-inner.ensures.read in
    rw (c.in-OpenParen.is, inner, given.1, c.in_ok-new-in-OpenParen.ensures.ok) refl

pub named-returns-in_err-name-2-clause-read : goal.named-returns-in_err-name-2-clause-read
unfolding named_at
named-returns-in_err-name-2-clause-read t c =
    let p = err_from_is_err_and c.from_residual-in_err-name-2.result c.from_residual-in_err-name-2.ensures.1 in
    let h = rw (c.in_err-name-2.ensures) at c.closed.ensures.refused in
    rw (p.1, p.2, c.if-take.ensures) (open_fails made_of c.expr-index.result c.expr-index.new.self (expr_at c.args.room 11 c.take.new.self) mark.CloseBracket (λ e to. Ok (Element (name_in c.args.token) e.0, to)) c.in_err-name-2.field-0.0 c.expr-index.ensures.read h)

pub named-returns-then-take-clause-read : goal.named-returns-then-take-clause-read
unfolding named_at
named-returns-then-take-clause-read t c =
    let given = rw (c.in_ok-name-2.ensures.1) at c.closed.ensures.given in
    let index = rw (given.0) at c.expr-index.ensures.read in
    rw (c.if-take.ensures, index, given.1, c.in_ok-name-2.ensures.0, c.in_ok-name.ensures, c.in_ok-new.ensures.ok) refl

pub named-returns-in_err-name-3-clause-read : goal.named-returns-in_err-name-3-clause-read
unfolding named_at
named-returns-in_err-name-3-clause-read t c =
    let p = err_from_is_err_and c.from_residual-in_err-name-3.result c.from_residual-in_err-name-3.ensures.1 in
    let behind_it = rw (c.if-take.ensures.1) at c.if-take-2.ensures in
    let h = rw (c.in_err-name-3.ensures) at c.arguments.ensures.read in
    rw (p.1, p.2, c.if-take.ensures.0, behind_it) (fails_then c.in_err-name-3.field-0.0 (arguments_at (expr_at c.args.room) c.take-2.new.self) (λ es. Ok (Call (name_in c.args.token) (exprs es.0), es.1)) h)

pub named-returns-then-take-2-clause-read : goal.named-returns-then-take-2-clause-read
unfolding named_at
named-returns-then-take-2-clause-read t c =
    let behind_it = rw (c.if-take.ensures.1) at c.if-take-2.ensures in
    let arguments = rw (c.in_ok-name-3.ensures.1) at c.arguments.ensures.read in
    rw (c.if-take.ensures.0, behind_it, arguments, c.call.ensures, c.in_ok-name-3.ensures.0, c.in_ok-name.ensures) refl

pub named-returns-clause-read : goal.named-returns-clause-read
unfolding named_at
named-returns-clause-read t c =
    let no_arguments = rw (c.if-take.ensures.1) at c.if-take-2.ensures.0 in
    rw (c.if-take.ensures.0, no_arguments, c.in_ok-name.ensures, c.if-take-2.ensures.1, c.if-take.ensures.1) refl

pub expr-returns-then-layer-lt-ALL-clause-height : goal.expr-returns-then-layer-lt-ALL-clause-height
expr-returns-then-layer-lt-ALL-clause-height t c = c.in_ok-test.ensures.height

pub expr-returns-then-layer-lt-ALL-clause-shorter : goal.expr-returns-then-layer-lt-ALL-clause-shorter
expr-returns-then-layer-lt-ALL-clause-shorter t c =
    elim c.then-layer-lt-ALL.branch [
      | expr-then-layer-lt-ALL-via-then-layer-lt-ALL w ↦ omega (arith, ap length w.self-is, c.in_ok-test.ensures.shorter)
      | expr-then-layer-lt-ALL-via-else-layer-lt-ALL+then-not-take w ↦ omega (arith, ap length w.self-is, ap length w.if-not-take.ensures.1, c.in_ok-test.ensures.shorter)
    ]
