use Rattle.std.proofs.Common.{◌-◌, map, arith}
use Rattle.std.proofs.lemmas.Result.{err_from_is_err_and}
use Rattle.hx_tree.specs.declared.token.Mark.TheVariants as mark
use Rattle.hx_tree.specs.View.{local_of}
use Rattle.hx_grammar.specs.Reading.{listed, local_at}
use Rattle.hx_parse.proofs.Marks.{behind_shorter}
use Rattle.hx_parse.proofs.Loops.{extended, commas_no_first, commas_end, commas_extend, commas_stop}
use Rattle.hx_parse.proofs.Steps.{locals_zero, locals_is}
use Rattle.hx_parse.proofs.parser.Parser.locals.Goals as goal

pub returns-then-room-eq0-clause-read : goal.returns-then-room-eq0-clause-read
returns-then-room-eq0-clause-read c = rw (c.if-room-eq0.true) (locals_zero c.args.self.now)

pub returns-in_err-all-clause-read : goal.returns-in_err-all-clause-read
returns-in_err-all-clause-read c =
    let p = err_from_is_err_and c.from_residual.result c.from_residual.ensures.1 in
    rw (p.1, p.2, locals_is c.args.room c.args.self.now (omega arith)) (commas_no_first local_of (local_at (c.args.room - 1)) c.args.self.now c.local.new.self c.local.result c.in_err-all.field-0.0 c.local.ensures.read c.in_err-all.ensures.refused)

pub returns-in_err-all-2-clause-read : goal.returns-in_err-all-2-clause-read
returns-in_err-all-2-clause-read c =
    let p = err_from_is_err_and c.from_residual-in_err-all-2.result c.from_residual-in_err-all-2.ensures.1 in
    rw (p.1, p.2, locals_is c.args.room c.args.self.now (omega arith)) (commas_stop local_of (local_at (c.args.room - 1)) (listed (local_at (c.args.room - 1)) c.args.self.now) c.loop-all.all.items c.local-in-loop-all.result c.in_err-all-2.field-0.0 c.loop-all.self c.take.new.self c.local-in-loop-all.new.self c.loop-all.invariant.goes c.loop-all-test.ensures c.local-in-loop-all.ensures.read c.in_err-all-2.ensures.refused)

pub loop-all-smaller : goal.loop-all-smaller
loop-all-smaller c = omega (arith, behind_shorter mark.Comma c.loop-all.self c.take.new.self c.loop-all-test.ensures, extended _ _ c.local-in-loop-all.result c.in_ok-all-2.ensures.given c.local-in-loop-all.ensures.shorter)

pub loop-all-preserved : goal.loop-all-preserved
loop-all-preserved c = record {
  goes = commas_extend local_of (local_at (c.args.room - 1)) (listed (local_at (c.args.room - 1)) c.args.self.now) c.loop-all.all.items c.in_ok-all-2.all.items c.local-in-loop-all.result c.loop-all.self c.take.new.self c.local-in-loop-all.new.self c.loop-all.invariant.goes c.loop-all-test.ensures c.local-in-loop-all.ensures.read c.local-in-loop-all.ensures.shorter c.in_ok-all-2.ensures.given;
  is_shorter = omega (arith, behind_shorter mark.Comma c.loop-all.self c.take.new.self c.loop-all-test.ensures, extended _ _ c.local-in-loop-all.result c.in_ok-all-2.ensures.given c.local-in-loop-all.ensures.shorter);
  is_room = omega arith;
}

pub returns-clause-read : goal.returns-clause-read
returns-clause-read c =
    let h = c.loop-all-test.ensures in
    rw (h.1, locals_is c.args.room c.args.self.now (omega arith)) (commas_end (local_at (c.args.room - 1)) (listed (local_at (c.args.room - 1)) c.args.self.now) (map local_of c.loop-all.all.items) c.loop-all.self c.loop-all.invariant.goes h.0)
