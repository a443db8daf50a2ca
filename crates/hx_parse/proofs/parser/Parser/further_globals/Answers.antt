use Rattle.std.proofs.Common.{map, arith}
use Rattle.std.proofs.lemmas.Result.{err_from_is_err_and}
use Rattle.hx_tree.specs.declared.token.Mark.TheVariants as mark
use Rattle.hx_tree.specs.View.{global_of}
use Rattle.hx_grammar.specs.Reading.{listed_from, global_at}
use Rattle.hx_parse.proofs.Marks.{behind_shorter}
use Rattle.hx_parse.proofs.Loops.{extended, commas_end, commas_extend, commas_stop}
use Rattle.hx_parse.proofs.parser.Parser.further_globals.Goals as goal

pub returns-in_err-all-clause-read : goal.returns-in_err-all-clause-read
returns-in_err-all-clause-read c =
    let p = err_from_is_err_and c.from_residual-in_err-all.result c.from_residual-in_err-all.ensures.1 in
    rw (p.1, p.2) (commas_stop global_of global_at (listed_from global_at (global_of c.args.first) c.args.self.now) c.loop-all.all.items c.global.result c.in_err-all.field-0.0 c.loop-all.self c.take.new.self c.global.new.self c.loop-all.invariant.goes c.loop-all-test.ensures c.global.ensures.read c.in_err-all.ensures.refused)

pub loop-all-smaller : goal.loop-all-smaller
loop-all-smaller c = omega (arith, behind_shorter mark.Comma c.loop-all.self c.take.new.self c.loop-all-test.ensures, extended _ _ c.global.result c.in_ok-all.ensures.given c.global.ensures.shorter)

pub loop-all-preserved : goal.loop-all-preserved
loop-all-preserved c = record {
  goes = commas_extend global_of global_at (listed_from global_at (global_of c.args.first) c.args.self.now) c.loop-all.all.items c.in_ok-all.all.items c.global.result c.loop-all.self c.take.new.self c.global.new.self c.loop-all.invariant.goes c.loop-all-test.ensures c.global.ensures.read c.global.ensures.shorter c.in_ok-all.ensures.given;
  is_shorter = omega (arith, behind_shorter mark.Comma c.loop-all.self c.take.new.self c.loop-all-test.ensures, extended _ _ c.global.result c.in_ok-all.ensures.given c.global.ensures.shorter);
}

pub returns-clause-read : goal.returns-clause-read
returns-clause-read c = let h = c.loop-all-test.ensures in rw (h.1) (commas_end global_at (listed_from global_at (global_of c.args.first) c.args.self.now) (map global_of c.loop-all.all.items) c.loop-all.self c.loop-all.invariant.goes h.0)
