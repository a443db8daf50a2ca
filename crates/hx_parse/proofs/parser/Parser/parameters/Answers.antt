use Rattle.std.proofs.Common.{map, arith}
use Rattle.std.proofs.lemmas.Result.{err_from_is_err_and}
use Rattle.hx_tree.specs.declared.token.Mark.TheVariants as mark
use Rattle.hx_tree.specs.View.{name_of}
use Rattle.hx_grammar.specs.Reading.{listed, param_at}
use Rattle.hx_parse.proofs.Marks.{behind_shorter}
use Rattle.hx_parse.proofs.Loops.{extended, commas_end, commas_extend, commas_stop}
use Rattle.hx_parse.proofs.parser.Parser.parameters.Goals as goal

pub returns-in_err-all-2-clause-read : goal.returns-in_err-all-2-clause-read
returns-in_err-all-2-clause-read c =
    let p = err_from_is_err_and c.from_residual-in_err-all-2.result c.from_residual-in_err-all-2.ensures.1 in
    rw (p.1, p.2) (commas_stop name_of param_at (listed param_at c.args.self.now) c.loop-all.all.items c.parameter-in-loop-all.result c.in_err-all-2.field-0.0 c.loop-all.self c.take.new.self c.parameter-in-loop-all.new.self c.loop-all.invariant.goes c.loop-all-test.ensures c.parameter-in-loop-all.ensures.read c.in_err-all-2.ensures.refused)

pub loop-all-smaller : goal.loop-all-smaller
loop-all-smaller c = omega (arith, behind_shorter mark.Comma c.loop-all.self c.take.new.self c.loop-all-test.ensures, extended _ _ c.parameter-in-loop-all.result c.in_ok-all-2.ensures.given c.parameter-in-loop-all.ensures.shorter)

pub loop-all-preserved : goal.loop-all-preserved
loop-all-preserved c = record {
  goes = commas_extend name_of param_at (listed param_at c.args.self.now) c.loop-all.all.items c.in_ok-all-2.all.items c.parameter-in-loop-all.result c.loop-all.self c.take.new.self c.parameter-in-loop-all.new.self c.loop-all.invariant.goes c.loop-all-test.ensures c.parameter-in-loop-all.ensures.read c.parameter-in-loop-all.ensures.shorter c.in_ok-all-2.ensures.given;
  is_shorter = omega (arith, behind_shorter mark.Comma c.loop-all.self c.take.new.self c.loop-all-test.ensures, extended _ _ c.parameter-in-loop-all.result c.in_ok-all-2.ensures.given c.parameter-in-loop-all.ensures.shorter);
}

pub returns-clause-read : goal.returns-clause-read
returns-clause-read c = let h = c.loop-all-test.ensures in rw (h.1) (commas_end param_at (listed param_at c.args.self.now) (map name_of c.loop-all.all.items) c.loop-all.self c.loop-all.invariant.goes h.0)
