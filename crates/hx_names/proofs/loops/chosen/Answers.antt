use Rattle.std.proofs.Common.{arith}
use Rattle.std.proofs.lemmas.Grind.{common_steps}
use Rattle.std.proofs.lemmas.List.{length_push}
use Rattle.std.proofs.lemmas.Slice.Zip.{zip_turn, zip_end}
use Rattle.hx_names.proofs.Chosen.{kept-drop, kept-end}
use Rattle.hx_names.proofs.loops.chosen.Goals as goal

pub loop-line-preserved : goal.loop-line-preserved
loop-line-preserved c =
    let t = zip_turn c.args.lines.now c.args.is_chosen.now c.loop-line.yielded c.into_iter-line-iterator.result c.loop-line.line-iterator c.next.new.self c.next.result (cc) (cc) c.loop-line.yielded_by (c.in-Some.line, c.in-Some.is_one) c.in-Some.is c.next.ensures.steps in
    let e = kept-drop c.args.is_chosen.now c.args.lines.now _ c.in-Some.is_one.now c.in-Some.line.now t.0 t.1 (t.2 c.in-Some.line.now) (t.3 c.in-Some.is_one.now) in
    let n = length_push c.loop-line.yielded (c.in-Some.line, c.in-Some.is_one) in
    grind (arith, common_steps)

pub returns : goal.returns
returns c =
    let t = zip_end c.args.lines.now c.args.is_chosen.now c.loop-line.yielded c.into_iter-line-iterator.result c.loop-line.line-iterator c.next.new.self c.next.result (cc) (cc) c.loop-line.yielded_by c.in-None.is c.next.ensures.steps in
    let e = kept-end c.args.is_chosen.now c.args.lines.now _ t in
    grind (arith, common_steps)
