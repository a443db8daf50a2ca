use Rattle.std.proofs.Common.{rules, pos, slice_index_or, w32, FitsSigned}
use Rattle.hx_code.proofs.Counters.{counted}
use Rattle.hx_code.proofs.counter.value_in.Goals as goal

pub returns : goal.returns
returns c =
    let start = slice_index_or c.args.words.now c.args.counter.private (pos 0) in
    let f : FitsSigned w32 start = search rules in
    let g : FitsSigned w32 c.args.counter.step = search rules in
    let h : FitsSigned w32 c.cast_signed.result = search rules in
    counted start c.args.counter.step c.cast_signed.result c.args.iteration f g h c.cast_signed.ensures
