use Rattle.std.proofs.Common.{map}
use Rattle.std.proofs.lemmas.Result.{err_from_is_err_and}
use Rattle.hx_tree.specs.View.{item_of}
use Rattle.hx_grammar.specs.Reading.{all_of, until_end, item_at}
use Rattle.hx_parse.proofs.Loops.{all_end, all_extend, all_stop}
use Rattle.hx_parse.proofs.parser.Parser.items.Goals as goal

pub returns-in_err-all : goal.returns-in_err-all
returns-in_err-all c =
    let p = err_from_is_err_and c.from_residual.result c.from_residual.ensures.1 in
    rw (p.1, p.2) (all_stop item_of (item_at c.args.room) (all_of until_end (item_at c.args.room) c.args.self.now) c.loop-all.all.items c.item.result c.in_err-all.field-0.0 c.loop-all.self c.item.new.self c.loop-all.invariant c.loop-all-test.ensures c.item.ensures.read c.in_err-all.ensures.refused)

pub loop-all-preserved : goal.loop-all-preserved
loop-all-preserved c =
    all_extend item_of (item_at c.args.room) (all_of until_end (item_at c.args.room) c.args.self.now) c.loop-all.all.items c.in_ok-all.all.items c.item.result c.loop-all.self c.item.new.self c.loop-all.invariant c.loop-all-test.ensures c.item.ensures.read c.item.ensures.shorter c.in_ok-all.ensures.given

pub returns : goal.returns
returns c = all_end (item_at c.args.room) (all_of until_end (item_at c.args.room) c.args.self.now) (map item_of c.loop-all.all.items) c.loop-all.self c.loop-all.invariant c.loop-all-test.ensures
