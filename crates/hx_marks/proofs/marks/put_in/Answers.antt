use Rattle.std.proofs.Common.{rules, arith, ◌≡◌, ◌-◌, ◌+◌, ◌++◌, ◌∷◌, [], length, ap, ◌∙◌}
use Rattle.std.proofs.lemmas.List.{length_push, length-set}
use Rattle.hx_marks.proofs.Shifts.{pushed_is_insert, room_goes_down}
use Rattle.hx_marks.proofs.marks.put_in.Goals as goal

pub loop-at-init : goal.loop-at-init
loop-at-init g c =
    let pushed : c.push.new.self.items ≡ c.args.items.now.items ++ c.args.item ∷ [] = (let is = c.in-Ok.ensures.items in search rules) in
    let items : c.as_mut_slice-items.result.now ≡ c.args.items.now.items ++ c.args.item ∷ [] = c.as_mut_slice-items.ensures.value ∙ pushed in
    let long : length c.as_mut_slice-items.result.now ≡ length c.args.items.now.items + 1 = ap length items ∙ length_push c.args.items.now.items c.args.item in
    let last : length c.as_mut_slice-items.result.now - 1 ≡ length c.args.items.now.items = omega (arith, long) in
    record {
      low = omega (arith, last, c.requires.within);
      high = omega (arith, last);
      long = long;
      room = rw (last, items) (pushed_is_insert c.args.items.now.items c.args.item);
    }

pub loop-at-preserved : goal.loop-at-preserved
loop-at-preserved g c =
    let before = c.loop-at.invariant in
    record {
      low = omega (arith, before.low, c.loop-at-test.true);
      high = omega (arith, before.high);
      long = length-set c.loop-at.items c.loop-at.at c.index-items-at.result ∙ before.long;
      room = room_goes_down c.args.items.now.items c.loop-at.items c.loop-at.at c.args.item c.index-items-at.result (omega (arith, c.loop-at-test.true)) before.high before.room c.index-items-at.is;
    }
