use Rattle.std.proofs.Common.{◌≡◌, ◌-◌, ◌+◌, ◌≤◌, length, slice_set, insert}
use Rattle.hx_marks.proofs.marks.put_in.Given as goal

abbrev pub invariant-loop-at : goal.invariant-loop-at
invariant-loop-at g l = record {
  low : l.place ≤ l.at;
  high : l.at ≤ length l.fn.items.items;
  long : length l.items ≡ length l.fn.items.items + 1;
  room : slice_set l.items l.at l.item ≡ insert l.fn.items.items l.at l.item;
}

abbrev pub decreases-loop-at : goal.decreases-loop-at
decreases-loop-at g l = l.at - l.place
