use Rattle.std.proofs.Common.{ℕ, ◌+◌, ◌<◌, ◌≤◌, length, slice_index}
use Rattle.hx_marks.proofs.find.near.Given as goal

abbrev pub invariant-loop-count : goal.invariant-loop-count
invariant-loop-count l = record {
  within : l.start + l.count ≤ length l.words;
  before : (i : ℕ) → i < l.start → slice_index l.words i < l.word;
  behind : (i : ℕ) → l.start + l.count ≤ i → i < length l.words → l.word < slice_index l.words i;
}

abbrev pub decreases-loop-count : goal.decreases-loop-count
decreases-loop-count l = l.count
