use Rattle.std.proofs.Common.{◌≡◌, ◌≤◌, ◌-◌, drop, length}
use Rattle.hx_tree.specs.Lexis.{close_len}
use Rattle.hx_lex.proofs.Closing.{plus}
use Rattle.hx_lex.proofs.piece.close_len.Given as goal

abbrev pub invariant-loop-i : goal.invariant-loop-i
invariant-loop-i l = record {
  reads : plus l.i (close_len (drop l.i l.bytes)) ≡ close_len l.bytes;
  within : l.i ≤ length l.bytes;
}

abbrev pub decreases-loop-i : goal.decreases-loop-i
decreases-loop-i l = length l.bytes - l.i
