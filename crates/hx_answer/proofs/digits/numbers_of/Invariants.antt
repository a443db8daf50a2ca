use Rattle.std.proofs.Common.{◌≡◌, map, take}
use Rattle.hx_answer.specs.Replays.{digit}
use Rattle.hx_answer.proofs.digits.numbers_of.Given as goal

abbrev pub invariant-loop-byte : goal.invariant-loop-byte
invariant-loop-byte l = l.numbers.items ≡ map digit (take l.byte-index l.digits)
