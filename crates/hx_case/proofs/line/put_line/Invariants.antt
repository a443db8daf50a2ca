use Rattle.std.proofs.Common.{◌≡◌, ◌++◌, take, map}
use Rattle.hx_case.specs.Pointed.{shown}
use Rattle.hx_case.proofs.line.put_line.Given as goal

abbrev pub invariant-loop-byte : goal.invariant-loop-byte
invariant-loop-byte l = l.text.items ≡ l.initial.text.items ++ map shown (take l.byte-index l.line)
