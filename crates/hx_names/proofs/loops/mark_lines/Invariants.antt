use Rattle.std.proofs.Common.{◌≡◌, take}
use Rattle.std.specs.Prelude.{flat_map}
use Rattle.hx_lex.specs.View.{tokens_of}
use Rattle.hx_names.specs.Lines.{token_lines}
use Rattle.hx_names.proofs.loops.mark_lines.Given as goal

abbrev pub invariant-loop-token : goal.invariant-loop-token
invariant-loop-token l = l.lines.items ≡ flat_map token_lines (tokens_of (take l.token-index l.tokens))
