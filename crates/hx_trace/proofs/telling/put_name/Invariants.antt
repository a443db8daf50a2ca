use Rattle.std.proofs.Common.{◌≡◌, ◌++◌, drop}
use Rattle.hx_trace.specs.Telling.{word_name}
use Rattle.hx_trace.proofs.telling.put_name.Given as goal

abbrev pub invariant-loop-called : goal.invariant-loop-called
invariant-loop-called l = (l.text.items ≡ l.initial.text.items) × (word_name l.names l.word ≡ word_name (drop l.called-index l.names) l.word)
