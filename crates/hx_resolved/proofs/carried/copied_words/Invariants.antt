use Rattle.std.proofs.Common.{◌≡◌}
use Rattle.std.specs.List.{range_with_len, filter}
use Rattle.hx_resolved.specs.Views.{resolved_clauses, resolved_stmt}
use Rattle.hx_resolved.specs.Carried.{is_copied}
use Rattle.hx_resolved.proofs.carried.copied_words.Given as goal

abbrev pub invariant-loop-k : goal.invariant-loop-k
invariant-loop-k l = l.words.items ≡ filter (is_copied (resolved_clauses l.c) (resolved_stmt l.body)) (range_with_len 0 l.k)
