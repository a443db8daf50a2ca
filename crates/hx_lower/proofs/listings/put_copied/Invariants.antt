use Rattle.std.proofs.Common.{◌≡◌, drop}
use Rattle.hx_lower.specs.Listing.{copied_behind}
use Rattle.hx_lower.proofs.listings.put_copied.Given as goal

abbrev pub invariant-loop-k : goal.invariant-loop-k
invariant-loop-k l = copied_behind l.copied l.initial.text.items ≡ copied_behind (drop l.k-index l.copied) l.text.items
