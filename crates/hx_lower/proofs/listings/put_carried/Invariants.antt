use Rattle.std.proofs.Common.{◌≡◌, drop}
use Rattle.hx_lower.specs.Listing.{carried_behind}
use Rattle.hx_lower.proofs.listings.put_carried.Given as goal

abbrev pub invariant-loop-c : goal.invariant-loop-c
invariant-loop-c l = carried_behind l.carried l.initial.text.items ≡ carried_behind (drop l.c-index l.carried) l.text.items
