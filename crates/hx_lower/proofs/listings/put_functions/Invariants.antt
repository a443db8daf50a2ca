use Rattle.std.proofs.Common.{◌≡◌, drop}
use Rattle.hx_lower.specs.Listing.{functions_behind}
use Rattle.hx_lower.proofs.listings.put_functions.Given as goal

abbrev pub invariant-loop-function : goal.invariant-loop-function
invariant-loop-function l = functions_behind l.functions l.initial.text.items ≡ functions_behind (drop l.function-index l.functions) l.text.items
