use Rattle.std.proofs.Common.{◌≡◌, drop}
use Rattle.hx_lower.specs.Listing.{regions_behind}
use Rattle.hx_lower.proofs.listings.put_regions.Given as goal

abbrev pub invariant-loop-region : goal.invariant-loop-region
invariant-loop-region l = regions_behind l.regions l.initial.text.items ≡ regions_behind (drop l.region-index l.regions) l.text.items
