use Rattle.std.proofs.Common.{◌≡◌, drop}
use Rattle.hx_lower.specs.Listing.{words_behind}
use Rattle.hx_lower.proofs.listings.put_words.Given as goal

abbrev pub invariant-loop-place : goal.invariant-loop-place
invariant-loop-place l = words_behind l.words 0 l.initial.text.items ≡ words_behind (drop l.place l.words) l.place l.text.items
