use Rattle.std.proofs.Common.{◌≡◌, ◌++◌, take, map}
use Rattle.std.specs.Prelude.{flat_map}
use Rattle.hx_tree.specs.View.{item_of}
use Rattle.hx_tree.specs.Meaning.{item_globals}
use Rattle.hx_stats.specs.Globals.{global_lines, words_behind}
use Rattle.hx_stats.proofs.globals.put_globals.Given as goal

abbrev pub invariant-loop-item : goal.invariant-loop-item
invariant-loop-item l =
    (l.text.items ≡ l.initial.text.items ++ global_lines (flat_map item_globals (map item_of (take l.item-index l.fn.program.items.items))) l.fn.words)
    × (l.rest ≡ words_behind (flat_map item_globals (map item_of (take l.item-index l.fn.program.items.items))) l.fn.words)
