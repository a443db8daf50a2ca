use Rattle.std.proofs.Common.{◌≡◌, map, drop}
use Rattle.std.specs.Prelude.{flat_map, slice_get}
use Rattle.hx_tree.specs.Meaning.{item_functions, functions_of}
use Rattle.hx_tree.specs.View.{item_of, program_of}
use Rattle.hx_names.proofs.names.function_at.Given as goal

abbrev pub invariant-loop-item : goal.invariant-loop-item
invariant-loop-item l =
    slice_get (flat_map item_functions (map item_of (drop l.item-index l.item-items))) l.left ≡ slice_get (functions_of (program_of l.program)) l.number
