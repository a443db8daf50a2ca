use Rattle.std.proofs.Common.{◌≡◌, ◌++◌, take, map}
use Rattle.hx_tree.specs.View.{global_of}
use Rattle.hx_stats.specs.Globals.{global_lines, words_behind}
use Rattle.hx_stats.proofs.globals.put_lines.Given as goal

abbrev pub invariant-loop-global : goal.invariant-loop-global
invariant-loop-global l =
    (l.text.items ≡ l.initial.text.items ++ global_lines (map global_of (take l.global-index l.globals)) l.fn.words)
    × (l.rest ≡ words_behind (map global_of (take l.global-index l.globals)) l.fn.words)
