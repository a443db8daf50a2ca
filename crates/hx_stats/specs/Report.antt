-- The report of a finish.
use Rattle.std.specs.Prelude.{ℕ, List, [], ◌∷◌, ◌++◌, codes, decimal}
use Rattle.std.specs.Fmt.{signed_decimal}
use Rattle.hx_tree.specs.Faults.{fault_number}
use Rattle.hx_tree.specs.declared.outcome.Fault.{Fault}
use Rattle.hx_tree.specs.declared.outcome.End.{End}
use Rattle.hx_tree.specs.declared.outcome.End.TheVariants as end
use Rattle.hx_tree.specs.declared.outcome.Counts.{Counts}
use Rattle.hx_tree.specs.declared.outcome.Finish.{Finish}

-- a word, a number and a line feed
abbrev pub count_line : List ℕ → ℕ → List ℕ
count_line word n = word ++ decimal n ++ 10 ∷ []

abbrev pub fault_text : Fault → List ℕ
fault_text f = codes "fault " ++ decimal (fault_number f.kind) ++ codes " at " ++ decimal f.pos.line ++ codes ":" ++ decimal f.pos.col

-- the line that tells how a run ended
abbrev pub end_line : End → List ℕ
end_line (end.Normal v) = codes "end normal " ++ signed_decimal v ++ 10 ∷ []
end_line (end.Fault f) = codes "end " ++ fault_text f ++ 10 ∷ []

-- the lines from `turns` to `spared`
abbrev pub count_lines : Counts → List ℕ
count_lines c =
    count_line (codes "turns ") c.turns ++ count_line (codes "repeats ") c.repeats
    ++ count_line (codes "violations ") c.violations ++ count_line (codes "restarts ") c.restarts
    ++ count_line (codes "holds ") c.holds ++ count_line (codes "abandons ") c.abandons
    ++ count_line (codes "discarded ") c.discarded ++ count_line (codes "spared ") c.spared

-- THE report
abbrev pub report_of : Finish → List ℕ
report_of f = end_line f.outcome.end ++ count_line (codes "regions ") f.counts.regions ++ count_lines f.counts
