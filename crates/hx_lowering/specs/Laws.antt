-- What holds of the code of every program.
use Rattle.hx_tree.specs.Tree.{Program}
use Rattle.hx_tree.specs.Accepted.{IsAccepted}
use Rattle.hx_resolved.specs.Resolve.{resolve}
use Rattle.hx_lowering.specs.Draft.{code_of}
use Rattle.hx_lowering.specs.Correct.{Behaves}

-- the code of a program does what the program means, and nothing else
abbrev pub CodeBehaves : Type 0
CodeBehaves = (p : Program) → IsAccepted p → Behaves p (code_of (resolve p))
