use Rattle.std.proofs.Common.{subst}
use Rattle.hx_speculation.specs.Board.{opened, after}
use Rattle.hx_speculation.specs.Sound.{MarksAreSeen}
use Rattle.hx_speculation.proofs.Calls.{calls_sound, opened_sound}
use Rattle.hx_speculation.proofs.View.{marks_are_views}
use Rattle.hx_speculation.proofs.laws.marks_are_views.Goals as goal

pub returns : goal.returns
returns c = λ r entry caps cs before x later a v h e k. let b = after r caps cs (opened entry) in marks_are_views b.store before x later (subst (MarksAreSeen b.store) e (calls_sound r entry caps cs (opened entry) h (opened_sound r entry)).marks) a v k
