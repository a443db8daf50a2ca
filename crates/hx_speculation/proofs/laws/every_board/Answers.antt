use Rattle.hx_speculation.specs.Board.{opened}
use Rattle.hx_speculation.proofs.Calls.{calls_sound, opened_sound}
use Rattle.hx_speculation.proofs.laws.every_board.Goals as goal

pub returns : goal.returns
returns c = λ r entry caps cs h. calls_sound r entry caps cs (opened entry) h (opened_sound r entry)
