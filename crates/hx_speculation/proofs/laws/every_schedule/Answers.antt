use Rattle.hx_speculation.proofs.Replay.{replay_sound}
use Rattle.hx_speculation.proofs.laws.every_schedule.Goals as goal

pub returns : goal.returns
returns c = λ course entry schedule. replay_sound course entry schedule
