use Rattle.std.proofs.Common.{◌≡◌, rules}
use Rattle.std.specs.Prelude.{All, map}
use Rattle.hx_answer.specs.Replays.{digit, IsWorker}
use Rattle.hx_answer.proofs.Replays.{workers_are_there}
use Rattle.hx_answer.proofs.replaying.told_from.Goals as goal

pub returns-clause-refused : goal.returns-clause-refused
returns-clause-refused c =
    let all : All (IsWorker c.args.settings.workers) c.args.digits.now = search rules in
    let numbers : c.as_slice.result.now ≡ map digit c.args.digits.now = search rules in
    workers_are_there c.args.settings c.args.digits.now c.as_slice.result.now c.replay_told.result numbers all c.replay_told.ensures.workers
