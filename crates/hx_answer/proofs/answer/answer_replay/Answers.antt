use Rattle.std.proofs.Common.{subst}
use Rattle.hx_answer.specs.Answers.{ShowsText}
use Rattle.hx_answer.specs.Replays.{IsReplayOf}
use Rattle.hx_answer.proofs.Answers.{replay_shown}
use Rattle.hx_answer.proofs.answer.answer_replay.Goals as goal

pub returns-in-Ok-shown_of-clause-answer : goal.returns-in-Ok-shown_of-clause-answer
returns-in-Ok-shown_of-clause-answer g c =
    let told = subst (λ bytes. IsReplayOf bytes c.args.input.now c.args.asked.now c.in-Ok-replay_of.replayed) c.as_slice.ensures.value c.in-Ok-replay_of.ensures.told in
    let old = g.K.ByteSink.written c.args.out.now in
    let new = g.K.ByteSink.written c.show_text.new.out in
    let shown = subst (λ text. ShowsText text old new c.show_text.result) c.as_slice-in-Ok-shown_of.ensures.value c.show_text.ensures.shown in
    replay_shown c.args.input.now c.args.asked.now _ _ old new c.in-Ok.bytes.items c.in-Ok-shown_of.text.items c.in-Ok-replay_of.replayed c.show_text.result c.in-Ok.ensures.bytes told c.in-Ok-shown_of.ensures shown
