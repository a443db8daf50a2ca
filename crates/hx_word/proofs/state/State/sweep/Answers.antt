use Rattle.hx_word.specs.Plain.{machine_of}
use Rattle.hx_word.proofs.Advance.{then_ran}
use Rattle.hx_word.proofs.state.State.sweep.Goals as goal

pub returns-clause-ran : goal.returns-clause-ran
returns-clause-ran c =
    then_ran c.args.code.now c.pass-passed.result _ (machine_of c.args.self.now) (machine_of c.pass-passed.new.self) _ c.pass-passed.ensures.ran c.outside.ensures.ran
