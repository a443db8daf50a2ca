use Rattle.std.proofs.Common.{◌≡◌}
use Rattle.hx_advise.specs.Watch.{AnyWord}
use Rattle.hx_advise.proofs.Needs.{single_need, need_verdict}
use Rattle.hx_advise.proofs.laws.needs_are_single.Goals as goal

pub returns-clause-word : goal.returns-clause-word
returns-clause-word c = λ es a n m h g. single_need es (λ b. b ≡ a) n m h g

pub returns-clause-any : goal.returns-clause-any
returns-clause-any c = λ es n m h g. single_need es AnyWord n m h g

pub returns-clause-none : goal.returns-clause-none
returns-clause-none c = λ es n h. need_verdict es n h
