use Rattle.std.proofs.Common.{refl, ap}
use Rattle.hx_code.specs.Local.{LocalView}
use Rattle.hx_word.specs.Opening.{opened_of}
use Rattle.hx_advise.specs.declared.region.Course.{Course}
use Rattle.hx_advise.proofs.region.begin.Goals as goal

pub returns : goal.returns
returns c = ap {B = Course} (λ (l : LocalView). record c.args.course.now { local = l }) (c.begin.ensures.begun (opened_of c.args.opened.now) refl refl refl)
