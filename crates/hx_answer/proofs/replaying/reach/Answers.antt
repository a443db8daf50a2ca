use Rattle.std.proofs.Common.{◌≡◌, subst, inr}
use Rattle.hx_code.specs.Machine.{Machine}
use Rattle.hx_word.specs.declared.plain.Reached.{Reached}
use Rattle.hx_word.specs.declared.plain.Reached.TheVariants as reached
use Rattle.hx_word.specs.Plain.{one_store}
use Rattle.hx_word.specs.Ran.{ReachedFrom}
use Rattle.hx_answer.proofs.Replays.{reaches}
use Rattle.hx_answer.proofs.replaying.reach.Goals as goal

pub returns-in-Ok-At-clause-reached : goal.returns-in-Ok-At-clause-reached
returns-in-Ok-At-clause-reached c =
    let found = subst (λ (r : Reached). (m : Machine) → one_store m ≡ c.in-Ok.plain.machine → ReachedFrom c.in-Ok.plain.code m c.args.nth c.args.steps r) c.in-Ok-At.field-0-is c.in-Ok-At.ensures in
    reaches c.args.code.now c.args.input.now c.in-Ok.plain c.args.nth c.args.steps (reached.At c.in-Ok-At.region c.in-Ok-At.entry) c.in-Ok.ensures.opening c.in-Ok.ensures.fits found

pub returns-in-Ok-Ended-clause-refused : goal.returns-in-Ok-Ended-clause-refused
returns-in-Ok-Ended-clause-refused c =
    let found = subst (λ (r : Reached). (m : Machine) → one_store m ≡ c.in-Ok.plain.machine → ReachedFrom c.in-Ok.plain.code m c.args.nth c.args.steps r) c.in-Ok-Ended.field-0-is c.in-Ok-Ended.ensures in
    inr (reaches c.args.code.now c.args.input.now c.in-Ok.plain c.args.nth c.args.steps reached.Ended c.in-Ok.ensures.opening c.in-Ok.ensures.fits found)

pub returns-in-Ok-More-clause-refused : goal.returns-in-Ok-More-clause-refused
returns-in-Ok-More-clause-refused c =
    let found = subst (λ (r : Reached). (m : Machine) → one_store m ≡ c.in-Ok.plain.machine → ReachedFrom c.in-Ok.plain.code m c.args.nth c.args.steps r) c.in-Ok-More.field-0-is c.in-Ok-More.ensures in
    reaches c.args.code.now c.args.input.now c.in-Ok.plain c.args.nth c.args.steps reached.More c.in-Ok.ensures.opening c.in-Ok.ensures.fits found
