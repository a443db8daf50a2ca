use Rattle.std.proofs.Common.{◌≡◌, true, false, Option, None, refl, sym, subst, arith}
use Rattle.std.specs.Prelude.{IsSome}
use Rattle.hx_tree.specs.declared.outcome.End.{End}
use Rattle.hx_advise.proofs.program.has_ended.Goals as goal

pub returns-in-Ended : goal.returns-in-Ended
returns-in-Ended c =
    let e = c.in-Ended.ensures c.args.plain.machine c.requires in
    (λ _. subst (λ (x : Option End). IsSome x) (sym e.1.end) refl, λ _. refl)

pub returns-in-More : goal.returns-in-More
returns-in-More c =
    let e = c.in-More.ensures c.args.plain.machine c.requires in
    let none : c.args.plain.machine.end ≡ None = e.3 in
    (λ h. let no : false ≡ true = h in absurd cc, λ h. let no : false ≡ true = subst (λ (x : Option End). IsSome x) none h in absurd cc)

pub returns : goal.returns
returns c =
    let e = c.in-At.ensures c.args.plain.machine c.requires in
    absurd (omega (arith, e.1))
