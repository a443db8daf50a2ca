use Rattle.std.proofs.Common.{rules, sym, subst, refl}
use Rattle.hx_code.specs.Code.{CodeView}
use Rattle.hx_code.specs.Valid.{IsValid}
use Rattle.hx_board.specs.Ends.{EndsPlainly}
use Rattle.hx_run.proofs.Behind.{end_fits, is_behind}
use Rattle.hx_run.proofs.passing.pass_region.Goals as goal

pub region-requires-2-clause-code : goal.region-requires-2-clause-code
region-requires-2-clause-code g c = search rules

pub resume-requires : goal.resume-requires
resume-requires g c =
    let o = c.args.opened in
    let entry = c.entry_into.new.entry in
    let end = c.region-2.new.end in
    let here = subst (λ r. EndsPlainly c.args.code.now r entry end) c.region.ensures c.region-2.ensures.end in
    let ends = subst (λ (k : CodeView). EndsPlainly k o.region.opened.region entry end) (sym c.requires.own) here in
    end_fits o.code o.region.opened o.outer.text entry end c.entry_into.ensures.fits c.entry_into.ensures.printed ends

pub returns-clause-behind : goal.returns-clause-behind
returns-clause-behind g c =
    let o = c.args.opened in
    let entry = c.entry_into.new.entry in
    let end = c.region-2.new.end in
    let here = subst (λ r. EndsPlainly c.args.code.now r entry end) c.region.ensures c.region-2.ensures.end in
    let ends = subst (λ (k : CodeView). EndsPlainly k o.region.opened.region entry end) (sym c.requires.own) here in
    let valid = subst IsValid (sym c.requires.own) c.known.ensures in
    is_behind o.code valid o entry end c.resume.result refl (λ m next begun. record { opens = next; here = begun; shows = c.entry_into.ensures.entry; fits = c.entry_into.ensures.fits }) ends c.resume.ensures
