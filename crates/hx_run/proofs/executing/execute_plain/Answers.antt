use Rattle.std.proofs.Common.{rules, subst}
use Rattle.hx_tree.specs.Tree.{Program}
use Rattle.hx_run.specs.declared.executing.Mode.TheVariants.{Plain}
use Rattle.hx_run.specs.Sources.{IsSourceOf}
use Rattle.hx_run.specs.Headline.{EndsWithin, IsFinishOf, IsPlainRanOf}
use Rattle.hx_run.specs.Executions.{IsShown, RefusesToShow}
use Rattle.std.specs.Prelude.{IfOk, IfErr}
use Rattle.hx_run.proofs.Executions.{done_if_ok, refused_if_err}
use Rattle.hx_run.proofs.executing.execute_plain.Goals as goal

pub returns-in-Ended-clause-done : goal.returns-in-Ended-clause-done
returns-in-Ended-clause-done g c =
    let ended = subst (IsPlainRanOf c.as_slice.result.now c.args.input.now c.args.steps) c.in-Ended.is c.in_ok-finish.ensures.ran in
    let finish = subst (λ bytes. IsFinishOf bytes c.args.input.now c.in-Ended.finish) c.as_slice.ensures.value ended.0 in
    let in_time = subst (λ bytes. EndsWithin bytes c.args.input.now c.args.steps c.in-Ended.finish) c.as_slice.ensures.value ended.1 in
    let shown = subst (λ bytes. IfOk c.show.result (λ d. (p : Program) → IsSourceOf bytes p → IsShown c.args.tail p c.in-Ended.finish (g.K.ByteSink.written c.args.out.now) (g.K.ByteSink.written c.show.new.out) d)) c.as_slice-in-Ended.ensures.value c.show.ensures.shown in
    done_if_ok (Plain c.args.steps c.args.tail) c.args.input.now _ _ _ _ c.in_ok-bytes.bytes.items c.in-Ended.finish c.show.result c.in_ok-bytes.ensures.bytes finish in_time shown

pub returns-in-Ended-clause-refused : goal.returns-in-Ended-clause-refused
returns-in-Ended-clause-refused g c =
    let ended = subst (IsPlainRanOf c.as_slice.result.now c.args.input.now c.args.steps) c.in-Ended.is c.in_ok-finish.ensures.ran in
    let finish = subst (λ bytes. IsFinishOf bytes c.args.input.now c.in-Ended.finish) c.as_slice.ensures.value ended.0 in
    let in_time = subst (λ bytes. EndsWithin bytes c.args.input.now c.args.steps c.in-Ended.finish) c.as_slice.ensures.value ended.1 in
    let refused = subst (λ bytes. IfErr c.show.result (λ e. (p : Program) → IsSourceOf bytes p → RefusesToShow c.args.tail p c.in-Ended.finish (g.K.ByteSink.written c.args.out.now) (g.K.ByteSink.written c.show.new.out) e)) c.as_slice-in-Ended.ensures.value c.show.ensures.refused in
    refused_if_err (Plain c.args.steps c.args.tail) c.args.input.now _ _ _ _ c.in_ok-bytes.bytes.items c.in-Ended.finish c.show.result c.in_ok-bytes.ensures.bytes finish in_time refused

pub returns-clause-done : goal.returns-clause-done
returns-clause-done g c = search rules
