use Rattle.std.proofs.Common.{subst}
use Rattle.hx_tree.specs.Tree.{Program}
use Rattle.hx_run.specs.declared.executing.Mode.TheVariants.{Run}
use Rattle.hx_run.specs.Sources.{IsSourceOf}
use Rattle.hx_run.specs.Headline.{IsFinishOf}
use Rattle.hx_run.specs.Executions.{IsShown, RefusesToShow}
use Rattle.std.specs.Prelude.{IfOk, IfErr}
use Rattle.hx_run.proofs.Executions.{done_if_ok, refused_if_err}
use Rattle.hx_run.proofs.executing.execute_run.Goals as goal

pub returns-clause-done : goal.returns-clause-done
returns-clause-done g c =
    let value = c.as_slice.ensures.value in
    let finish = subst (λ bytes. IsFinishOf bytes c.args.input.now c.in_ok-finish.finish) value c.in_ok-finish.ensures.finish in
    let shown = subst (λ bytes. IfOk c.show.result (λ d. (p : Program) → IsSourceOf bytes p → IsShown c.args.tail p c.in_ok-finish.finish (g.K.ByteSink.written c.args.out.now) (g.K.ByteSink.written c.show.new.out) d)) c.as_slice-2.ensures.value c.show.ensures.shown in
    done_if_ok (Run c.args.tail) c.args.input.now _ _ _ _ c.in_ok-bytes.bytes.items c.in_ok-finish.finish c.show.result c.in_ok-bytes.ensures.bytes finish tt shown

pub returns-clause-refused : goal.returns-clause-refused
returns-clause-refused g c =
    let value = c.as_slice.ensures.value in
    let finish = subst (λ bytes. IsFinishOf bytes c.args.input.now c.in_ok-finish.finish) value c.in_ok-finish.ensures.finish in
    let refused = subst (λ bytes. IfErr c.show.result (λ e. (p : Program) → IsSourceOf bytes p → RefusesToShow c.args.tail p c.in_ok-finish.finish (g.K.ByteSink.written c.args.out.now) (g.K.ByteSink.written c.show.new.out) e)) c.as_slice-2.ensures.value c.show.ensures.refused in
    refused_if_err (Run c.args.tail) c.args.input.now _ _ _ _ c.in_ok-bytes.bytes.items c.in_ok-finish.finish c.show.result c.in_ok-bytes.ensures.bytes finish tt refused
