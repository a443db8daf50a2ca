use Rattle.std.proofs.Common.{◌++◌, ap, sym, ◌∙◌}
use Rattle.hx_trace.proofs.Texts.{on_ok, put_behind}
use Rattle.hx_timeline.specs.Columns.{source_label}
use Rattle.hx_timeline.proofs.columns.put_source.Goals as goal

pub returns-in_ok-extend_from_slice-in-Iteration : goal.returns-in_ok-extend_from_slice-in-Iteration
returns-in_ok-extend_from_slice-in-Iteration c =
    let put = put_behind c.put_number.result c.args.text.now.items _ c.extend_from_slice.new.self.items c.put_number.new.text.items _ c.in_ok-extend_from_slice-in-Iteration.ensures.items c.put_number.ensures in
    on_ok c.put_number.result _ _ put (λ e. e ∙ ap (λ s. c.args.text.now.items ++ source_label s) (sym c.in-Iteration.is))
