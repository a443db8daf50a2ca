use Rattle.std.proofs.Common.{rules, ◌++◌, ap, sym, ◌∙◌}
use Rattle.hx_trace.specs.Telling.{name_of}
use Rattle.hx_trace.proofs.Texts.{on_ok, name_found}
use Rattle.hx_trace.proofs.telling.put_name.Goals as goal

pub returns-then-is_called : goal.returns-then-is_called
returns-then-is_called c =
    let x = c.called-item.result in
    let found = name_found c.args.names.now c.loop-called.called-index c.args.word x (search rules) c.called-item.is (sym c.is_called.ensures ∙ c.if-is_called.true) in
    let same = c.loop-called.invariant.1 ∙ found in
    on_ok c.put_called.result _ _ c.put_called.ensures (λ e. e ∙ ap (λ t. t ++ name_of c.args.word x) c.loop-called.invariant.0 ∙ ap (λ l. c.args.text.now.items ++ l) (sym same))
