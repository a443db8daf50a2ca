use Rattle.std.proofs.Common.{◌++◌, ap, ◌∙◌}
use Rattle.std.specs.Prelude.{codes}
use Rattle.hx_trace.proofs.Texts.{on_ok, put_behind}
use Rattle.hx_timeline.specs.Drawing.{size_of}
use Rattle.hx_timeline.proofs.Texts.{then_put}
use Rattle.hx_timeline.proofs.drawing.put_line.Goals as goal

pub returns : goal.returns
returns c =
    let svg = c.args.svg.now.items in
    let x1 = c.in_ok-put_size.ensures ∙ ap (λ n. c.extend_from_slice.new.self.items ++ size_of (codes "x1") n) c.sides-from.ensures.from in
    let y1 = c.in_ok-put_size-2.ensures ∙ ap (λ n. c.put_size.new.svg.items ++ size_of (codes "y1") n) c.middle_of.ensures in
    let x2 = c.in_ok-put_size-3.ensures ∙ ap (λ n. c.put_size-2.new.svg.items ++ size_of (codes "x2") n) c.sides-from.ensures.to in
    let y2 = on_ok c.put_size-4.result _ _ c.put_size-4.ensures (λ e. e ∙ ap (λ n. c.put_size-3.new.svg.items ++ size_of (codes "y2") n) c.middle_of-2.ensures) in
    let upto_x1 = then_put svg _ _ _ _ c.in_ok-extend_from_slice.ensures.items x1 in
    let upto_y1 = then_put svg _ _ _ _ upto_x1 y1 in
    let upto_x2 = then_put svg _ _ _ _ upto_y1 x2 in
    put_behind c.put_size-4.result svg _ c.put_size-3.new.svg.items c.put_size-4.new.svg.items _ upto_x2 y2
