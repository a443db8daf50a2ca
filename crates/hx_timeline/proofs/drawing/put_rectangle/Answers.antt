use Rattle.std.proofs.Common.{◌≡◌, ◌++◌, ◌+◌, ap, ◌∙◌, arith}
use Rattle.std.specs.Prelude.{codes}
use Rattle.hx_timeline.specs.Drawing.{left_of, size_of}
use Rattle.hx_timeline.proofs.Texts.{then_put, last_put}
use Rattle.hx_timeline.proofs.drawing.put_rectangle.Goals as goal

pub returns : goal.returns
returns c =
    let svg = c.args.svg.now.items in
    let left : c.saturating_add.result ≡ left_of c.args.worker + 12 = omega arith in
    let x = c.in_ok-put_size.ensures ∙ ap (λ n. c.extend_from_slice.new.self.items ++ size_of (codes "x") n) left in
    let height = c.in_ok-put_size-4.ensures ∙ ap (λ n. c.put_size-3.new.svg.items ++ size_of (codes "height") n) c.saturating_sub.ensures in
    let upto_x = then_put svg _ _ _ _ c.in_ok-extend_from_slice.ensures.items x in
    let upto_y = then_put svg _ _ _ _ upto_x c.in_ok-put_size-2.ensures in
    let upto_width = then_put svg _ _ _ _ upto_y c.in_ok-put_size-3.ensures in
    let upto_height = then_put svg _ _ _ _ upto_width height in
    let upto_style = then_put svg _ _ _ _ upto_height c.in_ok-extend_from_slice-2.ensures.items in
    last_put c.extend_from_slice-3.result svg c.extend_from_slice-2.new.self.items c.extend_from_slice-3.new.self.items _ _ upto_style c.extend_from_slice-3.ensures.items
