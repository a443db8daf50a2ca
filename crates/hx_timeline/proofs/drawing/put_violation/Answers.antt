use Rattle.std.proofs.Common.{◌++◌, ◌-◌, ◌≡◌, ap, ◌∙◌}
use Rattle.std.specs.Prelude.{decimal}
use Rattle.hx_timeline.specs.Drawing.{line_of, side_from}
use Rattle.hx_timeline.proofs.Texts.{then_put, last_put}
use Rattle.hx_timeline.proofs.drawing.put_violation.Goals as goal

pub returns : goal.returns
returns c =
    let svg = c.args.svg.now.items in
    let left : c.saturating_sub.result ≡ side_from c.args.link - 7 = c.saturating_sub.ensures ∙ ap (λ n. n - 7) c.sides-from.ensures.from in
    let x = c.in_ok-put_number.ensures ∙ ap (λ n. c.extend_from_slice.new.self.items ++ decimal n) left in
    let y = c.in_ok-put_number-2.ensures ∙ ap (λ n. c.extend_from_slice-2.new.self.items ++ decimal n) c.middle_of.ensures in
    let upto_edge = then_put svg (line_of c.args.link) _ _ _ c.in_ok-put_line.ensures c.in_ok-extend_from_slice.ensures.items in
    let upto_x = then_put svg _ _ _ _ upto_edge x in
    let upto_blank = then_put svg _ _ _ _ upto_x c.in_ok-extend_from_slice-2.ensures.items in
    let upto_y = then_put svg _ _ _ _ upto_blank y in
    last_put c.extend_from_slice-3.result svg c.put_number-2.new.text.items c.extend_from_slice-3.new.self.items _ _ upto_y c.extend_from_slice-3.ensures.items
