use Rattle.std.proofs.Common.{◌≡◌, [], ◌++◌, ap, ◌∙◌}
use Rattle.std.specs.Prelude.{codes, flat_map}
use Rattle.std.specs.List.{range_with_len}
use Rattle.hx_timeline.specs.Chart.{lane_count, attempts_of, violations_of, forwards_of}
use Rattle.hx_timeline.specs.Drawing.{head_of, box_of, violation_of, arrow_of, events_from}
use Rattle.hx_timeline.proofs.Texts.{then_put}
use Rattle.hx_timeline.proofs.drawing.picture.Goals as goal

pub returns : goal.returns
returns c =
    let names = c.args.names.now in
    let told = c.args.told.now in
    let chart = c.in_ok-chart.ensures in
    let events : c.deref.result.now ≡ told.events.items = c.deref.ensures.value in
    let attempts : c.deref-3.result.now ≡ attempts_of told.events.items = c.deref-3.ensures.value ∙ chart.attempts ∙ ap attempts_of events in
    let violations : c.deref-4.result.now ≡ violations_of told.events.items = c.deref-4.ensures.value ∙ chart.violations ∙ ap violations_of events in
    let forwards : c.deref-5.result.now ≡ forwards_of told.events.items = c.deref-5.ensures.value ∙ chart.forwards ∙ ap forwards_of events in
    let opening = c.in_ok-extend_from_slice.ensures.items ∙ ap (λ l. l ++ codes "<svg xmlns=\"http://www.w3.org/2000/svg\"") c.new-svg.ensures.items in
    let lanes : c.in_ok-chart.chart.lanes ≡ lane_count told.events.items = chart.lanes ∙ ap lane_count events in
    let heads = c.in_ok-put_heads.ensures ∙ ap (λ n. c.extend_from_slice-2.new.self.items ++ flat_map head_of (range_with_len 0 n)) lanes in
    let boxes = c.in_ok-put_boxes.ensures ∙ ap (λ xs. c.put_heads.new.svg.items ++ flat_map box_of xs) attempts in
    let lines = c.in_ok-put_violations.ensures ∙ ap (λ xs. c.put_boxes.new.svg.items ++ flat_map violation_of xs) violations in
    let arrows = c.in_ok-put_forwards.ensures ∙ ap (λ xs. c.put_violations.new.svg.items ++ flat_map arrow_of xs) forwards in
    let words = c.in_ok-put_events.ensures ∙ ap (λ t. c.put_forwards.new.svg.items ++ events_from names t 0 c.deref-7.result.now) c.deref-6.ensures.value ∙ ap (λ es. c.put_forwards.new.svg.items ++ events_from names told.trace.text.items 0 es) c.deref-7.ensures.value in
    let upto_sheet = then_put [] _ _ _ _ opening c.in_ok-extend_from_slice-2.ensures.items in
    let sheet = c.extend_from_slice-2.new.self.items in
    let upto_boxes = then_put sheet _ _ _ _ heads boxes in
    let upto_lines = then_put sheet _ _ _ _ upto_boxes lines in
    let upto_arrows = then_put sheet _ _ _ _ upto_lines arrows in
    let upto_words = then_put sheet _ _ _ _ upto_arrows words in
    let all = then_put [] _ _ _ _ upto_sheet upto_words in
    record { sheet = c.deref-2.result.now; layers = then_put [] _ _ _ _ all c.in_ok-extend_from_slice-3.ensures.items }
