use Rattle.std.proofs.Common.{rules, ◌≡◌, ◌∙◌, ap, sym, subst, take, drop, length, min}
use Rattle.std.proofs.lemmas.List.{take_min, drop_min}
use Rattle.hx_tree.specs.View.{global_of, shape_of}
use Rattle.hx_tree.specs.Accepted.{shape_words}
use Rattle.hx_stats.proofs.Lines.{ArePut, put-more, put-one, map-next}
use Rattle.hx_stats.proofs.globals.put_lines.Goals as goal

pub loop-global-preserved : goal.loop-global-preserved
loop-global-preserved c =
    let words = shape_words (shape_of c.global-item.result.shape) in
    let rest = c.loop-global.rest.now in
    let count : c.min-count.result ≡ min words (length rest) = search rules in
    let front = c.split_at.ensures.front ∙ ap (λ n. take n rest) count ∙ take_min words rest in
    let back = c.split_at.ensures.back ∙ ap (λ n. drop n rest) count ∙ drop_min words rest in
    let next = map-next global_of c.args.globals.now c.loop-global.global-index c.global-item.result (search rules) c.global-item.is in
    let one = put-one (global_of c.global-item.result) rest c.split_at.result.0.now c.split_at.result.1.now c.loop-global.text.items c.put_line.new.text.items front back (search rules) in
    subst (λ gs. ArePut gs c.args.words.now c.args.text.now.items c.put_line.new.text.items c.split_at.result.1.now) (sym next) (put-more _ _ _ _ _ _ _ _ c.loop-global.invariant one)
