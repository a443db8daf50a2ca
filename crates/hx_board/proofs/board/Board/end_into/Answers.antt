use Rattle.std.proofs.Common.{rules, arith, ◌≡◌, length, ap, ◌∙◌}
use Rattle.std.specs.Prelude.{take}
use Rattle.hx_code.specs.Region.{words_after}
use Rattle.hx_word.specs.declared.entry.RegionEnd.{RegionEnd}
use Rattle.hx_word.specs.Opening.{opened_of}
use Rattle.hx_board.specs.Board.{BoardView}
use Rattle.hx_board.specs.Keeps.{view_of}
use Rattle.hx_board.specs.Ends.{IsFor, EndsAs}
use Rattle.hx_board.proofs.Plainly.{ends_alone, ends_plainly}
use Rattle.hx_board.proofs.Steps.{text_fits}
use Rattle.hx_board.proofs.board.Board.end_into.Goals as goal

pub refill_text-requires : goal.refill_text-requires
refill_text-requires c =
    let fits = text_fits (view_of c.self.inside) c.known.ensures c.self.invariant.is_opened c.self.invariant.kept in
    omega (arith, fits, ap length c.deref-3.ensures.value, c.requires.text)

pub returns-clause-plain : goal.returns-clause-plain
returns-clause-plain c =
    λ yes.
    let b : BoardView = view_of c.self.inside in
    let e : RegionEnd = record { exit = c.in-Some.exit; store = c.refill_words.new.kept; locals = c.refill_words-2.new.kept; text = c.refill_text.new.kept; counts = c.self.inside.counts } in
    let code = c.self.inside.job.code.now in
    let behind = c.words_behind-words.ensures ∙ ap (words_after code c.in-Some.exit (opened_of c.self.inside.opened) b.head) c.deref.ensures.value ∙ ap (λ o. words_after code c.in-Some.exit o b.head c.self.inside.store.items) c.self.invariant.opened in
    let count : c.len-count.result ≡ length c.self.inside.entry.locals.items = search (rules, c.len-count.ensures) in
    let told : EndsAs b e = record {
      exit = search rules;
      store = c.refill_words.ensures.items ∙ c.deref-2.ensures.value;
      locals = c.refill_words-2.ensures.items ∙ ap (λ n. take n c.words_behind-words.result) count ∙ ap (take (length c.self.inside.entry.locals.items)) behind;
      text = c.refill_text.ensures.items ∙ c.deref-3.ensures.value;
      counts = search rules;
    } in
    let long : length c.refill_words-2.new.kept.items ≡ length c.self.inside.entry.locals.items = search rules in
    let for : IsFor b.setup c.args.job.now.code.now c.args.job.now.region c.args.entry.now = search rules in
    let alone = ends_alone b c.known.ensures c.self.invariant.is_opened c.self.invariant.kept c.self.invariant.fits.store e told long in
    ends_plainly b.setup c.args.job.now.code.now c.args.job.now.region c.args.entry.now e for alone
