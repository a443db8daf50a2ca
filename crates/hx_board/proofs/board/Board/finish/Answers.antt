use Rattle.std.proofs.Common.{rules, ◌≡◌, length, refl, ap, ◌∙◌}
use Rattle.std.specs.Prelude.{take}
use Rattle.hx_code.specs.Region.{words_after}
use Rattle.hx_word.specs.declared.entry.RegionEnd.{RegionEnd}
use Rattle.hx_word.specs.Opening.{opened_of}
use Rattle.hx_board.specs.Board.{BoardView}
use Rattle.hx_board.specs.Keeps.{view_of}
use Rattle.hx_board.specs.Ends.{IsFor, EndsAs}
use Rattle.hx_board.proofs.Plainly.{ends_alone, ends_plainly}
use Rattle.hx_board.proofs.board.Board.finish.Goals as goal

pub returns-clause-plain : goal.returns-clause-plain
returns-clause-plain c =
    let b : BoardView = view_of c.self.inside in
    let e : RegionEnd = record { exit = c.in-Some.exit; store = c.self.inside.store; locals = c.copy_from_slice.new.self; text = c.self.inside.text; counts = c.self.inside.counts } in
    let code = c.self.inside.job.code.now in
    let behind = c.words_behind-words.ensures ∙ ap (words_after code c.in-Some.exit (opened_of c.self.inside.opened) b.head) c.deref.ensures.value ∙ ap (λ o. words_after code c.in-Some.exit o b.head c.self.inside.store.items) c.self.invariant.opened in
    let count : c.len-count.result ≡ length c.self.inside.entry.locals.items = search (rules, c.len-count.ensures) in
    let told : EndsAs b e = record { exit = search rules; store = refl; locals = c.copy_from_slice.ensures.items ∙ ap (λ n. take n c.words_behind-words.result) count ∙ ap (take (length c.self.inside.entry.locals.items)) behind; text = refl; counts = refl } in
    let long : length c.copy_from_slice.new.self.items ≡ length c.self.inside.entry.locals.items = search (rules, c.copy_from_slice.ensures.len) in
    let for : IsFor b.setup c.args.job.now.code.now c.args.job.now.region c.args.entry.now = search rules in
    let valid = c.known.ensures in
    let alone = ends_alone b valid c.self.invariant.is_opened c.self.invariant.kept c.self.invariant.fits.store e told long in
    ends_plainly b.setup c.args.job.now.code.now c.args.job.now.region c.args.entry.now e for alone
