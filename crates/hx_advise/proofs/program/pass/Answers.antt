use Rattle.std.proofs.Common.{◌≡◌, ◌≤◌, ℕ, is_some, true, false, length, get_or, ap, sym, subst, ◌∙◌, arith}
use Rattle.hx_code.specs.Code.{CodeView}
use Rattle.hx_code.specs.Region.{RegionState, region_after}
use Rattle.hx_word.specs.Entry.{EntryFits, IsEntryOf, IsEndOf}
use Rattle.hx_word.specs.Laws.{begun_from}
use Rattle.hx_word.specs.Running.{RunView}
use Rattle.hx_advise.specs.declared.program.Seen.{Seen}
use Rattle.hx_advise.specs.Regions.{IsWatched}
use Rattle.hx_advise.proofs.Passes.{exits, seen_by, passed_none, passed_on}
use Rattle.hx_advise.proofs.program.pass.Goals as goal

pub returns-then-not-watched-clause-passed : goal.returns-then-not-watched-clause-passed
returns-then-not-watched-clause-passed c =
    let code = c.args.code.now in
    let o = c.args.open in
    let e = c.in_ok-entry.entry in
    let w = c.in_ok-watched.watched in
    let shows = subst (λ (k : CodeView). IsEntryOf k o.region.opened o.region.store e) c.requires.same c.in_ok-entry.ensures.entry in
    let fits = subst (λ (k : CodeView). EntryFits k o.region.opened.region e) c.requires.same c.in_ok-entry.ensures.fits in
    let watched = subst (λ (n : ℕ). IsWatched code n e w) c.region-region.ensures c.in_ok-watched.ensures.watched in
    let not : w.has_ended ≡ false = c.if-not-watched.true in
    let all : w.words ≡ c.args.steps = omega (arith, c.in_ok-watched.ensures.all not, c.requires.few) in
    let seen = seen_by code c.known.ensures o e shows fits w watched c.region-region.result c.args.loops.now (get_or c.args.loops.now c.region-region.result c.index-loops-region.result) c.take_in.new.self c.region-region.ensures c.requires.long (ap (λ (d : Seen). get_or c.args.loops.now c.region-region.result d) c.index-loops-region.is) c.in_ok-take_in.ensures in
    passed_none code c.known.ensures o e shows fits w watched c.args.steps c.args.loops.now _ all not seen

pub unreachable-requires : goal.unreachable-requires
unreachable-requires c =
    let code = c.args.code.now in
    let o = c.args.open in
    let e = c.in_ok-entry.entry in
    let w = c.in_ok-watched.watched in
    let shows = subst (λ (k : CodeView). IsEntryOf k o.region.opened o.region.store e) c.requires.same c.in_ok-entry.ensures.entry in
    let fits = subst (λ (k : CodeView). EntryFits k o.region.opened.region e) c.requires.same c.in_ok-entry.ensures.fits in
    let watched = subst (λ (n : ℕ). IsWatched code n e w) c.region-region.ensures c.in_ok-watched.ensures.watched in
    let over = watched.ended.0 c.if-not-watched.false in
    let some = exits code c.known.ensures o e shows fits w.words over in
    let runs : c.run.new.self.state ≡ region_after code w.words (begun_from code c.region-region.result e) = ap (λ (x : RunView). x.state) c.run.ensures.ran ∙ ap (λ (x : RunView). region_after x.code w.words x.state) c.in_ok-run.ensures in
    let there : is_some c.run.new.self.state.exit ≡ true = ap (λ (z : RegionState). is_some z.exit) runs ∙ ap (λ (n : ℕ). is_some (region_after code w.words (begun_from code n e)).exit) c.region-region.ensures ∙ some in
    let no : false ≡ true = sym (ap (λ x. is_some x) c.in-Err.ensures.end.1) ∙ there in
    absurd cc

pub returns-clause-passed : goal.returns-clause-passed
returns-clause-passed c =
    let code = c.args.code.now in
    let o = c.args.open in
    let e = c.in_ok-entry.entry in
    let w = c.in_ok-watched.watched in
    let end = c.in-Ok.end in
    let shows = subst (λ (k : CodeView). IsEntryOf k o.region.opened o.region.store e) c.requires.same c.in_ok-entry.ensures.entry in
    let fits = subst (λ (k : CodeView). EntryFits k o.region.opened.region e) c.requires.same c.in_ok-entry.ensures.fits in
    let watched = subst (λ (n : ℕ). IsWatched code n e w) c.region-region.ensures c.in_ok-watched.ensures.watched in
    let few : w.words ≤ c.args.steps = omega (arith, c.in_ok-watched.ensures.words) in
    let seen = seen_by code c.known.ensures o e shows fits w watched c.region-region.result c.args.loops.now (get_or c.args.loops.now c.region-region.result c.index-loops-region.result) c.take_in.new.self c.region-region.ensures c.requires.long (ap (λ (d : Seen). get_or c.args.loops.now c.region-region.result d) c.index-loops-region.is) c.in_ok-take_in.ensures in
    let runs : c.run.new.self ≡ record { code = code; state = region_after code w.words (begun_from code c.region-region.result e); locals = length e.locals.items } = c.run.ensures.ran ∙ ap {B = RunView} (λ (x : RunView). record x { state = region_after x.code w.words x.state }) c.in_ok-run.ensures in
    let alone = subst (λ (x : RunView). IsEndOf x.code x.state x.locals end) runs c.in-Ok.ensures.end in
    let ends = subst (λ (n : ℕ). IsEndOf code (region_after code w.words (begun_from code n e)) (length e.locals.items) end) c.region-region.ensures alone in
    (few, passed_on code c.known.ensures o e shows fits w watched o.code end c.resume.result c.args.loops.now _ c.requires.same c.if-not-watched.false ends c.resume.ensures seen)
