use Rattle.std.proofs.Common.{◌≡◌, ◌+◌, None, sym, ap, ◌∙◌}
use Rattle.hx_tree.specs.declared.outcome.Counts.{Counts}
use Rattle.hx_code.specs.Machine.{EndsWith, counts_of}
use Rattle.hx_word.specs.Plain.{one_store}
use Rattle.hx_run.proofs.Runs.{next_words}
use Rattle.hx_run.proofs.Behind.{reached_behind}
use Rattle.hx_run.proofs.running.run_to_end.Goals as goal

pub returns-in-Ended : goal.returns-in-Ended
returns-in-Ended g c =
    let h = c.loop.invariant.2 in
    let told = next_words g.R.Run.setup.code g.I.Given.input c.loop.plain 1024 (λ code m. EndsWith code m c.in-Ended.outcome × (c.in-Ended.counts ≡ counts_of m)) h (λ m e. let x = c.in-Ended.ensures m e in (x.1, x.2)) in (
      1024 + h.words,
      record {
        ends = told.0;
        regions = c.counted-counts.ensures.regions ∙ ap (λ (n : Counts). n.regions) told.1;
        turns = c.counted-counts.ensures.turns ∙ ap (λ (n : Counts). n.turns) told.1;
      },
    )

pub loop-preserved-in-More : goal.loop-preserved-in-More
loop-preserved-in-More g c =
    let h = c.loop.invariant.2 in
    let more = next_words g.R.Run.setup.code g.I.Given.input c.loop.plain 1024 (λ code m. (c.in-More.more.code ≡ code) × (c.in-More.more.machine ≡ one_store m) × (m.end ≡ None)) h (λ m e. let x = c.in-More.ensures m e in (x.1, x.2, x.3)) in
    (tt, tt, record { same = more.0; words = 1024 + h.words; machine = sym more.1 })

pub loop-preserved : goal.loop-preserved
loop-preserved g c =
    let h = c.loop.invariant.2 in
    (tt, tt, reached_behind g.R.Run.setup.code g.I.Given.input c.loop.plain c.in-At.open c.pass-behind.result.0 1024 h c.in-At.ensures c.pass-behind.ensures.behind)
