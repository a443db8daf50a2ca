use Rattle.std.proofs.Common.{ap, ◌∙◌}
use Rattle.hx_speculation.specs.Frame.{stretch}
use Rattle.hx_frame.specs.Automaton.{ask_in}
use Rattle.hx_frame.specs.Frame.{FrameView}
use Rattle.hx_frame.proofs.Kept.{not_held, ran_is, ran_keeps, tells_stop}
use Rattle.hx_frame.proofs.frame.Frame.run.Goals as goal

-- src/frame.rt:106:5
pub invariant_of-self : goal.invariant_of-self
invariant_of-self c =
    let i = c.self.invariant in
    (ran_keeps _ _ _ _ _ _ _ c.args.limit _ _ (not_held _ c.in_default.not-Held) i.0 c.run_words-need.ensures, i.1, i.2)

-- src/frame.rt:106:5
pub returns : goal.returns
returns c =
    let f = c.self.inside in
    let ran = ran_is f.code.now f.tag f.start f.here f.marks.entries f.writes.entries f.need c.args.limit c.run_words-need.new.here c.run_words-need.result (not_held _ c.in_default.not-Held) c.run_words-need.ensures in
    record {
      ran = ap (λ z. let v : FrameView = record { code = f.code.now; capacities = f.capacities; frame = z } in v) ran
          ∙ ap (λ (s : FrameView). let v : FrameView = record { code = s.code; capacities = s.capacities; frame = stretch (ask_in s.code) c.args.limit s.frame } in v) c.self.view_is;
      stop = c.stop.ensures ∙ tells_stop f.code.now f.capacities f.tag f.start c.run_words-need.new.here f.marks.entries f.writes.entries c.run_words-need.result c.run_words-need.ensures.tells;
    }
