use Rattle.std.proofs.Common.{◌∙◌, ap}
use Rattle.hx_code.specs.Region.{region_after}
use Rattle.hx_word.specs.Running.{RunView}
use Rattle.hx_pool.proofs.Later.{later}
use Rattle.hx_pool.proofs.kept.run_to_end.Goals as goal

pub returns-then-run-clause-words : goal.returns-then-run-clause-words
returns-then-run-clause-words g c =
    let h = c.loop.invariant in
    let then = ap (λ (r : RunView). r.state) c.run.ensures.ran ∙ ap (λ k. region_after k 1024 c.loop.run.state) h.2 in
    later c.args.run.now.code c.args.run.now.state c.loop.run.state c.run.new.self.state 1024 h.4 then

pub loop-preserved : goal.loop-preserved
loop-preserved g c =
    let h = c.loop.invariant in
    let ran = c.run.ensures.ran in
    let then = ap (λ (r : RunView). r.state) ran ∙ ap (λ k. region_after k 1024 c.loop.run.state) h.2 in
    (tt, tt, ap (λ (r : RunView). r.code) ran ∙ h.2, ap (λ (r : RunView). r.locals) ran ∙ h.3, later c.args.run.now.code c.args.run.now.state c.loop.run.state c.run.new.self.state 1024 h.4 then)
