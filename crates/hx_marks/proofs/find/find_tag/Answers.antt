use Rattle.std.proofs.Common.{arith}
use Rattle.hx_marks.proofs.Lanes.{below_more, hit}
use Rattle.hx_marks.proofs.find.find_tag.Goals as goal

pub returns-then-run-lt-LANES : goal.returns-then-run-lt-LANES
returns-then-run-lt-LANES c = (
  omega arith,
  hit c.args.words.now c.args.word c.loop-at.at c.run_before-run.result (omega arith) c.run_before-run.ensures c.if-run-lt-LANES.true,
  below_more c.args.words.now c.args.word c.loop-at.at c.run_before-run.result (omega arith) c.run_before-run.ensures c.loop-at.invariant.1,
)

pub loop-at-preserved : goal.loop-at-preserved
loop-at-preserved c = (
  omega arith,
  λ k h. below_more c.args.words.now c.args.word c.loop-at.at c.run_before-run.result (omega arith) c.run_before-run.ensures c.loop-at.invariant.1 k (omega arith),
)
