use Rattle.std.proofs.Common.{arith, ◌≡◌, subst}
use Rattle.hx_code.specs.Code.{store_words}
use Rattle.hx_exec.specs.Ready.{IsReady}
use Rattle.hx_tests_calls.proofs.rounds.gone_round.Goals as goal

pub simple_words-gone-requires-clause-ready : goal.simple_words-gone-requires-clause-ready
simple_words-gone-requires-clause-ready g c =
    let all : store_words c.args.code.now ≡ 66 = omega (arith, c.globals.ensures, c.if-globals-ne2.false) in
    subst (λ n. IsReady c.args.code.now 0 c.args.limit n c.in-Some.ready) all c.in-Some.ensures
