use Rattle.std.proofs.Common.{◌<◌, sym, subst}
use Rattle.hx_code.specs.Code.{store_words}
use Rattle.hx_code.specs.Valid.{IsValid}
use Rattle.hx_trace.proofs.Turns.{needed_load, needed_store}
use Rattle.hx_trace.proofs.answers.words_fit.Goals as goal

pub returns-clause-load : goal.returns-clause-load
returns-clause-load c = λ a e.
    let code = c.args.frame.now.code in
    let valid = subst IsValid c.code.ensures c.known-3.ensures in
    let lt = needed_load code valid c.args.frame.now.frame c.known-2.ensures.truth c.known-2.ensures.here a e in
    subst (λ n. a < n) (sym c.known.ensures.long) (subst (λ k. a < store_words k) c.requires lt)

pub returns-clause-store : goal.returns-clause-store
returns-clause-store c = λ a v e.
    let code = c.args.frame.now.code in
    let valid = subst IsValid c.code.ensures c.known-3.ensures in
    let lt = needed_store code valid c.args.frame.now.frame c.known-2.ensures.truth c.known-2.ensures.here a v e in
    subst (λ n. a < n) (sym c.known.ensures.long) (subst (λ k. a < store_words k) c.requires lt)
