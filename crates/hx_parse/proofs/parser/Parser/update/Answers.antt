use Rattle.std.proofs.Common.{Ok, refl, sym, arith}
use Rattle.std.proofs.lemmas.Result.{err_from_is_err_and}
use Rattle.hx_tree.specs.Tree.{Set, Update}
use Rattle.hx_tree.specs.View.{place_of}
use Rattle.hx_grammar.specs.Reading.{expr_at}
use Rattle.hx_parse.proofs.Loops.{fails_then}
use Rattle.hx_parse.proofs.Steps.{update_set, update_increment, update_decrement, update_other, update_none}
use Rattle.hx_parse.proofs.parser.Parser.update.Goals as goal

pub returns-in_err-target-in-Assign-clause-read : goal.returns-in_err-target-in-Assign-clause-read
returns-in_err-target-in-Assign-clause-read c =
    let p = err_from_is_err_and c.from_residual.result c.from_residual.ensures.1 in
    let h = rw (c.in_err-target-in-Assign.ensures) at c.expression.ensures.read in
    rw (p.1, p.2, c.in-Assign.is, update_set c.args.room (place_of c.args.target) c.args.pos c.args.self.now)
    (fails_then c.in_err-target-in-Assign.field-0.0 (expr_at c.args.room 11 c.args.self.now) (λ e. Ok (Set (place_of c.args.target) e.0, e.1)) h)

pub returns-in_ok-target-in-Assign-clause-read : goal.returns-in_ok-target-in-Assign-clause-read
returns-in_ok-target-in-Assign-clause-read c =
    let h = rw (c.in_ok-target-in-Assign.ensures.1) at c.expression.ensures.read in
    rw (c.in-Assign.is, update_set c.args.room (place_of c.args.target) c.args.pos c.args.self.now, c.in_ok-target-in-Assign.ensures.0, h) refl

pub returns-in-Increment-clause-read : goal.returns-in-Increment-clause-read
returns-in-Increment-clause-read c = rw (c.in-Increment.is) (update_increment c.args.room (place_of c.args.target) c.args.pos c.args.self.now)

pub returns-in-Decrement-clause-read : goal.returns-in-Decrement-clause-read
returns-in-Decrement-clause-read c = rw (c.in-Decrement.is) (update_decrement c.args.room (place_of c.args.target) c.args.pos c.args.self.now)

pub returns-in_err-target-in-Some : goal.returns-in_err-target-in-Some
returns-in_err-target-in-Some c =
    let p = err_from_is_err_and c.from_residual-in_err-target-in-Some.result c.from_residual-in_err-target-in-Some.ensures.1 in
    let h = rw (c.in_err-target-in-Some.ensures) at c.expression-in-Some.ensures.read in
    record {
      read = rw (p.1, p.2, update_other c.args.room (place_of c.args.target) c.args.mark c.args.pos c.args.self.now c.in-Some.op (sym c.in-Some.ensures))
          (fails_then c.in_err-target-in-Some.field-0.0 (expr_at c.args.room 11 c.args.self.now) (λ e. Ok (Update (place_of c.args.target) c.in-Some.op c.args.pos e.0, e.1)) h);
      shorter = rw (p.1) tt;
    }

pub returns-in_ok-target-in-Some : goal.returns-in_ok-target-in-Some
returns-in_ok-target-in-Some c =
    let h = rw (c.in_ok-target-in-Some.ensures.1) at c.expression-in-Some.ensures.read in
    record {
      read = rw (update_other c.args.room (place_of c.args.target) c.args.mark c.args.pos c.args.self.now c.in-Some.op (sym c.in-Some.ensures), c.in_ok-target-in-Some.ensures.0, h) refl;
      shorter = omega (arith, rw (c.in_ok-target-in-Some.ensures.1) at c.expression-in-Some.ensures.shorter);
    }

pub returns-in-None : goal.returns-in-None
returns-in-None c = record {
  read = update_none c.args.room (place_of c.args.target) c.args.mark c.args.pos c.args.self.now (sym c.in-None.ensures) c.in_default.not-Assign c.in_default.not-Increment c.in_default.not-Decrement;
  shorter = tt;
}
