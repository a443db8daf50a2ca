use Rattle.std.proofs.Common.{◌≡◌, ◌<◌, ◌≤◌, ◌+◌, ◌-◌, length, take, drop, Ok, Err, refl, sym, ◌∙◌, arith, length-drop, length-take}
use Rattle.hx_tree.specs.Lexis as lexis
use Rattle.hx_lex.specs.View.{tokens_of}
use Rattle.hx_lex.specs.Reading.{piece_at, lex_at}
use Rattle.hx_lex.proofs.Loop.{lexed_goes_on, lexed_fails, lexed_ends, tail_is, passes_on}
use Rattle.hx_lex.proofs.Cut.{place_goes_on}
use Rattle.hx_lex.proofs.lexer.read.Goals as goal

pub returns-in_err-piece-clause-reading : goal.returns-in_err-piece-clause-reading
returns-in_err-piece-clause-reading c =
    let e : piece_at c.loop-at.pos (drop c.loop-at.at c.args.source.now) ≡ Err c.in_err-piece.field-0.0 = sym (rw tail_is at c.in_err-piece.ensures.reading) in
    let fails = lexed_fails c.args.source.now (tokens_of c.loop-at.tokens.items) c.loop-at.pos c.loop-at.at c.in_err-piece.field-0.0 c.loop-at.invariant.lexed (omega arith) e in
    passes_on (λ v. tokens_of v.items) (lex_at (length c.args.source.now) lexis.first_place c.args.source.now) c.from_residual.result c.in_err-piece.field-0.0 c.from_residual.ensures.1 fails

pub loop-at-preserved : goal.loop-at-preserved
loop-at-preserved c =
    let e : piece_at c.loop-at.pos (drop c.loop-at.at c.args.source.now) ≡ Ok c.in_ok-piece.piece = sym (rw tail_is at c.in_ok-piece.ensures.reading) in
    let some : 0 < c.in_ok-piece.piece.len = c.in_ok-piece.ensures.some in
    let within : c.in_ok-piece.piece.len ≤ length (drop c.loop-at.at c.args.source.now) = rw tail_is at c.in_ok-piece.ensures.within in
    let len : c.loop-at.at + c.in_ok-piece.piece.len - c.loop-at.at ≡ c.in_ok-piece.piece.len = omega arith in
    let size : length (take c.in_ok-piece.piece.len (drop c.loop-at.at c.args.source.now)) ≡ c.in_ok-piece.piece.len = omega (arith, length-take c.in_ok-piece.piece.len (drop c.loop-at.at c.args.source.now)) in
    let place : c.place_after-pos.result ≡ lexis.place_after c.loop-at.pos (take c.in_ok-piece.piece.len (drop c.loop-at.at c.args.source.now)) = rw len at c.place_after-pos.ensures.pos in
    record {
      lexed = rw (c.in_ok-push_token.ensures.tokens, place, len) (lexed_goes_on c.args.source.now (tokens_of c.loop-at.tokens.items) c.loop-at.pos c.loop-at.at c.in_ok-piece.piece c.loop-at.invariant.lexed (omega arith) e);
      cut = c.in_ok-push_token.ensures.cut c.args.source.now (omega arith) refl c.loop-at.invariant.place c.loop-at.invariant.cut;
      place = place ∙ rw c.loop-at.invariant.place (place_goes_on c.args.source.now c.loop-at.at c.in_ok-piece.piece.len);
      within = omega (arith, within, length-drop c.loop-at.at c.args.source.now);
      line = omega (arith, rw (len, size) at c.place_after-pos.ensures.line);
      col = omega (arith, rw (len, size) at c.place_after-pos.ensures.col);
      first = c.place_after-pos.ensures.first;
    }

pub returns-clause-reading : goal.returns-clause-reading
returns-clause-reading c = lexed_ends c.args.source.now (tokens_of c.loop-at.tokens.items) c.loop-at.pos c.loop-at.at c.loop-at.invariant.lexed (omega arith)
