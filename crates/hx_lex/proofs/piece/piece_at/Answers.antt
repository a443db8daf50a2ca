use Rattle.std.proofs.Common.{◌≡◌, ℕ, ◌<◌, ◌≤◌, List, length, Result, Ok, Err, sym}
use Rattle.std.specs.Prelude.{IfOk}
use Rattle.hx_tree.specs.declared.token.Pos.{Pos}
use Rattle.hx_lex.specs.declared.piece.Piece.{Piece}
use Rattle.hx_lex.specs.declared.error.LexError.{LexError}
use Rattle.hx_lex.specs.Reading.{piece_at}
use Rattle.hx_lex.proofs.Pieces.{piece_len}
use Rattle.hx_lex.proofs.piece.piece_at.Goals as goal

some : (pos : Pos) (bytes : List ℕ) (r : Result Piece LexError) → 0 < length bytes → r ≡ piece_at pos bytes → IfOk r (λ piece. 0 < piece.len)
some pos bytes (Ok p) n e = (piece_len pos bytes p n (sym e)).0
some pos bytes (Err f) n e = tt

within : (pos : Pos) (bytes : List ℕ) (r : Result Piece LexError) → 0 < length bytes → r ≡ piece_at pos bytes → IfOk r (λ piece. piece.len ≤ length bytes)
within pos bytes (Ok p) n e = (piece_len pos bytes p n (sym e)).1
within pos bytes (Err f) n e = tt

pub returns-clause-some : goal.returns-clause-some
returns-clause-some c = some c.args.pos c.args.bytes.now c.classified.result c.requires c.classified.ensures

pub returns-clause-within : goal.returns-clause-within
returns-clause-within c = within c.args.pos c.args.bytes.now c.classified.result c.requires c.classified.ensures
