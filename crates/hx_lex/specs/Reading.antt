-- How the lexer reads, as a function on lists: piece after piece, each told by its first two bytes.
-- `proofs/` shows that it finds the tokens of the definition, and fails where there are none.
use Rattle.std.specs.Prelude.{◌≡◌, ℕ, zero, suc, ◌+◌, Bool, ◌&&◌, ◌==◌, nat_le, List, [], ◌∷◌, length, take, drop, take_while, Option, Some, None, Result, Ok, Err, if◌then◌else◌}
use Rattle.hx_tree.specs.declared.limits.TheConstants.{NAME_LIMIT}
use Rattle.hx_tree.specs.declared.token.Pos.{Pos}
use Rattle.hx_tree.specs.declared.token.Mark.{Mark}
use Rattle.hx_tree.specs.declared.token.Kind.{Kind}
use Rattle.hx_tree.specs.declared.token.Kind.TheVariants as kind
use Rattle.hx_tree.specs.Lexis.{Class, Space, LineComment, BlockComment, Word, Digits, Other, class_at, is_in_line, is_word_byte, close_len, keyword_of, constant_of, punctuator_at, Token, with_token, place_after}
use Rattle.hx_lex.specs.declared.piece.Piece.{Piece}
use Rattle.hx_lex.specs.declared.error.LexError.{LexError}
use Rattle.hx_lex.specs.declared.error.LexError.TheVariants as error

abbrev pub blank : ℕ → Result Piece LexError
blank n = Ok record { kind = None; len = n }

abbrev pub token : Kind → ℕ → Result Piece LexError
token k n = Ok record { kind = Some k; len = n }

abbrev pub is_close : ℕ → ℕ → Bool
is_close first second = first == 42 && second == 47

-- ---- by what was found

abbrev pub of_close : Pos → Option ℕ → Result Piece LexError
of_close pos None = Err (error.OpenComment pos)
of_close pos (Some n) = blank (n + 2)

abbrev pub of_word : Pos → ℕ → Option Mark → Result Piece LexError
of_word pos n (Some m) = token (kind.Mark m) n
of_word pos n None = if nat_le n NAME_LIMIT then token kind.Name n else Err (error.LongName pos)

abbrev pub of_number : Pos → ℕ → Option ℕ → Result Piece LexError
of_number pos n None = Err (error.BadConstant pos)
of_number pos n (Some v) = token (kind.Number v) n

abbrev pub of_punctuator : Pos → Option (List ℕ × Mark) → Result Piece LexError
of_punctuator pos None = Err (error.ForeignByte pos)
of_punctuator pos (Some (text, m)) = token (kind.Mark m) (length text)

-- ---- a piece

unfoldable pub comment_at : Pos → List ℕ → Result Piece LexError
comment_at pos bytes = of_close pos (close_len (drop 2 bytes))

unfoldable pub word_at : Pos → List ℕ → Result Piece LexError
word_at pos bytes = of_word pos (length (take_while is_word_byte bytes)) (keyword_of (take (length (take_while is_word_byte bytes)) bytes))

unfoldable pub number_at : Pos → List ℕ → Result Piece LexError
number_at pos bytes = of_number pos (length (take_while is_word_byte bytes)) (constant_of (take (length (take_while is_word_byte bytes)) bytes))

abbrev pub of_class : Class → Pos → List ℕ → Result Piece LexError
of_class Space pos bytes = blank 1
of_class LineComment pos bytes = blank (length (take_while is_in_line bytes))
of_class BlockComment pos bytes = comment_at pos bytes
of_class Word pos bytes = word_at pos bytes
of_class Digits pos bytes = number_at pos bytes
of_class Other pos bytes = of_punctuator pos (punctuator_at bytes)

unfoldable pub piece_at : Pos → List ℕ → Result Piece LexError
piece_at pos bytes = of_class (class_at bytes) pos bytes

-- ---- all of them

infixl 10 ◌>>=◌
abbrev pub ◌>>=◌ : {A B : Type 0} → Result A LexError → (A → Result B LexError) → Result B LexError
(Ok x) >>= f = f x
(Err e) >>= f = Err e

-- the tokens of bytes that begin at a place, in at most so many pieces
unfoldable pub lex_at : ℕ → Pos → List ℕ → Result (List Token) LexError
lex_at pieces pos [] = Ok []
lex_at zero pos (b ∷ bs) = Err error.Memory
lex_at (suc pieces) pos (b ∷ bs) = do
  p ← piece_at pos (b ∷ bs)
  tokens ← lex_at pieces (place_after pos (take p.len (b ∷ bs))) (drop p.len (b ∷ bs))
  Ok (with_token p.kind (take p.len (b ∷ bs)) pos tokens)

-- an answer is what the reading gives, or memory ran out
abbrev pub Gives : {X Y : Type 0} → (X → Y) → Result X LexError → Result Y LexError → Type 0
Gives view (Ok x) read = read ≡ Ok (view x)
Gives view (Err error.Memory) read = Unit {0}
Gives view (Err e) read = read ≡ Err e
