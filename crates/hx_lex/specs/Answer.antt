-- What an answer of the lexer tells of the source.
use Rattle.std.specs.Prelude.{◌≡◌, ℕ, ◌<◌, ◌≤◌, List, [], ◌∷◌, ◌++◌, length, take, drop, take_while, slice_range, Option, Some, None}
use Rattle.hx_tree.specs.declared.limits.TheConstants.{SOURCE_LIMIT, NAME_LIMIT}
use Rattle.hx_tree.specs.declared.token.Pos.{Pos}
use Rattle.hx_tree.specs.Lexis.{Class, Word, Digits, BlockComment, Other, class_at, is_word_byte, keyword_of, constant_of, close_len, punctuator_at, Piece, IsPiece, first_place, place_after, AreTokens}
use Rattle.hx_tree.specs.Lexis as lexis
use Rattle.hx_lex.specs.declared.token.Token.{Token}
use Rattle.hx_lex.specs.declared.error.LexError.{LexError}
use Rattle.hx_lex.specs.declared.error.LexError.TheVariants.{ForeignByte, BadConstant, OpenComment, LongName, TooLong, Memory}

-- ---- tokens

-- the bytes have no other tokens
abbrev pub NoOthers : List ℕ → List lexis.Token → Type 0
NoOthers bytes tokens = (others : List lexis.Token) → AreTokens bytes others → others ≡ tokens

-- a token's text is the source's slice at its span, which isn't empty, and its place is where the span begins
pub record IsCut (source : List ℕ) (t : Token) : Type 0 where
  pub some : t.span.start < t.span.end
  pub text : t.text.now ≡ slice_range source t.span.start t.span.end
  pub place : t.pos ≡ place_after first_place (take t.span.start source)

-- the tokens are cut from the source between two indices, each behind the one before
abbrev pub AreCut : List ℕ → ℕ → List Token → ℕ → Type 0
AreCut source start [] end = start ≤ end
AreCut source start (t ∷ ts) end = (start ≤ t.span.start) × IsCut source t × AreCut source t.span.end ts end

-- ---- refusals

abbrev pub number_of : LexError → ℕ
number_of (ForeignByte pos) = 1
number_of (BadConstant pos) = 2
number_of (OpenComment pos) = 3
number_of (LongName pos) = 4
number_of TooLong = 5
number_of Memory = 6

abbrev pub pos_of : LexError → Option Pos
pos_of (ForeignByte pos) = Some pos
pos_of (BadConstant pos) = Some pos
pos_of (OpenComment pos) = Some pos
pos_of (LongName pos) = Some pos
pos_of TooLong = None
pos_of Memory = None

abbrev pub HasNoTokens : List ℕ → Type 0
HasNoTokens source = (tokens : List lexis.Token) → AreTokens source tokens → ⊥

-- the bytes begin with these pieces, and then the rest follows
abbrev pub Begins : List Piece → List ℕ → List ℕ → Type 0
Begins [] bytes rest = bytes ≡ rest
Begins (piece ∷ pieces) bytes rest =
    (behind : List ℕ) × (bytes ≡ piece.1 ++ behind) × (0 < length piece.1) × IsPiece piece.0 piece.1 bytes × Begins pieces behind rest

-- the place behind pieces
abbrev pub place_after_pieces : Pos → List Piece → Pos
place_after_pieces pos [] = pos
place_after_pieces pos (piece ∷ pieces) = place_after_pieces (place_after pos piece.1) pieces

-- what stands in front of the bytes is no piece, for this reason
abbrev pub IsFault : LexError → Class → List ℕ → Type 0
IsFault (ForeignByte pos) Other bytes = punctuator_at bytes ≡ None
IsFault (BadConstant pos) Digits bytes = constant_of (take_while is_word_byte bytes) ≡ None
IsFault (OpenComment pos) BlockComment bytes = close_len (drop 2 bytes) ≡ None
IsFault (LongName pos) Word bytes = (keyword_of (take_while is_word_byte bytes) ≡ None) × (NAME_LIMIT < length (take_while is_word_byte bytes))
IsFault _ _ bytes = ⊥

-- the source begins with pieces, and behind them, at the place that is told, stands this fault
abbrev pub IsFirstFault : List ℕ → LexError → Type 0
IsFirstFault source e =
    (pieces : List Piece) × (rest : List ℕ) × Begins pieces source rest × (0 < length rest)
    × IsFault e (class_at rest) rest × (pos_of e ≡ Some (place_after_pieces first_place pieces))

-- what a refusal means: of the first four, that the source has no tokens, and where it goes wrong first
abbrev pub Refuses : List ℕ → LexError → Type 0
Refuses source Memory = Unit {0}
Refuses source TooLong = SOURCE_LIMIT < length source
Refuses source fault = HasNoTokens source × IsFirstFault source fault
