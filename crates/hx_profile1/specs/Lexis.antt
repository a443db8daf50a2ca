-- Profile 1: how the bytes of a source fall into white space, comments and tokens. `do` is a name here, and `?` and `:` are foreign;
-- all else is as today.
use Rattle.std.specs.Prelude.{◌≡◌, ℕ, ◌<◌, ◌≤◌, nat_eq, List, [], ◌∷◌, ◌++◌, length, find, codes, Option, Some, None, option_map, bytes_eq}
use Rattle.std.specs.List.{starts_with}
use Rattle.hx_tree.specs.declared.limits.TheConstants.{NAME_LIMIT}
use Rattle.hx_tree.specs.declared.token.Mark.{Mark}
use Rattle.hx_tree.specs.declared.token.Mark.TheVariants as mark
use Rattle.hx_tree.specs.declared.token.Kind.{Kind}
use Rattle.hx_tree.specs.declared.token.Kind.TheVariants as kind
use Rattle.hx_tree.specs.Lexis.{is_word_byte, Class, Word, Other, class_at, IsRun, IsBlank, IsNumber, Piece, Token, first_place, tokens_of}

-- ---- keywords and punctuators

abbrev pub keywords : List (List ℕ × Mark)
keywords =
    (codes "int", mark.Int) ∷ (codes "void", mark.Void) ∷ (codes "if", mark.If) ∷ (codes "else", mark.Else)
    ∷ (codes "while", mark.While) ∷ (codes "for", mark.For) ∷ (codes "pwhile", mark.MarkedWhile) ∷ (codes "pfor", mark.MarkedFor)
    ∷ (codes "break", mark.Break) ∷ (codes "continue", mark.Continue) ∷ (codes "return", mark.Return)
    ∷ (codes "print", mark.Print) ∷ (codes "emit", mark.Emit) ∷ []

-- the longest first
abbrev pub punctuators : List (List ℕ × Mark)
punctuators =
    (codes "<<=", mark.ShiftLeftAssign) ∷ (codes ">>=", mark.ShiftRightAssign)
    ∷ (codes "+=", mark.PlusAssign) ∷ (codes "-=", mark.MinusAssign) ∷ (codes "*=", mark.TimesAssign) ∷ (codes "/=", mark.DivideAssign)
    ∷ (codes "%=", mark.RemainderAssign) ∷ (codes "&=", mark.AmpersandAssign) ∷ (codes "|=", mark.BarAssign) ∷ (codes "^=", mark.CaretAssign)
    ∷ (codes "++", mark.Increment) ∷ (codes "--", mark.Decrement) ∷ (codes "<<", mark.ShiftLeft) ∷ (codes ">>", mark.ShiftRight)
    ∷ (codes "<=", mark.LessEqual) ∷ (codes ">=", mark.GreaterEqual) ∷ (codes "==", mark.Equal) ∷ (codes "!=", mark.NotEqual)
    ∷ (codes "&&", mark.AndAnd) ∷ (codes "||", mark.BarBar)
    ∷ (codes "(", mark.OpenParen) ∷ (codes ")", mark.CloseParen) ∷ (codes "{", mark.OpenBrace) ∷ (codes "}", mark.CloseBrace)
    ∷ (codes "[", mark.OpenBracket) ∷ (codes "]", mark.CloseBracket) ∷ (codes ",", mark.Comma) ∷ (codes ";", mark.Semicolon)
    ∷ (codes "=", mark.Assign) ∷ (codes "+", mark.Plus) ∷ (codes "-", mark.Minus) ∷ (codes "*", mark.Times) ∷ (codes "/", mark.Divide)
    ∷ (codes "%", mark.Remainder) ∷ (codes "&", mark.Ampersand) ∷ (codes "|", mark.Bar) ∷ (codes "^", mark.Caret)
    ∷ (codes "~", mark.Tilde) ∷ (codes "!", mark.Exclamation) ∷ (codes "<", mark.Less) ∷ (codes ">", mark.Greater) ∷ []

-- the keyword that a word is, where it is one
unfoldable pub keyword_of : List ℕ → Option Mark
keyword_of text = option_map (λ entry. entry.1) (find (λ entry. bytes_eq entry.0 text) keywords)

-- the first punctuator that the bytes begin with, with its text
unfoldable pub punctuator_at : List ℕ → Option (List ℕ × Mark)
punctuator_at bytes = find (λ entry. starts_with nat_eq bytes entry.0) punctuators

-- ---- pieces

abbrev pub IsName : Class → List ℕ → List ℕ → Type 0
IsName Word text bytes = IsRun is_word_byte text bytes × (keyword_of text ≡ None) × (length text ≤ NAME_LIMIT)
IsName _ text bytes = ⊥

abbrev pub IsMark : Class → Mark → List ℕ → List ℕ → Type 0
IsMark Word m text bytes = IsRun is_word_byte text bytes × (keyword_of text ≡ Some m)
IsMark Other m text bytes = punctuator_at bytes ≡ Some (text, m)
IsMark _ m text bytes = ⊥

-- the text is a piece of this kind in front of the bytes
abbrev pub IsPiece : Option Kind → List ℕ → List ℕ → Type 0
IsPiece None text bytes = IsBlank (class_at bytes) text bytes
IsPiece (Some kind.Name) text bytes = IsName (class_at bytes) text bytes
IsPiece (Some (kind.Number n)) text bytes = IsNumber (class_at bytes) n text bytes
IsPiece (Some (kind.Mark m)) text bytes = IsMark (class_at bytes) m text bytes

-- the bytes fall into these pieces
abbrev pub Falls : List Piece → List ℕ → Type 0
Falls [] bytes = bytes ≡ []
Falls (piece ∷ pieces) bytes =
    (rest : List ℕ) × (bytes ≡ piece.1 ++ rest) × (0 < length piece.1) × IsPiece piece.0 piece.1 bytes × Falls pieces rest

-- ---- tokens

-- these are the tokens of the bytes
abbrev pub AreTokens : List ℕ → List Token → Type 0
AreTokens bytes tokens = (pieces : List Piece) × Falls pieces bytes × (tokens ≡ tokens_of first_place pieces)
