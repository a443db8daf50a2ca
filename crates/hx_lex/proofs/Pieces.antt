-- A piece that is read stands there, a piece that stands there is read, and where reading fails there is a fault.
use Rattle.std.proofs.Common.{◌≡◌, ℕ, ◌+◌, ◌<◌, ◌≤◌, Bool, true, false, cond, List, ◌++◌, length, take, drop, Option, Some, None, Result, Ok, Err, refl, sym, subst, arith}
use Rattle.std.specs.Prelude.{nat_le, take_while}
use Rattle.std.proofs.lemmas.List.{take_at, length-take, length-drop}
use Rattle.std.proofs.lemmas.Bool.{leb-true, le-leb, leb-false}
use Rattle.hx_tree.specs.declared.limits.TheConstants.{NAME_LIMIT}
use Rattle.hx_tree.specs.declared.token.Pos.{Pos}
use Rattle.hx_tree.specs.declared.token.Mark.{Mark}
use Rattle.hx_tree.specs.declared.token.Kind.{Kind}
use Rattle.hx_tree.specs.declared.token.Kind.TheVariants as kind
use Rattle.hx_tree.specs.Lexis.{Class, Space, LineComment, BlockComment, Word, Digits, Other, class_at, is_word_byte, is_in_line, close_len, keyword_of, constant_of, punctuator_at, IsBlank, IsName, IsNumber, IsMark, IsPiece}
use Rattle.hx_lex.specs.declared.piece.Piece.{Piece}
use Rattle.hx_lex.specs.declared.error.LexError.{LexError}
use Rattle.hx_lex.specs.declared.error.LexError.TheVariants as error
use Rattle.hx_lex.specs.Reading.{blank, token, of_close, of_word, of_number, of_punctuator, comment_at, word_at, number_at, of_class, piece_at}
use Rattle.hx_lex.specs.Answer.{IsFault, pos_of}
use Rattle.hx_lex.proofs.Closing.{close_within}
use Rattle.hx_lex.proofs.Runs.{run_front, run_len, word_pos, digits_pos, line_pos, block_len, punctuator_is}

-- ---- what is read is a piece

-- what is known of a piece that was read
abbrev pub IsRead : List ℕ → Piece → Type 0
IsRead bytes p = IsPiece p.kind (take p.len bytes) bytes × (0 < p.len) × (p.len ≤ length bytes)

abbrev piece : Option Kind → ℕ → Piece
piece k n = record { kind = k; len = n }

abbrev done : Piece → Result Piece LexError
done p = Ok p

is_done : (x y : Piece) → done x ≡ done y → x ≡ y
is_done x y e = cc

abbrev word_run : List ℕ → List ℕ
word_run bytes = take_while is_word_byte bytes

word_is : (pos : Pos) (bytes : List ℕ) (p : Piece) → 0 < length (word_run bytes) → class_at bytes ≡ Word → (k : Option Mark) → keyword_of (take (length (word_run bytes)) bytes) ≡ k
    → of_word pos (length (word_run bytes)) k ≡ Ok p → IsRead bytes p
word_is pos bytes p some c (Some m) key e =
    subst (IsRead bytes) (is_done (piece (Some (kind.Mark m)) (length (word_run bytes))) p e)
    (rw c (sym (run_front is_word_byte bytes), key), some, run_len is_word_byte bytes)
word_is pos bytes p some c None key e = go (nat_le (length (word_run bytes)) NAME_LIMIT) refl e
  where
    go : (t : Bool) → nat_le (length (word_run bytes)) NAME_LIMIT ≡ t → cond {A = Result Piece LexError} t (token kind.Name (length (word_run bytes))) (Err (error.LongName pos)) ≡ Ok p → IsRead bytes p
    go false t e = absurd cc
    go true t e =
        subst (IsRead bytes) (is_done (piece (Some kind.Name) (length (word_run bytes))) p e)
        (rw c (sym (run_front is_word_byte bytes), key, omega (arith, leb-true (length (word_run bytes)) NAME_LIMIT t, length-take (length (word_run bytes)) bytes)), some, run_len is_word_byte bytes)

number_is : (pos : Pos) (bytes : List ℕ) (p : Piece) → 0 < length (word_run bytes) → class_at bytes ≡ Digits → (v : Option ℕ) → constant_of (take (length (word_run bytes)) bytes) ≡ v
    → of_number pos (length (word_run bytes)) v ≡ Ok p → IsRead bytes p
number_is pos bytes p some c None value e = absurd cc
number_is pos bytes p some c (Some n) value e =
    subst (IsRead bytes) (is_done (piece (Some (kind.Number n)) (length (word_run bytes))) p e)
    (rw c (sym (run_front is_word_byte bytes), value), some, run_len is_word_byte bytes)

mark_is : (pos : Pos) (bytes : List ℕ) (p : Piece) → class_at bytes ≡ Other → (o : Option (List ℕ × Mark)) → punctuator_at bytes ≡ o → of_punctuator pos o ≡ Ok p → IsRead bytes p
mark_is pos bytes p c None at e = absurd cc
mark_is pos bytes p c (Some (text, m)) at e =
    let s = punctuator_is bytes text m at in
    subst (IsRead bytes) (is_done (piece (Some (kind.Mark m)) (length text)) p e) (rw (c, s.1) at, s.0, s.2)

comment_is : (pos : Pos) (bytes : List ℕ) (p : Piece) → class_at bytes ≡ BlockComment → (o : Option ℕ) → close_len (drop 2 bytes) ≡ o → of_close pos o ≡ Ok p → IsRead bytes p
comment_is pos bytes p c None at e = absurd cc
comment_is pos bytes p c (Some n) at e =
    let within : n + 2 ≤ length bytes = omega (arith, block_len bytes c, close_within (drop 2 bytes) n at, length-drop 2 bytes) in
    let len : length (take (n + 2) bytes) ≡ n + 2 = omega (arith, length-take (n + 2) bytes) in
    subst (IsRead bytes) (is_done (piece None (n + 2)) p e) (rw c (n, at, len), omega arith, within)

pub piece_is : (pos : Pos) (bytes : List ℕ) (p : Piece) → 0 < length bytes → piece_at pos bytes ≡ Ok p → IsRead bytes p
unfolding piece_at word_at number_at comment_at
piece_is pos bytes p some e = by_class (class_at bytes) refl e
  where
    by_class : (c : Class) → class_at bytes ≡ c → of_class c pos bytes ≡ Ok p → IsRead bytes p
    by_class Space c e = subst (IsRead bytes) (is_done (piece None 1) p e) (rw c (omega (arith, length-take 1 bytes)), omega arith, omega arith)
    by_class LineComment c e = subst (IsRead bytes) (is_done (piece None (length (take_while is_in_line bytes))) p e) (rw c (sym (run_front is_in_line bytes)), line_pos bytes some c, run_len is_in_line bytes)
    by_class BlockComment c e = comment_is pos bytes p c (close_len (drop 2 bytes)) refl e
    by_class Word c e = word_is pos bytes p (word_pos bytes some c) c (keyword_of (take (length (word_run bytes)) bytes)) refl e
    by_class Digits c e = number_is pos bytes p (digits_pos bytes some c) c (constant_of (take (length (word_run bytes)) bytes)) refl e
    by_class Other c e = mark_is pos bytes p c (punctuator_at bytes) refl e

pub piece_len : (pos : Pos) (bytes : List ℕ) (p : Piece) → 0 < length bytes → piece_at pos bytes ≡ Ok p → (0 < p.len) × (p.len ≤ length bytes)
piece_len pos bytes p some e = let h = piece_is pos bytes p some e in (h.1, h.2)

-- ---- a piece is read

blank_again : (pos : Pos) (c : Class) (text bytes : List ℕ) → IsBlank c text bytes → of_class c pos bytes ≡ blank (length text)
unfolding comment_at
blank_again pos Space text bytes is = rw is refl
blank_again pos LineComment text bytes is = rw is refl
blank_again pos BlockComment text bytes (n, at, len) = rw (at, len) refl
blank_again pos Word text bytes is = absurd is
blank_again pos Digits text bytes is = absurd is
blank_again pos Other text bytes is = absurd is

name_again : (pos : Pos) (c : Class) (text bytes : List ℕ) → take (length text) bytes ≡ text → IsName c text bytes → of_class c pos bytes ≡ token kind.Name (length text)
unfolding word_at
name_again pos Space text bytes front is = absurd is
name_again pos LineComment text bytes front is = absurd is
name_again pos BlockComment text bytes front is = absurd is
name_again pos Word text bytes front (run, key, small) =
    let t : nat_le (length text) NAME_LIMIT ≡ true = le-leb (length text) NAME_LIMIT small in
    rw (run, front, key, t) refl
name_again pos Digits text bytes front is = absurd is
name_again pos Other text bytes front is = absurd is

number_again : (pos : Pos) (c : Class) (n : ℕ) (text bytes : List ℕ) → take (length text) bytes ≡ text → IsNumber c n text bytes → of_class c pos bytes ≡ token (kind.Number n) (length text)
unfolding number_at
number_again pos Space n text bytes front is = absurd is
number_again pos LineComment n text bytes front is = absurd is
number_again pos BlockComment n text bytes front is = absurd is
number_again pos Word n text bytes front is = absurd is
number_again pos Digits n text bytes front (run, value) = rw (run, front, value) refl
number_again pos Other n text bytes front is = absurd is

mark_again : (pos : Pos) (c : Class) (m : Mark) (text bytes : List ℕ) → take (length text) bytes ≡ text → IsMark c m text bytes → of_class c pos bytes ≡ token (kind.Mark m) (length text)
unfolding word_at
mark_again pos Space m text bytes front is = absurd is
mark_again pos LineComment m text bytes front is = absurd is
mark_again pos BlockComment m text bytes front is = absurd is
mark_again pos Word m text bytes front (run, key) = rw (run, front, key) refl
mark_again pos Digits m text bytes front is = absurd is
mark_again pos Other m text bytes front is = rw is refl

pub piece_again : (pos : Pos) (k : Option Kind) (text rest : List ℕ) → IsPiece k text (text ++ rest) → piece_at pos (text ++ rest) ≡ Ok (piece k (length text))
unfolding piece_at
piece_again pos None text rest is = blank_again pos (class_at (text ++ rest)) text (text ++ rest) is
piece_again pos (Some kind.Name) text rest is = name_again pos (class_at (text ++ rest)) text (text ++ rest) (take_at text rest (length text) refl) is
piece_again pos (Some (kind.Number n)) text rest is = number_again pos (class_at (text ++ rest)) n text (text ++ rest) (take_at text rest (length text) refl) is
piece_again pos (Some (kind.Mark m)) text rest is = mark_again pos (class_at (text ++ rest)) m text (text ++ rest) (take_at text rest (length text) refl) is

-- ---- where reading fails there is a fault

abbrev failed : LexError → Result Piece LexError
failed e = Err e

has_failed : (x y : LexError) → failed x ≡ failed y → x ≡ y
has_failed x y e = cc

-- what is known of a piece that couldn't be read
abbrev pub IsFaulty : Pos → List ℕ → LexError → Type 0
IsFaulty pos bytes e = IsFault e (class_at bytes) bytes × (pos_of e ≡ Some pos)

long_name : (pos : Pos) (bytes : List ℕ) (e : LexError) → class_at bytes ≡ Word → (k : Option Mark) → keyword_of (take (length (word_run bytes)) bytes) ≡ k
    → of_word pos (length (word_run bytes)) k ≡ Err e → IsFaulty pos bytes e
long_name pos bytes e c (Some m) key h = absurd cc
long_name pos bytes e c None key h = go (nat_le (length (word_run bytes)) NAME_LIMIT) refl h
  where
    go : (t : Bool) → nat_le (length (word_run bytes)) NAME_LIMIT ≡ t → cond {A = Result Piece LexError} t (token kind.Name (length (word_run bytes))) (Err (error.LongName pos)) ≡ Err e → IsFaulty pos bytes e
    go true t h = absurd cc
    go false t h =
        subst (IsFaulty pos bytes) (has_failed (error.LongName pos) e h)
        (rw c (rw run_front at key, omega (arith, leb-false (length (word_run bytes)) NAME_LIMIT t)), refl)

bad_constant : (pos : Pos) (bytes : List ℕ) (e : LexError) → class_at bytes ≡ Digits → (v : Option ℕ) → constant_of (take (length (word_run bytes)) bytes) ≡ v
    → of_number pos (length (word_run bytes)) v ≡ Err e → IsFaulty pos bytes e
bad_constant pos bytes e c (Some n) value h = absurd cc
bad_constant pos bytes e c None value h = subst (IsFaulty pos bytes) (has_failed (error.BadConstant pos) e h) (rw c (rw run_front at value), refl)

foreign_byte : (pos : Pos) (bytes : List ℕ) (e : LexError) → class_at bytes ≡ Other → (o : Option (List ℕ × Mark)) → punctuator_at bytes ≡ o → of_punctuator pos o ≡ Err e → IsFaulty pos bytes e
foreign_byte pos bytes e c (Some (text, m)) at h = absurd cc
foreign_byte pos bytes e c None at h = subst (IsFaulty pos bytes) (has_failed (error.ForeignByte pos) e h) (rw c at, refl)

open_comment : (pos : Pos) (bytes : List ℕ) (e : LexError) → class_at bytes ≡ BlockComment → (o : Option ℕ) → close_len (drop 2 bytes) ≡ o → of_close pos o ≡ Err e → IsFaulty pos bytes e
open_comment pos bytes e c (Some n) at h = absurd cc
open_comment pos bytes e c None at h = subst (IsFaulty pos bytes) (has_failed (error.OpenComment pos) e h) (rw c at, refl)

pub piece_fails : (pos : Pos) (bytes : List ℕ) (e : LexError) → piece_at pos bytes ≡ Err e → IsFaulty pos bytes e
unfolding piece_at word_at number_at comment_at
piece_fails pos bytes e h = by_class (class_at bytes) refl h
  where
    by_class : (c : Class) → class_at bytes ≡ c → of_class c pos bytes ≡ Err e → IsFaulty pos bytes e
    by_class Space c h = absurd cc
    by_class LineComment c h = absurd cc
    by_class BlockComment c h = open_comment pos bytes e c (close_len (drop 2 bytes)) refl h
    by_class Word c h = long_name pos bytes e c (keyword_of (take (length (word_run bytes)) bytes)) refl h
    by_class Digits c h = bad_constant pos bytes e c (constant_of (take (length (word_run bytes)) bytes)) refl h
    by_class Other c h = foreign_byte pos bytes e c (punctuator_at bytes) refl h
