-- The bytes fall into pieces in one way, and the reading finds it, or the first fault.
use Rattle.std.proofs.Common.{◌≡◌, ◌⊎◌, inl, inr, ℕ, zero, suc, ◌<◌, ◌≤◌, List, [], ◌∷◌, ◌++◌, length, take, drop, Some, Result, Ok, Err, refl, sym, ap, ◌∙◌, arith}
use Rattle.std.proofs.lemmas.List.{take-append-drop, take_at, drop_at, length-take, length-append, length-drop}
use Rattle.hx_tree.specs.declared.token.Pos.{Pos}
use Rattle.hx_tree.specs.Lexis.{class_at, Falls, Token, with_token, tokens_of, first_place, place_after, AreTokens}
use Rattle.hx_tree.specs.Lexis as lexis
use Rattle.hx_lex.specs.declared.piece.Piece.{Piece}
use Rattle.hx_lex.specs.declared.error.LexError.{LexError}
use Rattle.hx_lex.specs.declared.error.LexError.TheVariants.{TooLong}
use Rattle.hx_lex.specs.Reading.{piece_at, ◌>>=◌, lex_at}
use Rattle.hx_lex.specs.Answer.{NoOthers, HasNoTokens, Begins, place_after_pieces, IsFault, IsFirstFault, pos_of}
use Rattle.hx_lex.proofs.Pieces.{piece_is, piece_len, piece_again, piece_fails}

-- ---- one step after the other

pub bind_ok : {A B : Type 0} (r : Result A LexError) (f : A → Result B LexError) (y : B) → (r >>= f) ≡ Ok y → (x : A) × (r ≡ Ok x) × (f x ≡ Ok y)
bind_ok (Ok x) f y e = (x, refl, e)
bind_ok (Err d) f y e = absurd cc

abbrev error_of : {A : Type 0} → LexError → Result A LexError
error_of e = Err e

same_error : {A B : Type 0} (d e : LexError) → error_of {A = B} d ≡ Err e → error_of {A = A} d ≡ Err e
same_error d e h = let same : d ≡ e = cc in ap (λ (x : LexError). Err x) same

pub bind_err : {A B : Type 0} (r : Result A LexError) (f : A → Result B LexError) (e : LexError) → (r >>= f) ≡ Err e → (r ≡ Err e) ⊎ ((x : A) × (r ≡ Ok x) × (f x ≡ Err e))
bind_err (Ok x) f e h = inr (x, refl, h)
bind_err {A = A} {B = B} (Err d) f e h = inl (same_error {A = A} {B = B} d e h)

abbrev read : List Token → Result (List Token) LexError
read tokens = Ok tokens

is_read : (x y : List Token) → read x ≡ read y → x ≡ y
is_read x y e = cc

-- ---- what is read is there

abbrev turn : ℕ → Pos → List ℕ → Piece → Result (List Token) LexError
turn fuel pos bytes p = lex_at fuel (place_after pos (take p.len bytes)) (drop p.len bytes) >>= λ tokens. Ok (with_token p.kind (take p.len bytes) pos tokens)

all_found : (fuel : ℕ) (pos : Pos) (bytes : List ℕ) (tokens : List Token) → lex_at fuel pos bytes ≡ Ok tokens → (pieces : List lexis.Piece) × Falls pieces bytes × (tokens ≡ tokens_of pos pieces)
unfolding lex_at
all_found fuel pos [] tokens e = ([], refl, sym (is_read [] tokens e))
all_found zero pos (b ∷ bs) tokens e = absurd cc
all_found (suc fuel) pos (b ∷ bs) tokens e =
    let first = bind_ok (piece_at pos (b ∷ bs)) (turn fuel pos (b ∷ bs)) tokens e in
    let p = first.0 in
    let later = bind_ok (lex_at fuel (place_after pos (take first.0.len (b ∷ bs))) (drop first.0.len (b ∷ bs))) (λ s. Ok (with_token first.0.kind (take first.0.len (b ∷ bs)) pos s)) tokens first.2 in
    let is = piece_is pos (b ∷ bs) first.0 (omega arith) first.1 in
    let others = all_found fuel (place_after pos (take first.0.len (b ∷ bs))) (drop first.0.len (b ∷ bs)) later.0 later.1 in
    let whole : b ∷ bs ≡ take first.0.len (b ∷ bs) ++ drop first.0.len (b ∷ bs) = sym (take-append-drop first.0.len (b ∷ bs)) in
    let some : 0 < length (take first.0.len (b ∷ bs)) = omega (arith, length-take first.0.len (b ∷ bs), is.1, is.2) in (
      (first.0.kind, take first.0.len (b ∷ bs)) ∷ others.0,
      (drop first.0.len (b ∷ bs), whole, some, is.0, others.1),
      sym (is_read (with_token first.0.kind (take first.0.len (b ∷ bs)) pos later.0) tokens later.2) ∙ ap (λ s. with_token first.0.kind (take first.0.len (b ∷ bs)) pos s) others.2,
    )

-- ---- what is there is read

one_turn : (fuel : ℕ) (pos : Pos) (bytes : List ℕ) (p : Piece) (tokens : List Token) → 0 < length bytes → piece_at pos bytes ≡ Ok p → lex_at fuel (place_after pos (take p.len bytes)) (drop p.len bytes) ≡ Ok tokens
    → lex_at (suc fuel) pos bytes ≡ Ok (with_token p.kind (take p.len bytes) pos tokens)
unfolding lex_at
one_turn fuel pos [] p tokens some e h = absurd (omega arith)
one_turn fuel pos (b ∷ bs) p tokens some e h = rw (e, h) refl

all_again : (pieces : List lexis.Piece) (fuel : ℕ) (pos : Pos) (bytes : List ℕ) → Falls pieces bytes → length bytes ≤ fuel → lex_at fuel pos bytes ≡ Ok (tokens_of pos pieces)
unfolding lex_at
all_again [] fuel pos bytes e le = rw e refl
all_again (p ∷ ps) zero pos bytes (rest, e, some, is, falls) le = absurd (omega (arith, ap length e, length-append p.1 rest))
all_again (p ∷ ps) (suc fuel) pos bytes (rest, e, some, is, falls) le =
    let later = all_again ps fuel (place_after pos p.1) rest falls (omega (arith, ap length e, length-append p.1 rest)) in
    let here : piece_at pos bytes ≡ Ok record { kind = p.0; len = length p.1 } = rw e (piece_again pos p.0 p.1 rest (rw e at is)) in
    let front : take (length p.1) bytes ≡ p.1 = rw e (take_at p.1 rest (length p.1) refl) in
    let behind : drop (length p.1) bytes ≡ rest = rw e (drop_at p.1 rest (length p.1) refl) in
    let go : lex_at fuel (place_after pos (take (length p.1) bytes)) (drop (length p.1) bytes) ≡ Ok (tokens_of (place_after pos p.1) ps) = rw (front, behind) later in
    let all = one_turn fuel pos bytes record { kind = p.0; len = length p.1 } (tokens_of (place_after pos p.1) ps) (omega (arith, ap length e, length-append p.1 rest)) here go in
    rw front at all

-- ---- the first fault

-- behind pieces of bytes that begin at a place there is this fault
abbrev FailsFrom : Pos → List ℕ → LexError → Type 0
FailsFrom pos bytes e =
    (pieces : List lexis.Piece) × (rest : List ℕ) × Begins pieces bytes rest × (0 < length rest)
    × IsFault e (class_at rest) rest × (pos_of e ≡ Some (place_after_pieces pos pieces))

fails_later : (pos : Pos) (bytes : List ℕ) (p : Piece) (e : LexError) → 0 < length bytes → piece_at pos bytes ≡ Ok p → FailsFrom (place_after pos (take p.len bytes)) (drop p.len bytes) e → FailsFrom pos bytes e
fails_later pos bytes p e some here (pieces, rest, begins, left, fault, place) =
    let is = piece_is pos bytes p some here in
    let whole : bytes ≡ take p.len bytes ++ drop p.len bytes = sym (take-append-drop p.len bytes) in
    let n : 0 < length (take p.len bytes) = omega (arith, length-take p.len bytes, is.1, is.2) in
    ((p.kind, take p.len bytes) ∷ pieces, rest, (drop p.len bytes, whole, n, is.0, begins), left, fault, place)

all_fails : (fuel : ℕ) (pos : Pos) (bytes : List ℕ) (e : LexError) → length bytes ≤ fuel → lex_at fuel pos bytes ≡ Err e → FailsFrom pos bytes e
unfolding lex_at
all_fails fuel pos [] e le h = absurd cc
all_fails zero pos (b ∷ bs) e le h = absurd (omega arith)
all_fails (suc fuel) pos (b ∷ bs) e le h =
    go (λ (p : Piece) (small : length (drop p.len (b ∷ bs)) ≤ fuel). all_fails fuel (place_after pos (take p.len (b ∷ bs))) (drop p.len (b ∷ bs)) e small)
    (bind_err (piece_at pos (b ∷ bs)) (turn fuel pos (b ∷ bs)) e h)
  where
    later_fails : (p : Piece) → (length (drop p.len (b ∷ bs)) ≤ fuel → lex_at fuel (place_after pos (take p.len (b ∷ bs))) (drop p.len (b ∷ bs)) ≡ Err e → FailsFrom (place_after pos (take p.len (b ∷ bs))) (drop p.len (b ∷ bs)) e)
        → piece_at pos (b ∷ bs) ≡ Ok p → turn fuel pos (b ∷ bs) p ≡ Err e → FailsFrom pos (b ∷ bs) e
    later_fails p ih here h =
        let size = piece_len pos (b ∷ bs) p (omega arith) here in
        let small : length (drop p.len (b ∷ bs)) ≤ fuel = omega (arith, length-drop p.len (b ∷ bs), size.0) in
        elim (bind_err (lex_at fuel (place_after pos (take p.len (b ∷ bs))) (drop p.len (b ∷ bs))) (λ s. Ok (with_token p.kind (take p.len (b ∷ bs)) pos s)) e h) [
          | inl later ↦ fails_later pos (b ∷ bs) p e (omega arith) here (ih small later)
          | inr (tokens, is, differs) ↦ absurd cc
        ]

    go : ((p : Piece) → length (drop p.len (b ∷ bs)) ≤ fuel → lex_at fuel (place_after pos (take p.len (b ∷ bs))) (drop p.len (b ∷ bs)) ≡ Err e → FailsFrom (place_after pos (take p.len (b ∷ bs))) (drop p.len (b ∷ bs)) e)
        → (piece_at pos (b ∷ bs) ≡ Err e) ⊎ ((p : Piece) × (piece_at pos (b ∷ bs) ≡ Ok p) × (turn fuel pos (b ∷ bs) p ≡ Err e)) → FailsFrom pos (b ∷ bs) e
    go ih (inl here) = let fault = piece_fails pos (b ∷ bs) e here in ([], b ∷ bs, refl, omega arith, fault.0, fault.1)
    go ih (inr (p, here, later)) = later_fails p (ih p) here later

-- ---- what an answer means

pub is_found : (bytes : List ℕ) (tokens : List Token) → lex_at (length bytes) first_place bytes ≡ Ok tokens → AreTokens bytes tokens
is_found bytes tokens e = all_found (length bytes) first_place bytes tokens e

pub is_only : (bytes : List ℕ) (tokens : List Token) → lex_at (length bytes) first_place bytes ≡ Ok tokens → NoOthers bytes tokens
is_only bytes tokens e others (pieces, falls, are) =
    are ∙ is_read (tokens_of first_place pieces) tokens (sym (all_again pieces (length bytes) first_place bytes falls (omega arith)) ∙ e)

pub is_none : (bytes : List ℕ) (e : LexError) → lex_at (length bytes) first_place bytes ≡ Err e → HasNoTokens bytes
is_none bytes e h tokens (pieces, falls, are) =
    let both : read (tokens_of first_place pieces) ≡ Err e = sym (all_again pieces (length bytes) first_place bytes falls (omega arith)) ∙ h in
    absurd cc

pub is_first : (bytes : List ℕ) (e : LexError) → lex_at (length bytes) first_place bytes ≡ Err e → IsFirstFault bytes e
is_first bytes e h = all_fails (length bytes) first_place bytes e (omega arith) h

pub never_too_long : (bytes : List ℕ) → lex_at (length bytes) first_place bytes ≡ Err TooLong → ⊥
never_too_long bytes h = let fault = is_first bytes TooLong h in absurd (let place = fault.5 in cc)
