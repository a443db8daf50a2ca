-- The loop of the lexer: tokens so far, and going on where it stands gives the whole.
use Rattle.std.proofs.Common.{◌≡◌, ℕ, zero, suc, ◌+◌, ◌-◌, ◌<◌, ◌≤◌, List, [], ◌∷◌, ◌++◌, length, take, drop, Option, Some, None, Result, Ok, Err, refl, sym, ap, ◌∙◌, append_assoc, drop-drop, arith}
use Rattle.std.specs.Prelude.{IsErrAnd}
use Rattle.std.proofs.lemmas.List.{length-drop, append-nil}
use Rattle.hx_tree.specs.declared.token.Pos.{Pos}
use Rattle.hx_tree.specs.declared.token.Kind.{Kind}
use Rattle.hx_tree.specs.Lexis.{Token, with_token, first_place, place_after}
use Rattle.hx_lex.specs.declared.piece.Piece.{Piece}
use Rattle.hx_lex.specs.declared.error.LexError.{LexError}
use Rattle.hx_lex.specs.declared.error.LexError.TheVariants as error
use Rattle.hx_lex.specs.Reading.{piece_at, ◌>>=◌, lex_at, Gives}
use Rattle.hx_lex.proofs.Pieces.{piece_len}

-- these tokens are read, and the rest from this index and place gives the whole
pub record Lexed (bytes : List ℕ) (tokens : List Token) (pos : Pos) (at : ℕ) : Type 0 where
  pub fuel : ℕ
  pub enough : length (drop at bytes) ≤ fuel
  pub reads : (lex_at fuel pos (drop at bytes) >>= λ more. Ok (tokens ++ more)) ≡ lex_at (length bytes) first_place bytes

same_read : (r : Result (List Token) LexError) → (r >>= λ more. Ok ([] ++ more)) ≡ r
same_read (Ok x) = refl
same_read (Err f) = refl

pub lexed_begins : (bytes : List ℕ) → Lexed bytes [] first_place 0
lexed_begins bytes = record { fuel = length bytes; enough = omega arith; reads = same_read (lex_at (length bytes) first_place bytes) }

with_token-append : (k : Option Kind) (text : List ℕ) (pos : Pos) (more : List Token) → with_token k text pos [] ++ more ≡ with_token k text pos more
with_token-append None text pos more = refl
with_token-append (Some k) text pos more = refl

regroup : (tokens : List Token) (k : Option Kind) (text : List ℕ) (pos : Pos) (r : Result (List Token) LexError)
    → ((r >>= λ more. Ok (with_token k text pos more)) >>= λ more. Ok (tokens ++ more)) ≡ (r >>= λ more. Ok ((tokens ++ with_token k text pos []) ++ more))
regroup tokens k text pos (Ok more) = ap (λ (x : List Token). Ok x) (ap (λ (x : List Token). tokens ++ x) (sym (with_token-append k text pos more)) ∙ sym (append_assoc tokens (with_token k text pos []) more))
regroup tokens k text pos (Err f) = refl

turn_is : (fuel : ℕ) (pos : Pos) (bytes : List ℕ) (p : Piece) → 0 < length bytes → piece_at pos bytes ≡ Ok p
    → lex_at (suc fuel) pos bytes ≡ (lex_at fuel (place_after pos (take p.len bytes)) (drop p.len bytes) >>= λ s. Ok (with_token p.kind (take p.len bytes) pos s))
unfolding lex_at
turn_is fuel pos [] p some e = absurd (omega arith)
turn_is fuel pos (b ∷ bs) p some e = rw e refl

pub lexed_goes_on : (bytes : List ℕ) (tokens : List Token) (pos : Pos) (at : ℕ) (p : Piece) → Lexed bytes tokens pos at → at < length bytes → piece_at pos (drop at bytes) ≡ Ok p
    → Lexed bytes (tokens ++ with_token p.kind (take p.len (drop at bytes)) pos []) (place_after pos (take p.len (drop at bytes))) (at + p.len)
lexed_goes_on bytes tokens pos at p so_far lt e = go so_far.fuel so_far.enough so_far.reads
  where
    some : 0 < length (drop at bytes)
    some = omega (arith, length-drop at bytes)

    size : (0 < p.len) × (p.len ≤ length (drop at bytes))
    size = piece_len pos (drop at bytes) p some e

    rest : drop p.len (drop at bytes) ≡ drop (at + p.len) bytes
    rest = rw drop-drop refl

    go : (fuel : ℕ) → length (drop at bytes) ≤ fuel → (lex_at fuel pos (drop at bytes) >>= λ more. Ok (tokens ++ more)) ≡ lex_at (length bytes) first_place bytes
        → Lexed bytes (tokens ++ with_token p.kind (take p.len (drop at bytes)) pos []) (place_after pos (take p.len (drop at bytes))) (at + p.len)
    go zero le w = absurd (omega (arith, some))
    go (suc fuel) le w =
        let one = turn_is fuel pos (drop at bytes) p some e in
        let two : (lex_at (suc fuel) pos (drop at bytes) >>= λ more. Ok (tokens ++ more)) ≡ (lex_at fuel (place_after pos (take p.len (drop at bytes))) (drop p.len (drop at bytes)) >>= λ more. Ok ((tokens ++ with_token p.kind (take p.len (drop at bytes)) pos []) ++ more))
        = rw one (regroup tokens p.kind (take p.len (drop at bytes)) pos (lex_at fuel (place_after pos (take p.len (drop at bytes))) (drop p.len (drop at bytes)))) in
        record { fuel = fuel; enough = omega (arith, size.0, some, length-drop at bytes, length-drop (at + p.len) bytes); reads = rw (← rest) (sym two ∙ w) }

pub lexed_fails : (bytes : List ℕ) (tokens : List Token) (pos : Pos) (at : ℕ) (f : LexError) → Lexed bytes tokens pos at → at < length bytes → piece_at pos (drop at bytes) ≡ Err f → lex_at (length bytes) first_place bytes ≡ Err f
unfolding lex_at
lexed_fails bytes tokens pos at f so_far lt e = sym so_far.reads ∙ one so_far.fuel (drop at bytes) (omega (arith, length-drop at bytes)) so_far.enough e
  where
    one : (fuel : ℕ) (bs : List ℕ) → 0 < length bs → length bs ≤ fuel → piece_at pos bs ≡ Err f → (lex_at fuel pos bs >>= λ more. Ok (tokens ++ more)) ≡ Err f
    one fuel [] some le e = absurd (omega arith)
    one zero (b ∷ bs) some le e = absurd (omega arith)
    one (suc fuel) (b ∷ bs) some le e = rw e refl

pub lexed_ends : (bytes : List ℕ) (tokens : List Token) (pos : Pos) (at : ℕ) → Lexed bytes tokens pos at → length bytes ≤ at → lex_at (length bytes) first_place bytes ≡ Ok tokens
unfolding lex_at
lexed_ends bytes tokens pos at so_far le = sym so_far.reads ∙ ends so_far.fuel (drop at bytes) (omega (arith, length-drop at bytes))
  where
    ends : (fuel : ℕ) (bs : List ℕ) → length bs ≤ 0 → (lex_at fuel pos bs >>= λ more. Ok (tokens ++ more)) ≡ Ok tokens
    ends fuel [] le = ap (λ (x : List Token). Ok x) (append-nil tokens)
    ends fuel (b ∷ bs) le = absurd (omega arith)

take_whole : (n : ℕ) (xs : List ℕ) → length xs ≤ n → take n xs ≡ xs
take_whole zero [] le = refl
take_whole (suc n) [] le = refl
take_whole zero (x ∷ xs) le = absurd (omega arith)
take_whole (suc n) (x ∷ xs) le = ap (λ (ys : List ℕ). x ∷ ys) (take_whole n xs (omega arith))

-- the bytes from an index to the end
pub tail_is : (bytes : List ℕ) (at : ℕ) → take (length bytes - at) (drop at bytes) ≡ drop at bytes
tail_is bytes at = take_whole (length bytes - at) (drop at bytes) (omega (arith, length-drop at bytes))

-- ---- an answer that is a refusal

pub gives_error : {X : Type 0} (view : X → List Token) (read : Result (List Token) LexError) (e : LexError) → read ≡ Err e → Gives view (Err e) read
gives_error view read (error.ForeignByte pos) is = is
gives_error view read (error.BadConstant pos) is = is
gives_error view read (error.OpenComment pos) is = is
gives_error view read (error.LongName pos) is = is
gives_error view read error.TooLong is = is
gives_error view read error.Memory is = tt

pub passes_on : {X : Type 0} (view : X → List Token) (read : Result (List Token) LexError) (r : Result X LexError) (e : LexError) → IsErrAnd r (λ f. f ≡ e) → read ≡ Err e → Gives view r read
passes_on view read (Ok x) e h is = absurd h
passes_on view read (Err f) e h is = gives_error view read f (rw h is)
