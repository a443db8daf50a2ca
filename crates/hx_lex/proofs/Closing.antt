-- Where a comment ends.
use Rattle.std.proofs.Common.{◌≡◌, ℕ, zero, suc, ◌+◌, ◌<◌, ◌≤◌, Bool, true, false, cond, List, [], ◌∷◌, length, drop, get_or, Option, Some, None, refl, sym, ap, subst, ◌∙◌, arith}
use Rattle.std.specs.Prelude.{option_map}
use Rattle.hx_tree.specs.Lexis.{close_len}
use Rattle.hx_lex.specs.Reading.{is_close}

-- one byte more
abbrev past : Option ℕ → Option ℕ
past o = option_map (λ n. n + 1) o

-- so many bytes more
abbrev pub plus : ℕ → Option ℕ → Option ℕ
plus i o = option_map (λ n. n + i) o

plus-past : (i : ℕ) (o : Option ℕ) → plus i (past o) ≡ plus (i + 1) o
plus-past i None = refl
plus-past i (Some n) = ap (λ (x : ℕ). Some x) (omega arith)

two_first : (bytes : List ℕ) (i : ℕ) → suc i < length bytes → drop i bytes ≡ get_or bytes i 0 ∷ (get_or bytes (suc i) 0 ∷ drop (suc (suc i)) bytes)
two_first [] i lt = absurd (omega arith)
two_first (a ∷ []) i lt = absurd (omega arith)
two_first (a ∷ b ∷ bytes) zero lt = refl
two_first (a ∷ b ∷ bytes) (suc i) lt = two_first (b ∷ bytes) i (omega arith)

one_first : (bytes : List ℕ) (i : ℕ) → suc i < length bytes → drop (suc i) bytes ≡ get_or bytes (suc i) 0 ∷ drop (suc (suc i)) bytes
one_first [] i lt = absurd (omega arith)
one_first (a ∷ []) i lt = absurd (omega arith)
one_first (a ∷ b ∷ bytes) zero lt = refl
one_first (a ∷ b ∷ bytes) (suc i) lt = one_first (b ∷ bytes) i (omega arith)

too_few : (bytes : List ℕ) (i : ℕ) → length bytes ≤ suc i → close_len (drop i bytes) ≡ None
unfolding close_len
too_few [] zero le = refl
too_few [] (suc i) le = refl
too_few (a ∷ []) zero le = refl
too_few (a ∷ []) (suc zero) le = refl
too_few (a ∷ []) (suc (suc i)) le = refl
too_few (a ∷ b ∷ bytes) zero le = absurd (omega arith)
too_few (a ∷ b ∷ bytes) (suc i) le = too_few (b ∷ bytes) i (omega arith)

-- ---- a search that stands at i

pub ends_here : (bytes : List ℕ) (i : ℕ) → plus i (close_len (drop i bytes)) ≡ close_len bytes → i + 1 < length bytes
    → is_close (get_or bytes i 0) (get_or bytes (i + 1) 0) ≡ true → close_len bytes ≡ Some (i + 2)
unfolding close_len
ends_here bytes i so_far lt hit =
    let e : i + 1 ≡ suc i = omega arith in
    let hit' : is_close (get_or bytes i 0) (get_or bytes (suc i) 0) ≡ true = subst (λ (k : ℕ). is_close (get_or bytes i 0) (get_or bytes k 0) ≡ true) e hit in
    let here : close_len (drop i bytes) ≡ Some 2 = rw (two_first bytes i (omega arith), hit') refl in
    let found : plus i (close_len (drop i bytes)) ≡ Some (i + 2) = rw here (ap (λ (x : ℕ). Some x) (omega arith)) in
    sym so_far ∙ found

pub goes_on : (bytes : List ℕ) (i : ℕ) → plus i (close_len (drop i bytes)) ≡ close_len bytes → i + 1 < length bytes
    → is_close (get_or bytes i 0) (get_or bytes (i + 1) 0) ≡ false → plus (i + 1) (close_len (drop (i + 1) bytes)) ≡ close_len bytes
unfolding close_len
goes_on bytes i so_far lt miss =
    let e : i + 1 ≡ suc i = omega arith in
    let miss' : is_close (get_or bytes i 0) (get_or bytes (suc i) 0) ≡ false = subst (λ (k : ℕ). is_close (get_or bytes i 0) (get_or bytes k 0) ≡ false) e miss in
    let here : close_len (drop i bytes) ≡ past (close_len (drop (suc i) bytes)) = rw (two_first bytes i (omega arith), miss', one_first bytes i (omega arith)) refl in
    let behind : plus (suc i) (close_len (drop (suc i) bytes)) ≡ plus i (close_len (drop i bytes)) =
    rw (here, plus-past i (close_len (drop (suc i) bytes))) (subst (λ (j : ℕ). plus (suc i) (close_len (drop (suc i) bytes)) ≡ plus j (close_len (drop (suc i) bytes))) (sym e) refl) in
    subst (λ (j : ℕ). plus j (close_len (drop j bytes)) ≡ plus i (close_len (drop i bytes))) (sym e) behind ∙ so_far

pub ends_never : (bytes : List ℕ) (i : ℕ) → plus i (close_len (drop i bytes)) ≡ close_len bytes → length bytes ≤ i + 1 → close_len bytes ≡ None
ends_never bytes i so_far le =
    let here : close_len (drop i bytes) ≡ None = too_few bytes i (omega arith) in
    let nothing : plus i (close_len (drop i bytes)) ≡ None = rw here refl in
    sym so_far ∙ nothing

-- ---- the length is within the bytes

past_some : (o : Option ℕ) (n : ℕ) → past o ≡ Some n → (m : ℕ) × (o ≡ Some m) × (m + 1 ≡ n)
past_some None n e = absurd cc
past_some (Some m) n e = (m, refl, cc)

pub close_within : (bytes : List ℕ) (n : ℕ) → close_len bytes ≡ Some n → n ≤ length bytes
unfolding close_len
close_within [] n e = absurd cc
close_within (a ∷ []) n e = absurd cc
close_within (a ∷ b ∷ bs) n e = go (λ m h. close_within (b ∷ bs) m h) (is_close a b) e
  where
    go : ((m : ℕ) → close_len (b ∷ bs) ≡ Some m → m ≤ length (b ∷ bs)) → (t : Bool) → cond t (Some 2) (past (close_len (b ∷ bs))) ≡ Some n → n ≤ length (a ∷ b ∷ bs)
    go ih true e = let x : 2 ≡ n = cc in omega arith
    go ih false e = let h = past_some (close_len (b ∷ bs)) n e in omega (arith, ih h.0 h.1, h.2)
