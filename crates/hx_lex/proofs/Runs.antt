-- The longest fronts of bytes that pass a test, what the first two bytes tell, and which punctuator is found.
use Rattle.std.proofs.Common.{◌≡◌, ℕ, zero, suc, ◌<◌, ◌≤◌, Bool, true, false, cond, List, [], ◌∷◌, ◌++◌, length, take, drop, get_or, Option, Some, refl, ap, subst, ◌∙◌, arith}
use Rattle.std.specs.Prelude.{◌&&◌, ◌||◌, ◌==◌, nat_eq, nat_lt, find, take_while}
use Rattle.std.specs.List.{list_all, starts_with}
use Rattle.std.proofs.lemmas.List.{take_at, length-take, length-append}
use Rattle.std.proofs.lemmas.List.Sums.{take_while-cons}
use Rattle.std.proofs.lemmas.Bool.{eqb-true, ltb-true}
use Rattle.std.proofs.lemmas.Bool.Decides.{Decides-eqb}
use Rattle.std.proofs.lemmas.Slice.Eq.{starts_is}
use Rattle.hx_tree.specs.declared.token.Mark.{Mark}
use Rattle.hx_tree.specs.Lexis.{Class, Space, LineComment, BlockComment, Word, Digits, Other, class_of, class_at, is_space, is_letter, is_digit, is_word_byte, is_in_line, punctuators, punctuator_at}

-- ---- runs

pub run_front : (p : ℕ → Bool) (bytes : List ℕ) → take (length (take_while p bytes)) bytes ≡ take_while p bytes
run_front p [] = refl
run_front p (b ∷ bytes) = rw (take_while-cons p b bytes) (go (run_front p bytes) (p b))
  where
    go : take (length (take_while p bytes)) bytes ≡ take_while p bytes → (t : Bool) → take (length (cond t (b ∷ take_while p bytes) [])) (b ∷ bytes) ≡ cond t (b ∷ take_while p bytes) []
    go ih true = ap (λ (xs : List ℕ). b ∷ xs) ih
    go ih false = refl

pub run_len : (p : ℕ → Bool) (bytes : List ℕ) → length (take_while p bytes) ≤ length bytes
run_len p bytes = omega (arith, ap length (run_front p bytes), length-take (length (take_while p bytes)) bytes)

run_pos : (p : ℕ → Bool) (bytes : List ℕ) → 0 < length bytes → p (get_or bytes 0 0) ≡ true → 0 < length (take_while p bytes)
run_pos p [] n e = absurd (omega arith)
run_pos p (b ∷ bytes) n e =
    let h : take_while p (b ∷ bytes) ≡ b ∷ take_while p bytes = take_while-cons p b bytes ∙ rw e refl in
    omega (arith, ap length h)

-- ---- what a class tells of the first byte

-- five tests, of which one is the first to pass
abbrev first_of_tests : Bool → Bool → Bool → Bool → Bool → Class
first_of_tests s l k w d = cond s Space (cond l LineComment (cond k BlockComment (cond w Word (cond d Digits Other))))

pick_word : (s l k w d : Bool) → first_of_tests s l k w d ≡ Word → w ≡ true
pick_word true l k w d e = absurd cc
pick_word false true k w d e = absurd cc
pick_word false false true w d e = absurd cc
pick_word false false false true d e = refl
pick_word false false false false true e = absurd cc
pick_word false false false false false e = absurd cc

pick_digits : (s l k w d : Bool) → first_of_tests s l k w d ≡ Digits → d ≡ true
pick_digits true l k w d e = absurd cc
pick_digits false true k w d e = absurd cc
pick_digits false false true w d e = absurd cc
pick_digits false false false true d e = absurd cc
pick_digits false false false false true e = refl
pick_digits false false false false false e = absurd cc

pick_line : (s l k w d : Bool) → first_of_tests s l k w d ≡ LineComment → l ≡ true
pick_line true l k w d e = absurd cc
pick_line false true k w d e = refl
pick_line false false true w d e = absurd cc
pick_line false false false true d e = absurd cc
pick_line false false false false true e = absurd cc
pick_line false false false false false e = absurd cc

pick_block : (s l k w d : Bool) → first_of_tests s l k w d ≡ BlockComment → k ≡ true
pick_block true l k w d e = absurd cc
pick_block false true k w d e = absurd cc
pick_block false false true w d e = refl
pick_block false false false true d e = absurd cc
pick_block false false false false true e = absurd cc
pick_block false false false false false e = absurd cc

pub both_true : (a b : Bool) → (a && b) ≡ true → (a ≡ true) × (b ≡ true)
both_true true true e = (refl, refl)
both_true true false e = absurd cc
both_true false true e = absurd cc
both_true false false e = absurd cc

letter_is_word : (b : ℕ) → is_letter b ≡ true → is_word_byte b ≡ true
letter_is_word b e = rw e refl

digit_is_word : (b : ℕ) → is_digit b ≡ true → is_word_byte b ≡ true
digit_is_word b e = go (is_letter b) (is_digit b) e
  where
    go : (l d : Bool) → d ≡ true → (l || d) ≡ true
    go true d e = refl
    go false d e = e

pub word_pos : (bytes : List ℕ) → 0 < length bytes → class_at bytes ≡ Word → 0 < length (take_while is_word_byte bytes)
unfolding class_of
word_pos bytes n c =
    let a = get_or bytes 0 0 in
    let b = get_or bytes 1 0 in
    run_pos is_word_byte bytes n (letter_is_word (get_or bytes 0 0) (pick_word (is_space a) (a == 47 && b == 47) (a == 47 && b == 42) (is_letter a) (is_digit a) c))

pub digits_pos : (bytes : List ℕ) → 0 < length bytes → class_at bytes ≡ Digits → 0 < length (take_while is_word_byte bytes)
unfolding class_of
digits_pos bytes n c =
    let a = get_or bytes 0 0 in
    let b = get_or bytes 1 0 in
    run_pos is_word_byte bytes n (digit_is_word (get_or bytes 0 0) (pick_digits (is_space a) (a == 47 && b == 47) (a == 47 && b == 42) (is_letter a) (is_digit a) c))

pub line_pos : (bytes : List ℕ) → 0 < length bytes → class_at bytes ≡ LineComment → 0 < length (take_while is_in_line bytes)
unfolding class_of
line_pos bytes n c =
    let a = get_or bytes 0 0 in
    let b = get_or bytes 1 0 in
    let h = both_true (a == 47) (b == 47) (pick_line (is_space a) (a == 47 && b == 47) (a == 47 && b == 42) (is_letter a) (is_digit a) c) in
    let e : get_or bytes 0 0 ≡ 47 = eqb-true (get_or bytes 0 0) 47 h.0 in
    run_pos is_in_line bytes n (rw e refl)

long_enough : (bytes : List ℕ) (i : ℕ) → 0 < get_or bytes i 0 → i < length bytes
long_enough [] zero h = absurd (omega arith)
long_enough [] (suc i) h = absurd (omega arith)
long_enough (b ∷ bytes) zero h = omega arith
long_enough (b ∷ bytes) (suc i) h = omega (arith, long_enough bytes i h)

pub block_len : (bytes : List ℕ) → class_at bytes ≡ BlockComment → 2 ≤ length bytes
unfolding class_of
block_len bytes c =
    let a = get_or bytes 0 0 in
    let b = get_or bytes 1 0 in
    let h = both_true (a == 47) (b == 42) (pick_block (is_space a) (a == 47 && b == 47) (a == 47 && b == 42) (is_letter a) (is_digit a) c) in
    let e : get_or bytes 1 0 ≡ 42 = eqb-true (get_or bytes 1 0) 42 h.1 in
    omega (arith, long_enough bytes 1 (omega (arith, e)))

-- ---- punctuators

find_passes : {X : Type 0} (p : X → Bool) (xs : List X) (x : X) → find p xs ≡ Some x → p x ≡ true
find_passes p [] x e = absurd cc
find_passes {X = X} p (y ∷ ys) x e = go (find_passes p ys x) (p y) refl e
  where
    go : (find p ys ≡ Some x → p x ≡ true) → (t : Bool) → p y ≡ t → cond {A = Option X} t (Some y) (find p ys) ≡ Some x → p x ≡ true
    go later true h e = let same : y ≡ x = cc in subst (λ (z : X). p z ≡ true) same h
    go later false h e = later e

find_among : {X : Type 0} (p q : X → Bool) (xs : List X) (x : X) → list_all q xs ≡ true → find p xs ≡ Some x → q x ≡ true
find_among p q [] x every e = absurd cc
find_among {X = X} p q (y ∷ ys) x every e = go (find_among p q ys x (both_true (q y) (list_all q ys) every).1) (p y) e
  where
    here : q y ≡ true
    here = (both_true (q y) (list_all q ys) every).0

    go : (find p ys ≡ Some x → q x ≡ true) → (t : Bool) → cond {A = Option X} t (Some y) (find p ys) ≡ Some x → q x ≡ true
    go later true e = let same : y ≡ x = cc in subst (λ (z : X). q z ≡ true) same here
    go later false e = later e

abbrev Entry : Type 0
Entry = List ℕ × Mark

-- a punctuator that is found isn't empty, and the bytes begin with it
pub punctuator_is : (bytes text : List ℕ) (m : Mark) → punctuator_at bytes ≡ Some (text, m) → (0 < length text) × (take (length text) bytes ≡ text) × (length text ≤ length bytes)
unfolding punctuator_at
punctuator_is bytes text m e =
    let passes : starts_with nat_eq bytes text ≡ true = find_passes (λ (entry : Entry). starts_with nat_eq bytes entry.0) punctuators (text, m) e in
    let some : nat_lt 0 (length text) ≡ true = find_among (λ (entry : Entry). starts_with nat_eq bytes entry.0) (λ (entry : Entry). nat_lt 0 (length entry.0)) punctuators (text, m) refl e in
    let split : bytes ≡ text ++ drop (length text) bytes = (starts_is Decides-eqb bytes text (starts_with nat_eq bytes text) refl).0 passes in
    let rest = drop (length text) bytes in
    let front : take (length text) bytes ≡ text = ap (λ (bs : List ℕ). take (length text) bs) split ∙ take_at text rest (length text) refl in
    (ltb-true 0 (length text) some, front, omega (arith, ap length split, length-append text (drop (length text) bytes)))
