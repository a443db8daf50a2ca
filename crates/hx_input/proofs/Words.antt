-- The words of a text, one after another, and the numbers that they are.
use Rattle.std.proofs.Common.{rules, ◌≡◌, ℕ, ℤ, zero, suc, ◌+◌, ◌-◌, ◌<◌, ◌≤◌, ◌^◌, Bool, true, false, List, [], ◌∷◌, ◌++◌, length, drop, take, map, refl, ap, sym, ◌∙◌, subst, arith, Result, Ok, pos, negsuc}
use Rattle.std.specs.Prelude.{filter, nat_lt, if◌then◌else◌, All}
use Rattle.std.specs.Int.{w32}
use Rattle.std.specs.Int.Signed.{mag}
use Rattle.std.specs.Str.{IsUtf8}
use Rattle.std.specs.Str.Parse.{ParsesSigned}
use Rattle.std.specs.Fmt.{signed_decimal}
use Rattle.std.proofs.lemmas.Str.{IsUtf8-from_ascii}
use Rattle.std.proofs.lemmas.Fmt.{IsAscii-signed, parse-signed_decimal, signed_decimal_injective}
use Rattle.std.proofs.lemmas.List.Sums.{prefix_len-le-length}
use Rattle.std.proofs.lemmas.List.{length-drop, length-take-le, append_assoc, append-nil, map-append, drop_all}
use Rattle.std.proofs.lemmas.List.Elements.{All-append, All-cons, All-nil}
use Rattle.hx_tree.specs.Lexis.{is_space}
use Rattle.hx_input.specs.InputText.{IsInputText}
use Rattle.std.specs.List.{slice_split, onto_first, prefix_len}
use Rattle.hx_input.specs.InputText.{is_in_word, words_of, IsWordNumber}

-- ---- one number

pub is_small : (z : ℤ) → IsWordNumber z → mag z < 2 ^ 63
is_small (pos n) h = search rules
is_small (negsuc n) h = search rules

pub numbers_are_text : (z : ℤ) (word : List ℕ) → IsWordNumber z → word ≡ signed_decimal z → IsUtf8 word
numbers_are_text z word h e = let P : List ℕ → Type 0 = λ w. IsUtf8 w in subst P (sym e) (IsUtf8-from_ascii _ (IsAscii-signed z (is_small z h)))

pub numbers_are_parsed : {E : Type 0} (z : ℤ) (word : List ℕ) (r : Result ℤ E) → IsWordNumber z → word ≡ signed_decimal z → ParsesSigned w32 10 word r → r ≡ Ok z
numbers_are_parsed z word r h e parses = parse-signed_decimal w32 z word r h (is_small z h) e parses

-- ---- the words

-- the first word and those behind it
abbrev pub kept : List ℕ → List (List ℕ) → List (List ℕ)
kept word words = if nat_lt 0 (length word) then word ∷ words else words

abbrev pub word_len : List ℕ → ℕ
word_len text = prefix_len is_in_word text

-- the first part has n bytes, and these are the words of those behind it
abbrev IsFirst : List ℕ → ℕ → Type 0
IsFirst text n =
    (rest : List (List ℕ)) × (slice_split is_space text ≡ take n text ∷ rest) × (filter (λ word. nat_lt 0 (length word)) rest ≡ words_of (drop (suc n) text))

longer : (b : ℕ) (text : List ℕ) → is_space b ≡ false → word_len (b ∷ text) ≡ suc (word_len text)
longer b text e = rw e (omega arith)

first_is_empty : (b : ℕ) (text : List ℕ) → is_space b ≡ true → IsFirst (b ∷ text) (word_len (b ∷ text))
first_is_empty b text e = rw e (slice_split is_space text, refl, refl)

first_goes_on : (b : ℕ) (text : List ℕ) → is_space b ≡ false → IsFirst text (word_len text) → IsFirst (b ∷ text) (word_len (b ∷ text))
first_goes_on b text e (rest, is, later) =
    subst (λ n. IsFirst (b ∷ text) n) (sym (longer b text e)) (rest, rw e (ap (λ parts. onto_first b parts) is), later)

first_by : (b : ℕ) (text : List ℕ) (s : Bool) → is_space b ≡ s → IsFirst text (word_len text) → IsFirst (b ∷ text) (word_len (b ∷ text))
first_by b text true e h = first_is_empty b text e
first_by b text false e h = first_goes_on b text e h

first : (text : List ℕ) → IsFirst text (word_len text)
first [] = ([], refl, refl)
first (b ∷ text) = first_by b text (is_space b) refl (first text)

pub words_first : (text : List ℕ) → words_of text ≡ kept (take (word_len text) text) (words_of (drop (suc (word_len text)) text))
words_first text = let h = first text in rw h.1 (ap (λ rest. kept (take (word_len text) text) rest) h.2)

-- ---- the numbers so far

-- the words are these numbers, and then those of what is left
pub record IsRead (text : List ℕ) (at : ℕ) (values : List ℤ) : Type 0 where
  pub words : words_of text ≡ map signed_decimal values ++ words_of (drop at text)
  pub each : All IsWordNumber values
  pub within : at ≤ length text + 1

drop_nothing : (n : ℕ) (text : List ℕ) → text ≡ [] → drop n text ≡ []
drop_nothing zero text e = e
drop_nothing (suc n) text e = rw e refl

drop_more : (at n : ℕ) (text : List ℕ) → drop n (drop at text) ≡ drop (at + n) text
drop_more at n [] = drop_nothing n (drop at []) (drop_nothing at [] refl) ∙ sym (drop_nothing (at + n) [] refl)
drop_more zero n (b ∷ text) = let e : n ≡ 0 + n = omega arith in ap (λ k. drop k (b ∷ text)) e
drop_more (suc at) n (b ∷ text) = let e : suc (at + n) ≡ suc at + n = omega arith in drop_more at n text ∙ ap (λ k. drop k (b ∷ text)) e

long : (b : ℕ) (word : List ℕ) → nat_lt 0 (length (b ∷ word)) ≡ true
long b word = search rules

kept_some : (word : List ℕ) (words : List (List ℕ)) → 0 < length word → kept word words ≡ word ∷ words
kept_some [] words h = absurd (omega arith)
kept_some (b ∷ word) words h = rw (long b word) refl

-- the words of what is left, where a word of n bytes stands first
pub left_words : (text : List ℕ) (at n : ℕ) → n ≡ word_len (drop at text) → 0 < n
    → words_of (drop at text) ≡ take n (drop at text) ∷ words_of (drop (at + (n + 1)) text)
left_words text at n e some =
    let within : n ≤ length (drop at text) = rw e (prefix_len-le-length is_in_word (drop at text)) in
    let long : 0 < length (take n (drop at text)) = rw (length-take-le n (drop at text) within) some in
    let next : drop (suc n) (drop at text) ≡ drop (at + (n + 1)) text = drop_more at (suc n) text ∙ ap (λ k. drop k text) (omega arith) in
    words_first (drop at text) ∙ rw (← e) (kept_some _ _ long ∙ ap (λ rest. take n (drop at text) ∷ words_of rest) next)

pub left_blank : (text : List ℕ) (at : ℕ) → 0 ≡ word_len (drop at text) → words_of (drop at text) ≡ words_of (drop (at + (0 + 1)) text)
left_blank text at e =
    let next : drop (suc 0) (drop at text) ≡ drop (at + (0 + 1)) text = drop_more at (suc 0) text ∙ ap (λ k. drop k text) (omega arith) in
    words_first (drop at text) ∙ rw (← e) (ap words_of next)

pub reads_blank : (text : List ℕ) (at : ℕ) (values : List ℤ) → IsRead text at values → at < length text → 0 ≡ word_len (drop at text) → IsRead text (at + (0 + 1)) values
reads_blank text at values h within e = record {
  words = h.words ∙ ap (λ rest. map signed_decimal values ++ rest) (left_blank text at e);
  each = h.each;
  within = omega arith;
}

pub reads_number : (text : List ℕ) (at n : ℕ) (values : List ℤ) (z : ℤ) → IsRead text at values → at < length text → n ≡ word_len (drop at text) → 0 < n → take n (drop at text) ≡ signed_decimal z → IsWordNumber z → IsRead text (at + (n + 1)) (values ++ z ∷ [])
reads_number text at n values z h within e some is good =
    let fits : n ≤ length (drop at text) = rw e (prefix_len-le-length is_in_word (drop at text)) in
    let left : length (drop at text) ≡ length text - at = length-drop at text in
    let rest : List (List ℕ) = words_of (drop (at + (n + 1)) text) in
    let step : map signed_decimal values ++ words_of (drop at text) ≡ map signed_decimal values ++ (signed_decimal z ∷ rest) =
    ap (λ ws. map signed_decimal values ++ ws) (left_words text at n e some ∙ ap (λ w. w ∷ rest) is) in
    let regroup : map signed_decimal values ++ (signed_decimal z ∷ rest) ≡ map signed_decimal (values ++ z ∷ []) ++ rest =
    sym (append_assoc (map signed_decimal values) (signed_decimal z ∷ []) rest) ∙ ap (λ l. l ++ rest) (sym (map-append signed_decimal values (z ∷ []))) in
    record {
      words = h.words ∙ step ∙ regroup;
      each = All-append IsWordNumber values (z ∷ []) h.each (All-cons IsWordNumber z [] good (All-nil IsWordNumber));
      within = omega arith;
    }

-- ---- what no numbers spell

-- a word that is among decimals is one
among : (numbers : List ℤ) (before : List (List ℕ)) (word : List ℕ) (rest : List (List ℕ)) → map signed_decimal numbers ≡ before ++ (word ∷ rest) → All IsWordNumber numbers
    → (z : ℤ) × IsWordNumber z × (word ≡ signed_decimal z)
among [] [] word rest e good = absurd (search rules)
among [] (b ∷ before) word rest e good = absurd (search rules)
among (z ∷ numbers) [] word rest e good = (z, good 0 z (omega arith), search rules)
among (z ∷ numbers) (b ∷ before) word rest e good = among numbers before word rest (search rules) (λ k d lt. good (suc k) d (omega arith))

pub refuses : (text : List ℕ) (at n : ℕ) (values : List ℤ) → IsRead text at values → n ≡ word_len (drop at text) → 0 < n
    → ((z : ℤ) → IsWordNumber z → take n (drop at text) ≡ signed_decimal z → ⊥) → (numbers : List ℤ) → IsInputText text numbers → ⊥
refuses text at n values h e some never numbers spelled =
    let all : map signed_decimal numbers ≡ map signed_decimal values ++ (take n (drop at text) ∷ words_of (drop (at + (n + 1)) text)) =
    sym spelled.words ∙ h.words ∙ ap (λ ws. map signed_decimal values ++ ws) (left_words text at n e some) in
    let found = among numbers (map signed_decimal values) _ _ all spelled.each in
    never found.0 found.1 found.2

-- ---- the one list

same_numbers : (xs ys : List ℤ) → map signed_decimal xs ≡ map signed_decimal ys → All IsWordNumber xs → All IsWordNumber ys → xs ≡ ys
same_numbers [] [] e p q = refl
same_numbers [] (y ∷ ys) e p q = absurd (search rules)
same_numbers (x ∷ xs) [] e p q = absurd (search rules)
same_numbers (x ∷ xs) (y ∷ ys) e p q =
    let first : signed_decimal x ≡ signed_decimal y = search rules in
    let rest : map signed_decimal xs ≡ map signed_decimal ys = search rules in
    let head : x ≡ y = signed_decimal_injective x y (is_small x (p 0 x (omega arith))) (is_small y (q 0 y (omega arith))) first in
    let tail : xs ≡ ys = same_numbers xs ys rest (λ k d lt. p (suc k) d (omega arith)) (λ k d lt. q (suc k) d (omega arith)) in
    rw (head, tail) refl

pub is_only : (text : List ℕ) (at : ℕ) (values : List ℤ) → IsRead text at values → length text ≤ at → (numbers : List ℤ) → IsInputText text numbers → numbers ≡ values
is_only text at values h done numbers spelled =
    let ended : words_of (drop at text) ≡ [] = rw (drop_all at text done) refl in
    let all : words_of text ≡ map signed_decimal values = h.words ∙ rw ended (append-nil (map signed_decimal values)) in
    same_numbers numbers values (sym spelled.words ∙ all) spelled.each h.each
