-- The words of a text, one after another, up to one that is no number.
use Rattle.std.proofs.Common.{◌≡◌, ℕ, ◌+◌, ◌<◌, ◌≤◌, List, [], ◌∷◌, ◌++◌, length, drop, take, refl, ap, sym, ◌∙◌, subst}
use Rattle.std.specs.Prelude.{All}
use Rattle.std.proofs.lemmas.List.{append_assoc, append-nil, drop_all}
use Rattle.std.proofs.lemmas.List.Elements.{All-append, All-cons, All-nil}
use Rattle.hx_input.specs.InputText.{words_of}
use Rattle.hx_input.proofs.Words.{word_len, left_words, left_blank}
use Rattle.hx_case.specs.Input.{IsNumber, IsFirstBad}

-- these words are numbers, and then those come of what is left
pub record IsPast (text : List ℕ) (at : ℕ) : Type 0 where
  pub before : List (List ℕ)
  pub words : words_of text ≡ before ++ words_of (drop at text)
  pub numbers : All IsNumber before

pub past_blank : (text : List ℕ) (at : ℕ) → IsPast text at → 0 ≡ word_len (drop at text) → IsPast text (at + (0 + 1))
past_blank text at h e = record {
  before = h.before;
  words = h.words ∙ ap (λ rest. h.before ++ rest) (left_blank text at e);
  numbers = h.numbers;
}

pub past_number : (text : List ℕ) (at n : ℕ) → IsPast text at → n ≡ word_len (drop at text) → 0 < n → IsNumber (take n (drop at text)) → IsPast text (at + (n + 1))
past_number text at n h e some is =
    let word : List ℕ = take n (drop at text) in
    record {
      before = h.before ++ word ∷ [];
      words = h.words ∙ ap (λ rest. h.before ++ rest) (left_words text at n e some) ∙ sym (append_assoc h.before (word ∷ []) (words_of (drop (at + (n + 1)) text)));
      numbers = All-append IsNumber h.before (word ∷ []) h.numbers (All-cons IsNumber word [] is (All-nil IsNumber));
    }

pub past_bad : (text : List ℕ) (at n : ℕ) → IsPast text at → n ≡ word_len (drop at text) → 0 < n → (IsNumber (take n (drop at text)) → ⊥) → IsFirstBad text (take n (drop at text))
past_bad text at n h e some bad = record {
  before = h.before;
  behind = words_of (drop (at + (n + 1)) text);
  words = h.words ∙ ap (λ rest. h.before ++ rest) (left_words text at n e some);
  numbers = h.numbers;
  bad = bad;
}

pub past_all : (text : List ℕ) (at : ℕ) → IsPast text at → length text ≤ at → All IsNumber (words_of text)
past_all text at h done =
    let ended : words_of (drop at text) ≡ [] = rw (drop_all at text done) refl in
    let all : words_of text ≡ h.before = h.words ∙ rw ended (append-nil h.before) in
    subst (λ ws. All IsNumber ws) (sym all) h.numbers
