-- The bytes of a source of profile 1 without the name `do` fall into the same tokens today.
use Rattle.std.proofs.Common.{◌≡◌, ◌≢◌, ℕ, Bool, true, false, List, [], ◌∷◌, Option, Some, None, refl, sym, ap, subst, ◌∙◌}
use Rattle.std.specs.Prelude.{find, codes, option_map, bytes_eq, nat_eq, cond}
use Rattle.std.specs.Option.{option_or}
use Rattle.std.specs.List.{starts_with}
use Rattle.std.proofs.lemmas.List.Folds.{find-append}
use Rattle.std.proofs.lemmas.Slice.Eq.{bytes_eq-Decides}
use Rattle.hx_tree.specs.declared.token.Pos.{Pos}
use Rattle.hx_tree.specs.declared.token.Mark.{Mark}
use Rattle.hx_tree.specs.declared.token.Mark.TheVariants as mark
use Rattle.hx_tree.specs.declared.token.Kind.TheVariants as kind
use Rattle.hx_tree.specs.Lexis.{Class, Space, LineComment, BlockComment, Word, Digits, Other, Piece, class_at, tokens_of, place_after, first_place}
use Rattle.hx_tree.specs.Lexis as new
use Rattle.hx_profile1.specs.Lexis as old
use Rattle.hx_profile1.specs.Promises.{HasNoDo}

-- what is found among the first is found among more
stays : {X Y : Type 0} (f : X → Y) (o other : Option X) (y : Y) → option_map f o ≡ Some y → option_map f (option_or o other) ≡ Some y
stays f None other y h = cc
stays f (Some x) other y h = h

next : {X Y : Type 0} (f : X → Y) (o other : Option X) → option_map f o ≡ None → option_map f (option_or o other) ≡ option_map f other
next f None other h = refl
next f (Some x) other h = cc

abbrev mark_in : List ℕ × Mark → Mark
mark_in entry = entry.1

abbrev is_text : List ℕ → List ℕ × Mark → Bool
is_text text entry = bytes_eq entry.0 text

abbrev begins : List ℕ → List ℕ × Mark → Bool
begins bytes entry = starts_with nat_eq bytes entry.0

-- what is new
abbrev more_words : List (List ℕ × Mark)
more_words = (codes "do", mark.Do) ∷ []

abbrev more_marks : List (List ℕ × Mark)
more_marks = (codes "?", mark.Question) ∷ (codes ":", mark.Colon) ∷ []

keyword_stays : (text : List ℕ) (m : Mark) → old.keyword_of text ≡ Some m → new.keyword_of text ≡ Some m
unfolding old.keyword_of new.keyword_of
keyword_stays text m h =
    ap (option_map mark_in) (find-append (is_text text) old.keywords more_words)
    ∙ stays mark_in (find (is_text text) old.keywords) (find (is_text text) more_words) m h

differs : (b : Bool) (text : List ℕ) → (b ≡ true → codes "do" ≡ text) → text ≢ codes "do" → b ≡ false
differs false text h ne = refl
differs true text h ne = absurd (ne (sym (h refl)))

name_is_free : (text : List ℕ) → old.keyword_of text ≡ None → text ≢ codes "do" → new.keyword_of text ≡ None
unfolding old.keyword_of new.keyword_of
name_is_free text h ne =
    ap (option_map mark_in) (find-append (is_text text) old.keywords more_words)
    ∙ next mark_in (find (is_text text) old.keywords) (find (is_text text) more_words) h
    ∙ ap (λ b. option_map mark_in (cond b (Some (codes "do", mark.Do)) None)) (differs (bytes_eq (codes "do") text) text (bytes_eq-Decides (codes "do") text).0 ne)

punctuator_stays : (bytes text : List ℕ) (m : Mark) → old.punctuator_at bytes ≡ Some (text, m) → new.punctuator_at bytes ≡ Some (text, m)
unfolding old.punctuator_at new.punctuator_at
punctuator_stays bytes text m h =
    find-append (begins bytes) old.punctuators more_marks ∙ ap (λ o. option_or o (find (begins bytes) more_marks)) h

name_stays : (c : Class) (text bytes : List ℕ) → old.IsName c text bytes → text ≢ codes "do" → new.IsName c text bytes
name_stays Word text bytes (run, free, short) ne = (run, name_is_free text free ne, short)
name_stays Space text bytes h ne = h
name_stays LineComment text bytes h ne = h
name_stays BlockComment text bytes h ne = h
name_stays Digits text bytes h ne = h
name_stays Other text bytes h ne = h

mark_stays : (c : Class) (m : Mark) (text bytes : List ℕ) → old.IsMark c m text bytes → new.IsMark c m text bytes
mark_stays Word m text bytes (run, is) = (run, keyword_stays text m is)
mark_stays Other m text bytes h = punctuator_stays bytes text m h
mark_stays Space m text bytes h = h
mark_stays LineComment m text bytes h = h
mark_stays BlockComment m text bytes h = h
mark_stays Digits m text bytes h = h

falls : (pieces : List Piece) (bytes : List ℕ) (place : Pos) → old.Falls pieces bytes → HasNoDo (tokens_of place pieces) → new.Falls pieces bytes
falls [] bytes place h k = h
falls ((None, text) ∷ pieces) bytes place (rest, is, some, piece, more) k =
    (rest, is, some, piece, falls pieces rest (place_after place text) more k)
falls ((Some kind.Name, text) ∷ pieces) bytes place (rest, is, some, piece, more) (ne, k) =
    (rest, is, some, name_stays (class_at bytes) text bytes piece ne, falls pieces rest (place_after place text) more k)
falls ((Some (kind.Number n), text) ∷ pieces) bytes place (rest, is, some, piece, more) k =
    (rest, is, some, piece, falls pieces rest (place_after place text) more k)
falls ((Some (kind.Mark m), text) ∷ pieces) bytes place (rest, is, some, piece, more) k =
    (rest, is, some, mark_stays (class_at bytes) m text bytes piece, falls pieces rest (place_after place text) more k)

pub same_tokens : (bytes : List ℕ) (tokens : List new.Token) → old.AreTokens bytes tokens → HasNoDo tokens → new.AreTokens bytes tokens
same_tokens bytes tokens (pieces, h, is) free =
    (pieces, falls pieces bytes first_place h (subst HasNoDo is free), is)
