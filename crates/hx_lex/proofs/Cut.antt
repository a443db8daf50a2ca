-- The tokens so far are cut from the source, up to where the lexer stands.
use Rattle.std.proofs.Common.{◌≡◌, ℕ, ◌+◌, ◌≤◌, List, [], ◌∷◌, ◌++◌, take, drop, refl, ap, sym, ◌∙◌, arith}
use Rattle.std.proofs.Math.Seq.{take-add}
use Rattle.hx_tree.specs.declared.token.Pos.{Pos}
use Rattle.hx_tree.specs.Lexis.{place_after, place_behind, first_place}
use Rattle.hx_lex.specs.declared.token.Token.{Token}
use Rattle.hx_lex.specs.Answer.{IsCut, AreCut}

pub cut_stays : (source : List ℕ) (start : ℕ) (ts : List Token) (at end : ℕ) → AreCut source start ts at → at ≤ end → AreCut source start ts end
cut_stays source start [] at end cut le = omega arith
cut_stays source start (t ∷ ts) at end (rises, here, cut) le = (rises, here, cut_stays source t.span.end ts at end cut le)

pub cut_goes_on : (source : List ℕ) (start : ℕ) (ts : List Token) (t : Token) → AreCut source start ts t.span.start → IsCut source t → AreCut source start (ts ++ t ∷ []) t.span.end
cut_goes_on source start [] t cut is = (cut, is, omega arith)
cut_goes_on source start (u ∷ ts) t (rises, here, cut) is = (rises, here, cut_goes_on source u.span.end ts t cut is)

-- ---- the place where it stands

pub place_after-append : (pos : Pos) (xs ys : List ℕ) → place_after pos (xs ++ ys) ≡ place_after (place_after pos xs) ys
place_after-append pos [] ys = refl
place_after-append pos (x ∷ xs) ys = place_after-append (place_behind pos x) xs ys

pub place_goes_on : (bytes : List ℕ) (at n : ℕ) → place_after (place_after first_place (take at bytes)) (take n (drop at bytes)) ≡ place_after first_place (take (at + n) bytes)
place_goes_on bytes at n = sym (ap (λ (xs : List ℕ). place_after first_place xs) (take-add at n bytes) ∙ place_after-append first_place (take at bytes) (take n (drop at bytes)))
