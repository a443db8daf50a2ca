-- Texts, some behind others.
use Rattle.std.proofs.Common.{◌≡◌, ℕ, zero, suc, ◌<◌, List, [], ◌∷◌, ◌++◌, length, drop, Bool, true, Result, Ok, Err, OnOk, ap, sym, ◌∙◌, arith, append_assoc}
use Rattle.std.specs.Prelude.{get_or, if◌then◌else◌}
use Rattle.hx_trace.specs.declared.telling.Called.{Called}
use Rattle.hx_trace.specs.Telling.{is_called, name_of, word_name}

pub on_ok : {A E : Type 0} (r : Result A E) (P Q : Type 0) → OnOk r P → (P → Q) → OnOk r Q
on_ok (Ok a) P Q h f = f h
on_ok (Err e) P Q h f = h

-- what is put behind what was put
pub put_behind : {A E : Type 0} (r : Result A E) (old first mid new rest : List ℕ) → mid ≡ old ++ first → OnOk r (new ≡ mid ++ rest) → OnOk r (new ≡ old ++ (first ++ rest))
put_behind r old first mid new rest put h = on_ok r _ _ h (λ e. e ∙ ap (λ l. l ++ rest) put ∙ append_assoc old first rest)

-- the first name that has the word
pub name_found : (names : List Called) (k a : ℕ) (x : Called) → k < length names → x ≡ get_or names k x → is_called a x ≡ true → word_name (drop k names) a ≡ name_of a x
name_found [] k a x lt e is = absurd (omega (arith, lt))
name_found (y ∷ ys) zero a x lt e is = ap (λ c. word_name (c ∷ ys) a) (sym e) ∙ ap (λ (t : Bool). if t then name_of a x else word_name ys a) is
name_found (y ∷ ys) (suc k) a x lt e is = name_found ys k a x (omega (arith, lt)) e is
