-- Runs that go on.
use Rattle.std.proofs.Common.{◌≡◌, ℕ, zero, suc, ◌+◌, List, ℤ, ap, subst, ◌∙◌, arith}
use Rattle.hx_code.specs.Code.{CodeView}
use Rattle.hx_code.specs.Machine.{Machine, machine_step, machine_after, opening_machine}
use Rattle.hx_word.specs.Plain.{PlainView, one_store}
use Rattle.hx_run.specs.Runs.{after}

pub after_more : (code : CodeView) (n k : ℕ) (m : Machine) → machine_after code n (machine_after code k m) ≡ machine_after code (n + k) m
after_more code zero k m = let e : k ≡ 0 + k = omega arith in ap (λ j. machine_after code j m) e
after_more code (suc n) k m =
    let e : suc (n + k) ≡ suc n + k = omega arith in
    ap (machine_step code) (after_more code n k m) ∙ ap (λ j. machine_after code j m) e

-- a machine is that of a run of the code after some words
pub record IsReached (code : CodeView) (input : List ℤ) (plain : PlainView) : Type 0 where
  pub same : plain.code ≡ code
  pub words : ℕ
  pub machine : one_store (after code input words) ≡ plain.machine

-- what the next words of a machine come to, told of the run
pub next_words : (code : CodeView) (input : List ℤ) (plain : PlainView) (n : ℕ) (P : CodeView → Machine → Type 0) → (h : IsReached code input plain)
    → ((m : Machine) → one_store m ≡ plain.machine → P plain.code (machine_after plain.code n m)) → P code (after code input (n + h.words))
next_words code input plain n P h ran =
    let on_code : P code (machine_after code n (after code input h.words)) =
    subst (λ c. P c (machine_after c n (after code input h.words))) h.same (ran (after code input h.words) h.machine) in
    subst (λ m. P code m) (after_more code n h.words (opening_machine code input)) on_code
