-- A machine that follows a part of a program.
use Rattle.std.proofs.Common.{◌≡◌, ℕ, zero, suc, ◌+◌, ◌≤◌, None, refl, sym, ap, subst, ◌∙◌, arith}
use Rattle.hx_tree.specs.declared.outcome.Fault.{Fault}
use Rattle.hx_tree.specs.declared.outcome.End.TheVariants as end
use Rattle.hx_tree.specs.World.{World, Answer, Gives, Faults, Unfinished, Run, and_then}
use Rattle.hx_tree.specs.Meaning.{ending}
use Rattle.hx_code.specs.Code.{CodeView}
use Rattle.hx_code.specs.Machine.{Machine, machine_step, machine_after}
use Rattle.hx_lowering.specs.Correct.{Shows}
use Rattle.hx_lowering.proofs.Ranged.{HasNumbers}

-- steps after steps
pub after-sum : (code : CodeView) (j k : ℕ) (m : Machine) → machine_after code (k + j) m ≡ machine_after code k (machine_after code j m)
after-sum code j zero m = let e : zero + j ≡ j = omega arith in ap (λ n. machine_after code n m) e
after-sum code j (suc k) m =
    let e : suc k + j ≡ suc (k + j) = omega arith in
    ap (λ n. machine_after code n m) e ∙ ap (machine_step code) (after-sum code j k m)

-- from here on the machine has numbers of 32 bits alone
abbrev pub Always : CodeView → Machine → Type 0
Always code m = (k : ℕ) → HasNumbers (machine_after code k m)

pub later : (code : CodeView) (m m' : Machine) (k : ℕ) → machine_after code k m ≡ m' → Always code m → Always code m'
later code m m' k e always j = subst HasNumbers (after-sum code k j m ∙ ap (machine_after code j) e) (always (j + k))

-- after some steps, and no fewer than said, the machine is as said
pub record Reached (code : CodeView) (least : ℕ) (m : Machine) (P : Machine → Type 0) : Type 0 where
  pub steps : ℕ
  pub enough : least ≤ steps
  pub holds : P (machine_after code steps m)

-- so it is where the machine has numbers of 32 bits alone
abbrev pub Reaches : (code : CodeView) (least : ℕ) (m : Machine) (P : Machine → Type 0) → Type 0
Reaches code least m P = Always code m → Reached code least m P

-- the machine does what a part of a program does: where that has an answer, the machine comes to what is said of it; where
-- that is a fault, the machine ends with it; and where the turns didn't suffice, the machine makes as many steps and hasn't ended
abbrev pub Follows : {A : Type 0} → CodeView → ℕ → Machine → Answer A → (A → World → Machine → Type 0) → Type 0
Follows code n m (Gives a w) Done = Reaches code 0 m (Done a w)
Follows code n m (Faults k w) Done = Reaches code 0 m (λ m'. Shows code m' (ending (end.Fault k) w))
Follows code n m Unfinished Done = Reaches code n m (λ m'. m'.end ≡ None)

pub at_once : (code : CodeView) (m : Machine) (P : Machine → Type 0) → P m → Reaches code 0 m P
at_once code m P p = λ always. record { steps = 0; enough = omega arith; holds = p }

-- from a state that is reached
pub on_from : (code : CodeView) (least : ℕ) (m m' : Machine) (k : ℕ) (P : Machine → Type 0) → machine_after code k m ≡ m' → Reaches code least m' P → Reaches code (least + k) m P
on_from code least m m' k P e r = λ always. (let q = r (later code m m' k e always) in record {
  steps = q.steps + k;
  enough = omega (arith, q.enough);
  holds = subst P (ap (machine_after code q.steps) (sym e) ∙ sym (after-sum code k q.steps m)) q.holds;
})

pub fewer : (code : CodeView) (least least' : ℕ) (m : Machine) (P : Machine → Type 0) → least' ≤ least → Reaches code least m P → Reaches code least' m P
fewer code least least' m P le r = λ always. (let q = r always in record { steps = q.steps; enough = omega (arith, q.enough); holds = q.holds })

-- what is reached from where something holds that is reached
pub reaches_then : (code : CodeView) (least : ℕ) (m : Machine) (P Q : Machine → Type 0) → Reaches code 0 m P → ((m' : Machine) → P m' → Reaches code least m' Q) → Reaches code least m Q
reaches_then code least m P Q r h = λ always.
    (let q = r always in fewer code (least + q.steps) least m Q (omega arith) (on_from code least m _ q.steps Q refl (h _ q.holds)) always)

pub follows_from : {A : Type 0} (code : CodeView) (n : ℕ) (m m' : Machine) (k : ℕ) (a : Answer A) (Done : A → World → Machine → Type 0) → machine_after code k m ≡ m' → Follows code n m' a Done → Follows code (n + k) m a Done
follows_from code n m m' k (Gives x w) Done e r = fewer code (0 + k) 0 m _ (omega arith) (on_from code 0 m m' k _ e r)
follows_from code n m m' k (Faults f w) Done e r = fewer code (0 + k) 0 m _ (omega arith) (on_from code 0 m m' k _ e r)
follows_from code n m m' k Unfinished Done e r = on_from code n m m' k _ e r

pub follows_fewer : {A : Type 0} (code : CodeView) (n n' : ℕ) (m : Machine) (a : Answer A) (Done : A → World → Machine → Type 0) → n' ≤ n → Follows code n m a Done → Follows code n' m a Done
follows_fewer code n n' m (Gives x w) Done le r = r
follows_fewer code n n' m (Faults f w) Done le r = r
follows_fewer code n n' m Unfinished Done le r = fewer code n n' m _ le r

-- what is known of numbers may be used
pub with_numbers : {A : Type 0} (code : CodeView) (n : ℕ) (m : Machine) (a : Answer A) (Done : A → World → Machine → Type 0) → (Always code m → Follows code n m a Done) → Follows code n m a Done
with_numbers code n m (Gives x w) Done h = λ always. h always always
with_numbers code n m (Faults f w) Done h = λ always. h always always
with_numbers code n m Unfinished Done h = λ always. h always always

-- one word, and then
pub steps_to : {A : Type 0} (code : CodeView) (n : ℕ) (m m' : Machine) (a : Answer A) (Done : A → World → Machine → Type 0) → machine_step code m ≡ m' → Follows code n m' a Done → Follows code n m a Done
steps_to code n m m' a Done e r = follows_fewer code (n + 1) n m a Done (omega arith) (follows_from code n m m' 1 a Done e r)

-- one word of a turn
pub turns_to : {A : Type 0} (code : CodeView) (n : ℕ) (m m' : Machine) (a : Answer A) (Done : A → World → Machine → Type 0) → machine_step code m ≡ m' → Follows code n m' a Done → Follows code (suc n) m a Done
turns_to code n m m' a Done e r = follows_fewer code (n + 1) (suc n) m a Done (omega arith) (follows_from code n m m' 1 a Done e r)

-- one part after another
pub follows_then : {A B : Type 0} (code : CodeView) (n : ℕ) (m : Machine) (a : Answer A) (f : A → Run B) (Done : A → World → Machine → Type 0) (Done' : B → World → Machine → Type 0)
    → Follows code n m a Done → ((x : A) (w : World) (m' : Machine) → Done x w m' → Follows code n m' (f x w) Done') → Follows code n m (and_then a f) Done'
follows_then code n m (Gives x w) f Done Done' r h = with_numbers code n m (f x w) Done' (λ always.
    let q = r always in
    follows_fewer code (n + q.steps) n m (f x w) Done' (omega arith)
    (follows_from code n m _ q.steps (f x w) Done' refl (h x w _ q.holds)))
follows_then code n m (Faults k w) f Done Done' r h = r
follows_then code n m Unfinished f Done Done' r h = r

-- the machine ends here with a fault
pub faults_at : {A : Type 0} (code : CodeView) (n : ℕ) (m : Machine) (k : Fault) (w : World) (Done : A → World → Machine → Type 0) → Shows code (machine_step code m) (ending (end.Fault k) w) → Follows code n m (Faults k w) Done
faults_at code n m k w Done e = λ always. record { steps = 1; enough = omega arith; holds = e }

-- what is said of an answer may say less
pub follows_so : {A : Type 0} (code : CodeView) (n : ℕ) (m : Machine) (a : Answer A) (Done Done' : A → World → Machine → Type 0) → ((x : A) (w : World) (m' : Machine) → Done x w m' → Done' x w m') → Follows code n m a Done → Follows code n m a Done'
follows_so code n m (Gives x w) Done Done' h r = λ always. (let q = r always in record { steps = q.steps; enough = q.enough; holds = h x w _ q.holds })
follows_so code n m (Faults k w) Done Done' h r = r
follows_so code n m Unfinished Done Done' h r = r

-- a part that nothing follows
pub follows_last : {A : Type 0} (code : CodeView) (n : ℕ) (m : Machine) (a : Answer A) (Done : A → World → Machine → Type 0) → Follows code n m (and_then a (λ x w. Gives x w)) Done → Follows code n m a Done
follows_last code n m (Gives x w) Done r = r
follows_last code n m (Faults k w) Done r = r
follows_last code n m Unfinished Done r = r

-- a part whose answer is known gives just that
pub follows_known : {A : Type 0} (code : CodeView) (n : ℕ) (m : Machine) (a : Answer A) (x : A) (w : World) (Done : A → World → Machine → Type 0) → a ≡ Gives x w → Follows code n m a Done → Follows code n m a (λ y w' m'. (y ≡ x) × Done y w' m')
follows_known code n m a x w Done e r =
    subst (λ b. Follows code n m b (λ y w' m'. (y ≡ x) × Done y w' m')) (sym e)
    (λ always. (let q = subst (λ b. Follows code n m b Done) e r always in record { steps = q.steps; enough = q.enough; holds = (refl, q.holds) }))
