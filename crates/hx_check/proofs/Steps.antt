-- One check after another.
use Rattle.std.proofs.Common.{◌≡◌, Bool, true, false, refl, ap, sym, subst, ◌∙◌, if◌then◌else◌}
use Rattle.std.specs.Prelude.{Ok, Err}
use Rattle.hx_check.specs.declared.error.CheckError.{CheckError}
use Rattle.hx_check.specs.declared.error.CheckError.TheVariants as error
use Rattle.hx_check.specs.Reading.{Checks, ◌>>=◌, IsFault}

-- where the whole is right, the first part is, and the rest is from its answer on
pub bind_ok : {A B : Type 0} (m : Checks A) (f : A → Checks B) (b : B) → (m >>= f) ≡ Ok b → (a : A) × (m ≡ Ok a) × (f a ≡ Ok b)
bind_ok (Ok a) f b h = (a, refl, h)
bind_ok (Err e) f b h = cc

pub bind_at : {A B : Type 0} (m : Checks A) (f : A → Checks B) (a : A) (b : B) → m ≡ Ok a → f a ≡ Ok b → (m >>= f) ≡ Ok b
bind_at m f a b e h = ap (λ m'. m' >>= f) e ∙ h

pub if_ok : {A : Type 0} (b : Bool) (m : Checks A) (e : CheckError) (a : A) → (if b then m else Err e) ≡ Ok a → (b ≡ true) × (m ≡ Ok a)
if_ok true m e a h = (refl, h)
if_ok false m e a h = cc

pub if_at : {A : Type 0} (b : Bool) (m other : Checks A) → b ≡ true → (if b then m else other) ≡ m
if_at b m other e = ap (λ b'. if b' then m else other) e

pub else_ok : {A : Type 0} (b : Bool) (m : Checks A) (e : CheckError) (a : A) → (if b then Err e else m) ≡ Ok a → (b ≡ false) × (m ≡ Ok a)
else_ok true m e a h = cc
else_ok false m e a h = (refl, h)

pub else_at : {A : Type 0} (b : Bool) (m other : Checks A) → b ≡ false → (if b then other else m) ≡ m
else_at b m other e = ap (λ b'. if b' then other else m) e

-- an answer is one
pub same_ok : {A : Type 0} (m : Checks A) (a b : A) → m ≡ Ok a → m ≡ Ok b → a ≡ b
same_ok m a b e h = cc

-- a fault of a part is one of the whole
pub stops_at : {A B : Type 0} (m : Checks A) (f : A → Checks B) (e : CheckError) → IsFault m e → IsFault (m >>= f) e
stops_at m f (error.UnknownName pos) h = ap (λ m'. m' >>= f) h
stops_at m f (error.DoubledName pos) h = ap (λ m'. m' >>= f) h
stops_at m f (error.WrongKind pos) h = ap (λ m'. m' >>= f) h
stops_at m f (error.WrongCount pos) h = ap (λ m'. m' >>= f) h
stops_at m f (error.OutsideLoop pos) h = ap (λ m'. m' >>= f) h
stops_at m f error.NoMain h = ap (λ m'. m' >>= f) h
stops_at m f (error.LimitPassed pos) h = ap (λ m'. m' >>= f) h
stops_at m f error.TooLarge h = ap (λ m'. m' >>= f) h
stops_at m f error.Memory h = tt

pub goes_on_at : {A B : Type 0} (m : Checks A) (f : A → Checks B) (a : A) (e : CheckError) → m ≡ Ok a → IsFault (f a) e → IsFault (m >>= f) e
goes_on_at {A = A} m f a e is h = subst (λ (m' : Checks A). IsFault (m' >>= f) e) (sym is) h
