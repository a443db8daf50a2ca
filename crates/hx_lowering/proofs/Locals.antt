-- Private words that scopes name: each but once, and all below the next one.
use Rattle.std.proofs.Common.{◌≡◌, ℕ, ◌+◌, ◌≤◌, ◌<◌, Bool, true, false, List, [], ◌∷◌, ◌++◌, Option, Some, None, ℤ, refl, sym, ap, subst, ◌∙◌, arith, if◌then◌else◌, ⊎_elim}
use Rattle.std.specs.Prelude.{bytes_eq, is_some}
use Rattle.std.proofs.lemmas.Bool.{cases_lt}
use Rattle.hx_tree.specs.World.{Map, look_up, update, set_local, declare, first_of}
use Rattle.hx_resolved.specs.Symbols.{Scopes, private_word, with_word}
use Rattle.hx_lowering.proofs.Names.{values_in, env_of}

-- each of the numbers is below n
abbrev pub Below : ℕ → List ℕ → Type 0
Below n [] = Unit {0}
Below n (k ∷ ks) = (k < n) × Below n ks

-- k is none of them
abbrev pub Absent : ℕ → List ℕ → Type 0
Absent k [] = Unit {0}
Absent k (j ∷ js) = (j ≡ k → ⊥) × Absent k js

abbrev pub Apart : List ℕ → Type 0
Apart [] = Unit {0}
Apart (k ∷ ks) = Absent k ks × Apart ks

abbrev pub numbers_in : Map ℕ → List ℕ
numbers_in [] = []
numbers_in ((x, k) ∷ rest) = k ∷ numbers_in rest

abbrev pub numbers_of : Scopes → List ℕ
numbers_of [] = []
numbers_of (scope ∷ outer) = numbers_in scope ++ numbers_of outer

pub record Tidy (n : ℕ) (scopes : Scopes) : Type 0 where
  pub apart : Apart (numbers_of scopes)
  pub below : Below n (numbers_of scopes)

pub below_more : (n m : ℕ) (ks : List ℕ) → n ≤ m → Below n ks → Below m ks
below_more n m [] le h = tt
below_more n m (k ∷ ks) le h = let lt = h.0 in (omega arith, below_more n m ks le h.1)

pub absent_next : (n : ℕ) (ks : List ℕ) → Below n ks → Absent n ks
absent_next n [] h = tt
absent_next n (k ∷ ks) h = let lt = h.0 in ((λ e. omega arith), absent_next n ks h.1)

pub tidy_more : (n m : ℕ) (scopes : Scopes) → n ≤ m → Tidy n scopes → Tidy m scopes
tidy_more n m scopes le t = record { apart = t.apart; below = below_more n m (numbers_of scopes) le t.below }

pub tidy_scope : (n : ℕ) (scopes : Scopes) → Tidy n scopes → Tidy n ([] ∷ scopes)
tidy_scope n scopes t = record { apart = t.apart; below = t.below }

pub tidy_word : (n : ℕ) (scope : Map ℕ) (outer : Scopes) (x : List ℕ) → Tidy n (scope ∷ outer) → Tidy (n + 1) (with_word (scope ∷ outer) x n)
tidy_word n scope outer x t = record {
  apart = (absent_next n (numbers_of (scope ∷ outer)) t.below, t.apart);
  below = (omega arith, below_more n (n + 1) (numbers_of (scope ∷ outer)) (omega arith) t.below);
}

-- ---- environments whose values agree

absent_first : (k : ℕ) (xs ys : List ℕ) → Absent k (xs ++ ys) → Absent k xs
absent_first k [] ys h = tt
absent_first k (x ∷ xs) ys h = (h.0, absent_first k xs ys h.1)

absent_second : (k : ℕ) (xs ys : List ℕ) → Absent k (xs ++ ys) → Absent k ys
absent_second k [] ys h = h
absent_second k (x ∷ xs) ys h = absent_second k xs ys h.1

apart_first : (xs ys : List ℕ) → Apart (xs ++ ys) → Apart xs
apart_first [] ys h = tt
apart_first (x ∷ xs) ys h = (absent_first x xs ys h.0, apart_first xs ys h.1)

apart_second : (xs ys : List ℕ) → Apart (xs ++ ys) → Apart ys
apart_second [] ys h = h
apart_second (x ∷ xs) ys h = apart_second xs ys h.1

below_first : (n : ℕ) (xs ys : List ℕ) → Below n (xs ++ ys) → Below n xs
below_first n [] ys h = tt
below_first n (x ∷ xs) ys h = (h.0, below_first n xs ys h.1)

below_second : (n : ℕ) (xs ys : List ℕ) → Below n (xs ++ ys) → Below n ys
below_second n [] ys h = h
below_second n (x ∷ xs) ys h = below_second n xs ys h.1

pub tidy_outer : (n : ℕ) (scope : Map ℕ) (outer : Scopes) → Tidy n (scope ∷ outer) → Tidy n outer
tidy_outer n scope outer t = record { apart = apart_second (numbers_in scope) (numbers_of outer) t.apart; below = below_second n (numbers_in scope) (numbers_of outer) t.below }

values_below : (n : ℕ) (scope : Map ℕ) (f g : ℕ → ℤ) → Below n (numbers_in scope) → ((k : ℕ) → k < n → f k ≡ g k) → values_in scope f ≡ values_in scope g
values_below n [] f g h same = refl
values_below n ((x, k) ∷ rest) f g h same = ap (λ v. (x, v) ∷ values_in rest f) (same k h.0) ∙ ap (λ m. (x, g k) ∷ m) (values_below n rest f g h.1 same)

pub env_below : (n : ℕ) (scopes : Scopes) (f g : ℕ → ℤ) → Below n (numbers_of scopes) → ((k : ℕ) → k < n → f k ≡ g k) → env_of scopes f ≡ env_of scopes g
env_below n [] f g h same = refl
env_below n (scope ∷ outer) f g h same =
    ap (λ m. m ∷ env_of outer f) (values_below n scope f g (below_first n (numbers_in scope) (numbers_of outer) h) same)
    ∙ ap (λ env. values_in scope g ∷ env) (env_below n outer f g (below_second n (numbers_in scope) (numbers_of outer) h) same)

-- another value for one number changes only what has it
values_but : (k : ℕ) (scope : Map ℕ) (f g : ℕ → ℤ) → Absent k (numbers_in scope) → ((j : ℕ) → (j ≡ k → ⊥) → f j ≡ g j) → values_in scope f ≡ values_in scope g
values_but k [] f g h same = refl
values_but k ((x, j) ∷ rest) f g h same = ap (λ v. (x, v) ∷ values_in rest f) (same j h.0) ∙ ap (λ m. (x, g j) ∷ m) (values_but k rest f g h.1 same)

pub env_but : (k : ℕ) (scopes : Scopes) (f g : ℕ → ℤ) → Absent k (numbers_of scopes) → ((j : ℕ) → (j ≡ k → ⊥) → f j ≡ g j) → env_of scopes f ≡ env_of scopes g
env_but k [] f g h same = refl
env_but k (scope ∷ outer) f g h same =
    ap (λ m. m ∷ env_of outer f) (values_but k scope f g (absent_first k (numbers_in scope) (numbers_of outer) h) same)
    ∙ ap (λ env. values_in scope g ∷ env) (env_but k outer f g (absent_second k (numbers_in scope) (numbers_of outer) h) same)

found_other : (scope : Map ℕ) (x : List ℕ) (k j : ℕ) → look_up scope x ≡ Some k → Absent j (numbers_in scope) → j ≡ k → ⊥
found_other [] x k j h a e = absurd cc
found_other ((y, i) ∷ rest) x k j h a e = go (λ h'. found_other rest x k j h' a.1 e) (bytes_eq y x) h
  where
    go : (look_up rest x ≡ Some k → ⊥) → (b : Bool) → (if b then Some i else look_up rest x) ≡ Some k → ⊥
    go more true h = let same : i ≡ k = cc in a.0 (same ∙ sym e)
    go more false h = more h

update_is : (scope : Map ℕ) (x : List ℕ) (k : ℕ) (f g : ℕ → ℤ) (z : ℤ) → look_up scope x ≡ Some k → Apart (numbers_in scope) → g k ≡ z → ((j : ℕ) → (j ≡ k → ⊥) → f j ≡ g j)
    → update (values_in scope f) x z ≡ values_in scope g
update_is [] x k f g z h a is same = absurd cc
update_is ((y, i) ∷ rest) x k f g z h a is same = go (λ h'. update_is rest x k f g z h' a.1 is same) (bytes_eq y x) h
  where
    go : (look_up rest x ≡ Some k → update (values_in rest f) x z ≡ values_in rest g) → (b : Bool) → (if b then Some i else look_up rest x) ≡ Some k
        → (if b then (y, z) ∷ values_in rest f else ((y, f i) ∷ update (values_in rest f) x z)) ≡ (y, g i) ∷ values_in rest g
    go more true h =
        let same_number : i ≡ k = cc in
        ap (λ v. (y, v) ∷ values_in rest f) (sym is ∙ ap g (sym same_number)) ∙ ap (λ m. (y, g i) ∷ m) (values_but k rest f g (subst (λ q. Absent q (numbers_in rest)) same_number a.0) same)
    go more false h =
        ap (λ v. (y, v) ∷ update (values_in rest f) x z) (same i (λ e. found_other rest x k i h a.0 e)) ∙ ap (λ m. (y, g i) ∷ m) (more h)

value_there : (scope : Map ℕ) (f : ℕ → ℤ) (x : List ℕ) → is_some (look_up (values_in scope f) x) ≡ is_some (look_up scope x)
value_there [] f x = refl
value_there ((y, k) ∷ rest) f x = go (value_there rest f x) (bytes_eq y x)
  where
    go : is_some (look_up (values_in rest f) x) ≡ is_some (look_up rest x) → (b : Bool) → is_some (if b then Some (f k) else look_up (values_in rest f) x) ≡ is_some (if b then Some k else look_up rest x)
    go more true = refl
    go more false = more

not_in : (k : ℕ) (xs ys : List ℕ) → Apart (xs ++ ys) → (Absent k ys → ⊥) → Absent k xs
not_in k [] ys a h = tt
not_in k (x ∷ xs) ys a h = ((λ e. h (subst (λ q. Absent q ys) e (absent_second x xs ys a.0))), not_in k xs ys a.1 h)

there : (scopes : Scopes) (x : List ℕ) (k : ℕ) → private_word scopes x ≡ Some k → Absent k (numbers_of scopes) → ⊥
there [] x k h a = absurd cc
there (scope ∷ outer) x k h a = go (λ h'. there outer x k h' (absent_second k (numbers_in scope) (numbers_of outer) a)) (look_up scope x) refl h
  where
    go : (private_word outer x ≡ Some k → ⊥) → (o : Option ℕ) → look_up scope x ≡ o → first_of o (private_word outer x) ≡ Some k → ⊥
    go more (Some j) e h = let same : j ≡ k = cc in found_other scope x k k (e ∙ ap Some same) (absent_first k (numbers_in scope) (numbers_of outer) a) refl
    go more None e h = more h

-- what is found in a scope is in no outer one
absent_outer : (scope : Map ℕ) (ys : List ℕ) (x : List ℕ) (k : ℕ) → look_up scope x ≡ Some k → Apart (numbers_in scope ++ ys) → Absent k ys
absent_outer [] ys x k h a = absurd cc
absent_outer ((y, i) ∷ rest) ys x k h a = go (λ h'. absent_outer rest ys x k h' a.1) (bytes_eq y x) h
  where
    go : (look_up rest x ≡ Some k → Absent k ys) → (b : Bool) → (if b then Some i else look_up rest x) ≡ Some k → Absent k ys
    go more true h = let same : i ≡ k = cc in subst (λ q. Absent q ys) same (absent_second i (numbers_in rest) ys a.0)
    go more false h = more h

pub number_below : (n : ℕ) (scopes : Scopes) (x : List ℕ) (k : ℕ) → private_word scopes x ≡ Some k → Below n (numbers_of scopes) → k < n
number_below n scopes x k h b = ⊎_elim (λ lt. lt) (λ le. absurd (there scopes x k h (far n (numbers_of scopes) k le b))) (cases_lt k n)
  where
    far : (n : ℕ) (ks : List ℕ) (k : ℕ) → n ≤ k → Below n ks → Absent k ks
    far n [] k le b = tt
    far n (j ∷ ks) k le b = let lt = b.0 in ((λ e. omega arith), far n ks k le b.1)

-- a local gets another value
pub set_is : (scopes : Scopes) (x : List ℕ) (k : ℕ) (f g : ℕ → ℤ) (z : ℤ) → private_word scopes x ≡ Some k → Apart (numbers_of scopes) → g k ≡ z → ((j : ℕ) → (j ≡ k → ⊥) → f j ≡ g j)
    → set_local (env_of scopes f) x z ≡ env_of scopes g
set_is [] x k f g z h a is same = absurd cc
set_is (scope ∷ outer) x k f g z h a is same =
    ap (λ b. if b then (update (values_in scope f) x z ∷ env_of outer f) else (values_in scope f ∷ set_local (env_of outer f) x z)) (value_there scope f x)
    ∙ go (λ h'. set_is outer x k f g z h' (apart_second (numbers_in scope) (numbers_of outer) a) is same) (look_up scope x) refl h
  where
    go : (private_word outer x ≡ Some k → set_local (env_of outer f) x z ≡ env_of outer g) → (o : Option ℕ) → look_up scope x ≡ o → first_of o (private_word outer x) ≡ Some k
        → (if is_some o then (update (values_in scope f) x z ∷ env_of outer f) else (values_in scope f ∷ set_local (env_of outer f) x z)) ≡ values_in scope g ∷ env_of outer g
    go more (Some j) e h =
        let same_number : j ≡ k = cc in
        let found : look_up scope x ≡ Some k = e ∙ ap Some same_number in
        ap (λ m. m ∷ env_of outer f) (update_is scope x k f g z found (apart_first (numbers_in scope) (numbers_of outer) a) is same)
        ∙ ap (λ env. values_in scope g ∷ env) (env_but k outer f g (absent_outer scope (numbers_of outer) x k found a) same)
    go more None e h =
        ap (λ m. m ∷ set_local (env_of outer f) x z) (values_but k scope f g (not_in k (numbers_in scope) (numbers_of outer) a (there outer x k h)) same)
        ∙ ap (λ env. values_in scope g ∷ env) (more h)

-- a new local
pub declare_is : (scope : Map ℕ) (outer : Scopes) (x : List ℕ) (n : ℕ) (f g : ℕ → ℤ) (z : ℤ) → Below n (numbers_of (scope ∷ outer)) → g n ≡ z → ((j : ℕ) → (j ≡ n → ⊥) → f j ≡ g j)
    → declare (env_of (scope ∷ outer) f) x z ≡ env_of (with_word (scope ∷ outer) x n) g
declare_is scope outer x n f g z below is same =
    let rest : env_of (scope ∷ outer) f ≡ env_of (scope ∷ outer) g = env_but n (scope ∷ outer) f g (absent_next n (numbers_of (scope ∷ outer)) below) same in
    ap (λ env. declare env x z) rest ∙ ap (λ v. ((x, v) ∷ values_in scope g) ∷ env_of outer g) (sym is)
