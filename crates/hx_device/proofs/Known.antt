-- Known bytes, part after part.
use Rattle.std.proofs.lemmas.List.{take_all, length-drop}
use Rattle.std.proofs.Common.{length, ◌-◌, arith, ◌≡◌, ℕ, ◌+◌, List, ◌++◌, take, drop, Option, None, Some, sym, append_assoc, refl}
use Rattle.std.proofs.Math.Seq.{take-add}
use Rattle.std.specs.Io.KnownBytes.{Appends, Consumes, Keeps}

pub Appends-more : (a b c : Option (List ℕ)) (xs : List ℕ) (i n : ℕ) → Appends a b (take i xs) → Appends b c (take n (take (length xs - i) (drop i xs))) → Appends a c (take (i + n) xs)
Appends-more None b c xs i n h k = tt
Appends-more (Some x) None c xs i n h k = absurd h
Appends-more (Some x) (Some y) None xs i n h k = absurd k
Appends-more (Some x) (Some y) (Some z) xs i n h k =
    let whole : take (length xs - i) (drop i xs) ≡ drop i xs = take_all _ _ (omega (arith, length-drop i xs)) in
    simp (take-add, k, h, whole, append_assoc) refl

pub Consumes-more : (a b c : Option (List ℕ)) (xs ys : List ℕ) → Consumes a b xs → Consumes b c ys → Consumes a c (xs ++ ys)
Consumes-more None b c xs ys h k = tt
Consumes-more (Some x) None c xs ys h k = absurd h
Consumes-more (Some x) (Some y) None xs ys h k = absurd k
Consumes-more (Some x) (Some y) (Some z) xs ys h k = simp (h, k, append_assoc) refl

-- what is kept, and then kept, read or written

pub Keeps-keeps : (a b c : Option (List ℕ)) → Keeps a b → Keeps b c → Keeps a c
Keeps-keeps None b c h k = tt
Keeps-keeps (Some x) None c h k = absurd h
Keeps-keeps (Some x) (Some y) None h k = absurd k
Keeps-keeps (Some x) (Some y) (Some z) h k = simp (k, h) refl

pub Keeps-consumes : (a b c : Option (List ℕ)) (xs : List ℕ) → Keeps a b → Consumes b c xs → Consumes a c xs
Keeps-consumes None b c xs h k = tt
Keeps-consumes (Some x) None c xs h k = absurd h
Keeps-consumes (Some x) (Some y) None xs h k = absurd k
Keeps-consumes (Some x) (Some y) (Some z) xs h k = simp (sym h, k) refl

pub Keeps-appends : (a b c : Option (List ℕ)) (xs : List ℕ) → Keeps a b → Appends b c xs → Appends a c xs
Keeps-appends None b c xs h k = tt
Keeps-appends (Some x) None c xs h k = absurd h
Keeps-appends (Some x) (Some y) None xs h k = absurd k
Keeps-appends (Some x) (Some y) (Some z) xs h k = simp (k, h) refl
