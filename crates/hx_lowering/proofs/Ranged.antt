-- Machines whose numbers are all of 32 bits: each word keeps them so.
use Rattle.std.proofs.Common.{ℕ, zero, suc, Bool, true, false, List, [], ◌∷◌, ◌++◌, ◌≤◌, ◌^◌, take, drop, replicate, Option, Some, None, ℤ, pos, w32, FitsSigned, arith, if◌then◌else◌}
use Rattle.std.specs.Prelude.{int_rem, slice_set, slice_index_or}
use Rattle.std.specs.Int.{cast_unsigned}
use Rattle.std.specs.Int.Signed.{mag_rem, mag_shr}
use Rattle.std.proofs.Math.Facts.{sfits_to_z, Fits-of_z, Fits-and, Fits-or, Fits-xor, Fits-of_lt}
use Rattle.std.proofs.lemmas.Int.{SFits-int_wrap}
use Rattle.hx_tree.specs.declared.tree.UnaryOp.{UnaryOp}
use Rattle.hx_tree.specs.declared.tree.UnaryOp.TheVariants.{Negate, Invert, Not}
use Rattle.hx_tree.specs.declared.tree.Operator.{Operator}
use Rattle.hx_tree.specs.declared.tree.Operator.TheVariants.{Mul, Div, Rem, Add, Sub, ShiftLeft, ShiftRight, Less, LessEqual, Greater, GreaterEqual, Equal, NotEqual, BitAnd, BitXor, BitOr}
use Rattle.hx_tree.specs.Numbers.{wrap, truth, is_zero, unless_zero, shift_amount, unary_value, operator_value}
use Rattle.hx_code.specs.declared.word.Exit.{Exit}
use Rattle.hx_code.specs.declared.word.Exit.TheVariants.{Left, Returned, Faulted}
use Rattle.hx_code.specs.Call.{CallView}
use Rattle.hx_code.specs.Region.{RegionState}
use Rattle.hx_code.specs.Machine.{Machine}

-- ---- numbers of 32 bits

abbrev pub IsNumber : ℤ → Type 0
IsNumber z = FitsSigned w32 z

abbrev pub AreNumbers : List ℤ → Type 0
AreNumbers [] = Unit {0}
AreNumbers (x ∷ xs) = IsNumber x × AreNumbers xs

pub small_number : (n : ℕ) → n ≤ 2147483647 → IsNumber (pos n)
small_number n le = record { sfits = omega arith }

wrapped : (z : ℤ) → IsNumber (wrap z)
wrapped z = SFits-int_wrap w32 z

truths : (b : Bool) → IsNumber (truth b)
truths true = small_number 1 (omega arith)
truths false = small_number 0 (omega arith)

pub unary_number : (o : UnaryOp) (x : ℤ) → IsNumber x → IsNumber (unary_value o x)
unary_number Negate x h = wrapped _
unary_number Invert x h = sfits_to_z (Fits-of_lt (omega arith))
unary_number Not x h = truths (is_zero x)

-- a value of an option is a number
abbrev pub IfNumber : Option ℤ → Type 0
IfNumber None = Unit {0}
IfNumber (Some z) = IsNumber z

unless_number : (y z : ℤ) → IsNumber z → IfNumber (unless_zero y z)
unless_number y z h = go (is_zero y)
  where
    go : (b : Bool) → IfNumber (if b then None else Some z)
    go true = tt
    go false = h

pub operator_number : (o : Operator) (x y : ℤ) → IsNumber x → IsNumber y → IfNumber (operator_value o x y)
operator_number Mul x y f g = wrapped _
operator_number Div x y f g = unless_number y _ (wrapped _)
operator_number Rem x y f g = unless_number y (int_rem x y) (record { sfits = omega (arith, mag_rem x y, f.sfits) })
operator_number Add x y f g = wrapped _
operator_number Sub x y f g = wrapped _
operator_number ShiftLeft x y f g = wrapped _
operator_number ShiftRight x y f g = record { sfits = omega (arith, mag_shr x (2 ^ shift_amount y), f.sfits) }
operator_number Less x y f g = truths _
operator_number LessEqual x y f g = truths _
operator_number Greater x y f g = truths _
operator_number GreaterEqual x y f g = truths _
operator_number Equal x y f g = truths _
operator_number NotEqual x y f g = truths _
operator_number BitAnd x y f g = sfits_to_z (Fits-and (cast_unsigned w32 y) (Fits-of_z f))
operator_number BitXor x y f g = sfits_to_z (Fits-xor (Fits-of_z f) (Fits-of_z g))
operator_number BitOr x y f g = sfits_to_z (Fits-or (Fits-of_z f) (Fits-of_z g))

-- ---- lists of numbers

pub number_at : (xs : List ℤ) (i : ℕ) → AreNumbers xs → IsNumber (slice_index_or xs i (pos 0))
number_at [] i h = small_number 0 (omega arith)
number_at (x ∷ xs) zero h = h.0
number_at (x ∷ xs) (suc i) h = number_at xs i h.1

pub numbers_set : (xs : List ℤ) (i : ℕ) (z : ℤ) → AreNumbers xs → IsNumber z → AreNumbers (slice_set xs i z)
numbers_set [] i z h n = tt
numbers_set (x ∷ xs) zero z h n = (n, h.1)
numbers_set (x ∷ xs) (suc i) z h n = (h.0, numbers_set xs i z h.1 n)

pub numbers_drop : (n : ℕ) (xs : List ℤ) → AreNumbers xs → AreNumbers (drop n xs)
numbers_drop zero xs h = h
numbers_drop (suc n) [] h = tt
numbers_drop (suc n) (x ∷ xs) h = numbers_drop n xs h.1

pub numbers_take : (n : ℕ) (xs : List ℤ) → AreNumbers xs → AreNumbers (take n xs)
numbers_take zero xs h = tt
numbers_take (suc n) [] h = tt
numbers_take (suc n) (x ∷ xs) h = (h.0, numbers_take n xs h.1)

pub numbers_and : (xs ys : List ℤ) → AreNumbers xs → AreNumbers ys → AreNumbers (xs ++ ys)
numbers_and [] ys h k = k
numbers_and (x ∷ xs) ys h k = (h.0, numbers_and xs ys h.1 k)

pub zeros : (n : ℕ) → AreNumbers (replicate n (pos 0))
zeros zero = tt
zeros (suc n) = (small_number 0 (omega arith), zeros n)

-- ---- machines

abbrev pub InCall : CallView → Type 0
InCall c = AreNumbers c.privates × AreNumbers c.operands

abbrev pub InCalls : List CallView → Type 0
InCalls [] = Unit {0}
InCalls (c ∷ cs) = InCall c × InCalls cs

abbrev pub InExit : Option Exit → Type 0
InExit None = Unit {0}
InExit (Some Left) = Unit {0}
InExit (Some (Returned v)) = IsNumber v
InExit (Some (Faulted f)) = Unit {0}

abbrev pub InRegion : RegionState → Type 0
InRegion z = AreNumbers z.store × InCalls z.local.calls × AreNumbers z.opened.words × InExit z.exit

abbrev pub WithinIt : Option RegionState → Type 0
WithinIt None = Unit {0}
WithinIt (Some z) = InRegion z

pub record HasNumbers (m : Machine) : Type 0 where
  pub store : AreNumbers m.store
  pub calls : InCalls m.local.calls
  pub within : WithinIt m.within
