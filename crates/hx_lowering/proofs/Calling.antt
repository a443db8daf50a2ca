-- What a call's word does where its arguments are on top.
use Rattle.std.proofs.Common.{◌≡◌, ℕ, ◌+◌, List, [], ◌∷◌, length, Some, ℤ}
use Rattle.std.specs.Prelude.{slice_get}
use Rattle.hx_tree.specs.declared.tree.Returns.{Returns}
use Rattle.hx_tree.specs.Tree.{Program, Name}
use Rattle.hx_tree.specs.World.{World, look_up}
use Rattle.hx_tree.specs.Value.{Calling}
use Rattle.hx_tree.specs.Accepted.{FunctionKind, kinds_of}
use Rattle.hx_resolved.specs.Symbols.{symbols_of}
use Rattle.hx_resolved.specs.Resolve.{function_at}
use Rattle.hx_code.specs.declared.word.Word.TheVariants.{Call}
use Rattle.hx_code.specs.Code.{CodeView}
use Rattle.hx_code.specs.Machine.{Machine}
use Rattle.hx_lowering.proofs.Follow.{Follows}
use Rattle.hx_lowering.proofs.Setting.{Ground}
use Rattle.hx_lowering.proofs.At.{At}

-- values on top of others, the last topmost
abbrev pub onto : List ℤ → List ℤ → List ℤ
onto [] os = os
onto (v ∷ vs) os = onto vs (v ∷ os)

-- a call's word takes the arguments and leaves the value
abbrev pub CallsFollow : Program → CodeView → Ground → Calling → ℕ → Type 0
CallsFollow p code K call n =
    (f : Name) (r : Returns) (vs : List ℤ) → look_up (kinds_of p) f.text ≡ Some (FunctionKind r (length vs))
    → (place : ℕ) (ps os cells : List ℤ) (w : World) (m : Machine) → At p code K place ps (onto vs os) cells w m
    → slice_get code.words place ≡ Some (Call (function_at f (symbols_of p)) f.pos)
    → Follows code n m (call f vs w) (λ v w' m'. At p code K (place + 1) ps (v ∷ os) cells w' m')
