-- Marks are views.
use Rattle.std.proofs.Common.{◌≡◌, ℕ, ℤ, List, [], ◌∷◌, ◌++◌, Option, Some, None, refl, sym, ◌∙◌}
use Rattle.hx_marks.specs.Table.{look}
use Rattle.hx_buffer.specs.Overlay.{or_else}
use Rattle.hx_speculation.specs.Iteration.{Store, overlay}
use Rattle.hx_speculation.specs.Slots.{Slot}
use Rattle.hx_speculation.specs.Sound.{MarksAreSeen}
use Rattle.hx_speculation.specs.View.{or_first, nearest, view}

or_twice : (m o : Option ℤ) (d : ℤ) → or_else m (or_else o d) ≡ or_else (or_first m o) d
or_twice None o d = refl
or_twice (Some v) o d = refl

pub marks_are_views : {σ : Type 0} (s : Store) (before : List (Slot σ)) (x : Slot σ) (later : List (Slot σ)) → MarksAreSeen s (before ++ x ∷ later) → (a : ℕ) (v : ℤ) → look x.marks a ≡ Some v → view s before a ≡ v
marks_are_views s [] x later h a v k = h.0 a v k
marks_are_views s (z ∷ before) x later h a v k =
    sym (or_twice (nearest before a) (look z.buffer a) (s a)) ∙ marks_are_views (overlay z.buffer s) before x later h.1 a v k
