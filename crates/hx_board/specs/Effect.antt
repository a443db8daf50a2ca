-- What the head does with what it waits with, and when it may.
use Rattle.std.specs.Prelude.{◌≡◌, ℕ, ◌+◌, List, [], ◌∷◌, length, Option, Some, None, Bool, false, ◌==◌, nat_le, if◌then◌else◌}
use Rattle.hx_tree.specs.declared.outcome.FaultKind.TheVariants.{TextFull}
use Rattle.hx_tree.specs.declared.limits.TheConstants.{TEXT_LIMIT}
use Rattle.hx_code.specs.declared.word.Ask.{Ask}
use Rattle.hx_code.specs.declared.word.Ask.TheVariants.{Goes, Loads, Stores, Prints, Faults, Calls, Enters, Turns, Leaves, Returns}
use Rattle.hx_code.specs.declared.word.Exit.TheVariants.{Left, Returned, Faulted}
use Rattle.hx_code.specs.Call.{fault_at, bytes_of}
use Rattle.hx_code.specs.Local.{LocalView}
use Rattle.hx_frame.specs.declared.frame.Tag.{Tag}
use Rattle.hx_speculation.specs.Frame.{Frame}
use Rattle.hx_speculation.specs.Slots.{Slot}
use Rattle.hx_board.specs.declared.effect.Effect.{Effect}
use Rattle.hx_board.specs.declared.effect.Effect.TheVariants.{GoesOn, Passes, Ends}

-- so many bytes more pass no limit
abbrev pub has_room : ℕ → ℕ → List ℕ → Bool
has_room before n bytes = nat_le (before + n + length bytes) TEXT_LIMIT

-- behind n bytes of its own text
abbrev pub effect_of : ℕ → ℕ → Ask → Effect
effect_of before n (Prints output at) = if has_room before n (bytes_of output) then GoesOn else Ends (Faulted (fault_at TextFull at))
effect_of before n Turns = Passes
effect_of before n Leaves = Ends Left
effect_of before n (Enters r t) = Ends Left
effect_of before n (Returns v) = Ends (Returned v)
effect_of before n (Faults fault) = Ends (Faulted fault)
effect_of before n Goes = GoesOn
effect_of before n (Loads a) = GoesOn
effect_of before n (Stores a v) = GoesOn
effect_of before n (Calls f at) = GoesOn

abbrev pub printed_by : ℕ → ℕ → Ask → List ℕ
printed_by before n (Prints output at) = if has_room before n (bytes_of output) then bytes_of output else []
printed_by before n _ = []

-- the worker's iteration has this attempt
abbrev pub has_attempt : ℕ → Option (ℕ × Slot LocalView) → Bool
has_attempt attempt None = false
has_attempt attempt (Some p) = p.1.attempt == attempt

-- the token and the frame are those of a slot, which is iteration j
pub record IsOfSlot (j : ℕ) (t : Tag) (f : Frame LocalView) (x : Slot LocalView) : Type 0 where
  pub worker : t.worker ≡ x.worker
  pub iteration : t.iteration ≡ j
  pub attempt : t.attempt ≡ x.attempt
  pub frame_worker : f.worker ≡ x.worker
  pub frame_iteration : f.iteration ≡ j
  pub frame_attempt : f.attempt ≡ x.attempt
  pub start : f.start ≡ x.start
  pub marks : f.marks ≡ x.marks
  pub writes : f.writes ≡ x.buffer

-- .. of the first of these
abbrev pub IsDue : ℕ → Tag → Frame LocalView → List (Slot LocalView) → Type 0
IsDue j t f [] = ⊥
IsDue j t f (x ∷ later) = IsOfSlot j t f x
