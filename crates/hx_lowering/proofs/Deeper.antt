-- A call of a function: one call deeper, or too deep.
use Rattle.std.proofs.Common.{◌≡◌, ℕ, suc, ◌+◌, true, false, ◌∷◌, ◌++◌, length, Some, None, refl, sym, ap, subst, ◌∙◌, arith}
use Rattle.std.specs.Prelude.{nat_le, slice_get}
use Rattle.hx_tree.specs.declared.token.Pos.{Pos}
use Rattle.hx_tree.specs.declared.outcome.FaultKind.TheVariants.{CallTooDeep}
use Rattle.hx_tree.specs.declared.outcome.End.TheVariants as end
use Rattle.hx_tree.specs.declared.limits.TheConstants.{CALL_LIMIT}
use Rattle.hx_code.specs.declared.word.Ask.TheVariants as ask
use Rattle.hx_code.specs.Code.{CodeView, FuncView}
use Rattle.hx_code.specs.Call.{CallView, Asks, wants_at, fault_at}
use Rattle.hx_code.specs.Local.{LocalView, LocalAsks, called, callee, without_arguments, opened, with_calls}
use Rattle.hx_code.specs.Region.{region_want}
use Rattle.hx_code.specs.Machine.{machine_step, does_want}
use Rattle.hx_lowering.proofs.Setting.{Memory, Ended, opened_so, Ground, Outside, Inside, setting_of, is_active, at_outside, at_inside, outside_does, inside_does, outside_ended, inside_ended, iteration_local, at_iteration, then_so, chosen, passed}

-- the depth of a call
abbrev pub depth_of : Ground → ℕ
depth_of (Outside rest) = 0 + suc (length rest)
depth_of (Inside o rest) = (opened_so o).below + suc (length rest)

-- a call above this one
abbrev pub deeper : Ground → CallView → Ground
deeper (Outside rest) c = Outside (c ∷ rest)
deeper (Inside o rest) c = Inside o (c ∷ rest)

pub deeper_active : (K : Ground) (c : CallView) → is_active (deeper K c) ≡ is_active K
deeper_active (Outside rest) c = refl
deeper_active (Inside o rest) c = refl

pub deeper_depth : (K : Ground) (c : CallView) → depth_of (deeper K c) ≡ depth_of K + 1
deeper_depth (Outside rest) c = omega arith
deeper_depth (Inside o rest) c = omega arith

abbrev local_of : Ground → CallView → LocalView
local_of (Outside rest) d = record { below = 0; region = None; calls = d ∷ rest }
local_of (Inside o rest) d = iteration_local o rest d

pub calls_in : (code : CodeView) (K : Ground) (c d : CallView) (m : Memory) (f : ℕ) (at : Pos) (g : FuncView) → wants_at code c ≡ Asks (ask.Calls f at) d → slice_get code.functions f ≡ Some g
    → nat_le CALL_LIMIT (depth_of K) ≡ false → machine_step code ((setting_of code K).here c m) ≡ (setting_of code (deeper K (without_arguments g d))).here (callee g d) m
calls_in code (Outside rest) c d m f at g e has few =
    outside_does code rest c d m _ e
    ∙ ap (λ o. does_want code (called o at (local_of (Outside rest) d)) (at_outside rest c m)) has
    ∙ ap (λ w. does_want code w (at_outside rest c m)) (passed _ (LocalAsks (ask.Faults (fault_at CallTooDeep at)) (local_of (Outside rest) d)) (LocalAsks ask.Goes (with_calls (local_of (Outside rest) d) (opened g (d ∷ rest)))) few)
calls_in code (Inside o rest) c d m f at g e has few =
    inside_does code o rest c d m _ e
    ∙ ap (λ x. then_so code o (region_want code (called x at (local_of (Inside o rest) d)) (at_iteration o rest c m)) (at_inside o rest c m)) has
    ∙ ap (λ w. then_so code o (region_want code w (at_iteration o rest c m)) (at_inside o rest c m)) (passed _ (LocalAsks (ask.Faults (fault_at CallTooDeep at)) (local_of (Inside o rest) d)) (LocalAsks ask.Goes (with_calls (local_of (Inside o rest) d) (opened g (d ∷ rest)))) few)

pub calls_deep : (code : CodeView) (K : Ground) (c d : CallView) (m : Memory) (f : ℕ) (at : Pos) (g : FuncView) → wants_at code c ≡ Asks (ask.Calls f at) d → slice_get code.functions f ≡ Some g
    → nat_le CALL_LIMIT (depth_of K) ≡ true
    → Ended code (machine_step code ((setting_of code K).here c m)) (end.Fault (fault_at CallTooDeep at)) m.store ((setting_of code K).before ++ m.text) ((setting_of code K).turned + m.turns)
calls_deep code (Outside rest) c d m f at g e has many =
    subst (λ x. Ended code x (end.Fault (fault_at CallTooDeep at)) m.store m.text (0 + m.turns))
    (sym (outside_does code rest c d m _ e
    ∙ ap (λ o. does_want code (called o at (local_of (Outside rest) d)) (at_outside rest c m)) has
    ∙ ap (λ w. does_want code w (at_outside rest c m)) (chosen _ (LocalAsks (ask.Faults (fault_at CallTooDeep at)) (local_of (Outside rest) d)) (LocalAsks ask.Goes (with_calls (local_of (Outside rest) d) (opened g (d ∷ rest)))) many)))
    (outside_ended code rest d m _)
calls_deep code (Inside o rest) c d m f at g e has many =
    subst (λ x. Ended code x (end.Fault (fault_at CallTooDeep at)) m.store (o.text ++ m.text) (o.turns + m.turns))
    (sym (inside_does code o rest c d m _ e
    ∙ ap (λ x. then_so code o (region_want code (called x at (local_of (Inside o rest) d)) (at_iteration o rest c m)) (at_inside o rest c m)) has
    ∙ ap (λ w. then_so code o (region_want code w (at_iteration o rest c m)) (at_inside o rest c m)) (chosen _ (LocalAsks (ask.Faults (fault_at CallTooDeep at)) (local_of (Inside o rest) d)) (LocalAsks ask.Goes (with_calls (local_of (Inside o rest) d) (opened g (d ∷ rest)))) many)))
    (inside_ended code o m _)
