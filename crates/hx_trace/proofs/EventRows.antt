-- Worked events, computed, of a loop that counts a word to 2.
use Rattle.std.proofs.Common.{◌≡◌, ℕ, pos, [], ◌∷◌, refl}
use Rattle.hx_board.specs.declared.answers.State.TheVariants as state
use Rattle.hx_speculation.specs.Replay.{world_at}
use Rattle.hx_speculation.proofs.Rows.{zeros, course, counting}
use Rattle.hx_trace.specs.declared.event.Event.{Event}
use Rattle.hx_trace.specs.declared.event.Deed.{Deed}
use Rattle.hx_trace.specs.declared.event.Deed.TheVariants.{Starts, Loads, Stores, GetsHead, Waits, Passes, Ends, IsSquashed, FindsEnd}
use Rattle.hx_trace.specs.declared.event.Source.TheVariants as source
use Rattle.hx_trace.specs.Events.{events_of}

abbrev told : (worker iteration attempt : ℕ) → Deed → Event
told w j k deed = record { worker = w; iteration = j; attempt = k; deed = deed }

-- worker 1 reads too early, and begins again
violation : events_of (course counting 512 64) (0 ∷ 1 ∷ 0 ∷ 1 ∷ 0 ∷ 1 ∷ 1 ∷ 0 ∷ 0 ∷ 1 ∷ 1 ∷ 1 ∷ 1 ∷ 0 ∷ 0 ∷ 0 ∷ 0 ∷ 1 ∷ []) (world_at zeros)
    ≡ told 0 0 1 Starts ∷ told 1 1 1 Starts ∷ told 0 0 1 (Loads 0 (pos 0) source.Store) ∷ told 1 1 1 (Loads 0 (pos 0) source.Store)
    ∷ told 0 0 1 (Stores 0 (pos 1) 1 1) ∷ told 1 1 1 IsSquashed ∷ told 1 1 2 Starts ∷ told 0 0 1 GetsHead ∷ told 0 0 1 Passes
    ∷ told 1 1 2 (Loads 0 (pos 1) source.Store) ∷ told 1 1 2 (Stores 0 (pos 2) 0 1) ∷ told 1 1 2 GetsHead ∷ told 1 1 2 Passes
    ∷ told 0 2 1 Starts ∷ told 0 2 1 (Loads 0 (pos 2) source.Store) ∷ told 0 2 1 GetsHead ∷ told 0 2 1 (Ends state.Left 0 2) ∷ told 1 0 0 FindsEnd ∷ []
violation = refl

-- worker 1 reads what worker 0 has written and not committed, and isn't the head
forwarding : events_of (course counting 512 64) (0 ∷ 0 ∷ 0 ∷ 1 ∷ 1 ∷ 1 ∷ 1 ∷ []) (world_at zeros)
    ≡ told 0 0 1 Starts ∷ told 0 0 1 (Loads 0 (pos 0) source.Store) ∷ told 0 0 1 (Stores 0 (pos 1) 0 0) ∷ told 1 1 1 Starts
    ∷ told 1 1 1 (Loads 0 (pos 1) (source.Iteration 0)) ∷ told 1 1 1 (Stores 0 (pos 2) 0 1) ∷ told 1 1 1 Waits ∷ []
forwarding = refl
