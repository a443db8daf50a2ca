-- What a true frame asks for is a word of the store.
use Rattle.std.proofs.Common.{ℕ, ◌<◌, Option, subst}
use Rattle.hx_code.specs.declared.word.Ask.TheVariants.{Goes, Loads, Stores, Prints, Faults, Calls, Enters, Turns, Leaves, Returns}
use Rattle.hx_code.specs.Code.{CodeView, store_words}
use Rattle.hx_code.specs.Local.{LocalView, LocalWant, LocalAsks, LocalStuck, asks_of}
use Rattle.hx_code.specs.Valid.{IsValid}
use Rattle.hx_code.specs.Fits.{FitsLocal}
use Rattle.hx_speculation.specs.Iteration.{Ask}
use Rattle.hx_speculation.specs.Frame.{Frame, Need, Nothing, ForLoad, ForStore, ForHead, Held, IsNeeded}
use Rattle.hx_frame.specs.Automaton.{ask_in, asked_by}
use Rattle.hx_frame.specs.declared.action.Action.{Action}
use Rattle.hx_frame.specs.Frame.{FrameView, stop_needed, stop_of, action_of}
use Rattle.hx_regions.proofs.Words.{IsWell, word_well}
use Rattle.hx_pool.specs.Setups.{StopFits}

-- a word that is asked for is one of the store
abbrev AsksWithin : CodeView → Ask LocalView → Type 0
AsksWithin code (Ask.Goes q) = Unit {0}
AsksWithin code (Ask.Loads a q) = a < store_words code
AsksWithin code (Ask.Stores a v q) = a < store_words code
AsksWithin code (Ask.Prints bytes q full) = Unit {0}
AsksWithin code Ask.TurnEnds = Unit {0}
AsksWithin code Ask.Leaves = Unit {0}
AsksWithin code (Ask.Returns v) = Unit {0}
AsksWithin code (Ask.Faults fault) = Unit {0}

want_within : (code : CodeView) (r : Option ℕ) (l : LocalView) (w : LocalWant) → IsWell code r w → AsksWithin code (asked_by l w)
want_within code r l LocalStuck h = absurd h
want_within code r l (LocalAsks Goes m) h = tt
want_within code r l (LocalAsks (Loads a) m) h = h.0.0
want_within code r l (LocalAsks (Stores a v) m) h = h.0.0
want_within code r l (LocalAsks (Prints output at) m) h = tt
want_within code r l (LocalAsks (Faults fault) m) h = tt
want_within code r l (LocalAsks (Calls f at) m) h = tt
want_within code r l (LocalAsks (Enters q t) m) h = tt
want_within code r l (LocalAsks Turns m) h = tt
want_within code r l (LocalAsks Leaves m) h = tt
want_within code r l (LocalAsks (Returns v) m) h = tt

needed_within : (code : CodeView) (f : Frame LocalView) (action : Action) (need : Need) → AsksWithin code (ask_in code f.here) → IsNeeded (ask_in code) f need → StopFits code (stop_needed action need)
needed_within code f action Nothing h n = tt
needed_within code f action (ForLoad a) h n = subst (AsksWithin code) n.1 h
needed_within code f action (ForStore a v) h n = subst (AsksWithin code) n.1 h
needed_within code f action ForHead h n = tt
needed_within code f action Held h n = tt

-- what a true frame of valid code stops for
pub stop_fits : (f : FrameView) → IsValid f.code → FitsLocal f.code f.frame.here → IsNeeded (ask_in f.code) f.frame f.frame.need → StopFits f.code (stop_of f)
stop_fits f valid fits needed =
    needed_within f.code f.frame (action_of f) f.frame.need (want_within f.code f.frame.here.region f.frame.here (asks_of f.code f.frame.here) (word_well f.code valid f.frame.here fits)) needed
