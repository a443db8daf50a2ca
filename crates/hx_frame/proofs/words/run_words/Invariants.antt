use Rattle.std.proofs.Common.{◌≡◌, ◌-◌, ◌≤◌}
use Rattle.hx_code.specs.Local.{LocalView}
use Rattle.hx_code.specs.Fits.{FitsLocal}
use Rattle.hx_speculation.specs.Frame.{Frame, words, goes_to}
use Rattle.hx_frame.specs.Automaton.{ask_in}
use Rattle.hx_frame.proofs.words.run_words.Given as goal

abbrev pub invariant-loop-words : goal.invariant-loop-words
invariant-loop-words l = record {
  few : l.words ≤ l.limit;
  ran : (f : Frame LocalView) → f.marks ≡ l.marks.entries → f.writes ≡ l.writes.entries → words (ask_in l.code) l.limit (goes_to l.fn.here f) ≡ words (ask_in l.code) (l.limit - l.words) (goes_to l.here f);
  fits : FitsLocal l.code l.here;
}

abbrev pub decreases-loop-words : goal.decreases-loop-words
decreases-loop-words l = l.limit - l.words
