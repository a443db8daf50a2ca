-- Worked rows: charts and tables of a few events.
use Rattle.std.specs.Prelude.{◌≡◌, ℕ, pos, List, [], ◌∷◌, ◌++◌, codes, refl}
use Rattle.std.specs.Fmt.{digits}
use Rattle.hx_trace.specs.declared.event.Event.{Event}
use Rattle.hx_trace.specs.declared.event.Deed.{Deed}
use Rattle.hx_trace.specs.declared.event.Deed.TheVariants.{Starts, Loads, Stores, FindsMarksFull, FindsBufferFull, ComputesOn, GetsHead, Waits, GoesOn, Passes, Ends, IsSquashed, IsRefused, FindsEnd}
use Rattle.hx_trace.specs.declared.event.Source.TheVariants as source
use Rattle.hx_trace.specs.declared.trace.Trace.{Trace}
use Rattle.hx_timeline.specs.declared.chart.Fate.{Fate}
use Rattle.hx_timeline.specs.declared.chart.Fate.TheVariants.{Runs, Committed, Squashed, Dropped}
use Rattle.hx_timeline.specs.declared.chart.Attempt.{Attempt}
use Rattle.hx_timeline.specs.Chart.{attempts_of, violations_of, forwards_of}
use Rattle.hx_timeline.specs.Columns.{table_of}
use Rattle.hx_timeline.specs.Drawing.{box_of, arrow_of}

abbrev told : (worker iteration attempt : ℕ) → Deed → Event
told w j k deed = record { worker = w; iteration = j; attempt = k; deed = deed }

abbrev tried : (worker iteration attempt first last : ℕ) → Fate → Attempt
tried w j k first last fate = record { worker = w; iteration = j; attempt = k; first = first; last = last; fate = fate }

-- worker 1 reads too early, and begins again; worker 2 stands behind it, and worker 3 has not begun
abbrev restarts : List Event
restarts = told 0 0 1 Starts ∷ told 1 1 1 Starts ∷ told 2 2 1 Starts ∷ told 1 1 1 (Loads 0 (pos 0) source.Store) ∷ told 0 0 1 (Stores 0 (pos 1) 2 2) ∷ told 1 1 1 IsSquashed ∷ told 1 1 2 Starts ∷ told 0 0 1 GetsHead ∷ told 0 0 1 Passes ∷ []

restarted_attempts : attempts_of restarts ≡ tried 0 0 1 0 8 Committed ∷ tried 1 1 1 1 4 Squashed ∷ tried 2 2 1 2 4 Squashed ∷ tried 1 1 2 6 8 Runs ∷ []
restarted_attempts = refl

restarted_lines : violations_of restarts ≡ record { from = 0; from_row = 4; to = 1; to_row = 4 } ∷ record { from = 0; from_row = 4; to = 2; to_row = 4 } ∷ []
restarted_lines = refl

restarted_table : table_of [] [] restarts
    ≡ codes "      worker 0                    worker 1                    worker 2\n"
    ++ codes "1     iteration 0\n"
    ++ codes "2     |                           iteration 1\n"
    ++ codes "3     |                           |                           iteration 2\n"
    ++ codes "4     |                           loads word 0: 0             |\n"
    ++ codes "5     stores word 0: 1            x                           x\n"
    ++ codes "6     |                           squashed\n"
    ++ codes "7     |                           iteration 1, attempt 2\n"
    ++ codes "8     gets the head               |\n"
    ++ codes "9     commits                     |\n"
unfolding digits
restarted_table = refl

-- iteration 0 stores word 3 twice, and another word; another iteration stores word 3, and the value comes from the second store
abbrev forwarding : List Event
forwarding = told 0 0 1 Starts ∷ told 0 0 1 (Stores 3 (pos 1) 0 0) ∷ told 0 0 1 (Stores 3 (pos 2) 0 0) ∷ told 0 0 1 (Stores 4 (pos 9) 0 0) ∷ told 1 1 1 (Stores 3 (pos 7) 0 1)
    ∷ told 2 2 1 (Loads 3 (pos 2) (source.Iteration 0)) ∷ told 0 0 1 (Stores 3 (pos 5) 0 2) ∷ told 2 2 1 (Loads 3 (pos 2) source.Marks) ∷ told 2 2 1 (Loads 8 (pos 0) (source.Iteration 0)) ∷ []

forwarded_arrow : forwards_of forwarding ≡ record { from = 0; from_row = 2; to = 2; to_row = 5 } ∷ []
forwarded_arrow = refl

-- a region that ends drops what runs behind, however it ends
abbrev ending : Trace → List Event
ending t = told 0 0 1 Starts ∷ told 1 1 1 Starts ∷ told 0 0 1 (GoesOn 0 2) ∷ told 0 0 1 (GoesOn 2 2) ∷ told 0 0 1 (Ends t.state 1 1) ∷ told 1 1 1 FindsEnd ∷ told 2 0 0 FindsEnd ∷ []

ended_attempts : (t : Trace) → attempts_of (ending t) ≡ tried 0 0 1 0 4 Committed ∷ tried 1 1 1 1 4 Dropped ∷ []
ended_attempts t = refl

ended_table : (t : Trace) → table_of [] (codes "5\n") (ending t)
    ≡ codes "      worker 0                    worker 1                    worker 2\n"
    ++ codes "1     iteration 0\n"
    ++ codes "2     |                           iteration 1\n"
    ++ codes "3     commits, prints 5           |\n"
    ++ codes "4     commits so far              |\n"
    ++ codes "5     commits, loop over          x\n"
    ++ codes "6                                 loop over\n"
    ++ codes "7                                                             loop over\n"
unfolding digits
ended_table t = refl

-- a worker that is told so, or refused, ends its own attempt alone
abbrev alone : List Event
alone = told 0 5 1 Starts ∷ told 1 6 1 Starts ∷ told 0 5 1 IsRefused ∷ told 0 5 2 Starts ∷ told 0 5 2 IsSquashed ∷ told 0 5 3 Starts ∷ told 0 5 3 FindsEnd ∷ []

alone_attempts : attempts_of alone ≡ tried 0 5 1 0 2 Squashed ∷ tried 1 6 1 1 6 Runs ∷ tried 0 5 2 3 4 Squashed ∷ tried 0 5 3 5 6 Dropped ∷ []
alone_attempts = refl

-- what is wider than its lane has one blank behind it
abbrev waiting : List Event
waiting = told 1 0 1 Starts ∷ told 0 1 12345678901 Starts ∷ told 1 0 1 (FindsMarksFull 7) ∷ told 1 0 1 (FindsBufferFull 7 (pos 1)) ∷ told 1 0 1 ComputesOn ∷ told 1 0 1 Waits ∷ told 1 0 1 (Loads 7 (pos 4) (source.Iteration 3)) ∷ told 0 1 1 IsRefused ∷ []

waiting_table : table_of [] [] waiting
    ≡ codes "      worker 0                    worker 1\n"
    ++ codes "1                                 iteration 0\n"
    ++ codes "2     iteration 1, attempt 12345678901 |\n"
    ++ codes "3     |                           table full at word 7\n"
    ++ codes "4     |                           table full at word 7\n"
    ++ codes "5     |                           computes on\n"
    ++ codes "6     |                           not the head yet\n"
    ++ codes "7     |                           loads word 7: 4 < iteration 3\n"
    ++ codes "8     refused                     |\n"
unfolding digits
waiting_table = refl

-- a box over four rows of the second lane, and an arrow from the first lane to the third
squashed_box : box_of (tried 1 1 1 1 4 Squashed) ≡ codes "<rect rx=\"3\" x=\"272\" y=\"68\" width=\"188\" height=\"100\" fill=\"url(#squashed)\" stroke=\"black\" stroke-width=\"1.5\" stroke-dasharray=\"6 4\"/>\n"
unfolding digits
squashed_box = refl

forwarding_arrow : arrow_of (record { from = 0; from_row = 2; to = 2; to_row = 5 }) ≡ codes "<line stroke=\"black\" x1=\"248\" y1=\"105\" x2=\"484\" y2=\"183\" stroke-width=\"1.5\" marker-end=\"url(#tip)\"/>\n"
unfolding digits
forwarding_arrow = refl
