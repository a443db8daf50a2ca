-- Worked schedules of small loops, computed. What a loop asks for is written as an automaton over numbers.
use Rattle.std.proofs.Common.{◌≡◌, ℕ, zero, suc, ℤ, pos, negsuc, ◌+◌, ◌-◌, ◌==◌, List, [], ◌∷◌, Option, Some, None, refl}
use Rattle.std.specs.Prelude.{if◌then◌else◌, nat_lt, ◌/◌, ◌%◌}
use Rattle.hx_tree.specs.declared.outcome.Counts.{Counts}
use Rattle.hx_tree.specs.declared.outcome.Fault.{Fault}
use Rattle.hx_tree.specs.declared.outcome.FaultKind.TheVariants.{TextFull}
use Rattle.hx_code.specs.declared.word.Exit.{Exit}
use Rattle.hx_code.specs.declared.word.Exit.TheVariants.{Left}
use Rattle.hx_speculation.specs.Iteration.{Store, Ask, Goes, Loads, Stores, Prints, TurnEnds, Leaves}
use Rattle.hx_speculation.specs.Replay.{Course, replayed, world_at}
use Rattle.hx_speculation.proofs.Stores.{eq_true, eq_same}

abbrev pub nat_of : ℤ → ℕ
nat_of (pos n) = n
nat_of (negsuc n) = 0

abbrev pub full : Fault
full = record { kind = TextFull; pos = record { line = 1; col = 1 } }

abbrev pub zeros : Store
zeros a = pos 0

-- iterations that all begin at state 0
abbrev pub course : (ℕ → Ask ℕ) → ℕ → ℕ → Course ℕ
course ask marks buffer = record {
  region = record { ask = ask; opening = λ j. 0; printed = 0; same = λ x y. x == y; same_holds = eq_true; same_itself = eq_same };
  capacities = record { marks = marks; buffer = buffer };
  limit = 20;
}

-- what is shown of a board: how it ended, its text, one word, and its counts but for the regions
pub record Shown : Type 0 where
  pub exit : Option Exit
  pub text : List ℕ
  pub word : ℤ
  pub counts : Counts

abbrev pub shows : {σ : Type 0} → Course σ → List ℕ → ℕ → Shown
shows c schedule a =
    let b = (replayed c schedule (world_at zeros)).board in
    record { exit = b.exit; text = b.text; word = b.store a; counts = b.counts }

abbrev pub counted : (turns repeats violations restarts holds : ℕ) → Counts
counted turns repeats violations restarts holds =
    record { regions = 1; turns = turns; repeats = repeats; violations = violations; restarts = restarts; holds = holds; abandons = 0; discarded = 0; spared = 0 }

-- while (c < 2) c = c + 1
abbrev pub counting : ℕ → Ask ℕ
counting q =
    if q == 0 then Loads 0 (λ v. 10 + nat_of v)
    else if q == 1 then Loads 0 (λ v. 101 + nat_of v)
    else if q == 2 then TurnEnds
    else if q == 3 then Leaves
    else if nat_lt q 100 then Goes (if nat_lt q 12 then 1 else 3)
    else Stores 0 (pos (q - 100)) 2

-- worker 0 writes what worker 1 has read, and worker 1 begins again
two_workers : shows (course counting 512 64) (0 ∷ 1 ∷ 0 ∷ 1 ∷ 0 ∷ 1 ∷ 1 ∷ 0 ∷ 0 ∷ 1 ∷ 1 ∷ 1 ∷ 1 ∷ 0 ∷ 0 ∷ 0 ∷ 0 ∷ []) 0
    ≡ record { exit = Some Left; text = []; word = pos 2; counts = counted 2 1 1 1 0 }
two_workers = refl

-- after the first five entries
violated : shows (course counting 512 64) (0 ∷ 1 ∷ 0 ∷ 1 ∷ 0 ∷ []) 0 ≡ record { exit = None; text = []; word = pos 0; counts = counted 0 0 1 1 0 }
violated = refl

-- iterations that begin at different states
abbrev from_each : Course ℕ → (ℕ → ℕ) → Course ℕ
from_each c opening = record c { region = record c.region { opening = opening } }

-- for (i = 0; i < 2; i++) { if (i == 0) d = 0; else print(d); }, where d is word 0, and i no word
abbrev pub printing : ℕ → Ask ℕ
printing q =
    if q == 0 then Stores 0 (pos 0) 2
    else if q == 1 then Loads 0 (λ v. 100 + nat_of v)
    else if q == 2 then TurnEnds
    else if q == 3 then Leaves
    else Prints ((q - 100) ∷ []) 2 full

abbrev pub printer : Course ℕ
printer = from_each (course printing 512 64) (λ j. if j == 0 then 0 else if j == 1 then 1 else 3)

-- worker 1 has read d when worker 0 writes what it has been
equal_store : shows printer (0 ∷ 1 ∷ 1 ∷ 0 ∷ 1 ∷ 0 ∷ 0 ∷ 1 ∷ 1 ∷ 1 ∷ 0 ∷ 0 ∷ 0 ∷ []) 0
    ≡ record { exit = Some Left; text = 0 ∷ []; word = pos 0; counts = record (counted 2 0 0 0 0) { spared = 1 } }
equal_store = refl

-- for (i = 0; i < 3; i++) { if (i < 2) d = i + 4; else print(d); }
abbrev covering : ℕ → Ask ℕ
covering q =
    if q == 0 then Stores 0 (pos 4) 5
    else if q == 1 then Stores 0 (pos 5) 5
    else if q == 2 then Loads 0 (λ v. 100 + nat_of v)
    else if q == 3 then Leaves
    else if q == 5 then TurnEnds
    else Prints ((q - 100) ∷ []) 5 full

abbrev pub coverer : Course ℕ
coverer = from_each (course covering 512 64) (λ j. if nat_lt j 3 then j else 3)

-- worker 2 has read what worker 1 wrote when worker 0 writes
covered_store : shows coverer (0 ∷ 1 ∷ 2 ∷ 1 ∷ 2 ∷ 0 ∷ 0 ∷ 0 ∷ 1 ∷ 1 ∷ 2 ∷ 2 ∷ 2 ∷ 0 ∷ 0 ∷ 0 ∷ []) 0
    ≡ record { exit = Some Left; text = 5 ∷ []; word = pos 5; counts = record (counted 3 0 0 0 0) { spared = 1 } }
covered_store = refl

-- where worker 2 reads first, the store of worker 1 restarts it
early_read : shows coverer (0 ∷ 1 ∷ 2 ∷ 2 ∷ 1 ∷ []) 0 ≡ record { exit = None; text = []; word = pos 0; counts = counted 0 0 1 1 0 }
early_read = refl

-- while (c < 2) { a = a + 1; print(a); b = b + a; print(b); c = c + 1; }, where a, b and c are words 0, 1 and 2
abbrev holding_at : ℕ → ℕ → Ask ℕ
holding_at p x =
    if p == 0 then Loads 2 (λ v. if nat_lt (nat_of v) 2 then 100 else 900)
    else if p == 1 then Loads 0 (λ v. 201 + nat_of v)
    else if p == 2 then Stores 0 (pos x) 300
    else if p == 3 then Loads 0 (λ v. 400 + nat_of v)
    else if p == 4 then Prints (x ∷ []) 500 full
    else if p == 5 then Loads 1 (λ v. 600 + nat_of v)
    else if p == 6 then Loads 0 (λ v. 700 + x + nat_of v)
    else if p == 7 then Stores 1 (pos x) 800
    else if p == 8 then Loads 1 (λ v. 1000 + nat_of v)
    else if p == 9 then Leaves
    else if p == 10 then Prints (x ∷ []) 1100 full
    else if p == 11 then Loads 2 (λ v. 1201 + nat_of v)
    else if p == 12 then Stores 2 (pos x) 1300
    else TurnEnds

abbrev holding : ℕ → Ask ℕ
holding q = holding_at (q / 100) (q % 100)

abbrev times : ℕ → List ℕ → List ℕ
times zero ws = ws
times (suc n) ws = 0 ∷ times n ws

-- with room for one mark and one written word, one worker finds no room in the first load of a and in the second, in each turn
one_worker : shows (course holding 1 1) (times 40 []) 1 ≡ record { exit = Some Left; text = 1 ∷ 1 ∷ 2 ∷ 3 ∷ []; word = pos 3; counts = counted 2 0 0 0 4 }
one_worker = refl

-- with ample room it finds room always
ample_room : shows (course holding 4096 4096) (times 40 []) 1 ≡ record { exit = Some Left; text = 1 ∷ 1 ∷ 2 ∷ 3 ∷ []; word = pos 3; counts = counted 2 0 0 0 0 }
ample_room = refl
