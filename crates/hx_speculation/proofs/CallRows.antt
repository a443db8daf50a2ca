-- Worked calls on a board, computed: each answer and each count.
use Rattle.std.proofs.Common.{◌≡◌, ℕ, ℤ, pos, ◌+◌, ◌-◌, ◌^◌, ◌==◌, List, [], ◌∷◌, ◌++◌, Option, Some, None, Bool, true, false, map, refl}
use Rattle.std.specs.Prelude.{if◌then◌else◌}
use Rattle.hx_tree.specs.declared.limits.TheConstants.{TEXT_LIMIT}
use Rattle.hx_tree.specs.declared.outcome.Counts.{Counts}
use Rattle.hx_tree.specs.declared.outcome.Fault.{Fault}
use Rattle.hx_tree.specs.declared.outcome.FaultKind.TheVariants.{TextFull, ZeroDivisor}
use Rattle.hx_marks.specs.Table.{Table}
use Rattle.hx_code.specs.declared.word.Exit.{Exit}
use Rattle.hx_code.specs.declared.word.Exit.TheVariants.{Left, Returned, Faulted}
use Rattle.hx_speculation.specs.Iteration.{Store, Ask, Goes, Prints, TurnEnds, Leaves, Returns, Faults}
use Rattle.hx_speculation.specs.Region.{Region}
use Rattle.hx_speculation.specs.Frame.{Frame, Need, ForHead, Held, begins}
use Rattle.hx_speculation.specs.Slots.{Slot}
use Rattle.hx_speculation.specs.Board.{Board, Capacities, Token, Call, Start, Load, Write, Head, Alive, Settle, Abandon, Answer, Go, Value, Done, Full, Yours, NotYet, Live, Again, Passed, Squashed, NotThisFrame, Ended, call, after, opened}
use Rattle.hx_speculation.proofs.Stores.{eq_true, eq_same}

-- ---- a region

abbrev full : Fault
full = record { kind = TextFull; pos = record { line = 1; col = 1 } }

abbrev by_zero : Fault
by_zero = record { kind = ZeroDivisor; pos = record { line = 1; col = 9 } }

-- states 0 to 4 wait with an action each, the print going on at 9; iteration j begins at 100 + j
abbrev asks : ℕ → Ask ℕ
asks q =
    if q == 0 then TurnEnds
    else if q == 1 then Leaves
    else if q == 2 then Returns (pos 7)
    else if q == 3 then Faults by_zero
    else if q == 4 then Prints (65 ∷ 66 ∷ []) 9 full
    else Goes 0

-- so many bytes were printed before
abbrev region_behind : ℕ → Region ℕ
region_behind printed = record { ask = asks; opening = λ j. 100 + j; printed = printed; same = λ x y. x == y; same_holds = eq_true; same_itself = eq_same }

abbrev region : Region ℕ
region = region_behind 0

-- the value of a word before anything is written
abbrev store : Store
store a = pos (50 + a)

-- ---- what is seen of a board

abbrev entries : Table → List (ℕ × ℤ)
entries t = map (λ e. (e.word, e.value)) t

-- an iteration: worker, attempt, start, marks and written words
abbrev Row : Type 0
Row = ℕ × ℕ × ℕ × List (ℕ × ℤ) × List (ℕ × ℤ)

abbrev row : Slot ℕ → Row
row x = (x.worker, x.attempt, x.start, entries x.marks, entries x.buffer)

-- .. and words 0 and 1 of the store
pub record Seen : Type 0 where
  pub answer : Answer ℕ
  pub head : ℕ
  pub active : List Row
  pub words : ℤ × ℤ
  pub text : List ℕ
  pub exit : Option Exit
  pub is_out : Bool
  pub is_spent : Bool
  pub counts : Counts

abbrev seen : Answer ℕ × Board ℕ → Seen
seen p =
    let b = p.1 in
    record { answer = p.0; head = b.head; active = map row b.active; words = (b.store 0, b.store 1); text = b.text; exit = b.exit; is_out = b.is_out; is_spent = b.is_spent; counts = b.counts }

abbrev room : Capacities
room = record { marks = 2; buffer = 2 }

-- the answer of the last call, and the board after it
abbrev last : List (Call ℕ) → Call ℕ → Seen
last before c = seen (call region room c (after region room before (opened store)))

-- as it is with these iterations, and else as at the beginning
abbrev still : Answer ℕ → List Row → Counts → Seen
still ans rows counts = record { answer = ans; head = 0; active = rows; words = (pos 50, pos 51); text = []; exit = None; is_out = false; is_spent = false; counts = counts }

abbrev none : Counts
none = record { regions = 1; turns = 0; repeats = 0; violations = 0; restarts = 0; holds = 0; abandons = 0; discarded = 0; spared = 0 }

-- an iteration that has read and written nothing
abbrev fresh : ℕ → ℕ → ℕ → Row
fresh w attempt q = (w, attempt, q, [], [])

-- ---- start

-- three workers have an iteration each, in the order in which they come
abbrev three : List (Call ℕ)
three = Start 4 true ∷ Start 0 true ∷ Start 7 true ∷ []

abbrev first_three : List Row
first_three = fresh 4 1 100 ∷ fresh 0 1 101 ∷ fresh 7 1 102 ∷ []

three_start : last (Start 4 true ∷ Start 0 true ∷ []) (Start 7 true) ≡ still (Go (begins 7 2 1 102)) first_three none
three_start = refl

-- a worker that has one gets it once more
own_start : last three (Start 0 true) ≡ still (Go (begins 0 1 1 101)) first_three none
own_start = refl

-- .. with its attempt
again_start : last (three ++ Abandon 0 ∷ []) (Start 0 true) ≡ still (Go (begins 0 1 2 101)) (fresh 4 1 100 ∷ fresh 0 2 101 ∷ fresh 7 2 102 ∷ []) (record none { abandons = 1 })
again_start = refl

foreign_start : last three (Start 9 false) ≡ still NotThisFrame first_three none
foreign_start = refl

-- ---- load

-- the committed word, which is marked
committed_word : last three (Load 0 1 1) ≡ still (Value (pos 51)) (fresh 4 1 100 ∷ (0, 1, 101, (1, pos 51) ∷ [], []) ∷ fresh 7 1 102 ∷ []) none
committed_word = refl

-- the word of the nearest earlier iteration
earlier_word : last (three ++ Write 4 1 1 (pos 8) ∷ Write 0 1 1 (pos 9) ∷ Write 7 1 0 (pos 6) ∷ []) (Load 7 1 1)
    ≡ still (Value (pos 9)) ((4, 1, 100, [], (1, pos 8) ∷ []) ∷ (0, 1, 101, [], (1, pos 9) ∷ []) ∷ (7, 1, 102, (1, pos 9) ∷ [], (0, pos 6) ∷ []) ∷ []) none
earlier_word = refl

-- not that of a later one
later_word : last (three ++ Write 7 1 1 (pos 9) ∷ []) (Load 0 1 1)
    ≡ still (Value (pos 51)) (fresh 4 1 100 ∷ (0, 1, 101, (1, pos 51) ∷ [], []) ∷ (7, 1, 102, [], (1, pos 9) ∷ []) ∷ []) none
later_word = refl

-- its own word, without a mark
own_word : last (three ++ Write 0 1 1 (pos 9) ∷ []) (Load 0 1 1) ≡ still (Value (pos 9)) (fresh 4 1 100 ∷ (0, 1, 101, [], (1, pos 9) ∷ []) ∷ fresh 7 1 102 ∷ []) none
own_word = refl

-- no room for a third mark; for a word that has one there is
full_marks : last (three ++ Load 0 1 0 ∷ Load 0 1 1 ∷ []) (Load 0 1 2)
    ≡ still Full (fresh 4 1 100 ∷ (0, 1, 101, (0, pos 50) ∷ (1, pos 51) ∷ [], []) ∷ fresh 7 1 102 ∷ []) (record none { holds = 1 })
full_marks = refl

marked_word : last (three ++ Load 0 1 0 ∷ Load 0 1 1 ∷ []) (Load 0 1 1)
    ≡ still (Value (pos 51)) (fresh 4 1 100 ∷ (0, 1, 101, (0, pos 50) ∷ (1, pos 51) ∷ [], []) ∷ fresh 7 1 102 ∷ []) none
marked_word = refl

lost_load : last three (Load 0 2 1) ≡ still Squashed first_three none
lost_load = refl

-- ---- store

-- one violation, by which two iterations begin again; the last of them had read nothing
two_restarted : last (three ++ Load 0 1 1 ∷ Write 7 1 0 (pos 6) ∷ []) (Write 4 1 1 (pos 9))
    ≡ still Done ((4, 1, 100, [], (1, pos 9) ∷ []) ∷ fresh 0 2 101 ∷ fresh 7 2 102 ∷ []) (record none { violations = 1; restarts = 2 })
two_restarted = refl

-- the first that has read it and those behind, and none before
last_restarted : last (three ++ Load 0 1 0 ∷ Load 7 1 1 ∷ []) (Write 4 1 1 (pos 9))
    ≡ still Done ((4, 1, 100, [], (1, pos 9) ∷ []) ∷ (0, 1, 101, (0, pos 50) ∷ [], []) ∷ fresh 7 2 102 ∷ []) (record none { violations = 1; restarts = 1 })
last_restarted = refl

-- a value that was read is still seen
same_value : last (three ++ Load 7 1 1 ∷ []) (Write 4 1 1 (pos 51))
    ≡ still Done ((4, 1, 100, [], (1, pos 51) ∷ []) ∷ fresh 0 1 101 ∷ (7, 1, 102, (1, pos 51) ∷ [], []) ∷ []) (record none { spared = 1 })
same_value = refl

-- a nearer iteration has written the word
covered_value : last (three ++ Write 0 1 1 (pos 9) ∷ Load 7 1 1 ∷ []) (Write 4 1 1 (pos 8))
    ≡ still Done ((4, 1, 100, [], (1, pos 8) ∷ []) ∷ (0, 1, 101, [], (1, pos 9) ∷ []) ∷ (7, 1, 102, (1, pos 9) ∷ [], []) ∷ []) (record none { spared = 1 })
covered_value = refl

-- one that has read the word before it wrote it begins again, and all behind it with it
reader_before_cover : last (three ++ Load 0 1 1 ∷ Write 0 1 1 (pos 9) ∷ Load 7 1 1 ∷ []) (Write 4 1 1 (pos 8))
    ≡ still Done ((4, 1, 100, [], (1, pos 8) ∷ []) ∷ fresh 0 2 101 ∷ fresh 7 2 102 ∷ []) (record none { violations = 1; restarts = 2 })
reader_before_cover = refl

-- the cover itself may change what is seen
cover_changes : last (three ++ Write 4 1 1 (pos 8) ∷ Write 0 1 1 (pos 9) ∷ Load 7 1 1 ∷ []) (Write 0 1 1 (pos 8))
    ≡ still Done ((4, 1, 100, [], (1, pos 8) ∷ []) ∷ (0, 1, 101, [], (1, pos 8) ∷ []) ∷ fresh 7 2 102 ∷ []) (record none { violations = 1; restarts = 1 })
cover_changes = refl

-- earlier ones and its own marks don't matter
none_restarted : last (three ++ Load 4 1 1 ∷ Load 0 1 1 ∷ []) (Write 0 1 1 (pos 9))
    ≡ still Done ((4, 1, 100, (1, pos 51) ∷ [], []) ∷ (0, 1, 101, (1, pos 51) ∷ [], (1, pos 9) ∷ []) ∷ fresh 7 1 102 ∷ []) none
none_restarted = refl

-- two violations
twice : last (three ++ Load 7 1 1 ∷ Write 4 1 1 (pos 9) ∷ Load 7 2 0 ∷ []) (Write 0 1 0 (pos 8))
    ≡ still Done ((4, 1, 100, [], (1, pos 9) ∷ []) ∷ (0, 1, 101, [], (0, pos 8) ∷ []) ∷ fresh 7 3 102 ∷ []) (record none { violations = 2; restarts = 2 })
twice = refl

full_buffer : last (three ++ Write 0 1 0 (pos 7) ∷ Write 0 1 1 (pos 8) ∷ []) (Write 0 1 2 (pos 9))
    ≡ still Full (fresh 4 1 100 ∷ (0, 1, 101, [], (0, pos 7) ∷ (1, pos 8) ∷ []) ∷ fresh 7 1 102 ∷ []) (record none { holds = 1 })
full_buffer = refl

-- a word that it has written may be written again
written_again : last (three ++ Write 0 1 0 (pos 7) ∷ Write 0 1 1 (pos 8) ∷ []) (Write 0 1 1 (pos 9))
    ≡ still Done (fresh 4 1 100 ∷ (0, 1, 101, [], (0, pos 7) ∷ (1, pos 9) ∷ []) ∷ fresh 7 1 102 ∷ []) none
written_again = refl

lost_store : last (three ++ Abandon 0 ∷ []) (Write 0 1 1 (pos 9)) ≡ still Squashed (fresh 4 1 100 ∷ fresh 0 2 101 ∷ fresh 7 2 102 ∷ []) (record none { abandons = 1 })
lost_store = refl

-- ---- head and alive

abbrev token : ℕ → ℕ → ℕ → Token
token w j attempt = record { worker = w; iteration = j; attempt = attempt }

given_head : last three (Head 4 1) ≡ record (still (Yours (token 4 0 1)) first_three none) { is_out = true }
given_head = refl

-- one token at a time
only_one : last (three ++ Head 4 1 ∷ []) (Head 4 1) ≡ record (still NotYet first_three none) { is_out = true }
only_one = refl

not_the_head : last three (Head 0 1) ≡ still NotYet first_three none
not_the_head = refl

lost_head : last three (Head 4 2) ≡ still Squashed first_three none
lost_head = refl

no_iteration : last three (Head 5 1) ≡ still Squashed first_three none
no_iteration = refl

lives_on : last three (Alive 0 1) ≡ still Live first_three none
lives_on = refl

lost_one : last (three ++ Abandon 4 ∷ []) (Alive 0 1) ≡ still Squashed (fresh 4 2 100 ∷ fresh 0 2 101 ∷ fresh 7 2 102 ∷ []) (record none { abandons = 1 })
lost_one = refl

-- ---- abandon

-- its own iteration and all behind it begin again, which is no violation
gives_up : last (three ++ Load 4 1 1 ∷ Load 0 1 1 ∷ Write 7 1 0 (pos 6) ∷ []) (Abandon 0)
    ≡ still Done ((4, 1, 100, (1, pos 51) ∷ [], []) ∷ fresh 0 2 101 ∷ fresh 7 2 102 ∷ []) (record none { abandons = 1 })
gives_up = refl

-- a free worker has nothing to give up
nothing_given_up : last three (Abandon 5) ≡ still Done first_three none
nothing_given_up = refl

-- ---- settle

-- the head's frame, which stands at a state and waits, and has read and written nothing
abbrev at : ℕ → Need → Frame ℕ
at q need = record (begins 4 0 1 100) { here = q; need = need }

abbrev out : List (Call ℕ)
out = three ++ Head 4 1 ∷ []

-- the turn is whole, and the next iteration is the head
whole_turn : last out (Settle (token 4 0 1) (at 0 ForHead) true) ≡ record (still Passed (fresh 0 1 101 ∷ fresh 7 1 102 ∷ []) (record none { turns = 1 })) { head = 1 }
whole_turn = refl

-- the third attempt
third_attempt : last (three ++ Abandon 4 ∷ Abandon 4 ∷ Head 4 3 ∷ []) (Settle (token 4 0 3) (record (at 0 ForHead) { attempt = 3 }) true)
    ≡ record (still Passed (fresh 0 3 101 ∷ fresh 7 3 102 ∷ []) (record none { turns = 1; repeats = 2; abandons = 2 })) { head = 1 }
third_attempt = refl

-- an end, with others active
leaves : last out (Settle (token 4 0 1) (at 1 ForHead) true) ≡ record (still Ended [] (record none { discarded = 2 })) { exit = Some Left }
leaves = refl

returns : last out (Settle (token 4 0 1) (at 2 ForHead) true) ≡ record (still Ended [] (record none { discarded = 2 })) { exit = Some (Returned (pos 7)) }
returns = refl

faults : last out (Settle (token 4 0 1) (at 3 ForHead) true) ≡ record (still Ended [] (record none { discarded = 2 })) { exit = Some (Faulted by_zero) }
faults = refl

-- it prints, and begins again behind that
prints : last out (Settle (token 4 0 1) (at 4 ForHead) true)
    ≡ record (still (Again (token 4 0 1) (begins 4 0 1 9)) (fresh 4 1 9 ∷ fresh 0 1 101 ∷ fresh 7 1 102 ∷ []) none) { text = 65 ∷ 66 ∷ []; is_out = true }
prints = refl

-- .. up to the last byte of the limit, and not past it
abbrev prints_behind : ℕ → Seen
prints_behind n = let r = region_behind n in seen (call r room (Settle (token 4 0 1) (at 4 ForHead) true) (after r room out (opened store)))

last_bytes : prints_behind (TEXT_LIMIT - 2)
    ≡ record (still (Again (token 4 0 1) (begins 4 0 1 9)) (fresh 4 1 9 ∷ fresh 0 1 101 ∷ fresh 7 1 102 ∷ []) none) { text = 65 ∷ 66 ∷ []; is_out = true }
last_bytes = refl

full_text : prints_behind (TEXT_LIMIT - 1) ≡ record (still Ended [] (record none { discarded = 2 })) { exit = Some (Faulted full) }
full_text = refl

-- what it has written is committed, and it begins again where it stands
abbrev wrote : List (Call ℕ)
wrote = three ++ Load 4 1 0 ∷ Write 4 1 1 (pos 9) ∷ Load 0 1 1 ∷ Head 4 1 ∷ []

abbrev writer : ℕ → Need → Frame ℕ
writer q need = record (at q need) { marks = record { word = 0; value = pos 50 } ∷ []; writes = record { word = 1; value = pos 9 } ∷ [] }

abbrev reader : Row
reader = (0, 1, 101, (1, pos 9) ∷ [], [])

held_back : last wrote (Settle (token 4 0 1) (writer 33 Held) true)
    ≡ record (still (Again (token 4 0 1) (begins 4 0 1 33)) (fresh 4 1 33 ∷ reader ∷ fresh 7 1 102 ∷ []) none) { words = (pos 50, pos 9); is_out = true }
held_back = refl

committed : last wrote (Settle (token 4 0 1) (writer 0 ForHead) true)
    ≡ record (still Passed (reader ∷ fresh 7 1 102 ∷ []) (record none { turns = 1 })) { head = 1; words = (pos 50, pos 9) }
committed = refl

committed_at_end : last wrote (Settle (token 4 0 1) (writer 1 ForHead) true)
    ≡ record (still Ended [] (record none { discarded = 2 })) { words = (pos 50, pos 9); exit = Some Left }
committed_at_end = refl

-- where one thing differs, the token is back and nothing else changes
abbrev refused : Token → Frame ℕ → Bool → Type 0
refused t f is_own = last wrote (Settle t f is_own) ≡ record (still NotThisFrame ((4, 1, 100, (0, pos 50) ∷ [], (1, pos 9) ∷ []) ∷ reader ∷ fresh 7 1 102 ∷ []) none) { is_out = false }

other_code : refused (token 4 0 1) (writer 0 ForHead) false
other_code = refl

other_token_worker : refused (token 0 0 1) (writer 0 ForHead) true
other_token_worker = refl

other_token_iteration : refused (token 4 1 1) (writer 0 ForHead) true
other_token_iteration = refl

other_token_attempt : refused (token 4 0 2) (writer 0 ForHead) true
other_token_attempt = refl

other_worker : refused (token 4 0 1) (record (writer 0 ForHead) { worker = 0 }) true
other_worker = refl

other_iteration : refused (token 4 0 1) (record (writer 0 ForHead) { iteration = 1 }) true
other_iteration = refl

other_attempt : refused (token 4 0 1) (record (writer 0 ForHead) { attempt = 2 }) true
other_attempt = refl

other_start : refused (token 4 0 1) (record (writer 0 ForHead) { start = 101 }) true
other_start = refl

other_marks : refused (token 4 0 1) (record (writer 0 ForHead) { marks = record { word = 0; value = pos 51 } ∷ [] }) true
other_marks = refl

other_writes : refused (token 4 0 1) (record (writer 0 ForHead) { writes = [] }) true
other_writes = refl

-- ---- an ended board

over : last (out ++ Settle (token 4 0 1) (at 1 ForHead) true ∷ []) (Start 9 true) ≡ record (still Ended [] (record none { discarded = 2 })) { exit = Some Left }
over = refl

-- ---- numbers that end

abbrev largest : ℕ
largest = 2 ^ 64 - 1

-- a board at its last iteration, in an attempt with this number
abbrev at_last : ℕ → Board ℕ
at_last attempt = record (opened store) {
  head = largest;
  active = record { worker = 4; attempt = attempt; start = 5; marks = []; buffer = [] } ∷ [];
  is_out = true;
  counts = record none { turns = largest };
}

abbrev spent : ℕ → Bool → Seen
spent attempt is_out = record (still Ended (fresh 4 attempt 5 ∷ []) (record none { turns = largest })) { head = largest; is_out = is_out; is_spent = true }

no_next_iteration : seen (call region room (Start 0 true) (at_last 1)) ≡ spent 1 true
no_next_iteration = refl

no_next_turn : seen (call region room (Settle (token 4 largest 1) (record (begins 4 largest 1 5) { here = 0; need = ForHead }) true) (at_last 1)) ≡ spent 1 false
no_next_turn = refl

no_next_attempt : seen (call region room (Abandon 4) (at_last largest)) ≡ spent largest true
no_next_attempt = refl

-- a board whose second iteration has read word 1, in the last attempt that there may be
abbrev at_last_attempt : Board ℕ
at_last_attempt = record (opened store) {
  active = record { worker = 4; attempt = 1; start = 100; marks = []; buffer = [] } ∷ record { worker = 0; attempt = largest; start = 101; marks = record { word = 1; value = pos 51 } ∷ []; buffer = [] } ∷ [];
}

no_restart : seen (call region room (Write 4 1 1 (pos 9)) at_last_attempt)
    ≡ record (still Ended (fresh 4 1 100 ∷ (0, largest, 101, (1, pos 51) ∷ [], []) ∷ []) none) { is_spent = true }
no_restart = refl

-- from then on it answers that it has ended
stays_spent : seen (call region room (Alive 4 1) (call region room (Write 4 1 1 (pos 9)) at_last_attempt).1)
    ≡ record (still Ended (fresh 4 1 100 ∷ (0, largest, 101, (1, pos 51) ∷ [], []) ∷ []) none) { is_spent = true }
stays_spent = refl

-- ---- counts stop at the largest number

abbrev counted : Counts
counted = record { regions = 1; turns = largest; repeats = largest; violations = largest; restarts = largest; holds = largest; abandons = largest; discarded = largest; spared = largest }

abbrev all_counted : List (Call ℕ) → Board ℕ
all_counted calls = record (after region room calls (opened store)) { counts = counted }

turns_stop : (call region room (Settle (token 4 0 3) (record (at 0 ForHead) { attempt = 3 }) true) (all_counted (three ++ Abandon 4 ∷ Abandon 4 ∷ Head 4 3 ∷ []))).1.counts ≡ counted
turns_stop = refl

restarts_stop : (call region room (Write 4 1 1 (pos 9)) (all_counted (three ++ Load 0 1 1 ∷ []))).1.counts ≡ counted
restarts_stop = refl

spared_stop : (call region room (Write 4 1 1 (pos 51)) (all_counted (three ++ Load 0 1 1 ∷ []))).1.counts ≡ counted
spared_stop = refl

holds_stop : (call region room (Load 0 1 2) (all_counted (three ++ Load 0 1 0 ∷ Load 0 1 1 ∷ []))).1.counts ≡ counted
holds_stop = refl

abandons_stop : (call region room (Abandon 0) (all_counted three)).1.counts ≡ counted
abandons_stop = refl

discarded_stop : (call region room (Settle (token 4 0 1) (at 1 ForHead) true) (all_counted out)).1.counts ≡ counted
discarded_stop = refl
