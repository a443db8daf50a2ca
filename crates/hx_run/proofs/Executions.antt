-- What is written in two parts, and what an execution makes of what its parts answer.
use Rattle.std.proofs.Common.{◌≡◌, ℕ, ◌+◌, ℤ, List, ◌++◌, length, take, min, Option, None, Some, Result, Ok, Err, IfOk, IfErr, OnOk, OnErr, refl, sym, subst, ◌∙◌, append_assoc, arith}
use Rattle.std.proofs.lemmas.List.{take-append-le, take_min}
use Rattle.std.proofs.Math.Seq.{take-append-add}
use Rattle.std.specs.Io.KnownBytes.{Appends}
use Rattle.hx_tree.specs.declared.outcome.Finish.{Finish}
use Rattle.hx_tree.specs.Tree.{Program}
use Rattle.hx_stats.specs.Globals.{globals_text}
use Rattle.hx_run.specs.Sources.{IsSourceOf, IsSpelledAlone}
use Rattle.hx_run.specs.declared.executing.Mode.{Mode}
use Rattle.hx_run.specs.declared.executing.Done.{Done}
use Rattle.hx_run.specs.declared.executing.Done.TheVariants.{Finished, NotEnded}
use Rattle.hx_run.specs.declared.refusal.Refusal.{Refusal}
use Rattle.hx_run.specs.declared.refusal.Refusal.TheVariants as refusal
use Rattle.hx_run.specs.Headline.{IsFinishOf, RefusesRun}
use Rattle.hx_run.specs.Executions.{failed_read, failed_write, asked_tail, IsInTime, IsDone, IsOfReading, IsReadOf, IsShown, Refuses, RefusesToShow}

-- ---- one text behind another

appends_both : (a b c : Option (List ℕ)) (xs ys : List ℕ) → Appends a b xs → Appends b c ys → Appends a c (xs ++ ys)
appends_both None b c xs ys h k = tt
appends_both (Some x) None c xs ys h k = absurd h
appends_both (Some x) (Some y) None xs ys h k = absurd k
appends_both (Some x) (Some y) (Some z) xs ys h k = simp (k, h, append_assoc) refl

-- a beginning of the first is one of both

begins_first : (a b : Option (List ℕ)) (xs ys : List ℕ) (n : ℕ) → Appends a b (take n xs) → (k : ℕ) × Appends a b (take k (xs ++ ys))
begins_first a b xs ys n h =
    let same : take (min n (length xs)) (xs ++ ys) ≡ take n xs = take-append-le (min n (length xs)) xs ys (omega arith) ∙ take_min n xs in
    (min n (length xs), subst (Appends a b) (sym same) h)

-- so is the first with a beginning of the second
begins_second : (a b c : Option (List ℕ)) (xs ys : List ℕ) (n : ℕ) → Appends a b xs → Appends b c (take n ys) → (k : ℕ) × Appends a c (take k (xs ++ ys))
begins_second a b c xs ys n h k =
    (length xs + n, subst (Appends a c) (sym (take-append-add xs ys n)) (appends_both a b c xs (take n ys) h k))

-- the same of what the writing of either part answers

pub begun_at_first : {E : Type 0} (r : Result Unit E) (a b : Option (List ℕ)) (xs ys : List ℕ) → (n : ℕ) × Appends a b (take n xs) → OnErr r ((k : ℕ) × Appends a b (take k (xs ++ ys)))
begun_at_first (Ok x) a b xs ys h = tt
begun_at_first (Err e) a b xs ys h = begins_first a b xs ys h.0 h.1

pub begun_at_second : {E : Type 0} (r : Result Unit E) (a b c : Option (List ℕ)) (xs ys : List ℕ) → Appends a b xs → OnErr r ((n : ℕ) × Appends b c (take n ys))
    → OnErr r ((k : ℕ) × Appends a c (take k (xs ++ ys)))
begun_at_second (Ok x) a b c xs ys h k = tt
begun_at_second (Err e) a b c xs ys h k = begins_second a b c xs ys k.0 h k.1

-- ---- a reading that failed

pub reading_refuses : (mode : Mode) (input : List ℤ) (source rest old : Option (List ℕ)) (e : Refusal) → IsOfReading e → Refuses mode input source rest old old e
reading_refuses mode input source rest old refusal.ReadFailed h = refl
reading_refuses mode input source rest old refusal.Memory h = refl
reading_refuses mode input source rest old (refusal.Lex e) h = absurd h
reading_refuses mode input source rest old (refusal.Parse e) h = absurd h
reading_refuses mode input source rest old (refusal.Check e) h = absurd h
reading_refuses mode input source rest old (refusal.Lower e) h = absurd h
reading_refuses mode input source rest old refusal.Pool h = absurd h
reading_refuses mode input source rest old refusal.Settings h = absurd h
reading_refuses mode input source rest old refusal.InputTooLong h = absurd h
reading_refuses mode input source rest old refusal.WriteFailed h = absurd h
reading_refuses mode input source rest old refusal.InputText h = absurd h

pub reading_writes_nothing : (e : Refusal) → IsOfReading e → failed_write e ≡ 0
reading_writes_nothing refusal.ReadFailed h = refl
reading_writes_nothing refusal.Memory h = refl
reading_writes_nothing (refusal.Lex e) h = absurd h
reading_writes_nothing (refusal.Parse e) h = absurd h
reading_writes_nothing (refusal.Check e) h = absurd h
reading_writes_nothing (refusal.Lower e) h = absurd h
reading_writes_nothing refusal.Pool h = absurd h
reading_writes_nothing refusal.Settings h = absurd h
reading_writes_nothing refusal.InputTooLong h = absurd h
reading_writes_nothing refusal.WriteFailed h = absurd h
reading_writes_nothing refusal.InputText h = absurd h

-- ---- a run that was refused

pub run_refuses : (mode : Mode) (input : List ℤ) (source rest old : Option (List ℕ)) (bytes : List ℕ) (e : Refusal) → IsReadOf source rest bytes
    → RefusesRun bytes input e → Refuses mode input source rest old old e
run_refuses mode input source rest old bytes (refusal.Lex e) is h = (record { bytes = bytes; is_read = is; says = h }, refl)
run_refuses mode input source rest old bytes (refusal.Parse e) is h = (record { bytes = bytes; is_read = is; says = h }, refl)
run_refuses mode input source rest old bytes (refusal.Check e) is h = (record { bytes = bytes; is_read = is; says = h }, refl)
run_refuses mode input source rest old bytes (refusal.Lower e) is h = (record { bytes = bytes; is_read = is; says = h }, refl)
run_refuses mode input source rest old bytes refusal.Pool is h = (record { bytes = bytes; is_read = is; says = h }, refl)
run_refuses mode input source rest old bytes refusal.InputTooLong is h = (record { bytes = bytes; is_read = is; says = h }, refl)
run_refuses mode input source rest old bytes refusal.Memory is h = refl
run_refuses mode input source rest old bytes refusal.Settings is h = absurd h
run_refuses mode input source rest old bytes refusal.ReadFailed is h = absurd h
run_refuses mode input source rest old bytes refusal.WriteFailed is h = absurd h
run_refuses mode input source rest old bytes refusal.InputText is h = absurd h

pub run_reads_nothing : (bytes : List ℕ) (input : List ℤ) (e : Refusal) → RefusesRun bytes input e → failed_read e ≡ 0
run_reads_nothing bytes input refusal.ReadFailed h = absurd h
run_reads_nothing bytes input (refusal.Lex e) h = refl
run_reads_nothing bytes input (refusal.Parse e) h = refl
run_reads_nothing bytes input (refusal.Check e) h = refl
run_reads_nothing bytes input (refusal.Lower e) h = refl
run_reads_nothing bytes input refusal.Pool h = refl
run_reads_nothing bytes input refusal.Settings h = refl
run_reads_nothing bytes input refusal.InputTooLong h = refl
run_reads_nothing bytes input refusal.Memory h = refl
run_reads_nothing bytes input refusal.WriteFailed h = refl
run_reads_nothing bytes input refusal.InputText h = refl

pub run_writes_nothing : (bytes : List ℕ) (input : List ℤ) (e : Refusal) → RefusesRun bytes input e → failed_write e ≡ 0
run_writes_nothing bytes input refusal.WriteFailed h = absurd h
run_writes_nothing bytes input (refusal.Lex e) h = refl
run_writes_nothing bytes input (refusal.Parse e) h = refl
run_writes_nothing bytes input (refusal.Check e) h = refl
run_writes_nothing bytes input (refusal.Lower e) h = refl
run_writes_nothing bytes input refusal.Pool h = refl
run_writes_nothing bytes input refusal.Settings h = refl
run_writes_nothing bytes input refusal.InputTooLong h = refl
run_writes_nothing bytes input refusal.Memory h = refl
run_writes_nothing bytes input refusal.ReadFailed h = refl
run_writes_nothing bytes input refusal.InputText h = refl

-- ---- a finish that is shown

is_done : (mode : Mode) (input : List ℤ) (source rest old new : Option (List ℕ)) (bytes : List ℕ) (f : Finish) (d : Done) → IsReadOf source rest bytes
    → (finish : IsFinishOf bytes input f) → IsInTime mode bytes input f → IsShown (asked_tail mode) finish.program f old new d → IsDone mode input source rest old new d
is_done mode input source rest old new bytes f (Finished e) is finish in_time h =
    record { bytes = bytes; is_read = is; says = record { finish = f; is_finish = finish; in_time = in_time; ends = h.0; writes = h.1 } }
is_done mode input source rest old new bytes f NotEnded is finish in_time h = absurd h

pub done_if_ok : (mode : Mode) (input : List ℤ) (source rest old new : Option (List ℕ)) (bytes : List ℕ) (f : Finish) (r : Result Done Refusal) → IsReadOf source rest bytes
    → IsFinishOf bytes input f → IsInTime mode bytes input f → IfOk r (λ d. (p : Program) → IsSourceOf bytes p → IsShown (asked_tail mode) p f old new d)
    → IfOk r (IsDone mode input source rest old new)
done_if_ok mode input source rest old new bytes f (Ok d) is finish in_time h =
    is_done mode input source rest old new bytes f d is finish in_time (h finish.program finish.is_source)
done_if_ok mode input source rest old new bytes f (Err e) is finish in_time h = tt

show_refuses : (mode : Mode) (input : List ℤ) (source rest old new : Option (List ℕ)) (bytes : List ℕ) (f : Finish) (e : Refusal) → IsReadOf source rest bytes
    → (finish : IsFinishOf bytes input f) → IsInTime mode bytes input f → RefusesToShow (asked_tail mode) finish.program f old new e → Refuses mode input source rest old new e
show_refuses mode input source rest old new bytes f refusal.WriteFailed is finish in_time h =
    record { bytes = bytes; is_read = is; says = record { finish = f; is_finish = finish; in_time = in_time; count = h.0; writes = h.1 } }
show_refuses mode input source rest old new bytes f refusal.Memory is finish in_time h = h
show_refuses mode input source rest old new bytes f (refusal.Lex e) is finish in_time h = absurd h
show_refuses mode input source rest old new bytes f (refusal.Parse e) is finish in_time h = absurd h
show_refuses mode input source rest old new bytes f (refusal.Check e) is finish in_time h = absurd h
show_refuses mode input source rest old new bytes f (refusal.Lower e) is finish in_time h = absurd h
show_refuses mode input source rest old new bytes f refusal.Pool is finish in_time h = absurd h
show_refuses mode input source rest old new bytes f refusal.Settings is finish in_time h = absurd h
show_refuses mode input source rest old new bytes f refusal.InputTooLong is finish in_time h = absurd h
show_refuses mode input source rest old new bytes f refusal.ReadFailed is finish in_time h = absurd h
show_refuses mode input source rest old new bytes f refusal.InputText is finish in_time h = absurd h

pub refused_if_err : (mode : Mode) (input : List ℤ) (source rest old new : Option (List ℕ)) (bytes : List ℕ) (f : Finish) (r : Result Done Refusal) → IsReadOf source rest bytes
    → IsFinishOf bytes input f → IsInTime mode bytes input f → IfErr r (λ e. (p : Program) → IsSourceOf bytes p → RefusesToShow (asked_tail mode) p f old new e)
    → IfErr r (Refuses mode input source rest old new)
refused_if_err mode input source rest old new bytes f (Ok d) is finish in_time h = tt
refused_if_err mode input source rest old new bytes f (Err e) is finish in_time h =
    show_refuses mode input source rest old new bytes f e is finish in_time (h finish.program finish.is_source)

-- ---- what is written behind a text

-- of the one program that a source spells, it is that of any program of the source
pub globals_of_any : {E : Type 0} (r : Result Unit E) (source : List ℕ) (q : Program) (words : List ℤ) (old new : List ℕ) → IsSpelledAlone source q
    → OnOk r (new ≡ old ++ globals_text q words) → OnOk r ((p : Program) → IsSourceOf source p → new ≡ old ++ globals_text p words)
globals_of_any (Ok x) source q words old new alone is = λ p of. subst (λ p. new ≡ old ++ globals_text p words) (sym (alone.only p of.spells)) is
globals_of_any (Err e) source q words old new alone is = tt
