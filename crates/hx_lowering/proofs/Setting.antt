-- Where a call runs: in the program itself, or in an iteration of a region; and what each word does there.
use Rattle.std.proofs.Common.{◌≡◌, ℕ, ◌+◌, ◌^◌, ◌%◌, Bool, true, false, List, [], ◌∷◌, ◌++◌, length, Some, None, ℤ, pos, refl, sym, ap, subst, ◌∙◌, arith, if◌then◌else◌, length-append}
use Rattle.std.specs.Prelude.{nat_le, slice_set, slice_index_or}
use Rattle.hx_tree.specs.declared.token.Pos.{Pos}
use Rattle.hx_tree.specs.declared.outcome.Fault.{Fault}
use Rattle.hx_tree.specs.declared.outcome.FaultKind.TheVariants.{TextFull}
use Rattle.hx_tree.specs.declared.outcome.End.{End}
use Rattle.hx_tree.specs.declared.outcome.End.TheVariants as end
use Rattle.hx_tree.specs.declared.limits.TheConstants.{TEXT_LIMIT}
use Rattle.hx_code.specs.declared.word.Output.{Output}
use Rattle.hx_code.specs.declared.word.Ask.{Ask}
use Rattle.hx_code.specs.declared.word.Ask.TheVariants as ask
use Rattle.hx_code.specs.declared.word.Exit.TheVariants as exit
use Rattle.hx_code.specs.Code.{CodeView, region_of}
use Rattle.hx_code.specs.Call.{at_place, CallView, Asks, wants_at, fault_at, bytes_of}
use Rattle.hx_code.specs.Local.{LocalView, by_want, pushed, begun}
use Rattle.hx_code.specs.Region.{held, Opened, RegionState, region_want, into_cells, from_cells, with_counter, iteration_words}
use Rattle.hx_code.specs.Machine.{Machine, machine_step, does_want, region_next, opened_by, returns}

-- what a call changes beside itself: the store, the text and the whole turns since it was told of, and a count that no program sees
pub record Memory : Type 0 where
  pub store : List ℤ
  pub text : List ℕ
  pub turns : ℕ
  pub regions : ℕ

abbrev pub with_store : Memory → List ℤ → Memory
with_store m st = record m { store = st }

abbrev pub with_text : Memory → List ℕ → Memory
with_text m tx = record m { text = tx }

-- the machine ended so
pub record Ended (code : CodeView) (m : Machine) (e : End) (st : List ℤ) (tx : List ℕ) (n : ℕ) : Type 0 where
  pub finish : m.end ≡ Some e
  pub text : m.text ≡ tx
  pub store : m.store ≡ st
  pub turns : m.turns ≡ held n

-- a place for calls: the machine at each state of a call, with the text and the turns before it was told of, and what words do
pub record Setting (code : CodeView) : Type 0 where
  pub before : List ℕ
  pub turned : ℕ
  pub here : CallView → Memory → Machine
  pub running : (c : CallView) (m : Memory) → (here c m).end ≡ None
  pub goes : (c d : CallView) (m : Memory) → wants_at code c ≡ Asks ask.Goes d → machine_step code (here c m) ≡ here d m
  pub loads : (c d : CallView) (m : Memory) (a : ℕ) → wants_at code c ≡ Asks (ask.Loads a) d → machine_step code (here c m) ≡ here (pushed (slice_index_or m.store a (pos 0)) d) m
  pub stores : (c d : CallView) (m : Memory) (a : ℕ) (v : ℤ) → wants_at code c ≡ Asks (ask.Stores a v) d → machine_step code (here c m) ≡ here d (with_store m (slice_set m.store a v))
  pub prints : (c d : CallView) (m : Memory) (o : Output) (at : Pos) → wants_at code c ≡ Asks (ask.Prints o at) d
      → nat_le (length (before ++ m.text) + length (bytes_of o)) TEXT_LIMIT ≡ true → machine_step code (here c m) ≡ here d (with_text m (m.text ++ bytes_of o))
  pub fills : (c d : CallView) (m : Memory) (o : Output) (at : Pos) → wants_at code c ≡ Asks (ask.Prints o at) d
      → nat_le (length (before ++ m.text) + length (bytes_of o)) TEXT_LIMIT ≡ false
      → Ended code (machine_step code (here c m)) (end.Fault (fault_at TextFull at)) m.store (before ++ m.text) (turned + m.turns)
  pub faults : (c d : CallView) (m : Memory) (f : Fault) → wants_at code c ≡ Asks (ask.Faults f) d
      → Ended code (machine_step code (here c m)) (end.Fault f) m.store (before ++ m.text) (turned + m.turns)

pub chosen : {A : Type 0} (b : Bool) (x y : A) → b ≡ true → (if b then x else y) ≡ x
chosen b x y e = ap (λ t. if t then x else y) e

pub passed : {A : Type 0} (b : Bool) (x y : A) → b ≡ false → (if b then x else y) ≡ y
passed b x y e = ap (λ t. if t then x else y) e

-- ---- outside a region, where these calls are below

abbrev pub at_outside : List CallView → CallView → Memory → Machine
at_outside rest c m = record {
  local = record { below = 0; region = None; calls = c ∷ rest };
  store = m.store;
  text = m.text;
  turns = held m.turns;
  regions = m.regions;
  within = None;
  end = None;
}

pub outside_does : (code : CodeView) (rest : List CallView) (c d : CallView) (m : Memory) (a : Ask) → wants_at code c ≡ Asks a d
    → machine_step code (at_outside rest c m) ≡ does_want code (by_want code (record { below = 0; region = None; calls = c ∷ rest }) rest (Asks a d)) (at_outside rest c m)
outside_does code rest c d m a e = ap (λ w. does_want code (by_want code (record { below = 0; region = None; calls = c ∷ rest }) rest w) (at_outside rest c m)) e

abbrev pub ended_outside : List CallView → CallView → Memory → End → Machine
ended_outside rest c m e = record (at_outside rest c m) { end = Some e }

pub outside_ended : (code : CodeView) (rest : List CallView) (c : CallView) (m : Memory) (e : End) → Ended code (ended_outside rest c m e) e m.store m.text (0 + m.turns)
outside_ended code rest c m e = record { finish = refl; text = refl; store = refl; turns = let z : m.turns ≡ 0 + m.turns = omega arith in ap held z }

abbrev pub outside : (code : CodeView) → List CallView → Setting code
outside code rest = record {
  before = [];
  turned = 0;
  here = at_outside rest;
  running = λ c m. refl;
  goes = λ c d m e. outside_does code rest c d m _ e;
  loads = λ c d m a e. outside_does code rest c d m _ e;
  stores = λ c d m a v e. outside_does code rest c d m _ e;
  prints = λ c d m o at e f. outside_does code rest c d m _ e ∙ chosen _ (at_outside rest d (with_text m (m.text ++ bytes_of o))) (ended_outside rest d m (end.Fault (fault_at TextFull at))) f;
  fills = λ c d m o at e f. subst (λ x. Ended code x (end.Fault (fault_at TextFull at)) m.store m.text (0 + m.turns))
      (sym (outside_does code rest c d m _ e ∙ passed _ (at_outside rest d (with_text m (m.text ++ bytes_of o))) (ended_outside rest d m (end.Fault (fault_at TextFull at))) f))
      (outside_ended code rest d m _);
  faults = λ c d m f e. subst (λ x. Ended code x (end.Fault f) m.store m.text (0 + m.turns)) (sym (outside_does code rest c d m _ e)) (outside_ended code rest d m _);
}

-- ---- in an iteration of a region

pub held_more : (a b : ℕ) → held (held a + held b) ≡ held (a + b)
held_more a b = omega arith

pub held_one : (n : ℕ) → held (held n + 1) ≡ held (n + 1)
held_one n = omega arith

-- the call that opened the region, the calls below it, and what was before; and the number of the iteration, modulo 2 ^ 64
pub record Opener : Type 0 where
  pub region : ℕ
  pub call : CallView
  pub rest : List CallView
  pub store : List ℤ
  pub text : List ℕ
  pub turns : ℕ
  pub regions : ℕ
  pub iteration : ℕ

-- another iteration of the same region
abbrev pub at_turn : Opener → ℕ → Opener
at_turn o j = record o { iteration = j }

abbrev pub next_turn : Opener → ℕ
next_turn o = (o.iteration + 1) % 2 ^ 64

abbrev pub opener_local : Opener → LocalView
opener_local o = record { below = 0; region = None; calls = o.call ∷ o.rest }

abbrev pub opened_so : Opener → Opened
opened_so o = opened_by o.region (opener_local o) o.text

abbrev pub iteration_local : Opener → List CallView → CallView → LocalView
iteration_local o rest c = record { below = (opened_so o).below; region = Some o.region; calls = c ∷ rest }

abbrev pub at_iteration : Opener → List CallView → CallView → Memory → RegionState
at_iteration o rest c m = record {
  opened = opened_so o;
  iteration = o.iteration;
  local = iteration_local o rest c;
  store = m.store;
  text = m.text;
  turns = held m.turns;
  exit = None;
}

abbrev pub outer : Opener → Machine
outer o = record { local = opener_local o; store = o.store; text = o.text; turns = held o.turns; regions = o.regions; within = None; end = None }

abbrev pub at_inside : Opener → List CallView → CallView → Memory → Machine
at_inside o rest c m = record (outer o) { within = Some (at_iteration o rest c m) }

-- the machine once an iteration is so
abbrev pub then_so : CodeView → Opener → RegionState → Machine → Machine
then_so code o z m = region_next code z.exit z m

pub inside_does : (code : CodeView) (o : Opener) (rest : List CallView) (c d : CallView) (m : Memory) (a : Ask) → wants_at code c ≡ Asks a d
    → machine_step code (at_inside o rest c m)
    ≡ then_so code o (region_want code (by_want code (iteration_local o rest c) rest (Asks a d)) (at_iteration o rest c m)) (at_inside o rest c m)
inside_does code o rest c d m a e =
    ap (λ w. then_so code o (region_want code (by_want code (iteration_local o rest c) rest w) (at_iteration o rest c m)) (at_inside o rest c m)) e

abbrev pub ended_inside : Opener → Memory → End → Machine
ended_inside o m e = record (outer o) { store = m.store; text = o.text ++ m.text; turns = held (held o.turns + held m.turns); regions = held (o.regions + 1); end = Some e }

pub inside_ended : (code : CodeView) (o : Opener) (m : Memory) (e : End) → Ended code (ended_inside o m e) e m.store (o.text ++ m.text) (o.turns + m.turns)
inside_ended code o m e = record { finish = refl; text = refl; store = refl; turns = held_more o.turns m.turns }

pub fit : (o : Opener) (m : Memory) (out : Output) (b : Bool) → nat_le (length (o.text ++ m.text) + length (bytes_of out)) TEXT_LIMIT ≡ b
    → nat_le (length o.text + length m.text + length (bytes_of out)) TEXT_LIMIT ≡ b
fit o m out b f = ap (λ n. nat_le (n + length (bytes_of out)) TEXT_LIMIT) (sym (length-append o.text m.text)) ∙ f

abbrev pub inside : (code : CodeView) → Opener → List CallView → Setting code
inside code o rest = record {
  before = o.text;
  turned = o.turns;
  here = at_inside o rest;
  running = λ c m. refl;
  goes = λ c d m e. inside_does code o rest c d m _ e;
  loads = λ c d m a e. inside_does code o rest c d m _ e;
  stores = λ c d m a v e. inside_does code o rest c d m _ e;
  prints = λ c d m out at e f. inside_does code o rest c d m _ e
      ∙ ap (λ (z : RegionState). then_so code o z (at_inside o rest c m)) (chosen _ (at_iteration o rest d (with_text m (m.text ++ bytes_of out))) _ (fit o m out true f));
  fills = λ c d m out at e f. subst (λ x. Ended code x (end.Fault (fault_at TextFull at)) m.store (o.text ++ m.text) (o.turns + m.turns))
      (sym (inside_does code o rest c d m _ e
      ∙ ap (λ (z : RegionState). then_so code o z (at_inside o rest c m)) (passed _ (at_iteration o rest d (with_text m (m.text ++ bytes_of out))) (record (at_iteration o rest d m) { exit = Some (exit.Faulted (fault_at TextFull at)) }) (fit o m out false f))))
      (inside_ended code o m _);
  faults = λ c d m f e. subst (λ x. Ended code x (end.Fault f) m.store (o.text ++ m.text) (o.turns + m.turns)) (sym (inside_does code o rest c d m _ e)) (inside_ended code o m _);
}

-- ---- a region opens, turns and is left

pub opens_at : (code : CodeView) (rest : List CallView) (c : CallView) (m : Memory) (r t : ℕ) → wants_at code c ≡ Asks (ask.Enters r t) c
    → machine_step code (at_outside rest c m)
    ≡ at_inside (record { region = r; call = c; rest = rest; store = m.store; text = m.text; turns = m.turns; regions = m.regions; iteration = 0 }) []
    (begun (region_of code r).start (iteration_words (region_of code r) c.privates 0))
    (record { store = into_cells code.globals (region_of code r).carried c.privates m.store; text = []; turns = 0; regions = 0 })
opens_at code rest c m r t e = outside_does code rest c c m _ e

pub turns_at : (code : CodeView) (o : Opener) (c d : CallView) (m : Memory) → wants_at code c ≡ Asks ask.Turns d
    → machine_step code (at_inside o [] c m)
    ≡ at_inside (at_turn o (next_turn o)) [] (begun (region_of code o.region).start (iteration_words (region_of code o.region) o.call.privates (next_turn o)))
    (record m { turns = m.turns + 1 })
turns_at code o c d m e =
    inside_does code o [] c d m _ e
    ∙ ap (λ n. record (outer o) { within = Some (record (at_iteration (at_turn o (next_turn o)) [] (begun (region_of code o.region).start (iteration_words (region_of code o.region) o.call.privates (next_turn o))) m) { turns = n }) }) (held_one m.turns)

-- the private words of the call that opened the region, as it is left
abbrev pub words_left : CodeView → Opener → List ℤ → List ℤ
words_left code o st =
    let g = region_of code o.region in
    with_counter g.induct o.call.privates o.iteration (from_cells code.globals g.carried st o.call.privates)

pub leaves_at : (code : CodeView) (o : Opener) (c d : CallView) (m : Memory) → wants_at code c ≡ Asks ask.Leaves d
    → machine_step code (at_inside o [] c m)
    ≡ at_outside o.rest (record { place = (region_of code o.region).exit; privates = words_left code o m.store; operands = o.call.operands })
    (record { store = m.store; text = o.text ++ m.text; turns = o.turns + m.turns; regions = held (o.regions + 1) })
leaves_at code o c d m e =
    inside_does code o [] c d m _ e
    ∙ ap (λ n. record (outer o) {
      local = record { below = 0; region = None; calls = record { place = (region_of code o.region).exit; privates = words_left code o m.store; operands = o.call.operands } ∷ o.rest };
      store = m.store;
      text = o.text ++ m.text;
      turns = n;
      regions = held (o.regions + 1);
    }) (held_more o.turns m.turns)

-- ---- both

-- a call outside a region, with those below it; or one of an iteration, with those of the iteration below it
pub data Ground : Type 0 where
  Outside : (rest : List CallView) → Ground
  Inside : (opener : Opener) (rest : List CallView) → Ground

abbrev pub setting_of : (code : CodeView) → Ground → Setting code
setting_of code (Outside rest) = outside code rest
setting_of code (Inside o rest) = inside code o rest

abbrev pub is_active : Ground → Bool
is_active (Outside rest) = false
is_active (Inside o rest) = true

-- while a region is active its loop is a plain one
pub enters_plain : (code : CodeView) (K : Ground) (c : CallView) (m : Memory) (r t : ℕ) → is_active K ≡ true → wants_at code c ≡ Asks (ask.Enters r t) c
    → machine_step code ((setting_of code K).here c m) ≡ (setting_of code K).here (at_place c t c.operands) m
enters_plain code (Outside rest) c m r t active e = absurd cc
enters_plain code (Inside o rest) c m r t active e = inside_does code o rest c c m _ e

-- the memory behind a region
abbrev pub memory_behind : Opener → Memory → Memory
memory_behind o m = record { store = m.store; text = o.text ++ m.text; turns = o.turns + m.turns; regions = held (o.regions + 1) }

-- the machine once the call has returned a value
abbrev pub OutsideBack : CodeView → List CallView → ℤ → Memory → Machine → Type 0
OutsideBack code [] v m x = Ended code x (end.Normal v) m.store m.text m.turns
OutsideBack code (c ∷ rest) v m x = x ≡ at_outside rest (pushed v c) m

abbrev pub InsideBack : CodeView → Opener → List CallView → ℤ → Memory → Machine → Type 0
InsideBack code o [] v m x = OutsideBack code o.rest v (memory_behind o m) x
InsideBack code o (c ∷ rest) v m x = x ≡ at_inside o rest (pushed v c) m

abbrev pub Back : CodeView → Ground → ℤ → Memory → Machine → Type 0
Back code (Outside rest) v m x = OutsideBack code rest v m x
Back code (Inside o rest) v m x = InsideBack code o rest v m x

outside_returns : (code : CodeView) (rest : List CallView) (c d : CallView) (m : Memory) (v : ℤ) → wants_at code c ≡ Asks (ask.Returns v) d → OutsideBack code rest v m (machine_step code (at_outside rest c m))
outside_returns code [] c d m v e =
    subst (λ x. Ended code x (end.Normal v) m.store m.text m.turns) (sym (outside_does code [] c d m _ e)) (record { finish = refl; text = refl; store = refl; turns = refl })
outside_returns code (b ∷ rest) c d m v e = outside_does code (b ∷ rest) c d m _ e

inside_returns : (code : CodeView) (o : Opener) (rest : List CallView) (c d : CallView) (m : Memory) (v : ℤ) → wants_at code c ≡ Asks (ask.Returns v) d → InsideBack code o rest v m (machine_step code (at_inside o rest c m))
inside_returns code o [] c d m v e = subst (OutsideBack code o.rest v (memory_behind o m)) (sym (inside_does code o [] c d m _ e)) (go o.rest)
  where
    go : (rest : List CallView) → OutsideBack code rest v (memory_behind o m)
        (returns v (o.call ∷ rest) (record {
          local = record { below = 0; region = None; calls = o.call ∷ rest };
          store = m.store;
          text = o.text ++ m.text;
          turns = held (held o.turns + held m.turns);
          regions = held (o.regions + 1);
          within = None;
          end = None;
        }))
    go [] = record { finish = refl; text = refl; store = refl; turns = held_more o.turns m.turns }
    go (b ∷ rest) = ap (λ n. record (at_outside rest (pushed v b) (memory_behind o m)) { turns = n }) (held_more o.turns m.turns)
inside_returns code o (b ∷ rest) c d m v e = inside_does code o (b ∷ rest) c d m _ e

pub returns_back : (code : CodeView) (K : Ground) (c d : CallView) (m : Memory) (v : ℤ) → wants_at code c ≡ Asks (ask.Returns v) d → Back code K v m (machine_step code ((setting_of code K).here c m))
returns_back code (Outside rest) c d m v e = outside_returns code rest c d m v e
returns_back code (Inside o rest) c d m v e = inside_returns code o rest c d m v e
