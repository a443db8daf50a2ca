-- The machine at a place of a call, where the program is in a world.
use Rattle.std.proofs.Common.{◌≡◌, ℕ, suc, ◌+◌, ◌≤◌, Bool, true, false, List, ◌∷◌, ◌++◌, length, take, drop, Some, None, ℤ, pos, refl, sym, ap, subst, ◌∙◌, arith, if◌then◌else◌, append_assoc}
use Rattle.std.specs.Prelude.{nat_le, slice_set, slice_get, slice_index_or, map}
use Rattle.hx_tree.specs.declared.token.Pos.{Pos}
use Rattle.hx_tree.specs.declared.outcome.Fault.{Fault}
use Rattle.hx_tree.specs.declared.outcome.FaultKind.TheVariants.{TextFull}
use Rattle.hx_tree.specs.declared.outcome.End.{End}
use Rattle.hx_tree.specs.declared.outcome.End.TheVariants as end
use Rattle.hx_tree.specs.declared.limits.TheConstants.{TEXT_LIMIT, CELL_LIMIT}
use Rattle.hx_tree.specs.Tree.{Program}
use Rattle.hx_tree.specs.World.{World, Answer, Gives, Faults, Run, and_then, print_bytes, ◌>>=◌}
use Rattle.hx_tree.specs.Meaning.{ending, globals_of}
use Rattle.hx_tree.specs.Accepted.{shape_words}
use Rattle.hx_code.specs.declared.word.Word.{Word}
use Rattle.hx_code.specs.declared.word.Output.{Output}
use Rattle.hx_code.specs.declared.word.Ask.TheVariants as ask
use Rattle.hx_code.specs.Code.{CodeView}
use Rattle.hx_code.specs.Call.{CallView, Asks, wants, wants_of, wants_at, fault_at, bytes_of}
use Rattle.hx_code.specs.Machine.{Machine, machine_step}
use Rattle.hx_lowering.specs.Correct.{Shows}
use Rattle.hx_lowering.proofs.Globals.{Layout, store_from, words_in, flat_store}
use Rattle.hx_lowering.proofs.Follow.{Follows, steps_to, turns_to, faults_at}
use Rattle.hx_lowering.proofs.Setting.{Memory, with_store, with_text, Ended, Setting, Ground, setting_of, is_active}

abbrev pub layout_of : Program → Layout
layout_of p = map (λ g. (g.name.text, shape_words g.shape)) (globals_of p)

abbrev pub call_at : ℕ → List ℤ → List ℤ → CallView
call_at place ps os = record { place = place; privates = ps; operands = os }

module _ (p : Program) (code : CodeView) (K : Ground) where
  abbrev S : Setting code
  S = setting_of code K

  -- the world of a memory
  abbrev pub world_at : Memory → World
  world_at m = record { store = store_from (layout_of p) 0 m.store; text = S.before ++ m.text; turns = S.turned + m.turns }

  -- the machine stands at a place of a call with these private words and operands, in a world; while a region is active the cells
  -- are these
  pub record At (place : ℕ) (ps os cells : List ℤ) (w : World) (m : Machine) : Type 0 where
    pub memory : Memory
    pub is : m ≡ S.here (call_at place ps os) memory
    pub world : w ≡ world_at memory
    pub room : words_in (layout_of p) + CELL_LIMIT ≤ length memory.store
    pub cells_are : is_active K ≡ true → drop (words_in (layout_of p)) memory.store ≡ cells

  pub at_place : (place place' : ℕ) (ps os cells : List ℤ) (w : World) (m : Machine) → place ≡ place' → At place ps os cells w m → At place' ps os cells w m
  at_place place place' ps os cells w m e h = subst (λ q. At q ps os cells w m) e h

  -- the globals lie in the store
  pub roomy : (place : ℕ) (ps os cells : List ℤ) (w : World) (m : Machine) (h : At place ps os cells w m) → words_in (layout_of p) ≤ length h.memory.store
  roomy place ps os cells w m h = let r = h.room in omega (arith, r)

  pub not_over : (place : ℕ) (ps os cells : List ℤ) (w : World) (m : Machine) → At place ps os cells w m → m.end ≡ None
  not_over place ps os cells w m h = ap (λ (x : Machine). x.end) h.is ∙ S.running _ _

  wanted : (c : CallView) (word : Word) → slice_get code.words c.place ≡ Some word → wants_at code c ≡ wants word c
  wanted c word e = ap (λ o. wants_of o c) e

  -- a word that asks nothing
  pub goes_to : {A : Type 0} (n place place' : ℕ) (ps ps' os os' cells : List ℤ) (w : World) (m : Machine) (word : Word) (a : Answer A) (Done : A → World → Machine → Type 0)
      → At place ps os cells w m → slice_get code.words place ≡ Some word → wants word (call_at place ps os) ≡ Asks ask.Goes (call_at place' ps' os')
      → ((m' : Machine) → At place' ps' os' cells w m' → Follows code n m' a Done) → Follows code n m a Done
  goes_to n place place' ps ps' os os' cells w m word a Done h stands asks k =
      steps_to code n m (S.here (call_at place' ps' os') h.memory) a Done
      (ap (machine_step code) h.is ∙ S.goes _ _ h.memory (wanted (call_at place ps os) word stands ∙ asks))
      (k _ (record { memory = h.memory; is = refl; world = h.world; room = h.room; cells_are = h.cells_are }))

  -- a word that asks nothing, at the end of a turn
  pub turns_back : {A : Type 0} (n place place' : ℕ) (ps ps' os os' cells : List ℤ) (w : World) (m : Machine) (word : Word) (a : Answer A) (Done : A → World → Machine → Type 0)
      → At place ps os cells w m → slice_get code.words place ≡ Some word → wants word (call_at place ps os) ≡ Asks ask.Goes (call_at place' ps' os')
      → ((m' : Machine) → At place' ps' os' cells w m' → Follows code n m' a Done) → Follows code (suc n) m a Done
  turns_back n place place' ps ps' os os' cells w m word a Done h stands asks k =
      turns_to code n m (S.here (call_at place' ps' os') h.memory) a Done
      (ap (machine_step code) h.is ∙ S.goes _ _ h.memory (wanted (call_at place ps os) word stands ∙ asks))
      (k _ (record { memory = h.memory; is = refl; world = h.world; room = h.room; cells_are = h.cells_are }))

  -- a word of the store on top
  pub loads_to : {A : Type 0} (n place place' : ℕ) (ps os os' cells : List ℤ) (w : World) (m : Machine) (word : Word) (b : ℕ) (v : ℤ) (a : Answer A) (Done : A → World → Machine → Type 0)
      → (h : At place ps os cells w m) → slice_get code.words place ≡ Some word → wants word (call_at place ps os) ≡ Asks (ask.Loads b) (call_at place' ps os')
      → slice_index_or h.memory.store b (pos 0) ≡ v
      → ((m' : Machine) → At place' ps (v ∷ os') cells w m' → Follows code n m' a Done) → Follows code n m a Done
  loads_to n place place' ps os os' cells w m word b v a Done h stands asks is_v k =
      steps_to code n m (S.here (call_at place' ps (v ∷ os')) h.memory) a Done
      (ap (machine_step code) h.is ∙ S.loads _ _ h.memory b (wanted (call_at place ps os) word stands ∙ asks) ∙ ap (λ x. S.here (call_at place' ps (x ∷ os')) h.memory) is_v)
      (k _ (record { memory = h.memory; is = refl; world = h.world; room = h.room; cells_are = h.cells_are }))

  -- a word of the store is written
  pub stores_to : {A : Type 0} (n place place' : ℕ) (ps os os' cells cells' : List ℤ) (w w' : World) (m : Machine) (word : Word) (b : ℕ) (v : ℤ) (a : Answer A) (Done : A → World → Machine → Type 0)
      → (h : At place ps os cells w m) → slice_get code.words place ≡ Some word → wants word (call_at place ps os) ≡ Asks (ask.Stores b v) (call_at place' ps os')
      → w' ≡ world_at (with_store h.memory (slice_set h.memory.store b v))
      → words_in (layout_of p) + CELL_LIMIT ≤ length (slice_set h.memory.store b v)
      → (is_active K ≡ true → drop (words_in (layout_of p)) (slice_set h.memory.store b v) ≡ cells')
      → ((m' : Machine) → At place' ps os' cells' w' m' → Follows code n m' a Done) → Follows code n m a Done
  stores_to n place place' ps os os' cells cells' w w' m word b v a Done h stands asks world room cells_are k =
      steps_to code n m (S.here (call_at place' ps os') (with_store h.memory (slice_set h.memory.store b v))) a Done
      (ap (machine_step code) h.is ∙ S.stores _ _ h.memory b v (wanted (call_at place ps os) word stands ∙ asks))
      (k _ (record { memory = with_store h.memory (slice_set h.memory.store b v); is = refl; world = world; room = room; cells_are = cells_are }))

  -- the end that the machine shows is that of the world
  pub shows : code.globals ≡ words_in (layout_of p) → (m : Machine) (e : End) (memory : Memory) → Ended code m e memory.store (S.before ++ memory.text) (S.turned + memory.turns) → Shows code m (ending e (world_at memory))
  shows globals m e memory h = record {
    finish = h.finish;
    text = h.text;
    globals = ap (take code.globals) h.store ∙ ap (λ n. take n memory.store) globals ∙ sym (flat_store (layout_of p) 0 memory.store);
    turns = h.turns;
  }

  -- a word that ends the run by a fault
  pub faults_to : {A : Type 0} (n place : ℕ) (ps os cells : List ℤ) (w : World) (m : Machine) (word : Word) (d : CallView) (f : Fault) (Done : A → World → Machine → Type 0)
      → code.globals ≡ words_in (layout_of p)
      → At place ps os cells w m → slice_get code.words place ≡ Some word → wants word (call_at place ps os) ≡ Asks (ask.Faults f) d → Follows code n m (Faults f w) Done
  faults_to n place ps os cells w m word d f Done globals h stands asks =
      faults_at code n m f w Done
      (subst (λ x. Shows code (machine_step code x) (ending (end.Fault f) w)) (sym h.is)
      (subst (λ x. Shows code (machine_step code (S.here (call_at place ps os) h.memory)) (ending (end.Fault f) x)) (sym h.world)
      (shows globals _ _ h.memory (S.faults _ d h.memory f (wanted (call_at place ps os) word stands ∙ asks)))))

  -- text is printed, or is too much
  pub prints_to : {A : Type 0} (n place place' : ℕ) (ps os os' cells : List ℤ) (w : World) (m : Machine) (word : Word) (o : Output) (at : Pos) (f : Unit {0} → Run A) (Done : A → World → Machine → Type 0)
      → code.globals ≡ words_in (layout_of p)
      → At place ps os cells w m → slice_get code.words place ≡ Some word → wants word (call_at place ps os) ≡ Asks (ask.Prints o at) (call_at place' ps os')
      → ((w' : World) (m' : Machine) → At place' ps os' cells w' m' → Follows code n m' (f tt w') Done) → Follows code n m ((print_bytes at (bytes_of o) >>= f) w) Done
  prints_to n place place' ps os os' cells w m word o at f Done globals h stands asks k =
      subst (λ x. Follows code n m ((print_bytes at (bytes_of o) >>= f) x) Done) (sym h.world) (go (nat_le (length (S.before ++ h.memory.text) + length (bytes_of o)) TEXT_LIMIT) refl)
    where
      m0 : Memory
      m0 = h.memory

      printed : World
      printed = record (world_at h.memory) { text = S.before ++ h.memory.text ++ bytes_of o }

      after : Bool → Type 0
      after b = Follows code n m (and_then (if b then Gives tt printed else Faults (fault_at TextFull at) (world_at h.memory)) f) Done

      go : (b : Bool) → nat_le (length (S.before ++ h.memory.text) + length (bytes_of o)) TEXT_LIMIT ≡ b → after b
      go true e =
          steps_to code n m (S.here (call_at place' ps os') (with_text h.memory (h.memory.text ++ bytes_of o))) (f tt printed) Done
          (ap (machine_step code) h.is ∙ S.prints _ _ h.memory o at (wanted (call_at place ps os) word stands ∙ asks) e)
          (k printed _ (record {
            memory = with_text h.memory (h.memory.text ++ bytes_of o);
            is = refl;
            world = ap (λ tx. record (world_at h.memory) { text = tx }) (append_assoc S.before h.memory.text (bytes_of o));
            room = h.room;
            cells_are = h.cells_are;
          }))
      go false e =
          faults_at code n m (fault_at TextFull at) (world_at h.memory) Done
          (subst (λ x. Shows code (machine_step code x) (ending (end.Fault (fault_at TextFull at)) (world_at h.memory))) (sym h.is)
          (shows globals _ _ h.memory (S.fills _ _ h.memory o at (wanted (call_at place ps os) word stands ∙ asks) e)))
