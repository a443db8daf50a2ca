-- What holds of the iterations of a quiet loop, through loads and stores.
use Rattle.std.proofs.Common.{◌≡◌, ◌≢◌, ℕ, suc, ◌<◌, ◌≤◌, ℤ, ◌⊎◌, inl, inr, Bool, true, false, ◌&&◌, ◌==◌, not, List, [], ◌∷◌, length, map, Option, Some, None, refl, sym, ap, ◌∙◌, subst, arith}
use Rattle.std.specs.Prelude.{if◌then◌else◌, nat_le, is_some}
use Rattle.std.proofs.lemmas.Bool.{false≢true}
use Rattle.hx_marks.specs.Table.{Table, look, put}
use Rattle.hx_marks.proofs.Tables.{look_put_own, look_put_other}
use Rattle.hx_buffer.specs.Overlay.{or_else}
use Rattle.hx_speculation.specs.Iteration.{Store, overlay, Agrees, Loads, Stores}
use Rattle.hx_speculation.specs.Region.{Region}
use Rattle.hx_speculation.specs.Frame.{Frame, Nothing, ForLoad, ForStore, IsTracked, is_full, loaded, stored}
use Rattle.hx_speculation.specs.Slots.{Slot, is_at, restarted, may_restart, Found, Known, New, MarksFull, LoadLost, finds_seen, finds_own, found, with_mark, differs, is_violated, violated, squashed, is_marked, Written, Restarts, BufferFull, NumbersEnd, StoreLost, writes_own, written, with_write}
use Rattle.hx_speculation.specs.Board.{Token}
use Rattle.hx_speculation.specs.Replay.{Running, with_running}
use Rattle.hx_speculation.specs.Watch.{in_turn, ComesWatched, Begins, Exposed, Wrote, IsIndependent, IsQuiet}
use Rattle.hx_speculation.specs.Attempts.{HasCommittedNone}
use Rattle.hx_speculation.proofs.Stores.{if_cases, and_left, and_right, eq_true, eq_same, same_or_not}
use Rattle.hx_speculation.proofs.Watch.{watched_comes, Source, knows, begins_before}
use Rattle.hx_speculation.proofs.Slots.{is_other}
use Rattle.hx_speculation.proofs.Track.{exposed_here, wrote_here}
use Rattle.hx_speculation.proofs.Links.{workers, Apart, Distinct, InSync, Empty, Linked, Links, links_apart, worker_link, squash_links, IsSameBut, same_sync, loaded_is, stored_is}

-- where no slot is the worker's, there is no such attempt
load_lost : {σ : Type 0} (capacity w attempt a : ℕ) (u : ℤ) (xs : List (Slot σ)) → Apart w (workers xs) → found capacity w attempt a u xs ≡ LoadLost
load_lost capacity w attempt a u [] n = refl
load_lost capacity w attempt a u (x ∷ xs) n =
    if_cases (λ z. z ≡ LoadLost) (is_at x w attempt) (finds_own capacity a u x (look x.buffer a)) (found capacity w attempt a (or_else (look x.buffer a) u) xs)
    (λ k. absurd (n.0 (eq_true x.worker w (and_left _ _ k))))
    (λ _. load_lost capacity w attempt a (or_else (look x.buffer a) u) xs n.1)

store_lost : {σ : Type 0} (capacity w attempt a : ℕ) (v : ℤ) (xs : List (Slot σ)) → Apart w (workers xs) → written capacity w attempt a v xs ≡ StoreLost
store_lost capacity w attempt a v [] n = refl
store_lost capacity w attempt a v (x ∷ xs) n =
    if_cases (λ z. z ≡ StoreLost) (is_at x w attempt) (writes_own capacity a v x xs) (written capacity w attempt a v xs)
    (λ k. absurd (n.0 (eq_true x.worker w (and_left _ _ k))))
    (λ _. store_lost capacity w attempt a v xs n.1)

-- the slot of a call, and the ones before it
module _ {σ : Type 0} (w attempt a : ℕ) (v : ℤ) (x : Slot σ) (xs : List (Slot σ)) where
  mark_here : is_at x w attempt ≡ true → with_mark w attempt a v (x ∷ xs) ≡ record x { marks = put x.marks a v } ∷ xs
  mark_here k = ap (λ (b : Bool). if b then (record x { marks = put x.marks a v } ∷ xs) else (x ∷ with_mark w attempt a v xs)) k

  mark_past : is_at x w attempt ≡ false → with_mark w attempt a v (x ∷ xs) ≡ x ∷ with_mark w attempt a v xs
  mark_past k = ap (λ (b : Bool). if b then (record x { marks = put x.marks a v } ∷ xs) else (x ∷ with_mark w attempt a v xs)) k

  write_here : is_at x w attempt ≡ true → with_write w attempt a v (x ∷ xs) ≡ record x { buffer = put x.buffer a v } ∷ squashed a v xs
  write_here k = ap (λ (b : Bool). if b then (record x { buffer = put x.buffer a v } ∷ squashed a v xs) else (x ∷ with_write w attempt a v xs)) k

  write_past : is_at x w attempt ≡ false → with_write w attempt a v (x ∷ xs) ≡ x ∷ with_write w attempt a v xs
  write_past k = ap (λ (b : Bool). if b then (record x { buffer = put x.buffer a v } ∷ squashed a v xs) else (x ∷ with_write w attempt a v xs)) k

pub independent_is_quiet : {σ : Type 0} (r : Region σ) (entry : Store) → IsIndependent r entry → IsQuiet r entry
independent_is_quiet r entry h i j a v lt w e = absurd (h i j a v lt w e)

-- at the beginning of a turn, what it is going to read before it writes it is as in the entry
pub opening_clean : {σ : Type 0} (r : Region σ) (entry : Store) (k : ℕ) (q : σ) (s : Store) (text : List ℕ) → IsQuiet r entry → ComesWatched r entry (in_turn k q s text []) → (a : ℕ) → Exposed r entry k a → s a ≡ entry a
opening_clean r entry k q s text quiet c a e = by ((knows r entry k q s text [] c).source a)
  where
    by : Source r entry s k [] a → s a ≡ entry a
    by (inl h) = h
    by (inr (inl h)) = quiet h.0 k a (s a) h.1 h.2 e
    by (inr (inr h)) = absurd (let gone = h.1.1 in cc)

-- of the board that has this head, store and text
module _ {σ : Type 0} (r : Region σ) (entry : Store) (head : ℕ) (s : Store) (text : List ℕ) where
  -- of an iteration that the plain region begins
  pub record SlotFacts (j : ℕ) (x : Slot σ) : Type 0 where
    pub once : x.attempt ≡ 1
    pub marks : (a : ℕ) (v : ℤ) → HasCommittedNone r entry head s text j x.start → look x.marks a ≡ Some v → Exposed r entry j a × (v ≡ entry a)
    pub words : (a : ℕ) (v : ℤ) → look x.buffer a ≡ Some v → Wrote r entry j a v

  abbrev pub Facts : ℕ → List (Slot σ) → Type 0
  Facts j [] = Unit {0}
  Facts j (x ∷ xs) = (Begins r entry j → SlotFacts j x) × Facts (suc j) xs

  facts_none : (j : ℕ) (xs : List (Slot σ)) → (Begins r entry j → ⊥) → Facts j xs
  facts_none j [] n = tt
  facts_none j (x ∷ xs) n = ((λ b. absurd (n b)), facts_none (suc j) xs (λ b. n (begins_before r entry j (suc j) (omega arith) b)))

  -- where the plain turn began, for an iteration that has committed no word
  abbrev pub FirstAnchor : ℕ → Slot σ → Type 0
  FirstAnchor j x = (u : Store) × (t : List ℕ) × ComesWatched r entry (in_turn j x.start u t []) × Agrees u x.marks

  -- where the plain turn is, as the slot's start has it
  pub record Anchor (j : ℕ) (x : Slot σ) : Type 0 where
    pub store : Store
    pub out : List ℕ
    pub writes : Table
    pub comes : ComesWatched r entry (in_turn j x.start store out writes)
    pub agrees : Agrees store x.marks
    pub first : HasCommittedNone r entry head s text j x.start → FirstAnchor j x

  abbrev pub Anchored : ℕ → List (Slot σ) → Type 0
  Anchored j [] = Unit {0}
  Anchored j (x ∷ xs) = (Begins r entry j → Anchor j x) × Anchored (suc j) xs

  -- what later turns read is as in the entry
  abbrev pub Clean : ℕ → Store → Type 0
  Clean j seen = (i b : ℕ) → j ≤ i → head < i → Exposed r entry i b → seen b ≡ entry b

  exposed_begins : (j a : ℕ) → Exposed r entry j a → Begins r entry j
  exposed_begins j a e = (e.0, e.1, e.2, watched_comes r entry j e.0 e.1 e.2 e.3 e.5)

  module _ (quiet : IsQuiet r entry) where
    clean_at : (j i b : ℕ) (seen : Store) (x : Slot σ) (o : Option ℤ) → look x.buffer b ≡ o → Clean j seen → (Begins r entry j → SlotFacts j x) → suc j ≤ i → head < i → Exposed r entry i b → or_else o (seen b) ≡ entry b
    clean_at j i b seen x None e c f le lt ex = c i b (omega (arith, le)) lt ex
    clean_at j i b seen x (Some v) e c f le lt ex =
        quiet j i b v (omega (arith, le)) ((f (begins_before r entry j i (omega (arith, le)) (exposed_begins i b ex))).words b v e) ex

    clean_next : (j : ℕ) (seen : Store) (x : Slot σ) → Clean j seen → (Begins r entry j → SlotFacts j x) → Clean (suc j) (overlay x.buffer seen)
    clean_next j seen x c f i b le lt ex = clean_at j i b seen x (look x.buffer b) refl c f le lt ex

    -- what the iteration itself reads
    clean_here : (j a : ℕ) (seen : Store) (x : Slot σ) → Clean j seen → (j ≡ head → seen ≡ s) → HasCommittedNone r entry head s text j x.start → Exposed r entry j a → seen a ≡ entry a
    clean_here j a seen x c at_head (inl lt) ex = c j a (omega arith) lt ex
    clean_here j a seen x c at_head (inr k) ex = ap (λ (u : Store). u a) (at_head k.0) ∙ opening_clean r entry j x.start s text quiet k.1 a ex

    -- where a store leaves the word as it is in the entry for an iteration, so it is for the next
    seen_next : (j i a : ℕ) (u : ℤ) (x : Slot σ) (o : Option ℤ) → look x.buffer a ≡ o → (Begins r entry j → SlotFacts j x) → suc j ≤ i → Exposed r entry i a → u ≡ entry a → or_else o u ≡ entry a
    seen_next j i a u x None e f le ex is_entrys = is_entrys
    seen_next j i a u x (Some v) e f le ex is_entrys =
        quiet j i a v (omega (arith, le)) ((f (begins_before r entry j i (omega (arith, le)) (exposed_begins i a ex))).words a v e) ex

    -- stores restart no iteration that the plain region begins
    squash_facts : (j a : ℕ) (u : ℤ) (xs : List (Slot σ)) → head < j → ((i : ℕ) → j ≤ i → Exposed r entry i a → u ≡ entry a) → Facts j xs → Facts j (squashed a u xs)
    squash_facts j a u [] lt n f = tt
    squash_facts j a u (x ∷ xs) lt n f =
        if_cases (Facts j) (is_violated a u x) (map restarted (x ∷ xs)) (x ∷ squashed a (or_else (look x.buffer a) u) xs)
        (λ k. facts_none j (map restarted (x ∷ xs)) (λ b. marked (look x.marks a) refl k b))
        (λ _. (f.0, squash_facts (suc j) a (or_else (look x.buffer a) u) xs (omega arith) (λ i le ex. seen_next j i a u x (look x.buffer a) refl f.0 le ex (n i (omega arith) ex)) f.1))
      where
        marked : (o : Option ℤ) → look x.marks a ≡ o → differs o u ≡ true → Begins r entry j → ⊥
        marked None e k b = false≢true k
        marked (Some v) e k b = let m = (f.0 b).marks a v (inl lt) e in is_other v u k (m.1 ∙ sym (n j (omega arith) m.0))

    -- a worker's frame y has run on to f
    module _ (g : ℕ → Option (Running σ)) (w : ℕ) (y : Running σ) (is : g w ≡ Some y) (f : Frame σ) (same : IsSameBut y.frame f) (token : Option Token) (tracked : IsTracked r.ask f) where
      -- the slot of its call is the frame's
      sync_at : (x : Slot σ) → is_at x w f.attempt ≡ true → Linked (g x.worker) x → InSync f x
      sync_at x k l = by (subst (λ o. Linked o x) (ap g (eq_true x.worker w (and_left _ _ k)) ∙ is) l)
        where
          by : Linked (Some y) x → InSync f x
          by (inl e) = let t : x.attempt ≡ f.attempt = eq_true x.attempt f.attempt (and_right (x.worker == w) (x.attempt == f.attempt) k) in absurd (omega (arith, e.0, same.attempt, t))
          by (inr k) = same_sync y.frame f same x k

      -- another slot keeps its link, whatever the worker does next, and a slot of the worker is empty
      other_link : (x : Slot σ) (o : Option (Running σ)) → is_at x w f.attempt ≡ false → Linked (g x.worker) x → (x.worker ≡ w → o ≡ None) → Linked (with_running g w o x.worker) x
      other_link x o k l n =
          if_cases (λ p. Linked p x) (x.worker == w) o (g x.worker)
          (λ t. let e = eq_true x.worker w t in subst (λ p. Linked p x) (sym (n e)) (by t (subst (λ p. Linked p x) (ap g e ∙ is) l)))
          (λ _. l)
        where
          by : (x.worker == w) ≡ true → Linked (Some y) x → Empty x
          by t (inl e) = e.1
          by t (inr k2) =
              let same_attempt = (same_sync y.frame f same x k2).attempt in
              absurd (false≢true (sym k ∙ (ap (λ b. b && (x.attempt == f.attempt)) t ∙ subst (λ z. (x.attempt == z) ≡ true) (sym same_attempt) (eq_same x.attempt))))

      -- ---- load

      -- the load that it asks for
      module _ (capacity a : ℕ) (next : ℤ → σ) (need : f.need ≡ ForLoad a) (asks : r.ask f.here ≡ Loads a next) (unwritten : look f.writes a ≡ None) (unmarked : look f.marks a ≡ None) where
        abbrev pub LoadKept : ℕ → Found → List (Slot σ) → Type 0
        LoadKept j (Known v) xs = ⊥
        LoadKept j (New v) xs = Links (with_running g w (Some (record { frame = loaded r.ask capacity v f; token = token }))) (with_mark w f.attempt a v xs) × Facts j (with_mark w f.attempt a v xs)
        LoadKept j MarksFull xs = Unit {0}
        LoadKept j LoadLost xs = Links (with_running g w None) xs

        load_exposed : (j : ℕ) (x : Slot σ) → InSync f x → Anchor j x → HasCommittedNone r entry head s text j x.start → Exposed r entry j a
        load_exposed j x sync k c =
            let k1 = k.first c in
            exposed_here r entry f a j next k1.0 k1.1 tracked asks unwritten
            (subst (λ q. ComesWatched r entry (in_turn j q k1.0 k1.1 [])) (sym sync.start) k1.2)
            (subst (Agrees k1.0) (sym sync.marks) k1.3)

        -- a word that is marked now
        marked_facts : (j b : ℕ) (u v : ℤ) (x : Slot σ) → SlotFacts j x → HasCommittedNone r entry head s text j x.start → Exposed r entry j a → u ≡ entry a → (b ≡ a) ⊎ (b ≢ a) → look (put x.marks a u) b ≡ Some v → Exposed r entry j b × (v ≡ entry b)
        marked_facts j b u v x fx c ex is_entrys (inl e) k =
            let there : look (put x.marks a u) b ≡ Some u = ap (look (put x.marks a u)) e ∙ look_put_own x.marks a u in
            let same_value : v ≡ u = cc in
            (subst (Exposed r entry j) (sym e) ex, same_value ∙ is_entrys ∙ ap entry (sym e))
        marked_facts j b u v x fx c ex is_entrys (inr n) k = fx.marks b v c (sym (look_put_other x.marks a b u n) ∙ k)

        -- the slot of the call
        load_here : (j : ℕ) (seen : Store) (x : Slot σ) (xs : List (Slot σ)) → is_at x w f.attempt ≡ true → InSync f x → x.worker ≡ w → Apart w (workers xs) → Links g xs → (Begins r entry j → SlotFacts j x) → Facts (suc j) xs → (Begins r entry j → Anchor j x) → Clean j seen → (j ≡ head → seen ≡ s) → LoadKept j (finds_seen capacity (seen a) x.marks None) (x ∷ xs)
        load_here j seen x xs here sync e n l fx fs k c at_head =
            if_cases (λ z. LoadKept j z (x ∷ xs)) (nat_le capacity (length x.marks)) MarksFull (New (seen a))
            (λ _. tt)
            (λ room.
            let u = seen a in
            let marked : Slot σ = record x { marks = put x.marks a u } in
            let empty_place : is_full capacity f.marks a ≡ false =
            ap (λ o. not (is_some o) && nat_le capacity (length f.marks)) unmarked ∙ ap (λ (t : Table). nat_le capacity (length t)) sync.marks ∙ room in
            let frame_is = loaded_is r.ask f capacity a u next need asks empty_place in
            let synced : InSync (record f { here = next u; marks = put f.marks a u; need = Nothing }) marked = record { attempt = sync.attempt; start = sync.start; marks = ap (λ t. put t a u) sync.marks; words = sync.words } in
            let linked : InSync (loaded r.ask capacity u f) marked = subst (λ z. InSync z marked) (sym frame_is) synced in
            subst (λ ys. Links (with_running g w (Some (record { frame = loaded r.ask capacity u f; token = token }))) ys × Facts j ys) (sym (mark_here w f.attempt a u x xs here)) (
              (worker_link g w _ marked e (inr linked), links_apart g w _ xs n l),
              (
                λ b. record {
                  once = (fx b).once;
                  marks = λ i v z lk.
                      let ex = load_exposed j x sync (k b) z in
                      marked_facts j i u v x (fx b) z ex (clean_here j a seen x c at_head z ex) (same_or_not i a) lk;
                  words = (fx b).words;
                },
                fs,
              ),
            ))

        own_is : (u : ℤ) (x : Slot σ) → InSync f x → finds_seen capacity u x.marks None ≡ finds_own capacity a u x (look x.buffer a)
        own_is u x sync =
            let m : None ≡ look x.marks a = sym unmarked ∙ ap (λ t. look t a) sync.marks in
            let b : None ≡ look x.buffer a = sym unwritten ∙ ap (λ t. look t a) sync.words in
            ap (finds_seen capacity u x.marks) m ∙ ap (finds_own capacity a u x) b

        -- a slot before that of the call
        load_past : (j : ℕ) (u : ℤ) (x : Slot σ) (xs : List (Slot σ)) (z : Found) → found capacity w f.attempt a u xs ≡ z → is_at x w f.attempt ≡ false → Apart x.worker (workers xs) → Linked (g x.worker) x → (Begins r entry j → SlotFacts j x) → LoadKept (suc j) z xs → LoadKept j z (x ∷ xs)
        load_past j u x xs (Known v) e t d l fx h = h
        load_past j u x xs (New v) e t d l fx h =
            subst (λ ys. Links (with_running g w (Some (record { frame = loaded r.ask capacity v f; token = token }))) ys × Facts j ys) (sym (mark_past w f.attempt a v x xs t)) (
              (other_link x _ t l (λ same_worker. let lost = load_lost capacity w f.attempt a u xs (subst (λ q. Apart q (workers xs)) same_worker d) in absurd (cc)), h.0),
              (fx, h.1),
            )
        load_past j u x xs MarksFull e t d l fx h = tt
        load_past j u x xs LoadLost e t d l fx h = (other_link x None t l (λ _. refl), h)

        pub load_once : (j : ℕ) (seen : Store) (xs : List (Slot σ)) → head ≤ j → Distinct (workers xs) → Links g xs → Facts j xs → Anchored j xs → Clean j seen → (j ≡ head → seen ≡ s) → LoadKept j (found capacity w f.attempt a (seen a) xs) xs
        load_once j seen [] le d l fs k c at_head = tt
        load_once j seen (x ∷ xs) le d l fs k c at_head =
            if_cases (λ z. LoadKept j z (x ∷ xs)) (is_at x w f.attempt) (finds_own capacity a (seen a) x (look x.buffer a)) (found capacity w f.attempt a (overlay x.buffer seen a) xs)
            (λ t.
            let sync = sync_at x t l.0 in
            let e = eq_true x.worker w (and_left _ _ t) in
            subst (λ z. LoadKept j z (x ∷ xs)) (own_is (seen a) x sync)
            (load_here j seen x xs t sync e (subst (λ v. Apart v (workers xs)) e d.0) l.1 fs.0 fs.1 k.0 c at_head))
            (λ t.
            load_past j (overlay x.buffer seen a) x xs (found capacity w f.attempt a (overlay x.buffer seen a) xs) refl t d.0 l.0 fs.0
            (load_once (suc j) (overlay x.buffer seen) xs (omega arith) d.1 l.1 fs.1 k.1 (clean_next j seen x c fs.0) (λ e. absurd (omega (arith, le, e)))))

      -- ---- store

      -- the store that it asks for
      module _ (capacity a : ℕ) (v : ℤ) (next : σ) (need : f.need ≡ ForStore a v) (asks : r.ask f.here ≡ Stores a v next) where
        abbrev pub StoreKept : ℕ → Written → List (Slot σ) → Type 0
        StoreKept j (Restarts n had) xs = Links (with_running g w (Some (record { frame = stored r.ask capacity f; token = token }))) (with_write w f.attempt a v xs) × Facts j (with_write w f.attempt a v xs)
        StoreKept j BufferFull xs = Unit {0}
        StoreKept j NumbersEnd xs = Unit {0}
        StoreKept j StoreLost xs = Links (with_running g w None) xs

        store_wrote : (j : ℕ) (x : Slot σ) → InSync f x → Anchor j x → Wrote r entry j a v
        store_wrote j x sync k =
            wrote_here r entry f a j v next k.store k.out k.writes tracked asks
            (subst (λ q. ComesWatched r entry (in_turn j q k.store k.out k.writes)) (sym sync.start) k.comes)
            (subst (Agrees k.store) (sym sync.marks) k.agrees)

        written_facts : (j b : ℕ) (u : ℤ) (x : Slot σ) → SlotFacts j x → Wrote r entry j a v → (b ≡ a) ⊎ (b ≢ a) → look (put x.buffer a v) b ≡ Some u → Wrote r entry j b u
        written_facts j b u x fx wr (inl e) k =
            let there : look (put x.buffer a v) b ≡ Some v = ap (look (put x.buffer a v)) e ∙ look_put_own x.buffer a v in
            let same_value : v ≡ u = cc in
            subst (λ z. Wrote r entry j z u) (sym e) (subst (Wrote r entry j a) same_value wr)
        written_facts j b u x fx wr (inr n) k = fx.words b u (sym (look_put_other x.buffer a b v n) ∙ k)

        store_done : (j n : ℕ) (had : Bool) (x : Slot σ) (xs : List (Slot σ)) → is_full capacity x.buffer a ≡ false → is_at x w f.attempt ≡ true → InSync f x → x.worker ≡ w → Apart w (workers xs) → Links g xs → (Begins r entry j → SlotFacts j x) → Facts (suc j) xs → (Begins r entry j → Anchor j x) → head ≤ j → StoreKept j (Restarts n had) (x ∷ xs)
        store_done j n had x xs room here sync e apart l fx fs k le =
            let wrote : Slot σ = record x { buffer = put x.buffer a v } in
            let empty_place : is_full capacity f.writes a ≡ false = ap (λ (t : Table). is_full capacity t a) sync.words ∙ room in
            let frame_is = stored_is r.ask f capacity a v next need asks empty_place in
            let synced : InSync (record f { here = next; writes = put f.writes a v; need = Nothing }) wrote = record { attempt = sync.attempt; start = sync.start; marks = sync.marks; words = ap (λ t. put t a v) sync.words } in
            let linked : InSync (stored r.ask capacity f) wrote = subst (λ z. InSync z wrote) (sym frame_is) synced in
            subst (λ ys. Links (with_running g w (Some (record { frame = stored r.ask capacity f; token = token }))) ys × Facts j ys) (sym (write_here w f.attempt a v x xs here)) (
              (worker_link g w _ wrote e (inr linked), squash_links _ a v xs (links_apart g w _ xs apart l)),
              (
                λ b. record {
                  once = (fx b).once;
                  marks = (fx b).marks;
                  words = λ i u lk. written_facts j i u x (fx b) (store_wrote j x sync (k b)) (same_or_not i a) lk;
                },
                squash_facts (suc j) a v xs (omega arith)
                    (λ i lt ex. let bj = begins_before r entry j i (omega arith) (exposed_begins i a ex) in quiet j i a v lt (store_wrote j x sync (k bj)) ex) fs,
              ),
            )

        store_here : (j : ℕ) (x : Slot σ) (xs : List (Slot σ)) → is_at x w f.attempt ≡ true → InSync f x → x.worker ≡ w → Apart w (workers xs) → Links g xs → (Begins r entry j → SlotFacts j x) → Facts (suc j) xs → (Begins r entry j → Anchor j x) → head ≤ j → StoreKept j (writes_own capacity a v x xs) (x ∷ xs)
        store_here j x xs here sync e apart l fx fs k le =
            if_cases (λ z. StoreKept j z (x ∷ xs)) (is_full capacity x.buffer a) BufferFull (if may_restart (violated a v xs) then Restarts (length (violated a v xs)) (is_marked a xs) else NumbersEnd)
            (λ _. tt)
            (λ room. if_cases (λ z. StoreKept j z (x ∷ xs)) (may_restart (violated a v xs)) (Restarts (length (violated a v xs)) (is_marked a xs)) NumbersEnd
            (λ _. store_done j (length (violated a v xs)) (is_marked a xs) x xs room here sync e apart l fx fs k le)
            (λ _. tt))

        store_past : (j : ℕ) (x : Slot σ) (xs : List (Slot σ)) (z : Written) → written capacity w f.attempt a v xs ≡ z → is_at x w f.attempt ≡ false → Apart x.worker (workers xs) → Linked (g x.worker) x → (Begins r entry j → SlotFacts j x) → StoreKept (suc j) z xs → StoreKept j z (x ∷ xs)
        store_past j x xs (Restarts n had) e t d l fx h =
            subst (λ ys. Links (with_running g w (Some (record { frame = stored r.ask capacity f; token = token }))) ys × Facts j ys) (sym (write_past w f.attempt a v x xs t)) (
              (other_link x _ t l (λ same_worker. let lost = store_lost capacity w f.attempt a v xs (subst (λ q. Apart q (workers xs)) same_worker d) in absurd (cc)), h.0),
              (fx, h.1),
            )
        store_past j x xs BufferFull e t d l fx h = tt
        store_past j x xs NumbersEnd e t d l fx h = tt
        store_past j x xs StoreLost e t d l fx h = (other_link x None t l (λ _. refl), h)

        pub store_once : (j : ℕ) (xs : List (Slot σ)) → head ≤ j → Distinct (workers xs) → Links g xs → Facts j xs → Anchored j xs → StoreKept j (written capacity w f.attempt a v xs) xs
        store_once j [] le d l fs k = tt
        store_once j (x ∷ xs) le d l fs k =
            if_cases (λ z. StoreKept j z (x ∷ xs)) (is_at x w f.attempt) (writes_own capacity a v x xs) (written capacity w f.attempt a v xs)
            (λ t.
            let e = eq_true x.worker w (and_left _ _ t) in
            store_here j x xs t (sync_at x t l.0) e (subst (λ q. Apart q (workers xs)) e d.0) l.1 fs.0 fs.1 k.0 le)
            (λ t.
            store_past j x xs (written capacity w f.attempt a v xs) refl t d.0 l.0 fs.0
            (store_once (suc j) xs (omega arith) d.1 l.1 fs.1 k.1))

-- the board has gone on, and what it has committed may be more
pub facts_later : {σ : Type 0} (r : Region σ) (entry : Store) (head h2 : ℕ) (s s2 : Store) (text t2 : List ℕ) (j : ℕ) (xs : List (Slot σ)) → head < j → Facts r entry head s text j xs → Facts r entry h2 s2 t2 j xs
facts_later r entry head h2 s s2 text t2 j [] lt f = tt
facts_later r entry head h2 s s2 text t2 j (x ∷ xs) lt f =
    ((λ b. let g = f.0 b in record { once = g.once; marks = λ a v c k. g.marks a v (inl lt) k; words = g.words }), facts_later r entry head h2 s s2 text t2 (suc j) xs (omega arith) f.1)
