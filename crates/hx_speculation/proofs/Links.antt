-- Which frames run the active iterations.
use Rattle.std.proofs.Common.{◌≡◌, ◌≢◌, ℕ, zero, suc, ◌<◌, ℤ, ◌⊎◌, inl, inr, Bool, true, false, ◌==◌, List, [], ◌∷◌, ◌++◌, map, Option, Some, None, refl, sym, ap, ◌∙◌, subst, arith}
use Rattle.std.specs.Prelude.{if◌then◌else◌}
use Rattle.std.proofs.lemmas.Bool.{false≢true}
use Rattle.hx_marks.specs.Table.{look, put}
use Rattle.hx_buffer.specs.Overlay.{or_else}
use Rattle.hx_speculation.specs.Iteration.{Ask, Goes, Loads, Stores, Prints, TurnEnds, Leaves, Returns, Faults}
use Rattle.hx_speculation.specs.Frame.{Frame, Need, Nothing, ForLoad, ForStore, ForHead, Held, reads, word, words, is_held, stretch, is_full, loads, loaded_for, loaded, stores, stored_for, stored, held_for, holds}
use Rattle.hx_speculation.specs.Slots.{Slot, first_attempt, is_at, of_worker, restarted, with_mark, is_violated, squashed, with_write}
use Rattle.hx_speculation.specs.Replay.{Running, with_running}
use Rattle.hx_speculation.proofs.Stores.{if_cases, eq_true, eq_same}

abbrev pub workers : {σ : Type 0} → List (Slot σ) → List ℕ
workers xs = map (λ x. x.worker) xs

abbrev pub Apart : ℕ → List ℕ → Type 0
Apart w [] = Unit {0}
Apart w (v ∷ vs) = (v ≢ w) × Apart w vs

-- each worker has one iteration at most
abbrev pub Distinct : List ℕ → Type 0
Distinct [] = Unit {0}
Distinct (v ∷ vs) = Apart v vs × Distinct vs

-- a frame and its slot say the same
pub record InSync {σ : Type 0} (f : Frame σ) (x : Slot σ) : Type 0 where
  pub attempt : f.attempt ≡ x.attempt
  pub start : f.start ≡ x.start
  pub marks : f.marks ≡ x.marks
  pub words : f.writes ≡ x.buffer

abbrev pub Empty : {σ : Type 0} → Slot σ → Type 0
Empty x = (x.marks ≡ []) × (x.buffer ≡ [])

-- a slot is empty, or its worker's frame says the same
abbrev pub Linked : {σ : Type 0} → Option (Running σ) → Slot σ → Type 0
Linked None x = Empty x
Linked (Some y) x = ((y.frame.attempt < x.attempt) × Empty x) ⊎ InSync y.frame x

abbrev pub Links : {σ : Type 0} → (ℕ → Option (Running σ)) → List (Slot σ) → Type 0
Links g [] = Unit {0}
Links g (x ∷ xs) = Linked (g x.worker) x × Links g xs

-- ---- another frame of a worker, or none

pub links_set : {σ : Type 0} (g : ℕ → Option (Running σ)) (w : ℕ) (o : Option (Running σ)) (xs : List (Slot σ)) → Links g xs → ((x : Slot σ) → Linked (g w) x → Linked o x) → Links (with_running g w o) xs
links_set g w o [] h k = tt
links_set g w o (x ∷ xs) h k =
    (if_cases (λ p. Linked p x) (x.worker == w) o (g x.worker) (λ t. k x (subst (λ v. Linked (g v) x) (eq_true x.worker w t) h.0)) (λ _. h.0), links_set g w o xs h.1 k)

pub links_apart : {σ : Type 0} (g : ℕ → Option (Running σ)) (w : ℕ) (o : Option (Running σ)) (xs : List (Slot σ)) → Apart w (workers xs) → Links g xs → Links (with_running g w o) xs
links_apart g w o [] n h = tt
links_apart g w o (x ∷ xs) n h =
    (if_cases (λ p. Linked p x) (x.worker == w) o (g x.worker) (λ t. absurd (n.0 (eq_true x.worker w t))) (λ _. h.0), links_apart g w o xs n.1 h.1)

-- the slot of that worker
pub worker_link : {σ : Type 0} (g : ℕ → Option (Running σ)) (w : ℕ) (o : Option (Running σ)) (x : Slot σ) → x.worker ≡ w → Linked o x → Linked (with_running g w o x.worker) x
worker_link g w o x e l =
    if_cases (λ p. Linked p x) (x.worker == w) o (g x.worker) (λ _. l)
    (λ t. absurd (false≢true (sym t ∙ subst (λ z. (x.worker == z) ≡ true) e (eq_same x.worker))))

-- ---- beginning again

-- it empties a slot and raises its attempt
restart_link : {σ : Type 0} (o : Option (Running σ)) (x : Slot σ) → Linked o x → Linked o (restarted x)
restart_link None x h = (refl, refl)
restart_link (Some y) x (inl h) = inl (omega (arith, h.0), (refl, refl))
restart_link (Some y) x (inr h) = inl (omega (arith, h.attempt), (refl, refl))

restart_links : {σ : Type 0} (g : ℕ → Option (Running σ)) (xs : List (Slot σ)) → Links g xs → Links g (map restarted xs)
restart_links g [] h = tt
restart_links g (x ∷ xs) h = (restart_link (g x.worker) x h.0, restart_links g xs h.1)

pub squash_links : {σ : Type 0} (g : ℕ → Option (Running σ)) (a : ℕ) (u : ℤ) (xs : List (Slot σ)) → Links g xs → Links g (squashed a u xs)
squash_links g a u [] h = tt
squash_links g a u (x ∷ xs) h =
    if_cases (Links g) (is_violated a u x) (map restarted (x ∷ xs)) (x ∷ squashed a (or_else (look x.buffer a) u) xs)
    (λ _. restart_links g (x ∷ xs) h)
    (λ _. (h.0, squash_links g a (or_else (look x.buffer a) u) xs h.1))

-- ---- workers stay

restart_workers : {σ : Type 0} (xs : List (Slot σ)) → workers (map restarted xs) ≡ workers xs
restart_workers [] = refl
restart_workers (x ∷ xs) = ap (λ ws. x.worker ∷ ws) (restart_workers xs)

squash_workers : {σ : Type 0} (a : ℕ) (u : ℤ) (xs : List (Slot σ)) → workers (squashed a u xs) ≡ workers xs
squash_workers a u [] = refl
squash_workers a u (x ∷ xs) =
    if_cases (λ l. workers l ≡ workers (x ∷ xs)) (is_violated a u x) (map restarted (x ∷ xs)) (x ∷ squashed a (or_else (look x.buffer a) u) xs)
    (λ _. restart_workers (x ∷ xs))
    (λ _. ap (λ ws. x.worker ∷ ws) (squash_workers a (or_else (look x.buffer a) u) xs))

pub mark_workers : {σ : Type 0} (w attempt a : ℕ) (v : ℤ) (xs : List (Slot σ)) → workers (with_mark w attempt a v xs) ≡ workers xs
mark_workers w attempt a v [] = refl
mark_workers w attempt a v (x ∷ xs) =
    if_cases (λ l. workers l ≡ workers (x ∷ xs)) (is_at x w attempt) (record x { marks = put x.marks a v } ∷ xs) (x ∷ with_mark w attempt a v xs)
    (λ _. refl)
    (λ _. ap (λ ws. x.worker ∷ ws) (mark_workers w attempt a v xs))

pub write_workers : {σ : Type 0} (w attempt a : ℕ) (v : ℤ) (xs : List (Slot σ)) → workers (with_write w attempt a v xs) ≡ workers xs
write_workers w attempt a v [] = refl
write_workers w attempt a v (x ∷ xs) =
    if_cases (λ l. workers l ≡ workers (x ∷ xs)) (is_at x w attempt) (record x { buffer = put x.buffer a v } ∷ squashed a v xs) (x ∷ with_write w attempt a v xs)
    (λ _. ap (λ ws. x.worker ∷ ws) (squash_workers a v xs))
    (λ _. ap (λ ws. x.worker ∷ ws) (write_workers w attempt a v xs))

-- ---- the slot of a worker

pub of_none : {σ : Type 0} (w j : ℕ) (xs : List (Slot σ)) → of_worker w j xs ≡ None → Apart w (workers xs)
of_none w j [] e = tt
of_none {σ} w j (x ∷ xs) e =
    if_cases {A = Option (ℕ × Slot σ)} (λ o. o ≡ None → Apart w (workers (x ∷ xs))) (x.worker == w) (Some (j, x)) (of_worker w (suc j) xs)
    (λ k h. absurd (cc))
    (λ k h. ((λ same. false≢true (sym k ∙ subst (λ z. (x.worker == z) ≡ true) same (eq_same x.worker))), of_none w (suc j) xs h))
    e

pub of_links : {σ : Type 0} (g : ℕ → Option (Running σ)) (w j : ℕ) (o : Option (Running σ)) (p : ℕ × Slot σ) (xs : List (Slot σ)) → of_worker w j xs ≡ Some p → Distinct (workers xs) → Links g xs → (Linked (g w) p.1 → Linked o p.1) → Links (with_running g w o) xs
of_links g w j o p [] e d l k = absurd (cc)
of_links {σ} g w j o p (x ∷ xs) e d l k =
    if_cases {A = Option (ℕ × Slot σ)} (λ q. q ≡ Some p → Links (with_running g w o) (x ∷ xs)) (x.worker == w) (Some (j, x)) (of_worker w (suc j) xs)
    (λ t h.
    let is_w = eq_true x.worker w t in
    let same : (j, x) ≡ p = cc in
    let here = k (subst (λ z. Linked (g w) z) (ap (λ z. z.1) same) (subst (λ v. Linked (g v) x) is_w l.0)) in
    let there = subst (λ z. Linked o z) (sym (ap (λ z. z.1) same)) here in
    (worker_link g w o x is_w there, links_apart g w o xs (subst (λ v. Apart v (workers xs)) is_w d.0) l.1))
    (λ t h.
    (if_cases (λ q. Linked q x) (x.worker == w) o (g x.worker) (λ u. absurd (false≢true (sym t ∙ u))) (λ _. l.0), of_links g w (suc j) o p xs h d.1 l.1 k))
    e

-- ---- start

apart_new : {σ : Type 0} (v w : ℕ) (q : σ) (xs : List (Slot σ)) → v ≢ w → Apart v (workers xs) → Apart v (workers (xs ++ first_attempt w q ∷ []))
apart_new v w q [] n a = ((λ e. n (sym e)), tt)
apart_new v w q (x ∷ xs) n a = (a.0, apart_new v w q xs n a.1)

pub distinct_new : {σ : Type 0} (w : ℕ) (q : σ) (xs : List (Slot σ)) → Apart w (workers xs) → Distinct (workers xs) → Distinct (workers (xs ++ first_attempt w q ∷ []))
distinct_new w q [] n d = (tt, tt)
distinct_new w q (x ∷ xs) n d = (apart_new x.worker w q xs n.0 d.0, distinct_new w q xs n.1 d.1)

pub links_new : {σ : Type 0} (g : ℕ → Option (Running σ)) (xs : List (Slot σ)) (x : Slot σ) → Links g xs → Linked (g x.worker) x → Links g (xs ++ x ∷ [])
links_new g [] x l k = (k, tt)
links_new g (z ∷ xs) x l k = (l.0, links_new g xs x l.1 k)

-- ---- what a frame does by itself

-- all but the state and the need are as before
pub record IsSameBut {σ : Type 0} (f g : Frame σ) : Type 0 where
  pub worker : g.worker ≡ f.worker
  pub attempt : g.attempt ≡ f.attempt
  pub start : g.start ≡ f.start
  pub marks : g.marks ≡ f.marks
  pub words : g.writes ≡ f.writes

same_itself : {σ : Type 0} (f : Frame σ) → IsSameBut f f
same_itself f = record { worker = refl; attempt = refl; start = refl; marks = refl; words = refl }

pub same_then : {σ : Type 0} (f g k : Frame σ) → IsSameBut f g → IsSameBut g k → IsSameBut f k
same_then f g k s t =
    record { worker = t.worker ∙ s.worker; attempt = t.attempt ∙ s.attempt; start = t.start ∙ s.start; marks = t.marks ∙ s.marks; words = t.words ∙ s.words }

pub same_sync : {σ : Type 0} (f g : Frame σ) → IsSameBut f g → (x : Slot σ) → InSync f x → InSync g x
same_sync f g s x k = record { attempt = s.attempt ∙ k.attempt; start = s.start ∙ k.start; marks = s.marks ∙ k.marks; words = s.words ∙ k.words }

module _ {σ : Type 0} (ask : σ → Ask σ) (f : Frame σ) where
  moved : (g : Frame σ) (q : σ) (need : Need) → IsSameBut f g → IsSameBut f (record g { here = q; need = need })
  moved g q need s = record { worker = s.worker; attempt = s.attempt; start = s.start; marks = s.marks; words = s.words }

  reads_same : (w m : Option ℤ) (a : ℕ) (q : ℤ → σ) (g : Frame σ) (on : Frame σ → Frame σ) → ((k : Frame σ) → IsSameBut f k → IsSameBut f (on k)) → IsSameBut f g → IsSameBut f (reads w m a q g on)
  reads_same (Some v) m a q g on go s = go _ (moved g (q v) Nothing s)
  reads_same None (Some v) a q g on go s = go _ (moved g (q v) Nothing s)
  reads_same None None a q g on go s = moved g g.here (ForLoad a) s

  word_same : (k : Ask σ) (g : Frame σ) (on : Frame σ → Frame σ) → ((z : Frame σ) → IsSameBut f z → IsSameBut f (on z)) → IsSameBut f g → IsSameBut f (word k g on)
  word_same (Goes q) g on go s = go _ (moved g q Nothing s)
  word_same (Loads a q) g on go s = reads_same (look g.writes a) (look g.marks a) a q g on go s
  word_same (Stores a v q) g on go s = moved g g.here (ForStore a v) s
  word_same (Prints bytes q full) g on go s = moved g g.here ForHead s
  word_same TurnEnds g on go s = moved g g.here ForHead s
  word_same Leaves g on go s = moved g g.here ForHead s
  word_same (Returns v) g on go s = moved g g.here ForHead s
  word_same (Faults fault) g on go s = moved g g.here ForHead s

  words_same : (n : ℕ) (g : Frame σ) → IsSameBut f g → IsSameBut f (words ask n g)
  words_same zero g s = moved g g.here Nothing s
  words_same (suc n) g s = word_same (ask g.here) g (words ask n) (λ k u. words_same n k u) s

  pub stretch_same : (n : ℕ) → IsSameBut f (stretch ask n f)
  stretch_same n = if_cases (IsSameBut f) (is_held f.need) f (words ask n f) (λ _. same_itself f) (λ _. words_same n f (same_itself f))

  held_same : (need : Need) → IsSameBut f (held_for f need)
  held_same Nothing = same_itself f
  held_same (ForLoad a) = moved f f.here Held (same_itself f)
  held_same (ForStore a v) = moved f f.here Held (same_itself f)
  held_same ForHead = same_itself f
  held_same Held = same_itself f

  pub holds_same : IsSameBut f (holds f)
  holds_same = held_same f.need

  -- with the word that it asked for
  pub loaded_is : (capacity a : ℕ) (v : ℤ) (q : ℤ → σ) → f.need ≡ ForLoad a → ask f.here ≡ Loads a q → is_full capacity f.marks a ≡ false → loaded ask capacity v f ≡ record f { here = q v; marks = put f.marks a v; need = Nothing }
  loaded_is capacity a v q n e room =
      ap (loaded_for ask capacity v f) n ∙ ap (λ (b : Bool). if b then f else loads (ask f.here) a v f) room ∙ ap (λ k. loads k a v f) e

  pub stored_is : (capacity a : ℕ) (v : ℤ) (q : σ) → f.need ≡ ForStore a v → ask f.here ≡ Stores a v q → is_full capacity f.writes a ≡ false → stored ask capacity f ≡ record f { here = q; writes = put f.writes a v; need = Nothing }
  stored_is capacity a v q n e room =
      ap (stored_for ask capacity f) n ∙ ap (λ (b : Bool). if b then f else stores (ask f.here) a v f) room ∙ ap (λ k. stores k a v f) e

  -- whatever it was told, it is of the same worker
  loads_worker : (k : Ask σ) (a : ℕ) (v : ℤ) → (loads k a v f).worker ≡ f.worker
  loads_worker (Loads b q) a v = refl
  loads_worker _ a v = refl

  loaded_for_worker : (capacity : ℕ) (v : ℤ) (need : Need) → (loaded_for ask capacity v f need).worker ≡ f.worker
  loaded_for_worker capacity v (ForLoad a) =
      if_cases (λ g. g.worker ≡ f.worker) (is_full capacity f.marks a) f (loads (ask f.here) a v f) (λ _. refl) (λ _. loads_worker (ask f.here) a v)
  loaded_for_worker capacity v _ = refl

  pub loaded_worker : (capacity : ℕ) (v : ℤ) → (loaded ask capacity v f).worker ≡ f.worker
  loaded_worker capacity v = loaded_for_worker capacity v f.need

  stores_worker : (k : Ask σ) (a : ℕ) (v : ℤ) → (stores k a v f).worker ≡ f.worker
  stores_worker (Stores b u q) a v = refl
  stores_worker _ a v = refl

  stored_for_worker : (capacity : ℕ) (need : Need) → (stored_for ask capacity f need).worker ≡ f.worker
  stored_for_worker capacity (ForStore a v) =
      if_cases (λ g. g.worker ≡ f.worker) (is_full capacity f.writes a) f (stores (ask f.here) a v f) (λ _. refl) (λ _. stores_worker (ask f.here) a v)
  stored_for_worker capacity _ = refl

  pub stored_worker : (capacity : ℕ) → (stored ask capacity f).worker ≡ f.worker
  stored_worker capacity = stored_for_worker capacity f.need
