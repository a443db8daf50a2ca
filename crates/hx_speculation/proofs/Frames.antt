-- What a frame does keeps it true.
use Rattle.std.proofs.Common.{◌≡◌, ℕ, zero, suc, ℤ, Option, Some, None, refl, sym, ap, ◌∙◌, subst}
use Rattle.hx_marks.specs.Table.{look, put}
use Rattle.hx_marks.proofs.Tables.{look_put_own}
use Rattle.hx_speculation.specs.Iteration.{Store, write, overlay, Agrees, Ask, Goes, Loads, Stores, Prints, TurnEnds, Leaves, Returns, Faults, Once}
use Rattle.hx_speculation.specs.Frame.{Frame, Need, Nothing, ForLoad, ForStore, ForHead, Held, IsTracked, IsNeeded, IsTrue, begins, goes_to, stops_for, reads, word, words, is_held, stretch, is_full, loads, loaded_for, loaded, stores, stored_for, stored, held_for, holds, advanced, restarts, tagged, behind}
use Rattle.hx_speculation.proofs.Stores.{if_cases, overlay_put, overlay_hit, overlay_miss, agrees_before}
use Rattle.hx_speculation.proofs.Steps.{went_put}

module _ {σ : Type 0} (ask : σ → Ask σ) where
  pub begins_true : (w j attempt : ℕ) (q : σ) → IsTrue ask (begins w j attempt q)
  begins_true w j attempt q = record { tracked = record { by = λ s g. (0, (refl, refl)) }; needed = tt }

  pub advanced_true : (f : Frame σ) → IsTrue ask (advanced ask f)
  advanced_true f = begins_true f.worker f.iteration f.attempt (behind (ask f.here) f.need f.here)

  pub restarts_true : (q : σ) (f : Frame σ) → IsTrue ask (restarts q f)
  restarts_true q f = begins_true f.worker f.iteration f.attempt q

  pub tagged_true : (w j attempt : ℕ) (f : Frame σ) → IsTrue ask f → IsTrue ask (tagged w j attempt f)
  tagged_true w j attempt f t = record { tracked = record { by = t.tracked.by }; needed = t.needed }

  stops_tracked : (need : Need) (f : Frame σ) → IsTracked ask f → IsTracked ask (stops_for need f)
  stops_tracked need f t = record { by = t.by }

  -- one word more, from the store that the frame has made
  abbrev More : Frame σ → σ → Type 0
  More f q = (s : Store) → Agrees s f.marks → Once f.writes (ask f.here) (overlay f.writes s) q (overlay f.writes s)

  on_tracked : (f : Frame σ) (q : σ) → More f q → IsTracked ask f → IsTracked ask (goes_to q f)
  on_tracked f q more t = record { by = λ s g. let w = t.by s g in (suc w.0, (f.here, overlay f.writes s, w.1, more s g)) }

  goes_tracked : (f : Frame σ) (q : σ) → ask f.here ≡ Goes q → IsTracked ask f → IsTracked ask (goes_to q f)
  goes_tracked f q e t = on_tracked f q (λ s g. subst (λ k. Once f.writes k (overlay f.writes s) q (overlay f.writes s)) (sym e) (refl, refl)) t

  -- a load of a word that the frame sees as v
  load_tracked : (f : Frame σ) (a : ℕ) (v : ℤ) (q : ℤ → σ) → ask f.here ≡ Loads a q → ((s : Store) → Agrees s f.marks → overlay f.writes s a ≡ v) → IsTracked ask f → IsTracked ask (goes_to (q v) f)
  load_tracked f a v q e sees t =
      on_tracked f (q v) (λ s g. subst (λ k. Once f.writes k (overlay f.writes s) (q v) (overlay f.writes s)) (sym e) (ap q (sym (sees s g)), refl)) t

  own_tracked : (f : Frame σ) (a : ℕ) (v : ℤ) (q : ℤ → σ) → ask f.here ≡ Loads a q → look f.writes a ≡ Some v → IsTracked ask f → IsTracked ask (goes_to (q v) f)
  own_tracked f a v q e k t = load_tracked f a v q e (λ s g. overlay_hit f.writes s a v k) t

  mark_tracked : (f : Frame σ) (a : ℕ) (v : ℤ) (q : ℤ → σ) → ask f.here ≡ Loads a q → look f.writes a ≡ None → look f.marks a ≡ Some v → IsTracked ask f → IsTracked ask (goes_to (q v) f)
  mark_tracked f a v q e k m t = load_tracked f a v q e (λ s g. overlay_miss f.writes s a k ∙ g a v m) t

  -- ---- a stretch

  reads_true : (f : Frame σ) (w m : Option ℤ) (a : ℕ) (q : ℤ → σ) (on : Frame σ → Frame σ) → look f.writes a ≡ w → look f.marks a ≡ m → ask f.here ≡ Loads a q → ((g : Frame σ) → IsTracked ask g → IsTrue ask (on g)) → IsTracked ask f → IsTrue ask (reads w m a q f on)
  reads_true f (Some v) m a q on ew em e go t = go (goes_to (q v) f) (own_tracked f a v q e ew t)
  reads_true f None (Some v) a q on ew em e go t = go (goes_to (q v) f) (mark_tracked f a v q e ew em t)
  reads_true f None None a q on ew em e go t = record { tracked = stops_tracked (ForLoad a) f t; needed = (q, e, ew, em) }

  word_true : (k : Ask σ) (f : Frame σ) (on : Frame σ → Frame σ) → ask f.here ≡ k → ((g : Frame σ) → IsTracked ask g → IsTrue ask (on g)) → IsTracked ask f → IsTrue ask (word k f on)
  word_true (Goes q) f on e go t = go (goes_to q f) (goes_tracked f q e t)
  word_true (Loads a q) f on e go t = reads_true f (look f.writes a) (look f.marks a) a q on refl refl e go t
  word_true (Stores a v q) f on e go t = record { tracked = stops_tracked (ForStore a v) f t; needed = (q, e) }
  word_true (Prints bytes q full) f on e go t = record { tracked = stops_tracked ForHead f t; needed = rw e tt }
  word_true TurnEnds f on e go t = record { tracked = stops_tracked ForHead f t; needed = rw e tt }
  word_true Leaves f on e go t = record { tracked = stops_tracked ForHead f t; needed = rw e tt }
  word_true (Returns v) f on e go t = record { tracked = stops_tracked ForHead f t; needed = rw e tt }
  word_true (Faults fault) f on e go t = record { tracked = stops_tracked ForHead f t; needed = rw e tt }

  words_true : (n : ℕ) (f : Frame σ) → IsTracked ask f → IsTrue ask (words ask n f)
  words_true zero f t = record { tracked = stops_tracked Nothing f t; needed = tt }
  words_true (suc n) f t = word_true (ask f.here) f (words ask n) refl (λ g u. words_true n g u) t

  pub stretch_true : (n : ℕ) (f : Frame σ) → IsTrue ask f → IsTrue ask (stretch ask n f)
  stretch_true n f t = if_cases (IsTrue ask) (is_held f.need) f (words ask n f) (λ _. t) (λ _. words_true n f t.tracked)

  -- ---- answers

  pub loads_true : (f : Frame σ) (a : ℕ) (v : ℤ) (q : ℤ → σ) → ask f.here ≡ Loads a q → look f.writes a ≡ None → look f.marks a ≡ None → IsTracked ask f → IsTracked ask (loads (Loads a q) a v f)
  loads_true f a v q e k m t =
      record {
        by = λ s g.
            let w = t.by s (agrees_before s f.marks a v m g) in
            let sees : overlay f.writes s a ≡ v = overlay_miss f.writes s a k ∙ g a v (look_put_own f.marks a v) in
            (suc w.0, (f.here, overlay f.writes s, w.1, subst (λ z. Once f.writes z (overlay f.writes s) (q v) (overlay f.writes s)) (sym e) (ap q (sym sees), refl)));
      }

  loaded_for_true : (capacity : ℕ) (v : ℤ) (f : Frame σ) (need : Need) → IsNeeded ask f need → IsTrue ask f → IsTrue ask (loaded_for ask capacity v f need)
  loaded_for_true capacity v f Nothing n t = t
  loaded_for_true capacity v f (ForStore a u) n t = t
  loaded_for_true capacity v f ForHead n t = t
  loaded_for_true capacity v f Held n t = t
  loaded_for_true capacity v f (ForLoad a) n t =
      if_cases (IsTrue ask) (is_full capacity f.marks a) f (loads (ask f.here) a v f) (λ _. t)
      (λ _. subst (λ k. IsTrue ask (loads k a v f)) (sym n.1) (record { tracked = loads_true f a v n.0 n.1 n.2 n.3 t.tracked; needed = tt }))

  pub loaded_true : (capacity : ℕ) (v : ℤ) (f : Frame σ) → IsTrue ask f → IsTrue ask (loaded ask capacity v f)
  loaded_true capacity v f t = loaded_for_true capacity v f f.need t.needed t

  pub stores_true : (f : Frame σ) (a : ℕ) (v : ℤ) (q : σ) → ask f.here ≡ Stores a v q → IsTracked ask f → IsTracked ask (stores (Stores a v q) a v f)
  stores_true f a v q e t =
      record {
        by = λ s g.
            let w = t.by s g in
            let u = overlay f.writes s in
            let once : Once (put f.writes a v) (Stores a v q) u q (write u a v) = (refl, refl, (v, look_put_own f.writes a v)) in
            let went = went_put ask f.writes a v w.0 f.start s f.here u w.1 in
            let there = subst (λ z. Once (put f.writes a v) z u q (write u a v)) (sym e) once in
            (suc w.0, (f.here, u, went, subst (λ z. Once (put f.writes a v) (ask f.here) u q z) (sym (overlay_put f.writes a v s)) there));
      }

  stored_for_true : (capacity : ℕ) (f : Frame σ) (need : Need) → IsNeeded ask f need → IsTrue ask f → IsTrue ask (stored_for ask capacity f need)
  stored_for_true capacity f Nothing n t = t
  stored_for_true capacity f (ForLoad a) n t = t
  stored_for_true capacity f ForHead n t = t
  stored_for_true capacity f Held n t = t
  stored_for_true capacity f (ForStore a v) n t =
      if_cases (IsTrue ask) (is_full capacity f.writes a) f (stores (ask f.here) a v f) (λ _. t)
      (λ _. subst (λ k. IsTrue ask (stores k a v f)) (sym n.1) (record { tracked = stores_true f a v n.0 n.1 t.tracked; needed = tt }))

  pub stored_true : (capacity : ℕ) (f : Frame σ) → IsTrue ask f → IsTrue ask (stored ask capacity f)
  stored_true capacity f t = stored_for_true capacity f f.need t.needed t

  held_for_true : (f : Frame σ) (need : Need) → IsTrue ask f → IsTrue ask (held_for f need)
  held_for_true f Nothing t = t
  held_for_true f ForHead t = t
  held_for_true f Held t = t
  held_for_true f (ForLoad a) t = record { tracked = stops_tracked Held f t.tracked; needed = tt }
  held_for_true f (ForStore a v) t = record { tracked = stops_tracked Held f t.tracked; needed = tt }

  pub holds_true : (f : Frame σ) → IsTrue ask f → IsTrue ask (holds f)
  holds_true f t = held_for_true f f.need t
