-- The words of a region that is watched, one after another.
use Rattle.std.proofs.Common.{◌≡◌, ℕ, zero, suc, ◌+◌, ◌<◌, ◌≤◌, ℤ, pos, List, [], ◌∷◌, ◌++◌, true, false, length, refl, sym, ap, subst, ◌∙◌, arith, length-set, length-append}
use Rattle.std.specs.Prelude.{◌↔◌, IsTrue, nat_le, slice_set, slice_index_or, if◌then◌else◌, Vec, vec_capacity}
use Rattle.std.specs.declared.alloc.Global.{Global}
use Rattle.hx_tree.specs.declared.limits.TheConstants.{TEXT_LIMIT}
use Rattle.hx_tree.specs.declared.token.Pos.{Pos}
use Rattle.hx_tree.specs.declared.outcome.Fault.{Fault}
use Rattle.hx_tree.specs.declared.outcome.FaultKind.TheVariants.{TextFull}
use Rattle.hx_code.specs.declared.word.Exit.TheVariants.{Faulted}
use Rattle.hx_code.specs.declared.word.Ask.{Ask}
use Rattle.hx_code.specs.declared.word.Ask.TheVariants.{Goes, Loads, Stores, Prints, Faults, Turns, Leaves, Returns}
use Rattle.hx_code.specs.declared.word.Output.{Output}
use Rattle.hx_code.specs.declared.word.Next.{Next}
use Rattle.hx_code.specs.Code.{CodeView, store_words}
use Rattle.hx_code.specs.Call.{bytes_of, fault_at}
use Rattle.hx_code.specs.Valid.{IsValid}
use Rattle.hx_code.specs.Local.{LocalView, LocalWent, loaded}
use Rattle.hx_code.specs.Fits.{LocalGoing, LocalStretch, goes_on}
use Rattle.hx_code.specs.Region.{Opened, opening}
use Rattle.hx_word.specs.Running.{IsOpened}
use Rattle.hx_speculation.specs.Iteration.{Store, Ask as Asked}
use Rattle.hx_speculation.specs.Region.{Plain, Going, Over, does, step}
use Rattle.hx_speculation.specs.Watch.{IsIndependent as IsIndependentLoop}
use Rattle.hx_frame.specs.Automaton.{asked_as, ask_in}
use Rattle.hx_frame.proofs.Stretches.{asks_as}
use Rattle.hx_regions.specs.Region.{store_of, region_in, StandsIn}
use Rattle.hx_regions.proofs.Plain.{opening_stands}
use Rattle.hx_regions.proofs.Stores.{store_set}
use Rattle.hx_advise.specs.declared.region.Course.{Course}
use Rattle.hx_advise.specs.Events.{Event, Read, Write, TurnEnd}
use Rattle.hx_advise.specs.Watch.{WatchView, Tells}
use Rattle.hx_advise.specs.Regions.{noted, noted_of, after, events_after, IsOver}
use Rattle.hx_advise.specs.Course.{Keeps, Followed}
use Rattle.hx_advise.proofs.Loops.{after_next, over_later, events_tell}

module _ (code : CodeView) (o : Opened) (entry : List ℤ) where
  abbrev here : ℕ → Plain LocalView
  here n = after (region_in code o) (store_of entry) n

  abbrev told : ℕ → List Event
  told n = events_after (region_in code o) (store_of entry) n

  -- one word
  one : (n : ℕ) (q : LocalView) (s : Store) (text : List ℕ) (k : ℕ) (ask : Asked LocalView) → here n ≡ Going q s text k → ask_in code q ≡ ask → (here (n + 1) ≡ does (region_in code o) ask s text k) × (told (n + 1) ≡ noted ask (told n))
  one n q s text k ask e is =
      let longer : suc n ≡ n + 1 = omega arith in
      let there : here (suc n) ≡ does (region_in code o) ask s text k = after_next (region_in code o) (store_of entry) n ∙ ap (step (region_in code o)) e ∙ ap (λ x. does (region_in code o) x s text k) is in
      let tells : told (suc n) ≡ noted ask (told n) = ap (λ p. noted_of (region_in code o) p (told n)) e ∙ ap (λ x. noted x (told n)) is in
      subst (λ m. (here m ≡ does (region_in code o) ask s text k) × (told m ≡ noted ask (told n))) longer (there, tells)

  -- words that ask nothing
  quiet : (n m : ℕ) (l q : LocalView) (s : Store) (text : List ℕ) (k : ℕ) → LocalWent code m l q → here n ≡ Going l s text k → (here (n + m) ≡ Going q s text k) × (told (n + m) ≡ told n)
  quiet n zero l q s text k w e =
      let none : n ≡ n + 0 = omega arith in
      subst (λ x. (here x ≡ Going q s text k) × (told x ≡ told n)) none (subst (λ x. here n ≡ Going x s text k) w e, refl)
  quiet n (suc m) l q s text k w e =
      let h = quiet n m l w.0 s text k w.1 e in
      let longer : n + m + 1 ≡ n + suc m = omega arith in
      let next = one (n + m) w.0 s text k (Asked.Goes q) h.0 (asks_as code w.0 Goes q w.2) in
      subst (λ x. (here x ≡ Going q s text k) × (told x ≡ told n)) longer (next.0, next.1 ∙ h.1)

  -- and one that asks something behind them
  asked : (n m : ℕ) (l q : LocalView) (next : Next) (s : Store) (text : List ℕ) (k : ℕ) (ask : Ask) → LocalStretch code m l ask next q → here n ≡ Going l s text k → (here (n + m + 1) ≡ does (region_in code o) (asked_as ask (goes_on next q)) s text k) × (told (n + m + 1) ≡ noted (asked_as ask (goes_on next q)) (told n))
  asked n m l q next s text k ask w e =
      let h = quiet n m l q s text k w.going.went e in
      let next' = one (n + m) q s text k (asked_as ask (goes_on next q)) h.0 (asks_as code q ask (goes_on next q) w.asks) in
      (next'.0, next'.1 ∙ ap (noted (asked_as ask (goes_on next q))) h.1)

  -- ---- a region that goes on

  pub keeps_first : IsValid code → IsOpened code o → (c : Course) → c.local ≡ opening code o 0 → c.store.items ≡ entry → c.text.items ≡ [] → c.watch.turn ≡ 0 → Tells c.watch [] → length entry ≡ store_words code → length c.watch.writers ≡ store_words code → TEXT_LIMIT ≤ vec_capacity c.text → Keeps code o entry 0 c
  keeps_first valid is c local store text turn tells long writers room =
      let printed = is.printed in
      record {
        going = sym (ap (λ l. Going l (store_of c.store.items) c.text.items c.watch.turn) local ∙ ap (λ xs. Going (opening code o 0) (store_of xs) c.text.items c.watch.turn) store ∙ ap (λ xs. Going (opening code o 0) (store_of entry) xs c.watch.turn) text ∙ ap (λ k. Going (opening code o 0) (store_of entry) [] k) turn);
        tells = tells;
        stands = subst (StandsIn code o.region) (sym local) (opening_stands code valid o is 0);
        store = ap length store ∙ long;
        writers = writers;
        text = subst (λ xs. o.printed + length xs ≤ TEXT_LIMIT) (sym text) (omega (arith, printed));
        room = room;
        turns = omega (arith, turn);
      }

  pub keeps_goes : (n m : ℕ) (c : Course) (q : LocalView) → LocalGoing code m c.local q → Keeps code o entry n c → Keeps code o entry (n + m) (record c { local = q })
  keeps_goes n m c q g k =
      let h = quiet n m c.local q (store_of c.store.items) c.text.items c.watch.turn g.went k.going in
      let le = k.turns in
      record {
        going = h.0;
        tells = subst (Tells c.watch) (sym h.1) k.tells;
        stands = record { fits = g.fits; region = g.region ∙ k.stands.region };
        store = k.store;
        writers = k.writers;
        text = k.text;
        room = k.room;
        turns = omega (arith, le);
      }

  -- what a watch says behind one more event
  abbrev pub Adds : WatchView → WatchView → Event → Type 0
  Adds v w e = (es : List Event) → Tells v es → Tells w (e ∷ es)

  pub keeps_loads : (n m : ℕ) (c : Course) (q : LocalView) (next : Next) (a : ℕ) (w : WatchView) → LocalStretch code m c.local (Loads a) next q → Keeps code o entry n c → w.turn ≡ c.watch.turn → length w.writers ≡ length c.watch.writers → Adds c.watch w (Read a) → Keeps code o entry (n + m + 1) (record c { local = loaded (slice_index_or c.store.items a (pos 0)) (goes_on next q); watch = w })
  keeps_loads n m c q next a w t k turn long adds =
      let h = asked n m c.local q next (store_of c.store.items) c.text.items c.watch.turn (Loads a) t k.going in
      let v = slice_index_or c.store.items a (pos 0) in
      let le = k.turns in
      record {
        going = h.0 ∙ ap (λ j. Going (loaded v (goes_on next q)) (store_of c.store.items) c.text.items j) (sym turn);
        tells = subst (Tells w) (sym h.1) (adds (told n) k.tells);
        stands = record { fits = t.well.1 v; region = t.going.region ∙ k.stands.region };
        store = k.store;
        writers = long ∙ k.writers;
        text = k.text;
        room = k.room;
        turns = omega (arith, le, turn);
      }

  pub keeps_stores : (n m : ℕ) (c : Course) (q : LocalView) (next : Next) (a : ℕ) (v : ℤ) (s : Vec ℤ Global) (w : WatchView) → LocalStretch code m c.local (Stores a v) next q → Keeps code o entry n c → s.items ≡ slice_set c.store.items a v → w.turn ≡ c.watch.turn → length w.writers ≡ length c.watch.writers → Adds c.watch w (Write a) → Keeps code o entry (n + m + 1) (record c { local = goes_on next q; store = s; watch = w })
  keeps_stores n m c q next a v s w t k set turn long adds =
      let h = asked n m c.local q next (store_of c.store.items) c.text.items c.watch.turn (Stores a v) t k.going in
      let lt : a < length c.store.items = let below = t.well.0 in let e = k.store in omega (arith, below, e) in
      let le = k.turns in
      let there = store_set c.store.items a v lt ∙ ap store_of (sym set) in
      record {
        going = h.0 ∙ ap (λ u. Going (goes_on next q) u c.text.items c.watch.turn) there ∙ ap (λ j. Going (goes_on next q) (store_of s.items) c.text.items j) (sym turn);
        tells = subst (Tells w) (sym h.1) (adds (told n) k.tells);
        stands = record { fits = t.well.1; region = t.going.region ∙ k.stands.region };
        store = ap length set ∙ length-set c.store.items a v ∙ k.store;
        writers = long ∙ k.writers;
        text = k.text;
        room = k.room;
        turns = omega (arith, le, turn);
      }

  pub keeps_prints : (n m : ℕ) (c : Course) (q : LocalView) (next : Next) (output : Output) (at : Pos) (x : Vec ℕ Global) → LocalStretch code m c.local (Prints output at) next q → Keeps code o entry n c → x.items ≡ c.text.items ++ bytes_of output → nat_le (o.printed + length c.text.items + length (bytes_of output)) TEXT_LIMIT ≡ true → o.printed + length c.text.items + length (bytes_of output) ≤ TEXT_LIMIT → TEXT_LIMIT ≤ vec_capacity x → Keeps code o entry (n + m + 1) (record c { local = goes_on next q; text = x })
  keeps_prints n m c q next output at x t k items test fits room =
      let h = asked n m c.local q next (store_of c.store.items) c.text.items c.watch.turn (Prints output at) t k.going in
      let le = k.turns in
      let bytes = bytes_of output in
      let l = goes_on next q in
      record {
        going = h.0 ∙ ap (λ b. if b then Going l (store_of c.store.items) (c.text.items ++ bytes) c.watch.turn else Over (Faulted (fault_at TextFull at)) (store_of c.store.items) c.text.items c.watch.turn) test ∙ ap (λ xs. Going l (store_of c.store.items) xs c.watch.turn) (sym items);
        tells = subst (Tells c.watch) (sym h.1) k.tells;
        stands = record { fits = t.well; region = t.going.region ∙ k.stands.region };
        store = k.store;
        writers = k.writers;
        text = subst (λ xs. o.printed + length xs ≤ TEXT_LIMIT) (sym items) (omega (arith, fits, length-append c.text.items bytes));
        room = room;
        turns = omega (arith, le);
      }

  pub keeps_turns : IsValid code → IsOpened code o → (n m : ℕ) (c : Course) (q : LocalView) (next : Next) (w : WatchView) → LocalStretch code m c.local Turns next q → Keeps code o entry n c → w.turn ≡ c.watch.turn + 1 → length w.writers ≡ length c.watch.writers → Adds c.watch w TurnEnd → Keeps code o entry (n + m + 1) (record c { local = opening code o w.turn; watch = w })
  keeps_turns valid is n m c q next w t k turn long adds =
      let h = asked n m c.local q next (store_of c.store.items) c.text.items c.watch.turn Turns t k.going in
      let le = k.turns in
      let e : suc c.watch.turn ≡ w.turn = omega (arith, turn) in
      record {
        going = h.0 ∙ ap (λ j. Going (opening code o j) (store_of c.store.items) c.text.items j) e;
        tells = subst (Tells w) (sym h.1) (adds (told n) k.tells);
        stands = opening_stands code valid o is w.turn;
        store = k.store;
        writers = long ∙ k.writers;
        text = k.text;
        room = k.room;
        turns = omega (arith, le, turn);
      }

  -- ---- one that is followed no further

  not_sooner : (n : ℕ) (q : LocalView) (s : Store) (text : List ℕ) (k : ℕ) → here n ≡ Going q s text k → (j : ℕ) → j ≤ n → IsOver (here j) → ⊥
  not_sooner n q s text k e j le over = subst IsOver e (over_later (region_in code o) (store_of entry) n j le over)

  pub goes_on_still : (n : ℕ) (c : Course) → Keeps code o entry n c → Followed code o entry n false c
  goes_on_still n c k = record {
    tells = k.tells;
    over = (λ h. let no : false ≡ true = h in absurd cc, λ over. absurd (subst IsOver k.going over));
    least = λ j lt. let le : j ≤ n = omega (arith, lt) in not_sooner n c.local (store_of c.store.items) c.text.items c.watch.turn k.going j le;
  }

  -- its last word asks this, and tells of no event
  ended_by : (n m : ℕ) (c : Course) (q : LocalView) (next : Next) (ask : Ask) (d : Course) → LocalStretch code m c.local ask next q → Keeps code o entry n c → IsOver (does (region_in code o) (asked_as ask (goes_on next q)) (store_of c.store.items) c.text.items c.watch.turn) → noted (asked_as ask (goes_on next q)) (told n) ≡ told n → d.watch ≡ c.watch → Followed code o entry (n + m + 1) true d
  ended_by n m c q next ask d t k over none same =
      let h = asked n m c.local q next (store_of c.store.items) c.text.items c.watch.turn ask t k.going in
      let before = quiet n m c.local q (store_of c.store.items) c.text.items c.watch.turn t.going.went k.going in
      record {
        tells = subst (λ w. Tells w (told (n + m + 1))) (sym same) (subst (Tells c.watch) (sym (h.1 ∙ none)) k.tells);
        over = (λ _. subst IsOver (sym h.0) over, λ _. refl);
        least = λ j lt. let le : j ≤ n + m = omega (arith, lt) in not_sooner (n + m) q (store_of c.store.items) c.text.items c.watch.turn before.0 j le;
      }

  pub ended_left : (n m : ℕ) (c : Course) (q : LocalView) (next : Next) (d : Course) → LocalStretch code m c.local Leaves next q → Keeps code o entry n c → d.watch ≡ c.watch → Followed code o entry (n + m + 1) true d
  ended_left n m c q next d t k same = ended_by n m c q next Leaves d t k tt refl same

  pub ended_returned : (n m : ℕ) (c : Course) (q : LocalView) (next : Next) (v : ℤ) (d : Course) → LocalStretch code m c.local (Returns v) next q → Keeps code o entry n c → d.watch ≡ c.watch → Followed code o entry (n + m + 1) true d
  ended_returned n m c q next v d t k same = ended_by n m c q next (Returns v) d t k tt refl same

  pub ended_faulted : (n m : ℕ) (c : Course) (q : LocalView) (next : Next) (fault : Fault) (d : Course) → LocalStretch code m c.local (Faults fault) next q → Keeps code o entry n c → d.watch ≡ c.watch → Followed code o entry (n + m + 1) true d
  ended_faulted n m c q next fault d t k same = ended_by n m c q next (Faults fault) d t k tt refl same

  pub ended_full : (n m : ℕ) (c : Course) (q : LocalView) (next : Next) (output : Output) (at : Pos) (d : Course) → LocalStretch code m c.local (Prints output at) next q → Keeps code o entry n c → nat_le (o.printed + length c.text.items + length (bytes_of output)) TEXT_LIMIT ≡ false → d.watch ≡ c.watch → Followed code o entry (n + m + 1) true d
  ended_full n m c q next output at d t k test same =
      let over = subst (λ b. IsOver (if b then Going (goes_on next q) (store_of c.store.items) (c.text.items ++ bytes_of output) c.watch.turn else Over (Faulted (fault_at TextFull at)) (store_of c.store.items) c.text.items c.watch.turn)) (sym test) tt in
      ended_by n m c q next (Prints output at) d t k over refl same

  -- the verdict on one that is over
  pub verdict_is : (n : ℕ) (w : WatchView) → Tells w (told n) → IsOver (here n) → IsTrue w.is_independent ↔ IsIndependentLoop (region_in code o) (store_of entry)
  verdict_is n w t over =
      let e = events_tell (region_in code o) (store_of entry) n over in
      (λ h. e.0 (t.verdict.0 h), λ f. t.verdict.1 (e.1 f))
