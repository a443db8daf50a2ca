-- A run between its loops: which regions its words open, and what is seen of them.
use Rattle.std.proofs.Common.{◌≡◌, ℕ, zero, suc, ◌+◌, ◌-◌, ◌*◌, ◌<◌, ◌≤◌, List, [], ◌∷◌, length, Bool, true, false, Option, Some, None, refl, ap, sym, subst, ◌∙◌, arith}
use Rattle.std.specs.Prelude.{◌↔◌, IsTrue, IsSome, min, if◌then◌else◌}
use Rattle.hx_tree.specs.declared.outcome.End.{End}
use Rattle.hx_code.specs.Code.{CodeView}
use Rattle.hx_code.specs.Region.{RegionState}
use Rattle.hx_code.specs.Machine.{Machine, machine_step, machine_after}
use Rattle.hx_word.specs.Plain.{PlainView, OpenView, whole, one_store, with_store_of, opens_next, openings, Quiet}
use Rattle.hx_word.proofs.MachineSteps.{machine_then}
use Rattle.hx_word.proofs.Advance.{runs_there, end_same}
use Rattle.hx_regions.specs.Region.{store_of, region_in}
use Rattle.hx_advise.specs.declared.program.Advice.{Advice}
use Rattle.hx_advise.specs.declared.program.Seen.{Seen}
use Rattle.hx_advise.specs.declared.region.TheConstants.{WORD_LIMIT}
use Rattle.hx_advise.specs.Regions.{events_after, words_done}
use Rattle.hx_advise.specs.Runs.{Opening, adds, opened_in, Story, story_in, story_of, stories_of, stories, AreSeen, IsAdvice, IsDone, AreDone, Stands, OpensAs, GoesBy, IsBehind}
use Rattle.hx_advise.proofs.Loops.{over_later, told_still, done_still}

-- ---- which regions are opened

abbrev pub opening_at : ℕ → RegionState → Opening
opening_at n z = record { at = n; region = z }

not_opened : (n : ℕ) (b : Bool) (w : Option RegionState) (os : List Opening) → b ≡ false → adds n b w os ≡ os
not_opened n b w os e = ap (λ x. adds n x w os) e

count_none : (n : ℕ) (b : Bool) → n + (if b then 1 else 0) ≡ 0 → (n ≡ 0) × (b ≡ false)
count_none n true e = absurd (omega (arith, e))
count_none n false e = (omega (arith, e), refl)

-- words that open none
pub opened_quiet : (code : CodeView) (n k : ℕ) (m : Machine) → Quiet code k (machine_after code n m) → opened_in code (n + k) m ≡ opened_in code n m
opened_quiet code n zero m q = let e : n + 0 ≡ n = omega arith in ap (λ j. opened_in code j m) e
opened_quiet code n (suc k) m q =
    let h = count_none (openings code k (machine_after code n m)) (opens_next code (machine_after code k (machine_after code n m))) q in
    let e : n + suc k ≡ suc (n + k) = omega arith in
    let here : opens_next code (machine_after code (n + k) m) ≡ false = ap (opens_next code) (machine_then code n k m) ∙ h.1 in
    ap (λ j. opened_in code j m) e ∙ not_opened (n + k) (opens_next code (machine_after code (n + k) m)) (machine_after code (suc (n + k)) m).within (opened_in code (n + k) m) here ∙ opened_quiet code n k m h.0

is_opened : (n : ℕ) (b : Bool) (w : Option RegionState) (z : RegionState) (os : List Opening) → b ≡ true → w ≡ Some z → adds n b w os ≡ opening_at n z ∷ os
is_opened n b w z os e f = ap (λ x. adds n x w os) e ∙ ap (λ x. adds n true x os) f

-- k words that open none, and one that opens a region
pub opened_one : (code : CodeView) (n k : ℕ) (m : Machine) (o : OpenView) → Quiet code k (machine_after code n m) → OpensAs code (machine_after code k (machine_after code n m)) o → opened_in code (suc (n + k)) m ≡ opening_at (n + k) o.region ∷ opened_in code n m
opened_one code n k m o q h =
    let here = machine_then code n k m in
    let opens : opens_next code (machine_after code (n + k) m) ≡ true = ap (opens_next code) here ∙ h.opens in
    let there : (machine_after code (suc (n + k)) m).within ≡ Some o.region = ap (λ (x : Machine). (machine_step code x).within) here ∙ runs_there (machine_step code (machine_after code k (machine_after code n m))) (whole o) o.region (sym h.here) refl in
    is_opened (n + k) (opens_next code (machine_after code (n + k) m)) (machine_after code (suc (n + k)) m).within o.region (opened_in code (n + k) m) opens there ∙ ap (λ os. opening_at (n + k) o.region ∷ os) (opened_quiet code n k m q)

-- and words of it
pub opened_more : (code : CodeView) (n k j : ℕ) (m : Machine) (o : OpenView) → Quiet code k (machine_after code n m) → OpensAs code (machine_after code k (machine_after code n m)) o → Quiet code j (machine_step code (machine_after code k (machine_after code n m))) → opened_in code (suc (n + k) + j) m ≡ opening_at (n + k) o.region ∷ opened_in code n m
opened_more code n k j m o q h r =
    let same : machine_after code (suc (n + k)) m ≡ machine_step code (machine_after code k (machine_after code n m)) = ap (machine_step code) (machine_then code n k m) in
    opened_quiet code (suc (n + k)) j m (subst (Quiet code j) (sym same) r) ∙ opened_one code n k m o q h

-- ---- regions that are over stay so

later : (n k at : ℕ) → n ≤ k → n - suc at ≤ k - suc at
later n k at le = omega (arith, le)

pub done_later : (code : CodeView) (n k : ℕ) (os : List Opening) → n ≤ k → AreDone code n os → AreDone code k os
done_later code n k [] le d = tt
done_later code n k (o ∷ os) le d =
    (over_later (region_in code o.region.opened) (store_of o.region.store) (k - suc o.at) (n - suc o.at) (later n k o.at le) d.0, done_later code n k os le d.1)

story_still : (code : CodeView) (z : RegionState) (i j : ℕ) → i ≤ j → IsDone code z i → story_in code z j ≡ story_in code z i
story_still code z i j le d =
    let r = region_in code z.opened in
    let s = store_of z.store in
    ap (λ n. let x : Story = record { region = z.opened.region; words = n; events = events_after r s j } in x) (done_still r s j i le d)
    ∙ ap (λ es. let x : Story = record { region = z.opened.region; words = words_done r s i; events = es } in x) (told_still r s j i le d)

pub stories_still : (code : CodeView) (n k : ℕ) (os : List Opening) → n ≤ k → AreDone code n os → stories_of code k os ≡ stories_of code n os
stories_still code n k [] le d = refl
stories_still code n k (o ∷ os) le d =
    ap (λ x. x ∷ stories_of code k os) (story_still code o.region (n - suc o.at) (k - suc o.at) (later n k o.at le) d.0) ∙ ap (λ xs. story_of code n o ∷ xs) (stories_still code n k os le d.1)

-- ---- a machine between loops

pub outside : (m : Machine) → m.within ≡ None → one_store m ≡ m
outside m h = ap (λ w. with_store_of w m) h

-- as the run begins
pub first_stands : (code : CodeView) (steps : ℕ) (p : PlainView) (loops : List Seen) → p.code ≡ code → p.machine.within ≡ None → length loops ≡ length code.regions → AreSeen [] loops → Stands code p.machine steps steps p loops
first_stands code steps p loops same out long seen = record {
  words = 0;
  same = same;
  is = outside p.machine out;
  few = omega arith;
  many = omega arith;
  done = tt;
  long = long;
  seen = seen;
}

module _ (code : CodeView) (m : Machine) (limit left : ℕ) (p : PlainView) (loops : List Seen) (s : Stands code m limit left p loops) where
  abbrev now : Machine
  now = machine_after code s.words m

  -- words that open no region
  pub more_stands : (n : ℕ) (q : PlainView) → n ≤ left → Quiet code n now → q.code ≡ code → q.machine ≡ one_store (machine_after code n now) → Stands code m limit (left - n) q loops
  more_stands n q le quiet same is =
      let os = opened_quiet code s.words n m quiet in
      let few = s.few in
      let many = s.many in
      let longer : s.words ≤ s.words + n = omega arith in
      record {
        words = s.words + n;
        same = same;
        is = ap one_store (machine_then code s.words n m) ∙ sym is;
        few = omega (arith, few, le);
        many = subst (λ xs. limit ≤ s.words + n + (left - n) + 255 * length xs) (sym os) (omega (arith, many, le));
        done = subst (AreDone code (s.words + n)) (sym os) (done_later code s.words (s.words + n) (opened_in code s.words m) longer s.done);
        long = s.long;
        seen = subst (λ xs. AreSeen xs loops) (sym (ap (stories_of code (s.words + n)) os ∙ stories_still code s.words (s.words + n) (opened_in code s.words m) longer s.done)) s.seen;
      }

  -- a region that was opened and passed
  module _ (k j : ℕ) (o : OpenView) (new : List Seen) (quiet : Quiet code k now) (opens : OpensAs code (machine_after code k now) o) (g : GoesBy code (machine_after code k now) o j loops new) where
    abbrev behind : ℕ
    behind = suc (s.words + k) + j

    opened_here : opened_in code behind m ≡ opening_at (s.words + k) o.region ∷ opened_in code s.words m
    opened_here = opened_more code s.words k j m o quiet opens g.quiet

    runs_here : machine_after code behind m ≡ machine_after code (suc j) (machine_after code k now)
    runs_here =
        let e : behind ≡ s.words + k + suc j = omega arith in
        ap (λ n. machine_after code n m) e ∙ machine_then code (s.words + k) (suc j) m ∙ ap (machine_after code (suc j)) (machine_then code s.words k m)

    stories_here : stories code behind m ≡ story_in code o.region j ∷ stories code s.words m
    stories_here =
        let e : behind - suc (s.words + k) ≡ j = omega arith in
        let longer : s.words ≤ behind = omega arith in
        ap (stories_of code behind) opened_here
        ∙ ap (λ n. story_in code o.region n ∷ stories_of code behind (opened_in code s.words m)) e
        ∙ ap (λ xs. story_in code o.region j ∷ xs) (stories_still code s.words behind (opened_in code s.words m) longer s.done)

    seen_here : AreSeen (stories code behind m) new
    seen_here = subst (λ xs. AreSeen xs new) (sym stories_here) (g.seen (stories code s.words m) s.seen)

    pub passed_stands : (n : ℕ) (q : PlainView) → n ≤ left → n ≤ 256 → k < n → j ≤ left - n → length new ≡ length loops → IsBehind code (machine_after code k now) o j q → Stands code m limit (left - n - j) q new
    passed_stands n q le block lt fits long b =
        let few = s.few in
        let many = s.many in
        let longer : s.words ≤ behind = omega arith in
        let e : j ≡ behind - suc (s.words + k) = omega arith in
        let first : IsDone code o.region (behind - suc (s.words + k)) = subst (IsDone code o.region) e b.done in
        record {
          words = behind;
          same = b.same;
          is = ap one_store runs_here ∙ sym (ap one_store b.is) ∙ outside q.machine b.outside;
          few = omega (arith, few, le, lt, fits);
          many = subst (λ xs. limit ≤ behind + (left - n - j) + 255 * length xs) (sym opened_here) (omega (arith, many, le, block, lt, fits));
          done = subst (AreDone code behind) (sym opened_here) (first, done_later code s.words behind (opened_in code s.words m) longer s.done);
          long = long ∙ s.long;
          seen = seen_here;
        }

    -- or that goes on for all words that are left
    pub stopped_advice : (n : ℕ) (a : Advice) → n ≤ left → n ≤ 256 → k < n → j ≡ left - n → length new ≡ length loops → (machine_after code (suc j) (machine_after code k now)).end ≡ None → a.has_ended ≡ false → a.loops.items ≡ new → IsAdvice code m limit a
    stopped_advice n a le block lt all long going not is =
        let few = s.few in
        let many = s.many in
        let none : (machine_after code behind m).end ≡ None = ap (λ (x : Machine). x.end) runs_here ∙ going in
        record {
          words = behind;
          few = omega (arith, few, le, lt, all);
          ended = (λ h. let no : false ≡ true = sym not ∙ h in absurd cc, λ h. let some : false ≡ true = subst (λ (e : Option End). IsSome e) none h in absurd cc);
          many = λ _. subst (λ xs. min limit WORD_LIMIT ≤ behind + 255 * length xs) (sym opened_here) (omega (arith, many, le, block, lt, all));
          loops = ap length is ∙ long ∙ s.long;
          seen = subst (AreSeen (stories code behind m)) (sym is) seen_here;
        }

  -- ---- a run that is told of

  -- that ended before another region was opened
  pub ended_advice : (n : ℕ) (a : Advice) (e : End) → n ≤ left → Quiet code n now → (machine_after code n now).end ≡ Some e → a.has_ended ≡ true → a.loops.items ≡ loops → IsAdvice code m limit a
  ended_advice n a e le quiet over ended is =
      let os = opened_quiet code s.words n m quiet in
      let few = s.few in
      let longer : s.words ≤ s.words + n = omega arith in
      let there : (machine_after code (s.words + n) m).end ≡ Some e = ap (λ (x : Machine). x.end) (machine_then code s.words n m) ∙ over in
      record {
        words = s.words + n;
        few = omega (arith, few, le);
        ended = (λ _. subst (λ (e : Option End). IsSome e) (sym there) refl, λ _. ended);
        many = λ h. let no : true ≡ false = sym ended ∙ h in absurd cc;
        loops = ap length is ∙ s.long;
        seen = subst (AreSeen (stories code (s.words + n) m)) (sym is) (subst (λ xs. AreSeen xs loops) (sym (ap (stories_of code (s.words + n)) os ∙ stories_still code s.words (s.words + n) (opened_in code s.words m) longer s.done)) s.seen);
      }

  -- whose words are all done
  pub all_advice : (a : Advice) → left ≡ 0 → (IsTrue a.has_ended ↔ IsSome p.machine.end) → a.loops.items ≡ loops → IsAdvice code m limit a
  all_advice a none ended is =
      let few = s.few in
      let many = s.many in
      let same : p.machine.end ≡ now.end = ap (λ (x : Machine). x.end) (sym s.is) ∙ end_same now in
      record {
        words = s.words;
        few = omega (arith, few);
        ended = (λ h. subst (λ (e : Option End). IsSome e) same (ended.0 h), λ h. ended.1 (subst (λ (e : Option End). IsSome e) (sym same) h));
        many = λ _. omega (arith, many, none);
        loops = ap length is ∙ s.long;
        seen = subst (AreSeen (stories code s.words m)) (sym is) s.seen;
      }

-- of fewer words, which are as many as can be
pub advice_for : (code : CodeView) (m : Machine) (steps some : ℕ) (a : Advice) → some ≡ min steps WORD_LIMIT → IsAdvice code m some a → IsAdvice code m steps a
advice_for code m steps some a e h =
    let few = h.few in
    record {
      words = h.words;
      few = omega (arith, few, e);
      ended = h.ended;
      many = λ not. let many = h.many not in omega (arith, many, e);
      loops = h.loops;
      seen = h.seen;
    }
