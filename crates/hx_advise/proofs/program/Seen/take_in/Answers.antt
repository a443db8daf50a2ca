use Rattle.std.proofs.Common.{◌≡◌, ◌+◌, ◌<◌, ◌≤◌, ◌∙◌, ℕ, List, ◌∷◌, true, false, refl, sym, ap, length}
use Rattle.hx_code.specs.Region.{held}
use Rattle.hx_advise.specs.Events.{IsIndependent}
use Rattle.hx_advise.specs.Watch.{AnyWord, AreBoth, need_at}
use Rattle.hx_advise.specs.Runs.{Story, IsTold, IsSeen}
use Rattle.hx_advise.proofs.Sums.{counted, seen_fit, seen_unfit}
use Rattle.hx_advise.proofs.NeedsSummed.{needs_next, words_next, both_ok}
use Rattle.hx_advise.proofs.program.Seen.take_in.Goals as goal

pub returns-then-is_independent : goal.returns-then-is_independent
returns-then-is_independent c = λ x xs t s.
    let old = c.args.self.now in
    let turns = c.saturating_add-self-2.ensures ∙ ap (λ (n : ℕ). held (old.turns + n)) c.turns.ensures in
    let loads = c.saturating_add-self-4.ensures ∙ ap (λ (n : ℕ). held (old.loads + n)) c.reads.ensures in
    let stores = c.saturating_add-self-5.ensures ∙ ap (λ (n : ℕ). held (old.stores + n)) c.writes.ensures in
    seen_fit x xs old _ (counted x xs c.args.watched.now old _ t s c.saturating_add-self.ensures turns c.saturating_add-self-3.ensures loads stores) s refl
    ((c.is_independent.ensures.told x.events t.events).0 c.if-is_independent.true) refl refl

pub returns : goal.returns
returns c =
    let old = c.args.self.now in
    let turns = c.saturating_add-self-2.ensures ∙ ap (λ (n : ℕ). held (old.turns + n)) c.turns.ensures in
    let loads = c.saturating_add-self-4.ensures ∙ ap (λ (n : ℕ). held (old.loads + n)) c.reads.ensures in
    let stores = c.saturating_add-self-5.ensures ∙ ap (λ (n : ℕ). held (old.stores + n)) c.writes.ensures in
    let more = c.needs.result.now in
    let new = c.add_needs.new.all.items in
    both_ok c.add_needs.result ((a : ℕ) → a < length more → AreBoth (need_at old.needs.items a) (need_at more a) (need_at new a)) ((a : ℕ) → length more ≤ a → need_at new a ≡ need_at old.needs.items a)
    ((x : Story) (xs : List Story) → IsTold x c.args.watched.now → IsSeen x.region xs old → IsSeen x.region (x ∷ xs) _) c.add_needs.ensures.both c.add_needs.ensures.others
    (λ both others x xs t s.
    let unfit : IsIndependent x.events → ⊥ = λ f. let no : false ≡ true = sym c.if-is_independent.false ∙ (c.is_independent.ensures.told x.events t.events).1 f in absurd cc in
    seen_unfit x xs old _ (counted x xs c.args.watched.now old _ t s c.saturating_add-self.ensures turns c.saturating_add-self-3.ensures loads stores) refl unfit
    (needs_next AnyWord x xs old.needed c.needed.result c.and-self.result (c.needed.ensures.told x.events t.events) s.needed c.and-self.ensures)
    (words_next x xs old.needs.items more new (c.needs.ensures.told x.events t.events) s.needs both others))
