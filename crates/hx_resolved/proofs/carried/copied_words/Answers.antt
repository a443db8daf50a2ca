use Rattle.std.proofs.Common.{ℕ, Bool, sym, ◌∙◌, ap}
use Rattle.hx_resolved.specs.Views.{resolved_clauses, resolved_stmt}
use Rattle.hx_resolved.specs.Carried.{is_copied}
use Rattle.hx_resolved.proofs.Filters.{filter_kept, filter_left}
use Rattle.hx_resolved.proofs.carried.copied_words.Goals as goal
use Rattle.hx_resolved.proofs.carried.copied_words.Goals.{then-is_copied+in_ok-push, else-is_copied}

pub loop-k-preserved : goal.loop-k-preserved
loop-k-preserved c =
    let p : ℕ → Bool = is_copied (resolved_clauses c.args.c.now) (resolved_stmt c.args.body.now) in
    elim c.if-is_copied.branch [
      | then-is_copied+in_ok-push w ↦
          let h = filter_kept p c.loop-k.k c.loop-k.words.items (sym c.is_copied.ensures ∙ w.if-is_copied.true) c.loop-k.invariant in
          ap (λ v. v.items) w.words-is ∙ w.in_ok-push.ensures.items ∙ h
      | else-is_copied w ↦
          let h = filter_left p c.loop-k.k c.loop-k.words.items (sym c.is_copied.ensures ∙ w.if-is_copied.false) c.loop-k.invariant in
          ap (λ v. v.items) w.words-is ∙ h
    ]
