use Rattle.std.proofs.Common.{rules, ◌≡◌, ◌+◌, ◌<◌, ◌≤◌, sym, subst, length, ◌++◌, ◌∷◌, [], Vec, Global}
use Rattle.hx_advise.specs.declared.watch.Need.{Need}
use Rattle.hx_advise.specs.Watch.{AreBoth, need_at}
use Rattle.hx_advise.proofs.NeedsAdded.{AreAdded, added_set, added_push}
use Rattle.hx_advise.proofs.program.add_needs.Goals as goal
use Rattle.hx_advise.proofs.program.add_needs.Goals.{in-Some, in-None+in_ok-push-in-None}

pub loop-word-preserved : goal.loop-word-preserved
loop-word-preserved c =
    let old = c.args.all.now.items in
    let more = c.args.more.now in
    let all = c.loop-word.all in
    let k = c.loop-word.word in
    elim c.match-get_mut.branch [
      | in-Some w ↦
          let lt : k < length all.items = search rules in
          let is : need_at all.items k ≡ w.in-Some.sum.now = search rules in
          let both = subst (λ (n : Need). AreBoth n (need_at more k) w.and.result) (sym is) w.and.ensures in
          subst (λ (v : Vec Need Global). AreAdded old more v.items (k + 1)) (sym w.all-is) (added_set old more all.items k w.and.result c.loop-word.invariant lt both)
      | in-None+in_ok-push-in-None w ↦
          let le : length all.items ≤ k = search rules in
          let made : AreAdded old more (all.items ++ (w.and-in-None.result ∷ [])) (k + 1) = added_push old more all.items k w.and-in-None.result c.loop-word.invariant le w.and-in-None.ensures in
          search rules
    ]
