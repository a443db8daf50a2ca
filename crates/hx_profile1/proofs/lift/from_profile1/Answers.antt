use Rattle.std.proofs.Common.{map, ap}
use Rattle.hx_tree.specs.Tree as tree
use Rattle.hx_tree.specs.View as made
use Rattle.hx_profile1.specs.View as given
use Rattle.hx_profile1.specs.Promises.{KeepsAcceptance, KeepsInputs, KeepsMeaning, KeepsSources}
use Rattle.hx_profile1.proofs.Acceptance.{keeps_acceptance}
use Rattle.hx_profile1.proofs.Kept.{made_so}
use Rattle.hx_profile1.proofs.Meanings.{keeps_inputs, keeps_meaning}
use Rattle.hx_profile1.proofs.Spelled.{keeps_sources}
use Rattle.hx_profile1.proofs.lift.from_profile1.Goals as goal

pub returns-clause-same_nodes : goal.returns-clause-same_nodes
returns-clause-same_nodes c = ap (λ is. let q : tree.Program = record { items = is } in q) c.in_ok-items.ensures

pub returns-clause-accepted : goal.returns-clause-accepted
returns-clause-accepted c =
    let p = given.program_of c.args.program in
    made_so p (KeepsAcceptance p) (map made.item_of c.in_ok-items.items.items) c.in_ok-items.ensures (keeps_acceptance p)

pub returns-clause-inputs : goal.returns-clause-inputs
returns-clause-inputs c =
    let p = given.program_of c.args.program in
    made_so p (KeepsInputs p) (map made.item_of c.in_ok-items.items.items) c.in_ok-items.ensures (keeps_inputs p)

pub returns-clause-meaning : goal.returns-clause-meaning
returns-clause-meaning c =
    let p = given.program_of c.args.program in
    made_so p (KeepsMeaning p) (map made.item_of c.in_ok-items.items.items) c.in_ok-items.ensures (keeps_meaning p)

pub returns-clause-sources : goal.returns-clause-sources
returns-clause-sources c =
    let p = given.program_of c.args.program in
    made_so p (KeepsSources p) (map made.item_of c.in_ok-items.items.items) c.in_ok-items.ensures (keeps_sources p)
