use Rattle.std.proofs.Common.{map, sym, ap, ◌∙◌}
use Rattle.hx_tree.specs.Tree as tree
use Rattle.hx_tree.specs.View.{name_of, params_of}
use Rattle.hx_profile1.specs.View as given
use Rattle.hx_profile1.proofs.Nodes.{lifted_parts}
use Rattle.hx_profile1.proofs.lift.function.Goals as goal

pub returns : goal.returns
returns c =
    ap (λ body. let f : tree.Func = record { returns = c.args.f.returns; name = name_of c.args.f.name; params = params_of c.args.f.params; body = body } in f)
    (ap tree.parts c.in_ok-body.ensures ∙ sym (lifted_parts (map given.part_of c.args.f.body.items)))
