use Rattle.std.proofs.lemmas.Result.{IfOk-weaker}
use Rattle.hx_lex.specs.View.{tokens_of}
use Rattle.hx_tree.specs.View.{program_of}
use Rattle.hx_names.proofs.Unique.{only_lines}
use Rattle.hx_names.proofs.loops.lines_of.Goals as goal

pub returns-clause-only : goal.returns-clause-only
returns-clause-only c =
    IfOk-weaker c.chosen.result _ _
    (λ v is. only_lines c.args.source.now (program_of c.args.program.now) (tokens_of c.in-Ok.tokens.items) v.items c.in-Ok.ensures.only (cc (c.in_ok-lines.ensures, c.in_ok-is_outer.ensures, c.deref.ensures.value, c.deref-2.ensures.value, c.deref-3.ensures.value)))
    c.chosen.ensures
