use Rattle.hx_tree.specs.View.{program_of}
use Rattle.hx_run.proofs.Executions.{globals_of_any}
use Rattle.hx_run.proofs.showing.put_globals_of.Goals as goal

pub returns : goal.returns
returns c =
    globals_of_any c.put_globals.result c.args.source.now (program_of c.in-Ok.program) c.args.words.now c.args.text.now.items c.put_globals.new.text.items c.in-Ok.ensures.spelled
    c.put_globals.ensures
