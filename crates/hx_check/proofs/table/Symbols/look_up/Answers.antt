use Rattle.std.proofs.Common.{◌∙◌, sym}
use Rattle.hx_check.proofs.Tables.{look_up-entries}
use Rattle.hx_check.proofs.table.Symbols.look_up.Goals as goal

pub returns : goal.returns
returns c = c.copied.ensures ∙ c.get.ensures.value ∙ sym (look_up-entries c.args.text.now c.args.self.now.table.entries)
