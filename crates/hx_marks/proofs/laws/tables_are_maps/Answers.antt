use Rattle.hx_marks.proofs.Tables.{look_put_own, look_put_other, put_rises, same_tables}
use Rattle.hx_marks.proofs.laws.tables_are_maps.Goals as goal

pub returns-clause-own : goal.returns-clause-own
returns-clause-own c = look_put_own

pub returns-clause-others : goal.returns-clause-others
returns-clause-others c = look_put_other

pub returns-clause-rises : goal.returns-clause-rises
returns-clause-rises c = put_rises

pub returns-clause-only : goal.returns-clause-only
returns-clause-only c = same_tables
