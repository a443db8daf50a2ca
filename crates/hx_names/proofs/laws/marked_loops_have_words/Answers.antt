use Rattle.std.proofs.Common.{[], arith}
use Rattle.hx_names.proofs.Spelled.{items}
use Rattle.hx_names.proofs.laws.marked_loops_have_words.Goals as goal

pub returns : goal.returns
returns c = λ source p s. let e = (items p.items).so_many s.tokens [] s.is_program in omega arith
