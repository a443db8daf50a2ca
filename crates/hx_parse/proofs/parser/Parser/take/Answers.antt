use Rattle.std.proofs.Common.{sym}
use Rattle.hx_parse.proofs.Marks.{behind_same}
use Rattle.hx_parse.proofs.parser.Parser.take.Goals as goal

pub returns-then-eq : goal.returns-then-eq
returns-then-eq c = rw (c.skip.ensures) (behind_same c.args.mark c.in-Some.front c.args.self.now (sym c.in-Some.ensures) (sym c.if-eq.ensures))
