use Rattle.hx_timeline.specs.Drawing.{line_of}
use Rattle.hx_timeline.proofs.Texts.{last_put}
use Rattle.hx_timeline.proofs.drawing.put_forward.Goals as goal

pub returns : goal.returns
returns c = last_put c.extend_from_slice.result c.args.svg.now.items c.put_line.new.svg.items c.extend_from_slice.new.self.items (line_of c.args.link) _ c.in_ok-put_line.ensures c.extend_from_slice.ensures.items
