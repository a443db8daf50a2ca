use Rattle.hx_trace.proofs.Texts.{put_behind}
use Rattle.hx_trace.proofs.telling.put_commit.Goals as goal

pub returns : goal.returns
returns c = put_behind c.put_number.result c.args.text.now.items _ c.extend_from_slice.new.self.items c.put_number.new.text.items _ c.in_ok-extend_from_slice.ensures.items c.put_number.ensures
