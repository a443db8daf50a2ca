use Rattle.std.proofs.Common.{rules, ◌≡◌, ◌++◌, OnOk}
use Rattle.std.specs.Fmt.{signed_decimal}
use Rattle.hx_trace.proofs.Texts.{put_behind}
use Rattle.hx_trace.proofs.telling.put_returned.Goals as goal

pub returns : goal.returns
returns c =
    let value : OnOk c.put_number.result (c.put_number.new.text.items ≡ c.extend_from_slice.new.self.items ++ signed_decimal c.args.value) = search rules in
    put_behind c.put_number.result c.args.text.now.items _ c.extend_from_slice.new.self.items c.put_number.new.text.items _ c.in_ok-extend_from_slice.ensures.items value
