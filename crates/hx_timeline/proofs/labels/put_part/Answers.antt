use Rattle.std.proofs.Common.{◌++◌, Bool, ap, sym, ◌∙◌}
use Rattle.std.specs.Prelude.{if◌then◌else◌, take, drop, codes}
use Rattle.std.proofs.lemmas.Bool.{lt-leb}
use Rattle.hx_trace.specs.Telling.{printed_words}
use Rattle.hx_trace.proofs.Texts.{on_ok, put_behind}
use Rattle.hx_timeline.proofs.labels.put_part.Goals as goal

pub returns : goal.returns
returns c =
    let put = put_behind c.put_printed.result c.args.text.now.items _ c.extend_from_slice-2.new.self.items c.put_printed.new.text.items _ c.in_ok-extend_from_slice.ensures.items c.put_printed.ensures in
    let prints = codes "commits, prints " ++ printed_words (drop c.args.from (take c.args.to c.args.printed.now)) in
    on_ok c.put_printed.result _ _ put (λ e. e ∙ ap (λ (t : Bool). c.args.text.now.items ++ (if t then codes "commits so far" else prints)) (sym (lt-leb c.args.to c.args.from c.if-to-from.false)))
