use Rattle.std.proofs.Common.{arith, ◌+◌}
use Rattle.hx_marks.proofs.Windows.{found_in_window, none_in_window}
use Rattle.hx_marks.proofs.find.search.Goals as goal

pub returns-in-Some-clause-found : goal.returns-in-Some-clause-found
returns-in-Some-clause-found c =
    let found = c.in-Some.ensures in
    found_in_window c.args.words.now c.args.word c.near-start.result (c.near-start.result + 16) (omega arith) (omega arith) c.near-start.ensures.before c.in-Some.place found.0 found.1 found.2

pub returns-in-None-clause-missing : goal.returns-in-None-clause-missing
returns-in-None-clause-missing c =
    let none = none_in_window c.args.words.now c.args.word c.near-start.result (c.near-start.result + 16) (omega arith) (omega arith) c.near-start.ensures.before c.near-start.ensures.behind c.in-None.ensures in
    let within = c.count_from.ensures.within in
    (within, (λ i l. omega (arith, c.count_from.ensures.before i l, none i (omega (arith, l, within))), c.count_from.ensures.behind))
