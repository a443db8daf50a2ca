use Rattle.std.proofs.Common.{arith, ◌-◌, ℤ, List, length, ap}
use Rattle.hx_code.specs.Region.{Opened}
use Rattle.hx_word.proofs.Entries.{privates_few, padded_is}
use Rattle.hx_word.proofs.entry.opened_by.Goals as goal

pub put_words-requires : goal.put_words-requires
put_words-requires c =
    let few = privates_few c.args.code.now c.known.ensures c.args.region in
    omega (arith, few, c.requires.locals, ap length c.deref.ensures.value)

pub returns-clause-opened : goal.returns-clause-opened
returns-clause-opened c =
    let e = c.args.entry.now in
    let words = padded_is c.put_words.new.words c.deref.result.now e.locals.items c.put_words.ensures c.deref.ensures.value in
    let made : List ℤ → Opened = λ ws. record { region = c.args.region; below = e.depth - 1; words = ws; printed = e.text_len } in
    ap made words

pub returns-clause-fits : goal.returns-clause-fits
returns-clause-fits c =
    record { region = c.requires.region; below = omega (arith, c.requires.least, c.requires.depth); words = c.put_words.array_long; printed = c.requires.text }
