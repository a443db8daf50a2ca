use Rattle.hx_grammar.proofs.Whole.{found, low_is_read, high_is_too_deep, spells_one_at_most, none_spelled, none_low}
use Rattle.hx_grammar.proofs.laws.reading_is_right.Goals as goal

pub returns-clause-sound : goal.returns-clause-sound
returns-clause-sound c = found

pub returns-clause-complete : goal.returns-clause-complete
returns-clause-complete c = low_is_read

pub returns-clause-too_high : goal.returns-clause-too_high
returns-clause-too_high c = high_is_too_deep

pub returns-clause-unique : goal.returns-clause-unique
returns-clause-unique c = spells_one_at_most

pub returns-clause-syntax : goal.returns-clause-syntax
returns-clause-syntax c = none_spelled

pub returns-clause-too_deep : goal.returns-clause-too_deep
returns-clause-too_deep c = none_low
