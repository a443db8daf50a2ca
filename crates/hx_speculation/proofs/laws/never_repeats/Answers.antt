use Rattle.hx_speculation.proofs.Repeats.{one_attempt, no_repeats, entrys_marks}
use Rattle.hx_speculation.proofs.laws.never_repeats.Goals as goal

pub returns : goal.returns
returns c = record {
  attempts = λ course entry schedule i n. one_attempt course entry i schedule n;
  repeats = λ course entry schedule i n. no_repeats course entry i schedule n;
  marks = λ course entry schedule i n. entrys_marks course entry i schedule n;
}
