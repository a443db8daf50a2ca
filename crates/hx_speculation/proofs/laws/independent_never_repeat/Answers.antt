use Rattle.hx_speculation.proofs.Attempts.{independent_is_quiet}
use Rattle.hx_speculation.proofs.Repeats.{one_attempt, no_repeats, entrys_marks}
use Rattle.hx_speculation.proofs.laws.independent_never_repeat.Goals as goal

pub returns : goal.returns
returns c = record {
  attempts = λ course entry schedule i n. one_attempt course entry (independent_is_quiet course.region entry i) schedule n;
  repeats = λ course entry schedule i n. no_repeats course entry (independent_is_quiet course.region entry i) schedule n;
  marks = λ course entry schedule i n. entrys_marks course entry (independent_is_quiet course.region entry i) schedule n;
}
