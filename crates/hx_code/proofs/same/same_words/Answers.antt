use Rattle.std.proofs.lemmas.Slice.Eq.{slice_eq-Decides}
use Rattle.hx_code.specs.declared.word.Word.{Word}
use Rattle.hx_code.specs.contracts.word.WordPartialEq.TheImpl.{eq-value}
use Rattle.hx_code.proofs.SameWord.{word_Decides}
use Rattle.hx_code.proofs.same.same_words.Goals as goal

pub returns : goal.returns
returns c = slice_eq-Decides {A = Word} {E = eq-value.it} word_Decides _ _ _ c.eq.ensures
