-- What is kept of a region that was opened.
use Rattle.std.specs.Prelude.{◌≡◌, ℕ, ℤ, List}
use Rattle.hx_code.specs.declared.word.Exit.{Exit}
use Rattle.hx_code.specs.Code.{CodeView}
use Rattle.hx_code.specs.Region.{Opened, words_after}
use Rattle.hx_word.specs.declared.opened.Opened.{Opened as Kept}

abbrev pub opened_of : Kept → Opened
opened_of k = record { region = k.region; below = k.below; words = k.words; printed = k.printed }

-- these are the private words behind the region, which iteration j ended
abbrev pub WordsAfter : CodeView → Exit → Kept → ℕ → List ℤ → List ℤ → Type 0
WordsAfter code exit k j store words = words ≡ words_after code exit (opened_of k) j store
