-- A map from words to values: its entries, in rising order of their words.
use Rattle.std.specs.Prelude.{◌≡◌, ℕ, ℤ, ◌<◌, List, [], ◌∷◌, Option, Some, None, ◌==◌, nat_lt, if◌then◌else◌}
use Rattle.hx_marks.specs.declared.marks.Entry.{Entry}

abbrev pub Table : Type 0
Table = List Entry

-- the words are all above one
abbrev pub AreAbove : ℕ → Table → Type 0
AreAbove a [] = Unit {0}
AreAbove a (e ∷ es) = (a < e.word) × AreAbove a es

abbrev pub IsRising : Table → Type 0
IsRising [] = Unit {0}
IsRising (e ∷ es) = AreAbove e.word es × IsRising es

-- the value of a word, if it has one
abbrev pub look : Table → ℕ → Option ℤ
look [] a = None
look (e ∷ es) a = if e.word == a then Some e.value else look es a

-- the table with the value v for the word a
abbrev pub put : Table → ℕ → ℤ → Table
put [] a v = record { word = a; value = v } ∷ []
put (e ∷ es) a v =
    if nat_lt e.word a then e ∷ put es a v else
    if e.word == a then record { word = a; value = v } ∷ es else
    record { word = a; value = v } ∷ e ∷ es

-- words and their values, of which there are as many, as a table
abbrev pub tabled : List ℕ → List ℤ → Table
tabled [] vs = []
tabled (w ∷ ws) [] = []
tabled (w ∷ ws) (v ∷ vs) = record { word = w; value = v } ∷ tabled ws vs

-- each word has the same value in both, or none in both
abbrev pub HaveSameValues : Table → Table → Type 0
HaveSameValues t u = (a : ℕ) → look t a ≡ look u a

-- a table, and how many entries it may have
pub record MapView : Type 0 where
  pub entries : Table
  pub capacity : ℕ
