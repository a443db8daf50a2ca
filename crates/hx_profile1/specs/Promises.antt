-- What a program of today keeps of a program of profile 1.
use Rattle.std.specs.Prelude.{◌≢◌, ◌↔◌, ℕ, List, [], ◌∷◌, ℤ, codes}
use Rattle.hx_tree.specs.Lexis.{Token, NameToken, NumberToken, MarkToken}
use Rattle.hx_tree.specs.Tree as new
use Rattle.hx_tree.specs.Accepted as new_accepted
use Rattle.hx_tree.specs.Grammar as new_grammar
use Rattle.hx_tree.specs.Meaning as new_meaning
use Rattle.hx_tree.specs.Meaning.{Ending}
use Rattle.hx_profile1.specs.Tree as old
use Rattle.hx_profile1.specs.Accepted as old_accepted
use Rattle.hx_profile1.specs.Grammar as old_grammar
use Rattle.hx_profile1.specs.Meaning as old_meaning

-- where the old program is accepted, so is the new one
abbrev pub KeepsAcceptance : old.Program → new.Program → Type 0
KeepsAcceptance p q = old_accepted.IsAccepted p → new_accepted.IsAccepted q

-- both take the same inputs, and from each they end in the same ways: the same text, globals and end, after as many turns
abbrev pub KeepsInputs : old.Program → new.Program → Type 0
KeepsInputs p q = (input : List ℤ) → old_meaning.InputFits p input ↔ new_meaning.InputFits q input

abbrev pub KeepsMeaning : old.Program → new.Program → Type 0
KeepsMeaning p q = (input : List ℤ) (r : Ending) → old_meaning.Means p input r ↔ new_meaning.Means q input r

-- no token is the name `do`
abbrev pub HasNoDo : List Token → Type 0
HasNoDo [] = Unit {0}
HasNoDo (NameToken x ∷ tokens) = (x.text ≢ codes "do") × HasNoDo tokens
HasNoDo (NumberToken n place ∷ tokens) = HasNoDo tokens
HasNoDo (MarkToken m place ∷ tokens) = HasNoDo tokens

-- each source of the old program that has no name `do` is a source of the new one
abbrev pub KeepsSources : old.Program → new.Program → Type 0
KeepsSources p q = (bytes : List ℕ) (source : old_grammar.Spells bytes p) → HasNoDo source.tokens → new_grammar.Spells bytes q
