-- What a function of the parser returns, against a reading of the tokens.
use Rattle.std.specs.Prelude.{◌≡◌, List, [], ◌∷◌, ◌++◌, Result, Ok, Err}
use Rattle.hx_tree.specs.Tree as tree
use Rattle.hx_tree.specs.Lexis as lexis
use Rattle.hx_lex.specs.declared.token.Token.{Token}
use Rattle.hx_grammar.specs.Reading.{Reading, Refusal}
use Rattle.hx_grammar.specs.Reading as reading
use Rattle.hx_parse.specs.declared.error.ParseError.{ParseError}
use Rattle.hx_parse.specs.declared.error.ParseError.TheVariants.{Syntax, TooDeep, Memory}

-- the reading is refused for the same cause; where memory ran out, nothing is said of it
abbrev pub Fails : {Y : Type 0} → ParseError → Result Y Refusal → Type 0
Fails (Syntax pos) read = read ≡ Err reading.Syntax
Fails TooDeep read = read ≡ Err reading.TooDeep
Fails Memory read = Unit {0}

-- what was returned, seen by a view, and the tokens that were left are what the reading gives
abbrev pub Gives : {X Y : Type 0} → (X → Y) → Result X ParseError → List lexis.Token → Reading Y → Type 0
Gives view (Ok x) rest read = read ≡ Ok (view x, rest)
Gives view (Err e) rest read = Fails e read

-- the same where the tokens that were left are all that is given
abbrev pub GivesRest : Result (Unit {0}) ParseError → List lexis.Token → Result (List lexis.Token) Refusal → Type 0
GivesRest (Ok x) rest read = read ≡ Ok rest
GivesRest (Err e) rest read = Fails e read

-- the same where no token is left, or is spoken of
abbrev pub GivesAll : {X Y : Type 0} → (X → Y) → Result X ParseError → Result Y Refusal → Type 0
GivesAll view (Ok x) read = read ≡ Ok (view x)
GivesAll view (Err e) read = Fails e read

abbrev pub itself : {X : Type 0} → X → X
itself x = x

-- the name in a token
abbrev pub name_in : Token → tree.Name
name_in t = record { text = t.text.now; pos = t.pos }

-- ---- what is made of a value that may be refused

-- why there is nothing: the value was refused, or memory ran out
abbrev pub Stops : {X : Type 0} → Result X ParseError → ParseError → Type 0
Stops (Ok x) e = e ≡ Memory
Stops (Err f) e = e ≡ f

-- why there is nothing: the value was refused, or what has to stand behind it
abbrev pub StaysOpen : {X Y : Type 0} → Result X ParseError → Result Y Refusal → ParseError → Type 0
StaysOpen (Ok x) read e = Fails e read
StaysOpen (Err f) read e = e ≡ f

-- a list with the value behind it
abbrev pub Extends : {X : Type 0} → List X → Result X ParseError → List X → Type 0
Extends xs (Ok x) all = all ≡ xs ++ x ∷ []
Extends xs (Err e) all = ⊥
