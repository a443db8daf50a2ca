-- The token of the grammar that a token of the code is.
use Rattle.std.specs.Prelude.{List, map}
use Rattle.hx_tree.specs.Lexis as lexis
use Rattle.hx_lex.specs.declared.token.Token.{Token}

abbrev pub token_of : Token → lexis.Token
token_of t = lexis.token_of t.kind t.text.now t.pos

abbrev pub tokens_of : List Token → List lexis.Token
tokens_of ts = map token_of ts
