-- What is said, in other words, and of which program.
use Rattle.std.proofs.Common.{◌≡◌, ◌≤◌, ◌∙◌, subst, ℕ, List, length, Result, Ok, Err}
use Rattle.std.specs.Prelude.{IfOk}
use Rattle.hx_tree.specs.declared.limits.TheConstants.{SOURCE_LIMIT}
use Rattle.hx_tree.specs.Tree.{Program}
use Rattle.hx_tree.specs.Lexis.{Token, AreTokens}
use Rattle.hx_tree.specs.Grammar.{IsProgram, Spells}
use Rattle.hx_lex.specs.declared.token.Token.{Token as LexToken}
use Rattle.hx_lex.specs.View.{tokens_of}
use Rattle.hx_lex.specs.Answer.{NoOthers}
use Rattle.hx_parse.specs.Answer as parser

pub said_as : {V E : Type 0} (items : V → List ℕ) (r : Result V E) (x y : List ℕ) → IfOk r (λ v. items v ≡ x) → x ≡ y → IfOk r (λ v. items v ≡ y)
said_as items (Ok v) x y h e = h ∙ e
said_as items (Err e') x y h e = h

-- the one program of a source
pub record IsSource (source : List ℕ) (tokens : List Token) (p : Program) : Type 0 where
  pub is_short : length source ≤ SOURCE_LIMIT
  pub are_tokens : AreTokens source tokens
  pub no_others : NoOthers source tokens
  pub is_program : IsProgram p tokens
  pub no_other : parser.NoOthers tokens p

pub is_source : (source : List ℕ) (all slice : List LexToken) (p : Program) → slice ≡ all → length source ≤ SOURCE_LIMIT → AreTokens source (tokens_of all) → NoOthers source (tokens_of all)
    → IsProgram p (tokens_of slice) → parser.NoOthers (tokens_of slice) p → IsSource source (tokens_of all) p
is_source source all slice p same short are others is other = record {
  is_short = short;
  are_tokens = are;
  no_others = others;
  is_program = subst (λ ts. IsProgram p (tokens_of ts)) same is;
  no_other = subst (λ ts. parser.NoOthers (tokens_of ts) p) same other;
}

pub spells : (source : List ℕ) (tokens : List Token) (p : Program) → IsSource source tokens p → Spells source p
spells source tokens p h = record { is_short = h.is_short; tokens = tokens; are_tokens = h.are_tokens; is_program = h.is_program }

pub alone : (source : List ℕ) (tokens : List Token) (p : Program) → IsSource source tokens p → (q : Program) → Spells source q → q ≡ p
alone source tokens p h q s = h.no_other q (subst (IsProgram q) (h.no_others s.tokens s.are_tokens) s.is_program)
