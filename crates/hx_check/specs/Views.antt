-- What the checker knows, as pure values.
use Rattle.std.specs.Prelude.{ℕ, List, [], ◌∷◌, map}
use Rattle.std.specs.declared.vec.Vec.{Vec}
use Rattle.hx_tree.specs.World.{Map}
use Rattle.hx_resolved.specs.Symbols.{Declared, Scopes, Known}
use Rattle.hx_resolved.specs.declared.symbol.Symbol.{Symbol}
use Rattle.hx_check.specs.declared.table.Symbols.{Symbols}
use Rattle.hx_check.specs.declared.locals.Scope.{Scope}
use Rattle.hx_check.specs.declared.locals.Scope.TheVariants as locals
use Rattle.hx_check.specs.declared.locals.Scopes.{Scopes as CodeScopes}
use Rattle.hx_check.specs.declared.locals.Scopes.TheVariants as scopes
use Rattle.hx_check.specs.declared.locals.Locals.{Locals}

abbrev pub scope_of : Scope → Map ℕ
scope_of locals.Empty = []
scope_of (locals.Local' text word p rest) = (text.items, word) ∷ scope_of rest

abbrev pub scopes_of : CodeScopes → Scopes
scopes_of scopes.Outside = []
scopes_of (scopes.Inside' scope p outer) = scope_of scope ∷ scopes_of outer

abbrev pub known_of : Locals → Known
known_of l = record { scopes = scopes_of l.scopes; next = l.next }

abbrev pub pair_of : {A : Type 0} → Vec ℕ A × Symbol → List ℕ × Symbol
pair_of entry = (entry.0.items, entry.1)

abbrev pub declared_of : Symbols → Declared
declared_of s = record { symbols = map pair_of s.table.entries; words = s.words; functions = s.functions }

abbrev pub symbols_in : Symbols → Map Symbol
symbols_in s = map pair_of s.table.entries
