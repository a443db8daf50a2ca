-- Worked rows: what the words of a program's region are called, and where its regions stand.
use Rattle.std.specs.Prelude.{◌≡◌, ℕ, true, false, List, [], ◌∷◌, Some, None, codes, refl}
use Rattle.hx_tree.specs.declared.token.Mark.TheVariants as mark
use Rattle.hx_tree.specs.declared.tree.Returns.TheVariants as returns
use Rattle.hx_tree.specs.Lexis.{NameToken, NumberToken, MarkToken}
use Rattle.hx_tree.specs.Tree as tree
use Rattle.hx_tree.specs.Rows.{at, named}
use Rattle.hx_code.specs.Code.{CodeView}
use Rattle.hx_names.specs.Names.{Named, global_names, private_names, names}
use Rattle.hx_names.specs.Lines.{program_marks, outer_lines}

abbrev local : List ℕ → tree.Part
local x = tree.Locals (record { name = named x (at 1 1); init = None } ∷ [])

abbrev global : List ℕ → tree.Shape → tree.GlobalDecl
global x shape = record { name = named x (at 1 1); shape = shape }

abbrev g : tree.Expr
g = tree.Variable (named (codes "g") (at 1 1))

-- int f(int p){ int x; do { int y; } while(g); if(g) { int z; } else pfor(int i;;) { int w; pwhile(g); } while(g) { int v; } pwhile(g); }
abbrev f : tree.Func
f = record {
  returns = returns.Int;
  name = named (codes "f") (at 1 1);
  params = tree.NamedParams (named (codes "p") (at 1 1) ∷ []);
  body = tree.parts
      (local (codes "x")
      ∷ tree.Statement (tree.DoWhile (tree.Block (tree.parts (local (codes "y") ∷ []))) g)
      ∷ tree.Statement (tree.IfElse g (tree.Block (tree.parts (local (codes "z") ∷ []))) (tree.For true
      (record { init = tree.InitLocals (record { name = named (codes "i") (at 1 1); init = None } ∷ []); test = None; step = None })
      (tree.Block (tree.parts (local (codes "w") ∷ tree.Statement (tree.While true g tree.Empty) ∷ [])))))
      ∷ tree.Statement (tree.While false g (tree.Block (tree.parts (local (codes "v") ∷ []))))
      ∷ tree.Statement (tree.While true g tree.Empty)
      ∷ []);
}

-- int g, a[3]; void skip(){} int h; and the function
abbrev program : tree.Program
program = record {
  items =
      tree.Globals (global (codes "g") (tree.Scalar None) ∷ global (codes "a") (tree.Array 3 []) ∷ [])
      ∷ tree.Function (record { returns = returns.Void; name = named (codes "skip") (at 1 1); params = tree.NoParams; body = tree.no_parts })
      ∷ tree.Globals (global (codes "h") (tree.Scalar None) ∷ [])
      ∷ tree.Function f
      ∷ [];
}

privates : private_names f ≡ codes "p" ∷ codes "x" ∷ codes "y" ∷ codes "z" ∷ codes "i" ∷ codes "w" ∷ codes "v" ∷ []
privates = refl

-- the tables of code of it, as far as names go by them: a region of the function that carries y and w, and a word that there is not
abbrev code : CodeView
code = record {
  words = [];
  spots = record { function = 0; region = None; height = 0 } ∷ record { function = 1; region = Some 0; height = 0 } ∷ [];
  functions = [];
  regions = record {
    start = 1;
    exit = 0;
    carried = record { private = 2; cell = 0 } ∷ record { private = 5; cell = 1 } ∷ record { private = 7; cell = 2 } ∷ [];
    copied = [];
    induct = None;
  } ∷ [];
  globals = 5;
  opening = [];
  main = 0;
  input = None;
  input_length = None;
}

abbrev of_globals : List Named → List Named
of_globals behind =
    record { base = 0; length = 1; is_array = false; name = codes "g" }
    ∷ record { base = 1; length = 3; is_array = true; name = codes "a" }
    ∷ record { base = 4; length = 1; is_array = false; name = codes "h" }
    ∷ behind

carried : names program code 0 ≡ of_globals
    (record { base = 5; length = 1; is_array = false; name = codes "y" }
    ∷ record { base = 6; length = 1; is_array = false; name = codes "w" }
    ∷ [])
carried = refl

no_region : names program code 1 ≡ of_globals []
no_region = refl

-- a place past the greatest 32-bit number is told as that
far : global_names (global (codes "a") (tree.Array 4294967295 []) ∷ global (codes "b") (tree.Array 2 []) ∷ global (codes "c") (tree.Scalar None) ∷ []) 0
    ≡ record { base = 0; length = 4294967295; is_array = true; name = codes "a" }
    ∷ record { base = 4294967295; length = 2; is_array = true; name = codes "b" }
    ∷ record { base = 4294967295; length = 1; is_array = false; name = codes "c" }
    ∷ []
far = refl

-- ---- lines

-- the `pwhile` in the `pfor` isn't outer
marks : program_marks program ≡ true ∷ false ∷ true ∷ []
marks = refl

lines : outer_lines
    (MarkToken mark.While (at 1 2) ∷ MarkToken mark.MarkedFor (at 3 1) ∷ NameToken (named (codes "i") (at 3 6)) ∷ MarkToken mark.MarkedWhile (at 4 9)
    ∷ NumberToken 7 (at 4 20) ∷ MarkToken mark.For (at 5 1) ∷ MarkToken mark.MarkedWhile (at 6 1) ∷ [])
    program ≡ 3 ∷ 6 ∷ []
lines = refl
