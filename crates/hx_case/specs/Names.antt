-- What a program declares outside functions.
use Rattle.std.specs.Prelude.{ℕ, List, [], ◌∷◌, map, flat_map, find, bytes_eq, codes, Option, Some, None}
use Rattle.hx_tree.specs.Tree as tree
use Rattle.hx_tree.specs.Tree.{GlobalDecl, Func, Item, Program, Shape}

pub data Declared : Type 0 where
  Global : GlobalDecl → Declared
  Function : Func → Declared

abbrev pub text_of : Declared → List ℕ
text_of (Global g) = g.name.text
text_of (Function f) = f.name.text

-- one after another
abbrev pub declares : Item → List Declared
declares (tree.Globals gs) = map Global gs
declares (tree.Function f) = Function f ∷ []

-- the first of them that has the name
abbrev pub named : List ℕ → List Declared → Option Declared
named name ds = find (λ d. bytes_eq (text_of d) name) ds

abbrev pub length_of : Shape → Option ℕ
length_of (tree.Scalar value) = None
length_of (tree.Array n values) = Some n

abbrev pub array_length : Option Declared → Option ℕ
array_length (Some (Global g)) = length_of g.shape
array_length (Some (Function f)) = None
array_length None = None

-- how many words the array `in` has, where the program has one
abbrev pub input_room : Program → Option ℕ
input_room p = array_length (named (codes "in") (flat_map declares p.items))
