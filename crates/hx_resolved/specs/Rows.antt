-- Worked rows: resolved programs and what their regions take along.
use Rattle.std.specs.Prelude.{◌≡◌, ℕ, ℤ, negsuc, true, false, List, [], ◌∷◌, Option, Some, None, codes, refl, pos}
use Rattle.hx_tree.specs.declared.tree.Returns.TheVariants as returns
use Rattle.hx_tree.specs.declared.tree.BinaryOp.TheVariants.{Strict}
use Rattle.hx_tree.specs.declared.tree.UnaryOp.TheVariants.{Negate}
use Rattle.hx_tree.specs.declared.tree.Operator.{Operator}
use Rattle.hx_tree.specs.declared.tree.Operator.TheVariants.{Add, Sub, Mul, Less}
use Rattle.hx_tree.specs.Tree as tree
use Rattle.hx_tree.specs.Effect.{no_place}
use Rattle.hx_tree.specs.Rows.{at, named}
use Rattle.hx_resolved.specs.declared.program.Induct.{Induct}
use Rattle.hx_resolved.specs.Resolved.{Number, Private, Word, Call, Binary, ToPrivate, ToElement, Set, Update, Simple, Declare, Assign, Clauses, Plain, IsRegion, Stmt, Do, Print, Block, Loop, Return, CallStatement, exprs, stmts, Program}
use Rattle.hx_resolved.specs.Symbols.{Scopes}
use Rattle.hx_resolved.specs.Counts.{step_counts}
use Rattle.hx_resolved.specs.Resolve.{resolve}
use Rattle.hx_resolved.specs.Carried.{region_of}

-- int main(){ int s=0; int k=3; pfor(int i=0;i<k;i++) s+=i; print(s); }
abbrev pub summing : tree.Program
summing = record {
  items = tree.Function (record {
    returns = returns.Int;
    name = named (codes "main") (at 1 5);
    params = tree.NoParams;
    body = tree.parts
        (tree.Locals (record { name = named (codes "s") (at 1 17); init = Some (tree.Number 0) } ∷ [])
        ∷ tree.Locals (record { name = named (codes "k") (at 1 26); init = Some (tree.Number 3) } ∷ [])
        ∷ tree.Statement (tree.For true
        (record {
          init = tree.InitLocals (record { name = named (codes "i") (at 1 40); init = Some (tree.Number 0) } ∷ []);
          test = Some (tree.Binary (Strict Less) (at 1 45) (tree.Variable (named (codes "i") (at 1 44))) (tree.Variable (named (codes "k") (at 1 46))));
          step = Some (tree.Increment (tree.ToVariable (named (codes "i") (at 1 48))));
        })
        (tree.Assign (tree.Update (tree.ToVariable (named (codes "s") (at 1 53))) Add (at 1 54) (tree.Variable (named (codes "i") (at 1 56))))))
        ∷ tree.Statement (tree.Print (at 1 59) (tree.Variable (named (codes "s") (at 1 65))))
        ∷ []);
  }) ∷ [];
}

-- its loop carries s, copies k, and i is its induction local
abbrev pub summing_resolved : Program
summing_resolved = record {
  functions = record {
    name = codes "main";
    parameters = 0;
    privates = 3;
    need = 2;
    body = stmts
        (Do (Declare 0 (Number 0))
        ∷ Do (Declare 1 (Number 3))
        ∷ Loop (IsRegion (record { carried = 0 ∷ []; copied = 1 ∷ []; induct = Some (record { private = 2; step = pos 1 }) }))
        (record {
          init = Declare 2 (Number 0) ∷ [];
          test = Some (Binary (Strict Less) (at 1 45) (Private 2) (Private 1));
          step = Some (Update (ToPrivate 2) Add no_place (Number 1));
          counts = Some (record { private = 2; step = pos 1 });
        })
        (Do (Assign (Update (ToPrivate 0) Add (at 1 54) (Private 2))))
        ∷ Print (at 1 59) (Private 0)
        ∷ []);
  } ∷ [];
  main = 0;
  opening = [];
  input = None;
  input_length = None;
}

pub summing_resolves : resolve summing ≡ summing_resolved
summing_resolves = refl

-- int x = 7; int in[2] = {3}; int f(int x){ return x; } int n_in; int main(void){ in[x]++; { int x; x = f(x); } while(x) f(1); }
abbrev pub shadowing : tree.Program
shadowing = record {
  items =
      tree.Globals (record { name = named (codes "x") (at 1 5); shape = tree.Scalar (Some (record { is_negated = false; number = 7 })) } ∷ [])
      ∷ tree.Globals (record { name = named (codes "in") (at 1 16); shape = tree.Array 2 (record { is_negated = false; number = 3 } ∷ []) } ∷ [])
      ∷ tree.Function (record {
        returns = returns.Int;
        name = named (codes "f") (at 1 32);
        params = tree.NamedParams (named (codes "x") (at 1 38) ∷ []);
        body = tree.parts (tree.Statement (tree.Return (at 1 42) (Some (tree.Variable (named (codes "x") (at 1 49))))) ∷ []);
      })
      ∷ tree.Globals (record { name = named (codes "n_in") (at 1 58); shape = tree.Scalar None } ∷ [])
      ∷ tree.Function (record {
        returns = returns.Int;
        name = named (codes "main") (at 1 68);
        params = tree.VoidParams;
        body = tree.parts
            (tree.Statement (tree.Assign (tree.Increment (tree.ToElement (named (codes "in") (at 1 76)) (tree.Variable (named (codes "x") (at 1 78))))))
            ∷ tree.Statement (tree.Block (tree.parts
            (tree.Locals (record { name = named (codes "x") (at 1 90); init = None } ∷ [])
            ∷ tree.Statement (tree.Assign (tree.Set (tree.ToVariable (named (codes "x") (at 1 93))) (tree.Call (named (codes "f") (at 1 97)) (tree.exprs (tree.Variable (named (codes "x") (at 1 99)) ∷ [])))))
            ∷ [])))
            ∷ tree.Statement (tree.While false (tree.Variable (named (codes "x") (at 1 112))) (tree.CallStatement (named (codes "f") (at 1 115)) (tree.exprs (tree.Number 1 ∷ []))))
            ∷ []);
      })
      ∷ [];
}

abbrev pub shadowing_resolved : Program
shadowing_resolved = record {
  functions =
      record { name = codes "f"; parameters = 1; privates = 1; need = 1; body = stmts (Return (Private 0) ∷ []) }
      ∷ record {
        name = codes "main";
        parameters = 0;
        privates = 1;
        need = 3;
        body = stmts
            (Do (Assign (Update (ToElement (record { base = 1; length = 2 }) (at 1 76) (Word 0)) Add no_place (Number 1)))
            ∷ Block (stmts
            (Do (Declare 0 (Number 0))
            ∷ Do (Assign (Set (ToPrivate 0) (Call 0 (at 1 97) (exprs (Private 0 ∷ [])))))
            ∷ []))
            ∷ Loop Plain (record { init = []; test = Some (Word 0); step = None; counts = None })
            (CallStatement 0 (at 1 115) (exprs (Number 1 ∷ [])))
            ∷ []);
      }
      ∷ [];
  main = 1;
  opening = pos 7 ∷ pos 3 ∷ pos 0 ∷ pos 0 ∷ [];
  input = Some (record { base = 1; length = 2 });
  input_length = Some 3;
}

pub shadowing_resolves : resolve shadowing ≡ shadowing_resolved
shadowing_resolves = refl

-- ---- what a step counts; the locals i and j are the private words 0 and 1, and g is a global

abbrev two_locals : Scopes
two_locals = ((codes "i", 0) ∷ (codes "j", 1) ∷ []) ∷ []

abbrev here_is : List ℕ → tree.Place
here_is x = tree.ToVariable (named x (at 1 1))

abbrev updates : Operator → tree.Expr → Option tree.Assignment
updates op e = Some (tree.Update (here_is (codes "i")) op (at 1 2) e)

abbrev by : ℕ → ℤ → Option Induct
by k z = Some (record { private = k; step = z })

-- i++; j--
up : step_counts (Some (tree.Increment (here_is (codes "i")))) two_locals ≡ by 0 (pos 1)
up = refl

down : step_counts (Some (tree.Decrement (here_is (codes "j")))) two_locals ≡ by 1 (negsuc 0)
down = refl

-- i += 7; i -= 4; i += 0; i -= 0
up_by_seven : step_counts (updates Add (tree.Number 7)) two_locals ≡ by 0 (pos 7)
up_by_seven = refl

down_by_four : step_counts (updates Sub (tree.Number 4)) two_locals ≡ by 0 (negsuc 3)
down_by_four = refl

by_nothing : step_counts (updates Add (tree.Number 0)) two_locals ≡ by 0 (pos 0)
by_nothing = refl

by_nothing_again : step_counts (updates Sub (tree.Number 0)) two_locals ≡ by 0 (pos 0)
by_nothing_again = refl

-- i = i + 1; i += (1); i += -1; i *= 2; i += j; no step; g++; g[i]++
no_set : step_counts (Some (tree.Set (here_is (codes "i")) (tree.Binary (Strict Add) (at 1 2) (tree.Variable (named (codes "i") (at 1 3))) (tree.Number 1)))) two_locals ≡ None
no_set = refl

no_parentheses : step_counts (updates Add (tree.Paren (tree.Number 1))) two_locals ≡ None
no_parentheses = refl

no_sign : step_counts (updates Add (tree.Unary Negate (tree.Number 1))) two_locals ≡ None
no_sign = refl

no_product : step_counts (updates Mul (tree.Number 2)) two_locals ≡ None
no_product = refl

no_local : step_counts (updates Add (tree.Variable (named (codes "j") (at 1 3)))) two_locals ≡ None
no_local = refl

no_step : step_counts None two_locals ≡ None
no_step = refl

no_global : step_counts (Some (tree.Increment (here_is (codes "g")))) two_locals ≡ None
no_global = refl

no_element : step_counts (Some (tree.Increment (tree.ToElement (named (codes "g") (at 1 1)) (tree.Variable (named (codes "i") (at 1 3)))))) two_locals ≡ None
no_element = refl

-- ---- induction locals: of loops whose step is i++, with i the private word 0

abbrev counting : List Simple → Clauses
counting init = record { init = init; test = None; step = Some (Update (ToPrivate 0) Add no_place (Number 1)); counts = by 0 (pos 1) }

-- i = 5
abbrev sets_it : Stmt
sets_it = Do (Assign (Set (ToPrivate 0) (Number 5)))

-- pfor(int i=0;;i++) print(i);
declared_here : region_of 1 (counting (Declare 0 (Number 0) ∷ [])) (Print (at 1 1) (Private 0)) ≡ record { carried = []; copied = []; induct = by 0 (pos 1) }
declared_here = refl

-- a local that is declared outside, or a parameter: pfor(i=j;;i++) print(i+j);
declared_outside : region_of 2 (counting (Assign (Set (ToPrivate 0) (Private 1)) ∷ [])) (Print (at 1 1) (Binary (Strict Add) (at 1 2) (Private 0) (Private 1))) ≡ record { carried = []; copied = 1 ∷ []; induct = by 0 (pos 1) }
declared_outside = refl

-- pfor(int j=0,i=0;;i++) j=i; where j is word 1
one_of_two : region_of 2 (counting (Declare 1 (Number 0) ∷ Declare 0 (Number 0) ∷ [])) (Do (Assign (Set (ToPrivate 1) (Private 0)))) ≡ record { carried = 1 ∷ []; copied = []; induct = by 0 (pos 1) }
one_of_two = refl

-- pfor(;;i++) print(i); and pfor(i+=2;;i++) print(i);
not_begun : region_of 1 (counting []) (Print (at 1 1) (Private 0)) ≡ record { carried = 0 ∷ []; copied = []; induct = None }
not_begun = refl

only_updated : region_of 1 (counting (Assign (Update (ToPrivate 0) Add (at 1 1) (Number 2)) ∷ [])) (Print (at 1 1) (Private 0)) ≡ record { carried = 0 ∷ []; copied = []; induct = None }
only_updated = refl

-- assigned in the body; in a block of it; in the step of a loop in it
assigned_in_body : region_of 1 (counting (Declare 0 (Number 0) ∷ [])) sets_it ≡ record { carried = 0 ∷ []; copied = []; induct = None }
assigned_in_body = refl

assigned_in_block : region_of 1 (counting (Declare 0 (Number 0) ∷ [])) (Block (stmts (Print (at 1 1) (Private 0) ∷ Block (stmts (sets_it ∷ [])) ∷ []))) ≡ record { carried = 0 ∷ []; copied = []; induct = None }
assigned_in_block = refl

assigned_in_inner_step : region_of 1 (counting (Declare 0 (Number 0) ∷ [])) (Loop Plain (counting []) (Print (at 1 1) (Private 0))) ≡ record { carried = 0 ∷ []; copied = []; induct = None }
assigned_in_inner_step = refl

-- an inner block that declares the name anew has another local, here word 1: pfor(int i=0;;i++) { int i=7; i=5; }
declared_anew : region_of 2 (counting (Declare 0 (Number 0) ∷ [])) (Block (stmts (Do (Declare 1 (Number 7)) ∷ Do (Assign (Set (ToPrivate 1) (Number 5))) ∷ []))) ≡ record { carried = []; copied = []; induct = by 0 (pos 1) }
declared_anew = refl
