-- Worked rows: the listings of small resolved programs.
use Rattle.std.specs.Prelude.{◌≡◌, ℕ, List, [], ◌∷◌, ◌++◌, flat_map, Some, None, codes, refl, pos}
use Rattle.std.specs.Fmt.{digits}
use Rattle.hx_tree.specs.declared.token.Pos.{Pos}
use Rattle.hx_tree.specs.declared.tree.BinaryOp.TheVariants.{Strict, And}
use Rattle.hx_tree.specs.declared.tree.Operator.TheVariants.{Add, Less}
use Rattle.hx_resolved.specs.Resolved.{Number, Private, Word, Binary, ToPrivate, ToWord, ToElement, Set, Update, Declare, Assign, IsRegion, Do, Block, If, Loop, Break, stmts, Program}
use Rattle.hx_lowering.specs.Draft.{code_of}
use Rattle.hx_lower.specs.Listing.{listing_of}

abbrev at : ℕ → Pos
at col = record { line = 1; col = col }

abbrev lines : List (List ℕ) → List ℕ
lines texts = flat_map (λ text. text ++ 10 ∷ []) texts

-- int main(){}
abbrev pub empty : Program
empty = record {
  functions = record { name = codes "main"; parameters = 0; privates = 0; need = 1; body = stmts [] } ∷ [];
  main = 0;
  opening = [];
  input = None;
  input_length = None;
}

pub empty-listing : listing_of (code_of empty) ≡ lines (codes "globals 0" ∷ codes "func main 0 0 0" ∷ codes "0 const 0" ∷ codes "1 ret" ∷ [])
unfolding digits
empty-listing = refl

-- int c; int main(){ pwhile(c<2){ c=c+1; } }
abbrev pub counting : Program
counting = record {
  functions = record {
    name = codes "main";
    parameters = 0;
    privates = 0;
    need = 2;
    body = stmts
        (Loop (IsRegion (record { carried = []; copied = []; induct = None }))
        (record { init = []; test = Some (Binary (Strict Less) (at 28) (Word 0) (Number 2)); step = None; counts = None })
        (Block (stmts (Do (Assign (Set (ToWord 0) (Binary (Strict Add) (at 36) (Word 0) (Number 1)))) ∷ [])))
        ∷ []);
  } ∷ [];
  main = 0;
  opening = pos 0 ∷ [];
  input = None;
  input_length = None;
}

pub counting-listing : listing_of (code_of counting) ≡ lines
    (codes "globals 1" ∷ codes "func main 0 0 0" ∷ codes "region 1 20 carried copied"
    ∷ codes "0 enter 0 11" ∷ codes "1 glob 0" ∷ codes "2 const 2" ∷ codes "3 lt" ∷ codes "4 jfalse 10" ∷ codes "5 glob 0"
    ∷ codes "6 const 1" ∷ codes "7 add" ∷ codes "8 setglob 0" ∷ codes "9 turn" ∷ codes "10 leave" ∷ codes "11 glob 0"
    ∷ codes "12 const 2" ∷ codes "13 lt" ∷ codes "14 jfalse 20" ∷ codes "15 glob 0" ∷ codes "16 const 1" ∷ codes "17 add"
    ∷ codes "18 setglob 0" ∷ codes "19 jump 11" ∷ codes "20 const 0" ∷ codes "21 ret" ∷ [])
unfolding digits
counting-listing = refl

-- int a[3]; int main(){ int n=3; pfor(int i=0;i<n && n;i++){ if(i) break; a[i]+=1; } }
abbrev pub breaking : Program
breaking = record {
  functions = record {
    name = codes "main";
    parameters = 0;
    privates = 2;
    need = 3;
    body = stmts
        (Do (Declare 0 (Number 3))
        ∷ Loop (IsRegion (record { carried = []; copied = 0 ∷ []; induct = Some (record { private = 1; step = pos 1 }) }))
        (record {
          init = Declare 1 (Number 0) ∷ [];
          test = Some (Binary And (at 51) (Binary (Strict Less) (at 48) (Private 1) (Private 0)) (Private 0));
          step = Some (Update (ToPrivate 1) Add (at 57) (Number 1));
          counts = Some (record { private = 1; step = pos 1 });
        })
        (Block (stmts
        (If (Private 1) Break
        ∷ Do (Assign (Update (ToElement (record { base = 0; length = 3 }) (at 75) (Private 1)) Add (at 79) (Number 1)))
        ∷ [])))
        ∷ []);
  } ∷ [];
  main = 0;
  opening = pos 0 ∷ pos 0 ∷ pos 0 ∷ [];
  input = None;
  input_length = None;
}

pub breaking-listing : listing_of (code_of breaking) ≡ lines
    (codes "globals 3" ∷ codes "func main 0 0 2" ∷ codes "region 5 54 carried copied 0 induct 1 1" ∷ codes "0 const 3" ∷
    codes "1 setpriv 0" ∷ codes "2 const 0" ∷ codes "3 setpriv 1" ∷ codes "4 enter 0 30" ∷ codes "5 priv 1" ∷
    codes "6 priv 0" ∷ codes "7 lt" ∷ codes "8 jfalse 13" ∷ codes "9 priv 0" ∷ codes "10 jfalse 13" ∷
    codes "11 const 1" ∷ codes "12 jump 14" ∷ codes "13 const 0" ∷ codes "14 jfalse 29" ∷ codes "15 priv 1" ∷
    codes "16 jfalse 18" ∷ codes "17 jump 29" ∷ codes "18 priv 1" ∷ codes "19 dup" ∷ codes "20 elem 0 3 1 75" ∷
    codes "21 const 1" ∷ codes "22 add" ∷ codes "23 setelem 0 3 1 75" ∷ codes "24 priv 1" ∷ codes "25 const 1" ∷
    codes "26 add" ∷ codes "27 setpriv 1" ∷ codes "28 turn" ∷ codes "29 leave" ∷ codes "30 priv 1" ∷
    codes "31 priv 0" ∷ codes "32 lt" ∷ codes "33 jfalse 38" ∷ codes "34 priv 0" ∷ codes "35 jfalse 38" ∷
    codes "36 const 1" ∷ codes "37 jump 39" ∷ codes "38 const 0" ∷ codes "39 jfalse 54" ∷ codes "40 priv 1" ∷
    codes "41 jfalse 43" ∷ codes "42 jump 54" ∷ codes "43 priv 1" ∷ codes "44 dup" ∷ codes "45 elem 0 3 1 75" ∷
    codes "46 const 1" ∷ codes "47 add" ∷ codes "48 setelem 0 3 1 75" ∷ codes "49 priv 1" ∷ codes "50 const 1" ∷
    codes "51 add" ∷ codes "52 setpriv 1" ∷ codes "53 jump 30" ∷ codes "54 const 0" ∷ codes "55 ret" ∷ [])
unfolding digits
breaking-listing = refl

-- int a[2]; int main(){ pfor(int i=0;i<2;i++) a[i]=i; }
abbrev pub filling : Program
filling = record {
  functions = record {
    name = codes "main";
    parameters = 0;
    privates = 1;
    need = 2;
    body = stmts
        (Loop (IsRegion (record { carried = []; copied = []; induct = Some (record { private = 0; step = pos 1 }) }))
        (record {
          init = Declare 0 (Number 0) ∷ [];
          test = Some (Binary (Strict Less) (at 37) (Private 0) (Number 2));
          step = Some (Update (ToPrivate 0) Add (at 41) (Number 1));
          counts = Some (record { private = 0; step = pos 1 });
        })
        (Do (Assign (Set (ToElement (record { base = 0; length = 2 }) (at 45) (Private 0)) (Private 0))))
        ∷ []);
  } ∷ [];
  main = 0;
  opening = pos 0 ∷ pos 0 ∷ [];
  input = None;
  input_length = None;
}

pub filling-listing : listing_of (code_of filling) ≡ lines
    (codes "globals 2" ∷ codes "func main 0 0 1" ∷ codes "region 3 28 carried copied induct 0 1" ∷ codes "0 const 0" ∷
    codes "1 setpriv 0" ∷ codes "2 enter 0 16" ∷ codes "3 priv 0" ∷ codes "4 const 2" ∷ codes "5 lt" ∷
    codes "6 jfalse 15" ∷ codes "7 priv 0" ∷ codes "8 priv 0" ∷ codes "9 setelem 0 2 1 45" ∷ codes "10 priv 0" ∷
    codes "11 const 1" ∷ codes "12 add" ∷ codes "13 setpriv 0" ∷ codes "14 turn" ∷ codes "15 leave" ∷
    codes "16 priv 0" ∷ codes "17 const 2" ∷ codes "18 lt" ∷ codes "19 jfalse 28" ∷ codes "20 priv 0" ∷
    codes "21 priv 0" ∷ codes "22 setelem 0 2 1 45" ∷ codes "23 priv 0" ∷ codes "24 const 1" ∷ codes "25 add" ∷
    codes "26 setpriv 0" ∷ codes "27 jump 16" ∷ codes "28 const 0" ∷ codes "29 ret" ∷ [])
unfolding digits
filling-listing = refl
