-- Worked rows: the conditional operator and `do`. Trees of small sources, what they mean, how one is spelled, and what is refused.
use Rattle.std.specs.Prelude.{◌≡◌, ℕ, zero, suc, ◌≤◌, ◌++◌, true, List, [], ◌∷◌, flat_map, map, ℤ, pos, Some, None, codes, refl}
use Rattle.std.specs.Fmt.{signed_decimal, digits}
use Rattle.std.specs.Int.{int_wrap}
use Rattle.std.proofs.Common.{arith}
use Rattle.hx_tree.specs.declared.token.Pos.{Pos}
use Rattle.hx_tree.specs.declared.token.Mark.TheVariants as mark
use Rattle.hx_tree.specs.declared.token.Kind.TheVariants as kind
use Rattle.hx_tree.specs.declared.tree.Returns.TheVariants as returns
use Rattle.hx_tree.specs.declared.tree.BinaryOp.TheVariants as binary
use Rattle.hx_tree.specs.declared.tree.Operator.TheVariants as op
use Rattle.hx_tree.specs.declared.outcome.End.TheVariants as end
use Rattle.hx_tree.specs.declared.outcome.FaultKind.TheVariants as fault
use Rattle.hx_tree.specs.Tree.{Expr, Number, Variable, Call, Binary, Conditional, no_exprs, ToVariable, Update, Increment, InitLocals, Block, Assign, Print, If, DoWhile, For, Break, Continue, Return, Locals, Statement, no_parts, parts, Scalar, NoParams, Globals, Function, Program}
use Rattle.hx_tree.specs.Lexis.{Piece, Falls, tokens_of, first_place, class_of, keyword_of, punctuator_at, constant_of, close_len, Token}
use Rattle.hx_tree.specs.Grammar.{Spells, IsProgram, IsExprOf}
use Rattle.hx_tree.specs.Meaning.{meaning, functions_of}
use Rattle.hx_tree.specs.Accepted.{IsAccepted, FunctionKind}
use Rattle.hx_tree.specs.Height.{program_height}
use Rattle.hx_tree.specs.Need.{function_need}
use Rattle.hx_tree.specs.Rows.{at, named}

abbrev lines : List ℤ → List ℕ
lines ns = flat_map (λ z. signed_decimal z ++ 10 ∷ []) ns

-- ---- meanings

-- int main(){ int i=0; do { print(i); i++; } while(i<2); print(i<2 ? 7 : i>2 ? 8 : 9); }
abbrev pub chosen : Program
chosen = record { items = Function (record { returns = returns.Int; name = (named (codes "main") (at 1 5)); params = NoParams; body = (parts ((Locals ((record { name = (named (codes "i") (at 1 17)); init = Some (Number 0) }) ∷ [])) ∷ (Statement (DoWhile (Block (parts ((Statement (Print (at 1 27) (Variable (named (codes "i") (at 1 33))))) ∷ (Statement (Assign (Increment (ToVariable (named (codes "i") (at 1 37)))))) ∷ []))) (Binary (binary.Strict op.Less) (at 1 51) (Variable (named (codes "i") (at 1 50))) (Number 2)))) ∷ (Statement (Print (at 1 56) (Conditional (Binary (binary.Strict op.Less) (at 1 63) (Variable (named (codes "i") (at 1 62))) (Number 2)) (Number 7) (Conditional (Binary (binary.Strict op.Greater) (at 1 73) (Variable (named (codes "i") (at 1 72))) (Number 2)) (Number 8) (Number 9))))) ∷ [])) }) ∷ [] }

pub chosen-means : meaning chosen [] 1 ≡ Some (record { text = lines (pos 0 ∷ pos 1 ∷ pos 9 ∷ []); globals = []; finish = end.Normal (pos 0); turns = 0 })
unfolding int_wrap digits
chosen-means = refl

-- int main(){ int x=0; print(x==0 ? 5 : 1/x); }
abbrev pub one_arm : Program
one_arm = record { items = Function (record { returns = returns.Int; name = (named (codes "main") (at 1 5)); params = NoParams; body = (parts ((Locals ((record { name = (named (codes "x") (at 1 17)); init = Some (Number 0) }) ∷ [])) ∷ (Statement (Print (at 1 22) (Conditional (Binary (binary.Strict op.Equal) (at 1 29) (Variable (named (codes "x") (at 1 28))) (Number 0)) (Number 5) (Binary (binary.Strict op.Div) (at 1 40) (Number 1) (Variable (named (codes "x") (at 1 41))))))) ∷ [])) }) ∷ [] }

pub one_arm-means : meaning one_arm [] 0 ≡ Some (record { text = lines (pos 5 ∷ []); globals = []; finish = end.Normal (pos 0); turns = 0 })
unfolding int_wrap digits
one_arm-means = refl

-- int main(){ int x=0; print(7); print(x ? 5 : 1/x); }
abbrev pub fault_in_arm : Program
fault_in_arm = record { items = Function (record { returns = returns.Int; name = (named (codes "main") (at 1 5)); params = NoParams; body = (parts ((Locals ((record { name = (named (codes "x") (at 1 17)); init = Some (Number 0) }) ∷ [])) ∷ (Statement (Print (at 1 22) (Number 7))) ∷ (Statement (Print (at 1 32) (Conditional (Variable (named (codes "x") (at 1 38))) (Number 5) (Binary (binary.Strict op.Div) (at 1 47) (Number 1) (Variable (named (codes "x") (at 1 48))))))) ∷ [])) }) ∷ [] }

pub fault_in_arm-means : meaning fault_in_arm [] 0 ≡ Some (record { text = lines (pos 7 ∷ []); globals = []; finish = end.Fault (record { kind = fault.ZeroDivisor; pos = at 1 47 }); turns = 0 })
unfolding int_wrap digits
fault_in_arm-means = refl

-- int main(){ int i=0; do { i++; if(i==2) continue; print(i); } while(i<3); }
abbrev pub continued : Program
continued = record { items = Function (record { returns = returns.Int; name = (named (codes "main") (at 1 5)); params = NoParams; body = (parts ((Locals ((record { name = (named (codes "i") (at 1 17)); init = Some (Number 0) }) ∷ [])) ∷ (Statement (DoWhile (Block (parts ((Statement (Assign (Increment (ToVariable (named (codes "i") (at 1 27)))))) ∷ (Statement (If (Binary (binary.Strict op.Equal) (at 1 36) (Variable (named (codes "i") (at 1 35))) (Number 2)) (Continue (at 1 41)))) ∷ (Statement (Print (at 1 51) (Variable (named (codes "i") (at 1 57))))) ∷ []))) (Binary (binary.Strict op.Less) (at 1 70) (Variable (named (codes "i") (at 1 69))) (Number 3)))) ∷ [])) }) ∷ [] }

pub continued-means : meaning continued [] 2 ≡ Some (record { text = lines (pos 1 ∷ pos 3 ∷ []); globals = []; finish = end.Normal (pos 0); turns = 0 })
unfolding int_wrap digits
continued-means = refl

-- int main(){ do print(3); while(0); }
abbrev pub once : Program
once = record { items = Function (record { returns = returns.Int; name = (named (codes "main") (at 1 5)); params = NoParams; body = (parts ((Statement (DoWhile (Print (at 1 16) (Number 3)) (Number 0))) ∷ [])) }) ∷ [] }

pub once-means : meaning once [] 0 ≡ Some (record { text = lines (pos 3 ∷ []); globals = []; finish = end.Normal (pos 0); turns = 0 })
unfolding int_wrap digits
once-means = refl

-- int f(){ int n=0; do { do { if(n>1) break; n++; continue; } while(1); return n; } while(1/0); } int main(){ print(f()); }
abbrev pub left : Program
left = record { items = Function (record { returns = returns.Int; name = (named (codes "f") (at 1 5)); params = NoParams; body = (parts ((Locals ((record { name = (named (codes "n") (at 1 14)); init = Some (Number 0) }) ∷ [])) ∷ (Statement (DoWhile (Block (parts ((Statement (DoWhile (Block (parts ((Statement (If (Binary (binary.Strict op.Greater) (at 1 33) (Variable (named (codes "n") (at 1 32))) (Number 1)) (Break (at 1 37)))) ∷ (Statement (Assign (Increment (ToVariable (named (codes "n") (at 1 44)))))) ∷ (Statement (Continue (at 1 49))) ∷ []))) (Number 1))) ∷ (Statement (Return (at 1 71) (Some (Variable (named (codes "n") (at 1 78)))))) ∷ []))) (Binary (binary.Strict op.Div) (at 1 90) (Number 1) (Number 0)))) ∷ [])) }) ∷ Function (record { returns = returns.Int; name = (named (codes "main") (at 1 101)); params = NoParams; body = (parts ((Statement (Print (at 1 109) (Call (named (codes "f") (at 1 115)) no_exprs))) ∷ [])) }) ∷ [] }

pub left-means : meaning left [] 2 ≡ Some (record { text = lines (pos 2 ∷ []); globals = []; finish = end.Normal (pos 0); turns = 0 })
unfolding int_wrap digits
left-means = refl

-- int s; int main(){ pfor(int i=0;i<3;i++){ int j=0; do { s+=i; j++; } while(j<2); } print(s); }
abbrev pub do_in_region : Program
do_in_region = record { items = Globals ((record { name = (named (codes "s") (at 1 5)); shape = Scalar None }) ∷ []) ∷ Function (record { returns = returns.Int; name = (named (codes "main") (at 1 12)); params = NoParams; body = (parts ((Statement (For true (record { init = InitLocals ((record { name = (named (codes "i") (at 1 29)); init = Some (Number 0) }) ∷ []); test = (Some (Binary (binary.Strict op.Less) (at 1 34) (Variable (named (codes "i") (at 1 33))) (Number 3))); step = (Some (Increment (ToVariable (named (codes "i") (at 1 37))))) }) (Block (parts ((Locals ((record { name = (named (codes "j") (at 1 47)); init = Some (Number 0) }) ∷ [])) ∷ (Statement (DoWhile (Block (parts ((Statement (Assign (Update (ToVariable (named (codes "s") (at 1 57))) op.Add (at 1 58) (Variable (named (codes "i") (at 1 60)))))) ∷ (Statement (Assign (Increment (ToVariable (named (codes "j") (at 1 63)))))) ∷ []))) (Binary (binary.Strict op.Less) (at 1 77) (Variable (named (codes "j") (at 1 76))) (Number 2)))) ∷ []))))) ∷ (Statement (Print (at 1 84) (Variable (named (codes "s") (at 1 90))))) ∷ [])) }) ∷ [] }

pub do_in_region-means : meaning do_in_region [] 3 ≡ Some (record { text = lines (pos 6 ∷ []); globals = pos 6 ∷ []; finish = end.Normal (pos 0); turns = 3 })
unfolding int_wrap digits
do_in_region-means = refl

-- int s; int main(){ do pfor(int i=0;i<2;i++) s++; while(s<6); print(s); }
abbrev pub region_in_do : Program
region_in_do = record { items = Globals ((record { name = (named (codes "s") (at 1 5)); shape = Scalar None }) ∷ []) ∷ Function (record { returns = returns.Int; name = (named (codes "main") (at 1 12)); params = NoParams; body = (parts ((Statement (DoWhile (For true (record { init = InitLocals ((record { name = (named (codes "i") (at 1 32)); init = Some (Number 0) }) ∷ []); test = (Some (Binary (binary.Strict op.Less) (at 1 37) (Variable (named (codes "i") (at 1 36))) (Number 2))); step = (Some (Increment (ToVariable (named (codes "i") (at 1 40))))) }) (Assign (Increment (ToVariable (named (codes "s") (at 1 45)))))) (Binary (binary.Strict op.Less) (at 1 57) (Variable (named (codes "s") (at 1 56))) (Number 6)))) ∷ (Statement (Print (at 1 62) (Variable (named (codes "s") (at 1 68))))) ∷ [])) }) ∷ [] }

pub region_in_do-means : meaning region_in_do [] 2 ≡ Some (record { text = lines (pos 6 ∷ []); globals = pos 6 ∷ []; finish = end.Normal (pos 0); turns = 6 })
unfolding int_wrap digits
region_in_do-means = refl

-- ---- spellings

abbrev pub chosen_source : List ℕ
chosen_source = codes "int main(){ int i=0; do { print(i); i++; } while(i<2); print(i<2 ? 7 : i>2 ? 8 : 9); }"

abbrev pub chosen_pieces : List Piece
chosen_pieces = ((Some (kind.Mark mark.Int), codes "int") ∷ (None, codes " ") ∷ (Some kind.Name, codes "main") ∷ (Some (kind.Mark mark.OpenParen), codes "(") ∷ (Some (kind.Mark mark.CloseParen), codes ")") ∷ (Some (kind.Mark mark.OpenBrace), codes "{") ∷ (None, codes " ") ∷ (Some (kind.Mark mark.Int), codes "int") ∷ (None, codes " ") ∷ (Some kind.Name, codes "i") ∷ (Some (kind.Mark mark.Assign), codes "=") ∷ (Some (kind.Number 0), codes "0") ∷ (Some (kind.Mark mark.Semicolon), codes ";") ∷ (None, codes " ") ∷ (Some (kind.Mark mark.Do), codes "do") ∷ (None, codes " ") ∷ (Some (kind.Mark mark.OpenBrace), codes "{") ∷ (None, codes " ") ∷ (Some (kind.Mark mark.Print), codes "print") ∷ (Some (kind.Mark mark.OpenParen), codes "(") ∷ (Some kind.Name, codes "i") ∷ (Some (kind.Mark mark.CloseParen), codes ")") ∷ (Some (kind.Mark mark.Semicolon), codes ";") ∷ (None, codes " ") ∷ (Some kind.Name, codes "i") ∷ (Some (kind.Mark mark.Increment), codes "++") ∷ (Some (kind.Mark mark.Semicolon), codes ";") ∷ (None, codes " ") ∷ (Some (kind.Mark mark.CloseBrace), codes "}") ∷ (None, codes " ") ∷ (Some (kind.Mark mark.While), codes "while") ∷ (Some (kind.Mark mark.OpenParen), codes "(") ∷ (Some kind.Name, codes "i") ∷ (Some (kind.Mark mark.Less), codes "<") ∷ (Some (kind.Number 2), codes "2") ∷ (Some (kind.Mark mark.CloseParen), codes ")") ∷ (Some (kind.Mark mark.Semicolon), codes ";") ∷ (None, codes " ") ∷ (Some (kind.Mark mark.Print), codes "print") ∷ (Some (kind.Mark mark.OpenParen), codes "(") ∷ (Some kind.Name, codes "i") ∷ (Some (kind.Mark mark.Less), codes "<") ∷ (Some (kind.Number 2), codes "2") ∷ (None, codes " ") ∷ (Some (kind.Mark mark.Question), codes "?") ∷ (None, codes " ") ∷ (Some (kind.Number 7), codes "7") ∷ (None, codes " ") ∷ (Some (kind.Mark mark.Colon), codes ":") ∷ (None, codes " ") ∷ (Some kind.Name, codes "i") ∷ (Some (kind.Mark mark.Greater), codes ">") ∷ (Some (kind.Number 2), codes "2") ∷ (None, codes " ") ∷ (Some (kind.Mark mark.Question), codes "?") ∷ (None, codes " ") ∷ (Some (kind.Number 8), codes "8") ∷ (None, codes " ") ∷ (Some (kind.Mark mark.Colon), codes ":") ∷ (None, codes " ") ∷ (Some (kind.Number 9), codes "9") ∷ (Some (kind.Mark mark.CloseParen), codes ")") ∷ (Some (kind.Mark mark.Semicolon), codes ";") ∷ (None, codes " ") ∷ (Some (kind.Mark mark.CloseBrace), codes "}") ∷ [])

pub chosen-falls : Falls chosen_pieces chosen_source
unfolding class_of keyword_of punctuator_at constant_of close_len
chosen-falls = (_, refl, omega arith, (refl, refl), (_, refl, omega arith, refl, (_, refl, omega arith, (refl, refl, omega arith), (_, refl, omega arith, refl, (_, refl, omega arith, refl, (_, refl, omega arith, refl, (_, refl, omega arith, refl, (_, refl, omega arith, (refl, refl), (_, refl, omega arith, refl, (_, refl, omega arith, (refl, refl, omega arith), (_, refl, omega arith, refl, (_, refl, omega arith, (refl, refl), (_, refl, omega arith, refl, (_, refl, omega arith, refl, (_, refl, omega arith, (refl, refl), (_, refl, omega arith, refl, (_, refl, omega arith, refl, (_, refl, omega arith, refl, (_, refl, omega arith, (refl, refl), (_, refl, omega arith, refl, (_, refl, omega arith, (refl, refl, omega arith), (_, refl, omega arith, refl, (_, refl, omega arith, refl, (_, refl, omega arith, refl, (_, refl, omega arith, (refl, refl, omega arith), (_, refl, omega arith, refl, (_, refl, omega arith, refl, (_, refl, omega arith, refl, (_, refl, omega arith, refl, (_, refl, omega arith, refl, (_, refl, omega arith, (refl, refl), (_, refl, omega arith, refl, (_, refl, omega arith, (refl, refl, omega arith), (_, refl, omega arith, refl, (_, refl, omega arith, (refl, refl), (_, refl, omega arith, refl, (_, refl, omega arith, refl, (_, refl, omega arith, refl, (_, refl, omega arith, (refl, refl), (_, refl, omega arith, refl, (_, refl, omega arith, (refl, refl, omega arith), (_, refl, omega arith, refl, (_, refl, omega arith, (refl, refl), (_, refl, omega arith, refl, (_, refl, omega arith, refl, (_, refl, omega arith, refl, (_, refl, omega arith, (refl, refl), (_, refl, omega arith, refl, (_, refl, omega arith, refl, (_, refl, omega arith, refl, (_, refl, omega arith, (refl, refl, omega arith), (_, refl, omega arith, refl, (_, refl, omega arith, (refl, refl), (_, refl, omega arith, refl, (_, refl, omega arith, refl, (_, refl, omega arith, refl, (_, refl, omega arith, (refl, refl), (_, refl, omega arith, refl, (_, refl, omega arith, refl, (_, refl, omega arith, refl, (_, refl, omega arith, (refl, refl), (_, refl, omega arith, refl, (_, refl, omega arith, refl, (_, refl, omega arith, refl, (_, refl, omega arith, refl, refl)))))))))))))))))))))))))))))))))))))))))))))))))))))))))))))))))

pub chosen-parses : IsProgram chosen (tokens_of first_place chosen_pieces)
chosen-parses = (_, (_, (_, refl), (_, refl, (_, (_, refl), (_, refl, (_, (_, refl), (_, (_, refl), (_, (_, (_, (_, (_, refl), (_, (_, refl, (_, (_, refl), (_, refl))), refl)), (_, refl)), (_, (_, (_, refl), (_, (_, (_, refl), (_, (_, (_, refl, (_, (_, (_, refl), (_, refl, (_, refl))), (_, refl))), (_, (_, (_, refl, (_, refl)), (_, refl)), refl)), (_, refl))), (_, (_, refl), (_, (_, (_, refl), (_, (omega arith, (_, refl, (_, refl, (_, refl)))), (_, refl))), (_, refl))))), (_, (_, refl, (_, (_, (_, refl), (_, (omega arith, (_, (omega arith, (_, refl, (_, refl, (_, refl)))), (_, (_, refl), (_, (_, refl), (_, (_, refl), (omega arith, (_, (omega arith, (_, refl, (_, refl, (_, refl)))), (_, (_, refl), (_, (_, refl), (_, (_, refl), (_, refl))))))))))), (_, refl))), (_, refl))), refl))), (_, refl)))))))), refl)

pub chosen-spells : Spells chosen_source chosen
chosen-spells = record { is_short = omega arith; tokens = tokens_of first_place chosen_pieces; are_tokens = (chosen_pieces, chosen-falls, refl); is_program = chosen-parses }

-- the test of a conditional expression is none without parentheses, so `a ? b : c ? d : e` goes to the right
pub conditionals_go_right : (k : ℕ) (a b c d e : Expr) (from to : List Token) → IsExprOf k (Conditional (Conditional a b c) d e) from to → ⊥
conditionals_go_right k a b c d e from to h = let fits : 11 ≤ 10 = h.1.1.0 in absurd (omega arith)

-- neither is a side of `||`
pub or_binds_tighter : (k : ℕ) (p : Pos) (a b c d : Expr) (from to : List Token) → IsExprOf k (Binary binary.Or p a (Conditional b c d)) from to → ⊥
or_binds_tighter k p a b c d from to h = let fits : 11 ≤ 9 = h.1.2.2.0 in absurd (omega arith)

-- ---- measures and refusals

pub heights : map program_height (chosen ∷ once ∷ []) ≡ 8 ∷ 6 ∷ []
heights = refl

pub needs : map (λ p. map function_need (functions_of p)) (chosen ∷ once ∷ left ∷ []) ≡ (2 ∷ []) ∷ (1 ∷ []) ∷ (2 ∷ 1 ∷ []) ∷ []
needs = refl

abbrev printing : Expr → Program
printing e = record { items = Function (record { returns = returns.Int; name = named (codes "main") (at 1 5); params = NoParams; body = parts (Statement (Print (at 1 13) e) ∷ []) }) ∷ [] }

-- 1 ? 1 : 1 ? 1 : .. 1
abbrev choices : ℕ → Expr
choices zero = Number 1
choices (suc n) = Conditional (Number 1) (Number 1) (choices n)

pub height_of_choices : map (λ n. program_height (printing (choices n))) (195 ∷ 196 ∷ []) ≡ 200 ∷ 201 ∷ []
height_of_choices = refl

pub too_high : IsAccepted (printing (choices 196)) → ⊥
too_high h = let low : 201 ≤ 200 = h.is_low in absurd (omega arith)

-- 1 + (1 + .. 1), without the parentheses as a tree: so many operands at once
abbrev sums : ℕ → Expr
sums zero = Number 1
sums (suc n) = Binary (binary.Strict op.Add) (at 1 1) (Number 1) (sums n)

-- the greatest of the three parts
pub need_of_choices : map (λ e. map function_need (functions_of (printing e))) (Conditional (sums 3) (sums 1) (sums 2) ∷ Conditional (sums 1) (sums 3) (sums 2) ∷ Conditional (sums 1) (sums 2) (sums 3) ∷ []) ≡ (4 ∷ []) ∷ (4 ∷ []) ∷ (4 ∷ []) ∷ []
need_of_choices = refl

-- void g(){} int main(){ print(1?g():2); }
abbrev pub void_arm : Program
void_arm = record { items = Function (record { returns = returns.Void; name = (named (codes "g") (at 1 6)); params = NoParams; body = no_parts }) ∷ Function (record { returns = returns.Int; name = (named (codes "main") (at 1 16)); params = NoParams; body = (parts ((Statement (Print (at 1 24) (Conditional (Number 1) (Call (named (codes "g") (at 1 32)) no_exprs) (Number 2)))) ∷ [])) }) ∷ [] }

pub void_arm-refused : IsAccepted void_arm → ⊥
void_arm-refused h = let e : Some (FunctionKind returns.Void 0) ≡ Some (FunctionKind returns.Int 0) = (h.items 1 (Globals []) (omega arith)).body.0.1.0 in cc
