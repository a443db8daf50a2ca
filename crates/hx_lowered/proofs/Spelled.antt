-- A source is short, so the code of its program has few words: ten for each token at most.
use Rattle.std.proofs.Common.{◌≡◌, ℕ, suc, ◌+◌, ◌*◌, ◌≤◌, ◌<◌, ◌^◌, Bool, true, false, List, [], ◌∷◌, length, map, Option, Some, None, pos, refl, sym, ap, subst, arith, length-append}
use Rattle.std.specs.Prelude.{option_map, flat_map}
use Rattle.std.proofs.lemmas.List.{length-map}
use Rattle.hx_tree.specs.declared.token.Pos.{Pos}
use Rattle.hx_tree.specs.declared.token.Mark.{Mark}
use Rattle.hx_tree.specs.declared.token.Mark.TheVariants as mark
use Rattle.hx_tree.specs.declared.tree.Constant.{Constant}
use Rattle.hx_tree.specs.declared.tree.Operator.{Operator}
use Rattle.hx_tree.specs.declared.tree.Operator.TheVariants as op
use Rattle.hx_tree.specs.declared.tree.BinaryOp.TheVariants.{Strict, And, Or}
use Rattle.hx_tree.specs.Tree as tree
use Rattle.hx_tree.specs.World.{Map}
use Rattle.hx_tree.specs.Effect.{no_place}
use Rattle.hx_tree.specs.Meaning.{item_functions}
use Rattle.hx_tree.specs.Lexis.{Token, Piece, Falls, tokens_of, place_after, first_place}
use Rattle.hx_tree.specs.Grammar.{Named, Numeral, At, The, Optional, EachBehindComma, Listed, IsExprOf, IsExpr, AreArguments, AreMoreArguments, IsLocal, AreLocals, IsPlace, Updating, IsAssignment, IsInit, AreForClauses, InParens, IsStmt, IsPart, AreParts, Sign, IsConstant, AreValues, IsShape, IsGlobal, IsParams, AreItems, Spells}
use Rattle.hx_tree.specs.Accepted.{stmt_locals, part_locals, init_locals, private_words}
use Rattle.hx_resolved.specs.declared.symbol.Symbol.{Symbol}
use Rattle.hx_resolved.specs.Resolved as resolved
use Rattle.hx_resolved.specs.Symbols.{Scopes, private_word, with_word, words_after_init, symbols_of}
use Rattle.hx_resolved.specs.Resolve as to
use Rattle.hx_resolved.specs.Resolve.{word_named, variable, to_variable, resolve_expr, resolve_exprs, resolve_place, resolve_assignment, expr_or_zero, resolve_locals, resolve_init, resolve_clauses, while_clauses, loop_in, simples_then, words_after_part, resolve_stmt, resolve_part_then, resolve_parts, resolve_function, resolve}
use Rattle.hx_code.specs.declared.word.Word.TheVariants as word
use Rattle.hx_code.specs.Code.{CodeView}
use Rattle.hx_lowering.specs.declared.line.Line.{Line}
use Rattle.hx_lowering.specs.Size.{expr_size, exprs_size, assignment_size, simples_size, test_size, step_size, turn_size, stmt_size, stmts_size}
use Rattle.hx_lowering.specs.Draft.{Draft, no_targets, plain_version, put_word, stmts_draft, function_draft, functions_draft, no_draft, draft_of, code_of}
use Rattle.hx_lowered.proofs.Drafts.{stmts_grows, grows_word}

-- ---- tokens that a phrase takes

the_takes : (m : Mark) (from to : List Token) → The m from to → length from ≡ length to + 1
the_takes m from to h = let e : length from ≡ suc (length to) = ap length h.1 in omega arith

at_takes : (place : Pos) (m : Mark) (from to : List Token) → At place m from to → length from ≡ length to + 1
at_takes place m from to h = let e : length from ≡ suc (length to) = ap length h in omega arith

named_takes : (x : tree.Name) (from to : List Token) → Named x from to → length from ≡ length to + 1
named_takes x from to h = let e : length from ≡ suc (length to) = ap length h in omega arith

numeral_takes : (n : ℕ) (from to : List Token) → Numeral n from to → length from ≡ length to + 1
numeral_takes n from to h = let e : length from ≡ suc (length to) = ap length h.1 in omega arith

updating_takes : (place : Pos) (o : Operator) (from to : List Token) → Updating place o from to → length from ≡ length to + 1
updating_takes place op.Mul from to h = at_takes place _ from to h
updating_takes place op.Div from to h = at_takes place _ from to h
updating_takes place op.Rem from to h = at_takes place _ from to h
updating_takes place op.Add from to h = at_takes place _ from to h
updating_takes place op.Sub from to h = at_takes place _ from to h
updating_takes place op.ShiftLeft from to h = at_takes place _ from to h
updating_takes place op.ShiftRight from to h = at_takes place _ from to h
updating_takes place op.BitAnd from to h = at_takes place _ from to h
updating_takes place op.BitXor from to h = at_takes place _ from to h
updating_takes place op.BitOr from to h = at_takes place _ from to h
updating_takes place op.Less from to h = absurd h
updating_takes place op.LessEqual from to h = absurd h
updating_takes place op.Greater from to h = absurd h
updating_takes place op.GreaterEqual from to h = absurd h
updating_takes place op.Equal from to h = absurd h
updating_takes place op.NotEqual from to h = absurd h

-- so many words for the tokens from one list to another, of which each has five at most
abbrev Short : ℕ → List Token → List Token → Type 0
Short n from to = n + 5 * length to ≤ 5 * length from

-- and ten at most, where a region may open
abbrev Wide : ℕ → List Token → List Token → Type 0
Wide n from to = n + 10 * length to ≤ 10 * length from

set_variable : (o : Option ℕ) (word : ℕ) (e : resolved.Expr) → assignment_size (resolved.Set (to_variable o word) e) ≡ expr_size e + 1
set_variable (Some k) word e = refl
set_variable None word e = refl

update_variable : (o : Option ℕ) (word : ℕ) (f : Operator) (at : Pos) (e : resolved.Expr) → assignment_size (resolved.Update (to_variable o word) f at e) ≡ 1 + expr_size e + 2
update_variable (Some k) word f at e = refl
update_variable None word f at e = refl

simples_then_size : (ss : List resolved.Simple) (rest : resolved.Stmts) → stmts_size (simples_then ss rest) ≡ simples_size ss + stmts_size rest
simples_then_size [] rest = omega arith
simples_then_size (s ∷ ss) rest = omega (arith, simples_then_size ss rest)

module _ (symbols : Map Symbol) where
  mutual
    expr_short : (e : tree.Expr) (scopes : Scopes) (k : ℕ) (from to : List Token) → IsExprOf k e from to → Short (expr_size (resolve_expr e symbols scopes)) from to
    expr_short (tree.Number n) scopes k from to h = omega (arith, numeral_takes n from to h)
    expr_short (tree.Variable x) scopes k from to h = omega (arith, named_takes x from to h, variable_size (private_word scopes x.text) (word_named x symbols))
      where
        variable_size : (o : Option ℕ) (word : ℕ) → expr_size (variable o word) ≡ 1
        variable_size (Some j) word = refl
        variable_size None word = refl
    expr_short (tree.Element x e) scopes k from to (a, h, (b, i, (c, j, l))) =
        omega (arith, named_takes x from a h, the_takes mark.OpenBracket a b i, expr_short e scopes 11 b c j, the_takes mark.CloseBracket c to l)
    expr_short (tree.Call f es) scopes k from to (a, h, (b, i, (c, j, l))) =
        omega (arith, named_takes f from a h, the_takes mark.OpenParen a b i, arguments_short es scopes b c j, the_takes mark.CloseParen c to l)
    expr_short (tree.Paren e) scopes k from to (a, h, (b, i, l)) = omega (arith, the_takes mark.OpenParen from a h, expr_short e scopes 11 a b i, the_takes mark.CloseParen b to l)
    expr_short (tree.Unary o e) scopes k from to (a, h, i) = omega (arith, the_takes _ from a h, expr_short e scopes 0 a to i)
    expr_short (tree.Binary (Strict o) place l r) scopes k from to (fits, (a, h, (b, i, j))) =
        omega (arith, expr_short l scopes _ from a h, at_takes place _ a b i, expr_short r scopes _ b to j)
    expr_short (tree.Binary And place l r) scopes k from to (fits, (a, h, (b, i, j))) =
        omega (arith, expr_short l scopes _ from a h, at_takes place _ a b i, expr_short r scopes _ b to j)
    expr_short (tree.Binary Or place l r) scopes k from to (fits, (a, h, (b, i, j))) =
        omega (arith, expr_short l scopes _ from a h, at_takes place _ a b i, expr_short r scopes _ b to j)
    expr_short (tree.Conditional c a b) scopes k from to (fits, (d, h, (e, i, (f, j, (g, l, m))))) =
        omega (arith, expr_short c scopes 10 from d h, the_takes mark.Question d e i, expr_short a scopes 11 e f j, the_takes mark.Colon f g l, expr_short b scopes 11 g to m)

    arguments_short : (es : tree.Exprs) (scopes : Scopes) (from to : List Token) → AreArguments es from to → Short (exprs_size (resolve_exprs es symbols scopes)) from to
    arguments_short tree.no_exprs scopes from to h = omega (arith, ap length h)
    arguments_short (tree.expr_and e es) scopes from to (a, h, i) = omega (arith, expr_short e scopes 11 from a h, more_short es scopes a to i)

    more_short : (es : tree.Exprs) (scopes : Scopes) (from to : List Token) → AreMoreArguments es from to → Short (exprs_size (resolve_exprs es symbols scopes)) from to
    more_short tree.no_exprs scopes from to h = omega (arith, ap length h)
    more_short (tree.expr_and e es) scopes from to (a, h, (b, i, j)) = omega (arith, the_takes mark.Comma from a h, expr_short e scopes 11 a b i, more_short es scopes b to j)

  -- ---- assignments

  set_short : (p : tree.Place) (e : resolved.Expr) (scopes : Scopes) (from to : List Token) → IsPlace p from to
      → assignment_size (resolved.Set (resolve_place p symbols scopes) e) + 5 * length to ≤ 5 * length from + expr_size e + 1
  set_short (tree.ToVariable x) e scopes from to h = omega (arith, named_takes x from to h, set_variable (private_word scopes x.text) (word_named x symbols) e)
  set_short (tree.ToElement x i) e scopes from to (a, h, (b, j, (c, k, l))) =
      omega (arith, named_takes x from a h, the_takes mark.OpenBracket a b j, expr_short i scopes 11 b c k, the_takes mark.CloseBracket c to l)

  update_short : (p : tree.Place) (f : Operator) (at : Pos) (e : resolved.Expr) (scopes : Scopes) (from to : List Token) → IsPlace p from to
      → assignment_size (resolved.Update (resolve_place p symbols scopes) f at e) + 5 * length to ≤ 5 * length from + expr_size e + 4
  update_short (tree.ToVariable x) f at e scopes from to h = omega (arith, named_takes x from to h, update_variable (private_word scopes x.text) (word_named x symbols) f at e)
  update_short (tree.ToElement x i) f at e scopes from to (a, h, (b, j, (c, k, l))) =
      omega (arith, named_takes x from a h, the_takes mark.OpenBracket a b j, expr_short i scopes 11 b c k, the_takes mark.CloseBracket c to l)

  assignment_short : (s : tree.Assignment) (scopes : Scopes) (from to : List Token) → IsAssignment s from to → Short (assignment_size (resolve_assignment s symbols scopes)) from to
  assignment_short (tree.Set p e) scopes from to (a, h, (b, i, j)) =
      omega (arith, set_short p (resolve_expr e symbols scopes) scopes from a h, the_takes mark.Assign a b i, expr_short e scopes 11 b to j)
  assignment_short (tree.Update p o place e) scopes from to (a, h, (b, i, j)) =
      omega (arith, update_short p o place (resolve_expr e symbols scopes) scopes from a h, updating_takes place o a b i, expr_short e scopes 11 b to j)
  assignment_short (tree.Increment p) scopes from to (a, h, i) = omega (arith, update_short p op.Add no_place (resolved.Number 1) scopes from a h, the_takes mark.Increment a to i)
  assignment_short (tree.Decrement p) scopes from to (a, h, i) = omega (arith, update_short p op.Sub no_place (resolved.Number 1) scopes from a h, the_takes mark.Decrement a to i)

  -- ---- declarations and clauses

  local_short : (d : tree.LocalDecl) (scopes : Scopes) (from to : List Token) → IsLocal d from to → Short (expr_size (expr_or_zero d.init symbols scopes) + 1) from to
  local_short d scopes from to (a, h, i) = go d.init i
    where
      go : (o : Option tree.Expr) → Optional (λ e x y. (mid : List Token) × The mark.Assign x mid × IsExpr e mid y) o a to → Short (expr_size (expr_or_zero o symbols scopes) + 1) from to
      go None i = omega (arith, named_takes d.name from a h, ap length i)
      go (Some e) (b, j, k) = omega (arith, named_takes d.name from a h, the_takes mark.Assign a b j, expr_short e scopes 11 b to k)

  more_locals_short : (ds : List tree.LocalDecl) (scopes : Scopes) (k : ℕ) (from to : List Token) → EachBehindComma IsLocal ds from to → Short (simples_size (resolve_locals ds symbols scopes k)) from to
  more_locals_short [] scopes k from to h = omega (arith, ap length h)
  more_locals_short (d ∷ ds) scopes k from to (a, h, (b, i, j)) =
      omega (arith, the_takes mark.Comma from a h, local_short d scopes a b i, more_locals_short ds (with_word scopes d.name.text k) (k + 1) b to j)

  locals_short : (ds : List tree.LocalDecl) (scopes : Scopes) (k : ℕ) (from to : List Token) → AreLocals ds from to → Short (simples_size (resolve_locals ds symbols scopes k)) from to
  locals_short [] scopes k from to (a, h, i) = absurd i
  locals_short (d ∷ ds) scopes k from to (a, h, (b, i, j)) =
      omega (arith, the_takes mark.Int from a h, local_short d scopes a b i, more_locals_short ds (with_word scopes d.name.text k) (k + 1) b to j)

  init_short : (i : tree.Init) (scopes : Scopes) (k : ℕ) (from to : List Token) → IsInit i from to → Short (simples_size (resolve_init i symbols scopes k)) from to
  init_short tree.NoInit scopes k from to h = omega (arith, ap length h)
  init_short (tree.InitLocals ds) scopes k from to h = locals_short ds scopes k from to h
  init_short (tree.InitAssign s) scopes k from to h = omega (arith, assignment_short s scopes from to h)

  -- a test has a jump, which isn't counted here
  test_short : (t : Option tree.Expr) (scopes : Scopes) (from to : List Token) → Optional IsExpr t from to → test_size (option_map (λ e. resolve_expr e symbols scopes) t) + 5 * length to ≤ 5 * length from + 1
  test_short None scopes from to h = omega (arith, ap length h)
  test_short (Some e) scopes from to h = omega (arith, expr_short e scopes 11 from to h)

  step_short : (s : Option tree.Assignment) (scopes : Scopes) (from to : List Token) → Optional IsAssignment s from to → Short (step_size (option_map (λ a. resolve_assignment a symbols scopes) s)) from to
  step_short None scopes from to h = omega (arith, ap length h)
  step_short (Some s) scopes from to h = assignment_short s scopes from to h

  parens_short : (e : tree.Expr) (scopes : Scopes) (from to : List Token) → InParens e from to → expr_size (resolve_expr e symbols scopes) + 5 * length to + 10 ≤ 5 * length from
  parens_short e scopes from to (a, h, (b, i, l)) = omega (arith, the_takes mark.OpenParen from a h, expr_short e scopes 11 a b i, the_takes mark.CloseParen b to l)

  return_short : (o : Option tree.Expr) (scopes : Scopes) (from to : List Token) → Optional IsExpr o from to → expr_size (expr_or_zero o symbols scopes) + 5 * length to ≤ 5 * length from + 1
  return_short None scopes from to h = omega (arith, ap length h)
  return_short (Some e) scopes from to h = omega (arith, expr_short e scopes 11 from to h)

  clauses_short : (h : tree.ForClauses) (scopes : Scopes) (k : ℕ) (from to : List Token) → AreForClauses h from to
      → simples_size (resolve_init h.init symbols scopes k) + test_size (option_map (λ e. resolve_expr e symbols (words_after_init h.init scopes k)) h.test)
      + step_size (option_map (λ a. resolve_assignment a symbols (words_after_init h.init scopes k)) h.step) + 5 * length to + 19 ≤ 5 * length from
  clauses_short h scopes k from to (a, g, (b, i, (c, j, (d, l, (e, m, (f, n, o)))))) =
      omega (
        arith,
        the_takes mark.OpenParen from a g,
        init_short h.init scopes k a b i,
        the_takes mark.Semicolon b c j,
        test_short h.test (words_after_init h.init scopes k) c d l,
        the_takes mark.Semicolon d e m,
        step_short h.step (words_after_init h.init scopes k) e f n,
        the_takes mark.CloseParen f to o,
      )

  -- ---- loops

  module _ (privates : ℕ) where
    abbrev setting : Bool → to.Around
    setting m = record { symbols = symbols; privates = privates; is_marked = m }

    inner_loop : (marked : Bool) (c : resolved.Clauses) (s : resolved.Stmt) → stmt_size (loop_in marked (setting true) c s) ≡ simples_size c.init + (turn_size c (stmt_size s) + 1)
    inner_loop true c s = refl
    inner_loop false c s = refl

    -- a loop in no region: a plain one, or a region, with its turn twice
    outer_loop : (marked : Bool) (c : resolved.Clauses) (body : Bool → resolved.Stmt) (from mid to : List Token) (used : ℕ)
        → simples_size c.init + test_size c.test + step_size c.step + used + 5 * length mid ≤ 5 * length from → 5 ≤ used
        → Short (stmt_size (body true)) mid to → Wide (stmt_size (body false)) mid to → Wide (stmt_size (loop_in marked (setting false) c (body marked))) from to
    outer_loop true c body from mid to used e u h i = omega arith
    outer_loop false c body from mid to used e u h i = omega arith

    mutual
      stmt_short : (s : tree.Stmt) (scopes : Scopes) (k : ℕ) (from to : List Token) → IsStmt s from to
          → Short (stmt_size (resolve_stmt s (setting true) scopes k)) from to × Wide (stmt_size (resolve_stmt s (setting false) scopes k)) from to
      stmt_short (tree.Block ps) scopes k from to (a, h, (b, i, j)) =
          let x = the_takes mark.OpenBrace from a h in let y = parts_short ps ([] ∷ scopes) k a b i in let z = the_takes mark.CloseBrace b to j in
          (omega (arith, x, y.0, z), omega (arith, x, y.1, z))
      stmt_short tree.Empty scopes k from to h = let x = the_takes mark.Semicolon from to h in (omega arith, omega arith)
      stmt_short (tree.Assign s) scopes k from to (a, h, i) = let x = assignment_short s scopes from a h in let y = the_takes mark.Semicolon a to i in (omega (arith, x, y), omega (arith, x, y))
      stmt_short (tree.CallStatement f es) scopes k from to (a, h, (b, i, (c, j, (d, l, m)))) =
          let x = named_takes f from a h in let y = the_takes mark.OpenParen a b i in let z = arguments_short es scopes b c j in
          let u = the_takes mark.CloseParen c d l in let v = the_takes mark.Semicolon d to m in (omega (arith, x, y, z, u, v), omega (arith, x, y, z, u, v))
      stmt_short (tree.Print at e) scopes k from to (a, h, (b, i, j)) =
          let x = at_takes at mark.Print from a h in let y = parens_short e scopes a b i in let z = the_takes mark.Semicolon b to j in (omega (arith, x, y, z), omega (arith, x, y, z))
      stmt_short (tree.Emit at e) scopes k from to (a, h, (b, i, j)) =
          let x = at_takes at mark.Emit from a h in let y = parens_short e scopes a b i in let z = the_takes mark.Semicolon b to j in (omega (arith, x, y, z), omega (arith, x, y, z))
      stmt_short (tree.If e s) scopes k from to (a, h, (b, i, j)) =
          let x = the_takes mark.If from a h in let y = parens_short e scopes a b i in let z = stmt_short s scopes k b to j in (omega (arith, x, y, z.0), omega (arith, x, y, z.1))
      stmt_short (tree.IfElse e s t) scopes k from to (closed, (a, h, (b, i, (c, j, (d, l, m))))) =
          let x = the_takes mark.If from a h in let y = parens_short e scopes a b i in let z = stmt_short s scopes k b c j in
          let u = the_takes mark.Else c d l in let v = stmt_short t scopes (k + stmt_locals s) d to m in (omega (arith, x, y, z.0, u, v.0), omega (arith, x, y, z.1, u, v.1))
      stmt_short (tree.While marked e s) scopes k from to (a, h, (b, i, j)) =
          let x = the_takes _ from a h in let y = parens_short e scopes a b i in let z = stmt_short s scopes k b to j in
          let size = inner_loop marked (while_clauses (resolve_expr e symbols scopes)) (resolve_stmt s (setting true) scopes k) in
          (omega (arith, x, y, z.0, size), outer_loop marked (while_clauses (resolve_expr e symbols scopes)) (λ m. resolve_stmt s (setting m) scopes k) from b to 5 (omega (arith, x, y)) (omega arith) z.0 z.1)
      stmt_short (tree.DoWhile s e) scopes k from to (a, h, (b, i, (c, j, (d, l, m)))) =
          let x = the_takes mark.Do from a h in let y = stmt_short s scopes k a b i in let z = the_takes mark.While b c j in
          let u = parens_short e scopes c d l in let v = the_takes mark.Semicolon d to m in (omega (arith, x, y.0, z, u, v), omega (arith, x, y.1, z, u, v))
      stmt_short (tree.For marked h s) scopes k from to (a, g, (b, i, j)) =
          let x = the_takes _ from a g in
          let y = clauses_short h ([] ∷ scopes) k a b i in
          let z = stmt_short s (words_after_init h.init ([] ∷ scopes) k) (k + init_locals h.init) b to j in
          let c = resolve_clauses h symbols ([] ∷ scopes) k in
          let size = inner_loop marked c (resolve_stmt s (setting true) (words_after_init h.init ([] ∷ scopes) k) (k + init_locals h.init)) in
          (omega (arith, x, y, z.0, size), outer_loop marked c (λ m. resolve_stmt s (setting m) (words_after_init h.init ([] ∷ scopes) k) (k + init_locals h.init)) from b to 5 (omega (arith, x, y)) (omega arith) z.0 z.1)
      stmt_short (tree.Break at) scopes k from to (a, h, i) = let x = at_takes at mark.Break from a h in let y = the_takes mark.Semicolon a to i in (omega (arith, x, y), omega (arith, x, y))
      stmt_short (tree.Continue at) scopes k from to (a, h, i) = let x = at_takes at mark.Continue from a h in let y = the_takes mark.Semicolon a to i in (omega (arith, x, y), omega (arith, x, y))
      stmt_short (tree.Return at e) scopes k from to (a, h, (b, i, j)) =
          let x = at_takes at mark.Return from a h in let y = return_short e scopes a b i in let z = the_takes mark.Semicolon b to j in (omega (arith, x, y, z), omega (arith, x, y, z))

      part_short : (p : tree.Part) (scopes : Scopes) (k : ℕ) (rest other : resolved.Stmts) (from to : List Token) → IsPart p from to
          → (stmts_size (resolve_part_then p (setting true) scopes k rest) + 5 * length to ≤ 5 * length from + stmts_size rest)
          × (stmts_size (resolve_part_then p (setting false) scopes k other) + 10 * length to ≤ 10 * length from + stmts_size other)
      part_short (tree.Locals ds) scopes k rest other from to (a, h, i) =
          let x = locals_short ds scopes k from a h in let y = the_takes mark.Semicolon a to i in
          (omega (arith, x, y, simples_then_size (resolve_locals ds symbols scopes k) rest), omega (arith, x, y, simples_then_size (resolve_locals ds symbols scopes k) other))
      part_short (tree.Statement s) scopes k rest other from to h = let x = stmt_short s scopes k from to h in (omega (arith, x.0), omega (arith, x.1))

      parts_short : (ps : tree.Parts) (scopes : Scopes) (k : ℕ) (from to : List Token) → AreParts ps from to
          → Short (stmts_size (resolve_parts ps (setting true) scopes k)) from to × Wide (stmts_size (resolve_parts ps (setting false) scopes k)) from to
      parts_short tree.no_parts scopes k from to h = let x : length from ≡ length to = ap length h in (omega (arith, x), omega (arith, x))
      parts_short (tree.part_and p ps) scopes k from to (a, h, i) =
          let rest = resolve_parts ps (setting true) (words_after_part p scopes k) (k + part_locals p) in
          let other = resolve_parts ps (setting false) (words_after_part p scopes k) (k + part_locals p) in
          let x = part_short p scopes k rest other from a h in let y = parts_short ps (words_after_part p scopes k) (k + part_locals p) a to i in
          (omega (arith, x.0, y.0), omega (arith, x.1, y.1))

-- ---- whole programs

function_short : (symbols : Map Symbol) (f : tree.Func) (from to : List Token) → AreParts f.body from to → Wide (stmts_size (resolve_function symbols f).body) from to
function_short symbols f from to h = (parts_short symbols (private_words f) f.body _ _ from to h).1

-- how many words the functions have
abbrev functions_size : List resolved.Function → ℕ
functions_size [] = 0
functions_size (f ∷ fs) = stmts_size f.body + 2 + functions_size fs

functions_long : (code : CodeView) (fs : List resolved.Function) (globals : ℕ) (d : Draft) → length (functions_draft fs globals d).lines ≡ length d.lines + functions_size fs
functions_long code [] globals d = omega arith
functions_long code (f ∷ fs) globals d =
    let v = plain_version (length d.functions) globals in
    let body = (stmts_grows code f.body v no_targets d).long in
    let zero_word = (grows_word code v 0 (word.Const (pos 0)) (stmts_draft f.body v no_targets d)).long in
    let last = (grows_word code v 1 word.Ret (put_word v 0 (word.Const (pos 0)) (stmts_draft f.body v no_targets d))).long in
    omega (arith, functions_long code fs globals (function_draft f globals d), body, zero_word, last)

-- ---- what has no words takes tokens

constant_takes : (c : Constant) (from to : List Token) → IsConstant c from to → length to ≤ length from
constant_takes c from to (a, h, i) = go c.is_negated h
  where
    go : (b : Bool) → Sign b from a → length to ≤ length from
    go true h = omega (arith, the_takes mark.Minus from a h, numeral_takes c.number a to i)
    go false h = omega (arith, ap length h, numeral_takes c.number a to i)

more_constants_take : (cs : List Constant) (from to : List Token) → EachBehindComma IsConstant cs from to → length to ≤ length from
more_constants_take [] from to h = omega (arith, ap length h)
more_constants_take (c ∷ cs) from to (a, h, (b, i, j)) = omega (arith, the_takes mark.Comma from a h, constant_takes c a b i, more_constants_take cs b to j)

values_take : (cs : List Constant) (from to : List Token) → AreValues cs from to → length to ≤ length from
values_take [] from to h = omega (arith, ap length h)
values_take (c ∷ cs) from to (a, h, (b, i, (d, (e, k, l), m))) =
    omega (arith, the_takes mark.Assign from a h, the_takes mark.OpenBrace a b i, constant_takes c b e k, more_constants_take cs e d l, the_takes mark.CloseBrace d to m)

shape_takes : (s : tree.Shape) (from to : List Token) → IsShape s from to → length to ≤ length from
shape_takes (tree.Scalar None) from to h = omega (arith, ap length h)
shape_takes (tree.Scalar (Some c)) from to (a, h, i) = omega (arith, the_takes mark.Assign from a h, constant_takes c a to i)
shape_takes (tree.Array n cs) from to (a, h, (b, i, (c, j, k))) =
    omega (arith, the_takes mark.OpenBracket from a h, numeral_takes n a b i, the_takes mark.CloseBracket b c j, values_take cs c to k)

global_takes : (g : tree.GlobalDecl) (from to : List Token) → IsGlobal g from to → length to ≤ length from
global_takes g from to (a, h, i) = omega (arith, named_takes g.name from a h, shape_takes g.shape a to i)

more_globals_take : (gs : List tree.GlobalDecl) (from to : List Token) → EachBehindComma IsGlobal gs from to → length to ≤ length from
more_globals_take [] from to h = omega (arith, ap length h)
more_globals_take (g ∷ gs) from to (a, h, (b, i, j)) = omega (arith, the_takes mark.Comma from a h, global_takes g a b i, more_globals_take gs b to j)

globals_take : (gs : List tree.GlobalDecl) (from to : List Token) → Listed IsGlobal gs from to → length to ≤ length from
globals_take [] from to h = absurd h
globals_take (g ∷ gs) from to (a, h, i) = omega (arith, global_takes g from a h, more_globals_take gs a to i)

more_parameters_take : (xs : List tree.Name) (from to : List Token) → EachBehindComma (λ x y z. (mid : List Token) × The mark.Int y mid × Named x mid z) xs from to → length to ≤ length from
more_parameters_take [] from to h = omega (arith, ap length h)
more_parameters_take (x ∷ xs) from to (a, h, (b, (c, i, j), k)) =
    omega (arith, the_takes mark.Comma from a h, the_takes mark.Int a c i, named_takes x c b j, more_parameters_take xs b to k)

parameters_take : (ps : tree.Params) (from to : List Token) → IsParams ps from to → length to ≤ length from
parameters_take tree.NoParams from to h = omega (arith, ap length h)
parameters_take tree.VoidParams from to h = omega (arith, the_takes mark.Void from to h)
parameters_take (tree.NamedParams []) from to h = absurd h
parameters_take (tree.NamedParams (x ∷ xs)) from to (a, (b, h, i), j) = omega (arith, the_takes mark.Int from b h, named_takes x b a i, more_parameters_take xs a to j)

items_short : (symbols : Map Symbol) (is : List tree.Item) (from to : List Token) → AreItems is from to → Wide (functions_size (map (resolve_function symbols) (flat_map item_functions is))) from to
items_short symbols [] from to h = omega (arith, ap length h)
items_short symbols (tree.Globals gs ∷ is) from to (a, (b, h, (c, i, j)), k) =
    omega (arith, the_takes mark.Int from b h, globals_take gs b c i, the_takes mark.Semicolon c a j, items_short symbols is a to k)
items_short symbols (tree.Function f ∷ is) from to (a, (b, h, (c, i, (d, j, (e, k, (g, l, (m, n, (o, q, r))))))), s) =
    omega (
      arith,
      the_takes _ from b h,
      named_takes f.name b c i,
      the_takes mark.OpenParen c d j,
      parameters_take f.params d e k,
      the_takes mark.CloseParen e g l,
      the_takes mark.OpenBrace g m n,
      function_short symbols f m o q,
      the_takes mark.CloseBrace o a r,
      items_short symbols is a to s,
    )

-- ---- no more tokens than bytes

tokens_few : (pieces : List Piece) (at : Pos) (bytes : List ℕ) → Falls pieces bytes → length (tokens_of at pieces) ≤ length bytes
tokens_few [] at bytes h = omega arith
tokens_few ((None, text) ∷ pieces) at bytes h =
    omega (arith, tokens_few pieces (place_after at text) h.0 h.4, ap length h.1, length-append text h.0)
tokens_few ((Some kind, text) ∷ pieces) at bytes h =
    omega (arith, tokens_few pieces (place_after at text) h.0 h.4, ap length h.1, length-append text h.0, h.2)

-- a spelled program has few words
pub few_words : (bytes : List ℕ) (p : tree.Program) → Spells bytes p → length (code_of (resolve p)).words < 2 ^ 32
few_words bytes p h =
    let words = length-map (draft_of (resolve p)).lines (λ (line : Line). line.word) in
    let long = functions_long (code_of (resolve p)) (resolve p).functions (length (resolve p).opening) no_draft in
    let short = items_short (symbols_of p) p.items h.tokens [] h.is_program in
    let count : length h.tokens ≤ length bytes = subst (λ ts. length ts ≤ length bytes) (sym h.are_tokens.2) (tokens_few h.are_tokens.0 first_place bytes h.are_tokens.1) in
    omega (arith, words, long, short, count, h.is_short)
