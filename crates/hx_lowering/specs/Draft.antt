-- The words of statements, functions and whole programs, with their tables.
use Rattle.std.specs.Prelude.{ℕ, ◌+◌, List, [], ◌∷◌, ◌++◌, length, map, pos, Some, None, option_map}
use Rattle.hx_resolved.specs.Resolved as resolved
use Rattle.hx_resolved.specs.Resolved.{Expr, Clauses, LoopKind, Stmt, Stmts, Function, Program}
use Rattle.hx_code.specs.declared.word.Word.{Word}
use Rattle.hx_code.specs.declared.word.Word.TheVariants.{Const, Drop, Jump, JumpFalse, JumpTrue, Call, Ret, Print, Emit, Enter, Turn, Leave}
use Rattle.hx_code.specs.declared.table.Carried.{Carried}
use Rattle.hx_code.specs.declared.table.Induct.{Induct}
use Rattle.hx_resolved.specs.declared.program.Induct as counted
use Rattle.hx_code.specs.Code.{FuncView, RegionView, CodeView}
use Rattle.hx_lowering.specs.declared.line.Line.{Line}
use Rattle.hx_lowering.specs.Size.{expr_size, test_size, turn_size, stmt_size}
use Rattle.hx_lowering.specs.Lines.{Version, put, array_of, count, expr_lines, exprs_lines, simple_lines, simples_lines, test_lines, step_lines}

-- what stands so far
pub record Draft : Type 0 where
  pub lines : List Line
  pub functions : List FuncView
  pub regions : List RegionView

abbrev pub with_lines : Draft → List Line → Draft
with_lines d lines = record d { lines = lines }

-- where `break` and `continue` go
pub record Targets : Type 0 where
  pub break_to : ℕ
  pub continue_to : ℕ

-- private words and the cells that carry them, from a cell on
abbrev pub cells_from : List ℕ → ℕ → List Carried
cells_from [] cell = []
cells_from (k ∷ ks) cell = record { private = k; cell = cell } ∷ cells_from ks (cell + 1)

-- the counter of a region, for its induction local
abbrev pub counter_of : counted.Induct → Induct
counter_of i = record { private = i.private; step = i.step }

-- the version of a region
abbrev pub inside : ℕ → resolved.Region → Version → Version
inside number r v = record v { region = Some number; carried = cells_from r.carried 0 }

-- a word behind the others
abbrev pub put_word : Version → ℕ → Word → Draft → Draft
put_word v height w d = with_lines d (put v height w d.lines)

-- ---- loops; a body says how many words it has, and what stands with it

-- a turn: the test, which leaves for exit, the body and the step
abbrev pub turn_draft : Clauses → ℕ → Version → (Draft → Draft) → Draft → Draft
turn_draft c exit v body d =
    let done = body (with_lines d (test_lines c.test exit v d.lines)) in
    with_lines done (step_lines c.step v done.lines)

-- where `break` and `continue` go in a turn that begins at start
abbrev pub targets : Clauses → ℕ → ℕ → Targets
targets c size start = record { break_to = start + turn_size c size + 1; continue_to = start + test_size c.test + size }

abbrev pub plain_draft : Clauses → ℕ → (Targets → Draft → Draft) → Version → Draft → Draft
plain_draft c size body v d =
    let start = length d.lines in
    put_word v 0 (Jump start) (turn_draft c (start + turn_size c size + 1) v (body (targets c size start)) d)

-- the version of a loop that its iterations run
abbrev pub turns_draft : Clauses → ℕ → (Targets → Draft → Draft) → Version → Draft → Draft
turns_draft c size body v d =
    let start = length d.lines in
    put_word v 0 Leave (put_word v 0 Turn (turn_draft c (start + turn_size c size + 1) v (body (targets c size start)) d))

-- the region of a loop whose `enter` stands at place
abbrev pub region_at : resolved.Region → Clauses → ℕ → ℕ → RegionView
region_at r c size place =
    let start = place + 1 in
    record {
      start = start;
      exit = start + (turn_size c size + 2) + (turn_size c size + 1);
      carried = cells_from r.carried 0;
      copied = r.copied;
      induct = option_map counter_of r.induct;
    }

-- a marked loop that stands in no other: an `enter`, the region's version, and the plain loop
abbrev pub region_draft : resolved.Region → Clauses → ℕ → (Version → Targets → Draft → Draft) → Version → Draft → Draft
region_draft r c size body v d =
    let number = length d.regions in
    let place = length d.lines in
    let within = inside number r v in
    let turns = turns_draft c size (body within) within (put_word v 0 (Enter number (place + 1 + (turn_size c size + 2))) d) in
    let plain = plain_draft c size (body v) v turns in
    record plain { regions = plain.regions ++ region_at r c size place ∷ [] }

abbrev pub loop_draft : LoopKind → Clauses → ℕ → (Version → Targets → Draft → Draft) → Version → Draft → Draft
loop_draft resolved.Plain c size body v d = plain_draft c size (body v) v d
loop_draft (resolved.IsRegion r) c size body v d = region_draft r c size body v d

-- where `break` and `continue` go in the body of a `do` that begins at start
abbrev pub do_targets : Expr → ℕ → ℕ → Targets
do_targets test size start = record { break_to = start + size + expr_size test + 1; continue_to = start + size }

-- a `do`: the body, and behind it the test, which jumps back where it isn't 0
abbrev pub do_draft : Expr → ℕ → (Targets → Draft → Draft) → Version → Draft → Draft
do_draft test size body v d =
    let start = length d.lines in
    let done = body (do_targets test size start) d in
    with_lines done (put v 1 (JumpTrue start) (expr_lines test v 0 done.lines))

-- ---- statements

abbrev mutual
  pub stmt_draft : Stmt → Version → Targets → Draft → Draft
  stmt_draft (resolved.Block ss) v to d = stmts_draft ss v to d
  stmt_draft (resolved.Do s) v to d = with_lines d (simple_lines s v d.lines)
  stmt_draft (resolved.CallStatement f at es) v to d =
      with_lines d (put v 1 Drop (put v (count es) (Call f at) (exprs_lines es v 0 d.lines)))
  stmt_draft (resolved.Print at e) v to d = with_lines d (put v 1 (Print at) (expr_lines e v 0 d.lines))
  stmt_draft (resolved.Emit at e) v to d = with_lines d (put v 1 (Emit at) (expr_lines e v 0 d.lines))
  stmt_draft (resolved.If test s) v to d =
      let behind = length d.lines + expr_size test + 1 + stmt_size s in
      stmt_draft s v to (with_lines d (put v 1 (JumpFalse behind) (expr_lines test v 0 d.lines)))
  stmt_draft (resolved.IfElse test s other) v to d =
      let other_at = length d.lines + expr_size test + 1 + stmt_size s + 1 in
      stmt_draft other v to
      (put_word v 0 (Jump (other_at + stmt_size other))
      (stmt_draft s v to (with_lines d (put v 1 (JumpFalse other_at) (expr_lines test v 0 d.lines)))))
  stmt_draft (resolved.Loop kind c s) v to d =
      loop_draft kind c (stmt_size s) (λ v' to' d'. stmt_draft s v' to' d') v (with_lines d (simples_lines c.init v d.lines))
  stmt_draft (resolved.DoWhile s test) v to d = do_draft test (stmt_size s) (λ to' d'. stmt_draft s v to' d') v d
  stmt_draft resolved.Break v to d = put_word v 0 (Jump to.break_to) d
  stmt_draft resolved.Continue v to d = put_word v 0 (Jump to.continue_to) d
  stmt_draft (resolved.Return e) v to d = with_lines d (put v 1 Ret (expr_lines e v 0 d.lines))

  pub stmts_draft : Stmts → Version → Targets → Draft → Draft
  stmts_draft resolved.no_stmts v to d = d
  stmts_draft (resolved.stmt_and s ss) v to d = stmts_draft ss v to (stmt_draft s v to d)

-- ---- programs

-- no loop is around a function's body
abbrev pub no_targets : Targets
no_targets = record { break_to = 0; continue_to = 0 }

abbrev pub plain_version : ℕ → ℕ → Version
plain_version function globals = record { function = function; globals = globals; region = None; carried = [] }

abbrev pub function_at : Function → ℕ → FuncView
function_at f entry = record { name = f.name; entry = entry; parameters = f.parameters; privates = f.privates }

-- the end of a function returns 0
abbrev pub function_draft : Function → ℕ → Draft → Draft
function_draft f globals d =
    let v = plain_version (length d.functions) globals in
    let body = stmts_draft f.body v no_targets d in
    let done = put_word v 1 Ret (put_word v 0 (Const (pos 0)) body) in
    record done { functions = done.functions ++ function_at f (length d.lines) ∷ [] }

abbrev pub functions_draft : List Function → ℕ → Draft → Draft
functions_draft [] globals d = d
functions_draft (f ∷ fs) globals d = functions_draft fs globals (function_draft f globals d)

abbrev pub no_draft : Draft
no_draft = record { lines = []; functions = []; regions = [] }

abbrev pub draft_of : Program → Draft
draft_of p = functions_draft p.functions (length p.opening) no_draft

-- THE code of a program
abbrev pub code_of : Program → CodeView
code_of p =
    let d = draft_of p in
    record {
      words = map (λ (line : Line). line.word) d.lines;
      spots = map (λ (line : Line). line.spot) d.lines;
      functions = d.functions;
      regions = d.regions;
      globals = length p.opening;
      opening = p.opening;
      main = p.main;
      input = option_map array_of p.input;
      input_length = p.input_length;
    }
