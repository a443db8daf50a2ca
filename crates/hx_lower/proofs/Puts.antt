-- What a loop over parts keeps: the words of all of them are those so far, and behind them those of the rest.
use Rattle.std.proofs.Common.{◌≡◌, ℕ, ◌+◌, ◌≤◌, List, length}
use Rattle.hx_resolved.specs.Resolved.{Expr, Simple, Stmt, Function, exprs, stmts}
use Rattle.hx_lowering.specs.Draft.{Draft, Targets, with_lines, stmts_draft, functions_draft}
use Rattle.hx_lowering.specs.Lines.{Version, exprs_lines, simples_lines}

pub record ArePut (all rest : List Expr) (v : Version) (height above : ℕ) (old now : Draft) : Type 0 where
  pub words : exprs_lines (exprs all) v height old.lines ≡ exprs_lines (exprs rest) v above now.lines
  pub others : now ≡ with_lines old now.lines
  pub count : above + length rest ≡ height + length all
  pub grows : length old.lines ≤ length now.lines
  pub fits : above ≤ length now.lines

pub record SimplesPut (all rest : List Simple) (v : Version) (old now : Draft) : Type 0 where
  pub words : simples_lines all v old.lines ≡ simples_lines rest v now.lines
  pub others : now ≡ with_lines old now.lines

pub record StmtsPut (all rest : List Stmt) (v : Version) (to : Targets) (old now : Draft) : Type 0 where
  pub words : stmts_draft (stmts all) v to old ≡ stmts_draft (stmts rest) v to now

pub record FunctionsPut (all rest : List Function) (globals : ℕ) (old now : Draft) : Type 0 where
  pub words : functions_draft all globals old ≡ functions_draft rest globals now
