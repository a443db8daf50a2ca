-- Where the words of each function stand.
use Rattle.std.proofs.Common.{◌≡◌, ℕ, zero, suc, ◌+◌, List, [], ◌∷◌, ◌++◌, length, Some, pos, refl, ap, subst, ◌∙◌, arith, length-append, append_assoc}
use Rattle.std.specs.Prelude.{slice_get}
use Rattle.hx_resolved.specs.Resolved as resolved
use Rattle.hx_resolved.specs.Resolved.{Clauses, LoopKind}
use Rattle.hx_code.specs.declared.word.Word.TheVariants.{Const, Ret}
use Rattle.hx_code.specs.Code.{CodeView, FuncView}
use Rattle.hx_lowering.specs.Lines.{Version}
use Rattle.hx_lowering.specs.Draft.{Draft, Targets, put_word, no_targets, plain_version, function_at, function_draft, functions_draft, loop_draft, stmt_draft, stmts_draft}
use Rattle.hx_lowering.proofs.Drafts.{HasDraft, has_word, has_stmts}

-- ---- statements keep the table of functions

abbrev Keeps : (Draft → Draft) → Type 0
Keeps f = (d : Draft) → (f d).functions ≡ d.functions

keeps_loop : (kind : LoopKind) (c : Clauses) (size : ℕ) (body : Version → Targets → Draft → Draft) (v : Version) → ((v' : Version) (to : Targets) → Keeps (body v' to)) → Keeps (loop_draft kind c size body v)
keeps_loop resolved.Plain c size body v keeps d = keeps v _ _
keeps_loop (resolved.IsRegion r) c size body v keeps d = keeps v _ _ ∙ keeps _ _ _

mutual
  keeps_stmt : (s : resolved.Stmt) (v : Version) (to : Targets) → Keeps (λ d. stmt_draft s v to d)
  keeps_stmt (resolved.Block ss) v to d = keeps_stmts ss v to d
  keeps_stmt (resolved.Do s) v to d = refl
  keeps_stmt (resolved.CallStatement f at es) v to d = refl
  keeps_stmt (resolved.Print at e) v to d = refl
  keeps_stmt (resolved.Emit at e) v to d = refl
  keeps_stmt (resolved.If test s) v to d = keeps_stmt s v to _
  keeps_stmt (resolved.IfElse test s other) v to d = keeps_stmt other v to _ ∙ keeps_stmt s v to _
  keeps_stmt (resolved.Loop kind c s) v to d = keeps_loop kind c _ (λ v' to' d'. stmt_draft s v' to' d') v (λ v' to' d'. keeps_stmt s v' to' d') _
  keeps_stmt (resolved.DoWhile s test) v to d = keeps_stmt s v _ d
  keeps_stmt resolved.Break v to d = refl
  keeps_stmt resolved.Continue v to d = refl
  keeps_stmt (resolved.Return e) v to d = refl

  keeps_stmts : (ss : resolved.Stmts) (v : Version) (to : Targets) → Keeps (λ d. stmts_draft ss v to d)
  keeps_stmts resolved.no_stmts v to d = refl
  keeps_stmts (resolved.stmt_and s ss) v to d = keeps_stmts ss v to (stmt_draft s v to d) ∙ keeps_stmt s v to d

-- ---- functions

seam : (fs : List FuncView) (x : FuncView) (behind : List FuncView) → slice_get ((fs ++ x ∷ []) ++ behind) (length fs) ≡ Some x
seam [] x behind = refl
seam (y ∷ fs) x behind = seam fs x behind

nothing_more : (fs : List FuncView) → fs ≡ fs ++ []
nothing_more [] = refl
nothing_more (x ∷ fs) = ap (λ l. x ∷ l) (nothing_more fs)

function_behind : (f : resolved.Function) (globals : ℕ) (d : Draft) → (function_draft f globals d).functions ≡ d.functions ++ function_at f (length d.lines) ∷ []
function_behind f globals d = ap (λ fs. fs ++ function_at f (length d.lines) ∷ []) (keeps_stmts f.body (plain_version (length d.functions) globals) no_targets d)

functions_grow : (fs : List resolved.Function) (globals : ℕ) (d : Draft) → (more : List FuncView) × ((functions_draft fs globals d).functions ≡ d.functions ++ more)
functions_grow [] globals d = ([], nothing_more d.functions)
functions_grow (f ∷ fs) globals d =
    let next = functions_grow fs globals (function_draft f globals d) in
    (function_at f (length d.lines) ∷ next.0, next.1 ∙ ap (λ l. l ++ next.0) (function_behind f globals d) ∙ append_assoc d.functions (function_at f (length d.lines) ∷ []) next.0)

module _ (code : CodeView) where
  abbrev pub body_of : resolved.Function → ℕ → Draft → Draft
  body_of f globals d = stmts_draft f.body (plain_version (length d.functions) globals) no_targets d

  pub has_end : (f : resolved.Function) (globals : ℕ) (d : Draft) → HasDraft code (function_draft f globals d)
      → HasDraft code (put_word (plain_version (length d.functions) globals) 1 Ret (put_word (plain_version (length d.functions) globals) 0 (Const (pos 0)) (body_of f globals d)))
  has_end f globals d has = record { lines = has.lines; regions_behind = has.regions_behind; regions = has.regions }

  pub has_body : (f : resolved.Function) (globals : ℕ) (d : Draft) → HasDraft code (function_draft f globals d) → HasDraft code (body_of f globals d)
  has_body f globals d has = has_word code (plain_version (length d.functions) globals) 0 (Const (pos 0)) _ (has_word code (plain_version (length d.functions) globals) 1 Ret _ (has_end f globals d has))

  has_function : (f : resolved.Function) (globals : ℕ) (d : Draft) → HasDraft code (function_draft f globals d) → HasDraft code d
  has_function f globals d has = has_stmts code f.body (plain_version (length d.functions) globals) no_targets d (has_body f globals d has)

  has_functions : (fs : List resolved.Function) (globals : ℕ) (d : Draft) → HasDraft code (functions_draft fs globals d) → HasDraft code d
  has_functions [] globals d has = has
  has_functions (f ∷ fs) globals d has = has_function f globals d (has_functions fs globals (function_draft f globals d) has)

  -- a function with its words
  pub record IsPlaced (f : resolved.Function) (globals number : ℕ) : Type 0 where
    pub before : Draft
    pub stands : HasDraft code (function_draft f globals before)
    pub in_table : slice_get code.functions number ≡ Some (function_at f (length before.lines))

  functions_placed : (fs : List resolved.Function) (globals : ℕ) (d : Draft) → HasDraft code (functions_draft fs globals d) → code.functions ≡ (functions_draft fs globals d).functions
      → (i : ℕ) (f : resolved.Function) → slice_get fs i ≡ Some f → (number : ℕ) → number ≡ length d.functions + i → IsPlaced f globals number
  functions_placed [] globals d has table i f at number is = absurd cc
  functions_placed (g ∷ fs) globals d has table zero f at number is =
      let same : g ≡ f = cc in
      let more = functions_grow fs globals (function_draft g globals d) in
      let here : number ≡ length d.functions = omega arith in
      subst (λ h. IsPlaced h globals number) same
      (record {
        before = d;
        stands = has_functions fs globals (function_draft g globals d) has;
        in_table = ap (λ l. slice_get l number) (table ∙ more.1 ∙ ap (λ l. l ++ more.0) (function_behind g globals d))
            ∙ ap (λ n. slice_get ((d.functions ++ function_at g (length d.lines) ∷ []) ++ more.0) n) here ∙ seam d.functions (function_at g (length d.lines)) more.0;
      })
  functions_placed (g ∷ fs) globals d has table (suc i) f at number is =
      let one_more : length (function_draft g globals d).functions ≡ length d.functions + 1 = ap length (function_behind g globals d) ∙ length-append d.functions (function_at g (length d.lines) ∷ []) in
      functions_placed fs globals (function_draft g globals d) has table i f at number (omega (arith, is, one_more))

  -- each function of a program
  pub placed : (fs : List resolved.Function) (globals : ℕ) → HasDraft code (functions_draft fs globals (record { lines = []; functions = []; regions = [] }))
      → code.functions ≡ (functions_draft fs globals (record { lines = []; functions = []; regions = [] })).functions
      → (i : ℕ) (f : resolved.Function) → slice_get fs i ≡ Some f → IsPlaced f globals i
  placed fs globals has table i f at = let e : i ≡ 0 + i = omega arith in functions_placed fs globals _ has table i f at i e
