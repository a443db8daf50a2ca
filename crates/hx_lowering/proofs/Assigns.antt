-- The words of an assignment do what it does.
use Rattle.std.proofs.Common.{◌≡◌, ℕ, ◌≤◌, Bool, true, List, [], ◌∷◌, length, Option, Some, None, ℤ, pos, refl, sym, ap, subst, ◌∙◌, arith}
use Rattle.std.specs.Prelude.{nat_eq, option_map, ◌||◌}
use Rattle.std.proofs.lemmas.Bool.Decides.{Decides-eqb}
use Rattle.hx_tree.specs.declared.token.Pos.{Pos}
use Rattle.hx_tree.specs.declared.tree.Operator.{Operator}
use Rattle.hx_tree.specs.declared.tree.Operator.TheVariants.{Add, Sub}
use Rattle.hx_tree.specs.Tree as tree
use Rattle.hx_tree.specs.Tree.{Program, Name}
use Rattle.hx_tree.specs.World.{World, Gives, Run, ◌>>=◌, gives, Environment, local_value, set_local, write_element, read_element}
use Rattle.hx_tree.specs.Value.{Calling, value, values, operate, read_variable}
use Rattle.hx_tree.specs.Effect.{call_in, assign, write_variable, no_place, update_place, set_place}
use Rattle.hx_tree.specs.Accepted.{Surroundings, AcceptsExpr, AcceptsExprs, AcceptsAssignment, AcceptsPlace, FunctionKind, kind_of, count}
use Rattle.hx_tree.specs.declared.tree.Returns.{Returns}
use Rattle.hx_resolved.specs.Resolved as resolved
use Rattle.hx_resolved.specs.Symbols.{Scopes, private_word, symbols_of}
use Rattle.hx_resolved.specs.Carried.{assignment_reads, assigns, expr_reads, exprs_read, index_reads, is_to}
use Rattle.hx_resolved.specs.Resolve.{resolve_expr, resolve_exprs, function_at, resolve_assignment, to_variable, word_named, words_named}
use Rattle.hx_code.specs.declared.word.Word.TheVariants.{Glob, SetGlob, Elem, SetElem, Dup, Binary, Call}
use Rattle.hx_code.specs.Code.{CodeView}
use Rattle.hx_code.specs.Machine.{Machine}
use Rattle.hx_lowering.specs.declared.line.Line.{Line}
use Rattle.hx_lowering.specs.Lines.{put, get_private, set_private, array_of, expr_lines, exprs_lines, assignment_lines}
use Rattle.hx_lowering.proofs.Globals.{words_in}
use Rattle.hx_lowering.proofs.Follow.{Follows, follows_then, at_once}
use Rattle.hx_lowering.proofs.Stand.{Has, has_before, has_expr}
use Rattle.hx_lowering.proofs.At.{layout_of, At}
use Rattle.hx_lowering.proofs.Names.{env_of, value_of, Around, int_is, array_is, function_here}
use Rattle.hx_lowering.proofs.Calling.{onto, CallsFollow}
use Rattle.hx_lowering.proofs.Values.{Reads, Leaves, value_at, value_follows, values_follow, call_leaves, variable_follows, read_by, word_goes, operator_follows, element_follows, or_left, or_right}
use Rattle.hx_lowering.proofs.Scene.{Scene, Fair, Stands, Holds, held, fixed_or}
use Rattle.hx_lowering.proofs.Locals.{Tidy, number_below, set_is}
use Rattle.hx_lowering.proofs.Writes.{private_written, element_written, word_written}

-- no word reads a private word that is fixed
abbrev pub Free : Scene → (ℕ → Bool) → Type 0
Free s test = (k : ℕ) → test k ≡ true → s.fixed k ≡ None

pub reads_free : (s : Scene) (ps cells : List ℤ) (test : ℕ → Bool) → Free s test → Reads s.version ps cells (held s ps cells) test
reads_free s ps cells test free k e = ap (λ o. fixed_or o (value_at s.version ps cells k)) (free k e)

-- another value for a local, or else for a global int
abbrev write_by : Name → ℤ → Environment → Option ℤ → Run Environment
write_by x z env (Some old) = gives (set_local env x.text z)
write_by x z env None = do
  done ← write_element x (pos 0) z
  gives env

small : 1 ≤ 2147483647
small = omega arith

none_small : 0 ≤ 2147483647
none_small = omega arith

-- a private word that is written isn't fixed, and isn't kept
abbrev pub Loose : Scene → (ℕ → Bool) → Type 0
Loose s test = (k : ℕ) → test k ≡ true → (s.fixed k ≡ None) × (s.kept k ≡ None)

same_bit : (k : ℕ) → nat_eq k k ≡ true
same_bit k = (Decides-eqb k k).1 refl

module _ (p : Program) (code : CodeView) (words : code.globals ≡ words_in (layout_of p)) (s : Scene) (fair : Fair p code s) (next : ℕ) (scopes : Scopes) (tidy : Tidy next scopes) (fits : next ≤ s.privates) (here : Surroundings) (around : Around p scopes here) where
  abbrev call : Calling
  call = call_in s.context

  abbrev n : ℕ
  n = s.context.turns

  -- what calls do here
  calling : CallsFollow p code s.ground (call_in s.context) s.context.turns
  calling = subst (λ b. CallsFollow p code s.ground (s.context.calls b) s.context.turns) (sym fair.active) (fair.calls s.ground refl)

  abbrev R : tree.Expr → resolved.Expr
  R e = resolve_expr e (symbols_of p) scopes

  -- the machine stands behind some lines
  abbrev pub Behind : List Line → Environment → World → Machine → Type 0
  Behind lines = λ env w m. Stands p code s scopes (length lines) env w m

  stands_so : (n : ℕ) (lines : List Line) (ps cells : List ℤ) → Holds s ps cells → (w : World) (m : Machine) → At p code s.ground (length lines) ps [] cells w m
      → Follows code n m (Gives (env_of scopes (held s ps cells)) w) (Behind lines)
  stands_so n lines ps cells holds w m at = at_once code m (λ m'. Stands p code s scopes (length lines) (env_of scopes (held s ps cells)) w m') (record { ps = ps; cells = cells; holds = holds; at = at; env_is = refl })

  pub value_here : (e : tree.Expr) → AcceptsExpr e here → Free s (λ k. expr_reads k (resolve_expr e (symbols_of p) scopes))
      → (h : ℕ) (ps os cells : List ℤ) (lines : List Line) → Has code (expr_lines (resolve_expr e (symbols_of p) scopes) s.version h lines) → (w : World) (m : Machine) → At p code s.ground (length lines) ps os cells w m
      → Follows code n m (value e call (env_of scopes (held s ps cells)) w) (Leaves p code s.ground s.version words fair.globals fair.carries (expr_lines (resolve_expr e (symbols_of p) scopes) s.version h lines) ps os cells)
  value_here e ok free h ps os cells lines has w m at =
      value_follows p code s.ground s.version words fair.globals fair.carries scopes here around call n calling e ok h (held s ps cells) ps os cells (reads_free s ps cells _ free) lines has w m at

  pub values_here : (es : tree.Exprs) → AcceptsExprs es here → Free s (λ k. exprs_read k (resolve_exprs es (symbols_of p) scopes))
      → (h : ℕ) (ps os cells : List ℤ) (lines : List Line) → Has code (exprs_lines (resolve_exprs es (symbols_of p) scopes) s.version h lines) → (w : World) (m : Machine) → At p code s.ground (length lines) ps os cells w m
      → Follows code n m (values es call (env_of scopes (held s ps cells)) w)
      (λ vs w' m'. (length vs ≡ count es) × At p code s.ground (length (exprs_lines (resolve_exprs es (symbols_of p) scopes) s.version h lines)) ps (onto vs os) cells w' m')
  values_here es ok free h ps os cells lines has w m at =
      values_follow p code s.ground s.version words fair.globals fair.carries scopes here around call n calling es ok h (held s ps cells) ps os cells (reads_free s ps cells _ free) lines has w m at

  pub call_here : (f : Name) (r : Returns) (vs : List ℤ) → kind_of f here ≡ Some (FunctionKind r (length vs))
      → (h : ℕ) (ps os cells : List ℤ) (lines : List Line) → Has code (put s.version h (Call (function_at f (symbols_of p)) f.pos) lines) → (w : World) (m : Machine) → At p code s.ground (length lines) ps (onto vs os) cells w m
      → Follows code n m (call f vs w) (λ x w' m'. At p code s.ground (length (put s.version h (Call (function_at f (symbols_of p)) f.pos) lines)) ps (x ∷ os) cells w' m')
  call_here f r vs is h ps os cells lines has w m at =
      call_leaves p code s.ground s.version words fair.globals fair.carries scopes here around call n calling f r vs (function_here p scopes here f r (length vs) around is) h ps os cells lines has w m at

  abbrev L : List Line → List ℤ → List ℤ → List ℤ → ℤ → World → Machine → Type 0
  L lines ps os cells = Leaves p code s.ground s.version words fair.globals fair.carries lines ps os cells

  -- a local is written
  local_written : (n h k : ℕ) (x : List ℕ) (z : ℤ) (ps cells : List ℤ) → Holds s ps cells → private_word scopes x ≡ Some k → (s.fixed k ≡ None) × (s.kept k ≡ None)
      → (w : World) (m : Machine) (lines : List Line) → Has code (put s.version h (set_private s.version k) lines) → At p code s.ground (length lines) ps (z ∷ []) cells w m
      → Follows code n m (Gives (set_local (env_of scopes (held s ps cells)) x z) w) (Behind (put s.version h (set_private s.version k) lines))
  local_written n h k x z ps cells holds is loose w m lines has at =
      let lt = number_below next scopes x k is tidy.below in
      let few = fair.few in
      private_written p code words s fair n h k z ps [] cells holds loose.1 (omega arith) w m lines (Gives (set_local (env_of scopes (held s ps cells)) x z) w) (Behind (put s.version h (set_private s.version k) lines)) has at
      (λ ps' cells' m' changed at'.
      let env_is : set_local (env_of scopes (held s ps cells)) x z ≡ env_of scopes (held s ps' cells') =
      set_is scopes x k (held s ps cells) (held s ps' cells') z is tidy.apart (ap (λ o. fixed_or o (value_at s.version ps' cells' k)) loose.0 ∙ changed.here) (λ j ne. ap (fixed_or (s.fixed j)) (changed.others j ne)) in
      at_once code m' (λ q. Stands p code s scopes (length (put s.version h (set_private s.version k) lines)) (set_local (env_of scopes (held s ps cells)) x z) w q)
      (record { ps = ps'; cells = cells'; holds = changed.holds; at = at'; env_is = env_is }))

  -- ---- `x = e`

  set_variable : (x : Name) (e : tree.Expr) → AcceptsPlace (tree.ToVariable x) here → AcceptsExpr e here
      → (ps cells : List ℤ) → Holds s ps cells → (lines : List Line) (w : World) (m : Machine) → At p code s.ground (length lines) ps [] cells w m
      → (o : Option ℕ) → private_word scopes x.text ≡ o
      → Free s (λ k. assignment_reads k (resolved.Set (to_variable o (word_named x (symbols_of p))) (R e)))
      → Loose s (λ k. assigns k (resolved.Set (to_variable o (word_named x (symbols_of p))) (R e)))
      → Has code (assignment_lines (resolved.Set (to_variable o (word_named x (symbols_of p))) (R e)) s.version lines)
      → Follows code n m (set_place (tree.ToVariable x) (value e call (env_of scopes (held s ps cells))) call (env_of scopes (held s ps cells)) w)
      (Behind (assignment_lines (resolved.Set (to_variable o (word_named x (symbols_of p))) (R e)) s.version lines))
  set_variable x e is_int ok ps cells holds lines w m at (Some k) is free loose has =
      let env = env_of scopes (held s ps cells) in
      let es = expr_lines (R e) s.version 0 lines in
      let done = put s.version 1 (set_private s.version k) es in
      follows_then code n m (value e call env w) (λ z. write_variable x z env) (L es ps [] cells) (Behind done)
      (value_here e ok free 0 ps [] cells lines (has_before code s.version 1 _ es has) w m at)
      (λ z w' m' at'. subst (λ o. Follows code n m' (write_by x z env o w') (Behind done)) (sym (value_of scopes (held s ps cells) x.text ∙ ap (option_map (held s ps cells)) is))
      (local_written n 1 k x.text z ps cells holds is (loose k (same_bit k)) w' m' es has at'))
  set_variable x e is_int ok ps cells holds lines w m at None is free loose has =
      let a = word_named x (symbols_of p) in
      let env = env_of scopes (held s ps cells) in
      let es = expr_lines (R e) s.version 0 lines in
      let done = put s.version 1 (SetGlob a) es in
      follows_then code n m (value e call env w) (λ z. write_variable x z env) (L es ps [] cells) (Behind done)
      (value_here e ok free 0 ps [] cells lines (has_before code s.version 1 _ es has) w m at)
      (λ z w' m' at'. subst (λ o. Follows code n m' (write_by x z env o w') (Behind done)) (sym (value_of scopes (held s ps cells) x.text ∙ ap (option_map (held s ps cells)) is))
      (word_written p code s.ground s.version words n 1 x a z ps [] cells w' m' es (λ done. gives env) (Behind done) (int_is p scopes here x around is is_int) has at'
      (λ w'' m'' at''. stands_so n done ps cells holds w'' m'' at'')))

  -- ---- `a[i] = e`

  set_element : (x : Name) (i e : tree.Expr) → AcceptsPlace (tree.ToElement x i) here → AcceptsExpr e here
      → (ps cells : List ℤ) → Holds s ps cells → (lines : List Line) (w : World) (m : Machine) → At p code s.ground (length lines) ps [] cells w m
      → Free s (λ k. assignment_reads k (resolved.Set (resolved.ToElement (words_named x (symbols_of p)) x.pos (R i)) (R e)))
      → Has code (assignment_lines (resolved.Set (resolved.ToElement (words_named x (symbols_of p)) x.pos (R i)) (R e)) s.version lines)
      → Follows code n m (set_place (tree.ToElement x i) (value e call (env_of scopes (held s ps cells))) call (env_of scopes (held s ps cells)) w)
      (Behind (assignment_lines (resolved.Set (resolved.ToElement (words_named x (symbols_of p)) x.pos (R i)) (R e)) s.version lines))
  set_element x i e place_ok ok ps cells holds lines w m at free has =
      let ws = words_named x (symbols_of p) in
      let env = env_of scopes (held s ps cells) in
      let is = expr_lines (R i) s.version 0 lines in
      let es = expr_lines (R e) s.version 1 is in
      let done = put s.version 2 (SetElem (array_of ws) x.pos) es in
      let has_e = has_before code s.version 2 (SetElem (array_of ws) x.pos) es has in
      follows_then code n m (value i call env w) (λ j. value e call env >>= (λ z. write_element x j z >>= (λ done. gives env))) (L is ps [] cells) (Behind done)
      (value_here i place_ok.1 (λ k r. free k (or_left _ _ r)) 0 ps [] cells lines (has_expr code (R e) s.version 1 is has_e) w m at)
      (λ j w' m' at'. follows_then code n m' (value e call env w') (λ z. write_element x j z >>= (λ done. gives env)) (L es ps (j ∷ []) cells) (Behind done)
      (value_here e ok (λ k r. free k (or_right _ _ r)) 1 ps (j ∷ []) cells is has_e w' m' at')
      (λ z w'' m'' at''. element_written p code s.ground s.version words n 2 x j z ws ps [] cells w'' m'' es (λ done. gives env) (Behind done) (array_is p scopes here x around place_ok.0) has at''
      (λ w3 m3 at3. stands_so n done ps cells holds w3 m3 at3)))

  -- ---- `x op= e`

  update_variable : (x : Name) (op : Operator) (place : Pos) (e : tree.Expr) → AcceptsPlace (tree.ToVariable x) here → AcceptsExpr e here
      → (ps cells : List ℤ) → Holds s ps cells → (lines : List Line) (w : World) (m : Machine) → At p code s.ground (length lines) ps [] cells w m
      → (o : Option ℕ) → private_word scopes x.text ≡ o
      → Free s (λ k. assignment_reads k (resolved.Update (to_variable o (word_named x (symbols_of p))) op place (R e)))
      → Loose s (λ k. assigns k (resolved.Update (to_variable o (word_named x (symbols_of p))) op place (R e)))
      → Has code (assignment_lines (resolved.Update (to_variable o (word_named x (symbols_of p))) op place (R e)) s.version lines)
      → Follows code n m (update_place (tree.ToVariable x) op place (value e call (env_of scopes (held s ps cells))) call (env_of scopes (held s ps cells)) w)
      (Behind (assignment_lines (resolved.Update (to_variable o (word_named x (symbols_of p))) op place (R e)) s.version lines))
  update_variable x op place e is_int ok ps cells holds lines w m at (Some k) is free loose has =
      let v = s.version in
      let env = env_of scopes (held s ps cells) in
      let gs = put v 0 (get_private v k) lines in
      let es = expr_lines (R e) v 1 gs in
      let bs = put v 2 (Binary op place) es in
      let done = put v 1 (set_private v k) bs in
      let has_b = has_before code v 1 (set_private v k) bs has in
      let has_e = has_before code v 2 (Binary op place) es has_b in
      let has_g = has_expr code (R e) v 1 gs has_e in
      let local : local_value env x.text ≡ Some (held s ps cells k) = value_of scopes (held s ps cells) x.text ∙ ap (option_map (held s ps cells)) is in
      let rest : ℤ → Run Environment = λ old. value e call env >>= (λ z. operate op place old z >>= (λ new. write_variable x new env)) in
      let free_e : Free s (λ k'. expr_reads k' (R e)) = λ k' r. free k' (or_right (is_to k' (resolved.ToPrivate k) || index_reads k' (resolved.ToPrivate k)) (expr_reads k' (R e)) r) in
      let loose_k = loose k (same_bit k) in
      follows_then code n m (read_variable x env w) rest (L gs ps [] cells) (Behind done)
      (subst (λ o. Follows code n m (read_by x o w) (L gs ps [] cells)) (sym local)
      (variable_follows p code s.ground v words fair.globals fair.carries scopes here around x is_int n 0 (held s ps cells) ps [] cells lines w m at (Some k) is
      (λ k' r. ap (λ o. fixed_or o (value_at v ps cells k')) (ap s.fixed (sym ((Decides-eqb k k').0 r)) ∙ loose_k.0)) has_g))
      (λ old w1 m1 at1. follows_then code n m1 (value e call env w1) (λ z. operate op place old z >>= (λ new. write_variable x new env)) (L es ps (old ∷ []) cells) (Behind done)
      (value_here e ok free_e 1 ps (old ∷ []) cells gs has_e w1 m1 at1)
      (λ z w2 m2 at2. operator_follows p code s.ground v words fair.globals fair.carries n 2 op place old z ps [] cells w2 m2 es (λ new. write_variable x new env) (Behind done) has_b at2
      (λ new m3 at3. subst (λ o. Follows code n m3 (write_by x new env o w2) (Behind done)) (sym local)
      (local_written n 1 k x.text new ps cells holds is loose_k w2 m3 bs has at3))))
  update_variable x op place e is_int ok ps cells holds lines w m at None is free loose has =
      let a = word_named x (symbols_of p) in
      let v = s.version in
      let env = env_of scopes (held s ps cells) in
      let gs = put v 0 (Glob a) lines in
      let es = expr_lines (R e) v 1 gs in
      let bs = put v 2 (Binary op place) es in
      let done = put v 1 (SetGlob a) bs in
      let has_b = has_before code v 1 (SetGlob a) bs has in
      let has_e = has_before code v 2 (Binary op place) es has_b in
      let has_g = has_expr code (R e) v 1 gs has_e in
      let local : local_value env x.text ≡ None = value_of scopes (held s ps cells) x.text ∙ ap (option_map (held s ps cells)) is in
      let rest : ℤ → Run Environment = λ old. value e call env >>= (λ z. operate op place old z >>= (λ new. write_variable x new env)) in
      follows_then code n m (read_variable x env w) rest (L gs ps [] cells) (Behind done)
      (subst (λ o. Follows code n m (read_by x o w) (L gs ps [] cells)) (sym local)
      (variable_follows p code s.ground v words fair.globals fair.carries scopes here around x is_int n 0 (held s ps cells) ps [] cells lines w m at None is (λ k r. absurd cc) has_g))
      (λ old w1 m1 at1. follows_then code n m1 (value e call env w1) (λ z. operate op place old z >>= (λ new. write_variable x new env)) (L es ps (old ∷ []) cells) (Behind done)
      (value_here e ok free 1 ps (old ∷ []) cells gs has_e w1 m1 at1)
      (λ z w2 m2 at2. operator_follows p code s.ground v words fair.globals fair.carries n 2 op place old z ps [] cells w2 m2 es (λ new. write_variable x new env) (Behind done) has_b at2
      (λ new m3 at3. subst (λ o. Follows code n m3 (write_by x new env o w2) (Behind done)) (sym local)
      (word_written p code s.ground v words n 1 x a new ps [] cells w2 m3 bs (λ done. gives env) (Behind done) (int_is p scopes here x around is is_int) has at3
      (λ w4 m4 at4. stands_so n done ps cells holds w4 m4 at4)))))

  -- ---- `a[i] op= e`

  update_element : (x : Name) (i : tree.Expr) (op : Operator) (place : Pos) (e : tree.Expr) → AcceptsPlace (tree.ToElement x i) here → AcceptsExpr e here
      → (ps cells : List ℤ) → Holds s ps cells → (lines : List Line) (w : World) (m : Machine) → At p code s.ground (length lines) ps [] cells w m
      → Free s (λ k. assignment_reads k (resolved.Update (resolved.ToElement (words_named x (symbols_of p)) x.pos (R i)) op place (R e)))
      → Has code (assignment_lines (resolved.Update (resolved.ToElement (words_named x (symbols_of p)) x.pos (R i)) op place (R e)) s.version lines)
      → Follows code n m (update_place (tree.ToElement x i) op place (value e call (env_of scopes (held s ps cells))) call (env_of scopes (held s ps cells)) w)
      (Behind (assignment_lines (resolved.Update (resolved.ToElement (words_named x (symbols_of p)) x.pos (R i)) op place (R e)) s.version lines))
  update_element x i op place e place_ok ok ps cells holds lines w m at free has =
      let ws = words_named x (symbols_of p) in
      let v = s.version in
      let env = env_of scopes (held s ps cells) in
      let a = expr_lines (R i) v 0 lines in
      let b = put v 1 Dup a in
      let c = put v 2 (Elem (array_of ws) x.pos) b in
      let d = expr_lines (R e) v 2 c in
      let f = put v 3 (Binary op place) d in
      let done = put v 2 (SetElem (array_of ws) x.pos) f in
      let has_f = has_before code v 2 (SetElem (array_of ws) x.pos) f has in
      let has_d = has_before code v 3 (Binary op place) d has_f in
      let has_c = has_expr code (R e) v 2 c has_d in
      let has_b = has_before code v 2 (Elem (array_of ws) x.pos) b has_c in
      let lies = array_is p scopes here x around place_ok.0 in
      let after_old : ℤ → ℤ → Run Environment = λ j old. value e call env >>= (λ z. operate op place old z >>= (λ new. write_element x j new >>= (λ done. gives env))) in
      follows_then code n m (value i call env w) (λ j. read_element x j >>= after_old j) (L a ps [] cells) (Behind done)
      (value_here i place_ok.1 (λ k r. free k (or_left (expr_reads k (R i)) (expr_reads k (R e)) r)) 0 ps [] cells lines (has_before code v 1 Dup a has_b) w m at)
      (λ j w1 m1 at1. word_goes p code s.ground v words fair.globals fair.carries n 1 ps ps (j ∷ []) (j ∷ (j ∷ [])) cells w1 m1 Dup a ((read_element x j >>= after_old j) w1) (Behind done) has_b at1 refl
      (λ m2 at2. element_follows p code s.ground v words fair.globals fair.carries n 2 x j ws ps (j ∷ []) cells w1 m2 b (after_old j) (Behind done) lies has_c at2
      (λ old m3 at3. follows_then code n m3 (value e call env w1) (λ z. operate op place old z >>= (λ new. write_element x j new >>= (λ done. gives env))) (L d ps (old ∷ (j ∷ [])) cells) (Behind done)
      (value_here e ok (λ k r. free k (or_right (expr_reads k (R i)) (expr_reads k (R e)) r)) 2 ps (old ∷ (j ∷ [])) cells c has_d w1 m3 at3)
      (λ z w4 m4 at4. operator_follows p code s.ground v words fair.globals fair.carries n 3 op place old z ps (j ∷ []) cells w4 m4 d (λ new. write_element x j new >>= (λ done. gives env)) (Behind done) has_f at4
      (λ new m5 at5. element_written p code s.ground v words n 2 x j new ws ps [] cells w4 m5 f (λ done. gives env) (Behind done) lies has at5
      (λ w6 m6 at6. stands_so n done ps cells holds w6 m6 at6))))))

  -- ---- all of them

  set_follows : (q : tree.Place) (e : tree.Expr) → AcceptsPlace q here → AcceptsExpr e here
      → Free s (λ k. assignment_reads k (resolve_assignment (tree.Set q e) (symbols_of p) scopes))
      → Loose s (λ k. assigns k (resolve_assignment (tree.Set q e) (symbols_of p) scopes))
      → (ps cells : List ℤ) → Holds s ps cells → (lines : List Line) → Has code (assignment_lines (resolve_assignment (tree.Set q e) (symbols_of p) scopes) s.version lines)
      → (w : World) (m : Machine) → At p code s.ground (length lines) ps [] cells w m
      → Follows code n m (set_place q (value e call (env_of scopes (held s ps cells))) call (env_of scopes (held s ps cells)) w) (Behind (assignment_lines (resolve_assignment (tree.Set q e) (symbols_of p) scopes) s.version lines))
  set_follows (tree.ToVariable x) e place_ok ok free loose ps cells holds lines has w m at =
      set_variable x e place_ok ok ps cells holds lines w m at (private_word scopes x.text) refl free loose has
  set_follows (tree.ToElement x i) e place_ok ok free loose ps cells holds lines has w m at =
      set_element x i e place_ok ok ps cells holds lines w m at free has

  update_follows : (q : tree.Place) (op : Operator) (place : Pos) (e : tree.Expr) → AcceptsPlace q here → AcceptsExpr e here
      → Free s (λ k. assignment_reads k (resolve_assignment (tree.Update q op place e) (symbols_of p) scopes))
      → Loose s (λ k. assigns k (resolve_assignment (tree.Update q op place e) (symbols_of p) scopes))
      → (ps cells : List ℤ) → Holds s ps cells → (lines : List Line) → Has code (assignment_lines (resolve_assignment (tree.Update q op place e) (symbols_of p) scopes) s.version lines)
      → (w : World) (m : Machine) → At p code s.ground (length lines) ps [] cells w m
      → Follows code n m (update_place q op place (value e call (env_of scopes (held s ps cells))) call (env_of scopes (held s ps cells)) w) (Behind (assignment_lines (resolve_assignment (tree.Update q op place e) (symbols_of p) scopes) s.version lines))
  update_follows (tree.ToVariable x) op place e place_ok ok free loose ps cells holds lines has w m at =
      update_variable x op place e place_ok ok ps cells holds lines w m at (private_word scopes x.text) refl free loose has
  update_follows (tree.ToElement x i) op place e place_ok ok free loose ps cells holds lines has w m at =
      update_element x i op place e place_ok ok ps cells holds lines w m at free has

  pub assign_follows : (a : tree.Assignment) → AcceptsAssignment a here
      → Free s (λ k. assignment_reads k (resolve_assignment a (symbols_of p) scopes))
      → Loose s (λ k. assigns k (resolve_assignment a (symbols_of p) scopes))
      → (ps cells : List ℤ) → Holds s ps cells → (lines : List Line) → Has code (assignment_lines (resolve_assignment a (symbols_of p) scopes) s.version lines)
      → (w : World) (m : Machine) → At p code s.ground (length lines) ps [] cells w m
      → Follows code n m (assign a call (env_of scopes (held s ps cells)) w) (Behind (assignment_lines (resolve_assignment a (symbols_of p) scopes) s.version lines))
  assign_follows (tree.Set q e) ok free loose ps cells holds lines has w m at = set_follows q e ok.0 ok.1 free loose ps cells holds lines has w m at
  assign_follows (tree.Update q op place e) ok free loose ps cells holds lines has w m at = update_follows q op place e ok.0 ok.1 free loose ps cells holds lines has w m at
  assign_follows (tree.Increment q) ok free loose ps cells holds lines has w m at = update_follows q Add no_place (tree.Number 1) ok small free loose ps cells holds lines has w m at
  assign_follows (tree.Decrement q) ok free loose ps cells holds lines has w m at = update_follows q Sub no_place (tree.Number 1) ok small free loose ps cells holds lines has w m at
