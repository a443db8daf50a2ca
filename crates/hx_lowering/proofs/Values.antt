-- The words of an expression leave its value on top.
use Rattle.std.proofs.Common.{◌≡◌, ℕ, ◌+◌, Bool, true, false, List, ◌∷◌, length, Option, Some, None, ℤ, pos, refl, sym, ap, subst, ◌∙◌, arith, if◌then◌else◌}
use Rattle.std.specs.Prelude.{slice_index_or, option_map, not, ◌||◌, nat_eq}
use Rattle.std.proofs.lemmas.List.{get_or-drop}
use Rattle.std.proofs.lemmas.Bool.Decides.{nat_tests}
use Rattle.hx_tree.specs.declared.token.Pos.{Pos}
use Rattle.hx_tree.specs.declared.tree.Operator.{Operator}
use Rattle.hx_tree.specs.declared.tree.BinaryOp.TheVariants.{Strict, And, Or}
use Rattle.hx_tree.specs.declared.outcome.FaultKind.TheVariants.{ZeroDivisor, IndexOutOfRange}
use Rattle.hx_tree.specs.Numbers.{is_zero, truth, unary_value, operator_value}
use Rattle.hx_tree.specs.Tree as tree
use Rattle.hx_tree.specs.Tree.{Program, Name}
use Rattle.hx_tree.specs.World.{World, Answer, Gives, Run, ◌>>=◌, gives, or_fault, words_of, word_at, read_element, look_up}
use Rattle.hx_tree.specs.Value.{Calling, value, values, operate}
use Rattle.hx_tree.specs.declared.tree.Returns.{Returns}
use Rattle.hx_tree.specs.declared.tree.Returns.TheVariants as returns
use Rattle.hx_tree.specs.Accepted.{Surroundings, AcceptsExpr, AcceptsExprs, IntKind, FunctionKind, kind_of, kinds_of, count as tree_count}
use Rattle.hx_resolved.specs.declared.program.Words.{Words}
use Rattle.hx_resolved.specs.Resolved as resolved
use Rattle.hx_resolved.specs.Symbols.{Scopes, private_word, symbols_of}
use Rattle.hx_resolved.specs.Carried.{expr_reads, exprs_read}
use Rattle.hx_resolved.specs.Resolve.{resolve_expr, resolve_exprs, function_at, variable, word_named, words_named}
use Rattle.hx_code.specs.declared.word.Word.{Word}
use Rattle.hx_code.specs.declared.word.Word.TheVariants.{Const, Priv, Glob, Elem, Unary, Binary, Jump, JumpFalse, JumpTrue, Call}
use Rattle.hx_code.specs.declared.word.Ask.TheVariants as ask
use Rattle.hx_code.specs.Code.{CodeView}
use Rattle.hx_code.specs.Call.{or_fault as or_asks, Asks, wants, at_index, fault_at}
use Rattle.hx_code.specs.Machine.{Machine}
use Rattle.hx_lowering.specs.declared.line.Line.{Line}
use Rattle.hx_lowering.specs.Lines.{Version, put, cell_of, get_at, get_private, array_of, count, expr_lines, exprs_lines}
use Rattle.hx_lowering.specs.Size.{expr_size}
use Rattle.hx_lowering.proofs.Globals.{words_in, place_of}
use Rattle.hx_lowering.proofs.Follow.{Follows, follows_then, follows_so, follows_last, at_once}
use Rattle.hx_lowering.proofs.Setting.{Ground, is_active}
use Rattle.hx_lowering.proofs.Stand.{Has, has_before, word_stands, has_expr, has_exprs, length-put, length-expr}
use Rattle.hx_lowering.proofs.At.{layout_of, call_at, At, at_place, roomy, goes_to, loads_to, faults_to}
use Rattle.hx_lowering.proofs.Names.{env_of, value_of, Around, int_is, array_is, function_here, word_of}
use Rattle.hx_lowering.proofs.Calling.{onto, CallsFollow}

-- what a version's code reads for a private word
abbrev pub private_value : Option ℕ → List ℤ → List ℤ → ℕ → ℤ
private_value None ps cells k = slice_index_or ps k (pos 0)
private_value (Some cell) ps cells k = slice_index_or cells cell (pos 0)

abbrev pub value_at : Version → List ℤ → List ℤ → ℕ → ℤ
value_at v ps cells k = private_value (cell_of v.carried k) ps cells k

-- the private words that are read have these values
abbrev pub Reads : Version → List ℤ → List ℤ → (ℕ → ℤ) → (ℕ → Bool) → Type 0
Reads v ps cells held reads = (k : ℕ) → reads k ≡ true → held k ≡ value_at v ps cells k

pub or_left : (a b : Bool) → a ≡ true → (a || b) ≡ true
or_left a b e = ap (λ x. x || b) e

pub or_right : (a b : Bool) → b ≡ true → (a || b) ≡ true
or_right true b e = refl
or_right false b e = e

truth_chosen : (b : Bool) → gives (truth (not b)) ≡ (if b then gives (pos 0) else gives (pos 1))
truth_chosen true = refl
truth_chosen false = refl

truth_decided : (b : Bool) → gives (truth (not b)) ≡ (if not b then gives (pos 1) else gives (pos 0))
truth_decided true = refl
truth_decided false = refl

same_number : (k : ℕ) → nat_eq k k ≡ true
same_number k = grind (arith, nat_tests)

-- the value of a local, or else of a global
abbrev pub read_by : Name → Option ℤ → Run ℤ
read_by x (Some y) = gives y
read_by x None = read_element x (pos 0)

module _ (p : Program) (code : CodeView) (K : Ground) (v : Version) (words : code.globals ≡ words_in (layout_of p)) (globals : v.globals ≡ words_in (layout_of p)) (carries : (k cell : ℕ) → cell_of v.carried k ≡ Some cell → is_active K ≡ true) where
  -- a word that asks nothing, and goes on behind it
  pub word_goes : {A : Type 0} (n h : ℕ) (ps ps' os os' cells : List ℤ) (w : World) (m : Machine) (word : Word) (lines : List Line) (a : Answer A) (Done : A → World → Machine → Type 0)
      → Has code (put v h word lines) → At p code K (length lines) ps os cells w m → wants word (call_at (length lines) ps os) ≡ Asks ask.Goes (call_at (length lines + 1) ps' os')
      → ((m' : Machine) → At p code K (length (put v h word lines)) ps' os' cells w m' → Follows code n m' a Done) → Follows code n m a Done
  word_goes n h ps ps' os os' cells w m word lines a Done has at asks k =
      goes_to p code K n (length lines) (length lines + 1) ps ps' os os' cells w m word a Done at (word_stands code v h word lines has) asks
      (λ m' at'. k m' (at_place p code K (length lines + 1) _ ps' os' cells w m' (sym (length-put v h word lines)) at'))

  pub word_loads : {A : Type 0} (n h : ℕ) (ps os os' cells : List ℤ) (w : World) (m : Machine) (word : Word) (lines : List Line) (b : ℕ) (x : ℤ) (a : Answer A) (Done : A → World → Machine → Type 0)
      → Has code (put v h word lines) → (at : At p code K (length lines) ps os cells w m) → wants word (call_at (length lines) ps os) ≡ Asks (ask.Loads b) (call_at (length lines + 1) ps os')
      → slice_index_or at.memory.store b (pos 0) ≡ x
      → ((m' : Machine) → At p code K (length (put v h word lines)) ps (x ∷ os') cells w m' → Follows code n m' a Done) → Follows code n m a Done
  word_loads n h ps os os' cells w m word lines b x a Done has at asks is k =
      loads_to p code K n (length lines) (length lines + 1) ps os os' cells w m word b x a Done at (word_stands code v h word lines has) asks is
      (λ m' at'. k m' (at_place p code K (length lines + 1) _ ps (x ∷ os') cells w m' (sym (length-put v h word lines)) at'))

  -- what an expression's words leave
  abbrev pub Leaves : List Line → List ℤ → List ℤ → List ℤ → ℤ → World → Machine → Type 0
  Leaves lines ps os cells = λ x w m. At p code K (length lines) ps (x ∷ os) cells w m

  -- a word that leaves a value, and nothing more
  value_at_once : (n : ℕ) (m : Machine) (lines : List Line) (ps os cells : List ℤ) (x : ℤ) (w : World) → At p code K (length lines) ps (x ∷ os) cells w m → Follows code n m (Gives x w) (Leaves lines ps os cells)
  value_at_once n m lines ps os cells x w at = at_once code m (λ m'. At p code K (length lines) ps (x ∷ os) cells w m') at

  -- `get` of a private word
  pub get_follows : {A : Type 0} (n h k : ℕ) (x : ℤ) (ps os cells : List ℤ) (w : World) (m : Machine) (lines : List Line) (a : Answer A) (Done : A → World → Machine → Type 0)
      → Has code (put v h (get_private v k) lines) → At p code K (length lines) ps os cells w m → x ≡ value_at v ps cells k
      → ((m' : Machine) → At p code K (length (put v h (get_private v k) lines)) ps (x ∷ os) cells w m' → Follows code n m' a Done) → Follows code n m a Done
  get_follows n h k x ps os cells w m lines a Done has at is go_on = go (cell_of v.carried k) refl has is go_on
    where
      go : (o : Option ℕ) → cell_of v.carried k ≡ o → Has code (put v h (get_at o v.globals k) lines) → x ≡ private_value o ps cells k
          → ((m' : Machine) → At p code K (length (put v h (get_at o v.globals k) lines)) ps (x ∷ os) cells w m' → Follows code n m' a Done) → Follows code n m a Done
      go None e has is go_on =
          word_goes n h ps ps os (x ∷ os) cells w m (Priv k) lines a Done has at (ap (λ y. Asks ask.Goes (call_at (length lines + 1) ps (y ∷ os))) (sym is)) go_on
      go (Some cell) e has is go_on =
          word_loads n h ps os os cells w m (Glob (v.globals + cell)) lines (v.globals + cell) x a Done has at refl
          (ap (λ g. slice_index_or at.memory.store (g + cell) (pos 0)) globals
          ∙ sym (get_or-drop (words_in (layout_of p)) at.memory.store cell (pos 0))
          ∙ ap (λ cs. slice_index_or cs cell (pos 0)) (at.cells_are (carries k cell e)) ∙ sym is) go_on

  -- a binary operator on two values
  pub operator_follows : {A : Type 0} (n h : ℕ) (o : Operator) (place : Pos) (x y : ℤ) (ps os cells : List ℤ) (w : World) (m : Machine) (lines : List Line) (f : ℤ → Run A) (Done : A → World → Machine → Type 0)
      → Has code (put v h (Binary o place) lines) → At p code K (length lines) ps (y ∷ (x ∷ os)) cells w m
      → ((z : ℤ) (m' : Machine) → At p code K (length (put v h (Binary o place) lines)) ps (z ∷ os) cells w m' → Follows code n m' (f z w) Done) → Follows code n m ((operate o place x y >>= f) w) Done
  operator_follows n h o place x y ps os cells w m lines f Done has at go_on = go (operator_value o x y) refl
    where
      go : (q : Option ℤ) → operator_value o x y ≡ q → Follows code n m ((or_fault ZeroDivisor place q >>= f) w) Done
      go None e =
          faults_to p code K n (length lines) ps (y ∷ (x ∷ os)) cells w m (Binary o place) (call_at (length lines) ps (y ∷ (x ∷ os))) (fault_at ZeroDivisor place) Done words at (word_stands code v h _ lines has)
          (ap (λ q. or_asks ZeroDivisor place (call_at (length lines) ps (y ∷ (x ∷ os))) q (λ z. Asks ask.Goes (call_at (length lines + 1) ps (z ∷ os)))) e)
      go (Some z) e =
          word_goes n h ps ps (y ∷ (x ∷ os)) (z ∷ os) cells w m (Binary o place) lines (f z w) Done has at
          (ap (λ q. or_asks ZeroDivisor place (call_at (length lines) ps (y ∷ (x ∷ os))) q (λ z. Asks ask.Goes (call_at (length lines + 1) ps (z ∷ os)))) e)
          (go_on z)

  -- a test on top, which jumps or not
  pub jump_follows : {A : Type 0} (n h to : ℕ) (x : ℤ) (ps os cells : List ℤ) (w : World) (m : Machine) (lines : List Line) (zero_goes other_goes : Run A) (Done : A → World → Machine → Type 0)
      → Has code (put v h (JumpFalse to) lines) → At p code K (length lines) ps (x ∷ os) cells w m
      → ((m' : Machine) → At p code K to ps os cells w m' → Follows code n m' (zero_goes w) Done)
      → ((m' : Machine) → At p code K (length (put v h (JumpFalse to) lines)) ps os cells w m' → Follows code n m' (other_goes w) Done)
      → Follows code n m ((if is_zero x then zero_goes else other_goes) w) Done
  jump_follows n h to x ps os cells w m lines zero_goes other_goes Done has at if_zero if_other = go (is_zero x) refl
    where
      go : (b : Bool) → is_zero x ≡ b → Follows code n m ((if b then zero_goes else other_goes) w) Done
      go true e =
          goes_to p code K n (length lines) to ps ps (x ∷ os) os cells w m (JumpFalse to) (zero_goes w) Done at (word_stands code v h _ lines has)
          (ap (λ b. if b then Asks ask.Goes (call_at to ps os) else Asks ask.Goes (call_at (length lines + 1) ps os)) e) if_zero
      go false e =
          word_goes n h ps ps (x ∷ os) os cells w m (JumpFalse to) lines (other_goes w) Done has at
          (ap (λ b. if b then Asks ask.Goes (call_at to ps os) else Asks ask.Goes (call_at (length lines + 1) ps os)) e) if_other

  pub jump_true_follows : {A : Type 0} (n h to : ℕ) (x : ℤ) (ps os cells : List ℤ) (w : World) (m : Machine) (lines : List Line) (other_goes zero_goes : Run A) (Done : A → World → Machine → Type 0)
      → Has code (put v h (JumpTrue to) lines) → At p code K (length lines) ps (x ∷ os) cells w m
      → ((m' : Machine) → At p code K to ps os cells w m' → Follows code n m' (other_goes w) Done)
      → ((m' : Machine) → At p code K (length (put v h (JumpTrue to) lines)) ps os cells w m' → Follows code n m' (zero_goes w) Done)
      → Follows code n m ((if not (is_zero x) then other_goes else zero_goes) w) Done
  jump_true_follows n h to x ps os cells w m lines other_goes zero_goes Done has at if_other if_zero = go (is_zero x) refl
    where
      go : (b : Bool) → is_zero x ≡ b → Follows code n m ((if not b then other_goes else zero_goes) w) Done
      go false e =
          goes_to p code K n (length lines) to ps ps (x ∷ os) os cells w m (JumpTrue to) (other_goes w) Done at (word_stands code v h _ lines has)
          (ap (λ b. if b then Asks ask.Goes (call_at (length lines + 1) ps os) else Asks ask.Goes (call_at to ps os)) e) if_other
      go true e =
          word_goes n h ps ps (x ∷ os) os cells w m (JumpTrue to) lines (zero_goes w) Done has at
          (ap (λ b. if b then Asks ask.Goes (call_at (length lines + 1) ps os) else Asks ask.Goes (call_at to ps os)) e) if_zero

  -- an element of an array on top
  pub element_follows : {A : Type 0} (n h : ℕ) (x : Name) (i : ℤ) (ws : Words) (ps os cells : List ℤ) (w : World) (m : Machine) (lines : List Line) (f : ℤ → Run A) (Done : A → World → Machine → Type 0)
      → place_of (layout_of p) 0 x.text ≡ Some ws
      → Has code (put v h (Elem (array_of ws) x.pos) lines) → At p code K (length lines) ps (i ∷ os) cells w m
      → ((z : ℤ) (m' : Machine) → At p code K (length (put v h (Elem (array_of ws) x.pos) lines)) ps (z ∷ os) cells w m' → Follows code n m' (f z w) Done) → Follows code n m ((read_element x i >>= f) w) Done
  element_follows n h x i ws ps os cells w m lines f Done lies has at go_on =
      subst (λ o. Follows code n m ((or_fault IndexOutOfRange x.pos o >>= f) w) Done)
      (sym (ap (λ (u : World). word_at (words_of u.store x.text) i) at.world ∙ word_of (layout_of p) at.memory.store x.text ws i lies (roomy p code K _ _ _ _ _ _ at)))
      (go (at_index i ws.length) refl)
    where
      go : (q : Option ℕ) → at_index i ws.length ≡ q
          → Follows code n m ((or_fault IndexOutOfRange x.pos (option_map (λ k. slice_index_or at.memory.store (ws.base + k) (pos 0)) q) >>= f) w) Done
      go None e =
          faults_to p code K n (length lines) ps (i ∷ os) cells w m (Elem (array_of ws) x.pos) (call_at (length lines) ps (i ∷ os)) (fault_at IndexOutOfRange x.pos) Done words at (word_stands code v h _ lines has)
          (ap (λ q. or_asks IndexOutOfRange x.pos (call_at (length lines) ps (i ∷ os)) q (λ k. Asks (ask.Loads (ws.base + k)) (call_at (length lines + 1) ps os))) e)
      go (Some k) e =
          word_loads n h ps (i ∷ os) os cells w m (Elem (array_of ws) x.pos) lines (ws.base + k) _ (f _ w) Done has at
          (ap (λ q. or_asks IndexOutOfRange x.pos (call_at (length lines) ps (i ∷ os)) q (λ k. Asks (ask.Loads (ws.base + k)) (call_at (length lines + 1) ps os))) e)
          refl (go_on _)

  -- a local, or else a global
  pub variable_follows : (scopes : Scopes) (here : Surroundings) → Around p scopes here → (x : Name) → kind_of x here ≡ Some IntKind
      → (n h : ℕ) (held : ℕ → ℤ) (ps os cells : List ℤ) (lines : List Line) (w : World) (m : Machine) → At p code K (length lines) ps os cells w m
      → (o : Option ℕ) → private_word scopes x.text ≡ o → Reads v ps cells held (λ k. expr_reads k (variable o (word_named x (symbols_of p))))
      → Has code (expr_lines (variable o (word_named x (symbols_of p))) v h lines)
      → Follows code n m (read_by x (option_map held o) w) (Leaves (expr_lines (variable o (word_named x (symbols_of p))) v h lines) ps os cells)
  variable_follows scopes here around x ok n h held ps os cells lines w m at (Some k) e reads has =
      get_follows n h k (held k) ps os cells w m lines (Gives (held k) w) (Leaves (put v h (get_private v k) lines) ps os cells) has at (reads k (same_number k)) (λ m' at'. value_at_once n m' _ ps os cells (held k) w at')
  variable_follows scopes here around x ok n h held ps os cells lines w m at None e reads has =
      let a = word_named x (symbols_of p) in
      let lies = int_is p scopes here x around e ok in
      let is : word_at (words_of w.store x.text) (pos 0) ≡ Some (slice_index_or at.memory.store (a + 0) (pos 0)) =
      ap (λ (u : World). word_at (words_of u.store x.text) (pos 0)) at.world ∙ word_of (layout_of p) at.memory.store x.text (record { base = a; length = 1 }) (pos 0) lies (roomy p code K _ _ _ _ _ _ at) in
      let same : a ≡ a + 0 = omega arith in
      let z : ℤ = slice_index_or at.memory.store (a + 0) (pos 0) in
      subst (λ q. Follows code n m (or_fault IndexOutOfRange x.pos q w) (Leaves (put v h (Glob a) lines) ps os cells))
      (sym is)
      (word_loads n h ps os os cells w m (Glob a) lines a z (Gives z w) (Leaves (put v h (Glob a) lines) ps os cells) has at refl (ap (λ b. slice_index_or at.memory.store b (pos 0)) same)
      (λ m' at'. value_at_once n m' _ ps os cells z w at'))

  -- THE expressions: after its words the value is on top, or the machine has ended with its fault
  module _ (scopes : Scopes) (here : Surroundings) (around : Around p scopes here) (call : Calling) (n : ℕ) (calling : CallsFollow p code K call n) where
    abbrev R : tree.Expr → resolved.Expr
    R e = resolve_expr e (symbols_of p) scopes

    abbrev Rs : tree.Exprs → resolved.Exprs
    Rs es = resolve_exprs es (symbols_of p) scopes

    -- what the words of arguments leave
    abbrev pub Stacks : tree.Exprs → List Line → List ℤ → List ℤ → List ℤ → List ℤ → World → Machine → Type 0
    Stacks es lines ps os cells = λ vs w m. (length vs ≡ tree_count es) × At p code K (length lines) ps (onto vs os) cells w m

    pub call_leaves : (f : Name) (r : Returns) (vs : List ℤ) → look_up (kinds_of p) f.text ≡ Some (FunctionKind r (length vs))
        → (h : ℕ) (ps os cells : List ℤ) (lines : List Line) → Has code (put v h (Call (function_at f (symbols_of p)) f.pos) lines) → (w : World) (m : Machine) → At p code K (length lines) ps (onto vs os) cells w m
        → Follows code n m (call f vs w) (Leaves (put v h (Call (function_at f (symbols_of p)) f.pos) lines) ps os cells)
    call_leaves f r vs is h ps os cells lines has w m at =
        let word = Call (function_at f (symbols_of p)) f.pos in
        follows_so code n m (call f vs w) (λ x w' m'. At p code K (length lines + 1) ps (x ∷ os) cells w' m') (Leaves (put v h word lines) ps os cells)
        (λ x w' m' at'. at_place p code K (length lines + 1) _ ps (x ∷ os) cells w' m' (sym (length-put v h word lines)) at')
        (calling f r vs is (length lines) ps os cells w m at (word_stands code v h word lines has))

    mutual
      pub value_follows : (e : tree.Expr) → AcceptsExpr e here
          → (h : ℕ) (held : ℕ → ℤ) (ps os cells : List ℤ) → Reads v ps cells held (λ k. expr_reads k (resolve_expr e (symbols_of p) scopes))
          → (lines : List Line) → Has code (expr_lines (resolve_expr e (symbols_of p) scopes) v h lines)
          → (w : World) (m : Machine) → At p code K (length lines) ps os cells w m
          → Follows code n m (value e call (env_of scopes held) w) (Leaves (expr_lines (resolve_expr e (symbols_of p) scopes) v h lines) ps os cells)
      value_follows (tree.Number k) ok h held ps os cells reads lines has w m at =
          word_goes n h ps ps os (pos k ∷ os) cells w m (Const (pos k)) lines (Gives (pos k) w) (Leaves (put v h (Const (pos k)) lines) ps os cells) has at refl (λ m' at'. value_at_once n m' _ ps os cells (pos k) w at')
      value_follows (tree.Variable x) ok h held ps os cells reads lines has w m at =
          subst (λ o. Follows code n m (read_by x o w) (Leaves (expr_lines (R (tree.Variable x)) v h lines) ps os cells))
          (sym (value_of scopes held x.text)) (variable_follows scopes here around x ok n h held ps os cells lines w m at (private_word scopes x.text) refl reads has)
      value_follows (tree.Element x e) ok h held ps os cells reads lines has w m at =
          let done = put v (h + 1) (Elem (array_of (words_named x (symbols_of p))) x.pos) (expr_lines (R e) v h lines) in
          follows_then code n m (value e call (env_of scopes held) w) (λ i. read_element x i) (Leaves (expr_lines (R e) v h lines) ps os cells) (Leaves done ps os cells)
          (value_follows e ok.1 h held ps os cells reads lines (has_before code v (h + 1) _ _ has) w m at)
          (λ i w' m' at'. follows_last code n m' (read_element x i w') (Leaves done ps os cells)
          (element_follows n (h + 1) x i (words_named x (symbols_of p)) ps os cells w' m' (expr_lines (R e) v h lines) gives (Leaves done ps os cells) (array_is p scopes here x around ok.0) has at' (λ z m'' at''. value_at_once n m'' _ ps os cells z w' at'')))
      value_follows (tree.Call f es) ok h held ps os cells reads lines has w m at =
          let word = Call (function_at f (symbols_of p)) f.pos in
          let es' = exprs_lines (Rs es) v h lines in
          let done = put v (h + count (Rs es)) word es' in
          follows_then code n m (values es call (env_of scopes held) w) (λ vs. call f vs) (Stacks es es' ps os cells) (Leaves done ps os cells)
          (values_follow es ok.1 h held ps os cells reads lines (has_before code v (h + count (Rs es)) word es' has) w m at)
          (λ vs w' m' up. call_leaves f returns.Int vs (function_here p scopes here f returns.Int (length vs) around (ok.0 ∙ ap (λ k. Some (FunctionKind returns.Int k)) (sym up.0)))
          (h + count (Rs es)) ps os cells es' has w' m' up.1)
      value_follows (tree.Paren e) ok h held ps os cells reads lines has w m at = value_follows e ok h held ps os cells reads lines has w m at
      value_follows (tree.Unary o e) ok h held ps os cells reads lines has w m at =
          let done = put v (h + 1) (Unary o) (expr_lines (R e) v h lines) in
          follows_then code n m (value e call (env_of scopes held) w) (λ x. gives (unary_value o x)) (Leaves (expr_lines (R e) v h lines) ps os cells) (Leaves done ps os cells)
          (value_follows e ok h held ps os cells reads lines (has_before code v (h + 1) _ _ has) w m at)
          (λ x w' m' at'. word_goes n (h + 1) ps ps (x ∷ os) (unary_value o x ∷ os) cells w' m' (Unary o) (expr_lines (R e) v h lines) (Gives (unary_value o x) w') (Leaves done ps os cells) has at' refl (λ m'' at''. value_at_once n m'' _ ps os cells (unary_value o x) w' at''))
      value_follows (tree.Binary (Strict o) place l r) ok h held ps os cells reads lines has w m at =
          let ls = expr_lines (R l) v h lines in
          let rs = expr_lines (R r) v (h + 1) ls in
          let has_r = has_before code v (h + 2) (Binary o place) rs has in
          let done = put v (h + 2) (Binary o place) rs in
          follows_then code n m (value l call (env_of scopes held) w) (λ x. value r call (env_of scopes held) >>= (λ y. operate o place x y)) (Leaves ls ps os cells) (Leaves done ps os cells)
          (value_follows l ok.0 h held ps os cells (λ k e. reads k (or_left _ _ e)) lines (has_expr code (R r) v (h + 1) ls has_r) w m at)
          (λ x w' m' at'. follows_then code n m' (value r call (env_of scopes held) w') (λ y. operate o place x y) (Leaves rs ps (x ∷ os) cells) (Leaves done ps os cells)
          (value_follows r ok.1 (h + 1) held ps (x ∷ os) cells (λ k e. reads k (or_right _ _ e)) ls has_r w' m' at')
          (λ y w'' m'' at''. follows_last code n m'' (operate o place x y w'') (Leaves done ps os cells)
          (operator_follows n (h + 2) o place x y ps os cells w'' m'' rs gives (Leaves done ps os cells) has at'' (λ z m3 at3. value_at_once n m3 _ ps os cells z w'' at3))))
      value_follows (tree.Binary And place l r) ok h held ps os cells reads lines has w m at =
          let to = length lines + expr_size (R l) + 1 + expr_size (R r) + 3 in
          let a = expr_lines (R l) v h lines in
          let b = put v (h + 1) (JumpFalse to) a in
          let c = expr_lines (R r) v h b in
          let d = put v (h + 1) (JumpFalse to) c in
          let e = put v h (Const (pos 1)) d in
          let f = put v (h + 1) (Jump (to + 1)) e in
          let done = put v h (Const (pos 0)) f in
          let has_f = has_before code v h (Const (pos 0)) f has in
          let has_e = has_before code v (h + 1) (Jump (to + 1)) e has_f in
          let has_d = has_before code v h (Const (pos 1)) d has_e in
          let has_c = has_before code v (h + 1) (JumpFalse to) c has_d in
          let has_b = has_expr code (R r) v h b has_c in
          let len : to ≡ length f = omega (arith, length-expr (R l) v h lines, length-put v (h + 1) (JumpFalse to) a, length-expr (R r) v h b, length-put v (h + 1) (JumpFalse to) c, length-put v h (Const (pos 1)) d, length-put v (h + 1) (Jump (to + 1)) e) in
          let len' : to + 1 ≡ length done = ap (λ k. k + 1) len ∙ sym (length-put v h (Const (pos 0)) f) in
          let on_zero : (w' : World) (m' : Machine) → At p code K to ps os cells w' m' → Follows code n m' (Gives (pos 0) w') (Leaves done ps os cells) = λ w' m' at'.
          word_goes n h ps ps os (pos 0 ∷ os) cells w' m' (Const (pos 0)) f (Gives (pos 0) w') (Leaves done ps os cells) has (at_place p code K to (length f) ps os cells w' m' len at') refl (λ m'' at''. value_at_once n m'' _ ps os cells (pos 0) w' at'') in
          let on_one : (w' : World) (m' : Machine) → At p code K (length d) ps os cells w' m' → Follows code n m' (Gives (pos 1) w') (Leaves done ps os cells) = λ w' m' at'.
          word_goes n h ps ps os (pos 1 ∷ os) cells w' m' (Const (pos 1)) d (Gives (pos 1) w') (Leaves done ps os cells) has_e at' refl
          (λ m'' at''. goes_to p code K n (length e) (to + 1) ps ps (pos 1 ∷ os) (pos 1 ∷ os) cells w' m'' (Jump (to + 1)) (Gives (pos 1) w') (Leaves done ps os cells) at'' (word_stands code v (h + 1) (Jump (to + 1)) e has_f) refl
          (λ m3 at3. value_at_once n m3 done ps os cells (pos 1) w' (at_place p code K (to + 1) (length done) ps (pos 1 ∷ os) cells w' m3 len' at3))) in
          follows_then code n m (value l call (env_of scopes held) w) (λ x. if is_zero x then gives (pos 0) else (value r call (env_of scopes held) >>= (λ y. gives (truth (not (is_zero y)))))) (Leaves a ps os cells) (Leaves done ps os cells)
          (value_follows l ok.0 h held ps os cells (λ k e. reads k (or_left _ _ e)) lines (has_before code v (h + 1) (JumpFalse to) a has_b) w m at)
          (λ x w' m' at'. jump_follows n (h + 1) to x ps os cells w' m' a (gives (pos 0)) (value r call (env_of scopes held) >>= (λ y. gives (truth (not (is_zero y))))) (Leaves done ps os cells) has_b at' (on_zero w')
          (λ m'' at''. follows_then code n m'' (value r call (env_of scopes held) w') (λ y. gives (truth (not (is_zero y)))) (Leaves c ps os cells) (Leaves done ps os cells)
          (value_follows r ok.1 h held ps os cells (λ k e. reads k (or_right _ _ e)) b has_c w' m'' at'')
          (λ y w3 m3 at3. subst (λ g. Follows code n m3 (g w3) (Leaves done ps os cells)) (sym (truth_chosen (is_zero y)))
          (jump_follows n (h + 1) to y ps os cells w3 m3 c (gives (pos 0)) (gives (pos 1)) (Leaves done ps os cells) has_d at3 (on_zero w3) (on_one w3)))))
      value_follows (tree.Binary Or place l r) ok h held ps os cells reads lines has w m at =
          let to = length lines + expr_size (R l) + 1 + expr_size (R r) + 3 in
          let a = expr_lines (R l) v h lines in
          let b = put v (h + 1) (JumpTrue to) a in
          let c = expr_lines (R r) v h b in
          let d = put v (h + 1) (JumpTrue to) c in
          let e = put v h (Const (pos 0)) d in
          let f = put v (h + 1) (Jump (to + 1)) e in
          let done = put v h (Const (pos 1)) f in
          let has_f = has_before code v h (Const (pos 1)) f has in
          let has_e = has_before code v (h + 1) (Jump (to + 1)) e has_f in
          let has_d = has_before code v h (Const (pos 0)) d has_e in
          let has_c = has_before code v (h + 1) (JumpTrue to) c has_d in
          let has_b = has_expr code (R r) v h b has_c in
          let len : to ≡ length f = omega (arith, length-expr (R l) v h lines, length-put v (h + 1) (JumpTrue to) a, length-expr (R r) v h b, length-put v (h + 1) (JumpTrue to) c, length-put v h (Const (pos 0)) d, length-put v (h + 1) (Jump (to + 1)) e) in
          let len' : to + 1 ≡ length done = ap (λ k. k + 1) len ∙ sym (length-put v h (Const (pos 1)) f) in
          let on_one : (w' : World) (m' : Machine) → At p code K to ps os cells w' m' → Follows code n m' (Gives (pos 1) w') (Leaves done ps os cells) = λ w' m' at'.
          word_goes n h ps ps os (pos 1 ∷ os) cells w' m' (Const (pos 1)) f (Gives (pos 1) w') (Leaves done ps os cells) has (at_place p code K to (length f) ps os cells w' m' len at') refl (λ m'' at''. value_at_once n m'' _ ps os cells (pos 1) w' at'') in
          let on_zero : (w' : World) (m' : Machine) → At p code K (length d) ps os cells w' m' → Follows code n m' (Gives (pos 0) w') (Leaves done ps os cells) = λ w' m' at'.
          word_goes n h ps ps os (pos 0 ∷ os) cells w' m' (Const (pos 0)) d (Gives (pos 0) w') (Leaves done ps os cells) has_e at' refl
          (λ m'' at''. goes_to p code K n (length e) (to + 1) ps ps (pos 0 ∷ os) (pos 0 ∷ os) cells w' m'' (Jump (to + 1)) (Gives (pos 0) w') (Leaves done ps os cells) at'' (word_stands code v (h + 1) (Jump (to + 1)) e has_f) refl
          (λ m3 at3. value_at_once n m3 done ps os cells (pos 0) w' (at_place p code K (to + 1) (length done) ps (pos 0 ∷ os) cells w' m3 len' at3))) in
          follows_then code n m (value l call (env_of scopes held) w) (λ x. if not (is_zero x) then gives (pos 1) else (value r call (env_of scopes held) >>= (λ y. gives (truth (not (is_zero y)))))) (Leaves a ps os cells) (Leaves done ps os cells)
          (value_follows l ok.0 h held ps os cells (λ k e. reads k (or_left _ _ e)) lines (has_before code v (h + 1) (JumpTrue to) a has_b) w m at)
          (λ x w' m' at'. jump_true_follows n (h + 1) to x ps os cells w' m' a (gives (pos 1)) (value r call (env_of scopes held) >>= (λ y. gives (truth (not (is_zero y))))) (Leaves done ps os cells) has_b at' (on_one w')
          (λ m'' at''. follows_then code n m'' (value r call (env_of scopes held) w') (λ y. gives (truth (not (is_zero y)))) (Leaves c ps os cells) (Leaves done ps os cells)
          (value_follows r ok.1 h held ps os cells (λ k e. reads k (or_right _ _ e)) b has_c w' m'' at'')
          (λ y w3 m3 at3. subst (λ g. Follows code n m3 (g w3) (Leaves done ps os cells)) (sym (truth_decided (is_zero y)))
          (jump_true_follows n (h + 1) to y ps os cells w3 m3 c (gives (pos 1)) (gives (pos 0)) (Leaves done ps os cells) has_d at3 (on_one w3) (on_zero w3)))))
      value_follows (tree.Conditional test chosen other) ok h held ps os cells reads lines has w m at =
          let other_at = length lines + expr_size (R test) + 1 + expr_size (R chosen) + 1 in
          let behind = other_at + expr_size (R other) in
          let a = expr_lines (R test) v h lines in
          let b = put v (h + 1) (JumpFalse other_at) a in
          let c = expr_lines (R chosen) v h b in
          let d = put v (h + 1) (Jump behind) c in
          let done = expr_lines (R other) v h d in
          let has_d = has_expr code (R other) v h d has in
          let has_c = has_before code v (h + 1) (Jump behind) c has_d in
          let has_b = has_expr code (R chosen) v h b has_c in
          let at_other : other_at ≡ length d = omega (arith, length-expr (R test) v h lines, length-put v (h + 1) (JumpFalse other_at) a, length-expr (R chosen) v h b, length-put v (h + 1) (Jump behind) c) in
          let at_end : behind ≡ length done = omega (arith, at_other, length-expr (R other) v h d) in
          let env = env_of scopes held in
          let Done = Leaves done ps os cells in
          follows_then code n m (value test call env w) (λ x. if is_zero x then value other call env else value chosen call env) (Leaves a ps os cells) Done
          (value_follows test ok.0 h held ps os cells (λ k e. reads k (or_left _ _ (or_left _ _ e))) lines (has_before code v (h + 1) (JumpFalse other_at) a has_b) w m at)
          (λ x w' m' at'. jump_follows n (h + 1) other_at x ps os cells w' m' a (value other call env) (value chosen call env) Done has_b at'
          (λ m'' at''. value_follows other ok.2 h held ps os cells (λ k e. reads k (or_right _ _ e)) d has w' m'' (at_place p code K other_at (length d) ps os cells w' m'' at_other at''))
          (λ m'' at''. follows_last code n m'' (value chosen call env w') Done
          (follows_then code n m'' (value chosen call env w') (λ z. gives z) (Leaves c ps os cells) Done
          (value_follows chosen ok.1 h held ps os cells (λ k e. reads k (or_left _ _ (or_right _ _ e))) b has_c w' m'' at'')
          (λ z w3 m3 at3. goes_to p code K n (length c) behind ps ps (z ∷ os) (z ∷ os) cells w3 m3 (Jump behind) (Gives z w3) Done at3 (word_stands code v (h + 1) (Jump behind) c has_d) refl
          (λ m4 at4. value_at_once n m4 done ps os cells z w3 (at_place p code K behind (length done) ps (z ∷ os) cells w3 m4 at_end at4))))))

      pub values_follow : (es : tree.Exprs) → AcceptsExprs es here
          → (h : ℕ) (held : ℕ → ℤ) (ps os cells : List ℤ) → Reads v ps cells held (λ k. exprs_read k (resolve_exprs es (symbols_of p) scopes))
          → (lines : List Line) → Has code (exprs_lines (resolve_exprs es (symbols_of p) scopes) v h lines)
          → (w : World) (m : Machine) → At p code K (length lines) ps os cells w m
          → Follows code n m (values es call (env_of scopes held) w) (Stacks es (exprs_lines (resolve_exprs es (symbols_of p) scopes) v h lines) ps os cells)
      values_follow tree.no_exprs ok h held ps os cells reads lines has w m at =
          at_once code m (λ m'. (0 ≡ 0) × At p code K (length lines) ps os cells w m') (refl, at)
      values_follow (tree.expr_and e es) ok h held ps os cells reads lines has w m at =
          let a = expr_lines (R e) v h lines in
          let done = exprs_lines (Rs es) v (h + 1) a in
          let Done = Stacks (tree.expr_and e es) done ps os cells in
          follows_then code n m (value e call (env_of scopes held) w) (λ x. values es call (env_of scopes held) >>= (λ xs. gives (x ∷ xs))) (Leaves a ps os cells) Done
          (value_follows e ok.0 h held ps os cells (λ k r. reads k (or_left _ _ r)) lines (has_exprs code (Rs es) v (h + 1) a has) w m at)
          (λ x w' m' at'. follows_then code n m' (values es call (env_of scopes held) w') (λ xs. gives (x ∷ xs)) (Stacks es done ps (x ∷ os) cells) Done
          (values_follow es ok.1 (h + 1) held ps (x ∷ os) cells (λ k r. reads k (or_right _ _ r)) a has w' m' at')
          (λ xs w'' m'' up. let one : length (x ∷ xs) ≡ 1 + tree_count es = (let q = up.0 in omega arith) in
          at_once code m'' (λ q. Done (x ∷ xs) w'' q) (one, up.1)))
