-- The words of expressions and assignments keep the rules.
use Rattle.std.proofs.Common.{◌≡◌, ℕ, ◌+◌, ◌-◌, ◌≤◌, ◌<◌, List, [], ◌∷◌, length, Option, Some, None, pos, refl, sym, ap, subst, ◌∙◌, arith}
use Rattle.std.specs.Prelude.{slice_get, option_map}
use Rattle.std.specs.List.{AllByRecursion}
use Rattle.std.proofs.lemmas.Option.{slice_get-map, slice_get_within}
use Rattle.hx_tree.specs.declared.limits.TheConstants.{OPERAND_LIMIT, CELL_LIMIT}
use Rattle.hx_tree.specs.declared.tree.BinaryOp.TheVariants.{Strict, And, Or}
use Rattle.hx_tree.specs.declared.token.Pos.{Pos}
use Rattle.hx_resolved.specs.declared.program.Words.{Words}
use Rattle.hx_resolved.specs.Resolved as resolved
use Rattle.hx_resolved.specs.Resolved.{Expr, Exprs, Assignment, Simple}
use Rattle.hx_code.specs.declared.word.Word.{Word}
use Rattle.hx_code.specs.declared.word.Word.TheVariants.{Const, Priv, SetPriv, Glob, SetGlob, Elem, Unary, Binary, Jump, JumpFalse, JumpTrue, Call}
use Rattle.hx_code.specs.Code.{FuncView, CodeView}
use Rattle.hx_code.specs.Valid.{NamesKnown, successors, parameters_of, pops, pushes, StandsRight, IsArray}
use Rattle.hx_lowering.specs.declared.line.Line.{Line}
use Rattle.hx_lowering.specs.Size.{expr_size}
use Rattle.hx_lowering.specs.Lines.{Version, put, cell_of, get_at, set_at, get_private, set_private, array_of, count, expr_lines, exprs_lines}
use Rattle.hx_lowering.proofs.Stand.{Has, has_before, has_expr, has_exprs, length-put, length-expr}
use Rattle.hx_lowered.proofs.WellFormed.{Context, FitsWords, FitsExpr, FitsExprs}
use Rattle.hx_lowered.proofs.Fine.{spot_of, Sits, OpensNone, fine_none, Knows, private_known, Part, part_and, sits_at, word_part, next_sits}

-- an expression leaves room for its value
pub room_expr : (c : Context) (h : ℕ) (e : Expr) → FitsExpr c h e → h < OPERAND_LIMIT
room_expr c h (resolved.Number n) f = f
room_expr c h (resolved.Private k) f = f.0
room_expr c h (resolved.Word a) f = f.0
room_expr c h (resolved.Element words at e) f = room_expr c h e f.1
room_expr c h (resolved.Call g at es) f = f.0
room_expr c h (resolved.Unary op e) f = room_expr c h e f
room_expr c h (resolved.Binary (Strict op) at l r) f = room_expr c h l f.0
room_expr c h (resolved.Binary And at l r) f = room_expr c h l f.0
room_expr c h (resolved.Binary Or at l r) f = room_expr c h l f.0
room_expr c h (resolved.Conditional t x y) f = room_expr c h t f.0

pub room_exprs : (c : Context) (h : ℕ) (es : Exprs) → h ≤ OPERAND_LIMIT → FitsExprs c h es → h + count es ≤ OPERAND_LIMIT
room_exprs c h resolved.no_exprs le f = omega arith
room_exprs c h (resolved.expr_and e es) le f = omega (arith, room_exprs c (h + 1) es (omega (arith, room_expr c h e f.0)) f.1)

module _ (code : CodeView) (c : Context) (v : Version) (knows : Knows code c v) where
  word : (h k : ℕ) (w : Word) (lines : List Line) (r : ℕ) → Has code (put v h w lines) → OpensNone w → h ≤ OPERAND_LIMIT
      → NamesKnown code w (spot_of v h) → StandsRight w (spot_of v h) → pops code w ≤ h → h - pops code w + pushes w ≡ k
      → AllByRecursion (λ t. Sits code v t k) (successors (length lines) w) → Part code v lines h (put v h w lines) r r
  word = word_part code c v knows

  -- a private word, or its cell
  pub get_part : (h j : ℕ) (lines : List Line) (r : ℕ) → Has code (put v h (get_private v j) lines) → h < OPERAND_LIMIT → j < c.privates
      → Sits code v (length (put v h (get_private v j) lines)) (h + 1) → Part code v lines h (put v h (get_private v j) lines) r r
  get_part h j lines r has low inside end = go (cell_of v.carried j) refl has end
    where
      go : (o : Option ℕ) → cell_of v.carried j ≡ o → Has code (put v h (get_at o v.globals j) lines)
          → Sits code v (length (put v h (get_at o v.globals j) lines)) (h + 1) → Part code v lines h (put v h (get_at o v.globals j) lines) r r
      go None e has end =
          word h (h + 1) (Priv j) lines r has tt (omega arith) (private_known code c v knows j inside) tt (omega arith) (omega arith) (next_sits code c v knows h (h + 1) (Priv j) lines end, tt)
      go (Some cell) e has end =
          word h (h + 1) (Glob (v.globals + cell)) lines r has tt (omega arith) (omega (arith, knows.cells j cell e, knows.same_globals, knows.globals_are)) tt (omega arith) (omega arith)
          (next_sits code c v knows h (h + 1) (Glob (v.globals + cell)) lines end, tt)

  pub set_part : (j : ℕ) (lines : List Line) (r : ℕ) → Has code (put v 1 (set_private v j) lines) → j < c.privates
      → Sits code v (length (put v 1 (set_private v j) lines)) 0 → Part code v lines 1 (put v 1 (set_private v j) lines) r r
  set_part j lines r has inside end = go (cell_of v.carried j) refl has end
    where
      go : (o : Option ℕ) → cell_of v.carried j ≡ o → Has code (put v 1 (set_at o v.globals j) lines)
          → Sits code v (length (put v 1 (set_at o v.globals j) lines)) 0 → Part code v lines 1 (put v 1 (set_at o v.globals j) lines) r r
      go None e has end =
          word 1 0 (SetPriv j) lines r has tt (omega arith) (private_known code c v knows j inside) tt (omega arith) (omega arith) (next_sits code c v knows 1 0 (SetPriv j) lines end, tt)
      go (Some cell) e has end =
          word 1 0 (SetGlob (v.globals + cell)) lines r has tt (omega arith) (omega (arith, knows.cells j cell e, knows.same_globals, knows.globals_are)) tt (omega arith) (omega arith)
          (next_sits code c v knows 1 0 (SetGlob (v.globals + cell)) lines end, tt)

  -- a word that leads to the next place
  pub next_part : (h k : ℕ) (w : Word) (lines : List Line) (r : ℕ) → Has code (put v h w lines) → OpensNone w → h ≤ OPERAND_LIMIT
      → NamesKnown code w (spot_of v h) → StandsRight w (spot_of v h) → pops code w ≤ h → h - pops code w + pushes w ≡ k
      → successors (length lines) w ≡ (length lines + 1) ∷ []
      → Sits code v (length (put v h w lines)) k → Part code v lines h (put v h w lines) r r
  next_part h k w lines r has plain low names stands room next leads end =
      word h k w lines r has plain low names stands room next (subst (λ ts. AllByRecursion (λ t. Sits code v t k) ts) (sym leads) (next_sits code c v knows h k w lines end, tt))

  pub array_known : (words : Words) → FitsWords c words → IsArray code (array_of words)
  array_known words f = let a : words.base + words.length ≤ code.globals = omega (arith, f.1, knows.globals_are) in (f.0, a)

  pub word_known : (a : ℕ) → a < c.globals → a < code.globals + CELL_LIMIT
  word_known a l = omega (arith, knows.globals_are)

  -- the function is in the table, with so many parameters
  pub called : (f n : ℕ) → slice_get c.parameters f ≡ Some n → (f < length code.functions) × (parameters_of (slice_get code.functions f) ≡ n)
  called f n e = go (slice_get code.functions f) refl
      (sym (slice_get-map (λ (g : FuncView). g.parameters) code.functions f) ∙ ap (λ ps. slice_get ps f) knows.counts ∙ e)
    where
      go : (o : Option FuncView) → slice_get code.functions f ≡ o → option_map (λ (g : FuncView). g.parameters) o ≡ Some n → (f < length code.functions) × (parameters_of o ≡ n)
      go None is h = absurd cc
      go (Some g) is h = (slice_get_within code.functions f g is, cc)

  -- a call, behind its arguments
  pub call_part : (h f n : ℕ) (at : Pos) (lines : List Line) (r : ℕ) → Has code (put v (h + n) (Call f at) lines) → h + n ≤ OPERAND_LIMIT → slice_get c.parameters f ≡ Some n
      → Sits code v (length (put v (h + n) (Call f at) lines)) (h + 1) → Part code v lines (h + n) (put v (h + n) (Call f at) lines) r r
  call_part h f n at lines r has low e end =
      let found = called f n e in
      next_part (h + n) (h + 1) (Call f at) lines r has tt low found.0 tt (omega (arith, found.1)) (omega (arith, found.1)) refl end

  mutual
    pub expr_part : (e : Expr) (h : ℕ) (lines : List Line) (r : ℕ) → FitsExpr c h e → Has code (expr_lines e v h lines)
        → Sits code v (length (expr_lines e v h lines)) (h + 1) → Part code v lines h (expr_lines e v h lines) r r
    expr_part (resolved.Number n) h lines r f has end = next_part h (h + 1) (Const (pos n)) lines r has tt (omega (arith, f)) tt tt (omega arith) (omega arith) refl end
    expr_part (resolved.Private k) h lines r f has end = get_part h k lines r has f.0 f.1 end
    expr_part (resolved.Word a) h lines r f has end = next_part h (h + 1) (Glob a) lines r has tt (omega (arith, f.0)) (word_known a f.1) tt (omega arith) (omega arith) refl end
    expr_part (resolved.Element words at e) h lines r f has end =
        let before = expr_lines e v h lines in
        let low : h + 1 ≤ OPERAND_LIMIT = omega (arith, room_expr c h e f.1) in
        let p = next_part (h + 1) (h + 1) (Elem (array_of words) at) before r has tt low (array_known words f.0) tt (omega arith) (omega arith) refl end in
        part_and code v lines h before (h + 1) _ r r r (expr_part e h lines r f.1 (has_before code v (h + 1) _ before has) p.begins) p
    expr_part (resolved.Call g at es) h lines r f has end =
        let before = exprs_lines es v h lines in
        let low : h + count es ≤ OPERAND_LIMIT = room_exprs c h es (omega (arith, f.0)) f.2 in
        let p = call_part h g (count es) at before r has low f.1 end in
        let q = exprs_part es h lines r f.2 (has_before code v (h + count es) _ before has) p.begins in
        part_and code v lines h before (h + count es) _ r r r q p
    expr_part (resolved.Unary op e) h lines r f has end =
        let before = expr_lines e v h lines in
        let low : h + 1 ≤ OPERAND_LIMIT = omega (arith, room_expr c h e f) in
        let p = next_part (h + 1) (h + 1) (Unary op) before r has tt low tt tt (omega arith) (omega arith) refl end in
        part_and code v lines h before (h + 1) _ r r r (expr_part e h lines r f (has_before code v (h + 1) _ before has) p.begins) p
    expr_part (resolved.Binary (Strict op) at l r) h lines n f has end =
        let a = expr_lines l v h lines in
        let b = expr_lines r v (h + 1) a in
        let low : h + 2 ≤ OPERAND_LIMIT = omega (arith, room_expr c (h + 1) r f.1) in
        let p = next_part (h + 2) (h + 1) (Binary op at) b n has tt low tt tt (omega arith) (omega arith) refl end in
        let has_b = has_before code v (h + 2) _ b has in
        let q = expr_part r (h + 1) a n f.1 has_b (sits_at code v _ _ (h + 2) (h + 1 + 1) refl (omega arith) p.begins) in
        let o = expr_part l h lines n f.0 (has_expr code r v (h + 1) a has_b) q.begins in
        part_and code v lines h b (h + 2) _ n n n (part_and code v lines h a (h + 1) b n n n o q) p
    expr_part (resolved.Binary And at l r) h lines n f has end =
        let to = length lines + expr_size l + 1 + expr_size r + 3 in
        let a = expr_lines l v h lines in
        let b = put v (h + 1) (JumpFalse to) a in
        let d = expr_lines r v h b in
        let e = put v (h + 1) (JumpFalse to) d in
        let g = put v h (Const (pos 1)) e in
        let i = put v (h + 1) (Jump (to + 1)) g in
        let has_i = has_before code v h _ i has in
        let has_g = has_before code v (h + 1) _ g has_i in
        let has_e = has_before code v h _ e has_g in
        let has_d = has_before code v (h + 1) _ d has_e in
        let has_b = has_expr code r v h b has_d in
        let has_a = has_before code v (h + 1) _ a has_b in
        let low : h + 1 ≤ OPERAND_LIMIT = omega (arith, room_expr c h l f.0) in
        let la = length-expr l v h lines in
        let lb = length-put v (h + 1) (JumpFalse to) a in
        let ld = length-expr r v h b in
        let le = length-put v (h + 1) (JumpFalse to) d in
        let lg = length-put v h (Const (pos 1)) e in
        let li = length-put v (h + 1) (Jump (to + 1)) g in
        let lj = length-put v h (Const (pos 0)) i in
        let at_i : length i ≡ to = omega (arith, la, lb, ld, le, lg, li) in
        let at_j : length (put v h (Const (pos 0)) i) ≡ to + 1 = omega (arith, la, lb, ld, le, lg, li, lj) in
        let part_i = next_part h (h + 1) (Const (pos 0)) i n has tt (omega arith) tt tt (omega arith) (omega arith) refl end in
        let part_g = word (h + 1) (h + 1) (Jump (to + 1)) g n has_i tt low tt tt (omega arith) (omega arith) (sits_at code v _ _ _ _ at_j refl end, tt) in
        let part_e = next_part h (h + 1) (Const (pos 1)) e n has_g tt (omega arith) tt tt (omega arith) (omega arith) refl part_g.begins in
        let zero_sits = sits_at code v _ _ _ _ at_i refl part_i.begins in
        let part_d = word (h + 1) h (JumpFalse to) d n has_e tt low tt tt (omega arith) (omega arith) (zero_sits, (next_sits code c v knows (h + 1) h (JumpFalse to) d part_e.begins, tt)) in
        let part_b = expr_part r h b n f.1 has_d part_d.begins in
        let part_a = word (h + 1) h (JumpFalse to) a n has_b tt low tt tt (omega arith) (omega arith) (zero_sits, (next_sits code c v knows (h + 1) h (JumpFalse to) a part_b.begins, tt)) in
        let part = expr_part l h lines n f.0 has_a part_a.begins in
        part_and code v lines h a (h + 1) _ n n n part (part_and code v a (h + 1) b h _ n n n part_a (part_and code v b h d (h + 1) _ n n n part_b
        (part_and code v d (h + 1) e h _ n n n part_d (part_and code v e h g (h + 1) _ n n n part_e (part_and code v g (h + 1) i h _ n n n part_g part_i)))))
    expr_part (resolved.Binary Or at l r) h lines n f has end =
        let to = length lines + expr_size l + 1 + expr_size r + 3 in
        let a = expr_lines l v h lines in
        let b = put v (h + 1) (JumpTrue to) a in
        let d = expr_lines r v h b in
        let e = put v (h + 1) (JumpTrue to) d in
        let g = put v h (Const (pos 0)) e in
        let i = put v (h + 1) (Jump (to + 1)) g in
        let has_i = has_before code v h _ i has in
        let has_g = has_before code v (h + 1) _ g has_i in
        let has_e = has_before code v h _ e has_g in
        let has_d = has_before code v (h + 1) _ d has_e in
        let has_b = has_expr code r v h b has_d in
        let has_a = has_before code v (h + 1) _ a has_b in
        let low : h + 1 ≤ OPERAND_LIMIT = omega (arith, room_expr c h l f.0) in
        let la = length-expr l v h lines in
        let lb = length-put v (h + 1) (JumpTrue to) a in
        let ld = length-expr r v h b in
        let le = length-put v (h + 1) (JumpTrue to) d in
        let lg = length-put v h (Const (pos 0)) e in
        let li = length-put v (h + 1) (Jump (to + 1)) g in
        let lj = length-put v h (Const (pos 1)) i in
        let at_i : length i ≡ to = omega (arith, la, lb, ld, le, lg, li) in
        let at_j : length (put v h (Const (pos 1)) i) ≡ to + 1 = omega (arith, la, lb, ld, le, lg, li, lj) in
        let part_i = next_part h (h + 1) (Const (pos 1)) i n has tt (omega arith) tt tt (omega arith) (omega arith) refl end in
        let part_g = word (h + 1) (h + 1) (Jump (to + 1)) g n has_i tt low tt tt (omega arith) (omega arith) (sits_at code v _ _ _ _ at_j refl end, tt) in
        let part_e = next_part h (h + 1) (Const (pos 0)) e n has_g tt (omega arith) tt tt (omega arith) (omega arith) refl part_g.begins in
        let one_sits = sits_at code v _ _ _ _ at_i refl part_i.begins in
        let part_d = word (h + 1) h (JumpTrue to) d n has_e tt low tt tt (omega arith) (omega arith) (one_sits, (next_sits code c v knows (h + 1) h (JumpTrue to) d part_e.begins, tt)) in
        let part_b = expr_part r h b n f.1 has_d part_d.begins in
        let part_a = word (h + 1) h (JumpTrue to) a n has_b tt low tt tt (omega arith) (omega arith) (one_sits, (next_sits code c v knows (h + 1) h (JumpTrue to) a part_b.begins, tt)) in
        let part = expr_part l h lines n f.0 has_a part_a.begins in
        part_and code v lines h a (h + 1) _ n n n part (part_and code v a (h + 1) b h _ n n n part_a (part_and code v b h d (h + 1) _ n n n part_b
        (part_and code v d (h + 1) e h _ n n n part_d (part_and code v e h g (h + 1) _ n n n part_e (part_and code v g (h + 1) i h _ n n n part_g part_i)))))
    expr_part (resolved.Conditional t x y) h lines n f has end =
        let other_at = length lines + expr_size t + 1 + expr_size x + 1 in
        let behind = other_at + expr_size y in
        let a = expr_lines t v h lines in
        let b = put v (h + 1) (JumpFalse other_at) a in
        let d = expr_lines x v h b in
        let e = put v (h + 1) (Jump behind) d in
        let has_e = has_expr code y v h e has in
        let has_d = has_before code v (h + 1) _ d has_e in
        let has_b = has_expr code x v h b has_d in
        let has_a = has_before code v (h + 1) _ a has_b in
        let low : h + 1 ≤ OPERAND_LIMIT = omega (arith, room_expr c h t f.0) in
        let la = length-expr t v h lines in
        let lb = length-put v (h + 1) (JumpFalse other_at) a in
        let ld = length-expr x v h b in
        let le = length-put v (h + 1) (Jump behind) d in
        let lf = length-expr y v h e in
        let at_other : length e ≡ other_at = omega (arith, la, lb, ld, le) in
        let at_end : length (expr_lines y v h e) ≡ behind = omega (arith, at_other, lf) in
        let part_y = expr_part y h e n f.2 has end in
        let part_d = word (h + 1) (h + 1) (Jump behind) d n has_e tt low tt tt (omega arith) (omega arith) (sits_at code v _ _ _ _ at_end refl end, tt) in
        let part_x = expr_part x h b n f.1 has_d part_d.begins in
        let part_a = word (h + 1) h (JumpFalse other_at) a n has_b tt low tt tt (omega arith) (omega arith)
        (sits_at code v _ _ _ _ at_other refl part_y.begins, (next_sits code c v knows (h + 1) h (JumpFalse other_at) a part_x.begins, tt)) in
        let part = expr_part t h lines n f.0 has_a part_a.begins in
        part_and code v lines h a (h + 1) _ n n n part (part_and code v a (h + 1) b h _ n n n part_a
        (part_and code v b h d (h + 1) _ n n n part_x (part_and code v d (h + 1) e h _ n n n part_d part_y)))

    pub exprs_part : (es : Exprs) (h : ℕ) (lines : List Line) (r : ℕ) → FitsExprs c h es → Has code (exprs_lines es v h lines)
        → Sits code v (length (exprs_lines es v h lines)) (h + count es) → Part code v lines h (exprs_lines es v h lines) r r
    exprs_part resolved.no_exprs h lines r f has end = record { fine = fine_none code (length lines) r; begins = sits_at code v _ _ (h + 0) h refl (omega arith) end }
    exprs_part (resolved.expr_and e es) h lines r f has end =
        let a = expr_lines e v h lines in
        let p = exprs_part es (h + 1) a r f.1 has (sits_at code v _ _ (h + (count es + 1)) (h + 1 + count es) refl (omega arith) end) in
        let q = expr_part e h lines r f.0 (has_exprs code es v (h + 1) a has) p.begins in
        part_and code v lines h a (h + 1) _ r r r q p
