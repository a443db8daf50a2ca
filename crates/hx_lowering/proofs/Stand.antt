-- Words that stand in code.
use Rattle.std.proofs.Common.{◌≡◌, ℕ, ◌+◌, List, [], ◌∷◌, ◌++◌, length, map, Some, pos, refl, ap, ◌∙◌, arith, length-append, append_assoc}
use Rattle.std.specs.Prelude.{slice_get, option_map}
use Rattle.std.proofs.lemmas.Option.{slice_get-map}
use Rattle.hx_tree.specs.declared.tree.BinaryOp.TheVariants.{Strict, And, Or}
use Rattle.hx_resolved.specs.Resolved as resolved
use Rattle.hx_resolved.specs.Resolved.{Expr, Exprs, Assignment, Simple}
use Rattle.hx_code.specs.declared.word.Word.{Word}
use Rattle.hx_code.specs.declared.word.Word.TheVariants.{Const, Elem, Unary, Binary, Jump, JumpFalse, JumpTrue, Call}
use Rattle.hx_code.specs.declared.table.Spot.{Spot}
use Rattle.hx_code.specs.Code.{CodeView}
use Rattle.hx_lowering.specs.declared.line.Line.{Line}
use Rattle.hx_lowering.specs.Size.{expr_size, exprs_size}
use Rattle.hx_lowering.specs.Lines.{Version, put, array_of, count, expr_lines, exprs_lines}

abbrev pub words_of : List Line → List Word
words_of lines = map (λ (line : Line). line.word) lines

abbrev pub spots_of : List Line → List Spot
spots_of lines = map (λ (line : Line). line.spot) lines

-- the code begins with these lines
pub record Has (code : CodeView) (lines : List Line) : Type 0 where
  pub behind : List Line
  pub words : code.words ≡ words_of (lines ++ behind)
  pub spots : code.spots ≡ spots_of (lines ++ behind)

seam : (lines : List Line) (x : Line) (behind : List Line) → slice_get ((lines ++ x ∷ []) ++ behind) (length lines) ≡ Some x
seam [] x behind = refl
seam (y ∷ lines) x behind = seam lines x behind

module _ (code : CodeView) where
  -- the code begins with the lines before a word
  pub has_before : (v : Version) (h : ℕ) (w : Word) (lines : List Line) → Has code (put v h w lines) → Has code lines
  has_before v h w lines has = record {
    behind = _ ∷ has.behind;
    words = has.words ∙ ap words_of (append_assoc lines _ has.behind);
    spots = has.spots ∙ ap spots_of (append_assoc lines _ has.behind);
  }

  pub word_stands : (v : Version) (h : ℕ) (w : Word) (lines : List Line) → Has code (put v h w lines) → slice_get code.words (length lines) ≡ Some w
  word_stands v h w lines has =
      ap (λ ws. slice_get ws (length lines)) has.words
      ∙ slice_get-map (λ (line : Line). line.word) (put v h w lines ++ has.behind) (length lines)
      ∙ ap (option_map (λ (line : Line). line.word)) (seam lines _ has.behind)

  pub spot_stands : (v : Version) (h : ℕ) (w : Word) (lines : List Line) → Has code (put v h w lines) → slice_get code.spots (length lines) ≡ Some (record { function = v.function; region = v.region; height = h })
  spot_stands v h w lines has =
      ap (λ ws. slice_get ws (length lines)) has.spots
      ∙ slice_get-map (λ (line : Line). line.spot) (put v h w lines ++ has.behind) (length lines)
      ∙ ap (option_map (λ (line : Line). line.spot)) (seam lines _ has.behind)

  mutual
    pub has_expr : (e : Expr) (v : Version) (h : ℕ) (lines : List Line) → Has code (expr_lines e v h lines) → Has code lines
    has_expr (resolved.Number n) v h lines has = has_before v h _ lines has
    has_expr (resolved.Private k) v h lines has = has_before v h _ lines has
    has_expr (resolved.Word a) v h lines has = has_before v h _ lines has
    has_expr (resolved.Element words at e) v h lines has = has_expr e v h lines (has_before v (h + 1) _ _ has)
    has_expr (resolved.Call f at es) v h lines has = has_exprs es v h lines (has_before v (h + count es) _ _ has)
    has_expr (resolved.Unary op e) v h lines has = has_expr e v h lines (has_before v (h + 1) _ _ has)
    has_expr (resolved.Binary (Strict op) at l r) v h lines has = has_expr l v h lines (has_expr r v (h + 1) _ (has_before v (h + 2) _ _ has))
    has_expr (resolved.Binary And at l r) v h lines has =
        has_expr l v h lines (has_before v (h + 1) _ _ (has_expr r v h _ (has_before v (h + 1) _ _ (has_before v h _ _ (has_before v (h + 1) _ _ (has_before v h _ _ has))))))
    has_expr (resolved.Binary Or at l r) v h lines has =
        has_expr l v h lines (has_before v (h + 1) _ _ (has_expr r v h _ (has_before v (h + 1) _ _ (has_before v h _ _ (has_before v (h + 1) _ _ (has_before v h _ _ has))))))
    has_expr (resolved.Conditional c a b) v h lines has =
        has_expr c v h lines (has_before v (h + 1) _ _ (has_expr a v h _ (has_before v (h + 1) _ _ (has_expr b v h _ has))))

    pub has_exprs : (es : Exprs) (v : Version) (h : ℕ) (lines : List Line) → Has code (exprs_lines es v h lines) → Has code lines
    has_exprs resolved.no_exprs v h lines has = has
    has_exprs (resolved.expr_and e es) v h lines has = has_expr e v h lines (has_exprs es v (h + 1) _ has)

pub length-put : (v : Version) (h : ℕ) (w : Word) (lines : List Line) → length (put v h w lines) ≡ length lines + 1
length-put v h w lines = length-append lines _

mutual
  pub length-expr : (e : Expr) (v : Version) (h : ℕ) (lines : List Line) → length (expr_lines e v h lines) ≡ length lines + expr_size e
  length-expr (resolved.Number n) v h lines = length-put v h _ lines
  length-expr (resolved.Private k) v h lines = length-put v h _ lines
  length-expr (resolved.Word a) v h lines = length-put v h _ lines
  length-expr (resolved.Element words at e) v h lines = omega (arith, length-put v (h + 1) (Elem (array_of words) at) (expr_lines e v h lines), length-expr e v h lines)
  length-expr (resolved.Call f at es) v h lines = omega (arith, length-put v (h + count es) (Call f at) (exprs_lines es v h lines), length-exprs es v h lines)
  length-expr (resolved.Unary op e) v h lines = omega (arith, length-put v (h + 1) (Unary op) (expr_lines e v h lines), length-expr e v h lines)
  length-expr (resolved.Binary (Strict op) at l r) v h lines =
      let ls = expr_lines l v h lines in
      let rs = expr_lines r v (h + 1) ls in
      omega (arith, length-put v (h + 2) (Binary op at) rs, length-expr r v (h + 1) ls, length-expr l v h lines)
  length-expr (resolved.Binary And at l r) v h lines =
      let to = length lines + expr_size l + 1 + expr_size r + 3 in
      let a = expr_lines l v h lines in
      let b = put v (h + 1) (JumpFalse to) a in
      let c = expr_lines r v h b in
      let d = put v (h + 1) (JumpFalse to) c in
      let e = put v h (Const (pos 1)) d in
      let f = put v (h + 1) (Jump (to + 1)) e in
      omega (arith, length-expr l v h lines, length-put v (h + 1) (JumpFalse to) a, length-expr r v h b, length-put v (h + 1) (JumpFalse to) c, length-put v h (Const (pos 1)) d, length-put v (h + 1) (Jump (to + 1)) e, length-put v h (Const (pos 0)) f)
  length-expr (resolved.Binary Or at l r) v h lines =
      let to = length lines + expr_size l + 1 + expr_size r + 3 in
      let a = expr_lines l v h lines in
      let b = put v (h + 1) (JumpTrue to) a in
      let c = expr_lines r v h b in
      let d = put v (h + 1) (JumpTrue to) c in
      let e = put v h (Const (pos 0)) d in
      let f = put v (h + 1) (Jump (to + 1)) e in
      omega (arith, length-expr l v h lines, length-put v (h + 1) (JumpTrue to) a, length-expr r v h b, length-put v (h + 1) (JumpTrue to) c, length-put v h (Const (pos 0)) d, length-put v (h + 1) (Jump (to + 1)) e, length-put v h (Const (pos 1)) f)
  length-expr (resolved.Conditional c a b) v h lines =
      let other_at = length lines + expr_size c + 1 + expr_size a + 1 in
      let d = expr_lines c v h lines in
      let e = put v (h + 1) (JumpFalse other_at) d in
      let f = expr_lines a v h e in
      let g = put v (h + 1) (Jump (other_at + expr_size b)) f in
      omega (arith, length-expr c v h lines, length-put v (h + 1) (JumpFalse other_at) d, length-expr a v h e, length-put v (h + 1) (Jump (other_at + expr_size b)) f, length-expr b v h g)

  pub length-exprs : (es : Exprs) (v : Version) (h : ℕ) (lines : List Line) → length (exprs_lines es v h lines) ≡ length lines + exprs_size es
  length-exprs resolved.no_exprs v h lines = omega arith
  length-exprs (resolved.expr_and e es) v h lines = omega (arith, length-exprs es v (h + 1) (expr_lines e v h lines), length-expr e v h lines)
