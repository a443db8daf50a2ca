-- The words of an operator beside its operands.
use Rattle.std.specs.Prelude.{ℕ}
use Rattle.hx_tree.specs.declared.tree.BinaryOp.{BinaryOp}
use Rattle.hx_tree.specs.declared.tree.BinaryOp.TheVariants.{Strict, And, Or}

abbrev pub binary_words : BinaryOp → ℕ
binary_words (Strict op) = 1
binary_words And = 5
binary_words Or = 5
