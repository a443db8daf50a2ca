-- The listing of code: a line for the globals, one for each function and each region, and one for each word. Each definition
-- puts a part behind a text.
use Rattle.std.specs.Prelude.{ℕ, ◌+◌, ℤ, List, [], ◌∷◌, ◌++◌, codes, decimal, Option, Some, None}
use Rattle.std.specs.Fmt.{signed_decimal}
use Rattle.hx_tree.specs.declared.token.Pos.{Pos}
use Rattle.hx_tree.specs.declared.tree.UnaryOp.{UnaryOp}
use Rattle.hx_tree.specs.declared.tree.UnaryOp.TheVariants as unary
use Rattle.hx_tree.specs.declared.tree.Operator.{Operator}
use Rattle.hx_tree.specs.declared.tree.Operator.TheVariants as operator
use Rattle.hx_code.specs.declared.word.Array.{Array}
use Rattle.hx_code.specs.declared.word.Word.{Word}
use Rattle.hx_code.specs.declared.word.Word.TheVariants as word
use Rattle.hx_code.specs.declared.table.Carried.{Carried}
use Rattle.hx_code.specs.declared.table.Induct.{Induct}
use Rattle.hx_code.specs.Code.{FuncView, RegionView, CodeView}

-- ---- parts of a line

-- a space, and a number in decimal
abbrev pub number_behind : ℕ → List ℕ → List ℕ
number_behind n text = (text ++ codes " ") ++ decimal n

abbrev pub signed_behind : ℤ → List ℕ → List ℕ
signed_behind z text = (text ++ codes " ") ++ signed_decimal z

abbrev pub line_end : List ℕ → List ℕ
line_end text = text ++ 10 ∷ []

abbrev pub place_behind : Pos → List ℕ → List ℕ
place_behind at text = number_behind at.col (number_behind at.line text)

-- ---- words

abbrev pub unary_name : UnaryOp → List ℕ
unary_name unary.Negate = codes "neg"
unary_name unary.Not = codes "not"
unary_name unary.Invert = codes "inv"

abbrev pub operator_name : Operator → List ℕ
operator_name operator.Mul = codes "mul"
operator_name operator.Div = codes "div"
operator_name operator.Rem = codes "rem"
operator_name operator.Add = codes "add"
operator_name operator.Sub = codes "sub"
operator_name operator.ShiftLeft = codes "shl"
operator_name operator.ShiftRight = codes "shr"
operator_name operator.Less = codes "lt"
operator_name operator.LessEqual = codes "le"
operator_name operator.Greater = codes "gt"
operator_name operator.GreaterEqual = codes "ge"
operator_name operator.Equal = codes "eq"
operator_name operator.NotEqual = codes "ne"
operator_name operator.BitAnd = codes "and"
operator_name operator.BitXor = codes "xor"
operator_name operator.BitOr = codes "or"

abbrev pub word_name : Word → List ℕ
word_name (word.Const n) = codes "const"
word_name (word.Priv k) = codes "priv"
word_name (word.SetPriv k) = codes "setpriv"
word_name (word.Glob a) = codes "glob"
word_name (word.SetGlob a) = codes "setglob"
word_name (word.Elem a at) = codes "elem"
word_name (word.SetElem a at) = codes "setelem"
word_name word.Dup = codes "dup"
word_name word.Drop = codes "drop"
word_name (word.Unary op) = unary_name op
word_name (word.Binary op at) = operator_name op
word_name (word.Jump t) = codes "jump"
word_name (word.JumpFalse t) = codes "jfalse"
word_name (word.JumpTrue t) = codes "jtrue"
word_name (word.Call f at) = codes "call"
word_name word.Ret = codes "ret"
word_name (word.Print at) = codes "print"
word_name (word.Emit at) = codes "emit"
word_name (word.Enter r t) = codes "enter"
word_name word.Turn = codes "turn"
word_name word.Leave = codes "leave"

abbrev pub array_behind : Array → Pos → List ℕ → List ℕ
array_behind a at text = place_behind at (number_behind a.length (number_behind a.base text))

-- an operator that may end with a fault has its place
abbrev pub operator_behind : Operator → Pos → List ℕ → List ℕ
operator_behind operator.Div at text = place_behind at text
operator_behind operator.Rem at text = place_behind at text
operator_behind _ at text = text

abbrev pub operands_behind : Word → List ℕ → List ℕ
operands_behind (word.Const n) text = signed_behind n text
operands_behind (word.Priv k) text = number_behind k text
operands_behind (word.SetPriv k) text = number_behind k text
operands_behind (word.Glob a) text = number_behind a text
operands_behind (word.SetGlob a) text = number_behind a text
operands_behind (word.Elem a at) text = array_behind a at text
operands_behind (word.SetElem a at) text = array_behind a at text
operands_behind word.Dup text = text
operands_behind word.Drop text = text
operands_behind (word.Unary op) text = text
operands_behind (word.Binary op at) text = operator_behind op at text
operands_behind (word.Jump t) text = number_behind t text
operands_behind (word.JumpFalse t) text = number_behind t text
operands_behind (word.JumpTrue t) text = number_behind t text
operands_behind (word.Call f at) text = place_behind at (number_behind f text)
operands_behind word.Ret text = text
operands_behind (word.Print at) text = place_behind at text
operands_behind (word.Emit at) text = place_behind at text
operands_behind (word.Enter r t) text = number_behind t (number_behind r text)
operands_behind word.Turn text = text
operands_behind word.Leave text = text

-- a word with its place among the words
abbrev pub word_behind : ℕ → Word → List ℕ → List ℕ
word_behind i w text = line_end (operands_behind w (((text ++ decimal i) ++ codes " ") ++ word_name w))

abbrev pub words_behind : List Word → ℕ → List ℕ → List ℕ
words_behind [] i text = text
words_behind (w ∷ ws) i text = words_behind ws (i + 1) (word_behind i w text)

-- ---- functions and regions

abbrev pub function_behind : FuncView → List ℕ → List ℕ
function_behind f text =
    line_end (number_behind f.privates (number_behind f.parameters (number_behind f.entry ((text ++ codes "func ") ++ f.name))))

abbrev pub functions_behind : List FuncView → List ℕ → List ℕ
functions_behind [] text = text
functions_behind (f ∷ fs) text = functions_behind fs (function_behind f text)

-- a private word and its cell
abbrev pub carried_behind : List Carried → List ℕ → List ℕ
carried_behind [] text = text
carried_behind (c ∷ cs) text = carried_behind cs ((number_behind c.private text ++ codes "=") ++ decimal c.cell)

abbrev pub copied_behind : List ℕ → List ℕ → List ℕ
copied_behind [] text = text
copied_behind (k ∷ ks) text = copied_behind ks (number_behind k text)

-- the counter's private word and its step, where there is one
abbrev pub induct_behind : Option Induct → List ℕ → List ℕ
induct_behind None text = text
induct_behind (Some i) text = signed_behind i.step (number_behind i.private (text ++ codes " induct"))

abbrev pub region_behind : RegionView → List ℕ → List ℕ
region_behind r text =
    line_end (induct_behind r.induct (copied_behind r.copied (carried_behind r.carried (number_behind r.exit (number_behind r.start (text ++ codes "region"))
    ++ codes " carried") ++ codes " copied")))

abbrev pub regions_behind : List RegionView → List ℕ → List ℕ
regions_behind [] text = text
regions_behind (r ∷ rs) text = regions_behind rs (region_behind r text)

-- ---- THE listing

abbrev pub listing_of : CodeView → List ℕ
listing_of code =
    words_behind code.words 0 (regions_behind code.regions (functions_behind code.functions
    (line_end (number_behind code.globals (codes "globals")))))
