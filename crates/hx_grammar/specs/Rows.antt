-- Worked rows: the tokens of two sources are read as their trees; what no program begins with is refused, and so is what is too deep.
use Rattle.std.specs.Prelude.{ℕ, List, Result, ◌≡◌, ◌-◌, ◌++◌, [], ◌∷◌, refl, Ok, Err}
use Rattle.hx_tree.specs.declared.limits.TheConstants.{HEIGHT_LIMIT}
use Rattle.hx_tree.specs.declared.token.Mark.TheVariants as mark
use Rattle.hx_tree.specs.Tree.{Program}
use Rattle.hx_tree.specs.Lexis.{Token, MarkToken, tokens_of, first_place}
use Rattle.hx_tree.specs.SpelledRows.{small_pieces, small_tree, large_pieces, large_tree}
use Rattle.hx_grammar.specs.Reading.{Refusal, Syntax, TooDeep, behind, many, operator_at, arguments_at, named_at, unary_at, marked_at, operand_at, chain, chained_at, arms_at, question_at, expr_at, in_parens_at, optional_at, local_at, locals_at, place_at, update_at, updated_at, assigned_at, assignment_at, init_at, for_clauses_at, part_at, parts_at, block_at, named_stmt_at, print_at, emit_at, else_at, if_at, while_at, do_at, for_at, break_at, continue_at, return_at, marked_stmt_at, stmt_with, stmt_at, constant_at, values_at, shape_at, global_at, globals_at, param_at, params_at, function_at, int_item_at, void_item_at, item_at, program_at}

-- opens all readings at once
all_readings : ℕ → List Token → Result Program Refusal
unfolding behind many operator_at arguments_at named_at unary_at marked_at operand_at chain chained_at arms_at question_at expr_at in_parens_at optional_at local_at locals_at place_at update_at updated_at assigned_at assignment_at init_at for_clauses_at part_at parts_at block_at named_stmt_at print_at emit_at else_at if_at while_at do_at for_at break_at continue_at return_at marked_stmt_at stmt_with stmt_at constant_at values_at shape_at global_at globals_at param_at params_at function_at int_item_at void_item_at item_at program_at
all_readings = program_at

pub small-reads : program_at (HEIGHT_LIMIT - 3) (tokens_of first_place small_pieces) ≡ Ok small_tree
unfolding all_readings
small-reads = refl

pub large-reads : program_at (HEIGHT_LIMIT - 3) (tokens_of first_place large_pieces) ≡ Ok large_tree
unfolding all_readings
large-reads = refl

pub large-is-too-deep : program_at 3 (tokens_of first_place large_pieces) ≡ Err TooDeep
unfolding all_readings
large-is-too-deep = refl

-- a token behind the last item
pub trailing-is-refused : program_at (HEIGHT_LIMIT - 3) (tokens_of first_place small_pieces ++ MarkToken mark.CloseBrace first_place ∷ []) ≡ Err Syntax
unfolding all_readings
trailing-is-refused = refl

-- a function's parameters and body are there
pub half-is-refused : program_at (HEIGHT_LIMIT - 3) (MarkToken mark.Void first_place ∷ []) ≡ Err Syntax
unfolding all_readings
half-is-refused = refl

-- no token at all is a program without items
pub nothing-reads : program_at (HEIGHT_LIMIT - 3) [] ≡ Ok (record { items = [] })
unfolding all_readings
nothing-reads = refl
