-- Code of the parts of a draft.
use Rattle.std.proofs.Common.{◌<◌, ◌^◌, ◌∙◌, ap, sym, subst, ◌≡◌, ℕ, List, Option, length, map, option_map}
use Rattle.std.specs.Prelude.{ℤ}
use Rattle.hx_resolved.specs.declared.program.Words.{Words}
use Rattle.hx_code.specs.Code.{CodeView}
use Rattle.hx_lowering.specs.declared.line.Line.{Line}
use Rattle.hx_tree.specs.Tree as tree
use Rattle.hx_tree.specs.Accepted.{IsAccepted}
use Rattle.hx_resolved.specs.Resolved as resolved
use Rattle.hx_resolved.specs.Resolve.{resolve}
use Rattle.hx_code.specs.Valid.{IsValid}
use Rattle.hx_lowered.specs.Lowered.{LoweredCodeIsValid}
use Rattle.hx_lowering.specs.Correct.{Behaves}
use Rattle.hx_lowering.specs.Draft.{Draft, code_of}
use Rattle.hx_lowering.specs.Laws.{CodeBehaves}
use Rattle.hx_lowering.specs.Lines.{array_of}

abbrev pub code_from : Draft → List ℤ → ℕ → Option Words → Option ℕ → CodeView
code_from d opening main input input_length =
    record {
      words = map (λ (line : Line). line.word) d.lines;
      spots = map (λ (line : Line). line.spot) d.lines;
      functions = d.functions;
      regions = d.regions;
      globals = length opening;
      opening = opening;
      main = main;
      input = option_map array_of input;
      input_length = input_length;
    }

pub assembled : (d d' : Draft) (opening : List ℤ) (main : ℕ) (input : Option Words) (input_length : Option ℕ) (code : CodeView)
    → d ≡ d'
    → code.words ≡ map (λ (line : Line). line.word) d.lines
    → code.spots ≡ map (λ (line : Line). line.spot) d.lines
    → code.functions ≡ d.functions
    → code.regions ≡ d.regions
    → code.globals ≡ length opening
    → code.opening ≡ opening
    → code.main ≡ main
    → code.input ≡ option_map array_of input
    → code.input_length ≡ input_length
    → code ≡ code_from d' opening main input input_length
assembled d d' opening main input input_length code drafted words spots functions regions globals opens mains inputs lengths =
    let same : record {
      words = code.words;
      spots = code.spots;
      functions = code.functions;
      regions = code.regions;
      globals = code.globals;
      opening = code.opening;
      main = code.main;
      input = code.input;
      input_length = code.input_length;
    } ≡ code_from d opening main input input_length = rw (words, spots, functions, regions, globals, opens, mains, inputs, lengths) in
    rw (← drafted) same

-- code of the words of an accepted program is valid, where there are few enough
pub is_valid : LoweredCodeIsValid → (p : tree.Program) (q : resolved.Program) (code : CodeView)
    → IsAccepted p → q ≡ resolve p → code ≡ code_of q → length code.words < 2 ^ 32 → IsValid code
is_valid law p q code accepted same is few =
    let all : code ≡ code_of (resolve p) = is ∙ ap code_of same in
    subst IsValid (sym all) (law p accepted (subst (λ (c : CodeView). length c.words < 2 ^ 32) all few))

-- the code of a program does what the program means
pub does : CodeBehaves → (p : tree.Program) (q : resolved.Program) (code : CodeView)
    → IsAccepted p → q ≡ resolve p → code ≡ code_of q → Behaves p code
does law p q code accepted same is =
    let all : code ≡ code_of (resolve p) = is ∙ ap code_of same in
    subst (Behaves p) (sym all) (law p accepted)
