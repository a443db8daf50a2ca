-- The words of functions keep the rules, and so does the code of a well-formed program.
use Rattle.std.proofs.Common.{false, inl, inr, ◌≡◌, ℕ, ◌+◌, ◌≤◌, ◌<◌, ◌^◌, List, [], ◌∷◌, ◌++◌, length, map, get_or, Option, Some, None, pos, refl, sym, ap, subst, ◌∙◌, arith, length-append, append_assoc, append-nil}
use Rattle.std.specs.Prelude.{slice_get, option_map}
use Rattle.std.specs.List.{AllByRecursion}
use Rattle.std.proofs.lemmas.List.{length-map, map-append}
use Rattle.std.proofs.lemmas.Option.{slice_get-map, slice_get_within, slice_get-get_or}
use Rattle.hx_resolved.specs.declared.program.Words.{Words}
use Rattle.hx_resolved.specs.Resolved.{Function, Program}
use Rattle.hx_code.specs.declared.word.Word.{Word}
use Rattle.hx_code.specs.declared.word.Word.TheVariants.{Const, Ret}
use Rattle.hx_code.specs.declared.table.Spot.{Spot}
use Rattle.hx_code.specs.Code.{FuncView, RegionView, CodeView}
use Rattle.hx_code.specs.Valid.{IsValid, IsSmallFunction, IsArrayOrNone, IsGlobalOrNone, IsMain, IsSpotAt}
use Rattle.hx_lowering.specs.declared.line.Line.{Line}
use Rattle.hx_lowering.specs.Lines.{array_of}
use Rattle.hx_lowering.specs.Draft.{Draft, put_word, no_targets, plain_version, function_at, stmts_draft, function_draft, functions_draft, no_draft, draft_of, code_of}
use Rattle.hx_lowering.proofs.Stand.{words_of, spots_of}
use Rattle.hx_lowered.proofs.WellFormed.{Context, FitsFunction, FitsInput, FitsInputLength, IsWellFormed, parameters_of}
use Rattle.hx_lowered.proofs.Fine.{below_or_not, same_some, Good, Begins, Fine, fine_none, fine_and, Knows, part_and, word_part}
use Rattle.hx_lowered.proofs.Expressions.{next_part}
use Rattle.hx_lowered.proofs.Drafts.{Holds, grows_word, stmts_grows}
use Rattle.hx_lowered.proofs.Loops.{DraftPart}
use Rattle.hx_lowered.proofs.Statements.{stmts_part}
use Rattle.hx_lowered.proofs.Regions.{seam}

-- ---- what a function puts behind a draft

abbrev body_of : Function → ℕ → Draft → Draft
body_of f globals d = stmts_draft f.body (plain_version (length d.functions) globals) no_targets d

abbrev ended : Function → ℕ → Draft → Draft
ended f globals d = let v = plain_version (length d.functions) globals in put_word v 1 Ret (put_word v 0 (Const (pos 0)) (body_of f globals d))

function_listed : (code : CodeView) (f : Function) (globals : ℕ) (d : Draft) → (function_draft f globals d).functions ≡ d.functions ++ function_at f (length d.lines) ∷ []
function_listed code f globals d = ap (λ fs. fs ++ function_at f (length d.lines) ∷ []) (stmts_grows code f.body (plain_version (length d.functions) globals) no_targets d).functions

function_holds : (code : CodeView) (f : Function) (globals : ℕ) (d : Draft) → Holds code (function_draft f globals d) → Holds code (ended f globals d)
function_holds code f globals d h = record { lines = h.lines; behind = h.behind; regions = h.regions }

body_holds : (code : CodeView) (f : Function) (globals : ℕ) (d : Draft) → Holds code (ended f globals d) → Holds code (body_of f globals d)
body_holds code f globals d h =
    let v = plain_version (length d.functions) globals in
    (grows_word code v 0 (Const (pos 0)) (body_of f globals d)).holds ((grows_word code v 1 Ret _).holds h)

functions_hold : (code : CodeView) (fs : List Function) (globals : ℕ) (d : Draft) → Holds code (functions_draft fs globals d) → Holds code d
functions_hold code [] globals d h = h
functions_hold code (f ∷ fs) globals d h =
    (stmts_grows code f.body (plain_version (length d.functions) globals) no_targets d).holds
    (body_holds code f globals d (function_holds code f globals d (functions_hold code fs globals (function_draft f globals d) h)))

functions_front : (code : CodeView) (fs : List Function) (globals : ℕ) (d : Draft) → (rest : List FuncView) × ((functions_draft fs globals d).functions ≡ d.functions ++ rest)
functions_front code [] globals d = ([], sym (append-nil d.functions))
functions_front code (f ∷ fs) globals d =
    let front = functions_front code fs globals (function_draft f globals d) in (
      function_at f (length d.lines) ∷ front.0,
      front.1 ∙ ap (λ gs. gs ++ front.0) (function_listed code f globals d) ∙ append_assoc d.functions (function_at f (length d.lines) ∷ []) front.0,
    )

abbrev counts_of : List FuncView → List ℕ
counts_of gs = map (λ (g : FuncView). g.parameters) gs

functions_counts : (code : CodeView) (fs : List Function) (globals : ℕ) (d : Draft) → counts_of (functions_draft fs globals d).functions ≡ counts_of d.functions ++ parameters_of fs
functions_counts code [] globals d = sym (append-nil (counts_of d.functions))
functions_counts code (f ∷ fs) globals d =
    functions_counts code fs globals (function_draft f globals d)
    ∙ ap (λ gs. counts_of gs ++ parameters_of fs) (function_listed code f globals d)
    ∙ ap (λ ps. ps ++ parameters_of fs) (map-append (λ (g : FuncView). g.parameters) d.functions (function_at f (length d.lines) ∷ []))
    ∙ append_assoc (counts_of d.functions) (f.parameters ∷ []) (parameters_of fs)

-- ---- the words of functions

pub record Listed (code : CodeView) (from : ℕ) : Type 0 where
  pub begins : (f : ℕ) (g : FuncView) → from ≤ f → slice_get code.functions f ≡ Some g → IsSpotAt code g.entry f None × IsSmallFunction g

pub record FunctionsPart (code : CodeView) (d d' : Draft) : Type 0 where
  pub fine : Fine code (length d.lines) (length d'.lines) (length d.regions) (length d'.regions)
  pub listed : Listed code (length d.functions)

module _ (code : CodeView) (globals : ℕ) (parameters : List ℕ) (globals_are : code.globals ≡ globals) (counts : counts_of code.functions ≡ parameters) where
  function_part : (f : Function) (d : Draft) (rest : List FuncView) → FitsFunction globals parameters f → code.functions ≡ (d.functions ++ function_at f (length d.lines) ∷ []) ++ rest
      → Holds code (function_draft f globals d) → DraftPart code (plain_version (length d.functions) globals) d (ended f globals d)
  function_part f d rest fits table holds =
      let number = length d.functions in
      let v = plain_version number globals in
      let x : Context = record { privates = f.privates; globals = globals; parameters = parameters } in
      let view = function_at f (length d.lines) in
      let is : slice_get code.functions number ≡ Some view = ap (λ gs. slice_get gs number) table ∙ seam d.functions view rest in
      let knows : Knows code x v = record {
        view = view;
        is = is;
        privates_are = refl;
        inside = slice_get_within code.functions number view is;
        region = tt;
        globals_are = globals_are;
        same_globals = refl;
        cells = λ k cell e. absurd cc;
        counts = counts;
      } in
      let body = body_of f globals d in
      let zeroed = put_word v 0 (Const (pos 0)) body in
      let ends = function_holds code f globals d holds in
      let holds_zeroed = (grows_word code v 1 Ret zeroed).holds ends in
      let holds_body = body_holds code f globals d ends in
      let r = length body.regions in
      let last = word_part code x v knows 1 0 Ret zeroed.lines r ends.lines tt (omega arith) tt tt (omega arith) (omega arith) tt in
      let zero_part = next_part code x v knows 0 1 (Const (pos 0)) body.lines r holds_zeroed.lines tt (omega arith) tt tt (omega arith) (omega arith) refl last.begins in
      let first = stmts_part code x f.body false false v no_targets d fits.body knows (λ e. refl) (λ e. absurd cc) holds_body zero_part.begins in
      part_and code v d.lines 0 body.lines 0 _ (length d.regions) r r first (part_and code v body.lines 0 zeroed.lines 1 _ r r r zero_part last)

  pub functions_part : (fs : List Function) (d : Draft) → AllByRecursion (FitsFunction globals parameters) fs → code.functions ≡ (functions_draft fs globals d).functions
      → Holds code (functions_draft fs globals d) → FunctionsPart code d (functions_draft fs globals d)
  functions_part [] d fits table holds = record {
    fine = fine_none code (length d.lines) (length d.regions);
    listed = record { begins = λ f g le e. absurd (omega (arith, le, slice_get_within code.functions f g e, ap length table)) };
  }
  functions_part (f ∷ fs) d fits table holds =
      let next = function_draft f globals d in
      let view = function_at f (length d.lines) in
      let more = functions_part fs next fits.1 table holds in
      let front = functions_front code fs globals next in
      let table_here : code.functions ≡ (d.functions ++ view ∷ []) ++ front.0 = table ∙ front.1 ∙ ap (λ gs. gs ++ front.0) (function_listed code f globals d) in
      let part = function_part f d front.0 fits.0 table_here (functions_hold code fs globals next holds) in
      let is : slice_get code.functions (length d.functions) ≡ Some view = ap (λ gs. slice_get gs (length d.functions)) table_here ∙ seam d.functions view front.0 in
      let number : length next.functions ≡ length d.functions + 1 = ap length (function_listed code f globals d) ∙ length-append d.functions (view ∷ []) in
      record {
        fine = fine_and code _ _ _ _ _ _ part.fine more.fine;
        listed = record { begins = λ n g le e. go n g (length d.functions) (length next.functions) number is part.begins le e more.listed.begins };
      }
    where
      go : (n : ℕ) (g : FuncView) (here after : ℕ) → after ≡ here + 1 → slice_get code.functions here ≡ Some (function_at f (length d.lines))
          → IsSpotAt code (length d.lines) here None → here ≤ n → slice_get code.functions n ≡ Some g
          → ((n : ℕ) (g : FuncView) → after ≤ n → slice_get code.functions n ≡ Some g → IsSpotAt code g.entry n None × IsSmallFunction g)
          → IsSpotAt code g.entry n None × IsSmallFunction g
      go n g here after e is begins le at later = elim (below_or_not here n) [
        | inl l ↦ later n g (omega arith) at
        | inr l ↦ (
            let same : here ≡ n = omega arith in
            let that : function_at f (length d.lines) ≡ g = same_some _ _ _ (ap (λ k. slice_get code.functions k) (sym same) ∙ is) at in
            let small : IsSmallFunction (function_at f (length d.lines)) = (fits.0.few_parameters, fits.0.are_private, fits.0.few_privates) in
            subst (λ (h : FuncView). IsSpotAt code h.entry n None × IsSmallFunction h) that (subst (λ k. IsSpotAt code (length d.lines) k None) same begins, small))
      ]

-- ---- the code of a program

module _ (q : Program) (fits : IsWellFormed q) (few : length (code_of q).words < 2 ^ 32) where
  abbrev pub code : CodeView
  code = code_of q

  holds : Holds code (draft_of q)
  holds = record {
    lines = record { behind = []; words = ap words_of (sym (append-nil (draft_of q).lines)); spots = ap spots_of (sym (append-nil (draft_of q).lines)) };
    behind = [];
    regions = sym (append-nil (draft_of q).regions);
  }

  counts_are : counts_of code.functions ≡ parameters_of q.functions
  counts_are = functions_counts code q.functions (length q.opening) no_draft

  whole : FunctionsPart code no_draft (draft_of q)
  whole = functions_part code (length q.opening) (parameters_of q.functions) refl counts_are q.functions no_draft fits.functions refl holds

  words_are : length code.words ≡ length (draft_of q).lines
  words_are = length-map (draft_of q).lines (λ (line : Line). line.word)

  spots_are : length code.spots ≡ length (draft_of q).lines
  spots_are = length-map (draft_of q).lines (λ (line : Line). line.spot)

  good_at : (p : ℕ) (w : Word) (s : Spot) → slice_get code.words p ≡ Some w → slice_get code.spots p ≡ Some s → Good code p w s
  good_at p w s e h = whole.fine.good p w s (omega arith) (omega (arith, slice_get_within code.words p w e, words_are)) e h

  good_spot : (p : ℕ) (s : Spot) → p < length code.spots → (w : Word) × Good code p w (get_or code.spots p s)
  good_spot p s lt =
      let w = get_or code.words p Ret in
      (w, good_at p w (get_or code.spots p s) (slice_get-get_or code.words p Ret (omega (arith, words_are, spots_are))) (slice_get-get_or code.spots p s lt))

  main_is : IsMain code q.main
  main_is = go (slice_get code.functions q.main) refl (sym (slice_get-map (λ (g : FuncView). g.parameters) code.functions q.main) ∙ ap (λ ps. slice_get ps q.main) counts_are ∙ fits.main)
    where
      go : (o : Option FuncView) → slice_get code.functions q.main ≡ o → option_map (λ (g : FuncView). g.parameters) o ≡ Some 0 → IsMain code q.main
      go None e h = absurd cc
      go (Some g) e h = (g, e, cc)

  input_is : (o : Option Words) → FitsInput (length q.opening) o → IsArrayOrNone (length q.opening) (option_map array_of o)
  input_is None f = tt
  input_is (Some words) f = f

  input_length_is : (o : Option ℕ) → FitsInputLength (length q.opening) o → IsGlobalOrNone (length q.opening) o
  input_length_is None f = tt
  input_length_is (Some a) f = f

  region_begins : (r : ℕ) (g : RegionView) → slice_get code.regions r ≡ Some g → Begins code 0 (length (draft_of q).lines) r
  region_begins r g e = whole.fine.each r (omega arith) (slice_get_within code.regions r g e)

  small : (k : ℕ) (g : FuncView) → k < length code.functions → IsSmallFunction (get_or code.functions k g)
  small k g lt = (whole.listed.begins k (get_or code.functions k g) (omega arith) (slice_get-get_or code.functions k g lt)).1

  pub code_is_valid : IsValid code
  code_is_valid = record {
    spots = record { each = spots_are ∙ sym words_are; few = few; regions = omega (arith, whole.fine.dense, words_are); known = λ k s lt. (good_spot k s lt).1.known };
    limits = record {
      functions = omega (arith, length-map code.functions (λ (g : FuncView). g.parameters), ap length counts_are, length-map q.functions (λ (f : Function). f.parameters), fits.few_functions);
      small = λ k g lt. small k g lt;
      heights = λ k s lt. (good_spot k s lt).1.low;
      globals = fits.few_words;
      opening = refl;
      main = main_is;
      input = input_is q.input fits.input;
      input_length = input_length_is q.input_length fits.input_length;
    };
    names = λ p w s e h. (good_at p w s e h).names;
    leads = λ p w s e h. (good_at p w s e h).leads;
    heights = λ p w s e h. (good_at p w s e h).balances;
    functions = λ f g e. (whole.listed.begins f g (omega arith) e).0;
    regions = λ r g e. (let b = region_begins r g e in record {
      place = b.place;
      enter = b.enter;
      only = λ p h. b.only p (omega arith) (omega (arith, words_are, slice_get_within code.words p _ h.1)) h;
      spot = b.spot;
      at = b.at;
      start = (b.region g e).0;
      exit = (b.region g e).1;
    });
    stands = λ p w s e h. (good_at p w s e h).stands;
    carries = λ r g e. ((region_begins r g e).region g e).2;
  }
