-- What a name stands for is known exactly where it is accepted.
use Rattle.std.proofs.Common.{◌≡◌, ℕ, Bool, true, false, List, [], ◌∷◌, refl, ap, ◌∙◌, if◌then◌else◌, map}
use Rattle.std.specs.Prelude.{Option, Some, None, Ok, is_some, option_map, bytes_eq, nat_eq}
use Rattle.std.proofs.lemmas.Bool.{eqb-true, eq-eqb}
use Rattle.hx_tree.specs.declared.tree.Returns.{Returns}
use Rattle.hx_tree.specs.declared.tree.Returns.TheVariants as returns
use Rattle.hx_tree.specs.Tree as tree
use Rattle.hx_tree.specs.World.{Map, look_up, first_of}
use Rattle.hx_tree.specs.Accepted.{Kind, IntKind, ArrayKind, FunctionKind, Surroundings, is_among, is_local, kind_of}
use Rattle.hx_check.specs.declared.here.Here.{Here}
use Rattle.hx_resolved.specs.declared.symbol.Symbol.{Symbol}
use Rattle.hx_resolved.specs.declared.symbol.Symbol.TheVariants as symbol
use Rattle.hx_resolved.specs.declared.program.Words.{Words}
use Rattle.hx_resolved.specs.Symbols.{Scopes, private_word}
use Rattle.hx_resolved.specs.Resolve.{variable, to_variable, or_else, int_word, array_words, function_number, no_words}
use Rattle.hx_check.specs.Reading.{◌>>=◌, int_named, array_named, function_named, called_with, gives_value, read, write}
use Rattle.hx_check.proofs.Steps.{if_ok, if_at}

-- ---- what is known, as the definition of accepted trees has it

abbrev pub kind_of_symbol : Symbol → Kind
kind_of_symbol (symbol.Int word) = IntKind
kind_of_symbol (symbol.Array base n) = ArrayKind
kind_of_symbol (symbol.Function number r parameters) = FunctionKind r parameters

abbrev pub kinds : Map Symbol → Map Kind
kinds symbols = map (λ entry. (entry.0, kind_of_symbol entry.1)) symbols

abbrev pub texts_in : Map ℕ → List (List ℕ)
texts_in scope = map (λ entry. entry.0) scope

abbrev pub texts : Scopes → List (List (List ℕ))
texts scopes = map texts_in scopes

abbrev pub surroundings : Map Symbol → Here → Scopes → Surroundings
surroundings symbols here scopes = record { globals = kinds symbols; locals = texts scopes; returns = here.returns; in_loop = here.in_loop }

-- ---- look-ups

among-step : (b t : Bool) (k : ℕ) (o : Option ℕ) → t ≡ is_some o → (if b then true else t) ≡ is_some (if b then Some k else o)
among-step true t k o h = refl
among-step false t k o h = h

pub is_among_is : (x : List ℕ) (scope : Map ℕ) → is_among x (texts_in scope) ≡ is_some (look_up scope x)
is_among_is x [] = refl
is_among_is x (entry ∷ rest) = among-step (bytes_eq entry.0 x) (is_among x (texts_in rest)) entry.1 (look_up rest x) (is_among_is x rest)

local-step : (o rest : Option ℕ) → (if is_some o then true else is_some rest) ≡ is_some (first_of o rest)
local-step (Some k) rest = refl
local-step None rest = refl

pub is_local_is : (x : List ℕ) (scopes : Scopes) → is_local x (texts scopes) ≡ is_some (private_word scopes x)
is_local_is x [] = refl
is_local_is x (scope ∷ outer) =
    ap (λ b. if b then true else is_local x (texts outer)) (is_among_is x scope)
    ∙ ap (λ b. if is_some (look_up scope x) then true else b) (is_local_is x outer)
    ∙ local-step (look_up scope x) (private_word outer x)

kinds-step : (b : Bool) (s : Symbol) (o : Option Kind) (o' : Option Symbol) → o ≡ option_map kind_of_symbol o' → (if b then Some (kind_of_symbol s) else o) ≡ option_map kind_of_symbol (if b then Some s else o')
kinds-step true s o o' h = refl
kinds-step false s o o' h = h

pub look_up_kinds : (symbols : Map Symbol) (x : List ℕ) → look_up (kinds symbols) x ≡ option_map kind_of_symbol (look_up symbols x)
look_up_kinds [] x = refl
look_up_kinds (entry ∷ rest) x = kinds-step (bytes_eq entry.0 x) entry.1 (look_up (kinds rest) x) (look_up rest x) (look_up_kinds rest x)

abbrev pub kind_at : Option ℕ → Option Symbol → Option Kind
kind_at (Some k) s = Some IntKind
kind_at None s = option_map kind_of_symbol s

kind-step : (o : Option ℕ) (s : Option Symbol) → (if is_some o then Some IntKind else option_map kind_of_symbol s) ≡ kind_at o s
kind-step (Some k) s = refl
kind-step None s = refl

pub kind_is : (x : tree.Name) (symbols : Map Symbol) (here : Here) (scopes : Scopes) → kind_of x (surroundings symbols here scopes) ≡ kind_at (private_word scopes x.text) (look_up symbols x.text)
kind_is x symbols here scopes =
    ap (λ b. if b then Some IntKind else look_up (kinds symbols) x.text) (is_local_is x.text scopes)
    ∙ ap (λ k. if is_some (private_word scopes x.text) then Some IntKind else k) (look_up_kinds symbols x.text)
    ∙ kind-step (private_word scopes x.text) (look_up symbols x.text)

-- ---- an int

pub int_read : (x : tree.Name) (o : Option ℕ) (s : Option Symbol) → kind_at o s ≡ Some IntKind → (int_named x o s >>= (λ v. Ok (read v))) ≡ Ok (variable o (or_else (int_word s) 0))
int_read x (Some k) s h = refl
int_read x None (Some (symbol.Int word)) h = refl
int_read x None (Some (symbol.Array base n)) h = cc
int_read x None (Some (symbol.Function number r ps)) h = cc
int_read x None None h = cc

pub int_written : (x : tree.Name) (o : Option ℕ) (s : Option Symbol) → kind_at o s ≡ Some IntKind → (int_named x o s >>= (λ v. Ok (write v))) ≡ Ok (to_variable o (or_else (int_word s) 0))
int_written x (Some k) s h = refl
int_written x None (Some (symbol.Int word)) h = refl
int_written x None (Some (symbol.Array base n)) h = cc
int_written x None (Some (symbol.Function number r ps)) h = cc
int_written x None None h = cc

pub int_known : {B : Type 0} (x : tree.Name) (o : Option ℕ) (s : Option Symbol) (f : _) (b : B) → (int_named x o s >>= f) ≡ Ok b → kind_at o s ≡ Some IntKind
int_known x (Some k) s f b h = refl
int_known x None (Some (symbol.Int word)) f b h = refl
int_known x None (Some (symbol.Array base n)) f b h = cc
int_known x None (Some (symbol.Function number r ps)) f b h = cc
int_known x None None f b h = cc

-- ---- an array

pub array_at : (x : tree.Name) (o : Option ℕ) (s : Option Symbol) → kind_at o s ≡ Some ArrayKind → array_named x o s ≡ Ok (or_else (array_words s) no_words)
array_at x (Some k) s h = cc
array_at x None (Some (symbol.Int word)) h = cc
array_at x None (Some (symbol.Array base n)) h = refl
array_at x None (Some (symbol.Function number r ps)) h = cc
array_at x None None h = cc

pub array_known : (x : tree.Name) (o : Option ℕ) (s : Option Symbol) (words : Words) → array_named x o s ≡ Ok words → kind_at o s ≡ Some ArrayKind
array_known x (Some k) s words h = cc
array_known x None (Some (symbol.Int word)) words h = cc
array_known x None (Some (symbol.Array base n)) words h = refl
array_known x None (Some (symbol.Function number r ps)) words h = cc
array_known x None None words h = cc

-- ---- a function

called_at : (is_value : Bool) (f : tree.Name) (n number : ℕ) (r : Returns) (parameters : ℕ) → gives_value is_value r ≡ true → parameters ≡ n → called_with is_value f n number r parameters ≡ Ok number
called_at is_value f n number r parameters g e =
    if_at (gives_value is_value r) _ _ g ∙ if_at (nat_eq parameters n) _ _ (eq-eqb parameters n e)

called_known : (is_value : Bool) (f : tree.Name) (n number : ℕ) (r : Returns) (parameters k : ℕ) → called_with is_value f n number r parameters ≡ Ok k → (gives_value is_value r ≡ true) × (parameters ≡ n)
called_known is_value f n number r parameters k h =
    let outer = if_ok (gives_value is_value r) (if nat_eq parameters n then Ok number else _) _ k h in
    (outer.0, eqb-true parameters n (if_ok (nat_eq parameters n) (Ok number) _ k outer.1).0)

pub value_at : (f : tree.Name) (n : ℕ) (o : Option ℕ) (s : Option Symbol) → kind_at o s ≡ Some (FunctionKind returns.Int n) → function_named true f n o s ≡ Ok (or_else (function_number s) 0)
value_at f n (Some k) s h = cc
value_at f n None (Some (symbol.Int word)) h = cc
value_at f n None (Some (symbol.Array base m)) h = cc
value_at f n None (Some (symbol.Function number r ps)) h =
    let same : r ≡ returns.Int = cc in
    called_at true f n number r ps (ap (gives_value true) same) (cc)
value_at f n None None h = cc

only-int : (r : Returns) → gives_value true r ≡ true → r ≡ returns.Int
only-int returns.Int h = refl
only-int returns.Void h = cc

pub value_known : (f : tree.Name) (n : ℕ) (o : Option ℕ) (s : Option Symbol) (k : ℕ) → function_named true f n o s ≡ Ok k → kind_at o s ≡ Some (FunctionKind returns.Int n)
value_known f n (Some j) s k h = cc
value_known f n None (Some (symbol.Int word)) k h = cc
value_known f n None (Some (symbol.Array base m)) k h = cc
value_known f n None (Some (symbol.Function number r ps)) k h =
    let known = called_known true f n number r ps k h in
    ap (λ r'. Some (FunctionKind r' ps)) (only-int r known.0) ∙ ap (λ m. Some (FunctionKind returns.Int m)) known.1
value_known f n None None k h = cc

pub call_at : (f : tree.Name) (n : ℕ) (r : Returns) (o : Option ℕ) (s : Option Symbol) → kind_at o s ≡ Some (FunctionKind r n) → function_named false f n o s ≡ Ok (or_else (function_number s) 0)
call_at f n r (Some k) s h = cc
call_at f n r None (Some (symbol.Int word)) h = cc
call_at f n r None (Some (symbol.Array base m)) h = cc
call_at f n r None (Some (symbol.Function number r' ps)) h = called_at false f n number r' ps refl (cc)
call_at f n r None None h = cc

pub call_known : (f : tree.Name) (n : ℕ) (o : Option ℕ) (s : Option Symbol) (k : ℕ) → function_named false f n o s ≡ Ok k → (r : Returns) × (kind_at o s ≡ Some (FunctionKind r n))
call_known f n (Some j) s k h = cc
call_known f n None (Some (symbol.Int word)) k h = cc
call_known f n None (Some (symbol.Array base m)) k h = cc
call_known f n None (Some (symbol.Function number r ps)) k h = (r, ap (λ m. Some (FunctionKind r m)) (called_known false f n number r ps k h).1)
call_known f n None None k h = cc
