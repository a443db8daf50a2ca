-- What a region carries, by what is found of it.
use Rattle.std.proofs.Common.{◌≡◌, ℕ, ◌+◌, List, [], map, sym, ap, ◌∙◌, Bor, false}
use Rattle.std.specs.Prelude.{Option, Some, None, filter_map, option_map, option_and_then, slice_get}
use Rattle.std.specs.Option.{option_map_or}
use Rattle.std.proofs.lemmas.Option.{slice_get-map}
use Rattle.hx_tree.specs.Tree.{Func, Program}
use Rattle.hx_tree.specs.Meaning.{functions_of}
use Rattle.hx_code.specs.Code.{CodeView, RegionView}
use Rattle.hx_code.specs.declared.table.Carried.{Carried}
use Rattle.hx_code.specs.declared.table.Spot.{Spot}
use Rattle.hx_names.specs.Names.{Named, place, private_names, carried_name, carried_names}

-- ---- a carried word

abbrev pub name_in_cell : ℕ → Carried → List ℕ → Named
name_in_cell globals c x = record { base = place (globals + c.cell); length = 1; is_array = false; name = x }

pub carried_none : (privates : List (Bor (List ℕ))) (globals : ℕ) (c : Carried) → slice_get privates c.private ≡ None → carried_name (map (λ r. r.now) privates) globals c ≡ None
carried_none privates globals c none =
    ap (option_map (name_in_cell globals c)) (slice_get-map (λ (r : Bor (List ℕ)). r.now) privates c.private ∙ ap (option_map (λ (r : Bor (List ℕ)). r.now)) none)

pub carried_some : (privates : List (Bor (List ℕ))) (globals : ℕ) (c : Carried) (x : Bor (List ℕ)) → slice_get privates c.private ≡ Some x → carried_name (map (λ r. r.now) privates) globals c ≡ Some (name_in_cell globals c x.now)
carried_some privates globals c x some =
    ap (option_map (name_in_cell globals c)) (slice_get-map (λ (r : Bor (List ℕ)). r.now) privates c.private ∙ ap (option_map (λ (r : Bor (List ℕ)). r.now)) some)

-- ---- the words that a region carries

abbrev pub in_function : CodeView → RegionView → Func → List Named
in_function code r f = filter_map (carried_name (private_names f) code.globals) r.carried

abbrev pub at_spot : Program → CodeView → RegionView → Option Spot → List Named
at_spot p code r spot = option_map_or (in_function code r) (option_and_then (λ s. slice_get (functions_of p) s.function) spot) []

pub carried_nowhere : (p : Program) (code : CodeView) (r : RegionView) → slice_get code.spots r.start ≡ None → carried_names p code r ≡ []
carried_nowhere p code r none = ap (at_spot p code r) none

pub carried_in : (p : Program) (code : CodeView) (r : RegionView) (s : Spot) (f : Option Func) → slice_get code.spots r.start ≡ Some s → f ≡ slice_get (functions_of p) s.function → carried_names p code r ≡ option_map_or (in_function code r) f []
carried_in p code r s f some is = ap (at_spot p code r) some ∙ ap (λ f'. option_map_or (in_function code r) f' []) (sym is)
