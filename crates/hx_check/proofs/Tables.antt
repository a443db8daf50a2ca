-- A table's look-up and its insertion, by the list of names and symbols.
use Rattle.std.proofs.Common.{◌≡◌, ℕ, map, cond, List, [], ◌∷◌, ◌++◌, None, Some, refl, ap, ◌∙◌, sym, nat_eq}
use Rattle.std.specs.declared.vec.Vec.{Vec}
use Rattle.std.specs.Str.{bytes_eq}
use Rattle.std.specs.Map.{lookup}
use Rattle.std.specs.Cmp.Lexicographic.{pointwise}
use Rattle.std.proofs.lemmas.List.{map-append}
use Rattle.std.proofs.lemmas.Slice.Eq.{bytes_eq-Decides}
use Rattle.std.proofs.lemmas.Bool.Decides.{same_from_decides, Decides-like}
use Rattle.indexmap.specs.IndexMap.{IndexMap, get, insert_entry}
use Rattle.indexmap.proofs.CallerLemmas.{insert_entry-new}
use Rattle.hx_tree.specs.World.{look_up}
use Rattle.hx_resolved.specs.declared.symbol.Symbol.{Symbol}
use Rattle.hx_check.specs.Views.{pair_of}

pub bytes_eq-sym : (x y : List ℕ) → bytes_eq x y ≡ bytes_eq y x
bytes_eq-sym x y =
    same_from_decides (bytes_eq x y) (bytes_eq y x) (bytes_eq-Decides x y) (Decides-like (bytes_eq y x) (λ e. sym e) (λ e. sym e) (bytes_eq-Decides y x))

-- the look-up among the names is that among the entries
pub look_up-entries : {A : Type 0} (name : List ℕ) (es : List (Vec ℕ A × Symbol)) → look_up (map pair_of es) name ≡ lookup (λ k. bytes_eq name k.items) es
look_up-entries name [] = refl
look_up-entries name (e ∷ es) =
    ap (λ b. cond b (Some e.1) (look_up (map pair_of es) name)) (bytes_eq-sym e.0.items name)
    ∙ ap (λ r. cond (bytes_eq name e.0.items) (Some e.1) r) (look_up-entries name es)

-- a new name goes last
pub entries-insert : {A S : Type 0} (old new : IndexMap (Vec ℕ A) Symbol S) (key : Vec ℕ A) (s : Symbol) → new.entries ≡ insert_entry (λ x y. pointwise nat_eq x.items y.items) old.entries key s → look_up (map pair_of old.entries) key.items ≡ None → map pair_of new.entries ≡ map pair_of old.entries ++ (key.items, s) ∷ []
entries-insert old new key s put none =
    let absent : get (λ x y. pointwise nat_eq x.items y.items) old key ≡ None = sym (look_up-entries key.items old.entries) ∙ none in
    ap (map pair_of) (put ∙ insert_entry-new _ old key s absent) ∙ map-append pair_of old.entries ((key, s) ∷ [])
