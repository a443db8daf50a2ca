-- Lines of globals, some behind others.
use Rattle.std.proofs.Common.{◌≡◌, suc, arith, ◌+◌, ◌<◌, ℕ, ℤ, List, [], ◌∷◌, ◌++◌, take, drop, map, length, slice_index_or, append_assoc, refl, sym, ap, ◌∙◌}
use Rattle.std.specs.Prelude.{flat_map}
use Rattle.std.proofs.Math.Seq.{take-suc}
use Rattle.std.proofs.lemmas.List.{map-append, append-nil}
use Rattle.std.proofs.lemmas.Grind.{flat_map-append}
use Rattle.hx_tree.specs.Tree.{GlobalDecl, Item}
use Rattle.hx_tree.specs.Meaning.{item_globals}
use Rattle.hx_tree.specs.Accepted.{shape_words}
use Rattle.hx_stats.specs.Globals.{global_line, global_lines, words_behind}

lines-more : (gs hs : List GlobalDecl) (words : List ℤ) → global_lines (gs ++ hs) words ≡ global_lines gs words ++ global_lines hs (words_behind gs words)
lines-more [] hs words = refl
lines-more (g ∷ gs) hs words = simp (lines-more gs hs (drop (shape_words g.shape) words), append_assoc) refl

behind-more : (gs hs : List GlobalDecl) (words : List ℤ) → words_behind (gs ++ hs) words ≡ words_behind hs (words_behind gs words)
behind-more [] hs words = refl
behind-more (g ∷ gs) hs words = behind-more gs hs (drop (shape_words g.shape) words)

-- what was put, and the words behind it, with more globals

abbrev pub ArePut : List GlobalDecl → List ℤ → List ℕ → List ℕ → List ℤ → Type 0
ArePut gs words old new rest = (new ≡ old ++ global_lines gs words) × (rest ≡ words_behind gs words)

pub put-more : (gs hs : List GlobalDecl) (words : List ℤ) (old text new : List ℕ) (rest behind : List ℤ)
    → ArePut gs words old text rest → ArePut hs rest text new behind → ArePut (gs ++ hs) words old new behind
put-more gs hs words old text new rest behind first second = (
  simp (second.0, first.0, first.1, lines-more gs hs words, append_assoc) refl,
  simp (second.1, first.1, behind-more gs hs words) refl,
)

pub put-one : (g : GlobalDecl) (rest here behind : List ℤ) (text new : List ℕ)
    → here ≡ take (shape_words g.shape) rest → behind ≡ drop (shape_words g.shape) rest → new ≡ text ++ global_line g.name.text here
    → ArePut (g ∷ []) rest text new behind
put-one g rest here behind text new front back line = (simp (line, front, append-nil) refl, back)

-- one more of a list is seen

pub map-next : {X Y : Type 0} (f : X → Y) (xs : List X) (i : ℕ) (x : X) → i < length xs → x ≡ slice_index_or xs i x → map f (take (i + 1) xs) ≡ map f (take i xs) ++ f x ∷ []
map-next f xs i x inside is =
    let one : i + 1 ≡ suc i = omega arith in
    ap (λ k. map f (take k xs)) one ∙ ap (map f) (take-suc xs i x inside) ∙ map-append f (take i xs) _ ∙ ap (λ y. map f (take i xs) ++ f y ∷ []) (sym is)

pub globals-next : {X : Type 0} (f : X → Item) (xs : List X) (i : ℕ) (x : X) → i < length xs → x ≡ slice_index_or xs i x
    → flat_map item_globals (map f (take (i + 1) xs)) ≡ flat_map item_globals (map f (take i xs)) ++ item_globals (f x)
globals-next f xs i x inside is =
    ap (flat_map item_globals) (map-next f xs i x inside is) ∙ flat_map-append item_globals (map f (take i xs)) (f x ∷ [])
    ∙ ap (λ l. flat_map item_globals (map f (take i xs)) ++ l) (append-nil (item_globals (f x)))
