-- Words of code that keep the rules, from one place to another.
use Rattle.std.proofs.Common.{◌≡◌, ℕ, zero, suc, ◌+◌, ◌-◌, ◌≤◌, ◌<◌, ◌⊎◌, inl, inr, List, [], ◌∷◌, length, map, Option, Some, None, refl, sym, ap, subst, ◌∙◌, arith}
use Rattle.std.specs.Prelude.{slice_get}
use Rattle.std.specs.List.{AllByRecursion}
use Rattle.hx_tree.specs.declared.limits.TheConstants.{OPERAND_LIMIT, CELL_LIMIT}
use Rattle.hx_code.specs.declared.word.Word.{Word}
use Rattle.hx_code.specs.declared.word.Word.TheVariants.{Enter}
use Rattle.hx_code.specs.declared.table.Spot.{Spot}
use Rattle.hx_code.specs.Code.{FuncView, RegionView, CodeView}
use Rattle.hx_code.specs.Valid.{IsPrivate, privates_of, IsSpot, IsRegionOrNone, NamesKnown, successors, IsBeside, HasHeight, Balances, pops, pushes, StandsRight, IsEnter, IsSpotAt, CarriesWell}
use Rattle.hx_lowering.specs.declared.line.Line.{Line}
use Rattle.hx_lowering.specs.Lines.{Version, put, cell_of}
use Rattle.hx_lowered.proofs.WellFormed.{Context}
use Rattle.hx_lowering.proofs.Stand.{Has, word_stands, spot_stands, length-put}

pub below_or_not : (a b : ℕ) → (a < b) ⊎ (b ≤ a)
below_or_not zero zero = inr (omega arith)
below_or_not zero (suc b) = inl (omega arith)
below_or_not (suc a) zero = inr (omega arith)
below_or_not (suc a) (suc b) = elim (below_or_not a b) [ inl h ↦ inl (omega arith) | inr h ↦ inr (omega arith) ]

pub same_some : {A : Type 0} (o : Option A) (a b : A) → o ≡ Some a → o ≡ Some b → a ≡ b
same_some o a b e h = cc

pub each_so : {A : Type 0} (P Q : A → Type 0) → ((x : A) → P x → Q x) → (xs : List A) → AllByRecursion P xs → AllByRecursion Q xs
each_so P Q f [] h = tt
each_so P Q f (x ∷ xs) h = (f x h.0, each_so P Q f xs h.1)

-- a word that opens no region
abbrev pub OpensNone : Word → Type 0
OpensNone (Enter r t) = ⊥
OpensNone _ = Unit {0}

abbrev pub spot_of : Version → ℕ → Spot
spot_of v h = record { function = v.function; region = v.region; height = h }

-- a word of a version stands at a place, with so many operands
abbrev pub Sits : CodeView → Version → ℕ → ℕ → Type 0
Sits code v p h = slice_get code.spots p ≡ Some (spot_of v h)

-- what a word keeps at its place
pub record Good (code : CodeView) (p : ℕ) (w : Word) (s : Spot) : Type 0 where
  pub known : IsSpot code s
  pub low : s.height ≤ OPERAND_LIMIT
  pub names : NamesKnown code w s
  pub leads : AllByRecursion (IsBeside code s) (successors p w)
  pub balances : Balances code p w s
  pub stands : StandsRight w s

-- region n has one `enter` among the words from a to b, and begins and ends as it is to
pub record Begins (code : CodeView) (a b n : ℕ) : Type 0 where
  pub place : ℕ
  pub from : a ≤ place
  pub to : place < b
  pub enter : IsEnter code n place
  pub only : (p : ℕ) → a ≤ p → p < b → IsEnter code n p → p ≡ place
  pub spot : Spot
  pub at : slice_get code.spots place ≡ Some spot
  pub region : (g : RegionView) → slice_get code.regions n ≡ Some g → IsSpotAt code g.start spot.function (Some n) × IsSpotAt code g.exit spot.function None × CarriesWell code g

-- the words from a to b keep the rules, and open the regions from r to r', of which there are no more than words
pub record Fine (code : CodeView) (a b r r' : ℕ) : Type 0 where
  pub forth : a ≤ b
  pub rises : r ≤ r'
  pub dense : r' + a ≤ r + b
  pub good : (p : ℕ) (w : Word) (s : Spot) → a ≤ p → p < b → slice_get code.words p ≡ Some w → slice_get code.spots p ≡ Some s → Good code p w s
  pub within : (p n : ℕ) → a ≤ p → p < b → IsEnter code n p → (r ≤ n) × (n < r')
  pub each : (n : ℕ) → r ≤ n → n < r' → Begins code a b n

module _ (code : CodeView) where
  pub fine_none : (a r : ℕ) → Fine code a a r r
  fine_none a r = record {
    forth = omega arith;
    rises = omega arith;
    dense = omega arith;
    good = λ p w s le lt e f. absurd (omega arith);
    within = λ p n le lt e. absurd (omega arith);
    each = λ n le lt. absurd (omega arith);
  }

  pub fine_and : (a b c r r' r'' : ℕ) → Fine code a b r r' → Fine code b c r' r'' → Fine code a c r r''
  fine_and a b c r r' r'' f g = record {
    forth = omega (arith, f.forth, g.forth);
    rises = omega (arith, f.rises, g.rises);
    dense = omega (arith, f.dense, g.dense);
    good = λ p w s le lt e h. elim (below_or_not p b) [ inl l ↦ f.good p w s le l e h | inr l ↦ g.good p w s l lt e h ];
    within = λ p n le lt e. elim (below_or_not p b) [
      | inl l ↦ (let x = f.within p n le l e in let y : n < r'' = omega (arith, x.1, g.rises) in (x.0, y))
      | inr l ↦ (let x = g.within p n l lt e in let y : r ≤ n = omega (arith, x.0, f.rises) in (y, x.1))
    ];
    each = λ n le lt. elim (below_or_not n r') [ inl l ↦ first n (f.each n le l) l | inr l ↦ second n (g.each n l lt) l ];
  }
    where
      first : (n : ℕ) → Begins code a b n → n < r' → Begins code a c n
      first n h l = record {
        place = h.place;
        from = h.from;
        to = omega (arith, h.to, g.forth);
        enter = h.enter;
        only = λ p le lt e. elim (below_or_not p b) [ inl k ↦ h.only p le k e | inr k ↦ absurd (omega (arith, (g.within p n k lt e).0)) ];
        spot = h.spot;
        at = h.at;
        region = h.region;
      }

      second : (n : ℕ) → Begins code b c n → r' ≤ n → Begins code a c n
      second n h l = record {
        place = h.place;
        from = omega (arith, h.from, f.forth);
        to = h.to;
        enter = h.enter;
        only = λ p le lt e. elim (below_or_not p b) [ inl k ↦ absurd (omega (arith, (f.within p n le k e).1)) | inr k ↦ h.only p k lt e ];
        spot = h.spot;
        at = h.at;
        region = h.region;
      }

  -- one word
  pub fine_word : (v : Version) (h : ℕ) (w : Word) (lines : List Line) (r : ℕ) → Has code (put v h w lines) → OpensNone w → Good code (length lines) w (spot_of v h) → Fine code (length lines) (length (put v h w lines)) r r
  fine_word v h w lines r has plain g = record {
    forth = omega (arith, length-put v h w lines);
    rises = omega arith;
    dense = omega (arith, length-put v h w lines);
    good = λ p w' s le lt e f. at_it p w' s (omega (arith, length-put v h w lines)) e f;
    within = λ p n le lt e. absurd (no_enter p n (omega (arith, length-put v h w lines)) e);
    each = λ n le lt. absurd (omega arith);
  }
    where
      word_is : (p : ℕ) → p ≡ length lines → slice_get code.words p ≡ Some w
      word_is p e = ap (λ q. slice_get code.words q) e ∙ word_stands code v h w lines has

      spot_is : (p : ℕ) → p ≡ length lines → slice_get code.spots p ≡ Some (spot_of v h)
      spot_is p e = ap (λ q. slice_get code.spots q) e ∙ spot_stands code v h w lines has

      at_it : (p : ℕ) (w' : Word) (s : Spot) → p ≡ length lines → slice_get code.words p ≡ Some w' → slice_get code.spots p ≡ Some s → Good code p w' s
      at_it p w' s e ew es =
          subst (λ x. Good code p w' x) (same_some _ _ _ (spot_is p e) es)
          (subst (λ x. Good code p x (spot_of v h)) (same_some _ _ _ (word_is p e) ew)
          (subst (λ q. Good code q w (spot_of v h)) (sym e) g))

      no_enter : (p n : ℕ) → p ≡ length lines → IsEnter code n p → ⊥
      no_enter p n e i = subst OpensNone (same_some _ _ _ (word_is p e) i.1) plain

  -- the one `enter` of region n, with words behind it that open none
  pub fine_enter : (v : Version) (n t b : ℕ) (lines : List Line) → Has code (put v 0 (Enter n t) lines) → Good code (length lines) (Enter n t) (spot_of v 0)
      → Fine code (length (put v 0 (Enter n t) lines)) b n n
      → ((g : RegionView) → slice_get code.regions n ≡ Some g → IsSpotAt code g.start v.function (Some n) × IsSpotAt code g.exit v.function None × CarriesWell code g)
      → Fine code (length lines) b n (n + 1)
  fine_enter v n t b lines has g f region = record {
    forth = omega (arith, size, f.forth);
    rises = omega arith;
    dense = omega (arith, size, f.forth);
    good = λ p w s le lt e h. elim (below_or_not p (length (put v 0 (Enter n t) lines))) [ inl l ↦ at_it p w s (omega (arith, size)) e h | inr l ↦ f.good p w s l lt e h ];
    within = λ p m le lt e. elim (below_or_not p (length (put v 0 (Enter n t) lines))) [ inl l ↦ here p m (omega (arith, size)) e | inr l ↦ absurd (none p m l lt e) ];
    each = λ m le lt. let e : n ≡ m = omega arith in subst (λ x. Begins code (length lines) b x) e opens;
  }
    where
      size : length (put v 0 (Enter n t) lines) ≡ length lines + 1
      size = length-put v 0 (Enter n t) lines

      word_is : (p : ℕ) → p ≡ length lines → slice_get code.words p ≡ Some (Enter n t)
      word_is p e = ap (λ q. slice_get code.words q) e ∙ word_stands code v 0 (Enter n t) lines has

      spot_is : (p : ℕ) → p ≡ length lines → slice_get code.spots p ≡ Some (spot_of v 0)
      spot_is p e = ap (λ q. slice_get code.spots q) e ∙ spot_stands code v 0 (Enter n t) lines has

      at_it : (p : ℕ) (w' : Word) (s : Spot) → p ≡ length lines → slice_get code.words p ≡ Some w' → slice_get code.spots p ≡ Some s → Good code p w' s
      at_it p w' s e ew es =
          subst (λ x. Good code p w' x) (same_some _ _ _ (spot_is p e) es)
          (subst (λ x. Good code p x (spot_of v 0)) (same_some _ _ _ (word_is p e) ew)
          (subst (λ q. Good code q (Enter n t) (spot_of v 0)) (sym e) g))

      none : (p m : ℕ) → length (put v 0 (Enter n t) lines) ≤ p → p < b → IsEnter code m p → ⊥
      none p m le lt e = let w = f.within p m le lt e in omega (arith, w.0, w.1)

      same : (u m t' : ℕ) → Enter n u ≡ Enter m t' → n ≡ m
      same u m t' e = cc

      here : (p m : ℕ) → p ≡ length lines → IsEnter code m p → (n ≤ m) × (m < n + 1)
      here p m e i = let x : n ≡ m = same t m i.0 (same_some _ _ _ (word_is p e) i.1) in (omega arith, omega arith)

      opens : Begins code (length lines) b n
      opens = record {
        place = length lines;
        from = omega arith;
        to = omega (arith, size, f.forth);
        enter = (t, word_stands code v 0 (Enter n t) lines has);
        only = λ p le lt e. elim (below_or_not p (length (put v 0 (Enter n t) lines))) [ inl l ↦ omega (arith, size) | inr l ↦ absurd (none p n l lt e) ];
        spot = spot_of v 0;
        at = spot_stands code v 0 (Enter n t) lines has;
        region = region;
      }

  -- ---- what a version may name

  pub record Knows (c : Context) (v : Version) : Type 0 where
    pub view : FuncView
    pub is : slice_get code.functions v.function ≡ Some view
    pub privates_are : view.privates ≡ c.privates
    pub inside : v.function < length code.functions
    pub region : IsRegionOrNone code v.region
    pub globals_are : code.globals ≡ c.globals
    pub same_globals : v.globals ≡ c.globals
    pub cells : (k cell : ℕ) → cell_of v.carried k ≡ Some cell → cell < CELL_LIMIT
    pub counts : map (λ (g : FuncView). g.parameters) code.functions ≡ c.parameters

  -- a private word of the function
  pub private_known : (c : Context) (v : Version) (knows : Knows c v) (k : ℕ) → k < c.privates → IsPrivate code v.function k
  private_known c v knows k lt = subst (λ o. k < privates_of o) (sym knows.is) (omega (arith, knows.privates_are))

  -- a part of a version's words, which begins with so many operands, and opens the regions from r to r'
  pub record Part (v : Version) (a : List Line) (h : ℕ) (b : List Line) (r r' : ℕ) : Type 0 where
    pub fine : Fine code (length a) (length b) r r'
    pub begins : Sits code v (length a) h

  pub part_and : (v : Version) (a : List Line) (h : ℕ) (b : List Line) (k : ℕ) (c : List Line) (r r' r'' : ℕ) → Part v a h b r r' → Part v b k c r' r'' → Part v a h c r r''
  part_and v a h b k c r r' r'' f g = record { fine = fine_and _ _ _ _ _ _ f.fine g.fine; begins = f.begins }

  pub sits_at : (v : Version) (p q h k : ℕ) → p ≡ q → h ≡ k → Sits code v p h → Sits code v q k
  sits_at v p q h k e f s = subst (λ x. Sits code v x k) e (subst (λ x. Sits code v p x) f s)

  beside : (v : Version) (h k p : ℕ) → Sits code v p k → IsBeside code (spot_of v h) p
  beside v h k p e = (spot_of v k, e, refl, refl)

  has_height : (v : Version) (h p : ℕ) → Sits code v p h → HasHeight code h p
  has_height v h p e t f = ap (λ (s : Spot). s.height) (same_some _ _ _ f e)

  module _ (c : Context) (v : Version) (knows : Knows c v) where
    -- a word that leads to places of its own version
    pub word_part : (h k : ℕ) (w : Word) (lines : List Line) (r : ℕ) → Has code (put v h w lines) → OpensNone w → h ≤ OPERAND_LIMIT
        → NamesKnown code w (spot_of v h) → StandsRight w (spot_of v h) → pops code w ≤ h → h - pops code w + pushes w ≡ k
        → AllByRecursion (λ t. Sits code v t k) (successors (length lines) w) → Part v lines h (put v h w lines) r r
    word_part h k w lines r has plain low names stands room next leads = record {
      fine = fine_word v h w lines r has plain (record {
        known = (knows.inside, knows.region);
        low = low;
        names = names;
        leads = each_so _ _ (λ t s. beside v h k t s) _ leads;
        balances = (room, each_so _ _ (λ t s. subst (λ n. HasHeight code n t) (sym next) (has_height v k t s)) _ leads);
        stands = stands;
      });
      begins = spot_stands code v h w lines has;
    }

    pub next_sits : (h k : ℕ) (w : Word) (lines : List Line) → Sits code v (length (put v h w lines)) k → Sits code v (length lines + 1) k
    next_sits h k w lines s = subst (λ p. Sits code v p k) (length-put v h w lines) s
