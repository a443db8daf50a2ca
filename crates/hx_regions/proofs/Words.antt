-- In valid code, what one word of a local state asks for fits.
use Rattle.std.proofs.Common.{◌≡◌, ℕ, zero, suc, ◌+◌, ◌≤◌, ℤ, List, [], ◌∷◌, length, Option, Some, None, Bool, true, false, refl, ap, sym, subst, ◌∙◌, arith, length-set}
use Rattle.std.specs.Prelude.{if◌then◌else◌, nat_le, slice_get, slice_set, slice_index_or}
use Rattle.std.proofs.lemmas.Bool.{leb-false}
use Rattle.std.proofs.lemmas.Option.{slice_get-get_or}
use Rattle.hx_tree.specs.declared.token.Pos.{Pos}
use Rattle.hx_tree.specs.declared.outcome.FaultKind.TheVariants.{CallTooDeep}
use Rattle.hx_code.specs.declared.word.Word.{Word}
use Rattle.hx_code.specs.declared.word.Word.TheVariants.{Leave}
use Rattle.hx_code.specs.declared.word.Ask.{Ask}
use Rattle.hx_code.specs.declared.word.Ask.TheVariants.{Goes, Loads, Stores, Prints, Faults, Calls, Enters, Turns, Leaves, Returns}
use Rattle.hx_code.specs.Code.{CodeView}
use Rattle.hx_code.specs.Valid.{IsValid}
use Rattle.hx_code.specs.Call.{CallView, Want, Asks, Stuck, fault_at, wants, wants_of, wants_at}
use Rattle.hx_code.specs.Local.{LocalView, LocalWant, LocalAsks, LocalStuck, with_calls, asks_of, by_calls, by_want, asked_by, called, returned, entered, opened, callee, with_arguments, blank, pushed, moved}
use Rattle.hx_code.specs.Fits.{FitsIn, FitsLocal, FitsCalls, FitsBelow, WaitsPast, WellAsked, WellWanted, LocalWell, MayOpen, region_over, region_in}
use Rattle.hx_code.proofs.Fits.{well_at, place_in}
use Rattle.hx_frame.specs.Automaton.{asked_by as as_asked, ask_in}
use Rattle.hx_regions.specs.Region.{StandsIn, FitsAsked}

-- what is asked is well, in the same region
abbrev pub IsWell : CodeView → Option ℕ → LocalWant → Type 0
IsWell code r LocalStuck = ⊥
IsWell code r (LocalAsks ask l) = LocalWell code ask l × (l.region ≡ r)

in_region : (r : Option ℕ) (rest : List CallView) (q : ℕ) → region_over r rest ≡ Some q → r ≡ Some q
in_region r [] q e = e
in_region r (c ∷ rest) q e = absurd cc

length-with_arguments : (n : ℕ) (os ps : List ℤ) → length (with_arguments n os ps) ≡ length ps
length-with_arguments zero os ps = refl
length-with_arguments (suc n) [] ps = refl
length-with_arguments (suc n) (v ∷ os) ps = length-with_arguments n os (slice_set ps n v) ∙ length-set ps n v

-- a call, in a region, above these
abbrev over : ℕ → Option ℕ → List CallView → CallView → LocalView
over below r rest c = record { below = below; region = r; calls = c ∷ rest }

returned_well : (code : CodeView) (below : ℕ) (r : Option ℕ) (rest : List CallView) → FitsBelow code r rest → below + suc (length rest) ≤ 64 → (v : ℤ) (d : CallView) → IsWell code r (returned v (over below r rest d) rest)
returned_well code below r [] under deep v d = (tt, refl)
returned_well code below r (c ∷ rest) under deep v d = (record { deep = omega (arith, deep); calls = (under.0 v, under.1) }, refl)

module _ (code : CodeView) (valid : IsValid code) (below : ℕ) (r : Option ℕ) (rest : List CallView) (under : FitsBelow code r rest) (deep : below + suc (length rest) ≤ 64) where
  fits : (d : CallView) → FitsIn code (region_over r rest) d → FitsLocal code (over below r rest d)
  fits d f = record { deep = deep; calls = (f, under) }

  called_well : (d : CallView) (f : ℕ) (at : Pos) → WaitsPast code (region_over r rest) f d → IsWell code r (called (slice_get code.functions f) at (over below r rest d))
  called_well d f at w = subst (λ o. IsWell code r (called o at (over below r rest d))) (sym w.1) (tested (nat_le 64 (below + suc (length rest))) refl)
    where
      tested : (t : Bool) → nat_le 64 (below + suc (length rest)) ≡ t → IsWell code r (if t then LocalAsks (Faults (fault_at CallTooDeep at)) (over below r rest d) else LocalAsks Goes (with_calls (over below r rest d) (opened w.0 (d ∷ rest))))
      tested true e = (tt, refl)
      tested false e =
          let room = leb-false 64 (below + suc (length rest)) e in
          let entry = valid.functions f w.0 w.1 in
          let long : length (with_arguments w.0.parameters d.operands blank) ≡ 64 = length-with_arguments w.0.parameters d.operands blank in
          let top : FitsIn code None (callee w.0 d) = (record { spot = record { function = f; region = None; height = 0 }; at = entry; operands = refl; privates = long }, ap region_in entry) in
          (record { deep = omega (arith, room); calls = (top, (w.3, under)) }, refl)

  entered_well : (d : CallView) (q t : ℕ) (x : Option ℕ) → r ≡ x → FitsIn code (region_over r rest) (moved t d) → MayOpen code q d → IsWell code r (entered x q t (over below r rest d))
  entered_well d q t None is f may = ((is, fits (moved t d) f, may), refl)
  entered_well d q t (Some s) is f may = (fits (moved t d) f, refl)

  asked_well : (ask : Ask) (d : CallView) → WellAsked code (region_over r rest) ask d → IsWell code r (asked_by code ask (over below r rest d) rest)
  asked_well Goes d w = (fits d w, refl)
  asked_well (Loads a) d w = ((w.0, λ v. fits (pushed v d) (w.1 v)), refl)
  asked_well (Stores a v) d w = ((w.0, fits d w.1), refl)
  asked_well (Prints output at) d w = (fits d w, refl)
  asked_well (Faults fault) d w = (tt, refl)
  asked_well (Calls f at) d w = called_well d f at w
  asked_well (Enters q t) d w = entered_well d q t r refl w.1 w.2
  asked_well Turns d w = ((w.0, in_region r rest w.0 w.1), refl)
  asked_well Leaves d w = ((w.0, in_region r rest w.0 w.1), refl)
  asked_well (Returns v) d w = returned_well code below r rest under deep v d

  want_well : (c : CallView) (w : Want) → WellWanted code (region_over r rest) w → IsWell code r (by_want code (over below r rest c) rest w)
  want_well c Stuck h = h
  want_well c (Asks ask d) h = asked_well ask d h

  top_well : (c : CallView) → FitsIn code (region_over r rest) c → IsWell code r (by_want code (over below r rest c) rest (wants_at code c))
  top_well c f =
      let w : Word = slice_index_or code.words c.place Leave in
      let at : slice_get code.words c.place ≡ Some w = slice_get-get_or code.words c.place Leave (place_in code valid c f.0) in
      let here = subst (λ q. WellWanted code q (wants w c)) f.1 (well_at code valid c w f.0 at) in
      subst (λ o. IsWell code r (by_want code (over below r rest c) rest (wants_of o c))) (sym at) (want_well c (wants w c) here)

-- no word of valid code is stuck, and each leaves a local state as its next place says
pub word_well : (code : CodeView) → IsValid code → (l : LocalView) → FitsLocal code l → IsWell code l.region (asks_of code l)
word_well code valid l f = by l.calls f.calls f.deep
  where
    by : (cs : List CallView) → FitsCalls code l.region cs → l.below + length cs ≤ 64 → IsWell code l.region (by_calls code (with_calls l cs) cs)
    by [] h deep = h
    by (c ∷ rest) h deep = top_well code valid l.below l.region rest h.1 deep c h.0

want_fits : (code : CodeView) (r : ℕ) (l : LocalView) (w : LocalWant) → IsWell code (Some r) w → FitsAsked code r (as_asked l w)
want_fits code r l LocalStuck h = absurd h
want_fits code r l (LocalAsks Goes m) h = record { fits = h.0; region = h.1 }
want_fits code r l (LocalAsks (Loads a) m) h = (h.0.0, λ v. record { fits = h.0.1 v; region = h.1 })
want_fits code r l (LocalAsks (Stores a v) m) h = (h.0.0, record { fits = h.0.1; region = h.1 })
want_fits code r l (LocalAsks (Prints output at) m) h = record { fits = h.0; region = h.1 }
want_fits code r l (LocalAsks (Faults fault) m) h = tt
want_fits code r l (LocalAsks (Calls f at) m) h = absurd h.0
want_fits code r l (LocalAsks (Enters q t) m) h = tt
want_fits code r l (LocalAsks Turns m) h = tt
want_fits code r l (LocalAsks Leaves m) h = tt
want_fits code r l (LocalAsks (Returns v) m) h = tt

-- the same in a region
pub inside_well : (code : CodeView) → IsValid code → (r : ℕ) (l : LocalView) → StandsIn code r l → IsWell code (Some r) (asks_of code l)
inside_well code valid r l s = subst (λ x. IsWell code x (asks_of code l)) s.region (word_well code valid l s.fits)

pub word_fits : (code : CodeView) → IsValid code → (r : ℕ) (l : LocalView) → StandsIn code r l → FitsAsked code r (ask_in code l)
word_fits code valid r l s = want_fits code r l (asks_of code l) (inside_well code valid r l s)
