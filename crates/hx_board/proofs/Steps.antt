-- A call of the definition on the board that contracts see, and what is kept through it.
use Rattle.std.proofs.Common.{◌≡◌, ℕ, zero, suc, ◌+◌, ◌≤◌, List, [], ◌∷◌, length, Option, Some, None, Bool, true, false, refl, ap, sym, subst, ◌∙◌}
use Rattle.std.specs.Prelude.{if◌then◌else◌, slice_get}
use Rattle.hx_tree.specs.declared.limits.TheConstants.{TEXT_LIMIT}
use Rattle.hx_code.specs.declared.word.Exit.{Exit}
use Rattle.hx_code.specs.Local.{LocalView}
use Rattle.hx_code.specs.Valid.{IsValid}
use Rattle.hx_code.specs.Fits.{FitsLocal}
use Rattle.hx_code.specs.Region.{opening}
use Rattle.hx_word.specs.Running.{IsOpened}
use Rattle.hx_speculation.specs.Region.{Comes}
use Rattle.hx_speculation.specs.Slots.{Slot}
use Rattle.hx_speculation.specs.Board.{Call, Answer, Ended, has_ended, does, call}
use Rattle.hx_speculation.specs.Sound.{IsSound, HasTrackedFrame, AreOpening, RestIsOpening, starts_of, shown}
use Rattle.hx_speculation.proofs.Calls.{call_sound}
use Rattle.hx_regions.specs.Region.{store_of}
use Rattle.hx_regions.proofs.Plain.{comes_fits, opening_stands}
use Rattle.hx_board.specs.Board.{BoardView, Setup, opened_at, region_on, board_of, is_over}
use Rattle.hx_board.specs.Calls.{Does, Becomes}
use Rattle.hx_board.specs.Known.{IsKept}

-- a board that isn't over does what the call says
pub runs : (b : BoardView) (c : Call LocalView) → is_over b ≡ false → call (region_on b.setup) b.setup.capacities c (board_of b) ≡ does (region_on b.setup) b.setup.capacities c (board_of b)
runs b c e = ap (λ t. if t then (Ended, board_of b) else does (region_on b.setup) b.setup.capacities c (board_of b)) e

-- and one that is over stays
pub stays : (b : BoardView) (c : Call LocalView) → is_over b ≡ true → call (region_on b.setup) b.setup.capacities c (board_of b) ≡ (Ended, board_of b)
stays b c e = ap (λ t. if t then (Ended, board_of b) else does (region_on b.setup) b.setup.capacities c (board_of b)) e

pub runs_on : (e : Option Exit) (is_spent : Bool) → has_ended e is_spent ≡ false → e ≡ None
runs_on None is_spent h = refl
runs_on (Some x) is_spent h = absurd cc

-- the board after a call is sound
pub sound_after : (b after : BoardView) (c : Call LocalView) → HasTrackedFrame (region_on b.setup) c → Becomes b c after → IsSound (region_on b.setup) (store_of b.setup.entry.store) (board_of b) → IsSound (region_on after.setup) (store_of after.setup.entry.store) (board_of after)
sound_after b after c t d k =
    let sound = call_sound (region_on b.setup) (store_of b.setup.entry.store) b.setup.capacities c (board_of b) t k in
    let now = subst (IsSound (region_on b.setup) (store_of b.setup.entry.store)) d.step sound in
    subst (λ (u : Setup). IsSound (region_on u) (store_of u.entry.store) (board_of after)) (sym d.setup) now

pub becomes : (b after : BoardView) (c : Call LocalView) (answer : Answer LocalView) → Does b c answer after → Becomes b c after
becomes b after c answer d = record { step = ap (λ p. p.1) d.step; setup = d.setup }

-- ---- starts fit

running_shown : (b : BoardView) → b.exit ≡ None → IsKept b → Comes (region_on b.setup) (store_of b.setup.entry.store) (shown (region_on b.setup) (board_of b) None)
running_shown b e k = subst (λ o. Comes (region_on b.setup) (store_of b.setup.entry.store) (shown (region_on b.setup) (board_of b) o)) e k.sound.prefix

opening_fits_at : (b : BoardView) → IsValid b.setup.code → IsOpened b.setup.code (opened_at b.setup) → (j : ℕ) (xs : List (Slot LocalView)) → AreOpening (region_on b.setup) j (starts_of xs) → (k : ℕ) (x : Slot LocalView) → slice_get xs k ≡ Some x → FitsLocal b.setup.code x.start
opening_fits_at b valid is j [] o k x e = absurd cc
opening_fits_at b valid is j (y ∷ xs) o zero x e =
    let yx : y ≡ x = cc in
    let at : x.start ≡ opening b.setup.code (opened_at b.setup) j = ap (λ (z : Slot LocalView). z.start) (sym yx) ∙ o.0 in
    subst (FitsLocal b.setup.code) (sym at) (opening_stands b.setup.code valid (opened_at b.setup) is j).fits
opening_fits_at b valid is j (y ∷ xs) o (suc k) x e = opening_fits_at b valid is (suc j) xs o.1 k x e

head_fits : (b : BoardView) → IsValid b.setup.code → IsOpened b.setup.code (opened_at b.setup) → (x : Slot LocalView) (xs : List (Slot LocalView)) → b.active ≡ x ∷ xs → b.exit ≡ None → IsKept b → FitsLocal b.setup.code x.start
head_fits b valid is x xs a e k =
    let comes = subst (λ l. Comes (region_on b.setup) (store_of b.setup.entry.store) (shown (region_on b.setup) (record (board_of b) { active = l }) None)) a (running_shown b e k) in
    (comes_fits b.setup.code valid (opened_at b.setup) is (store_of b.setup.entry.store) _ comes).0.fits

pub start_fits : (b : BoardView) → IsValid b.setup.code → IsOpened b.setup.code (opened_at b.setup) → b.exit ≡ None → IsKept b → (k : ℕ) (x : Slot LocalView) → slice_get b.active k ≡ Some x → FitsLocal b.setup.code x.start
start_fits b valid is e kept k x g = by b.active refl k g
  where
    by : (xs : List (Slot LocalView)) → b.active ≡ xs → (k : ℕ) → slice_get xs k ≡ Some x → FitsLocal b.setup.code x.start
    by [] a k g = absurd cc
    by (y ∷ xs) a zero g = let yx : y ≡ x = cc in subst (λ (z : Slot LocalView). FitsLocal b.setup.code z.start) yx (head_fits b valid is y xs a e kept)
    by (y ∷ xs) a (suc k) g = opening_fits_at b valid is (suc b.head) xs (subst (λ l. RestIsOpening (region_on b.setup) b.head (starts_of l)) a kept.sound.rest) k x g

-- ---- the text fits

text_of : (b : BoardView) → IsValid b.setup.code → IsOpened b.setup.code (opened_at b.setup) → IsKept b → (e : Option Exit) → Comes (region_on b.setup) (store_of b.setup.entry.store) (shown (region_on b.setup) (board_of b) e) → b.setup.entry.printed + length b.text ≤ TEXT_LIMIT
text_of b valid is k None c = (comes_fits b.setup.code valid (opened_at b.setup) is (store_of b.setup.entry.store) _ c).1
text_of b valid is k (Some x) c = comes_fits b.setup.code valid (opened_at b.setup) is (store_of b.setup.entry.store) _ c

pub text_fits : (b : BoardView) → IsValid b.setup.code → IsOpened b.setup.code (opened_at b.setup) → IsKept b → b.setup.entry.printed + length b.text ≤ TEXT_LIMIT
text_fits b valid is k = text_of b valid is k b.exit k.sound.prefix
