-- One place after another.
use Rattle.std.proofs.Common.{◌≡◌, ℕ, zero, suc, ◌+◌, ◌<◌, ℤ, true, List, [], ◌∷◌, ◌++◌, length, map, get_or, set, take, drop, refl, sym, ap, ap₂, ◌∙◌, append_assoc, arith, drop-set-lt}
use Rattle.std.proofs.lemmas.List.{take_more, take_more_set, drop_more, map-append}
use Rattle.hx_marks.specs.Table.{look}
use Rattle.hx_buffer.specs.Overlay.{or_else}
use Rattle.hx_code.specs.Local.{LocalView}
use Rattle.hx_speculation.specs.Slots.{Slot, restarted, may_restart}
use Rattle.hx_speculation.proofs.Stores.{and_right}
use Rattle.hx_slots.specs.Slot.{SlotView, slots_of, rooms_of}
use Rattle.hx_slots.specs.Slots.{seen_behind}

seen_last : (a : ℕ) (u : ℤ) (xs : List SlotView) (y : SlotView) → seen_behind a u (slots_of (xs ++ y ∷ [])) ≡ or_else (look y.slot.buffer a) (seen_behind a u (slots_of xs))
seen_last a u [] y = refl
seen_last a u (x ∷ xs) y = seen_last a (or_else (look x.slot.buffer a) u) xs y

pub seen_more : (a : ℕ) (u v : ℤ) (xs : List SlotView) (k : ℕ) (y : SlotView) → k < length xs → y ≡ get_or xs k y → v ≡ or_else (look y.slot.buffer a) (seen_behind a u (slots_of (take k xs))) → v ≡ seen_behind a u (slots_of (take (k + 1) xs))
seen_more a u v xs k y lt is v_is =
    let more : take (k + 1) xs ≡ take k xs ++ y ∷ [] = take_more xs k y lt ∙ ap (λ z. take k xs ++ z ∷ []) (sym is) in
    v_is ∙ sym (seen_last a u (take k xs) y) ∙ ap (λ l. seen_behind a u (slots_of l)) (sym more)

-- those before k have begun again, from one on
pub record Restarting (before : List (Slot LocalView)) (rooms : List _) (k : ℕ) (now : List SlotView) : Type 0 where
  pub may : may_restart (slots_of (drop k now)) ≡ true
  pub slots : before ≡ slots_of (take k now) ++ map restarted (slots_of (drop k now))
  pub rooms_stay : rooms_of now ≡ rooms

rooms_set : (xs : List SlotView) (k : ℕ) (x y : SlotView) → k < length xs → y.rooms ≡ (get_or xs k x).rooms → rooms_of (set xs k y) ≡ rooms_of xs
rooms_set [] k d y lt e = refl
rooms_set (x ∷ xs) zero d y lt e = ap (λ r. r ∷ rooms_of xs) e
rooms_set (x ∷ xs) (suc k) d y lt e = ap (λ rs. x.rooms ∷ rs) (rooms_set xs k d y (omega arith) e)

module _ (before : List (Slot LocalView)) (rooms : List _) (k : ℕ) (now : List SlotView) (d y : SlotView) (h : Restarting before rooms k now) (lt : k < length now) where
  abbrev x : SlotView
  x = get_or now k d

  here : drop k now ≡ x ∷ drop (k + 1) now
  here = drop_more now k d lt

  may_here : may_restart (slots_of (x ∷ drop (k + 1) now)) ≡ true
  may_here = ap (λ l. may_restart (slots_of l)) (sym here) ∙ h.may

  abbrev now_after : List SlotView
  now_after = set now k y

  rest_stays : drop (k + 1) now_after ≡ drop (k + 1) now
  rest_stays = drop-set-lt (k + 1) now k y (omega arith)

  done_more : y.slot ≡ restarted x.slot → slots_of (take k now) ++ map restarted (slots_of (drop k now)) ≡ slots_of (take (k + 1) now_after) ++ map restarted (slots_of (drop (k + 1) now_after))
  done_more e =
      let left : slots_of (take (k + 1) now_after) ≡ slots_of (take k now) ++ y.slot ∷ [] = ap slots_of (take_more_set now k y lt) ∙ map-append (λ (z : SlotView). z.slot) (take k now) (y ∷ []) in
      let right : map restarted (slots_of (drop (k + 1) now_after)) ≡ map restarted (slots_of (drop (k + 1) now)) = ap (λ l. map restarted (slots_of l)) rest_stays in
      let first : map restarted (slots_of (drop k now)) ≡ y.slot ∷ map restarted (slots_of (drop (k + 1) now)) = ap (λ l. map restarted (slots_of l)) here ∙ ap (λ z. z ∷ map restarted (slots_of (drop (k + 1) now))) (sym e) in
      ap (λ l. slots_of (take k now) ++ l) first
      ∙ sym (append_assoc (slots_of (take k now)) (y.slot ∷ []) (map restarted (slots_of (drop (k + 1) now))))
      ∙ ap₂ (λ l m. l ++ m) (sym left) (sym right)

  pub restart_more : y.slot ≡ restarted x.slot → y.rooms ≡ x.rooms → Restarting before rooms (k + 1) now_after
  restart_more e r = record {
    may = ap (λ l. may_restart (slots_of l)) rest_stays ∙ and_right _ _ may_here;
    slots = h.slots ∙ done_more e;
    rooms_stay = rooms_set now k d y lt r ∙ h.rooms_stay;
  }
