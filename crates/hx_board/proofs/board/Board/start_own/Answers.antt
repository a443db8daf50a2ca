use Rattle.std.proofs.Common.{arith, ◌≡◌, ◌+◌, length, true, false, ap, sym, subst, ◌∙◌}
use Rattle.hx_code.specs.Fits.{FitsLocal}
use Rattle.hx_code.specs.Region.{Opened, opening}
use Rattle.hx_frame.specs.Frame.{FrameView}
use Rattle.hx_speculation.specs.Frame.{Frame, begins}
use Rattle.hx_speculation.specs.Board.{Start, Go, Ended}
use Rattle.hx_slots.specs.Slots.{SlotsView}
use Rattle.hx_board.specs.Board.{BoardView, is_over, opened_at}
use Rattle.hx_board.specs.Calls.{Does}
use Rattle.hx_board.specs.Keeps.{Kept, view_of}
use Rattle.hx_board.proofs.Places.{numbered_none, none_free}
use Rattle.hx_board.proofs.Starts.{with_next, start_given, start_next, start_spends, start_kept}
use Rattle.hx_board.proofs.Steps.{runs_on, start_fits}
use Rattle.hx_board.proofs.board.Board.start_own.Goals as goal

pub restart-requires : goal.restart-requires
restart-requires c =
    let b = view_of c.self.inside in
    let inv = c.self.invariant in
    let over : is_over b ≡ false = ap is_over c.self.view_is ∙ sym c.is_over.ensures ∙ c.if-is_over.false in
    let fits = start_fits b c.known.ensures inv.is_opened (runs_on b.exit b.is_spent over) inv.kept c.place_of-place.result c.at-slot.result.now.slot c.at-slot.ensures in
    let code = c.requires.own.code ∙ sym (ap (λ (v : BoardView). v.setup.code) c.self.view_is) in
    subst (λ k. FitsLocal k c.start.result.now) (sym code) (subst (FitsLocal b.setup.code) (sym c.start.ensures) fits)

pub returns-then-place-len-clause-does : goal.returns-then-place-len-clause-does
returns-then-place-len-clause-does c =
    let b = view_of c.self.inside in
    let over : is_over b ≡ false = ap is_over c.self.view_is ∙ sym c.is_over.ensures ∙ c.if-is_over.false in
    let given = start_given b c.args.worker c.place_of-place.result c.at-slot.result.now.slot over c.place_of-place.ensures.number c.at-slot.ensures in
    let frame : c.tag.new.self.frame ≡ begins c.args.worker (b.head + c.place_of-place.result) c.at-slot.result.now.slot.attempt c.at-slot.result.now.slot.start =
    ap (λ (f : FrameView). f.frame) c.tag.ensures ∙ ap (λ (f : FrameView). Rattle.hx_speculation.specs.Frame.tagged c.args.worker (b.head + c.place_of-place.result) c.attempt-attempt.result f.frame) c.restart.ensures ∙ ap (λ n. begins c.args.worker (b.head + c.place_of-place.result) n c.start.result.now) c.attempt-attempt.ensures ∙ ap (begins c.args.worker (b.head + c.place_of-place.result) c.at-slot.result.now.slot.attempt) c.start.ensures in
    subst (λ (v : BoardView). Does v (Start c.args.worker true) (Go c.tag.new.self.frame) v) c.self.view_is
    (subst (λ f. Does b (Start c.args.worker true) (Go f) b) (sym frame) given)

pub returns-then-self-active-clause-does : goal.returns-then-self-active-clause-does
returns-then-self-active-clause-does c =
    let b = view_of c.self.inside in
    let over : is_over b ≡ false = ap is_over c.self.view_is ∙ sym c.is_over.ensures ∙ c.if-is_over.false in
    let spent = start_spends b c.args.worker c.place_of-place.result over c.place_of-place.ensures.number (omega (arith, c.len.ensures, c.if-place-len.false)) (omega (arith, c.len-active.ensures, c.if-self-active.true)) in
    subst (λ (v : BoardView). Does v (Start c.args.worker true) Ended (view_of (record c.self.inside { is_spent = true }))) c.self.view_is spent

pub begin-requires-2-clause-free : goal.begin-requires-2-clause-free
begin-requires-2-clause-free c =
    let xs = c.self.inside.slots.active in
    none_free c.args.worker 0 xs (c.place_of-place.ensures.number 0 ∙ numbered_none 0 xs c.place_of-place.result (omega (arith, c.len.ensures, c.if-place-len.false)))

next : (c : goal.After-tag-2) → Does (view_of c.self.inside) (Start c.args.worker true) (Go (begins c.args.worker (c.self.inside.head + length c.self.inside.slots.active) 1 c.begin.new.self)) (with_next (view_of c.self.inside) c.args.worker c.begin.new.self)
next c =
    let b = view_of c.self.inside in
    let over : is_over b ≡ false = ap is_over c.self.view_is ∙ sym c.is_over.ensures ∙ c.if-is_over.false in
    let o = opened_at b.setup in
    let same = c.self.invariant.opened in
    let at = c.begin.ensures.begun o (sym (ap (λ (p : Opened). p.region) same)) (sym (ap (λ (p : Opened). p.below) same)) (sym (ap (λ (p : Opened). p.words) same)) ∙ ap (λ n. opening b.setup.code o (b.head + n)) c.len-active.ensures in
    start_next b c.args.worker c.place_of-place.result c.begin.new.self over c.place_of-place.ensures.number (omega (arith, c.len.ensures, c.if-place-len.false)) (omega (arith, c.len-active.ensures, c.if-self-active.false, c.self.invariant.kept.numbers)) at

pub invariant_of-self-2 : goal.invariant_of-self-2
invariant_of-self-2 c =
    let inv = c.self.invariant in
    let b = view_of c.self.inside in
    let kept = start_kept b c.args.worker c.begin.new.self _ (omega (arith, c.len-active.ensures, c.if-self-active.false, inv.kept.numbers)) (next c) inv.kept in
    subst (λ (s : SlotsView). Kept (record c.self.inside { opening = c.begin.new.self; slots = s })) (sym c.begin-2.ensures)
    (record { fits = inv.fits; opened = inv.opened; is_opened = inv.is_opened; kept = kept; rooms = inv.rooms; room = inv.room; own_room = inv.own_room })

pub returns-clause-does : goal.returns-clause-does
returns-clause-does c =
    let b = view_of c.self.inside in
    let number = c.self.inside.head + c.len-active.result in
    let frame : c.tag-2.new.self.frame ≡ begins c.args.worker (b.head + length b.active) 1 c.begin.new.self =
    ap (λ (f : FrameView). f.frame) c.tag-2.ensures ∙ ap (λ (f : FrameView). Rattle.hx_speculation.specs.Frame.tagged c.args.worker number 1 f.frame) c.restart-2.ensures ∙ ap (λ n. begins c.args.worker (b.head + n) 1 c.begin.new.self) c.len-active.ensures in
    let went = subst (λ f. Does b (Start c.args.worker true) (Go f) (with_next b c.args.worker c.begin.new.self)) (sym frame) (next c) in
    let moved = subst (λ (s : SlotsView). Does b (Start c.args.worker true) (Go c.tag-2.new.self.frame) (view_of (record c.self.inside { opening = c.begin.new.self; slots = s }))) (sym c.begin-2.ensures) went in
    subst (λ (v : BoardView). Does v (Start c.args.worker true) (Go c.tag-2.new.self.frame) (view_of (record c.self.inside { opening = c.begin.new.self; slots = c.begin-2.new.self }))) c.self.view_is moved
