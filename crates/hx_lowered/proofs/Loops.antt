-- The words of loops and regions keep the rules, where their bodies' words do.
use Rattle.std.proofs.Common.{◌≡◌, ℕ, ◌+◌, length, Some, refl, arith}
use Rattle.hx_resolved.specs.Resolved.{Clauses}
use Rattle.hx_code.specs.declared.word.Word.TheVariants.{Jump, Turn, Leave}
use Rattle.hx_code.specs.Code.{CodeView}
use Rattle.hx_lowering.specs.Size.{turn_size}
use Rattle.hx_lowering.specs.Lines.{Version, test_lines}
use Rattle.hx_lowering.specs.Draft.{Draft, with_lines, Targets, put_word, turn_draft, targets, plain_draft, turns_draft}
use Rattle.hx_lowering.proofs.Stand.{spot_stands}
use Rattle.hx_lowered.proofs.WellFormed.{Context, FitsTest, FitsStep}
use Rattle.hx_lowered.proofs.Fine.{Sits, Knows, Part, part_and, sits_at, word_part}
use Rattle.hx_lowered.proofs.Behind.{behind_test, behind_step}
use Rattle.hx_lowered.proofs.Drafts.{Holds, Grows, grows_lines, grows_word, plain_grows, turns_grows}
use Rattle.hx_lowered.proofs.Assignments.{test_part, step_part}

-- the words of a draft behind those of another
abbrev pub DraftPart : CodeView → Version → Draft → Draft → Type 0
DraftPart code v d d' = Part code v d.lines 0 d'.lines (length d.regions) (length d'.regions)

-- what is known of the words of a body in a draft
abbrev pub BodyPart : CodeView → Version → (Draft → Draft) → Draft → Type 0
BodyPart code v body d = Holds code (body d) → Sits code v (length (body d).lines) 0 → DraftPart code v d (body d)

-- and where `break` and `continue` go
abbrev pub LoopBody : CodeView → Version → (Targets → Draft → Draft) → Type 0
LoopBody code v body = (to : Targets) (d : Draft) → Sits code v to.break_to 0 → Sits code v to.continue_to 0 → BodyPart code v (body to) d

module _ (code : CodeView) (x : Context) (c : Clauses) (size : ℕ) where
  module _ (v : Version) (knows : Knows code x v) where
    pub turn_part : (exit : ℕ) (body : Draft → Draft) (d : Draft) → ((d' : Draft) → Grows code d' size (body d')) → FitsTest x c.test → FitsStep x c.step
        → Sits code v exit 0 → Holds code (turn_draft c exit v body d) → Sits code v (length (turn_draft c exit v body d).lines) 0
        → (Sits code v (length (body (with_lines d (test_lines c.test exit v d.lines))).lines) 0 → BodyPart code v body (with_lines d (test_lines c.test exit v d.lines)))
        → DraftPart code v d (turn_draft c exit v body d)
    turn_part exit body d grows test step out holds end h =
        let tested = with_lines d (test_lines c.test exit v d.lines) in
        let done = body tested in
        let holds_done = (grows_lines code done _ _ (behind_step code c.step v done.lines)).holds holds in
        let r = length d.regions in
        let r' = length done.regions in
        let last = step_part code x v knows c.step done.lines r' step holds.lines end in
        let middle = h last.begins holds_done last.begins in
        let first = test_part code x v knows c.test exit d.lines r test ((grows tested).holds holds_done).lines out middle.begins in
        part_and code v d.lines 0 tested.lines 0 _ r r r' first (part_and code v tested.lines 0 done.lines 0 _ r r' r' middle last)

    pub plain_part : (body : Targets → Draft → Draft) (d : Draft) → ((to : Targets) (d' : Draft) → Grows code d' size (body to d')) → FitsTest x c.test → FitsStep x c.step
        → Holds code (plain_draft c size body v d) → Sits code v (length (plain_draft c size body v d).lines) 0 → LoopBody code v body
        → DraftPart code v d (plain_draft c size body v d)
    plain_part body d grows test step holds end h =
        let start = length d.lines in
        let exit = start + turn_size c size + 1 in
        let to = targets c size start in
        let tested = with_lines d (test_lines c.test exit v d.lines) in
        let turn = turn_draft c exit v (body to) d in
        let long = (plain_grows code c size body v d grows).long in
        let out = sits_at code v _ exit 0 0 (omega (arith, long)) refl end in
        let holds_turn = (grows_word code v 0 (Jump start) turn).holds holds in
        let at_body = (grows to tested).long in
        let at_test = (behind_test code c.test exit v d.lines).long in
        let jump_sits = spot_stands code v 0 (Jump start) turn.lines holds.lines in
        let first = turn_part exit (body to) d (grows to) test step out holds_turn jump_sits
        (λ s. h to tested out (sits_at code v _ to.continue_to 0 0 (omega (arith, at_body, at_test)) refl s)) in
        let r = length d.regions in
        let r' = length turn.regions in
        let jump = word_part code x v knows 0 0 (Jump start) turn.lines r' holds.lines tt (omega arith) tt tt (omega arith) (omega arith) (first.begins, tt) in
        part_and code v d.lines 0 turn.lines 0 _ r r' r' first jump

    -- the version of a region
    pub turns_part : (body : Targets → Draft → Draft) (d : Draft) (number : ℕ) → v.region ≡ Some number
        → ((to : Targets) (d' : Draft) → Grows code d' size (body to d')) → FitsTest x c.test → FitsStep x c.step
        → Holds code (turns_draft c size body v d) → LoopBody code v body → DraftPart code v d (turns_draft c size body v d)
    turns_part body d number is grows test step holds h =
        let start = length d.lines in
        let exit = start + turn_size c size + 1 in
        let to = targets c size start in
        let tested = with_lines d (test_lines c.test exit v d.lines) in
        let turn = turn_draft c exit v (body to) d in
        let turned = put_word v 0 Turn turn in
        let long = (turns_grows code c size body v d grows).long in
        let long_turned = (grows_word code v 0 Leave turned).long in
        let leave_sits = spot_stands code v 0 Leave turned.lines holds.lines in
        let out = sits_at code v _ exit 0 0 (omega (arith, long, long_turned)) refl leave_sits in
        let holds_turned = (grows_word code v 0 Leave turned).holds holds in
        let holds_turn = (grows_word code v 0 Turn turn).holds holds_turned in
        let at_body = (grows to tested).long in
        let at_test = (behind_test code c.test exit v d.lines).long in
        let turn_sits = spot_stands code v 0 Turn turn.lines holds_turned.lines in
        let first = turn_part exit (body to) d (grows to) test step out holds_turn turn_sits
        (λ s. h to tested out (sits_at code v _ to.continue_to 0 0 (omega (arith, at_body, at_test)) refl s)) in
        let r = length d.regions in
        let r' = length turn.regions in
        let second = word_part code x v knows 0 0 Turn turn.lines r' holds_turned.lines tt (omega arith) tt (number, is, refl) (omega arith) (omega arith) tt in
        let third = word_part code x v knows 0 0 Leave turned.lines r' holds.lines tt (omega arith) tt (number, is, refl) (omega arith) (omega arith) tt in
        part_and code v d.lines 0 turn.lines 0 _ r r' r' first (part_and code v turn.lines 0 turned.lines 0 _ r' r' r' second third)
