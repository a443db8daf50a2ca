use Rattle.std.proofs.Common.{◌≡◌, Some, refl, ap, sym, subst, ◌∙◌}
use Rattle.std.specs.Prelude.{slice_get, slice_index_or}
use Rattle.hx_trace.specs.Turns.{MayBeHeld, token_at}
use Rattle.hx_trace.proofs.Worlds.{there, told_at, own_at, other_at, none_turns, own_turns, other_stays}
use Rattle.hx_trace.proofs.trace.turn.Goals as goal

pub enter-token-requires-clause-own : goal.enter-token-requires-clause-own
enter-token-requires-clause-own c = c.requires.keeps.own _ _ (there _ _ _ _ c.requires.keeps.many c.requires.worker)

pub enter-token-requires-then-holder-number-clause-own : goal.enter-token-requires-then-holder-number-clause-own
enter-token-requires-then-holder-number-clause-own c = c.requires.keeps.own _ _ (there _ _ _ _ c.requires.keeps.many c.requires.worker)

pub enter-token-requires-else-holder-number-clause-own : goal.enter-token-requires-else-holder-number-clause-own
enter-token-requires-else-holder-number-clause-own c = c.requires.keeps.own _ _ (there _ _ _ _ c.requires.keeps.many c.requires.worker)

pub enter-token-requires-then-holder-number-clause-token : goal.enter-token-requires-then-holder-number-clause-token
enter-token-requires-then-holder-number-clause-token c =
    let h = c.in-Some.field-0 in
    let k = subst (MayBeHeld c.args.board.now c.args.workers.now) c.in-Some.is c.requires.keeps.held in
    let x = slice_index_or c.args.workers.now c.args.number c.index-workers-number.result in
    let at : slice_get c.args.workers.now c.args.number ≡ Some x = there _ _ c.index-workers-number.result _ c.requires.keeps.many c.requires.worker in
    let mine = c.if-holder-number.true in
    record { worker = k.own ∙ mine; runs = k.runs x (subst (λ n. slice_get c.args.workers.now n ≡ Some x) (sym mine) at); out = k.out }

-- nobody has a token

pub returns-in-None-clause-step : goal.returns-in-None-clause-step
returns-in-None-clause-step c =
    let e = c.enter-token in
    (none_turns c.args.number c.args.board.now e.new.board c.args.workers.now _ e.new.worker e.result.0 (there _ _ c.index-workers-number.result _ c.requires.keeps.many c.requires.worker) c.requires.worker c.args.held c.held_by.result c.in-None.is c.held_by.ensures c.requires.keeps e.ensures.moves).step

pub returns-in-None-clause-told : goal.returns-in-None-clause-told
returns-in-None-clause-told c =
    told_at c.args.number c.args.board.now c.args.workers.now _ c.args.held _ c.enter-token.result.1 (there _ _ c.index-workers-number.result _ c.requires.keeps.many c.requires.worker) (ap (λ h. token_at h c.args.number) c.in-None.is) c.enter-token.ensures.told

pub returns-in-None-clause-keeps : goal.returns-in-None-clause-keeps
returns-in-None-clause-keeps c =
    let e = c.enter-token in
    (none_turns c.args.number c.args.board.now e.new.board c.args.workers.now _ e.new.worker e.result.0 (there _ _ c.index-workers-number.result _ c.requires.keeps.many c.requires.worker) c.requires.worker c.args.held c.held_by.result c.in-None.is c.held_by.ensures c.requires.keeps e.ensures.moves).keeps

-- the worker has it

pub returns-then-holder-number-clause-step : goal.returns-then-holder-number-clause-step
returns-then-holder-number-clause-step c =
    let e = c.enter-token-then-holder-number in
    let h = c.held_by-then-holder-number in
    (own_turns c.args.number c.args.board.now e.new.board c.args.workers.now _ e.new.worker e.result.0 (there _ _ c.index-workers-number.result _ c.requires.keeps.many c.requires.worker) c.requires.worker c.args.held h.result c.in-Some.field-0 c.in-Some.is c.if-holder-number.true h.ensures c.requires.keeps e.ensures.moves).step

pub returns-then-holder-number-clause-told : goal.returns-then-holder-number-clause-told
returns-then-holder-number-clause-told c =
    let e = c.enter-token-then-holder-number in
    told_at c.args.number c.args.board.now c.args.workers.now _ c.args.held _ e.result.1 (there _ _ c.index-workers-number.result _ c.requires.keeps.many c.requires.worker) (ap (λ h. token_at h c.args.number) c.in-Some.is ∙ own_at c.args.number c.in-Some.field-0 c.if-holder-number.true) e.ensures.told

pub returns-then-holder-number-clause-keeps : goal.returns-then-holder-number-clause-keeps
returns-then-holder-number-clause-keeps c =
    let e = c.enter-token-then-holder-number in
    let h = c.held_by-then-holder-number in
    (own_turns c.args.number c.args.board.now e.new.board c.args.workers.now _ e.new.worker e.result.0 (there _ _ c.index-workers-number.result _ c.requires.keeps.many c.requires.worker) c.requires.worker c.args.held h.result c.in-Some.field-0 c.in-Some.is c.if-holder-number.true h.ensures c.requires.keeps e.ensures.moves).keeps

-- another has it

pub returns-in-None-token-clause-step : goal.returns-in-None-token-clause-step
returns-in-None-token-clause-step c =
    let e = c.enter-token-else-holder-number in
    (other_stays c.args.number c.args.board.now e.new.board c.args.workers.now _ e.new.worker e.result.0 (there _ _ c.index-workers-number.result _ c.requires.keeps.many c.requires.worker) c.requires.worker c.args.held c.in-Some.field-0 c.in-Some.field-0 c.in-Some.is c.if-holder-number.false refl c.requires.keeps e.ensures.moves).step

pub returns-in-None-token-clause-told : goal.returns-in-None-token-clause-told
returns-in-None-token-clause-told c =
    let e = c.enter-token-else-holder-number in
    told_at c.args.number c.args.board.now c.args.workers.now _ c.args.held _ e.result.1 (there _ _ c.index-workers-number.result _ c.requires.keeps.many c.requires.worker) (ap (λ h. token_at h c.args.number) c.in-Some.is ∙ other_at c.args.number c.in-Some.field-0 c.if-holder-number.false) e.ensures.told

pub returns-in-None-token-clause-keeps : goal.returns-in-None-token-clause-keeps
returns-in-None-token-clause-keeps c =
    let e = c.enter-token-else-holder-number in
    (other_stays c.args.number c.args.board.now e.new.board c.args.workers.now _ e.new.worker e.result.0 (there _ _ c.index-workers-number.result _ c.requires.keeps.many c.requires.worker) c.requires.worker c.args.held c.in-Some.field-0 c.in-Some.field-0 c.in-Some.is c.if-holder-number.false refl c.requires.keeps e.ensures.moves).keeps
