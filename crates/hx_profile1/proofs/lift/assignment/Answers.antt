use Rattle.std.proofs.Common.{refl}
use Rattle.hx_profile1.proofs.lift.assignment.Goals as goal

pub returns-in_ok-p-in-Set : goal.returns-in_ok-p-in-Set
returns-in_ok-p-in-Set c =
    let place = rw (c.in_ok-p-in-Set.ensures.0) at c.place.ensures in
    let value = rw (c.in_ok-p-in-Set.ensures.1) at c.expression.ensures in
    rw (c.in-Set.is, place, value) refl

pub returns-in_ok-p-in-Update : goal.returns-in_ok-p-in-Update
returns-in_ok-p-in-Update c =
    let place = rw (c.in_ok-p-in-Update.ensures.0) at c.place-in-Update.ensures in
    let value = rw (c.in_ok-p-in-Update.ensures.1) at c.expression-in-Update.ensures in
    rw (c.in-Update.is, place, value) refl

pub returns-in_ok-place-in-Increment : goal.returns-in_ok-place-in-Increment
returns-in_ok-place-in-Increment c = rw (c.in-Increment.is, c.in_ok-place-in-Increment.ensures) refl

pub returns-in_ok-place-in-Decrement : goal.returns-in_ok-place-in-Decrement
returns-in_ok-place-in-Decrement c = rw (c.in-Decrement.is, c.in_ok-place-in-Decrement.ensures) refl
