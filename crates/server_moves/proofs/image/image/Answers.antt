-- What is left to show of `server_moves::image::image`.
use native.Mathlib.Omega.{arith}
use mathlib.Core.Path.{sym, ◌∙◌}
use Rattle.model_laws.proofs.States.{sound-is}
use Rattle.server_memory.proofs.Settled.{by_refused, by_passed}
use Rattle.server_moves.proofs.Chains.{image-is, place_ready}
use Rattle.server_moves.proofs.image.image.Goals as goal

pub returns-in_err-place_number : goal.returns-in_err-place_number
returns-in_err-place_number c =
    let a = c.args in
    by_refused a.s.now a.log.now a.out.now _ _ c.in_err-place_number.ensures _ c.from_residual.ensures.1
    ∙ sym (image-is a.s.now a.log.now a.point a.out.now)

pub overflow_cast-point : goal.overflow_cast-point
overflow_cast-point c =
    let a = c.args in
    omega (arith, (place_ready a.s.now a.log.now a.point c.in_ok-place_number.ensures).1)

pub image_made-requires : goal.image_made-requires
image_made-requires c =
    let a = c.args in
    let r = place_ready a.s.now a.log.now a.point c.in_ok-place_number.ensures in
    (sound-is a.s.now r.0.sound, r.1, r.0.room)

pub returns : goal.returns
returns c =
    let a = c.args in
    by_passed a.s.now a.log.now a.out.now _ c.in_ok-place_number.ensures (c.image_made.ensures a.log.now)
    ∙ sym (image-is a.s.now a.log.now a.point a.out.now)
