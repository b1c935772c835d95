-- What is left to show of `server_moves::image::image_made`.
use native.Mathlib.Omega.{arith}
use mathlib.Core.Path.{◌∙◌}
use Rattle.server_memory.proofs.Settled.{by_refused, by_passed}
use Rattle.server_moves.proofs.Chains.{image-done, image-most}
use Rattle.server_moves.proofs.image.image_made.Goals as goal

pub returns-in_err-image_refusal : goal.returns-in_err-image_refusal
returns-in_err-image_refusal c log =
    let a = c.args in
    by_refused a.s.now log a.out.now _ _ (c.in_err-image_refusal.ensures ∙ rw (c.mark_of-mark.ensures, c.point_at-x.ensures)) _ c.from_residual.ensures.1

pub overflow_cast-result : goal.overflow_cast-result
overflow_cast-result c =
    omega (arith, image-most c.args.s.now (λ i. (c.type_inv.s i).fits) c.requires.0 c.args.point c.requires.1 c.write_image-size.ensures.1)

pub returns : goal.returns
returns c log =
    let a = c.args in
    by_passed a.s.now log a.out.now _ (c.in_ok-image_refusal.ensures ∙ rw (c.mark_of-mark.ensures, c.point_at-x.ensures))
    (image-done a.s.now log a.point a.out.now c.write_image-size.ensures.0 c.write_image-size.ensures.1)
