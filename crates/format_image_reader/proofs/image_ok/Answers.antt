-- What is left to show of `format_image_reader::image_ok`.
use Prim.Native.Nat.{◌≤◌, ◌<◌}
use lib.ListN.{length}
use Rattle.model.specs.Numbers.{starts_with}
use Rattle.model.specs.Images.{image_magic, greatest_of, image_ok}
use Rattle.model_laws.proofs.Ands.{ands}
use Rattle.format_image_reader.proofs.Whole.{last-test}
use Rattle.format_image_reader.proofs.image_ok.Goals as goal

pub returns-then-s-lt-LEAST_IMAGE : goal.returns-then-s-lt-LEAST_IMAGE
unfolding image_ok
returns-then-s-lt-LEAST_IMAGE c = search ands depth 24

-- the length beside the greatest of the form
pub returns-then-greatest-s : goal.returns-then-greatest-s
unfolding image_ok
returns-then-greatest-s c =
    let too_long : greatest_of (starts_with c.args.s.now image_magic) < length c.args.s.now = rw (← c.timed_in-timed.ensures, ← c.greatest.ensures) c.if-greatest-s.true in
    search (ands, too_long) depth 24

pub returns-then-not-framed : goal.returns-then-not-framed
unfolding image_ok
returns-then-not-framed c =
    let not_long : length c.args.s.now ≤ greatest_of (starts_with c.args.s.now image_magic) = rw (← c.timed_in-timed.ensures, ← c.greatest.ensures) c.if-greatest-s.false in
    search (ands, not_long) depth 24

pub returns : goal.returns
returns c =
    last-test _ c.if-s-lt-LEAST_IMAGE.false (rw (← c.timed_in-timed.ensures, ← c.greatest.ensures) c.if-greatest-s.false) c.framed.ensures c.if-not-framed.false c.head_from-h.ensures c.body_ok.ensures
