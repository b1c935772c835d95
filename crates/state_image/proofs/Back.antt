-- What write_image stored, read again.
--     image-sound, image_few     the image of a point in a sound buffer is well formed, and has at most 12,592 bytes
--     stored-part                the stored bytes are the image's
--     image-parsed               parse_image gives the image back; image-answered: and image_read its head
--     image-stored               what parses as that image are the bytes that write_image stores
-- Assumes nothing.
use Prim.Native.Nat.{ℕ, ◌≤◌}
use mathlib.Core.Path.{◌≡◌, sym, ap, ◌∙◌}
use mathlib.Core.List.{List}
use mathlib.Core.Option.{some}
use native.Mathlib.Omega.{arith}
use native.Mathlib.Nat.{zero-add}
use lib.ListN.{length, take}
use Rattle.std.specs.Prelude.{Some}
use Rattle.model.specs.Limits.{last_point, greatest_image}
use Rattle.model.specs.Tables.{written}
use Rattle.model.specs.Images.{image_bytes, image_length, parse_image, image_head}
use Rattle.model.specs.States.{load}
use Rattle.model.specs.Versions.{today}
use Rattle.model.specs.Decisions.{image_for}
use Rattle.model_laws.specs.Bytes.{Bytes}
use Rattle.model_laws.specs.Fits.{Sound}
use Rattle.model_laws.proofs.Written.{take-written-run}
use Rattle.model_laws.proofs.Images.{greatest-most, image-length, image-back, image-is}
use Rattle.model_invariants.specs.Sound.{GoodImage}
use Rattle.model_invariants.proofs.Images.{image-good, image-well, image-fits, image-short}
use Rattle.format_image_reader.specs.Answers.{read_of}
use Rattle.state_image.proofs.Picking.{tables}

module _ (p : ℕ) (s : List ℕ) (b : Bytes s) (S : Sound s) (l : p ≤ last_point) where
  pub image-sound : GoodImage (image_for today (load s) p)
  image-sound = (image-good today (load s) p (tables s b S) l).0

  pub image_few : image_length (image_for today (load s) p) ≤ greatest_image
  image_few = omega (arith, image-short (image_for today (load s) p) image-sound, greatest-most (image_for today (load s) p).timed)

  module _ (out : List ℕ) (r : greatest_image ≤ length out) where
    pub stored-part : take (image_length (image_for today (load s) p)) (written out 0 (image_bytes (image_for today (load s) p))) ≡ image_bytes (image_for today (load s) p)
    stored-part =
        ap (λ (n : ℕ). take n (written out 0 (image_bytes (image_for today (load s) p))))
        (sym (zero-add (length (image_bytes (image_for today (load s) p))) ∙ image-length (image_for today (load s) p)))
        ∙ take-written-run out 0 (image_bytes (image_for today (load s) p)) (omega (arith, r, image_few, image-length (image_for today (load s) p)))

    pub image-parsed : parse_image (take (image_length (image_for today (load s) p)) (written out 0 (image_bytes (image_for today (load s) p)))) ≡ some (image_for today (load s) p)
    image-parsed =
        ap parse_image stored-part
        ∙ image-back (image_for today (load s) p) (image-fits (image_for today (load s) p) image-sound) (image-well (image_for today (load s) p) image-sound)

    pub image-answered : read_of (parse_image (take (image_length (image_for today (load s) p)) (written out 0 (image_bytes (image_for today (load s) p))))) ≡ Some
        (image_head (image_for today (load s) p))
    unfolding read_of
    image-answered = rw image-parsed

    pub image-stored : (m : List ℕ) → Bytes m → parse_image m ≡ some (image_for today (load s) p)
        → m ≡ take (image_length (image_for today (load s) p)) (written out 0 (image_bytes (image_for today (load s) p)))
    image-stored m h e = sym (stored-part ∙ (image-is m h (image_for today (load s) p) e).same)
