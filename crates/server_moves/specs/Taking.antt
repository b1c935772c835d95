-- What a take rests on once its memory and its image are tested.
-- Assumes nothing.
use Rattle.std.specs.Prelude.{ℕ, ◌≤◌, ◌≡◌, true, List, length}
use Rattle.model.specs.declared.ImageHead.{ImageHead}
use Rattle.model.specs.Limits.{last_point, greatest_image}
use Rattle.model.specs.Images.{length_by, image_head_of, image_at, image_ok, clients_ascend}
use Rattle.model.specs.States.{load}
use Rattle.model_invariants.specs.Sound.{Sound, GoodImage}
use Rattle.state_rows.specs.Canonical.{Canonical}

-- a sound state and its log, and a well-formed image with its head
pub record Taking (s log image : List ℕ) (h : ImageHead) : Type 0 where
  pub canonical : Canonical s
  pub state : Sound (load s)
  pub logged : (load s).size ≤ length log
  pub ok : image_ok image ≡ true
  pub head : h ≡ image_head_of image
  pub good : GoodImage (image_at h image)
  pub point : h.point ≤ last_point
  pub size : length image ≡ length_by h
  pub most : length image ≤ greatest_image
  pub ascending : clients_ascend (image_at h image).floors ≡ true
