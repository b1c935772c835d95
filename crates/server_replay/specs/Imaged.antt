-- Bytes that are an image, with its head.
-- Assumes nothing.
use Rattle.std.specs.Prelude.{ℕ, ◌≡◌, true, List}
use Rattle.model.specs.declared.ImageHead.{ImageHead}
use Rattle.model.specs.Images.{image_ok, image_head_of}

pub record Imaged (s : List ℕ) (h : ImageHead) : Type 0 where
  pub ok : image_ok s ≡ true
  pub head : h ≡ image_head_of s
