-- Runs of stores, one after the other, as one; and the whole image.
--     head-written            the bytes before the tables, in three parts
--     rows_next               a row stored behind rows
--     Copied, copied-..       a loop that stores rows
--     image-written           head, floors and records stored one after the other are the image
-- Assumes nothing.
use Prim.Native.Nat.{ℕ, ◌+◌, ◌*◌, ◌≤◌, ◌<◌}
use mathlib.Core.Path.{◌≡◌, refl, sym, ap, ◌∙◌}
use mathlib.Core.Bool.{true}
use mathlib.Core.List.{List, [], ◌∷◌, ◌++◌}
use native.Mathlib.Omega.{arith}
use lib.ListN.{length, drop}
use Rattle.model.specs.declared.ImageHead.{ImageHead}
use Rattle.model.specs.Tables.{rows, bytes_of, written}
use Rattle.model.specs.Limits.{image_pairs, parts_start, least_image}
use Rattle.model.specs.Images.{Image, image_magic_of, entry_row_of, entry_width, entries_start, image_head, image_head_bytes, image_bytes, floor_bytes, image_entry_bytes}
use Rattle.model_laws.specs.Codec.{Codec}
use Rattle.model_laws.specs.Runs.{last, run, stored_by, bytes_by}
use Rattle.model_laws.proofs.Written.{length-written, written_none, written-append, runs-stored}
use Rattle.model_laws.proofs.Tables.{length-rows, rows_snoc, bytes_of-append, bytes_of-one, length-bytes_of}
use Rattle.model_laws.proofs.Images.{floor_codec, head-length}
use Rattle.format_image_writer.specs.Heads.{frame_bytes, pair_bytes, point_bytes}

pub head-written : (s : List ℕ) (h : ImageHead) → h.timed ≡ true
    → written (written (written s 0 (frame_bytes h)) 16 (pair_bytes h)) 40 (point_bytes h.value h.quality) ≡ written s 0 (image_head_bytes h)
unfolding frame_bytes pair_bytes point_bytes image_head_bytes entry_width entry_row_of image_magic_of stored_by bytes_by
head-written s h e =
    rw e
    (runs-stored s 0 (run (frame_bytes h) image_pairs refl (run (pair_bytes h) parts_start refl (last (point_bytes h.value h.quality)))))

-- ---- rows

module _ {A : Type 0} (C : Codec A) where
  pub rows_next : (s : List ℕ) (k : ℕ) (rs : List A) (r : A) → written (written s k (bytes_of C.enc rs)) (k + C.width * length rs) (C.enc r) ≡ written s k (bytes_of C.enc (rs ++ (r ∷ [])))
  rows_next s k rs r = rw (bytes_of-append, bytes_of-one, written-append, length-bytes_of)

  -- i rows of a table t were stored from k on
  pub record Copied (k : ℕ) (s₀ t s : List ℕ) (n i : ℕ) : Type 0 where
    pub below : i ≤ n
    pub same : length s ≡ length s₀
    pub bytes : s ≡ written s₀ k (bytes_of C.enc (rows C.dec C.width i t))

  pub copied_start : (k : ℕ) (s t : List ℕ) (n : ℕ) → Copied k s t s n 0
  unfolding rows bytes_of
  copied_start k s t n = record { below = omega arith; same = refl; bytes = sym (written_none s k) }

  pub copied_next : {k : ℕ} {s₀ t s s' : List ℕ} {n i : ℕ} {r : A} → Copied k s₀ t s n i → i < n → r ≡ C.dec (drop (C.width * i) t) → s' ≡ written s (k + C.width * i) (C.enc r)
      → Copied k s₀ t s' n (i + 1)
  copied_next {k} {s₀} {t} {s} {s'} {n} {i} {r} o h p q =
      record {
        below = omega arith;
        same = rw (q, length-written) o.same;
        bytes =
            q
            ∙ ap (λ (x : List ℕ). written x (k + C.width * i) (C.enc r)) o.bytes
            ∙ ap (λ (m : ℕ). written (written s₀ k (bytes_of C.enc (rows C.dec C.width i t))) (k + C.width * m) (C.enc r)) (sym (length-rows C.dec C.width i t))
            ∙ rows_next s₀ k (rows C.dec C.width i t) r
            ∙ rw (rows_snoc C.dec C.width i t, p);
      }

-- ---- the whole

pub image-written : (s : List ℕ) (i : Image)
    → written (written (written s 0 (image_head_bytes (image_head i))) least_image (bytes_of floor_bytes i.floors)) (entries_start (length i.floors)) (bytes_of (image_entry_bytes i.timed) i.entries)
    ≡ written s 0 (image_bytes i)
unfolding image_bytes
image-written s i = rw (written-append s 0 (image_head_bytes (image_head i)), written-append, head-length (image_head i), length-bytes_of floor_codec i.floors)
