-- Laws of the writers.
--     ok-most                       a well-formed image has at most 12,592 bytes
--     took-bytes, took-back         the bytes of a take record of a well-formed image; its image copied behind its 8 bytes
-- Assumes nothing.
use Prim.Native.Nat.{ℕ, ◌-◌, ◌≤◌}
use mathlib.Core.Path.{◌≡◌, sym, ap, ◌∙◌}
use mathlib.Core.Bool.{true}
use mathlib.Core.List.{List, ◌++◌}
use mathlib.Core.Option.{some}
use borrow.Rule.Slice.PartMut.{put_mid, mid_of}
use lib.ListN.{length}
use Rattle.model.specs.Limits.{take_head, greatest_image}
use Rattle.model.specs.Tables.{written}
use Rattle.model.specs.Images.{Image, image_head_of, image_at, image_ok, parse_image, image_length}
use Rattle.model.specs.Logs.{took, take_bytes, record_bytes}
use Rattle.model_laws.specs.Bytes.{Bytes}
use Rattle.model_laws.specs.Fits.{IsImage}
use Rattle.model_laws.proofs.Written.{written-append, tail-back}
use Rattle.model_laws.proofs.Images.{tested, tested_most, image-is, image-length}
use Rattle.format_log_writer.specs.Fronts.{take_front}

pub ok-most : (b : List ℕ) → image_ok b ≡ true → length b ≤ greatest_image
ok-most b ok = tested_most b (tested b ok)

pub took-bytes : (b : List ℕ) → Bytes b → image_ok b ≡ true → record_bytes (took (image_at (image_head_of b) b)) ≡ take_front (length b) ++ b
unfolding record_bytes take_bytes take_front
took-bytes b h ok =
    let i : Image = image_at (image_head_of b) b in
    let p : parse_image b ≡ some i = unfold parse_image in rw ok in
    let f : IsImage b i = image-is b h i p in
    let l : image_length i ≡ length b = sym (image-length i) ∙ ap length f.same in
    rw (l, f.same)

pub took-back : (s b : List ℕ) → Bytes b → image_ok b ≡ true
    → (let l : List ℕ = written s 0 (take_front (length b)) in put_mid take_head (length l - take_head) l (written (mid_of take_head (length l - take_head) l) 0 b))
    ≡ written s 0 (record_bytes (took (image_at (image_head_of b) b)))
unfolding take_front
took-back s b h ok =
    tail-back take_head (written s 0 (take_front (length b))) b
    ∙ sym (written-append s 0 (take_front (length b)) b)
    ∙ ap (λ (x : List ℕ). written s 0 x) (sym (took-bytes b h ok))
