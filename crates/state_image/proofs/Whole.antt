-- The image of a point in a sound buffer: floors, entries and head, stored in this order.
--     entries-most     at most 512 entries
--     imaged           the three stores are the image
--     headed, sized    its counts and its length
-- Assumes nothing.
use Prim.Native.Nat.{ℕ, ◌+◌, ◌-◌, ◌*◌, ◌≤◌}
use mathlib.Core.Path.{◌≡◌, refl, sym, ap, ◌∙◌}
use mathlib.Core.Bool.{true}
use mathlib.Core.List.{List, map}
use native.Mathlib.Omega.{arith}
use lib.ListN.{length, length-map}
use borrow.Rule.Slice.PartMut.{mid_of}
use Rattle.model.specs.declared.Completion.{Completion}
use Rattle.model.specs.declared.ImageHead.{ImageHead}
use Rattle.model.specs.Limits.{client_count, record_count, floor_row, entry_row, least_image}
use Rattle.model.specs.Tables.{rows, bytes_of, written, keep}
use Rattle.model.specs.Images.{Image, floor_of_bytes, floor_bytes, image_entry_bytes, entries_start, entry_row_of, entry_width, image_head_bytes, image_bytes, image_length, image_head}
use Rattle.model.specs.States.{load, clients_in, floors_start}
use Rattle.model.specs.Versions.{today}
use Rattle.model.specs.Decisions.{is_on_point, entry_of_record, timed_by, image_for}
use Rattle.model_laws.specs.Fits.{Sound}
use Rattle.model_laws.proofs.Images.{head-length}
use Rattle.model_laws.proofs.Tables.{length-keep}
use Rattle.model_laws.proofs.Written.{written_comm, tail-part}
use Rattle.model_invariants.proofs.Images.{sort_length}
use Rattle.format_image_writer.proofs.Runs.{image-written}
use Rattle.state_image.proofs.Picking.{length-floors, length-records}

pub entries-most : (p : ℕ) (s : List ℕ) → Sound s → {m : ℕ} → m ≡ length (image_for today (load s) p).entries → m ≤ record_count
unfolding image_for
entries-most p s S e =
    let rs : List Completion = keep (is_on_point p) (load s).records in
    omega (arith, sort_length (map entry_of_record rs), length-map rs entry_of_record, length-keep (is_on_point p) (load s).records, length-records s, S.few_records)

-- the head last, or first
head-last : (s : List ℕ) (i : Image)
    → written (written (written s least_image (bytes_of floor_bytes i.floors)) (entries_start (length i.floors)) (bytes_of (image_entry_bytes i.timed) i.entries)) 0 (image_head_bytes (image_head i))
    ≡ written s 0 (image_bytes i)
head-last s i =
    let h : List ℕ = image_head_bytes (image_head i) in
    let f : List ℕ = bytes_of floor_bytes i.floors in
    let e : List ℕ = bytes_of (image_entry_bytes i.timed) i.entries in
    let at : ℕ = entries_start (length i.floors) in
    sym (written_comm (written s least_image f) 0 h at e (omega (arith, head-length (image_head i))))
    ∙ ap (λ (x : List ℕ). written x at e) (sym (written_comm s 0 h least_image f (omega (arith, head-length (image_head i)))))
    ∙ image-written s i

image-clients : (p : ℕ) (s : List ℕ) → length (image_for today (load s) p).floors ≡ clients_in s
unfolding image_for
image-clients p s = length-floors s

-- with times
image-timed : (p : ℕ) (s : List ℕ) → (image_for today (load s) p).timed ≡ true
unfolding image_for timed_by
image-timed p s = refl

floors_of : (p : ℕ) (s : List ℕ) {n : ℕ} → n ≡ clients_in s → rows floor_of_bytes floor_row n (mid_of floors_start (length s - floors_start) s) ≡ (image_for today (load s) p).floors
unfolding image_for load
floors_of p s q = rw (q, tail-part floors_start s)

pub imaged : (p : ℕ) (s : List ℕ) {n : ℕ} → n ≡ clients_in s → (s₀ : List ℕ) → {s₁ s₂ s₃ : List ℕ} → s₁ ≡ written s₀ least_image
    (bytes_of floor_bytes (rows floor_of_bytes floor_row n (mid_of floors_start (length s - floors_start) s)))
    → {at : ℕ} → at ≡ entries_start n → s₂ ≡ written s₁ at (bytes_of (image_entry_bytes true) (image_for today (load s) p).entries) → {h : ImageHead} → h ≡ image_head (image_for today (load s) p)
    → s₃ ≡ written s₂ 0 (image_head_bytes h) → s₃ ≡ written s₀ 0 (image_bytes (image_for today (load s) p))
unfolding image_for timed_by
imaged p s q s₀ a f b c d = rw (d, b, a, c, floors_of p s q, f, q, ← image-clients p s) (rw (image-timed p s) at (head-last s₀ (image_for today (load s) p)))

pub headed : (p : ℕ) (s : List ℕ) → Sound s → {h : ImageHead} → h ≡ image_head (image_for today (load s) p) → (h.floors ≤ client_count) × (h.entries ≤ record_count) × (h.timed ≡ true)
unfolding image_head
headed p s S q = rw q (omega (arith, image-clients p s, S.few_clients), entries-most p s S refl, image-timed p s)

-- the image's length
pub sized : (p : ℕ) (s : List ℕ) {n m at : ℕ} → n ≡ clients_in s → m ≡ length (image_for today (load s) p).entries → at ≡ entries_start n
    → at + entry_row * m ≡ image_length (image_for today (load s) p)
unfolding image_length entry_width entry_row_of
sized p s q e a = rw (e, a, q, image-clients p s, image-timed p s)
