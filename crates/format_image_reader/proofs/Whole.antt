-- The whole image, as the reader's functions walk it.
--     parts-size, ok-least, ok-size     both tables lie within the slice
--     last-test        the walk through image_ok ends with the body
--     read_malformed, read_head     what the reader answers
--     read_ok, read_none     what the answer says: the image is well-formed, its head stands there, its tables lie in the slice and in
--                      their limits; or it is malformed
-- Assumes nothing.
use Prim.Native.Nat.{ℕ, ◌*◌, ◌≤◌}
use mathlib.Core.Path.{◌≡◌, refl, sym, ◌∙◌}
use mathlib.Core.Bool.{Bool, true, false}
use mathlib.Core.List.{List, [], ◌∷◌}
use native.Mathlib.Omega.{arith}
use Rattle.std.specs.Prelude.{Some, None}
use lib.ListN.{length}
use lib.Dec.{leb}
use borrow.Author.Tests.{leb-true, le-leb}
use Rattle.model.specs.declared.ImageHead.{ImageHead}
use Rattle.model.specs.Limits.{least_image, greatest_image, client_count, record_count, last_point, last_server, last_quality, call_window}
use Rattle.model.specs.Numbers.{starts_with}
use Rattle.model.specs.Images.{image_magic, greatest_of, image_head_of, image_at, image_framed, image_head_ok, image_parts, image_tables_ok, image_ok, parse_image, image_head, length_by}
use Rattle.model_laws.proofs.Tests.{joined_all, choose}
use Rattle.model_laws.proofs.Images.{tested, tested_most, placed, floor-count, entry-count, head-same}
use Rattle.model_laws.proofs.Windows.{image-entries}
use Rattle.format_image_reader.specs.Answers.{body_ok, read_of}
use Rattle.format_image_reader.specs.Walks.{rows_ok}
use Rattle.model_laws.proofs.Ands.{go, go_test}

pub parts-size : (h : ImageHead) (s : List ℕ) {u : Bool} → u ≡ image_parts h s → u ≡ true → length_by h ≤ length s
parts-size h s p e = omega (arith, (placed h s (sym p ∙ e)).size)

pub ok-least : (s : List ℕ) {u : Bool} → u ≡ image_ok s → u ≡ true → least_image ≤ length s
ok-least s p e = leb-true least_image (length s) (tested s (sym p ∙ e)).least

pub ok-size : (s : List ℕ) {h : ImageHead} → image_ok s ≡ true → h ≡ image_head_of s → length_by h ≤ length s
ok-size s {h} e p = parts-size h s refl (rw p (tested s e).parts)

pub last-test : (s : List ℕ) {f b : Bool} {h : ImageHead} → least_image ≤ length s → length s ≤ greatest_of (starts_with s image_magic) → f ≡ image_framed s → f ≡ true → h ≡ image_head_of s
    → b ≡ body_ok h s
    → b ≡ image_ok s
unfolding image_ok body_ok rows_ok
last-test s l g p e q r =
    go_test (le-leb least_image (length s) l) (go_test (le-leb (length s) (greatest_of (starts_with s image_magic)) g) (go p e (rw q at r)))

pub read_malformed : (s : List ℕ) {u : Bool} → u ≡ image_ok s → u ≡ false → None ≡ read_of (parse_image s)
unfolding parse_image read_of
read_malformed s p e = rw (sym p ∙ e)

pub read_head : (s : List ℕ) {u : Bool} {h : ImageHead} → u ≡ image_ok s → u ≡ true → h ≡ image_head_of s → Some h ≡ read_of (parse_image s)
unfolding parse_image read_of
read_head s p e q = rw (sym p ∙ e, head-same, q)

-- what an answer with a head says
pub record IsRead (s : List ℕ) (h : ImageHead) : Type 0 where
  pub ok : image_ok s ≡ true
  pub head : h ≡ image_head_of s
  pub size : length_by h ≤ length s
  pub most : length s ≤ greatest_image
  pub floors : h.floors ≤ client_count
  pub entries : h.entries ≤ record_count

head-floors : (h : ImageHead) → image_head_ok h ≡ true → h.floors ≤ client_count
unfolding image_head_ok
head-floors h e =
    leb-true h.floors client_count
    (joined_all
    (leb h.point last_point ∷ leb h.destination last_server ∷ leb h.source last_server ∷ leb h.quality last_quality ∷ leb h.floors client_count ∷ [])
    e).1.1.1.1.0

head-entries : (h : ImageHead) (s : List ℕ) → image_tables_ok (image_at h s) ≡ true → h.entries ≤ call_window * h.floors
head-entries h s e =
    omega (arith, image-entries (image_at h s) e, floor-count h s, entry-count h s)

is_read : (s : List ℕ) (h : ImageHead) → image_ok s ≡ true → h ≡ image_head_of s → IsRead s h
is_read s h e p =
    let t = tested s e in
    let floors : h.floors ≤ client_count = head-floors h (rw p t.head) in
    let entries : h.entries ≤ call_window * h.floors = head-entries h s (rw p t.tables) in
    record {
      ok = e;
      head = p;
      size = ok-size s e p;
      most = tested_most s t;
      floors = floors;
      entries = omega arith;
    }

pub read_ok : (s : List ℕ) (h : ImageHead) → Some h ≡ read_of (parse_image s) → IsRead s h
unfolding parse_image read_of
read_ok s h =
    choose (λ o. Some h ≡ read_of o → IsRead s h) (image_ok s)
    (λ ok e. let q : h ≡ image_head (image_at (image_head_of s) s) = cc in is_read s h ok (q ∙ head-same (image_head_of s) s))
    (λ no e. let z : ◌≡◌ {A = ℕ} 0 1 = cc in absurd (omega arith))

pub read_none : (s : List ℕ) → None ≡ read_of (parse_image s) → image_ok s ≡ false
unfolding parse_image read_of
read_none s =
    choose (λ o. None ≡ read_of o → image_ok s ≡ false) (image_ok s)
    (λ ok e. let z : ◌≡◌ {A = ℕ} 0 1 = cc in absurd (omega arith))
    (λ no e. no)
