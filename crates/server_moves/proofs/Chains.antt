-- Each call as a chain of refusals, and what it does at the chain's end.
--     first_by                numbers one behind the other
--     first_no, first_yes     the first test in code; first-zero: both are passed
--     places-good             a point and a server number in range
--     give-is, give_ready, give_settled
--     image-most, receipt-is, image-is, receipt-done, image-done, place_ready
--     release-is, release-chain, release-room, release_settled, release_other, release-placed
-- Assumes nothing.
use Prim.Native.Nat.{ℕ, suc, ◌+◌, ◌≤◌}
use mathlib.Core.Path.{◌≡◌, refl, sym, ap, ◌∙◌}
use mathlib.Core.Bool.{Bool, true, false, false≢true}
use mathlib.Core.List.{List, []}
use native.Mathlib.Omega.{arith}
use lib.ListN.{length}
use lib.Dec.{eqb, ltb}
use borrow.Author.Tests.{ne_eqb, eqb-true, ltb-false}
use Rattle.std.specs.Prelude.{Result, Ok, Option, Some, None}
use Rattle.std.specs.Result.{IsErrAnd}
use Rattle.model.specs.declared.Point.{Point}
use Rattle.model.specs.declared.Packet.{Packet}
use Rattle.model.specs.declared.Receipt.{Receipt}
use Rattle.model.specs.declared.Packet.TheVariants.{Requested, Resulted, Refused, Receipted, Noticed, Granted}
use Rattle.model.specs.Choice.{pick, refuse, reply, append, unless_refused}
use Rattle.model.specs.Limits.{last_point, last_server, give_size, release_size, receipt_size, greatest_image}
use Rattle.model.specs.Tables.{written}
use Rattle.model.specs.Packets.{as_receipt, parse_packet, receipt_bytes}
use Rattle.model.specs.Images.{Image, greatest_of, image_bytes, image_length}
use Rattle.model.specs.Logs.{LogRecord, gave, released, record_bytes, record_size}
use Rattle.model.specs.States.{load, point_at}
use Rattle.model.specs.Apply.{apply_record, apply_gave, apply_released}
use Rattle.model.specs.Versions.{today}
use Rattle.model.specs.Decisions.{Decided, or_malformed, places_bad, give_refusal, on_give, timed_by, image_for, on_image, on_receipt, release_refusal, decide_release, on_release}
use Rattle.model.specs.Operations.{answer_of, after, settle, stored, lent_refusal, lent, free_in, give_of, receipt_of, image_of, release_of}
use Rattle.model.specs.Refusals.{no_refusal, malformed}
use Rattle.model.specs.declared.Refusal.{Refusal}
use Rattle.refusals.specs.Numbers.{number_of, refusal_of, answered}
use Rattle.refusals.proofs.Numbers.{number-some, exit}
use Rattle.model_laws.specs.Bytes.{Bytes}
use Rattle.model_laws.proofs.Tests.{or_left, or_right}
use Rattle.model_laws.specs.Fits.{Sound}
use Rattle.model_laws.proofs.States.{is-sound}
use Rattle.model_laws.proofs.Images.{greatest-most, image-length}
use Rattle.model_invariants.specs.Passed.{PassedGive}
use Rattle.model_laws.proofs.Refused.{unless_passed}
use Rattle.model_invariants.proofs.Decided.{give-passed, release-passed}
use Rattle.model_invariants.proofs.Loaded.{loaded_sound}
use Rattle.model_invariants.proofs.Images.{image-good, image-short}
use Rattle.model_invariants.proofs.Formats.{parsed-receipt}
use Rattle.server_memory.specs.Memory.{Fit, settled_by}
use Rattle.server_memory.proofs.Settled.{lent-fit}
use Rattle.server_moves.specs.Numbers.{first, give_for, give_number, place_number, image_decided, receipt_decided, release_for, Placed}

-- ---- numbers one behind the other

pub first_by : (n m : ℕ) (d : Decided) → unless_refused n (unless_refused m d) ≡ unless_refused (first n m) d
unfolding unless_refused first
first_by n m d = go (eqb n no_refusal) refl
  where
    go : (t : Bool) → eqb n no_refusal ≡ t → pick t (pick (eqb m no_refusal) d (refuse m)) (refuse n) ≡ pick (eqb (pick t m n) no_refusal) d (refuse (pick t m n))
    go true e = refl
    go false e = rw e

-- 1, then the others
malformed_by : (t : Bool) (m : ℕ) (d : Decided) → unless_refused (pick t malformed m) d ≡ unless_refused (pick t malformed no_refusal) (unless_refused m d)
unfolding unless_refused
malformed_by true m d = refl
malformed_by false m d = refl

-- the first test in code
pub first_no : {A : Type 0} {k : ℕ} (m : ℕ) (e : Refusal) → number_of e ≡ k → (r : Result A Refusal) → IsErrAnd r (λ x. x ≡ e) → refusal_of r ≡ first k m
unfolding first
first_no {k} m e p r h = rw (exit r h, ← p, ne_eqb (number_of e) no_refusal (number-some e))

pub first_yes : {n k m : ℕ} → no_refusal ≡ k → n ≡ m → n ≡ first k m
unfolding first
first_yes p e = rw (← p, e)

-- both tests are passed
pub first-zero : (n m : ℕ) → first n m ≡ no_refusal → (n ≡ no_refusal) × (m ≡ no_refusal)
unfolding first
first-zero n m e = go (eqb n no_refusal) refl e
  where
    go : (t : Bool) → eqb n no_refusal ≡ t → pick t m n ≡ no_refusal → (n ≡ no_refusal) × (m ≡ no_refusal)
    go true q k = (eqb-true n no_refusal q, k)
    go false q k = absurd (false≢true (sym q ∙ rw k))

pub places-good : (p d : ℕ) {u : Bool} → u ≡ places_bad p d → u ≡ false → (p ≤ last_point) × (d ≤ last_server)
unfolding places_bad
places-good p d q e =
    let k = sym q ∙ e in
    (ltb-false last_point p (or_left (ltb last_point p) (ltb last_server d) k), ltb-false last_server d (or_right (ltb last_point p) (ltb last_server d) k))

-- ---- give

module _ (s log : List ℕ) where
  module _ (p d : ℕ) where
    abbrev given : LogRecord
    given = gave (give_for (load s) p d)

    give_by : on_give (load s) (free_in s log) p d ≡ unless_refused (pick (places_bad p d) malformed (give_refusal (point_at (load s) p) (load s).server (free_in s log) d)) (append given)
    unfolding give_for on_give
    give_by = refl

    pub give-is : give_of s log p d ≡ settle s log [] (unless_refused (give_number s log p d) (append given))
    unfolding give_of give_number lent
    give-is = ap (settle s log []) (ap (unless_refused (lent_refusal s log 0 0)) give_by ∙ first_by _ _ (append given))

    pub give_ready : no_refusal ≡ give_number s log p d → Fit s log 0 0 × PassedGive (load s) p d × ((load s).size + give_size ≤ length log)
    unfolding give_number free_in
    give_ready e =
        let k = first-zero _ _ (sym e) in
        let a : on_give (load s) (free_in s log) p d ≡ append given = give_by ∙ unless_passed _ (append given) k.1 in
        let F = lent-fit s log 0 0 k.0 in
        let P = give-passed (load s) (free_in s log) p d given a in
        (F, P.0, omega (arith, F.logged, P.1))

  -- the point's number as it was read, and the log's length
  pub give_settled : (p d : ℕ) {x : Point} {k : ℕ} {t l : List ℕ} → x ≡ point_at (load s) p → k ≡ (load s).size
      → t ≡ stored s (apply_gave (record { point = p; destination = d; move_number = x.move_number + 1 }) (k + give_size) (load s))
      → l ≡ written log k (record_bytes (gave (record { point = p; destination = d; move_number = x.move_number + 1 })))
      → after (answered (Ok 0)) t l [] ≡ settle s log [] (append (gave (give_for (load s) p d)))
  unfolding settle record_size apply_record give_for
  give_settled p d {x} a b e f = let n : x.move_number + 1 ≡ suc x.move_number = omega arith in rw (e, f, n, a, b)

-- ---- receipt and image

pub image-most : (s : List ℕ) → Bytes s → Sound s → (p : ℕ) → p ≤ last_point → {n : ℕ} → n ≡ image_length (image_for today (load s) p) → n ≤ greatest_image
image-most s h S p l q =
    let i : Image = image_for today (load s) p in
    rw q (omega (arith, image-short i (image-good today (load s) p (loaded_sound s h (is-sound s S)) l).0, greatest-most i.timed))

module _ (s log : List ℕ) (p : ℕ) where
  module _ (out : List ℕ) where
    place_by : (need m : ℕ) (d : Decided) → lent s log out need (unless_refused (pick (ltb last_point p) malformed m) d) ≡ unless_refused (place_number s log (length out) need p) (unless_refused m d)
    unfolding place_number lent
    place_by need m d = ap (unless_refused (lent_refusal s log (length out) need)) (malformed_by (ltb last_point p) m d) ∙ first_by _ _ (unless_refused m d)

    pub receipt-is : receipt_of s log p out ≡ settle s log out (unless_refused (place_number s log (length out) receipt_size p) (receipt_decided (load s) p))
    unfolding receipt_of on_receipt
    receipt-is = ap (settle s log out) (place_by receipt_size _ _)

    pub image-is : image_of today s log p out ≡ settle s log out (unless_refused (place_number s log (length out) greatest_image p) (image_decided (load s) p))
    unfolding image_of on_image timed_by greatest_of
    image-is = ap (settle s log out) (place_by greatest_image _ _)

    pub receipt-done : {x : Point} {v : ℕ} {o : List ℕ} → x ≡ point_at (load s) p → v ≡ (load s).server
        → o ≡ written out 0 (receipt_bytes (record { point = p; server = v; move_number = x.taken_move }))
        → after (answered (Ok receipt_size)) s log o ≡ settle s log out (reply (receipt_bytes (record { point = p; server = (load s).server; move_number = (point_at (load s) p).taken_move })))
    unfolding settle receipt_bytes
    receipt-done a b e = rw (e, a, b)

    pub image-done : {n : ℕ} {o : List ℕ} → o ≡ written out 0 (image_bytes (image_for today (load s) p)) → n ≡ image_length (image_for today (load s) p)
        → after (answered (Ok n)) s log o ≡ settle s log out (reply (image_bytes (image_for today (load s) p)))
    unfolding settle
    image-done a b = rw (a, b, image-length (image_for today (load s) p))

  pub place_ready : {n need : ℕ} → no_refusal ≡ place_number s log n need p → Fit s log n need × (p ≤ last_point)
  unfolding place_number
  place_ready {n} {need} q = let k = first-zero _ _ (sym q) in (lent-fit s log n need k.0, within (ltb last_point p) refl k.1)
    where
      within : (t : Bool) → ltb last_point p ≡ t → pick {A = ℕ} t malformed no_refusal ≡ no_refusal → p ≤ last_point
      within true e k = absurd (omega (arith, k))
      within false e k = ltb-false last_point p e

-- ---- release

module _ (s log : List ℕ) where
  pub release-is : (b : List ℕ) → release_of s log b ≡ settle s log [] (unless_refused (lent_refusal s log 0 0) (on_release (load s) (free_in s log) (parse_packet b)))
  unfolding release_of lent
  release-is b = refl

  module _ (p m : ℕ) where
    release_by : decide_release (load s) (free_in s log) p m ≡ unless_refused (release_refusal (point_at (load s) p) (free_in s log) m) (append (released (release_for (load s) p)))
    unfolding release_for decide_release
    release_by = refl

    pub release-chain : settle s log [] (decide_release (load s) (free_in s log) p m)
        ≡ settle s log [] (unless_refused (release_refusal (point_at (load s) p) (free_in s log) m) (append (released (release_for (load s) p))))
    release-chain = ap (settle s log []) release_by

    pub release-room : no_refusal ≡ release_refusal (point_at (load s) p) (free_in s log) m → (load s).size ≤ length log → (load s).size + release_size ≤ length log
    unfolding free_in
    release-room q l =
        let a = release_by ∙ unless_passed _ (append (released (release_for (load s) p))) (sym q) in
        omega (arith, l, (release-passed (load s) (free_in s log) p m (released (release_for (load s) p)) a).1)

  pub release_settled : (p : ℕ) {x : Point} {k : ℕ} {t l : List ℕ} → x ≡ point_at (load s) p → k ≡ (load s).size
      → t ≡ stored s (apply_released (record { point = p; move_number = x.move_number }) (k + release_size) (load s))
      → l ≡ written log k (record_bytes (released (record { point = p; move_number = x.move_number })))
      → after (answered (Ok 0)) t l [] ≡ settle s log [] (append (released (release_for (load s) p)))
  unfolding settle record_size apply_record release_for
  release_settled p a b e f = rw (e, f, a, b)

-- 1 any other packet
pub release_other : (s log : List ℕ) (p : Packet) → ((r : Receipt) → p ≡ Receipted r → ⊥) → after (answer_of malformed 0) s log [] ≡ settled_by (λ st free. on_release st free (Some p)) s log []
unfolding on_release or_malformed as_receipt settle
release_other s log (Requested q) h = refl
release_other s log (Resulted r) h = refl
release_other s log (Refused r) h = refl
release_other s log (Receipted r) h = absurd (h r refl)
release_other s log (Noticed n) h = refl
release_other s log (Granted g) h = refl

pub release-none : (s log : List ℕ) → after (answer_of malformed 0) s log [] ≡ settled_by (λ st free. on_release st free None) s log []
unfolding on_release or_malformed as_receipt settle
release-none s log = refl

pub release-placed : (b : List ℕ) → Bytes b → {o : Option Packet} {p : Packet} → o ≡ parse_packet b → o ≡ Some p → Placed p
release-placed b h {p = p} e is = go p (sym is ∙ e)
  where
    go : (q : Packet) → Some q ≡ parse_packet b → Placed q
    go (Requested q) k = tt
    go (Resulted q) k = tt
    go (Refused q) k = tt
    go (Receipted q) k = parsed-receipt b q h (sym k)
    go (Noticed q) k = tt
    go (Granted q) k = tt
