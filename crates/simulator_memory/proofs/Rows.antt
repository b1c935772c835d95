-- The rows of the packet store.
--     packet-other, packet-put       a row after a packet was put into one behind it, and into it
--     packets-put, length-packets    the packets of the rows
--     numbered-made, numbered-none   a packet by its number
--     numbered_row, numbered_nowhere, filled_row      and by its place
-- Assumes nothing.
use Prim.Native.Nat.{ℕ, zero, suc, ◌+◌, ◌-◌, ◌*◌, ◌≤◌, ◌<◌}
use mathlib.Core.Path.{◌≡◌, refl, sym, ap, ◌∙◌}
use mathlib.Core.Bool.{Bool, true, false}
use mathlib.Core.List.{List, [], ◌∷◌, ◌++◌}
use mathlib.Core.Option.{none, some}
use Rattle.std.specs.Prelude as std
use Rattle.std.specs.Prelude.{Some, None}
use native.Mathlib.Omega.{arith}
use native.Mathlib.Numerals.{add-one}
use native.Mathlib.Nat.{add-zero, le_of_suc-le-suc, not-suc-le-zero}
use lib.Dec.{ltb}
use lib.ListN.{length, take, drop, get_elem?, length-append}
use lib.Seq.{take_at, drop-drop, take_all}
use borrow.Author.Tests.{ltb-true, ltb-false}
use borrow.Rule.Slice.PartMut.{mid_of}
use Rattle.model.specs.Choice.{pick}
use Rattle.model.specs.Numbers.{le32, le32_at}
use Rattle.model.specs.Limits.{greatest_image}
use Rattle.model.specs.Tables.{written}
use Rattle.model_laws.proofs.Numbers.{le32-back, le32-drop}
use Rattle.model_laws.proofs.Written.{drop-written, take-written, drop-written-at, le32-written-below}
use Rattle.simulator_memory.specs.Store.{row_head, row_size, lesser_of, packet_in, packet_for, Filled, put_in, packets_in, numbered}

lesser_full : (a b : ℕ) → a ≤ b → lesser_of a b ≡ a
lesser_full a b h = go (ltb a b) refl
  where
    go : (t : Bool) → ltb a b ≡ t → pick t a b ≡ a
    go true e = refl
    go false e = let l = ltb-false a b e in omega arith

pub lesser_most : (a b : ℕ) → lesser_of a b ≤ b
lesser_most a b = go (ltb a b) refl
  where
    go : (t : Bool) → ltb a b ≡ t → pick t a b ≤ b
    go true e = let l = ltb-true a b e in omega arith
    go false e = omega arith

-- a part before what was written
part-before : (s : List ℕ) (a m i : ℕ) (vs : List ℕ) → a + m ≤ i → take m (drop a (written s i vs)) ≡ take m (drop a s)
part-before s a m i vs h =
    let e : i ≡ a + (i - a) = omega arith in
    ap (λ (j : ℕ). take m (drop a (written s j vs))) e
    ∙ ap (λ (l : List ℕ). take m l) (drop-written a s (i - a) vs)
    ∙ take-written m (drop a s) (i - a) vs (omega arith)

pub packet-other : (s : List ℕ) (n : ℕ) (b : List ℕ) (k : ℕ) → k < n → packet_in (put_in s n b) k ≡ packet_in s k
unfolding packet_in put_in
packet-other s n b k h =
    let vs : List ℕ = le32 (length b) ++ b in
    let l : ℕ = lesser_of (le32_at s (row_size * k)) greatest_image in
    ap (λ (v : ℕ). take (lesser_of v greatest_image) (drop (row_size * k + row_head) (written s (row_size * n) vs))) (le32-written-below s (row_size * n) vs (row_size * k) (omega arith))
    ∙ part-before s (row_size * k + row_head) l (row_size * n) vs (omega (arith, lesser_most (le32_at s (row_size * k)) greatest_image))

pub packet-put : (s : List ℕ) (n : ℕ) (b : List ℕ) → row_size * (n + 1) ≤ length s → length b ≤ greatest_image → packet_in (put_in s n b) n ≡ b
unfolding packet_in put_in
packet-put s n b h m =
    let vs : List ℕ = le32 (length b) ++ b in
    let i : ℕ = row_size * n in
    let rest : List ℕ = drop (i + length vs) s in
    let lv : length vs ≡ row_head + length b = length-append (le32 (length b)) b in
    let d : drop i (written s i vs) ≡ vs ++ rest = drop-written-at s i vs (omega arith) in
    let z : i + 0 ≡ i = add-zero i in
    let w : le32_at (written s i vs) i ≡ length b =
    ap (λ (j : ℕ). le32_at (written s i vs) j) (sym z) ∙ sym (le32-drop i (written s i vs) 0) ∙ ap (λ (l : List ℕ). le32_at l 0) d ∙ le32-back (length b) (b ++ rest) in
    let e : drop (i + row_head) (written s i vs) ≡ b ++ rest = sym (drop-drop row_head i (written s i vs)) ∙ ap (λ (l : List ℕ). drop row_head l) d in
    rw (w, lesser_full (length b) greatest_image m, e) (take_at b rest (length b) refl)

packets-other : (s : List ℕ) (n : ℕ) (b : List ℕ) (k : ℕ) → k ≤ n → packets_in (put_in s n b) k ≡ packets_in s k
unfolding packets_in
packets-other s n b zero h = refl
packets-other s n b (suc k) h =
    let p : packet_in (put_in s n b) k ≡ packet_in s k = packet-other s n b k (omega arith) in
    let q : packets_in (put_in s n b) k ≡ packets_in s k = packets-other s n b k (omega arith) in
    rw (p, q) refl

pub packets-put : (s : List ℕ) (n : ℕ) (b : List ℕ) → row_size * (n + 1) ≤ length s → length b ≤ greatest_image → packets_in (put_in s n b) (suc n) ≡ packets_in s n ++ (b ∷ [])
unfolding packets_in
packets-put s n b h m = rw (packets-other s n b n (omega arith), packet-put s n b h m) refl

pub length-packets : (s : List ℕ) (n : ℕ) → length (packets_in s n) ≡ n
unfolding packets_in
length-packets s zero = refl
length-packets s (suc n) = length-append (packets_in s n) (packet_in s n ∷ []) ∙ omega (arith, length-packets s n)

get_before : {A : Type 0} (xs ys : List A) (k : ℕ) → k < length xs → get_elem? (xs ++ ys) k ≡ get_elem? xs k
get_before [] ys k h = absurd (not-suc-le-zero h)
get_before (x ∷ xs) ys zero h = refl
get_before (x ∷ xs) ys (suc k) h = get_before xs ys k (le_of_suc-le-suc h)

get_seam : {A : Type 0} (xs : List A) (y : A) (k : ℕ) → k ≡ length xs → get_elem? (xs ++ (y ∷ [])) k ≡ some y
get_seam xs y k e = rw e (go xs)
  where
    go : {A : Type 0} {y : A} (zs : List A) → get_elem? (zs ++ (y ∷ [])) (length zs) ≡ some y
    go [] = refl
    go (z ∷ zs) = go zs

get_past : {A : Type 0} (xs : List A) (k : ℕ) → length xs ≤ k → get_elem? xs k ≡ none
get_past [] k h = refl
get_past (x ∷ xs) zero h = absurd (not-suc-le-zero h)
get_past (x ∷ xs) (suc k) h = get_past xs k (le_of_suc-le-suc h)

get_packet : (s : List ℕ) (n k : ℕ) → k < n → get_elem? (packets_in s n) k ≡ some (packet_in s k)
unfolding packets_in
get_packet s zero k h = absurd (not-suc-le-zero h)
get_packet s (suc n) k h = go (ltb k n) refl (λ l. get_packet s n k l)
  where
    go : (t : Bool) → ltb k n ≡ t → (k < n → get_elem? (packets_in s n) k ≡ some (packet_in s k)) → get_elem? (packets_in s n ++ (packet_in s n ∷ [])) k ≡ some (packet_in s k)
    go true e again =
        let l : k < n = ltb-true k n e in
        get_before (packets_in s n) (packet_in s n ∷ []) k (omega (arith, length-packets s n)) ∙ again l
    go false e again =
        let l : n ≤ k = ltb-false k n e in
        let q : n ≡ k = omega arith in
        get_seam (packets_in s n) (packet_in s n) k (omega (arith, length-packets s n)) ∙ ap (λ (j : ℕ). some (packet_in s j)) q

pub numbered-made : (s : List ℕ) (n k i : ℕ) → k ≡ i + 1 → i < n → numbered (packets_in s n) k ≡ some (packet_in s i)
unfolding numbered
numbered-made s n k i e l = rw (e, add-one) (get_packet s n i l)

pub numbered-none : (s : List ℕ) (n k : ℕ) → n < k → numbered (packets_in s n) k ≡ none
unfolding numbered
numbered-none s n zero h = refl
numbered-none s n (suc k) h = get_past (packets_in s n) k (omega (arith, length-packets s n))

pub numbered-zero : (s : List ℕ) (n k : ℕ) → k ≡ 0 → numbered (packets_in s n) k ≡ none
unfolding numbered
numbered-zero s n k e = rw e refl

-- packet k by its place
pub numbered_nowhere : (s : List ℕ) (n k : ℕ) {p : std.Option ℕ} → packet_for s p ≡ numbered (packets_in s n) k → p ≡ None → numbered (packets_in s n) k ≡ none
numbered_nowhere s n k e f = sym e ∙ ap (packet_for s) f

pub numbered_row : (s : List ℕ) (n k : ℕ) {p : std.Option ℕ} {i : ℕ} → packet_for s p ≡ numbered (packets_in s n) k → p ≡ Some i → numbered (packets_in s n) k ≡ some (packet_in s i)
numbered_row s n k e f = sym e ∙ ap (packet_for s) f

pub filled_row : (n : ℕ) {p : std.Option ℕ} {i : ℕ} → Filled n p → p ≡ Some i → i + 1 ≤ n
filled_row n {p} {i} h e = rw e at h

-- the part that the code writes is what is taken
pub front-part : (w : ℕ) (out : List ℕ) → mid_of 0 (lesser_of w (length out) - 0) out ≡ take w out
front-part w out = go (ltb w (length out)) refl
  where
    go : (t : Bool) → ltb w (length out) ≡ t → take (pick t w (length out) - 0) out ≡ take w out
    go true e = let z : w - 0 ≡ w = omega arith in rw z refl
    go false e =
        let z : length out - 0 ≡ length out = omega arith in
        rw z (take_all (length out) out (omega arith) ∙ sym (take_all w out (ltb-false w (length out) e)))

pub take-most : (n : ℕ) (l : List ℕ) → length (take n l) ≤ length l
take-most zero l = omega arith
take-most (suc n) [] = omega arith
take-most (suc n) (x ∷ l) = omega (arith, take-most n l)
