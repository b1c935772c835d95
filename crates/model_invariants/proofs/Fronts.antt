-- A log with more bytes behind it: what was whole before is read as before.
--     record-front                   a whole record, with any bytes behind it
--     walk-moved                     the walk from a later place: the same records, each end later
--     walk-past                      no record ends under the head
--     walk-joined                    the walk over a part that ends with a whole record, and over what follows
-- Assumes nothing.
use Prim.Native.Nat.{ℕ, zero, suc, ◌+◌, ◌≤◌}
use mathlib.Core.Path.{◌≡◌, refl, sym, ap, ◌∙◌, subst}
use mathlib.Core.Bool.{Bool, true, false, ◌||◌}
use mathlib.Core.List.{List, [], ◌∷◌, ◌++◌}
use mathlib.Core.Option.{Option, none, some, map}
use native.Mathlib.Omega.{arith}
use lib.ListN.{length, take, drop, length-append, length-drop, get_or-append}
use lib.Seq.{get_or-take, take-append-le, drop-append-le, take-take}
use lib.Dec.{eqb, ltb}
use borrow.Author.Tests.{eqb-true, ltb-false, le-ltb}
use Rattle.model.specs.Numbers.{byte_at, le32_at}
use Rattle.model.specs.Packets.{time_at, notice_at}
use Rattle.model.specs.Limits.{head_size, least_image, greatest_image}
use Rattle.model.specs.Limits.{first_executed_kind, gone_kind, give_kind, take_kind, release_kind, executed_kind, first_executed_size, executed_size, gone_size, give_size, take_head, release_size}
use Rattle.model.specs.Logs.{LogRecord, Entry, Extent, off, cut, spans, within, take_extent, extent_of, record_at}
use Rattle.model.specs.Logs.{executed_at, executed_parsed, executed_kind_of, executed_size_of, give_at, release_at}
use Rattle.model_laws.specs.Bytes.{All}
use Rattle.model_laws.specs.Fits.{last_end}
use Rattle.model_laws.specs.OneWalk.{walk}
use Rattle.model_laws.proofs.Tests.{choose, impossible}
use Rattle.model_laws.proofs.Numbers.{le32-take, signed-take, zeros3_take}
use Rattle.model_laws.proofs.Logs.{within-whole, within-spans, take-spans, step_walk, step_record, step_extent, walk-cons}
use Rattle.model_laws.proofs.Ends.{spans-least}
use Rattle.model_invariants.specs.Placed.{later, PastHead}
use Rattle.model_invariants.proofs.Lists.{drop-take}

-- ---- a whole record

-- s begins with a record of m bytes, and with t behind it still does; only those bytes are read
record Whole (s t : List ℕ) (m : ℕ) : Type 0 where
  within : m ≤ length s
  extent : extent_of (s ++ t) ≡ spans m
  same : record_at (take m s) ≡ record_at s

le32-front : (s t : List ℕ) (i : ℕ) → i + 4 ≤ length s → le32_at (s ++ t) i ≡ le32_at s i
unfolding le32_at
le32-front s t i h =
    rw (get_or-append s t 0 i (omega arith), get_or-append s t 0 (i + 1) (omega arith), get_or-append s t 0 (i + 2) (omega arith), get_or-append s t 0 (i + 3) (omega arith))

-- the kind behind which more bytes stand
kind-front : (s t : List ℕ) (k : ℕ) → 1 ≤ length s → byte_at s 0 ≡ k → byte_at (s ++ t) 0 ≡ k
kind-front s t k h e = get_or-append s t 0 0 (omega arith) ∙ e

kind-take : (m : ℕ) (s : List ℕ) (k : ℕ) → 1 ≤ m → byte_at s 0 ≡ k → byte_at (take m s) 0 ≡ k
kind-take m s k h e = get_or-take m s 0 0 (omega arith) ∙ e

within-front : (s t : List ℕ) (n : ℕ) → n ≤ length s → within (s ++ t) n ≡ spans n
within-front s t n h = within-whole (s ++ t) n (omega (arith, length-append s t))

-- of a kind k whose records have n bytes
whole-fixed : (s t : List ℕ) (m n k : ℕ) → 1 ≤ n → ((u : List ℕ) → byte_at u 0 ≡ k → extent_of u ≡ within u n)
    → (n ≤ m → byte_at (take m s) 0 ≡ k → record_at (take m s) ≡ record_at s) → within s n ≡ spans m → byte_at s 0 ≡ k → Whole s t m
whole-fixed s t m n k h x r e q =
    let w = within-spans s n m e in
    let a : m ≡ n = w.0 in
    let l : n ≤ length s = w.1 in
    record {
      within = omega arith;
      extent = x (s ++ t) (kind-front s t k (omega arith) q) ∙ within-front s t n l ∙ ap spans (sym a);
      same = r (omega arith) (kind-take m s k (omega arith) q);
    }

first-least : (timed : Bool) → first_executed_size ≤ executed_size_of timed
unfolding executed_size_of
first-least true = omega arith
first-least false = omega arith

-- a time that stands within the bytes taken
time-take : (timed : Bool) (m : ℕ) (s : List ℕ) → executed_size_of timed ≤ m → time_at timed (take m s) first_executed_size ≡ time_at timed s first_executed_size
unfolding executed_size_of time_at
time-take true m s h = le32-take m s first_executed_size (omega arith)
time-take false m s h = refl

executed-take : (timed : Bool) (m : ℕ) (s : List ℕ) → executed_size_of timed ≤ m → executed_at timed (take m s) ≡ executed_at timed s
unfolding executed_at
executed-take timed m s h =
    let l : first_executed_size ≤ m = omega (arith, first-least timed) in
    rw (
      time-take timed m s h,
      le32-take m s 4 (omega arith),
      le32-take m s 8 (omega arith),
      le32-take m s 12 (omega arith),
      signed-take m s 16 (omega arith),
      signed-take m s 20 (omega arith),
      get_or-take m s 1 0 (omega arith),
      get_or-take m s 2 0 (omega arith),
      get_or-take m s 3 0 (omega arith),
      get_or-take m s 24 0 (omega arith),
    )

module _ (s t : List ℕ) (m : ℕ) where
  whole-executed : (timed : Bool) → within s (executed_size_of timed) ≡ spans m → byte_at s 0 ≡ executed_kind_of timed → Whole s t m
  unfolding extent_of record_at executed_parsed executed_size_of executed_kind_of
  whole-executed true e k =
      whole-fixed s t m executed_size executed_kind (omega arith) (λ u j. rw j)
      (λ l j. rw (j, k, zeros3_take m s 25 (omega arith), executed-take true m s l)) e k
  whole-executed false e k =
      whole-fixed s t m first_executed_size first_executed_kind (omega arith) (λ u j. rw j)
      (λ l j. rw (j, k, zeros3_take m s 25 (omega arith), executed-take false m s l)) e k

  whole-gone : within s gone_size ≡ spans m → byte_at s 0 ≡ gone_kind → Whole s t m
  unfolding extent_of record_at notice_at
  whole-gone e k =
      whole-fixed s t m gone_size gone_kind (omega arith) (λ u j. rw j)
      (λ l j. rw (j, k, zeros3_take m s 1 (omega arith), le32-take m s 4 (omega arith), le32-take m s 8 (omega arith))) e k

  whole-gave : within s give_size ≡ spans m → byte_at s 0 ≡ give_kind → Whole s t m
  unfolding extent_of record_at give_at
  whole-gave e k =
      whole-fixed s t m give_size give_kind (omega arith) (λ u j. rw j)
      (λ l j. rw (j, k, get_or-take m s 3 0 (omega arith), get_or-take m s 1 0 (omega arith), get_or-take m s 2 0 (omega arith), le32-take m s 4 (omega arith))) e k

  whole-released : within s release_size ≡ spans m → byte_at s 0 ≡ release_kind → Whole s t m
  unfolding extent_of record_at release_at
  whole-released e k =
      whole-fixed s t m release_size release_kind (omega arith) (λ u j. rw j)
      (λ l j. rw (j, k, get_or-take m s 2 0 (omega arith), get_or-take m s 3 0 (omega arith), get_or-take m s 1 0 (omega arith), le32-take m s 4 (omega arith))) e k

-- a take's extent, with more bytes behind it
take-front : (s t : List ℕ) (m : ℕ) → take_extent s ≡ spans m → take_extent (s ++ t) ≡ spans m
unfolding take_extent
take-front s t m =
    choose (λ (x : Extent). x ≡ spans m → take_extent (s ++ t) ≡ spans m) (ltb (length s) take_head) (λ a e. impossible (cc))
    (λ a. choose (λ (x : Extent). x ≡ spans m → take_extent (s ++ t) ≡ spans m) (ltb (le32_at s 4) least_image || ltb greatest_image (le32_at s 4)) (λ b e. impossible (cc))
    (λ b e.
    let w = within-spans s (take_head + le32_at s 4) m e in
    let l : take_head ≤ length s = ltb-false (length s) take_head a in
    rw (le-ltb (length (s ++ t)) take_head (omega (arith, length-append s t)), le32-front s t 4 (omega arith), b)
    (within-front s t (take_head + le32_at s 4) w.1 ∙ ap spans (sym w.0))))

-- the image's bytes
part-take : (s : List ℕ) (n : ℕ) → take n (drop take_head (take (take_head + n) s)) ≡ take n (drop take_head s)
part-take s n = ap (take n) (drop-take take_head n s) ∙ take-take n n (drop take_head s) (omega arith)

whole-took : (s t : List ℕ) (m : ℕ) → take_extent s ≡ spans m → byte_at s 0 ≡ take_kind → Whole s t m
unfolding extent_of record_at
whole-took s t m e k =
    let w = take-spans s m e in
    let x : m ≡ take_head + le32_at s 4 = w.0 in
    let l : take_head + le32_at s 4 ≤ length s = w.1 in
    record {
      within = omega arith;
      extent = rw (kind-front s t take_kind (omega arith) k) (take-front s t m e);
      same = rw (kind-take m s take_kind (omega arith) k, k, zeros3_take m s 1 (omega arith), le32-take m s 4 (omega arith), x, part-take s (le32_at s 4));
    }

whole : (s t : List ℕ) (m : ℕ) → extent_of s ≡ spans m → Whole s t m
unfolding extent_of executed_size_of executed_kind_of
whole s t m =
    let P : Extent → Type 0 = λ x. x ≡ spans m → Whole s t m in
    choose P (eqb (byte_at s 0) first_executed_kind) (λ k e. whole-executed s t m false e (eqb-true (byte_at s 0) first_executed_kind k))
    (λ k1. choose P (eqb (byte_at s 0) gone_kind) (λ k e. whole-gone s t m e (eqb-true (byte_at s 0) gone_kind k))
    (λ k2. choose P (eqb (byte_at s 0) give_kind) (λ k e. whole-gave s t m e (eqb-true (byte_at s 0) give_kind k))
    (λ k3. choose P (eqb (byte_at s 0) take_kind) (λ k e. whole-took s t m e (eqb-true (byte_at s 0) take_kind k))
    (λ k4. choose P (eqb (byte_at s 0) release_kind) (λ k e. whole-released s t m e (eqb-true (byte_at s 0) release_kind k))
    (λ k5. choose P (eqb (byte_at s 0) executed_kind) (λ k e. whole-executed s t m true e (eqb-true (byte_at s 0) executed_kind k)) (λ k6 e. impossible (cc)))))))

-- what is read there is the same
pub record-front : (s t : List ℕ) (m : ℕ) → extent_of s ≡ spans m → record_at (s ++ t) ≡ record_at s
record-front s t m e =
    let w = whole s t m e in
    let v = whole (s ++ t) [] m w.extent in
    sym v.same ∙ ap record_at (take-append-le m s t w.within) ∙ w.same

-- ---- the walk from a later place

step-moved : (b end : ℕ) (o : Option LogRecord) (w : Option (List Entry)) → step_record (b + end) o (map (later b) w) ≡ map (later b) (step_record end o w)
unfolding step_record step_walk later
step-moved b end none w = refl
step-moved b end (some r) none = refl
step-moved b end (some r) (some es) = refl

walk-nil : (n k : ℕ) → walk n k [] ≡ some []
unfolding walk
walk-nil zero k = refl
walk-nil (suc n) k = refl

module _ (b n : ℕ) (below : (m k : ℕ) (s : List ℕ) → length s ≤ n → length s ≤ m → walk m (b + k) s ≡ map (later b) (walk n k s)) where
  moved_extent : (m k : ℕ) (s : List ℕ) → length s ≤ suc n → length s ≤ suc m → (x : Extent) → extent_of s ≡ x
      → step_extent m (b + k) s x ≡ map (later b) (step_extent n k s x)
  unfolding step_extent later
  moved_extent m k s p q off e = refl
  moved_extent m k s p q cut e = refl
  moved_extent m k s p q (spans w) e =
      let a : b + k + w ≡ b + (k + w) = omega arith in
      let l : head_size ≤ w = spans-least s w e in
      ap (λ (j : ℕ). step_record j (record_at s) (walk m j (drop w s))) a
      ∙ ap (step_record (b + (k + w)) (record_at s)) (below m (k + w) (drop w s) (omega (arith, length-drop w s)) (omega (arith, length-drop w s)))
      ∙ step-moved b (k + w) (record_at s) (walk n (k + w) (drop w s))

  moved-next : (m k : ℕ) (s : List ℕ) → length s ≤ suc n → length s ≤ m → walk m (b + k) s ≡ map (later b) (walk (suc n) k s)
  unfolding later
  moved-next m k [] p q = walk-nil m (b + k) ∙ sym (ap (map (later b)) (walk-nil (suc n) k))
  moved-next zero k (c ∷ s) p q = absurd (omega arith)
  moved-next (suc m) k (c ∷ s) p q =
      walk-cons m (b + k) c s ∙ moved_extent m k (c ∷ s) p q (extent_of (c ∷ s)) refl ∙ sym (ap (map (later b)) (walk-cons n k c s))

moved_none : (b m k : ℕ) (s : List ℕ) → length s ≤ 0 → walk m (b + k) s ≡ map (later b) (walk 0 k s)
unfolding later
moved_none b m k [] p = walk-nil m (b + k) ∙ sym (ap (map (later b)) (walk-nil 0 k))
moved_none b m k (c ∷ s) p = absurd (omega arith)

-- with fuel enough
pub walk-moved : (b n m k : ℕ) (s : List ℕ) → length s ≤ n → length s ≤ m → walk m (b + k) s ≡ map (later b) (walk n k s)
walk-moved b zero m k s p q = moved_none b m k s p
walk-moved b (suc n) m k s p q = moved-next b n (walk-moved b n) m k s p q

-- ---- ends

past-none : (es : List Entry) → some [] ≡ some es → All PastHead es
past-none [] e = tt
past-none (x ∷ es) e = impossible (cc)

module _ (n : ℕ) (below : (k : ℕ) (s : List ℕ) (es : List Entry) → walk n k s ≡ some es → All PastHead es) where
  past-record : (k m : ℕ) (s : List ℕ) (es : List Entry) → head_size ≤ m → (o : Option LogRecord) (w : Option (List Entry)) → walk n (k + m) s ≡ w
      → step_record (k + m) o w ≡ some es → All PastHead es
  unfolding step_record step_walk
  past-record k m s es l none w q e = impossible (cc)
  past-record k m s es l (some r) none q e = impossible (cc)
  past-record k m s es l (some r) (some fs) q e =
      let x : record { item = r; end = k + m } ∷ fs ≡ es = cc in
      subst (All PastHead) x (omega arith, below (k + m) s fs q)

  past_extent : (k : ℕ) (s : List ℕ) (es : List Entry) (x : Extent) → extent_of s ≡ x → step_extent n k s x ≡ some es → All PastHead es
  unfolding step_extent
  past_extent k s es off x e = impossible (cc)
  past_extent k s es cut x e = past-none es e
  past_extent k s es (spans m) x e = past-record k m (drop m s) es (spans-least s m x) (record_at s) (walk n (k + m) (drop m s)) refl e

pub walk-past : (n k : ℕ) (s : List ℕ) (es : List Entry) → walk n k s ≡ some es → All PastHead es
unfolding walk
walk-past zero k s es e = past-none es e
walk-past (suc n) k [] es e = past-none es e
walk-past (suc n) k (b ∷ s) es e = past_extent n (walk-past n) k (b ∷ s) es (extent_of (b ∷ s)) refl (sym (walk-cons n k b s) ∙ e)

-- ---- the walk over a part that ends with a whole record, and over what follows

-- t from the place b + 8 on is what w has, each end later by b
module _ (t : List ℕ) (b : ℕ) (w : Option (List Entry)) (H : (m : ℕ) → length t ≤ m → walk m (b + head_size) t ≡ map (later b) w) where
  joins : List Entry → Option (List Entry)
  joins es = map (λ (fs : List Entry). es ++ later b fs) w

  join_none : (m k : ℕ) (s : List ℕ) (es : List Entry) → some [] ≡ some es → last_end k es ≡ k + length s → k + length s ≡ b + head_size → length (s ++ t) ≤ m
      → walk m k (s ++ t) ≡ joins es
  unfolding last_end joins
  join_none m k [] [] e l p h = let x : k ≡ b + head_size = omega arith in rw x (H m h)
  join_none m k (c ∷ s) [] e l p h = absurd (omega arith)
  join_none m k s (y ∷ es) e l p h = impossible (cc)

  step-joined : (end : ℕ) (r : LogRecord) (fs : List Entry) → step_record end (some r) (joins fs) ≡ joins (record { item = r; end = end } ∷ fs)
  unfolding step_record step_walk joins
  step-joined end r fs = go w
    where
      go : (o : Option (List Entry)) → step_walk end r (map (λ (gs : List Entry). fs ++ later b gs) o)
          ≡ map (λ (gs : List Entry). record { item = r; end = end } ∷ (fs ++ later b gs)) o
      go none = refl
      go (some gs) = refl

  module _ (n : ℕ) (below : (m k : ℕ) (s : List ℕ) (es : List Entry) → walk n k s ≡ some es → last_end k es ≡ k + length s → k + length s ≡ b + head_size
      → length (s ++ t) ≤ m → walk m k (s ++ t) ≡ joins es) where
    join_record : (m k j : ℕ) (s : List ℕ) (es : List Entry) → extent_of s ≡ spans j → length (s ++ t) ≤ suc m → k + length s ≡ b + head_size → last_end k es ≡ k + length s
        → (o : Option LogRecord) → record_at s ≡ o → (v : Option (List Entry)) → walk n (k + j) (drop j s) ≡ v → step_record (k + j) o v ≡ some es
        → step_record (k + j) (record_at (s ++ t)) (walk m (k + j) (drop j (s ++ t))) ≡ joins es
    unfolding step_record step_walk last_end
    join_record m k j s es x h p l none q v y e = impossible (cc)
    join_record m k j s es x h p l (some r) q none y e = impossible (cc)
    join_record m k j s es x h p l (some r) q (some fs) y e =
        let W = whole s t j x in
        let a : j ≤ length s = W.within in
        let c : head_size ≤ j = spans-least s j x in
        let g : record { item = r; end = k + j } ∷ fs ≡ es = cc in
        let d : drop j (s ++ t) ≡ drop j s ++ t = drop-append-le j s t a in
        let z : last_end (k + j) fs ≡ k + length s = ap (last_end k) g ∙ l in
        let n1 : length (drop j s ++ t) ≡ length (drop j s) + length t = length-append (drop j s) t in
        let n2 : length (s ++ t) ≡ length s + length t = length-append s t in
        let n3 : length (drop j s) + j ≡ length s = omega (arith, length-drop j s) in
        let ih : walk m (k + j) (drop j s ++ t) ≡ joins fs = below m (k + j) (drop j s) fs y (omega arith) (omega arith) (omega arith) in
        ap (λ (o : Option LogRecord). step_record (k + j) o (walk m (k + j) (drop j (s ++ t)))) (record-front s t j x ∙ q)
        ∙ ap (λ (u : List ℕ). step_record (k + j) (some r) (walk m (k + j) u)) d
        ∙ ap (step_record (k + j) (some r)) ih ∙ step-joined (k + j) r fs ∙ ap joins g

    join_extent : (m k c : ℕ) (s : List ℕ) (es : List Entry) → length (c ∷ (s ++ t)) ≤ suc m → k + length (c ∷ s) ≡ b + head_size → last_end k es ≡ k + length (c ∷ s)
        → (x : Extent) → extent_of (c ∷ s) ≡ x → step_extent n k (c ∷ s) x ≡ some es → walk (suc m) k (c ∷ (s ++ t)) ≡ joins es
    unfolding step_extent last_end
    join_extent m k c s es h p l off x e = impossible (cc)
    join_extent m k c s es h p l cut x e = join_none (suc m) k (c ∷ s) es e l p h
    join_extent m k c s es h p l (spans j) x e =
        walk-cons m k c (s ++ t) ∙ ap (step_extent m k (c ∷ (s ++ t))) (whole (c ∷ s) t j x).extent
        ∙ join_record m k j (c ∷ s) es x h p l (record_at (c ∷ s)) refl (walk n (k + j) (drop j (c ∷ s))) refl e

    join_next : (m k : ℕ) (s : List ℕ) (es : List Entry) → walk (suc n) k s ≡ some es → last_end k es ≡ k + length s → k + length s ≡ b + head_size → length (s ++ t) ≤ m
        → walk m k (s ++ t) ≡ joins es
    join_next m k [] es e l p h = join_none m k [] es (sym (walk-nil (suc n) k) ∙ e) l p h
    join_next zero k (c ∷ s) es e l p h = absurd (omega arith)
    join_next (suc m) k (c ∷ s) es e l p h = join_extent m k c s es h p l (extent_of (c ∷ s)) refl (sym (walk-cons n k c s) ∙ e)

  pub walk-joined : (n m k : ℕ) (s : List ℕ) (es : List Entry) → walk n k s ≡ some es → last_end k es ≡ k + length s → k + length s ≡ b + head_size → length (s ++ t) ≤ m
      → walk m k (s ++ t) ≡ map (λ (fs : List Entry). es ++ later b fs) w
  unfolding walk joins
  walk-joined zero m k s es e l p h = join_none m k s es e l p h
  walk-joined (suc n) m k s es e l p h = join_next n (walk-joined n) m k s es e l p h
