-- Laws of runs of stores: what `written` leaves.
--     written-sets                  the library's `sets` is the same, so that every law here is one of `sets`
--     length-written, bytes-written
--     get_or-written-below, -past, -in; le32-written-below, -past; le64-written-below, -past; le32-written, le64-written     reading
--     take-written, take-written-run, drop-written-past, drop-written, drop-written-at     parts
--     written-front, written-fits   a run that fits
--     written_none, written-append, run-behind, runs-stored, written_comm, written_over, written_cover     several runs
--     written_same, written-again, written-le32, written-le64     a run of what stands there changes nothing
--     nested_front, written_nested, written-first, written-second     a run within one that was stored; within one of two lists
--     written_mid                   a run in the middle of what stands there
--     written-tail, tail-part, tail-back, tail-back-sets     the part of a slice from an index on, lent, and back from a writer
-- Assumes nothing.
use Prim.Native.Nat.{ℕ, zero, suc, ◌+◌, ◌-◌, ◌≤◌, ◌<◌}
use mathlib.Core.Path.{◌≡◌, refl, sym, ap, ◌∙◌}
use mathlib.Core.List.{List, [], ◌∷◌, ◌++◌, append-nil}
use native.Mathlib.Omega.{arith}
use native.Mathlib.Numerals.{add-one, add-two, add-three}
use native.Mathlib.Nat.{add-zero, zero-add, suc-add}
use borrow.Rule.Slice.PartMut.{put_mid, mid_of}
use lib.ListN.{length, get_or, set, take, drop, length-append, length-take, length-drop, take-append-drop, drop_of_length-le}
use lib.Seq.{sets, length-sets, take_all, drop_at, drop-drop, get_or-take, get_or-drop, set-get_or, take-add, take_at}
use Rattle.model.specs.Numbers.{le32_at, le32, le64_at, le64, quad}
use Rattle.model.specs.Tables.{written}
use Rattle.model_laws.specs.Runs.{Runs, last, run, stored_by, bytes_by}
use Rattle.model_laws.specs.Bytes.{Bytes, part}
use Rattle.model_laws.proofs.Numbers.{le32-quad, le32-drop, le64-drop, le32-back, le64-back, le64-parts, length-le64, bytes-cons}

-- ---- the library's run of stores is the same

sets-nil : (i : ℕ) (vs : List ℕ) → sets [] i vs ≡ []
sets-nil i [] = refl
sets-nil i (v ∷ vs) = sets-nil (suc i) vs

sets-cons : (b : ℕ) (s : List ℕ) (i : ℕ) (vs : List ℕ) → sets (b ∷ s) (suc i) vs ≡ b ∷ sets s i vs
sets-cons b s i [] = refl
sets-cons b s i (v ∷ vs) = sets-cons b (set s i v) (suc i) vs

pub written-sets : (s : List ℕ) (i : ℕ) (vs : List ℕ) → written s i vs ≡ sets s i vs
unfolding written
written-sets [] i vs = sym (sets-nil i vs)
written-sets (b ∷ s) (suc i) vs = ap (λ (x : List ℕ). b ∷ x) (written-sets s i vs) ∙ sym (sets-cons b s i vs)
written-sets (b ∷ s) zero [] = refl
written-sets (b ∷ s) zero (v ∷ vs) = ap (λ (x : List ℕ). v ∷ x) (written-sets s zero vs) ∙ sym (sets-cons v s zero vs)

pub length-written : (s : List ℕ) (i : ℕ) (vs : List ℕ) → length (written s i vs) ≡ length s
length-written s i vs = ap length (written-sets s i vs) ∙ length-sets s i vs

-- ---- reading

pub get_or-written-below : (s : List ℕ) (i : ℕ) (vs : List ℕ) (k : ℕ) → k < i → get_or (written s i vs) k 0 ≡ get_or s k 0
unfolding written
get_or-written-below [] i vs k h = refl
get_or-written-below (b ∷ s) zero vs k h = absurd (omega arith)
get_or-written-below (b ∷ s) (suc i) vs zero h = refl
get_or-written-below (b ∷ s) (suc i) vs (suc k) h = get_or-written-below s i vs k (omega arith)

pub get_or-written-past : (s : List ℕ) (i : ℕ) (vs : List ℕ) (k : ℕ) → i + length vs ≤ k → get_or (written s i vs) k 0 ≡ get_or s k 0
unfolding written
get_or-written-past [] i vs k h = refl
get_or-written-past (b ∷ s) (suc i) vs zero h = refl
get_or-written-past (b ∷ s) (suc i) vs (suc k) h = get_or-written-past s i vs k (omega arith)
get_or-written-past (b ∷ s) zero [] k h = refl
get_or-written-past (b ∷ s) zero (v ∷ vs) zero h = absurd (omega arith)
get_or-written-past (b ∷ s) zero (v ∷ vs) (suc k) h = get_or-written-past s zero vs k (omega arith)

pub get_or-written_in : (s : List ℕ) (i : ℕ) (vs : List ℕ) (k : ℕ) → i + k < length s → k < length vs → get_or (written s i vs) (i + k) 0 ≡ get_or vs k 0
unfolding written
get_or-written_in [] i vs k h b = absurd (omega arith)
get_or-written_in (a ∷ s) (suc i) vs k h b = rw suc-add (get_or-written_in s i vs k (omega arith) b)
get_or-written_in (a ∷ s) zero [] k h b = absurd (omega arith)
get_or-written_in (a ∷ s) zero (v ∷ vs) zero h b = refl
get_or-written_in (a ∷ s) zero (v ∷ vs) (suc k) h b = rw zero-add (rw zero-add at (get_or-written_in s zero vs k (omega arith) (omega arith)))

-- a part that ends before the run, or starts past it
pub take-written : (k : ℕ) (s : List ℕ) (i : ℕ) (vs : List ℕ) → k ≤ i → take k (written s i vs) ≡ take k s
unfolding written
take-written k [] i vs h = refl
take-written zero (b ∷ s) i vs h = refl
take-written (suc k) (b ∷ s) zero vs h = absurd (omega arith)
take-written (suc k) (b ∷ s) (suc i) vs h = ap (λ (x : List ℕ). b ∷ x) (take-written k s i vs (omega arith))

pub drop-written-past : (k : ℕ) (s : List ℕ) (i : ℕ) (vs : List ℕ) → i + length vs ≤ k → drop k (written s i vs) ≡ drop k s
unfolding written
drop-written-past k [] i vs h = refl
drop-written-past zero (b ∷ s) (suc i) vs h = absurd (omega arith)
drop-written-past (suc k) (b ∷ s) (suc i) vs h = drop-written-past k s i vs (omega arith)
drop-written-past k (b ∷ s) zero [] h = refl
drop-written-past zero (b ∷ s) zero (v ∷ vs) h = absurd (omega arith)
drop-written-past (suc k) (b ∷ s) zero (v ∷ vs) h = drop-written-past k s zero vs (omega arith)

-- the suffix from k on, for a run that starts in it
pub drop-written : (k : ℕ) (s : List ℕ) (i : ℕ) (vs : List ℕ) → drop k (written s (k + i) vs) ≡ written (drop k s) i vs
unfolding written
drop-written zero s i vs = rw zero-add
drop-written (suc k) [] i vs = refl
drop-written (suc k) (b ∷ s) i vs = rw suc-add (drop-written k s i vs)

-- ---- a run that fits

pub written-front : (s vs : List ℕ) → length vs ≤ length s → written s 0 vs ≡ vs ++ drop (length vs) s
unfolding written
written-front [] [] h = refl
written-front [] (v ∷ vs) h = absurd (omega arith)
written-front (b ∷ s) [] h = refl
written-front (b ∷ s) (v ∷ vs) h = ap (λ (x : List ℕ). v ∷ x) (written-front s vs (omega arith))

-- what stands from the run's start on
pub drop-written-at : (s : List ℕ) (i : ℕ) (vs : List ℕ) → i + length vs ≤ length s → drop i (written s i vs) ≡ vs ++ drop (i + length vs) s
drop-written-at s i vs h =
    ap (λ (k : ℕ). drop i (written s k vs)) (sym (add-zero i))
    ∙ drop-written i s 0 vs
    ∙ written-front (drop i s) vs (rw length-drop (omega arith))
    ∙ ap (λ (x : List ℕ). vs ++ x) (drop-drop (length vs) i s)

pub written-fits : (s : List ℕ) (i : ℕ) (vs : List ℕ) → i + length vs ≤ length s → written s i vs ≡ take i s ++ (vs ++ drop (i + length vs) s)
written-fits s i vs h = rw (← drop-written-at s i vs h, ← take-written i s i vs (omega arith)) (sym (take-append-drop i (written s i vs)))

-- what stands up to the run's end
pub take-written-run : (s : List ℕ) (i : ℕ) (vs : List ℕ) → i + length vs ≤ length s → take (i + length vs) (written s i vs) ≡ take i s ++ vs
take-written-run s i vs h =
    take-add i (length vs) (written s i vs)
    ∙ rw (take-written i s i vs (omega arith), drop-written-at s i vs h, take_at vs (drop (i + length vs) s) (length vs) refl)

pub bytes-written : (s : List ℕ) (i : ℕ) (vs : List ℕ) → Bytes s → Bytes vs → Bytes (written s i vs)
unfolding written
bytes-written [] i vs h b = h
bytes-written (a ∷ s) (suc i) vs h b = bytes-cons a (written s i vs) (h 0) (bytes-written s i vs (λ k. h (suc k)) b)
bytes-written (a ∷ s) zero [] h b = h
bytes-written (a ∷ s) zero (v ∷ vs) h b = bytes-cons v (written s zero vs) (b 0) (bytes-written s zero vs (λ k. h (suc k)) (λ k. b (suc k)))

-- ---- numbers before and past a run

pub le32-written-below : (s : List ℕ) (i : ℕ) (vs : List ℕ) (k : ℕ) → k + 4 ≤ i → le32_at (written s i vs) k ≡ le32_at s k
unfolding le32_at
le32-written-below s i vs k h =
    rw (
      get_or-written-below s i vs k (omega arith),
      get_or-written-below s i vs (k + 1) (omega arith),
      get_or-written-below s i vs (k + 2) (omega arith),
      get_or-written-below s i vs (k + 3)
          (omega arith),
    )

pub le32-written-past : (s : List ℕ) (i : ℕ) (vs : List ℕ) (k : ℕ) → i + length vs ≤ k → le32_at (written s i vs) k ≡ le32_at s k
unfolding le32_at
le32-written-past s i vs k h =
    rw (
      get_or-written-past s i vs k (omega arith),
      get_or-written-past s i vs (k + 1) (omega arith),
      get_or-written-past s i vs (k + 2) (omega arith),
      get_or-written-past s i vs (k + 3)
          (omega arith),
    )

pub le64-written-below : (s : List ℕ) (i : ℕ) (vs : List ℕ) (k : ℕ) → k + 8 ≤ i → le64_at (written s i vs) k ≡ le64_at s k
unfolding le64_at
le64-written-below s i vs k h = rw (le32-written-below s i vs k (omega arith), le32-written-below s i vs (k + 4) (omega arith))

pub le64-written-past : (s : List ℕ) (i : ℕ) (vs : List ℕ) (k : ℕ) → i + length vs ≤ k → le64_at (written s i vs) k ≡ le64_at s k
unfolding le64_at
le64-written-past s i vs k h = rw (le32-written-past s i vs k (omega arith), le32-written-past s i vs (k + 4) (omega arith))

-- what a run of stores of a number leaves at its place
pub le32-written : (s : List ℕ) (i v : ℕ) → i + 4 ≤ length s → le32_at (written s i (le32 v)) i ≡ v
le32-written s i v h =
    ap (λ (k : ℕ). le32_at (written s i (le32 v)) k) (sym (add-zero i))
    ∙ sym (le32-drop i (written s i (le32 v)) 0)
    ∙ ap (λ (x : List ℕ). le32_at x 0) (drop-written-at s i (le32 v) h)
    ∙ le32-back v (drop (i + 4) s)

pub le64-written : (s : List ℕ) (i v : ℕ) → i + 8 ≤ length s → le64_at (written s i (le64 v)) i ≡ v
le64-written s i v h =
    ap (λ (k : ℕ). le64_at (written s i (le64 v)) k) (sym (add-zero i))
    ∙ sym (le64-drop i (written s i (le64 v)) 0)
    ∙ ap (λ (x : List ℕ). le64_at x 0) (drop-written-at s i (le64 v) (rw length-le64 h))
    ∙ le64-back v (drop (i + length (le64 v)) s)

-- ---- several runs

pub written_none : (s : List ℕ) (i : ℕ) → written s i [] ≡ s
unfolding written
written_none [] i = refl
written_none (b ∷ s) zero = refl
written_none (b ∷ s) (suc i) = ap (λ (x : List ℕ). b ∷ x) (written_none s i)

pub written-append : (s : List ℕ) (i : ℕ) (us vs : List ℕ) → written s i (us ++ vs) ≡ written (written s i us) (i + length us) vs
unfolding written
written-append [] i us vs = refl
written-append (b ∷ s) (suc i) us vs = rw suc-add (ap (λ (x : List ℕ). b ∷ x) (written-append s i us vs))
written-append (b ∷ s) zero [] vs = refl
written-append (b ∷ s) zero (u ∷ us) vs = rw (zero-add, written-append s zero us vs, zero-add)

-- a run behind a run
pub run-behind : (s : List ℕ) (k : ℕ) (a b : List ℕ) {n j : ℕ} → length a ≡ n → j ≡ k + n → written (written s k a) j b ≡ written s k (a ++ b)
run-behind s k a b p q = rw (q, ← p) (sym (written-append s k a b))

-- any number of runs, each behind the one before
pub runs-stored : (s : List ℕ) (k : ℕ) (r : Runs k) → stored_by s r ≡ written s k (bytes_by r)
unfolding stored_by bytes_by
runs-stored s k (last a) = refl
runs-stored s k (run a n p r) = runs-stored (written s k a) n r ∙ run-behind s k a (bytes_by r) refl (sym p)

-- runs that are apart, in either order
pub written_comm : (s : List ℕ) (i : ℕ) (us : List ℕ) (j : ℕ) (vs : List ℕ) → i + length us ≤ j → written (written s i us) j vs ≡ written (written s j vs) i us
unfolding written
written_comm [] i us j vs h = refl
written_comm (b ∷ s) (suc i) us zero vs h = absurd (omega arith)
written_comm (b ∷ s) (suc i) us (suc j) vs h = ap (λ (x : List ℕ). b ∷ x) (written_comm s i us j vs (omega arith))
written_comm (b ∷ s) zero [] j vs h = sym (written_none (written (b ∷ s) j vs) 0)
written_comm (b ∷ s) zero (u ∷ us) zero vs h = absurd (omega arith)
written_comm (b ∷ s) zero (u ∷ us) (suc j) vs h = ap (λ (x : List ℕ). u ∷ x) (written_comm s zero us j vs (omega arith))

-- a run over one that lies within it
over-front : (s : List ℕ) (j : ℕ) (us vs : List ℕ) → j + length us ≤ length vs → written (written s j us) 0 vs ≡ written s 0 vs
unfolding written
over-front [] j us vs h = refl
over-front (b ∷ s) zero [] vs h = refl
over-front (b ∷ s) zero (u ∷ us) [] h = absurd (omega arith)
over-front (b ∷ s) zero (u ∷ us) (v ∷ vs) h = ap (λ (x : List ℕ). v ∷ x) (over-front s zero us vs (omega arith))
over-front (b ∷ s) (suc j) us [] h = absurd (omega arith)
over-front (b ∷ s) (suc j) us (v ∷ vs) h = ap (λ (x : List ℕ). v ∷ x) (over-front s j us vs (omega arith))

pub written_over : (s : List ℕ) (i j : ℕ) (us vs : List ℕ) → j + length us ≤ length vs → written (written s (i + j) us) i vs ≡ written s i vs
unfolding written
written_over [] i j us vs h = refl
written_over (b ∷ s) (suc i) j us vs h = rw suc-add (ap (λ (x : List ℕ). b ∷ x) (written_over s i j us vs h))
written_over (b ∷ s) zero j us vs h = rw zero-add (over-front (b ∷ s) j us vs h)

pub written_cover : (s : List ℕ) (i : ℕ) (us vs : List ℕ) → length us ≤ length vs → written (written s i us) i vs ≡ written s i vs
written_cover s i us vs h =
    ap (λ (k : ℕ). written (written s k us) i vs) (sym (add-zero i)) ∙ written_over s i 0 us vs (omega arith)

-- a run of what stands there
pub written_same : (s : List ℕ) (i : ℕ) (vs : List ℕ) → ((k : ℕ) → k < length vs → get_or vs k 0 ≡ get_or s (i + k) 0) → written s i vs ≡ s
unfolding written
written_same [] i vs h = refl
written_same (b ∷ s) (suc i) vs h = ap (λ (x : List ℕ). b ∷ x) (written_same s i vs (λ k q. rw suc-add at (h k q)))
written_same (b ∷ s) zero [] h = refl
written_same (b ∷ s) zero (v ∷ vs) h =
    let first : v ≡ b = h 0 (omega arith) in
    let rest : written s zero vs ≡ s = written_same s zero vs (λ k q. rw zero-add (rw (zero-add (suc k)) at (h (suc k) (omega arith)))) in
    rw (first, rest)

pub written-again : (s : List ℕ) (i n : ℕ) (vs : List ℕ) → vs ≡ part i n s → written s i vs ≡ s
written-again s i n vs e =
    written_same s i vs (λ k q. rw e (get_or-take n (drop i s) k 0 (omega (arith, ap length e, length-take n (drop i s)))) ∙ get_or-drop i s k 0)

quad-same : (s : List ℕ) (i : ℕ) → written s i (quad (get_or s i 0) (get_or s (i + 1) 0) (get_or s (i + 2) 0) (get_or s (i + 3) 0)) ≡ s
quad-same s i =
    written-sets s i (quad (get_or s i 0) (get_or s (i + 1) 0) (get_or s (i + 2) 0) (get_or s (i + 3) 0))
    ∙ rw (add-one, add-two, add-three) (rw (set-get_or s i 0, set-get_or s (suc i) 0, set-get_or s (suc (suc i)) 0, set-get_or s (suc (suc (suc i))) 0))

-- a number stored where it stands
pub written-le32 : (s : List ℕ) (i : ℕ) → Bytes s → written s i (le32 (le32_at s i)) ≡ s
written-le32 s i h = rw (le32-quad s i h) (quad-same s i)

pub written-le64 : (s : List ℕ) (i : ℕ) → Bytes s → written s i (le64 (le64_at s i)) ≡ s
written-le64 s i h =
    rw (le64-parts s i h, written-append) (ap (λ (x : List ℕ). written x (i + 4) (le32 (le32_at s (i + 4)))) (written-le32 s i h) ∙ written-le32 s (i + 4) h)

pub nested_front : (s bs : List ℕ) (i : ℕ) (vs : List ℕ) → i + length vs ≤ length bs → written (written s 0 bs) i vs ≡ written s 0 (written bs i vs)
unfolding written
nested_front [] bs i vs h = refl
nested_front (b ∷ s) [] zero [] h = refl
nested_front (b ∷ s) [] zero (v ∷ vs) h = absurd (omega arith)
nested_front (b ∷ s) [] (suc i) vs h = absurd (omega arith)
nested_front (b ∷ s) (c ∷ bs) zero [] h = refl
nested_front (b ∷ s) (c ∷ bs) zero (v ∷ vs) h = ap (λ (x : List ℕ). v ∷ x) (nested_front s bs zero vs (omega arith))
nested_front (b ∷ s) (c ∷ bs) (suc i) vs h = ap (λ (x : List ℕ). c ∷ x) (nested_front s bs i vs (omega arith))

-- a run stored within a run is a run of the changed list

-- what stands there, in two parts: each stands there
pub written_prefix : (s a b : List ℕ) → written s 0 (a ++ b) ≡ s → written s 0 a ≡ s
written_prefix s a b e =
    ap (λ (x : List ℕ). written x 0 a) (sym e)
    ∙ nested_front s (a ++ b) 0 a (omega (arith, length-append a b))
    ∙ ap (λ (x : List ℕ). written s 0 x) (written-front (a ++ b) a (omega (arith, length-append a b)) ∙ ap (λ (x : List ℕ). a ++ x) (drop_at a b (length a) refl))
    ∙ e

pub written_suffix : (s a b : List ℕ) (n : ℕ) → length a ≡ n → written s 0 (a ++ b) ≡ s → written s n b ≡ s
written_suffix s a b n l e =
    let p : written s 0 a ≡ s = written_prefix s a b e in
    ap (λ (x : List ℕ). written x n b) (sym p)
    ∙ ap (λ (k : ℕ). written (written s 0 a) k b) (sym l ∙ sym (zero-add (length a)))
    ∙ sym (written-append s 0 a b)
    ∙ e

pub written_nested : (s : List ℕ) (a : ℕ) (bs : List ℕ) (i : ℕ) (vs : List ℕ) → i + length vs ≤ length bs → written (written s a bs) (a + i) vs ≡ written s a (written bs i vs)
unfolding written
written_nested [] a bs i vs h = refl
written_nested (b ∷ s) (suc a) bs i vs h = rw suc-add (ap (λ (x : List ℕ). b ∷ x) (written_nested s a bs i vs h))
written_nested (b ∷ s) zero bs i vs h = rw zero-add (nested_front (b ∷ s) bs i vs h)

-- a run stored in the middle of what stands there
pub written_mid : (s : List ℕ) (k : ℕ) (us bs cs ds : List ℕ) → s ≡ written s k (us ++ (bs ++ cs)) → length ds ≡ length bs → written s (k + length us) ds ≡ written s k (us ++ (ds ++ cs))
written_mid s k us bs cs ds e h =
    let x : List ℕ = written s k us in
    let a : ℕ = k + length us in
    let parts : written s k (us ++ (bs ++ cs)) ≡ written (written x a bs) (a + length bs) cs = rw (written-append, written-append) in
    let parts' : written s k (us ++ (ds ++ cs)) ≡ written (written x a ds) (a + length bs) cs = rw (written-append, written-append, h) in
    ap (λ (y : List ℕ). written y a ds) (e ∙ parts)
    ∙ sym (written_comm (written x a bs) a ds (a + length bs) cs (omega arith))
    ∙ ap (λ (y : List ℕ). written y (a + length bs) cs) (written_cover x a bs ds (omega arith))
    ∙ sym parts'

-- a run in the first or the second of two lists
pub written-first : (bs cs : List ℕ) (i : ℕ) (vs : List ℕ) → i + length vs ≤ length bs → written (bs ++ cs) i vs ≡ written bs i vs ++ cs
unfolding written
written-first [] cs zero [] h = written_none cs 0
written-first [] cs zero (v ∷ vs) h = absurd (omega arith)
written-first [] cs (suc i) vs h = absurd (omega arith)
written-first (b ∷ bs) cs zero [] h = refl
written-first (b ∷ bs) cs zero (v ∷ vs) h = ap (λ (x : List ℕ). v ∷ x) (written-first bs cs zero vs (omega arith))
written-first (b ∷ bs) cs (suc i) vs h = ap (λ (x : List ℕ). b ∷ x) (written-first bs cs i vs (omega arith))

pub written-second : (us ws : List ℕ) (k i : ℕ) (vs : List ℕ) → length us ≡ k → written (us ++ ws) (k + i) vs ≡ us ++ written ws i vs
unfolding written
written-second us ws k i vs e = ap (λ (x : ℕ). written (us ++ ws) (x + i) vs) (sym e) ∙ second us
  where
    second : (us : List ℕ) → written (us ++ ws) (length us + i) vs ≡ us ++ written ws i vs
    second [] = rw zero-add
    second (u ∷ us) = rw suc-add (ap (λ (x : List ℕ). u ∷ x) (second us))

-- ---- the part of a slice from a on, lent to a writer, and back

pub written-tail : (l : List ℕ) (a j : ℕ) (vs : List ℕ) → take a l ++ written (drop a l) j vs ≡ written l (a + j) vs
written-tail l a j vs =
    rw (← drop-written a l j vs, ← take-written a l (a + j) vs (omega arith)) (take-append-drop a (written l (a + j) vs))

pub tail-part : (a : ℕ) (l : List ℕ) → mid_of a (length l - a) l ≡ drop a l
tail-part a l = take_all (length l - a) (drop a l) (omega (arith, length-drop a l))

pub tail-back : (a : ℕ) (l vs : List ℕ) → put_mid a (length l - a) l (written (mid_of a (length l - a) l) 0 vs) ≡ written l a vs
tail-back a l vs =
    let p : drop (length l - a) (drop a l) ≡ [] = drop_of_length-le (drop a l) {i = length l - a} (omega (arith, length-drop a l)) in
    rw (tail-part a l, p, append-nil) (written-tail l a 0 vs ∙ ap (λ (n : ℕ). written l n vs) (add-zero a))

pub tail-back-sets : (a : ℕ) (l vs : List ℕ) → put_mid a (length l - a) l (sets (mid_of a (length l - a) l) 0 vs) ≡ sets l a vs
tail-back-sets a l vs =
    ap (λ (x : List ℕ). put_mid a (length l - a) l x) (sym (written-sets (mid_of a (length l - a) l) 0 vs))
    ∙ tail-back a l vs
    ∙ written-sets l a vs
