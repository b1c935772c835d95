-- Laws of founding.
--     head-runs                     the stores of the head
--     Pointed, pointed-..           a loop that stores the points of a plan
--     founded-runs                  head, plan, points and the two empty tables, one behind the other, are the founded state
-- Assumes nothing.
use Prim.Native.Nat.{ℕ, ◌+◌, ◌*◌, ◌≤◌, ◌<◌}
use mathlib.Core.Path.{◌≡◌, refl, sym, ap, ◌∙◌}
use mathlib.Core.Bool.{Bool, true, false, not, ◌||◌, false≢true}
use mathlib.Core.List.{List, [], ◌++◌, map, map-append, append-nil}
use native.Mathlib.Omega.{arith}
use native.Mathlib.Nat.{sub-zero}
use lib.ListN.{length, drop, replicate, length-map}
use lib.Dec.{eqb, ltb}
use borrow.Author.Tests.{eqb-true, ne_eqb, ltb-false, not-false}
use Rattle.std.specs.Prelude.{Result, Ok}
use Rattle.std.specs.Result.{IsErrAnd}
use Rattle.model.specs.declared.PlanEntry.{PlanEntry}
use Rattle.model.specs.declared.Point.{Point}
use Rattle.model.specs.Limits.{last_server, state_size, head_size, point_count, plan_row, plan_size, floor_row, client_count}
use Rattle.model.specs.Refusals.{malformed, too_short, no_refusal}
use Rattle.model.specs.Numbers.{le64, quad}
use Rattle.model.specs.Tables.{rows, every_row, bytes_of, written}
use Rattle.model.specs.Plan.{plan_entry_of, plan_row_ok, plan_ok, plan_of, plan_bytes}
use Rattle.model.specs.Images.{floor_bytes}
use Rattle.model.specs.States.{state_bytes, state_head_bytes, point_bytes, padded, points_start, floors_start, point_row, length_place, mark_place, state_head, state_magic}
use Rattle.model.specs.Apply.{founded, founded_point}
use Rattle.model.specs.Logs.{head_bytes}
use Rattle.model.specs.Operations.{after, settle, stored, left_unless, found_refusal, found_of}
use Rattle.model.specs.declared.Refusal.{Refusal}
use Rattle.refusals.specs.Numbers.{number_of, answered}
use Rattle.refusals.proofs.Numbers.{number-some, exit}
use Rattle.model_laws.specs.Bytes.{Bytes}
use Rattle.model_laws.specs.Runs.{last, run, stored_by, bytes_by}
use Rattle.model_laws.proofs.Tests.{and_left}
use Rattle.model_laws.proofs.Refused.{if-passed}
use Rattle.model_laws.proofs.Written.{length-written, written_none, run-behind, runs-stored}
use Rattle.model_laws.proofs.Tables.{length-rows, rows_snoc, bytes_of-append, bytes_of-one, length-bytes_of}
use Rattle.model_laws.proofs.Plans.{plan-again, plan-length}
use Rattle.model_laws.proofs.States.{point_codec}

-- ---- the head

pub head-runs : (s : List ℕ) (n : ℕ)
    → written (written (written (written (written s 0 state_magic) 4 (quad n 0 0 0)) 8 (replicate 16 0)) 24 (le64 head_size)) 32 (le64 head_size)
    ≡ written s 0 (state_head_bytes (founded [] n))
unfolding state_head_bytes founded le64 stored_by bytes_by
head-runs s n =
    runs-stored s 0
    (run state_magic 4 refl
    (run (quad n 0 0 0) 8 refl (run (replicate 16 0) length_place refl (run (le64 head_size) mark_place refl (last (le64 head_size))))))

head-length : (n : ℕ) → length (state_head_bytes (founded [] n)) ≡ state_head
unfolding state_head_bytes founded le64
head-length n = refl

-- ---- the points

-- the points of the first i entries of the plan t were stored
pub record Pointed (n : ℕ) (s₀ t s : List ℕ) (i : ℕ) : Type 0 where
  pub below : i ≤ point_count
  pub same : length s ≡ length s₀
  pub bytes : s ≡ written s₀ points_start (bytes_of point_bytes (map (founded_point n) (rows plan_entry_of plan_row i t)))

pub pointed-start : (n : ℕ) (s t : List ℕ) → Pointed n s t s 0
unfolding rows bytes_of
pointed-start n s t = record { below = omega arith; same = refl; bytes = sym (written_none s points_start) }

pub pointed-next : {n : ℕ} {s₀ t s s' : List ℕ} {i : ℕ} → Pointed n s₀ t s i → i < point_count
    → s' ≡ written s (points_start + point_row * i) (point_bytes (founded_point n (plan_entry_of (drop (plan_row * i) t))))
    → Pointed n s₀ t s' (i + 1)
pointed-next {n} {s₀} {t} {s} {s'} {i} o h q =
    let f : PlanEntry → Point = founded_point n in
    let es : List PlanEntry = rows plan_entry_of plan_row i t in
    let x : Point = f (plan_entry_of (drop (plan_row * i) t)) in
    let l : length (bytes_of point_bytes (map f es)) ≡ point_row * i = length-bytes_of point_codec (map f es)
    ∙ ap (λ (k : ℕ). point_row * k) (length-map es f ∙ length-rows plan_entry_of plan_row i t) in
    let one : bytes_of point_bytes (map f es) ++ point_bytes x ≡ bytes_of point_bytes (map f (rows plan_entry_of plan_row (i + 1) t)) =
    rw (rows_snoc plan_entry_of plan_row i t, map-append, bytes_of-append, bytes_of-one) in
    record {
      below = omega arith;
      same = rw (q, length-written) o.same;
      bytes =
          q
          ∙ ap (λ (y : List ℕ). written y (points_start + point_row * i) (point_bytes x)) o.bytes
          ∙ run-behind s₀ points_start (bytes_of point_bytes (map f es)) (point_bytes x) l refl
          ∙ ap (λ (y : List ℕ). written s₀ points_start y) one;
    }

pub pointed-end : {n : ℕ} {s₀ t s : List ℕ} {i : ℕ} → Pointed n s₀ t s i → point_count ≤ i
    → s ≡ written s₀ points_start (bytes_of point_bytes (map (founded_point n) (plan_of t)))
unfolding plan_of
pointed-end {n} {s₀} {t} {s} {i} o h = let e : point_count ≡ i = omega arith in rw e o.bytes

-- ---- the whole

padded-none : {A : Type 0} (enc : A → List ℕ) (w n : ℕ) → padded enc w n [] ≡ replicate (w * n) 0
unfolding padded bytes_of
padded-none enc w n = rw sub-zero

founded-bytes : (es : List PlanEntry) (n : ℕ)
    → state_bytes (founded es n)
    ≡ state_head_bytes (founded [] n) ++ (plan_bytes es ++ (bytes_of point_bytes (map (founded_point n) es) ++ replicate (floor_row * client_count) 0))
unfolding state_bytes founded state_head_bytes bytes_of
founded-bytes es n = rw (padded-none floor_bytes floor_row client_count, append-nil)

pub founded-runs : (s plan : List ℕ) (n : ℕ) → Bytes plan → plan_ok plan ≡ true
    → written (written (written (written s 0 (state_head_bytes (founded [] n))) state_head plan) points_start (bytes_of point_bytes (map (founded_point n) (plan_of plan)))) floors_start
    (replicate (floor_row * client_count) 0)
    ≡ stored s (founded (plan_of plan) n)
unfolding stored stored_by bytes_by
founded-runs s plan n h ok =
    let es : List PlanEntry = plan_of plan in
    let ps : List ℕ = bytes_of point_bytes (map (founded_point n) es) in
    let count : length es ≡ point_count = unfold plan_of in length-rows plan_entry_of plan_row point_count plan in
    let again : plan_bytes es ≡ plan = plan-again plan h ok in
    let long : length plan ≡ plan_size = ap length (sym again) ∙ plan-length es count in
    let points : length ps ≡ point_row * point_count = length-bytes_of point_codec (map (founded_point n) es) ∙ ap (λ (k : ℕ). point_row * k) (length-map es (founded_point n) ∙ count) in
    runs-stored s 0
    (run (state_head_bytes (founded [] n)) state_head (omega (arith, head-length n))
    (run plan points_start (omega arith)
    (run ps floors_start (omega arith)
    (last (replicate (floor_row * client_count) 0)))))
    ∙ ap (λ (x : List ℕ). written s 0 x) (ap (λ (x : List ℕ). state_head_bytes (founded [] n) ++ (x ++ (ps ++ replicate (floor_row * client_count) 0)))
    (sym again) ∙ sym (founded-bytes es n))

-- ---- the operation

-- what stands once a call passed its tests
pub plan-size : (plan : List ℕ) → plan_ok plan ≡ true → length plan ≡ plan_size
unfolding plan_ok
plan-size plan ok = eqb-true (length plan) plan_size (and_left (eqb (length plan) plan_size) (every_row plan_row_ok plan_row point_count plan) ok)

either_no : (a b : Bool) → (a || b) ≡ false → (a ≡ false) × (b ≡ false)
either_no true b e = absurd (false≢true (sym e))
either_no false b e = (refl, e)

-- with the plan's test as a call gave it
module _ (s log plan : List ℕ) (n : ℕ) {g : Bool} (p : g ≡ plan_ok plan) where
  pub found-refused : (e : Refusal) → number_of e ≡ found_refusal (length s) (length log) g n → (r : Result ℕ Refusal) → IsErrAnd r (λ x. x ≡ e)
      → after (answered r) s log [] ≡ found_of s log plan n
  unfolding found_of left_unless settle
  found-refused e q r h = rw (exit r h, ← p, ← q, ne_eqb (number_of e) no_refusal (number-some e))

  module _ (q : no_refusal ≡ found_refusal (length s) (length log) g n) where
    tests : (ltb (length s) state_size || ltb (length log) head_size) ≡ false × (not g || ltb last_server n) ≡ false
    unfolding found_refusal
    tests =
        let a = if-passed too_short refl (ltb (length s) state_size || ltb (length log) head_size) _ (sym q) in
        (a.0, (if-passed malformed refl (not g || ltb last_server n) 0 a.1).0)

    pub lent-passed : (state_size ≤ length s) × (head_size ≤ length log)
    lent-passed =
        let e = either_no (ltb (length s) state_size) (ltb (length log) head_size) tests.0 in
        (ltb-false (length s) state_size e.0, ltb-false (length log) head_size e.1)

    pub plan-passed : (plan_ok plan ≡ true) × (n ≤ last_server)
    plan-passed =
        let e = either_no (not g) (ltb last_server n) tests.1 in
        (sym p ∙ not-false g e.0, ltb-false last_server n e.1)

    pub found-done : {s' log' : List ℕ} → s' ≡ stored s (founded (plan_of plan) n) → log' ≡ written log 0 (head_bytes n)
        → after (answered (Ok 0)) s' log' [] ≡ found_of s log plan n
    unfolding found_of left_unless
    found-done e f = rw (← p, ← q, e, f)
