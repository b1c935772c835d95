-- Laws of extents.
--     spans-some, spans-whole       a whole record has a kind, and its bytes are there
--     spans-take                    a whole take, by its image's length
--     take-off, take_rest           a take's extent by its image's length
--     from-spans, from_inside, from-head     the same of the record at a place of the log
--     size_by                       its size, by its kind
-- Assumes nothing.
use Prim.Native.Nat.{ℕ, ◌+◌, ◌≤◌}
use mathlib.Core.Path.{◌≡◌, sym, ap, ◌∙◌}
use mathlib.Core.Bool.{true, false, ◌||◌}
use mathlib.Core.List.{List, [], ◌∷◌}
use native.Mathlib.Omega.{arith}
use borrow.Author.Tests.{le-ltb}
use native.Mathlib.Nat.{add-zero}
use lib.ListN.{length, drop, length-drop}
use lib.Seq.{get_or-drop}
use lib.Dec.{eqb, leb, ltb}
use Rattle.model.specs.Numbers.{byte_at, le32_at}
use Rattle.model.specs.Limits.{least_image, greatest_image, head_size, first_executed_kind, gone_kind, give_kind, take_kind, release_kind, executed_kind}
use Rattle.model.specs.Limits.{first_executed_size, gone_size, give_size, take_head, release_size, executed_size}
use Rattle.model.specs.Logs.{Extent, off, spans, within, take_extent, extent_of}
use Rattle.model_laws.proofs.Tests.{choose, impossible}
use Rattle.model_laws.proofs.Numbers.{le32-drop}
use Rattle.model_laws.proofs.Logs.{within-spans, take-spans}
use Rattle.model_laws.proofs.Ends.{spans-least}
use Rattle.format_log_ends.specs.Answers.{extent_from, WholeAt, size_from}

pub spans-some : (s : List ℕ) (n : ℕ) → extent_of s ≡ spans n → 1 ≤ length s
unfolding extent_of
spans-some [] n e = let z : ◌≡◌ {A = ℕ} 0 1 = cc in absurd (omega arith)
spans-some (b ∷ s) n e = omega arith

pub spans-whole : (s : List ℕ) (n : ℕ) → extent_of s ≡ spans n → n ≤ length s
unfolding extent_of
spans-whole s n =
    let P : Extent → Type 0 = λ x. x ≡ spans n → n ≤ length s in
    choose P (eqb (byte_at s 0) first_executed_kind) (λ k e. let w = within-spans s first_executed_size n e in omega arith)
    (λ k1. choose P (eqb (byte_at s 0) gone_kind) (λ k e. let w = within-spans s gone_size n e in omega arith)
    (λ k2. choose P (eqb (byte_at s 0) give_kind) (λ k e. let w = within-spans s give_size n e in omega arith)
    (λ k3. choose P (eqb (byte_at s 0) take_kind) (λ k e. let w = take-spans s n e in omega arith)
    (λ k4. choose P (eqb (byte_at s 0) release_kind) (λ k e. let w = within-spans s release_size n e in omega arith)
    (λ k5. choose P (eqb (byte_at s 0) executed_kind) (λ k e. let w = within-spans s executed_size n e in omega arith)
    (λ k6 e. let z : ◌≡◌ {A = ℕ} 0 1 = cc in absurd (omega arith)))))))

-- a take's image has the length that stands in its 4 bytes
pub spans-take : (s : List ℕ) (n : ℕ) → extent_of s ≡ spans n → byte_at s 0 ≡ take_kind → n ≡ take_head + le32_at s 4
unfolding extent_of
spans-take s n e k = (take-spans s n (rw k at e)).0

-- what take_extent answers behind the test of the length
pub take-off : (s : List ℕ) {n : ℕ} → n ≡ le32_at s 4 → take_head ≤ length s → (ltb n least_image || ltb greatest_image n) ≡ true → off ≡ take_extent s
unfolding take_extent
take-off s e h t = rw (le-ltb (length s) take_head h, ← e, t)

pub take_rest : (s : List ℕ) {n : ℕ} {x : Extent} → n ≡ le32_at s 4 → take_head ≤ length s → (ltb n least_image || ltb greatest_image n) ≡ false
    → x ≡ within s (take_head + n) → x ≡ take_extent s
unfolding take_extent
take_rest s e h t q = rw (le-ltb (length s) take_head h, ← e, t) q

-- the record at a place of the log
pub from-spans : (log : List ℕ) (at n : ℕ) → extent_from log at ≡ spans n → extent_of (drop at log) ≡ spans n
unfolding extent_from
from-spans log at n =
    choose (λ x. x ≡ spans n → extent_of (drop at log) ≡ spans n) (leb (length log) at)
    (λ t e. let z : ◌≡◌ {A = ℕ} 0 1 = cc in absurd (omega arith)) (λ t e. e)

pub from_inside : (log : List ℕ) (at n : ℕ) → extent_from log at ≡ spans n → at + n ≤ length log
from_inside log at n e =
    let s : List ℕ = drop at log in
    let f : extent_of s ≡ spans n = from-spans log at n e in
    omega (arith, spans-some s n f, spans-whole s n f, length-drop at log)

pub from-head : (log : List ℕ) (at : ℕ) → WholeAt log at → at + head_size ≤ length log
from-head log at w = omega (arith, from_inside log at w.size w.whole, spans-least (drop at log) w.size (from-spans log at w.size w.whole))

-- ---- sizes

module _ (log : List ℕ) (at n : ℕ) (e : extent_of (drop at log) ≡ spans n) where
  abbrev kind : ℕ
  kind = byte_at (drop at log) 0

  size-last : eqb kind first_executed_kind ≡ false → eqb kind gone_kind ≡ false → eqb kind give_kind ≡ false → eqb kind take_kind ≡ false → eqb kind release_kind ≡ false → n ≡ executed_size
  unfolding extent_of
  size-last a b c d f =
      choose (λ x. x ≡ spans n → n ≡ executed_size) (eqb kind executed_kind) (λ k g. (within-spans (drop at log) executed_size n g).0) (λ k g. impossible (cc))
      (rw (a, b, c, d, f) at e)

  size_kinds : n ≡ size_from log at
  unfolding extent_of size_from
  size_kinds =
      let s : List ℕ = drop at log in
      let k : kind ≡ byte_at log at = get_or-drop at log 0 0 ∙ ap (byte_at log) (add-zero at) in
      rw (← k, ← le32-drop at log 4)
      (choose (λ m. n ≡ m) (eqb kind first_executed_kind) (λ a. (within-spans s first_executed_size n (rw a at e)).0)
      (λ a. choose (λ m. n ≡ m) (eqb kind gone_kind) (λ b. (within-spans s gone_size n (rw (a, b) at e)).0)
      (λ b. choose (λ m. n ≡ m) (eqb kind give_kind) (λ c. (within-spans s give_size n (rw (a, b, c) at e)).0)
      (λ c. choose (λ m. n ≡ m) (eqb kind take_kind) (λ d. (take-spans s n (rw (a, b, c, d) at e)).0)
      (λ d. choose (λ m. n ≡ m) (eqb kind release_kind) (λ f. (within-spans s release_size n (rw (a, b, c, d, f) at e)).0)
      (λ f. size-last a b c d f))))))

pub size_by : (log : List ℕ) (at : ℕ) → WholeAt log at → {r : ℕ} → r ≡ size_from log at → extent_from log at ≡ spans r
size_by log at w q = w.whole ∙ ap spans (size_kinds log at w.size (from-spans log at w.size w.whole) ∙ sym q)
