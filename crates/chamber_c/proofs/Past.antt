-- Numbers past a byte: a point or an op that is one is past its range, so start and issue refuse it with 1.
--     points-past, issue-past      start and issue with others
-- Assumes nothing.
use mathlib.Core.Path.{◌≡◌, refl}
use mathlib.Core.Bool.{Bool, true, false}
use mathlib.Core.List.{List}
use Prim.Native.Nat.{ℕ, ◌<◌}
use native.Mathlib.Omega.{arith}
use borrow.Author.Tests.{leb-true}
use Rattle.model.specs.Limits.{last_point}
use Rattle.model.specs.declared.Refusal.TheVariants.{Malformed}
use Rattle.model.specs.Tables.{every}
use Rattle.model_laws.proofs.Tests.{and_left, and_right}
use Rattle.model_laws.proofs.Commands.{command-past}
use Rattle.client_c.proofs.Cases.{past-test}
use Rattle.chamber_claim.specs.declared.LockPoints.{LockPoints}
use Rattle.chamber_claim.specs.declared.Chamber.{Chamber}
use Rattle.chamber_claim.specs.Chamber.{point_list, is_point, points_ok, not_started_in, start_in, not_sent_in, issue_in}

-- ---- start

-- each of them is under n
pub record Under (n : ℕ) (s : LockPoints) : Type 0 where
  pub upper : s.upper < n
  pub lower : s.lower < n
  pub level1 : s.level1 < n
  pub level2 : s.level2 < n
  pub level3 : s.level3 < n

abbrev pub five : ℕ → ℕ → ℕ → ℕ → ℕ → LockPoints
five u l a b c = record { upper = u; lower = l; level1 = a; level2 = b; level3 = c }

-- points in their range fit a byte
in_range_lem : (s : LockPoints) → every is_point (point_list s) ≡ true → Under 256 s
unfolding every is_point
in_range_lem s e =
    let e1 = and_right (is_point s.upper) _ e in
    let e2 = and_right (is_point s.lower) _ e1 in
    let e3 = and_right (is_point s.level1) _ e2 in
    let f0 = leb-true s.upper last_point (and_left (is_point s.upper) _ e) in
    let f1 = leb-true s.lower last_point (and_left (is_point s.lower) _ e1) in
    let f2 = leb-true s.level1 last_point (and_left (is_point s.level1) _ e2) in
    let f3 = leb-true s.level2 last_point (and_left (is_point s.level2) _ e3) in
    let f4 = leb-true s.level3 last_point (and_left (is_point s.level3) _ (and_right (is_point s.level2) _ e3)) in
    record { upper = omega arith; lower = omega arith; level1 = omega arith; level2 = omega arith; level3 = omega arith }

pub points-past : (packet : List ℕ) (s : LockPoints) → (Under 256 s → ⊥) → not_started_in Malformed ≡ start_in packet s
unfolding start_in points_ok
points-past packet s past = refused (every is_point (point_list s)) refl
  where
    refused : (b : Bool) → every is_point (point_list s) ≡ b → not_started_in Malformed ≡ start_in packet s
    refused true f = absurd (past (in_range_lem s f))
    refused false f = rw f refl

-- ---- issue

pub issue-past : (ch : Chamber) (op point a : ℕ) → (op < 256 → point < 256 → ⊥) → not_sent_in ch Malformed ≡ issue_in ch op point a
unfolding issue_in
issue-past ch op point a past = rw (command-past op point a (past-test op point past)) refl
