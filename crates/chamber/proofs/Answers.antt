-- Every exit of an operation: what the calls before it found, and that it is the definition's answer.
--     and-true       a test joined with true is itself
--     role_by, role_some, role-none     the role of a point
--     at_inside      what stands inside a list does not depend on the default
--     issue-none, issue_bad, issue_open, issue_unsafe, issue-passed
-- Assumes nothing.
use mathlib.Core.Path.{◌≡◌, refl, sym, ◌∙◌}
use mathlib.Core.Bool.{Bool, true, false, ◌&&◌, not}
use mathlib.Core.List.{List, [], ◌∷◌}
use Prim.Native.Nat.{ℕ, zero, suc, ◌+◌, ◌≤◌, ◌<◌}
use native.Mathlib.Omega.{arith}
use lib.Dec.{eqb, ltb}
use native.Mathlib.Nat.{not-suc-le-zero, le_of_suc-le-suc}
use lib.ListN.{length, get_or}
use borrow.Author.Tests.{lt-ltb, le-ltb, lt-leb, ltb-true, ltb-false}
use Rattle.std.proofs.Common.{Some, None, cond}
use Rattle.std.specs.List.{position, position_or_len}
use Rattle.std.proofs.lemmas.List.Recursion.{is_position_or_len}
use Rattle.model.specs.Choice.{pick}
use Rattle.model.specs.Tables.{index_of}
use Rattle.model.specs.declared.SendAnswer.{SendAnswer}
use Rattle.model.specs.Packets.{command_ok}
use Rattle.model.specs.declared.Refusal.TheVariants.{Malformed, WindowFull, NotSafe}
use Rattle.model.specs.Clients.{first_open, issue_of}
use Rattle.chamber_claim.specs.declared.LockPoints.{LockPoints}
use Rattle.chamber_claim.specs.declared.Chamber.{Chamber}
use Rattle.model.specs.declared.Refusal.{Refusal}
use Rattle.chamber_claim.specs.declared.ChamberSend.{ChamberSend}
use Rattle.chamber.specs.Roles.{role_of}
use Rattle.chamber_claim.specs.Chamber.{role_count, lower_gate, lower_level, point_list, role_in, op_ok, is_opening, may_open, not_sent_in, sent_in, issue_in}

pub and-true : (t : Bool) → (t && true) ≡ t
and-true true = refl
and-true false = refl

pub at_inside : {A : Type 0} (l : List A) (i : ℕ) (d e : A) → i < length l → get_or l i d ≡ get_or l i e
at_inside [] i d e h = absurd (not-suc-le-zero h)
at_inside (x ∷ xs) zero d e h = refl
at_inside (x ∷ xs) (suc i) d e h = at_inside xs i d e (le_of_suc-le-suc h)

-- ---- the role of a point

role-found : (s : LockPoints) (p : ℕ) → position_or_len (λ q. eqb p q) (point_list s) ≡ role_in s p
unfolding role_in index_of
role-found s p =
    sym (is_position_or_len (index_of (λ q. eqb p q)) (λ q. eqb p q) refl (λ q qs. next (eqb p q) (index_of (λ r. eqb p r) qs)) (point_list s))
    ∙ go (eqb p s.upper) (eqb p s.lower) (eqb p s.level1) (eqb p s.level2) (eqb p s.level3)
  where
    next : (b : Bool) (n : ℕ) → pick b 0 (suc n) ≡ cond b 0 (1 + n)
    next true n = refl
    next false n = omega arith

    go : (a b c d e : Bool) → pick a 0 (suc (pick b 0 (suc (pick c 0 (suc (pick d 0 (suc (pick e 0 1)))))))) ≡ pick a 0 (pick b 1 (pick c 2 (pick d 3 (pick e 4 5))))
    go true b c d e = refl
    go false true c d e = refl
    go false false true d e = refl
    go false false false true e = refl
    go false false false false true = refl
    go false false false false false = refl

pub role_by : (s : LockPoints) (p : ℕ) → position (λ q. eqb p q) (point_list s) ≡ role_of s p
unfolding role_of
role_by s p = rw (role-found s p) (go (ltb (role_in s p) role_count))
  where
    go : (b : Bool) → cond b (Some (role_in s p)) None ≡ pick b (Some (role_in s p)) None
    go true = refl
    go false = refl

pub role_some : (s : LockPoints) (p : ℕ) {i : ℕ} → Some i ≡ role_of s p → (i ≡ role_in s p) × (i < role_count)
unfolding role_of
role_some s p {i} = go (ltb (role_in s p) role_count) refl
  where
    go : (b : Bool) → ltb (role_in s p) role_count ≡ b → Some i ≡ pick b (Some (role_in s p)) None → (i ≡ role_in s p) × (i < role_count)
    go true h q = let e : i ≡ role_in s p = cc in (e, rw e (ltb-true _ _ h))
    go false h q = absurd (cc)

pub role-none : (s : LockPoints) (p : ℕ) → None ≡ role_of s p → role_count ≤ role_in s p
unfolding role_of
role-none s p = go (ltb (role_in s p) role_count) refl
  where
    go : (b : Bool) → ltb (role_in s p) role_count ≡ b → None ≡ pick b (Some (role_in s p)) None → role_count ≤ role_in s p
    go true h q = absurd (cc)
    go false h q = ltb-false _ _ h

-- ---- issue: i is the point's role; u, v, first, o and m are what the calls answer

and-false : (t : Bool) → (t && false) ≡ false
and-false true = refl
and-false false = refl

op-none : (i op : ℕ) → role_count ≤ i → op_ok i op ≡ false
unfolding op_ok
op-none i op h = rw (lt-leb i lower_gate (omega arith), lt-leb i lower_level (omega arith)) refl

pub issue-none : (ch : Chamber) (op point a : ℕ) → None ≡ role_of ch.points point → {r : ChamberSend Refusal} → r ≡ not_sent_in ch Malformed → r ≡ issue_in ch op point a
unfolding issue_in
issue-none ch op point a none e =
    rw (op-none (role_in ch.points point) op (role-none ch.points point none), and-false (command_ok op point a)) e

module _ (ch : Chamber) (op point a : ℕ) {i : ℕ} (role : i ≡ role_in ch.points point) {u v : Bool} (ok : u ≡ command_ok op point a) (fits : v ≡ op_ok i op) {r : ChamberSend Refusal} where
  pub issue_bad : not (u && v) ≡ true → r ≡ not_sent_in ch Malformed → r ≡ issue_in ch op point a
  unfolding issue_in
  issue_bad bad e = rw (← role, ← ok, ← fits, bad) e

  module _ (good : not (u && v) ≡ false) {first : ℕ} (least : first ≡ first_open ch.client) where
    pub issue_open : first < ch.client.next → r ≡ not_sent_in ch WindowFull → r ≡ issue_in ch op point a
    unfolding issue_in
    issue_open under e = rw (← role, ← ok, ← fits, good, ← least, lt-ltb _ _ under) e

    module _ (none : ch.client.next ≤ first) {o m : Bool} (opening : o ≡ is_opening op a) (may : m ≡ may_open ch i) where
      pub issue_unsafe : (o && not m) ≡ true → r ≡ not_sent_in ch NotSafe → r ≡ issue_in ch op point a
      unfolding issue_in
      issue_unsafe bad e = rw (← role, ← ok, ← fits, good, ← least, le-ltb _ _ none, ← opening, ← may, bad) e

      pub issue-passed : (o && not m) ≡ false → {s : SendAnswer} → s ≡ issue_of ch.client op point a → r ≡ sent_in ch op s → r ≡ issue_in ch op point a
      unfolding issue_in
      issue-passed safe asks e = rw (← role, ← ok, ← fits, good, ← least, le-ltb _ _ none, ← opening, ← may, safe, ← asks) e
