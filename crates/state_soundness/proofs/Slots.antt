-- Slots and ids of completion records that pass their tests.
--     slot_few     a slot is one of 512
--     slots_ids     the pass over the slots decides what the tests of all records, of their ids and of the marks decide
--     slots_start     with no slot marked: what the tests of all records and of their ids decide
--     pass_order     the pass with the order of arrival: both tests
-- Assumes nothing.
use Prim.Native.Nat.{ℕ, zero, suc, ◌≤◌, ◌<◌}
use mathlib.Core.Path.{◌≡◌, refl, sym, ap, ◌∙◌}
use mathlib.Core.Bool.{Bool, true, false, ◌&&◌, not, and-true, and-false}
use mathlib.Core.List.{List, [], ◌∷◌}
use native.Mathlib.Omega.{arith}
use lib.ListN.{length, get_or, set, replicate, length-set, length-replicate}
use lib.Seq.{get_or-set_same, get_or-set_other}
use lib.Dec.{eqb, leb}
use borrow.Author.Tests.{eqb-true, eqb-false, eq-eqb}
use Rattle.model.specs.declared.Completion.{Completion}
use Rattle.model.specs.Tables.{every}
use Rattle.model.specs.Images.{floor_of, in_window}
use Rattle.model.specs.States.{State, completion_ok, is_id, ids_differ, ends_from}
use Rattle.model.specs.Limits.{client_count, record_count}
use Rattle.model_laws.specs.Bytes.{All}
use Rattle.model_laws.proofs.Tests.{and_right}
use Rattle.model_laws.proofs.Tables.{every_all, all_every, all_map}
use Rattle.model_invariants.specs.Sound.{Ascending, InWindow}
use Rattle.model_invariants.proofs.Tests.{in_window_lem}
use Rattle.state_clients.proofs.Slots.{slot_below, slot_id}
use Rattle.state_soundness.specs.Slots.{at_point_ok, slot_in, is_free, slots_pass, records_pass}
use Rattle.state_soundness.proofs.Records.{ok-parts}

none_marked : (n i : ℕ) → get_or (replicate n false) i false ≡ false
none_marked zero i = refl
none_marked (suc n) zero = refl
none_marked (suc n) (suc i) = none_marked n i

windowed : (st : State) (r : Completion) → completion_ok st r ≡ true → InWindow (floor_of r.command.client st.floors) r.command.call
windowed st r e =
    in_window_lem (floor_of r.command.client st.floors) r.command.call
    (and_right (at_point_ok st.size st r) (in_window (floor_of r.command.client st.floors) r.command.call) (sym (ok-parts st r) ∙ e))

pub slot_few : (st : State) → length st.floors ≤ client_count → (r : Completion) → completion_ok st r ≡ true → slot_in st r < record_count
unfolding slot_in
slot_few st h r e = omega (arith, slot_below st.floors r.command.client r.command.call (windowed st r e))

module _ (st : State) (order : Ascending st.floors) where
  same_id : (r q : Completion) → completion_ok st r ≡ true → completion_ok st q ≡ true → slot_in st q ≡ slot_in st r → (q.command.client ≡ r.command.client) × (q.command.call ≡ r.command.call)
  unfolding slot_in
  same_id r q e f h = slot_id st.floors order q.command.client q.command.call r.command.client r.command.call (windowed st q f) (windowed st r e) h

  -- records of two slots have two ids
  other-id : (r q : Completion) → (slot_in st q ≡ slot_in st r → ⊥) → (eqb q.command.client r.command.client && eqb q.command.call r.command.call) ≡ false
  unfolding slot_in
  other-id r q n = step (eqb q.command.client r.command.client) (eqb q.command.call r.command.call) refl refl
    where
      step : (b d : Bool) → eqb q.command.client r.command.client ≡ b → eqb q.command.call r.command.call ≡ d → (b && d) ≡ false
      step true true e f = absurd (n (rw (eqb-true q.command.client r.command.client e, eqb-true q.command.call r.command.call f)))
      step true false e f = refl
      step false d e f = refl

  -- a slot is free after another was marked: the id is another, and the slot was free
  marked-free : (marks : List Bool) (r q : Completion) → slot_in st r < length marks → completion_ok st r ≡ true → completion_ok st q ≡ true
      → is_free st (set marks (slot_in st r) true) q ≡ (not (is_id r.command.client r.command.call q) && is_free st marks q)
  unfolding is_free is_id
  marked-free marks r q h e f = step (eqb (slot_in st q) (slot_in st r)) refl
    where
      step : (b : Bool) → eqb (slot_in st q) (slot_in st r) ≡ b
          → not (get_or (set marks (slot_in st r) true) (slot_in st q) false) ≡ (not (eqb q.command.client r.command.client && eqb q.command.call r.command.call) && not
          (get_or marks (slot_in st q) false))
      step true p =
          let s : slot_in st q ≡ slot_in st r = eqb-true (slot_in st q) (slot_in st r) p in
          let i = same_id r q e f s in
          rw (s, get_or-set_same marks (slot_in st r) true false h, eq-eqb q.command.client r.command.client i.0, eq-eqb q.command.call r.command.call i.1)
      step false p =
          let n : slot_in st q ≡ slot_in st r → ⊥ = eqb-false (slot_in st q) (slot_in st r) p in
          rw (get_or-set_other marks (slot_in st r) (slot_in st q) true false n, other-id r q n)

module _ {A : Type 0} (t a b : A → Bool) where
  every-both : (rs : List A) → All (λ q. t q ≡ (a q && b q)) rs → every t rs ≡ (every a rs && every b rs)
  unfolding every
  every-both [] f = refl
  every-both (q ∷ rs) f = rw (f.0, every-both rs f.1) (mixed (a q) (b q) (every a rs) (every b rs))
    where
      mixed : (x y z w : Bool) → ((x && y) && (z && w)) ≡ ((x && z) && (y && w))
      mixed true true true w = refl
      mixed true true false w = refl
      mixed true false true w = refl
      mixed true false false w = refl
      mixed false y z w = refl

module _ (st : State) (order : Ascending st.floors) (few : length st.floors ≤ client_count) where
  free-after : (marks : List Bool) (r : Completion) (rs : List Completion) → record_count ≤ length marks → completion_ok st r ≡ true → every (completion_ok st) rs ≡ true
      → every (is_free st (set marks (slot_in st r) true)) rs ≡ (every (λ q. not (is_id r.command.client r.command.call q)) rs && every (is_free st marks) rs)
  free-after marks r rs h e f =
      every-both (is_free st (set marks (slot_in st r) true)) (λ q. not (is_id r.command.client r.command.call q)) (is_free st marks) rs
      (all_map (λ q. completion_ok st q ≡ true) (λ q. is_free st (set marks (slot_in st r) true) q ≡ (not (is_id r.command.client r.command.call q) && is_free st marks q))
      (λ q g. marked-free st order marks r q (omega (arith, slot_few st few r e)) e g) rs (every_all (completion_ok st) rs f))

  pub slots_ids : (marks : List Bool) (rs : List Completion) → record_count ≤ length marks
      → slots_pass st marks rs ≡ (every (completion_ok st) rs && (ids_differ rs && every (is_free st marks) rs))
  unfolding slots_pass every ids_differ
  slots_ids marks [] h = refl
  slots_ids marks (r ∷ rs) h =
      rw (slots_ids (set marks (slot_in st r) true) rs (omega (arith, length-set marks (slot_in st r) true)))
      (step (completion_ok st r) (every (completion_ok st) rs) refl refl)
    where
      x : Bool
      x = every (is_free st (set marks (slot_in st r) true)) rs

      n : Bool
      n = every (λ q. not (is_id r.command.client r.command.call q)) rs

      y : Bool
      y = every (is_free st marks) rs

      reorder : (f d n' y' : Bool) → (f && (d && (n' && y'))) ≡ ((n' && d) && (f && y'))
      reorder true true true y' = refl
      reorder true true false y' = refl
      reorder true false true y' = refl
      reorder true false false y' = refl
      reorder false true true y' = refl
      reorder false true false y' = refl
      reorder false false true y' = refl
      reorder false false false y' = refl

      step : (a b : Bool) → completion_ok st r ≡ a → every (completion_ok st) rs ≡ b
          → (a && (is_free st marks r && (b && (ids_differ rs && x)))) ≡ ((a && b) && ((n && ids_differ rs) && (is_free st marks r && y)))
      step true true e f = rw (free-after marks r rs h e f) (reorder (is_free st marks r) (ids_differ rs) n y)
      step true false e f = and-false (is_free st marks r)
      step false b e f = refl

  pub slots_start : (rs : List Completion) → slots_pass st (replicate record_count false) rs ≡ (every (completion_ok st) rs && ids_differ rs)
  unfolding is_free
  slots_start rs =
      slots_ids (replicate record_count false) rs (omega (arith, length-replicate record_count false))
      ∙ rw (all_every (is_free st (replicate record_count false)) rs (all_free rs), and-true (ids_differ rs))
    where
      all_free : (qs : List Completion) → All (λ q. is_free st (replicate record_count false) q ≡ true) qs
      all_free [] = tt
      all_free (q ∷ qs) = (ap not (none_marked record_count (slot_in st q)), all_free qs)

-- ---- with the order of arrival

-- the first and the rest of one chain before the rest of another
sorted : (l e c f p : Bool) → (l && (c && (f && (e && p)))) ≡ ((l && e) && (c && (f && p)))
sorted false e c f p = refl
sorted true true c f p = refl
sorted true false c f p = rw (and-false f, and-false c)

pub pass_order : (st : State) (last : ℕ) (marks : List Bool) (rs : List Completion) → records_pass st last marks rs ≡ (ends_from last rs && slots_pass st marks rs)
unfolding records_pass ends_from slots_pass
pass_order st last marks [] = refl
pass_order st last marks (r ∷ rs) =
    let next : List Bool = set marks (slot_in st r) true in
    rw (pass_order st r.end next rs)
    (sorted (leb last r.end) (ends_from r.end rs) (completion_ok st r) (is_free st marks r) (slots_pass st next rs))
