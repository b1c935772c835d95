-- The pass over the completion records. The loop keeps `Pass`: the records from i on and the marks decide the answer x.
--     pass_start, pass_next, pass_fell, pass_bad, pass_slot, pass_seen, pass_end     the loop starts, goes on, stops at a record whose end fell, that
--                                                              fails or that has an id of an earlier one, ends
-- Assumes nothing.
use Prim.Native.Nat.{ℕ, ◌+◌, ◌-◌, ◌*◌, ◌≤◌, ◌<◌}
use mathlib.Core.Path.{◌≡◌, refl, sym, ap, ◌∙◌}
use mathlib.Core.Bool.{Bool, true, false, ◌&&◌, not}
use mathlib.Core.List.{List, ◌∷◌}
use native.Mathlib.Omega.{arith}
use native.Mathlib.Nat.{sub-zero}
use lib.ListN.{length, get_or, set, drop, replicate, length-set, length-replicate}
use borrow.Author.Tests.{lt-leb, le-leb}
use Rattle.std.specs.Prelude.{None, Some}
use Rattle.model.specs.declared.Completion.{Completion}
use Rattle.model.specs.Choice.{pick}
use Rattle.model.specs.Tables.{rows, every}
use Rattle.model.specs.Images.{floor_of_bytes, clients_ascend}
use Rattle.model.specs.States.{State, clients_in, records_in, completion_of, load, completion_ok, ids_differ, ends_from, floors_start, record_row, records_start}
use Rattle.model.specs.Limits.{client_count, floor_row, head_size, record_count}
use Rattle.model_laws.proofs.Tables.{length-rows, rows-cons}
use Rattle.model_invariants.specs.Sound.{Ascending}
use Rattle.model_invariants.proofs.Tests.{ascends}
use Rattle.state_soundness.specs.Slots.{slot_in, tested_slot, is_free, records_pass, records_ok}
use Rattle.state_soundness.proofs.Slots.{slot_few, slots_start, pass_order}

-- last is the latest end
pub record Pass (s : List ℕ) (m : ℕ) (x : Bool) (marks : List Bool) (last i : ℕ) : Type 0 where
  pub below : i ≤ m
  pub long : length marks ≡ record_count
  pub rest : x ≡ records_pass (load s) last marks (rows completion_of record_row (m - i) (drop (records_start + record_row * i) s))

few : (s : List ℕ) {n : ℕ} → n ≡ clients_in s → n ≤ client_count → length (load s).floors ≤ client_count
unfolding load
few s a h = rw (length-rows floor_of_bytes floor_row (clients_in s) (drop floors_start s), ← a) h

reordered : (a b c : Bool) → (a && (b && c)) ≡ (c && (a && b))
reordered true true true = refl
reordered true true false = refl
reordered true false true = refl
reordered true false false = refl
reordered false b true = refl
reordered false b false = refl

pub pass_start : (s : List ℕ) {m n : ℕ} → m ≡ records_in s → n ≡ clients_in s → n ≤ client_count → clients_ascend (rows floor_of_bytes floor_row n (drop floors_start s)) ≡ true
    → Pass s m (records_ok (load s)) (replicate record_count false) head_size 0
unfolding load records_ok
pass_start s {m} b a h c =
    let st = load s in
    let rs : List Completion = st.records in
    let order : Ascending st.floors = ascends st.floors (rw (← a) c) in
    let all : records_pass st head_size (replicate record_count false) rs ≡ (every (completion_ok st) rs && (ids_differ rs && ends_from head_size rs)) =
    pass_order st head_size (replicate record_count false) rs
    ∙ ap (◌&&◌ (ends_from head_size rs)) (slots_start st order (few s a h) rs)
    ∙ sym (reordered (every (completion_ok st) rs) (ids_differ rs) (ends_from head_size rs)) in
    record {
      below = omega arith;
      long = length-replicate record_count false;
      rest = rw (sub-zero, b) (sym all);
    }

-- a tested slot, taken apart
tested_ok : (st : State) (r : Completion) {slot : ℕ} → Some slot ≡ tested_slot st r → (completion_ok st r ≡ true) × (slot ≡ slot_in st r)
unfolding tested_slot
tested_ok st r {slot} e = step (completion_ok st r) e
  where
    step : (b : Bool) → Some slot ≡ pick b (Some (slot_in st r)) None → (b ≡ true) × (slot ≡ slot_in st r)
    step true q = let same : slot ≡ slot_in st r = cc in (refl, same)
    step false q = cc

tested_bad : (st : State) (r : Completion) → None ≡ tested_slot st r → completion_ok st r ≡ false
unfolding tested_slot
tested_bad st r e = step (completion_ok st r) e
  where
    step : (b : Bool) → None ≡ pick b (Some (slot_in st r)) None → b ≡ false
    step true q = cc
    step false q = refl

-- one record of the pass
module _ (st : State) {last end : ℕ} (marks : List Bool) (r : Completion) (rs : List Completion) (u : end ≡ r.end) where
  fell_step : end < last → records_pass st last marks (r ∷ rs) ≡ false
  unfolding records_pass
  fell_step l = let k : r.end < last = omega arith in rw (lt-leb last r.end k)

  bad_step : completion_ok st r ≡ false → last ≤ end → records_pass st last marks (r ∷ rs) ≡ false
  unfolding records_pass
  bad_step e l = let k : last ≤ r.end = omega arith in rw (le-leb last r.end k, e)

  good-step : {slot : ℕ} → completion_ok st r ≡ true → slot ≡ slot_in st r → last ≤ end
      → records_pass st last marks (r ∷ rs) ≡ (not (get_or marks slot false) && records_pass st end (set marks slot true) rs)
  unfolding records_pass is_free
  good-step e q l = let k : last ≤ r.end = omega arith in rw (u, q, le-leb last r.end k, e)

module _ {s : List ℕ} {m : ℕ} {x : Bool} {marks : List Bool} {last i : ℕ} (o : Pass s m x marks last i) where
  pub pass_end : m ≤ i → true ≡ x
  unfolding records_pass rows
  pass_end h = let e : m - i ≡ 0 = omega arith in sym (o.rest ∙ rw e)

  module _ (h : i < m) {end : ℕ} (u : end ≡ (completion_of (drop (records_start + record_row * i) s)).end) where
    abbrev first : Completion
    first = completion_of (drop (records_start + record_row * i) s)

    abbrev more : List Completion
    more = rows completion_of record_row (m - (i + 1)) (drop (records_start + record_row * (i + 1)) s)

    opened : x ≡ records_pass (load s) last marks (first ∷ more)
    opened = o.rest ∙ rw (rows-cons completion_of record_row s records_start i m h)

    pub pass_fell : end < last → false ≡ x
    pass_fell l = sym (opened ∙ fell_step (load s) marks first more u l)

    module _ (l : last ≤ end) where
      pub pass_bad : None ≡ tested_slot (load s) (completion_of (drop (records_start + record_row * i) s)) → false ≡ x
      pass_bad p = sym (opened ∙ bad_step (load s) marks first more u (tested_bad (load s) first p) l)

      module _ {slot : ℕ} (p : Some slot ≡ tested_slot (load s) (completion_of (drop (records_start + record_row * i) s))) where
        pub pass_slot : {n : ℕ} → n ≡ clients_in s → n ≤ client_count → slot < length marks
        pass_slot a f = let t = tested_ok (load s) first p in omega (arith, slot_few (load s) (few s a f) first t.0, t.1, o.long)

        stepped : x ≡ (not (get_or marks slot false) && records_pass (load s) end (set marks slot true) more)
        stepped = let t = tested_ok (load s) first p in opened ∙ good-step (load s) marks first more u t.0 t.1 l

        pub pass_seen : get_or marks slot false ≡ true → false ≡ x
        pass_seen q = sym (stepped ∙ rw q)

        pub pass_next : get_or marks slot false ≡ false → Pass s m x (set marks slot true) end (i + 1)
        pass_next q =
            record {
              below = omega arith;
              long = length-set marks slot true ∙ o.long;
              rest = stepped ∙ rw q;
            }
