-- One completion record, as `record_slot` walks its test.
--     ok-parts     completion_ok in the order of the code
--     above_few    a call in its window is at most 15 above the floor
--     point-known  a record whose fields pass names a point
--     slot_point, slot_window, slot_all     what each exit of `record_slot` answers
-- Assumes nothing.
use Prim.Native.Nat.{ℕ, ◌+◌, ◌-◌, ◌*◌, ◌≤◌}
use mathlib.Core.Path.{◌≡◌, refl, sym, ap, ◌∙◌}
use mathlib.Core.Bool.{Bool, true, false, ◌&&◌, not, and_assoc, and-true, and-false}
use mathlib.Core.List.{List}
use native.Mathlib.Omega.{arith}
use lib.ListN.{get_or, drop}
use lib.Dec.{leb}
use borrow.Author.Tests.{not-true, not-false}
use Rattle.std.specs.Prelude.{None, Some}
use Rattle.model.specs.declared.Completion.{Completion}
use Rattle.model.specs.Limits.{head_size, call_window, floor_row, last_point, last_in_window}
use Rattle.model.specs.Tables.{rows}
use Rattle.model.specs.Plan.{entry_at, in_range}
use Rattle.model.specs.Packets.{id_ok, command_ok, outcome_ok}
use Rattle.model.specs.Images.{floor_of_bytes, floor_of, in_window}
use Rattle.model.specs.States.{State, point_at, clients_in, completion_of, load, keeps_records, completion_ok, floors_start}
use Rattle.model_laws.proofs.Tests.{and_left}
use Rattle.model_laws.proofs.Commands.{command-parts}
use Rattle.model_invariants.proofs.Tests.{in_window_lem}
use Rattle.state_clients.specs.Places.{place_of, no_floor}
use Rattle.state_clients.proofs.Search.{floor-found, slot_found}
use Rattle.state_sound_rows.specs.Parts.{is_end}
use Rattle.state_soundness.specs.Slots.{fields_ok, at_point_ok, slot_in, tested_slot}

pub above_few : {w : Bool} (floor call : ℕ) → w ≡ in_window floor call → not w ≡ false → call - floor ≤ last_in_window
above_few floor call e h = let i = in_window_lem floor call (sym e ∙ not-false _ h) in omega (arith, i.high)

-- of eight tests, the fourth and the fifth behind the next two
moved : (a b c d e f g h : Bool) → (a && (b && (c && (d && (e && (f && (g && h))))))) ≡ (((a && (b && (c && (f && g)))) && (d && e)) && h)
moved true true true true true f g h = rw (and-true (f && g)) (sym (and_assoc f g h))
moved true true true true false f g h = rw (and-false (f && g))
moved true true true false e f g h = rw (and-false (f && g))
moved true true false d e f g h = refl
moved true false c d e f g h = refl
moved false b c d e f g h = refl

pub ok-parts : (st : State) (r : Completion) → completion_ok st r ≡ (at_point_ok st.size st r && in_window (floor_of r.command.client st.floors) r.command.call)
unfolding completion_ok at_point_ok fields_ok
ok-parts st r =
    moved (command_ok r.command.op r.command.point r.command.argument) (outcome_ok r.result.outcome r.result.quality) (id_ok r.command.client r.command.call)
    (in_range (entry_at st.plan r.command.point) r.result.value)
    (keeps_records (point_at st r.command.point)) (leb head_size r.end) (leb r.end st.size) (in_window (floor_of r.command.client st.floors) r.command.call)

-- a record whose fields pass names a point of the plan
pub point-known : (size : ℕ) (r : Completion) {u : Bool} → u ≡ fields_ok size r → not u ≡ false → r.command.point ≤ last_point
unfolding fields_ok
point-known size r {u} p q =
    let command : command_ok r.command.op r.command.point r.command.argument ≡ true =
    and_left (command_ok r.command.op r.command.point r.command.argument)
    (outcome_ok r.result.outcome r.result.quality && (id_ok r.command.client r.command.call && is_end size r.end)) (sym p ∙ not-false u q) in
    (command-parts r.command.op r.command.point r.command.argument command).point

module _ (s : List ℕ) (k : ℕ) {n size : ℕ} (a : n ≡ clients_in s) (b : size ≡ (load s).size) {r : Completion} (p : r ≡ completion_of (drop k s)) {u : Bool} (f : u ≡ at_point_ok size (load s) r) where
  parts : completion_ok (load s) r ≡ (u && in_window (floor_of r.command.client (rows floor_of_bytes floor_row n (drop floors_start s))) r.command.call)
  unfolding load
  parts = ok-parts (load s) r ∙ rw (f, a, b)

  failed : completion_ok (load s) r ≡ false → None ≡ tested_slot (load s) (completion_of (drop k s))
  unfolding tested_slot
  failed e = rw (← p, e)

  pub slot_point : not u ≡ true → None ≡ tested_slot (load s) (completion_of (drop k s))
  slot_point g = failed (parts ∙ rw (not-true u g))

  module _ (g : not u ≡ false) {i y : ℕ} (x : i ≡ place_of r.command.client (rows floor_of_bytes floor_row n (drop floors_start s)))
      (z : y ≡ (get_or (rows floor_of_bytes floor_row n (drop floors_start s)) i no_floor).floor) {t : Bool} (l : t ≡ in_window y r.command.call) where
    parts_2 : completion_ok (load s) r ≡ t
    parts_2 = parts ∙ rw (not-false u g, ← floor-found r.command.client (rows floor_of_bytes floor_row n (drop floors_start s)) x z, ← l)

    pub slot_window : not t ≡ true → None ≡ tested_slot (load s) (completion_of (drop k s))
    slot_window d = failed (parts_2 ∙ not-true t d)

    pub slot_all : not t ≡ false → {d : ℕ} → d ≡ r.command.call - y → Some (call_window * i + d) ≡ tested_slot (load s) (completion_of (drop k s))
    unfolding tested_slot slot_in load
    slot_all d c = ap (λ (slot : ℕ). Some slot) (slot_found (rows floor_of_bytes floor_row n (drop floors_start s)) r.command.client r.command.call x z c) ∙ rw (← p, parts_2, not-false t d, a)
