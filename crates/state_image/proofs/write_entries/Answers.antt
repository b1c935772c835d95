-- What is left to show of `state_image::write_entries`.
use Prim.Native.Nat.{◌<◌}
use mathlib.Core.Bool.{true}
use native.Mathlib.Omega.{arith}
use Rattle.model.specs.States.{load}
use Rattle.model.specs.Limits.{record_count}
use Rattle.model_laws.specs.Bytes.{Bytes}
use Rattle.model_laws.proofs.Images.{entry_codec}
use Rattle.state_image.proofs.Writing.{walk_start, walk_skip}
use Rattle.state_image.proofs.Joined.{slot_most, next-put, next-room, entries-done}
use Rattle.state_image.proofs.write_entries.Goals as goal
use Rattle.state_image.proofs.write_entries.Goals.{Then-slot-ne0, then-slot-ne0, else-slot-ne0}

-- an entry that is still to be written is one of 512
room : (c : Then-slot-ne0) → c.loop-slot.j < record_count
room c =
    omega (
      arith,
      c.requires.0.few_clients,
      c.clients_in-n.ensures,
      next-room c.args.point c.args.s.now c.requires.0 c.clients_in-n.ensures c.point_slots-slots.ensures c.loop-slot.invariant
          c.loop-slot-test.true c.if-slot-ne0.true,
    )

pub loop-slot-init : goal.loop-slot-init
loop-slot-init c = let a = c.args in walk_start (entry_codec true) (load a.s.now).records _ a.at a.out.now

pub entry_of-entry-requires : goal.entry_of-entry-requires
entry_of-entry-requires c =
    omega (
      arith,
      c.requires.0.long,
      c.requires.0.few_records,
      c.if-slot-ne0.true,
      slot_most c.args.point c.args.s.now c.requires.0 c.clients_in-n.ensures c.point_slots-slots.ensures
          c.loop-slot.slot-index c.loop-slot-test.true,
    )

pub overflow_mul-j : goal.overflow_mul-j
overflow_mul-j c = omega (arith, room (goal.at.overflow_mul-j c).Then-slot-ne0)

pub overflow_add-at : goal.overflow_add-at
overflow_add-at c = omega (arith, c.requires.1, room (goal.at.overflow_add-at c).Then-slot-ne0)

pub put_entry-requires : goal.put_entry-requires
put_entry-requires c =
    omega (arith, c.requires.1, c.loop-slot.invariant.same, room (goal.at.put_entry-requires c).Then-slot-ne0)

pub overflow_add-j : goal.overflow_add-j
overflow_add-j c = omega (arith, room (goal.at.overflow_add-j c).Then-slot-ne0)

pub loop-slot-preserved : goal.loop-slot-preserved
loop-slot-preserved c =
    elim c.if-slot-ne0.branch [
      | then-slot-ne0 w ↦
          rw (w.j-is, w.out-is)
          (next-put c.args.point c.args.s.now c.requires.0 c.clients_in-n.ensures c.point_slots-slots.ensures c.loop-slot.invariant c.loop-slot-test.true
          w.if-slot-ne0.true w.entry_of-entry.ensures w.put_entry.ensures)
      | else-slot-ne0 w ↦ rw (w.j-is, w.out-is) (walk_skip c.loop-slot.invariant c.loop-slot-test.true w.if-slot-ne0.false)
    ]

pub returns : goal.returns
returns c =
    let b : Bytes c.args.s.now = λ i. (c.type_inv.s i).fits in
    entries-done c.args.point c.args.s.now c.requires.0 c.clients_in-n.ensures c.point_slots-slots.ensures b c.loop-slot.invariant c.loop-slot-test.false
