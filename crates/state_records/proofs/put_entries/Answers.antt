-- What is left to show of `state_records::put_entries`.
use Prim.Native.Nat.{◌+◌, ◌*◌, ◌≤◌}
use native.Mathlib.Omega.{arith}
use lib.ListN.{length}
use Rattle.model.specs.Images.{entry_row_of}
use Rattle.state_records.proofs.Loops.{entry_inside, adding_start, adding_stays, adding_room, adding_next, adding_end}
use Rattle.state_records.proofs.put_entries.Goals as goal
use Rattle.state_records.proofs.put_entries.Goals.{In-loop-i}

-- the row of index i lies in the image
row-there : (c : In-loop-i) → c.entries_start-at.result + c.entry_width-width.result * c.loop-i.i + entry_row_of c.args.h.timed
    ≤ length c.args.image.now
row-there c = entry_inside c.args.h c.requires.1 c.entry_width-width.ensures c.entries_start-at.ensures c.loop-i-test.true

pub loop-i-init : goal.loop-i-init
loop-i-init c =
    rw (c.entry_width-width.ensures, c.entries_start-at.ensures) (adding_start c.args.h c.args.end c.requires.0 c.requires.2)

pub entry_from-entry-requires : goal.entry_from-entry-requires
entry_from-entry-requires c = omega (arith, c.entry_at-k.ensures, row-there (goal.at.entry_from-entry-requires c).In-loop-i)

pub over_floors-stay-requires : goal.over_floors-stay-requires
over_floors-stay-requires c = adding_stays c.loop-i.invariant

pub put_kept-j-requires : goal.put_kept-j-requires
put_kept-j-requires c =
    adding_room c.loop-i.invariant c.loop-i-test.true (rw c.entry_at-k.ensures at c.entry_from-entry.ensures)
    c.taken_record-r.ensures c.over_floors-stay.ensures

pub loop-i-preserved : goal.loop-i-preserved
loop-i-preserved c =
    adding_next c.loop-i.invariant c.loop-i-test.true (rw c.entry_at-k.ensures at c.entry_from-entry.ensures)
    c.taken_record-r.ensures c.over_floors-stay.ensures c.put_kept-j.ensures.0
    c.put_kept-j.ensures.1

pub returns : goal.returns
returns c =
    let start = c.args in
    adding_end start.h start.end (rw (c.entry_width-width.ensures, c.entries_start-at.ensures) at c.loop-i.invariant) c.loop-i-test.false
