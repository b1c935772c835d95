-- What is left to show of `state_records::ids::ids_free`.
use Prim.Native.Nat.{◌+◌, ◌*◌, ◌≤◌}
use mathlib.Core.Path.{◌∙◌, ap}
use mathlib.Core.Bool.{not}
use native.Mathlib.Omega.{arith}
use lib.ListN.{length}
use Rattle.model.specs.Images.{image_entry_of, image_at, entry_row_of}
use Rattle.model.specs.Decisions.{free_for}
use Rattle.model_laws.proofs.Loops.{every_open, open_next, open_false, open_true}
use Rattle.state_records.proofs.Loops.{entry_inside}
use Rattle.state_records.proofs.ids.ids_free.Goals as goal
use Rattle.state_records.proofs.ids.ids_free.Goals.{In-loop-i}

-- the row of index i lies in the image
row-there : (c : In-loop-i) → c.entries_start-at.result + c.entry_width-width.result * c.loop-i.i + entry_row_of c.args.h.timed
    ≤ length c.args.image.now
row-there c = entry_inside c.args.h c.requires.2 c.entry_width-width.ensures c.entries_start-at.ensures c.loop-i-test.true

pub loop-i-init : goal.loop-i-init
loop-i-init c = every_open (image_entry_of _) _ _ (free_for _ _) _ _

pub entry_from-entry-requires : goal.entry_from-entry-requires
entry_from-entry-requires c = omega (arith, c.entry_at-k.ensures, row-there (goal.at.entry_from-entry-requires c).In-loop-i)

pub returns-then-not-is_free : goal.returns-then-not-is_free
unfolding image_at
returns-then-not-is_free c =
    rw (c.entry_width-width.ensures, c.entries_start-at.ensures) at
    (open_false c.loop-i.invariant c.loop-i-test.true (c.is_free.ensures ∙ rw (c.entry_from-entry.ensures, c.entry_at-k.ensures)) (ap not c.if-not-is_free.true))

pub loop-i-preserved : goal.loop-i-preserved
loop-i-preserved c =
    open_next c.loop-i.invariant c.loop-i-test.true (c.is_free.ensures ∙ rw (c.entry_from-entry.ensures, c.entry_at-k.ensures)) (ap not c.if-not-is_free.false)

pub returns : goal.returns
unfolding image_at
returns c =
    rw (c.entry_width-width.ensures, c.entries_start-at.ensures) at (open_true c.loop-i.invariant c.loop-i-test.false)
