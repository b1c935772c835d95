-- What is left to show of `state_soundness::at_point_ok`.
use mathlib.Core.Bool.{not}
use mathlib.Core.Path.{ap}
use Rattle.state_sound_rows.proofs.Chains.{chain}
use Rattle.state_soundness.specs.Slots.{at_point_ok}
use Rattle.state_soundness.proofs.Records.{point-known}
use native.Mathlib.Omega.{arith}
use Rattle.state_soundness.proofs.at_point_ok.Goals as goal

pub returns-then-not-fields_ok : goal.returns-then-not-fields_ok
unfolding at_point_ok
returns-then-not-fields_ok c = search chain depth 24

pub entry_at-e-requires : goal.entry_at-e-requires
entry_at-e-requires c =
    let known = point-known c.args.size c.args.r c.fields_ok.ensures (ap not c.if-not-fields_ok.false) in (c.requires, omega arith)

pub returns-then-not-in_range : goal.returns-then-not-in_range
unfolding at_point_ok
returns-then-not-in_range c =
    let range = rw c.entry_at-e.ensures at c.in_range.ensures in
    search chain depth 24

pub point_at-x-requires : goal.point_at-x-requires
point_at-x-requires c =
    let known = point-known c.args.size c.args.r c.fields_ok.ensures (ap not c.if-not-fields_ok.false) in (c.requires, omega arith)

pub returns : goal.returns
unfolding at_point_ok
returns c =
    let range = rw c.entry_at-e.ensures at c.in_range.ensures in
    let point = rw c.point_at-x.ensures at c.keeps_records.ensures in
    search chain depth 24
