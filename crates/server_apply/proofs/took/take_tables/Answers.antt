-- What is left to show of `server_apply::took::take_tables`.
use native.Mathlib.Omega.{arith}
use Rattle.model.specs.States.{load}
use mathlib.Core.Path.{refl}
use Rattle.model_laws.specs.Layout.{with_floors}
use Rattle.state_records.specs.declared.Rule.TheVariants.{Beside}
use Rattle.server_apply.specs.Stage.{Stage}
use Rattle.server_apply.proofs.Stages.{stage_canonical}
use Rattle.server_apply.proofs.Taken.{kept_of, kept_stage, taken_merge, taken_merged, taken-add, taken-done}
use borrow.Author.Rules.{rules}
use Rattle.server_apply.proofs.took.take_tables.Goals as goal
use Rattle.server_apply.proofs.took.take_tables.Goals.{After-drop_records}

-- the records that go
third : (c : After-drop_records) → Stage c.args.s.now c.drop_records.new.s
    (kept_of c.args.h c.args.image.now (load c.args.s.now))
unfolding with_floors
third c = kept_stage (
    taken_merged c.requires.0 c.args.image.now (search rules) c.args.h c.args.end c.requires.2 c.merge.ensures) c.requires.0 refl (Beside c.args.h.point) c.drop_records.ensures

pub merge-requires : goal.merge-requires
merge-requires c =
    taken_merge c.requires.0 c.args.image.now (search rules) c.args.h c.args.end c.requires.2 c.requires.1

pub drop_records-requires : goal.drop_records-requires
drop_records-requires c = stage_canonical (
    taken_merged c.requires.0 c.args.image.now (search rules) c.args.h c.args.end c.requires.2 c.merge.ensures)

pub append_image-requires : goal.append_image-requires
append_image-requires c =
    taken-add c.requires.0 c.args.image.now (search rules) c.args.h c.args.end c.requires.2 c.requires.3 (third (goal.at.append_image-requires c).After-drop_records) c.requires.1

pub returns : goal.returns
returns c =
    taken-done c.requires.0 c.args.image.now (search rules) c.args.h c.args.end c.requires.2 c.requires.3 (third (goal.at.returns c).After-drop_records)
    (record { point = omega arith; quality = omega arith; value = omega arith; move_number = omega arith; heard = omega arith; size = omega arith })
    c.append_image.ensures
