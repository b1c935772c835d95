-- What is left to show of `server_moves::take::take_number`.
use native.Mathlib.Omega.{arith}
use mathlib.Core.Path.{◌∙◌}
use Rattle.model.specs.Images.{image_at}
use Rattle.model.specs.Decisions.{take_tests}
use Rattle.server_moves.proofs.Taken.{take_sized}
use Rattle.server_moves.proofs.take.take_number.Goals as goal

pub ids_free-unheld-requires : goal.ids_free-unheld-requires
ids_free-unheld-requires c =
    (c.requires.canonical, c.requires.state.ids, omega (arith, c.requires.size))

pub merged_count-merged-requires : goal.merged_count-merged-requires
unfolding image_at
merged_count-merged-requires c = (c.requires.canonical, omega (arith, c.requires.size), c.requires.ascending)

pub returns : goal.returns
unfolding take_tests image_at
returns c =
    let a = c.args in
    c.take_refusal.ensures
    ∙ rw (
      c.free_in-free.ensures,
      c.server_of-server.ensures,
      c.point_at-x.ensures,
      c.merged_count-merged.ensures,
      c.ids_free-unheld.ensures,
      c.is_ranged-ranged.ensures,
      ← take_sized a.s.now a.log.now a.image.now a.h c.requires,
    )
