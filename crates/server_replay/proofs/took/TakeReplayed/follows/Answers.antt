-- What is left to show of `server_replay::took::TakeReplayed::follows`.
use mathlib.Core.Path.{◌∙◌}
use native.Mathlib.Omega.{arith}
use Rattle.model.specs.Images.{image_at}
use Rattle.model.specs.States.{load}
use Rattle.refusals.proofs.Numbers.{ok-passed}
use Rattle.server_replay.proofs.Taking.{took-follows, imaged-size, imaged_ascend}
use Rattle.server_replay.proofs.took.TakeReplayed.follows.Goals as goal

pub values_in_range-ranged-requires : goal.values_in_range-ranged-requires
values_in_range-ranged-requires c = imaged-size c.args.self.image.now c.args.self.h c.args.self.imaged

pub ids_free-unheld-requires : goal.ids_free-unheld-requires
ids_free-unheld-requires c =
    (c.requires.0.canonical, c.requires.0.sound.ids, imaged-size c.args.self.image.now c.args.self.h c.args.self.imaged)

pub merged_count-merged-requires : goal.merged_count-merged-requires
merged_count-merged-requires c =
    let long = imaged-size c.args.self.image.now c.args.self.h c.args.self.imaged in
    (c.requires.0.canonical, omega (arith, long), imaged_ascend c.args.self.image.now c.args.self.h c.args.self.imaged)

pub returns : goal.returns
unfolding image_at
returns c =
    c.is_ok.ensures.value ∙ ok-passed c.take_refusal-taken.result ∙ took-follows (load c.args.s.now) c.args.self.h c.args.self.image.now
    (c.take_refusal-taken.ensures ∙ rw (
      c.merged_count-merged.ensures,
      c.ids_free-unheld.ensures,
      c.values_in_range-ranged.ensures,
      c.server_of-server.ensures,
      c.entry_at-e.ensures,
      c.point_at-x.ensures,
    ))
