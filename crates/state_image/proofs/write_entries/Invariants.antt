-- The invariants of `state_image::write_entries`.
use mathlib.Core.Bool.{true}
use Rattle.model.specs.States.{load}
use Rattle.model_laws.proofs.Images.{entry_codec}
use Rattle.state_image.proofs.Writing.{Walking}
use Rattle.state_image.proofs.write_entries.Given as goal

abbrev pub invariant-loop-slot : goal.invariant-loop-slot
invariant-loop-slot l = Walking (entry_codec true) (load l.s).records l.held l.at l.initial.out l.slot-index l.j l.out
