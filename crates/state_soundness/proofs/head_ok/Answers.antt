-- What is left to show of `state_soundness::head_ok`.
use Rattle.state_soundness.specs.Slots.{head_ok}
use Rattle.state_soundness.proofs.head_ok.Goals as goal

pub returns : goal.returns
unfolding head_ok
returns c = cc
