-- What is left to show of `state_soundness::fields_ok`.
use Rattle.state_soundness.specs.Slots.{fields_ok}
use Rattle.state_soundness.proofs.fields_ok.Goals as goal

pub returns : goal.returns
unfolding fields_ok
returns c = cc
