-- What is left to show of `client::request_with`.
use mathlib.Core.Path.{refl}
use Rattle.client.specs.Changes.{request_with}
use Rattle.client.proofs.request_with.Goals as goal

pub returns : goal.returns
unfolding request_with
returns c = refl
