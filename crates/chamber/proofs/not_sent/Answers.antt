-- What is left to show of `chamber::not_sent`.
use mathlib.Core.Path.{refl}
use Rattle.chamber_claim.specs.Chamber.{not_sent_in}
use Rattle.chamber.proofs.not_sent.Goals as goal

pub returns : goal.returns
unfolding not_sent_in
returns g c = refl
