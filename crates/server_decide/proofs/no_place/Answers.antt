-- What is left to show of `server_decide::no_place`.
use Rattle.server_decide.proofs.no_place.Goals as goal

pub returns : goal.returns
returns c = rw c.not_known-new.ensures
