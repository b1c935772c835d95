-- What is left to show of `server_decide::is_kept`.
use Rattle.server_decide.proofs.is_kept.Goals as goal

pub returns : goal.returns
returns c = rw c.is_held-held.ensures
