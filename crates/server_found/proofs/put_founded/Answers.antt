-- What is left to show of `server_found::put_founded`.
use Rattle.server_found.proofs.put_founded.Goals as goal

pub returns : goal.returns
returns c = cc
