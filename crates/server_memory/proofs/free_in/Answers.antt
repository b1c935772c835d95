-- What is left to show of `server_memory::free_in`.
use Rattle.model.specs.Operations.{free_in}
use Rattle.server_memory.proofs.free_in.Goals as goal

pub returns : goal.returns
unfolding free_in
returns c = rw c.size_of-size.ensures
