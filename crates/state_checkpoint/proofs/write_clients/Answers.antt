-- What is left to show of `state_checkpoint::write_clients`.
use Rattle.state_checkpoint.proofs.Parts.{clients-part}
use Rattle.state_checkpoint.proofs.write_clients.Goals as goal

pub returns : goal.returns
returns c =
    rw (c.copy_part.ensures, c.clients_in-n.ensures, clients-part c.args.s.now (λ i. (c.type_inv.s i).fits) c.requires.0)
