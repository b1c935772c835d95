-- What is left to show of `state_checkpoint::write_records`.
use Rattle.state_checkpoint.proofs.Parts.{records-written}
use Rattle.state_checkpoint.proofs.write_records.Goals as goal

pub returns : goal.returns
returns c =
    rw (c.copy_fronts.ensures, c.records_in-k.ensures)
    (records-written c.args.s.now (λ i. (c.type_inv.s i).fits) c.requires.0 c.args.checkpoint.now c.args.from)
