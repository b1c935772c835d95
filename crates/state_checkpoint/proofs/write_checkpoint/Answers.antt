-- What is left to show of `state_checkpoint::write_checkpoint`.
use Rattle.state_checkpoint.proofs.Parts.{checkpoint-runs, checkpoint-size}
use Rattle.state_checkpoint.proofs.write_checkpoint.Goals as goal

pub returns : goal.returns
returns c =
    let s = c.args.s.now in (
      rw (
        c.write_records.ensures,
        c.write_clients.ensures,
        c.write_points.ensures,
        c.write_plan.ensures,
        c.write_pairs.ensures,
        c.write_frame.ensures,
        c.heard_of.ensures,
        c.server_of.ensures,
        c.records_in-k.ensures,
        c.clients_in-n.ensures,
      )
          (checkpoint-runs s (λ i. (c.type_inv.s i).fits) c.requires.0 c.args.checkpoint.now),
      rw (c.records_in-k.ensures, c.clients_in-n.ensures) (checkpoint-size s (λ i. (c.type_inv.s i).fits) c.requires.0),
    )
