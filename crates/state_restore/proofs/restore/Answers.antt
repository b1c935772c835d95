-- What is left to show of `state_restore::restore`.
use native.Mathlib.Omega.{arith}
use Rattle.model_laws.proofs.Fronts.{record-width}
use Rattle.model_laws.proofs.Checkpoints.{framed_is}
use Rattle.state_restore.proofs.Lengths.{records-within}
use Rattle.state_restore.proofs.Runs.{restored-runs}
use borrow.Author.Rules.{rules}
use Rattle.state_restore.proofs.restore.Goals as goal

pub clients_of-n-requires : goal.clients_of-n-requires
clients_of-n-requires c = omega (arith, (framed_is _ c.requires.0).whole)

pub record_width-width-requires : goal.record_width-width-requires
record_width-width-requires c = omega (arith, (framed_is _ c.requires.0).whole)

pub records_of-count-requires : goal.records_of-count-requires
records_of-count-requires c =
    (omega (arith, (framed_is _ c.requires.0).whole), omega (arith, c.record_width-width.ensures, (record-width c.args.checkpoint.now).0))

pub put_head-requires : goal.put_head-requires
put_head-requires c =
    let w = framed_is _ c.requires.0 in (
      omega (arith, c.requires.1),
      omega (arith, w.whole),
      omega (arith, w.few_clients, c.clients_of-n.ensures),
      (records-within _ w c.clients_of-n.ensures c.record_width-width.ensures c.records_of-count.ensures).1,
    )

pub copy_part-requires : goal.copy_part-requires
copy_part-requires c =
    let w = framed_is _ c.requires.0 in
    (search rules, omega (arith, w.whole))

pub put_points-requires : goal.put_points-requires
put_points-requires c =
    let w = framed_is _ c.requires.0 in
    (search rules, omega (arith, w.whole))

pub put_clients-requires : goal.put_clients-requires
put_clients-requires c =
    let w = framed_is _ c.requires.0 in
    let clients = c.clients_of-n.ensures in
    (search rules, omega (arith, w.whole, clients), omega (arith, w.few_clients, clients))

pub overflow_mul-n : goal.overflow_mul-n
overflow_mul-n c =
    omega (arith, (framed_is _ c.requires.0).few_clients, c.clients_of-n.ensures)

pub overflow_add-n : goal.overflow_add-n
overflow_add-n c =
    omega (arith, (framed_is _ c.requires.0).few_clients, c.clients_of-n.ensures)

pub put_records-requires : goal.put_records-requires
put_records-requires c =
    let w = framed_is _ c.requires.0 in
    let within = records-within _ w c.clients_of-n.ensures c.record_width-width.ensures c.records_of-count.ensures in
    (search rules, within.0, within.1, within.2)

pub returns : goal.returns
returns c =
    restored-runs c.args.checkpoint.now (framed_is _ c.requires.0) c.args.work.now c.clients_of-n.ensures
    c.record_width-width.ensures c.records_of-count.ensures c.put_head.ensures
    c.copy_part.ensures c.put_points.ensures c.put_clients.ensures c.put_records.ensures
