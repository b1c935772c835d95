-- What is left to show of `server_inspect::place::place_in_checkpoint`.
use mathlib.Core.Path.{refl, ◌∙◌}
use native.Mathlib.Omega.{arith}
use Rattle.model.specs.Checkpoints.{records_of}
use Rattle.model_laws.proofs.Fronts.{record-width}
use Rattle.model_laws.proofs.Checkpoints.{framed_is}
use Rattle.server_inspect.proofs.Rows.{placed-below}
use Rattle.server_inspect.proofs.Holding.{held_nowhere, held-within, held_at}
use Rattle.server_inspect.proofs.place.place_in_checkpoint.Goals as goal

pub returns-then-checkpoint-eq0 : goal.returns-then-checkpoint-eq0
returns-then-checkpoint-eq0 c =
    held_nowhere c.args.checkpoint.now c.args.client c.args.call c.if-checkpoint-eq0.true c.no_place-none.ensures

pub record_width-width-requires : goal.record_width-width-requires
record_width-width-requires c = omega (arith, (framed_is _ (c.requires (omega (arith, c.if-checkpoint-eq0.false)))).whole)

pub records_of-n-requires : goal.records_of-n-requires
records_of-n-requires c =
    (omega (arith, (framed_is _ (c.requires (omega (arith, c.if-checkpoint-eq0.false)))).whole), omega (arith, (record-width c.args.checkpoint.now).0, c.record_width-width.ensures))

pub clients_of-clients-requires : goal.clients_of-clients-requires
clients_of-clients-requires c =
    omega (arith, (framed_is _ (c.requires (omega (arith, c.if-checkpoint-eq0.false)))).whole)

pub overflow_mul-at : goal.overflow_mul-at
overflow_mul-at c =
    omega (arith, (framed_is _ (c.requires (omega (arith, c.if-checkpoint-eq0.false)))).few_clients, c.clients_of-clients.ensures)

pub overflow_add-at : goal.overflow_add-at
overflow_add-at c =
    omega (arith, (framed_is _ (c.requires (omega (arith, c.if-checkpoint-eq0.false)))).few_clients, c.clients_of-clients.ensures)

pub index_of-i-requires : goal.index_of-i-requires
unfolding records_of
index_of-i-requires c = (
  rw c.record_width-width.ensures
      (held-within (framed_is c.args.checkpoint.now (c.requires (omega (arith, c.if-checkpoint-eq0.false)))) (c.records_of-n.ensures ∙ rw c.record_width-width.ensures)
      c.clients_of-clients.ensures),
  omega (arith, (record-width c.args.checkpoint.now).0, c.record_width-width.ensures),
)

pub place_of-requires : goal.place_of-requires
unfolding records_of
place_of-requires c =
    let f = framed_is c.args.checkpoint.now (c.requires (omega (arith, c.if-checkpoint-eq0.false))) in
    let w = held-within f (c.records_of-n.ensures ∙ rw c.record_width-width.ensures) c.clients_of-clients.ensures in
    rw c.record_width-width.ensures (omega (arith, w))

pub returns : goal.returns
unfolding records_of
returns c =
    held_at (framed_is c.args.checkpoint.now (c.requires (omega (arith, c.if-checkpoint-eq0.false)))) c.args.client c.args.call
    (c.records_of-n.ensures ∙ rw c.record_width-width.ensures) c.clients_of-clients.ensures c.no_place-none.ensures
    refl (placed-below _ _ _ _ (c.index_of-i.ensures ∙ rw c.record_width-width.ensures) (rw c.record_width-width.ensures at c.place_of.ensures))
