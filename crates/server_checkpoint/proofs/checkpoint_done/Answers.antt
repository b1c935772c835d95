-- What is left to show of `server_checkpoint::checkpoint_done`.
use native.Mathlib.Omega.{arith}
use Rattle.server_checkpoint.proofs.Taken.{taken_framed, taken}
use Rattle.server_checkpoint.proofs.checkpoint_done.Goals as goal

pub restore-requires : goal.restore-requires
restore-requires c = (
  taken_framed c.args.s.now c.args.checkpoint.now (λ i. (c.slice_known-1.given i).fits) c.requires.0 c.requires.1 c.write_checkpoint-number.ensures.0,
  omega (arith, c.requires.0.long),
)

pub returns : goal.returns
returns c g =
    let a = c.args in
    taken a.s.now a.checkpoint.now (λ i. (c.slice_known-1.given i).fits) c.requires.0 c.requires.1 c.write_checkpoint-number.ensures.0 a.tail.now g
    c.write_checkpoint-number.ensures.1 c.restore.ensures c.server_of-server.ensures c.write_head.ensures
