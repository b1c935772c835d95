-- What is left to show of `server_moves::take::take_done`.
use native.Mathlib.Omega.{arith}
use Rattle.server_moves.proofs.Taken.{take-room, take_bounds, take_settled}
use Rattle.server_moves.proofs.take.take_done.Goals as goal

pub append-requires : goal.append-requires
append-requires c =
    let a = c.args in (c.requires.0.ok, omega (arith, c.size_of-size.ensures, take-room a.s.now a.log.now a.image.now a.h c.requires.0 c.requires.1))

pub apply_took-requires : goal.apply_took-requires
apply_took-requires c =
    let a = c.args in
    let k = take_bounds a.s.now a.log.now a.image.now a.h c.requires.0 c.requires.1 c.size_of-size.ensures (omega arith) in (
      c.requires.0.canonical,
      c.requires.0.point,
      omega (arith, c.requires.0.size),
      k.0,
      k.1,
    )

pub returns : goal.returns
returns c =
    let a = c.args in take_settled a.s.now a.log.now a.image.now a.h c.requires.0 c.size_of-size.ensures c.apply_took.ensures
    c.append.ensures
