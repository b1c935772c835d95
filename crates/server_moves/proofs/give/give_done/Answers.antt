-- What is left to show of `server_moves::give::give_done`.
use native.Mathlib.Omega.{arith}
use Rattle.server_moves.proofs.Chains.{give_settled}
use mathlib.Core.Path.{ap}
use Rattle.model.specs.declared.Point.{Point}
use Rattle.server_moves.proofs.give.give_done.Goals as goal

pub overflow_add-g : goal.overflow_add-g
overflow_add-g c =
    omega (arith, ap (λ (x : Point). x.move_number) c.point_at-x.ensures, c.requires.1.move_number)

pub returns : goal.returns
returns c =
    let a = c.args in give_settled a.s.now a.log.now a.point a.destination c.point_at-x.ensures c.size_of-size.ensures c.apply_gave.ensures
    c.append.ensures
