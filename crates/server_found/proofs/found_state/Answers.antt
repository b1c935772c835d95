-- What is left to show of `server_found::found_state`.
use native.Mathlib.Omega.{arith}
use Rattle.server_found.proofs.Founded.{plan-size, founded-runs}
use borrow.Author.Rules.{rules}
use Rattle.server_found.proofs.found_state.Goals as goal

-- ---- the needs

pub put_plan-requires : goal.put_plan-requires
put_plan-requires c = omega (arith, plan-size _ c.requires.1)

pub put_points-requires : goal.put_points-requires
put_points-requires c = (search rules, omega (arith, plan-size _ c.requires.1))

pub returns : goal.returns
returns c =
    rw (c.clear.ensures, c.put_points.ensures, c.put_plan.ensures, c.put_head.ensures)
    (founded-runs c.args.s.now c.args.plan.now c.args.server (search rules) c.requires.1)
