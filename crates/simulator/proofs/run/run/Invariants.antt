-- The invariants of `simulator::run::run`.
use Prim.Native.Nat.{suc, ◌-◌}
use mathlib.Core.Path.{◌≡◌}
use lib.ListN.{length}
use Rattle.model.specs.Simulator.{most_lines}
use Rattle.simulator.specs.Lending.{lent_simulator, SameSlices}
use Rattle.simulator.proofs.Runs.{Running}
use Rattle.simulator.proofs.run.run.Given as goal

abbrev pub invariant-loop-number : goal.invariant-loop-number
invariant-loop-number l =
    Running l.text (lent_simulator l.initial.lent l.initial.after) l.page (lent_simulator l.lent l.after) l.after.count l.at l.n l.number
    × (length l.page ≡ length l.initial.page) × SameSlices l.initial.lent l.lent

abbrev pub decreases-loop-number : goal.decreases-loop-number
decreases-loop-number l = suc most_lines - l.number
