-- The invariants of `leases::clear_ended`.
use mathlib.Core.Path.{◌≡◌}
use mathlib.Core.List.{◌++◌}
use lib.ListN.{length, take, drop}
use Rattle.model.specs.Leases.{running_at}
use Rattle.model.specs.Limits.{lease_count}
use Rattle.leases.proofs.clear_ended.Given as goal

abbrev pub invariant-loop-lease : goal.invariant-loop-lease
invariant-loop-lease l = (length l.ls ≡ lease_count) × (running_at l.now l.fn.ls ≡ take l.lease-index l.ls ++ running_at l.now (drop l.lease-index l.ls))
