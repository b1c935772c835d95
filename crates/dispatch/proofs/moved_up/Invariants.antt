-- The invariant of `dispatch::moved_up`.
use mathlib.Core.Path.{◌≡◌}
use lib.ListN.{length}
use Rattle.dispatch_claim.specs.Dispatcher.{places}
use Rattle.dispatch.proofs.Places.{moved_by}
use Rattle.dispatch.proofs.moved_up.Given as goal

abbrev pub invariant-loop-i : goal.invariant-loop-i
invariant-loop-i l = (length l.requests ≡ places) × (l.moved ≡ moved_by l.requests l.i)
