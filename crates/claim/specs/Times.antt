-- Times of execution, under the provisos of demand 3. Two results of one id have one time, wherever and however often they are told; and the time that a
-- client (paper: desk) receives was noted by a surviving execution of the command that it completes: the command, and not its id alone.
-- Assumes nothing.
use Rattle.std.specs.Prelude.{ℕ, ◌≡◌, List, [], ◌∷◌}
use Rattle.model.specs.declared.Command.{Command}
use Rattle.model.specs.declared.ResultPacket.{ResultPacket}
use Rattle.model.specs.Sequential.{Marked, EntryResult}
use Rattle.claim.specs.World.{Event}
use Rattle.claim.specs.Provisos.{Provisos}
use Rattle.claim.specs.Claim.{Completes, Notes, Tells}

module _ (es : List Event) where
  pub record TimesOf : Type 0 where
    pub again : (r s : ResultPacket) → Tells es r → Tells es s → r.client ≡ s.client → r.call ≡ s.call → r.result.time ≡ s.result.time
    pub received-time : (n : ℕ) (ks : List Command) (r : EntryResult) (k : Completes es n ks r)
        → (i : ℕ) × (m : Marked) × (m.command ∷ [] ≡ ks) × Notes es i m k.received.result.time

-- the claim
unfoldable pub Times : Type 0
Times = (plan : List ℕ) (es : List Event) → Provisos plan es → TimesOf es
