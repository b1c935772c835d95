-- A completed command is in the order: an entry there answers it.
--     answered_in, completed
-- Assumes nothing.
use Prim.Native.Nat.{ℕ}
use mathlib.Core.Path.{◌≡◌, refl}
use mathlib.Core.List.Memᴰ
use mathlib.Core.List.{List}
use Rattle.model.specs.declared.Command.{Command}
use Rattle.model.specs.declared.PlanEntry.{PlanEntry}
use Rattle.model.specs.Sequential.{OrderEntry, commands, EntryResult, Values, Answers, here, later}
use Rattle.claim.specs.Claim.{◌∈◌, Account, ExplainedBy}

pub answered_in : {plan : List PlanEntry} {b : Values} {order : List OrderEntry} {ks : List Command} {r : EntryResult} → Answers plan b order ks r
    → (a : OrderEntry) × (commands a ≡ ks) × (a ∈ order)
answered_in (here {e = e}) = (e, refl, Memᴰ.head refl)
answered_in (later x) = let a = answered_in x in (a.0, a.1, Memᴰ.tail a.2)

pub completed : (plan : List ℕ) (seen : Account) (order : List OrderEntry) → ExplainedBy plan seen order → (n : ℕ) (ks : List Command) (r : EntryResult) → seen.Completes n ks r
    → (a : OrderEntry) × (commands a ≡ ks) × (a ∈ order)
completed plan seen order E n ks r c = answered_in (E.results n ks r c)
