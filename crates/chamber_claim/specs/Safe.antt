-- The lock's theorem: for every schedule of kernel calls and controllers' calls under the provisos, and for every order that explains it, at no
-- place in the order are both gates away from 0. It rests on what `claim` says of the kernel: an order that explains, and the fence.
-- Assumes nothing.
use Rattle.std.specs.Prelude.{ℕ, ◌≤◌, ◌≡◌, List, [], ◌∷◌, ◌⊎◌, pos, take, Ok}
use Rattle.std.proofs.Math.Option.{some}
use Rattle.std.proofs.Math.ListN.{get_elem?}
use Rattle.model.specs.declared.Command.{Command}
use Rattle.model.specs.Limits.{read_op}
use Rattle.model.specs.Plan.{plan_of}
use Rattle.model.specs.Sequential.{OrderEntry, Values, opened, values_after}
use Rattle.claim.specs.World.{Event, outside, issue, receive, packet}
use Rattle.claim.specs.Provisos.{Provisos}
use Rattle.claim.specs.Claim.{Issues, Explains}
use Rattle.claim.specs.Fence.{Fenced, Fences}
use Rattle.claim.specs.Above as Above
use Rattle.chamber_claim.specs.declared.LockPoints.{LockPoints}
use Rattle.chamber_claim.specs.declared.Chamber.{Chamber}
use Rattle.chamber_claim.specs.Chamber.{start_in}
use Rattle.chamber_claim.specs.Lock.{LockEvent, kernel, begin, Lock, lock_product}

-- both gates away from 0 is excluded
abbrev pub OneClosed : LockPoints → Values → Type 0
OneClosed s b = ((b s.upper).value ≡ pos 0) ⊎ ((b s.lower).value ≡ pos 0)

module _ (plan : List ℕ) (s : LockPoints) (ls : List LockEvent) where
  -- the kernel's schedule, and the lock after n events
  abbrev pub events : List Event
  events = Above.events (lock_product s) ls

  abbrev pub lock_at : ℕ → Lock
  lock_at n = (Above.site_after (lock_product s) ls n).parts

  -- event number n
  unfoldable pub AtLock : ℕ → LockEvent → Type 0
  AtLock n e = get_elem? ls n ≡ some e

  -- event n starts the controller of client x
  pub record Begins (n x : ℕ) : Type 0 where
    pub number : ℕ
    pub event : AtLock n (begin number)
    pub bytes : List ℕ
    pub delivered : packet (Above.site_after (lock_product s) ls n).world number ≡ some bytes
    pub answer : (start_in bytes s).answer ≡ Ok tt
    pub its : (start_in bytes s).chamber.client.client ≡ x

  -- p is a gate
  abbrev pub IsGate : ℕ → Type 0
  IsGate p = (p ≡ s.upper) ⊎ (p ≡ s.lower)

  -- after n events, or at some moment before, client x was fenced off from point p
  abbrev pub FencedOff : ℕ → ℕ → ℕ → Type 0
  FencedOff n x p = (m : ℕ) × (m ≤ n) × Fenced plan events m x p

  pub record LockProvisos : Type 0 where
    -- demand 3's
    pub kernels : Provisos plan events
    -- "Gate value 0 is closed and is both gates' fallback"
    pub fallback : (p : ℕ) → IsGate p → (opened (plan_of plan) p).value ≡ pos 0
    -- "provided only this controller commands the gates": what others issue on a gate is a read
    pub only : (n : ℕ) (e : Event) (k : Command) → AtLock n (kernel e) → Issues events n (k ∷ []) → IsGate k.point → k.op ≡ read_op
    -- a controller's client is called through the controller alone
    pub own-issue : (n x op p a : ℕ) (ch : Chamber) → AtLock n (kernel (outside (issue x op p a))) → (lock_at n).controllers x ≡ some ch → ⊥
    pub own-receive : (n x p : ℕ) (ch : Chamber) → AtLock n (kernel (outside (receive x p))) → (lock_at n).controllers x ≡ some ch → ⊥
    -- the next controller starts once the old client was fenced off from each gate, from each at a moment of its own: the fence lasts, and gates may be moved
    -- from then on
    pub successor : (n x y p : ℕ) → Begins n y → (lock_at n).latest ≡ some x → IsGate p → FencedOff n x p

  -- the customer's proviso, with both moments at the start itself: the next controller starts "with no gate being moved", which a server has open, and once
  -- that server has synced a heard time "not under that of the old client's notice"
  abbrev pub FencedAtStart : Type 0
  FencedAtStart = (n x y p : ℕ) → Begins n y → (lock_at n).latest ≡ some x → IsGate p → Fenced plan events n x p

-- the claim, on the kernel's promises alone
unfoldable pub ChamberSafe : Type 0
ChamberSafe = (plan : List ℕ) (s : LockPoints) (ls : List LockEvent) → LockProvisos plan s ls → Fences plan (events plan s ls)
    → (order : List OrderEntry) → Explains plan (events plan s ls) order → (k : ℕ)
    → OneClosed s (values_after (plan_of plan) (opened (plan_of plan)) (take k order))
