-- Dispatchers over the proved kernel, and side by side with the controllers of a lock.
--     queues_explained, queues_fenced     demand 3 and the fence of schedules with dispatchers
--     servings_are, servings_execute      what their servings are, and execute
--     queue_open, lock_open               both products take the kernel's events
--     plant_explained                     demand 3 of a plant with dispatchers and a lock
--     lock_beside                         the lock's theorem there: for controllers whose requests wait
--     servings_beside                     and what is executed by servings there
-- Assumes nothing.
use Prim.Native.Nat.{ℕ}
use mathlib.Core.Path.{◌≡◌, refl, sym, subst}
use mathlib.Core.List.{List}
use lib.ListN.{take}
use Rattle.model.specs.Plan.{plan_of}
use Rattle.model.specs.Sequential.{OrderEntry, opened, values_after}
use Rattle.claim.specs.World.{Event}
use Rattle.claim.specs.Provisos.{Provisos}
use Rattle.claim.specs.Claim.{Explains}
use Rattle.claim.specs.Fence.{Fences}
use Rattle.claim.specs.Above as Above
use Rattle.claim.specs.Above.{Open, seen_in}
use Rattle.claim.proofs.Above.{seen-events, in_left, in_right}
use Rattle.safety.proofs.Above.{demand3_above, fence_above, made_above}
use Rattle.chamber_claim.specs.declared.LockPoints.{LockPoints}
use Rattle.chamber_claim.specs.Lock as Lock
use Rattle.chamber_claim.specs.Lock.{LockEvent, lock_product}
use Rattle.chamber_claim.specs.Safe as Safe
use Rattle.chamber_claim.specs.Safe.{LockProvisos, OneClosed}
use Rattle.chamber_safety.proofs.Locks.{safe_in_all}
use Rattle.dispatch_claim.specs.Queues as Queues
use Rattle.dispatch_claim.specs.Queues.{QueueEvent, queue_product, events, ServingIs, ExecutesBy}
use Rattle.dispatch_claim.proofs.Queues.{serving_is, executes_by}
use Rattle.dispatch_safety.specs.Plant.{plant_product}

module _ (plan : List ℕ) (os : List QueueEvent) (P : Provisos plan (events os)) where
  pub queues_explained : (order : List OrderEntry) × Explains plan (events os) order
  queues_explained = demand3_above queue_product plan os P

  pub queues_fenced : Fences plan (events os)
  queues_fenced = fence_above queue_product plan os P

  pub servings_are : ServingIs os
  servings_are = serving_is os (made_above queue_product plan os P)

  pub servings_execute : ExecutesBy os
  servings_execute = executes_by os (made_above queue_product plan os P)

pub queue_open : Open queue_product
unfolding Queues.queue_event Queues.queues_after
queue_open = record { kernel = Queues.kernel; is = λ w p e. refl; leaves = λ w p e. refl }

pub lock_open : (s : LockPoints) → Open (lock_product s)
unfolding Lock.lock_event Lock.lock_after
lock_open s = record { kernel = Lock.kernel; is = λ w p e. refl; leaves = λ w p e. refl }

module _ (plan : List ℕ) (s : LockPoints) (os : List (plant_product s).Outer) where
  abbrev plant_events : List Event
  plant_events = Above.events (plant_product s) os

  -- the schedule as the lock sees it, and as the dispatchers do
  abbrev pub as_lock : List LockEvent
  as_lock = seen_in (plant_product s) (lock_product s) (in_right queue_product (lock_product s) (lock_open s)) os

  abbrev pub as_queues : List QueueEvent
  as_queues = seen_in (plant_product s) queue_product (in_left queue_product (lock_product s) queue_open) os

  same_lock : Safe.events plan s as_lock ≡ plant_events
  same_lock = seen-events (plant_product s) (lock_product s) (in_right queue_product (lock_product s) (lock_open s)) os

  same_queues : events as_queues ≡ plant_events
  same_queues = seen-events (plant_product s) queue_product (in_left queue_product (lock_product s) queue_open) os

  pub plant_explained : Provisos plan plant_events → (order : List OrderEntry) × Explains plan plant_events order
  plant_explained P = demand3_above (plant_product s) plan os P

  pub lock_beside : LockProvisos plan s as_lock → (order : List OrderEntry) → Explains plan plant_events order
      → (k : ℕ) → OneClosed s (values_after (plan_of plan) (opened (plan_of plan)) (take k order))
  lock_beside P order E = safe_in_all plan s as_lock P order (subst (λ (es : List Event). Explains plan es order) (sym same_lock) E)

  pub servings_beside : Provisos plan plant_events → ExecutesBy as_queues
  servings_beside P = servings_execute plan as_queues (subst (Provisos plan) (sym same_queues) P)
