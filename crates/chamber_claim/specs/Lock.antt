-- The controllers of one lock above the kernel: one after another, each named by its client's number, all with the same five points. Each of
-- their calls is one event of the kernel, a refused start or command one that does nothing.
-- Assumes nothing.
use Rattle.std.specs.Prelude.{ℕ, List, eqb, Result, Ok, Err}
use Rattle.std.proofs.Math.Option.{Option, none, some}
use Rattle.model.specs.declared.Request.{Request}
use Rattle.model.specs.declared.Refusal.{Refusal}
use Rattle.model.specs.Choice.{pick}
use Rattle.claim.specs.World.{World, Event, outside, OutsideCall, start, issue, resend, receive, packet}
use Rattle.claim.specs.Above.{Product, quiet}
use Rattle.chamber_claim.specs.declared.LockPoints.{LockPoints}
use Rattle.chamber_claim.specs.declared.Chamber.{Chamber}
use Rattle.chamber_claim.specs.declared.ChamberStart.{ChamberStart}
use Rattle.chamber_claim.specs.Chamber.{start_in, issue_in, resend_in, receive_in}

-- an event of the kernel, or a controller's call with its arguments. A packet is named by its number among those made
pub data LockEvent : Type 0 where
  kernel : Event → LockEvent
  begin : ℕ → LockEvent  -- packet
  command : ℕ → ℕ → ℕ → ℕ → LockEvent  -- controller, op, point, argument
  again : ℕ → ℕ → LockEvent  -- controller, call
  hear : ℕ → ℕ → LockEvent  -- controller, packet

-- the controllers by their clients' numbers, and the client of the one that started last
pub record Lock : Type 0 where
  pub controllers : ℕ → Option Chamber
  pub latest : Option ℕ

unfoldable pub no_lock : Lock
no_lock = record { controllers = λ x. none; latest = none }

unfoldable pub with_controller : ℕ → Chamber → Lock → Lock
with_controller x ch l = record { controllers = λ y. pick (eqb y x) (some ch) (l.controllers y); latest = l.latest }

-- ---- the call of the kernel that a controller's call is

unfoldable pub unless_refused : Result Unit Refusal → OutsideCall → OutsideCall
unless_refused (Err r) e = quiet
unless_refused (Ok tt) e = e

unfoldable pub start_call : LockPoints → Option (List ℕ) → ℕ → OutsideCall
start_call s none n = quiet
start_call s (some b) n = unless_refused (start_in b s).answer (start n)

unfoldable pub unless_not_sent : Result Request Refusal → OutsideCall → OutsideCall
unless_not_sent (Err r) e = quiet
unless_not_sent (Ok q) e = e

unfoldable pub issue_call : Option Chamber → ℕ → ℕ → ℕ → ℕ → OutsideCall
issue_call none x op p a = quiet
issue_call (some ch) x op p a = unless_not_sent (issue_in ch op p a).answer (issue x op p a)

unfoldable pub if_there : Option Chamber → OutsideCall → OutsideCall
if_there none e = quiet
if_there (some ch) e = e

unfoldable pub lock_event : LockPoints → World → Lock → LockEvent → Event
lock_event s w l (kernel e) = e
lock_event s w l (begin n) = outside (start_call s (packet w n) n)
lock_event s w l (command x op p a) = outside (issue_call (l.controllers x) x op p a)
lock_event s w l (again x c) = outside (if_there (l.controllers x) (resend x c))
lock_event s w l (hear x n) = outside (if_there (l.controllers x) (receive x n))

-- ---- the controllers after a call

unfoldable pub starts_as : ChamberStart Refusal → Lock → Lock
starts_as a l =
    elim a.answer [
      | Err e ↦ l
      | Ok tt ↦
          let x = a.chamber.client.client in
          record { controllers = (with_controller x a.chamber l).controllers; latest = some x }
    ]

unfoldable pub starts_on : LockPoints → Option (List ℕ) → Lock → Lock
starts_on s none l = l
starts_on s (some b) l = starts_as (start_in b s) l

unfoldable pub changes : ℕ → (Chamber → Chamber) → Option Chamber → Lock → Lock
changes x f none l = l
changes x f (some ch) l = with_controller x (f ch) l

unfoldable pub hears : ℕ → Option (List ℕ) → Lock → Lock
hears x none l = l
hears x (some b) l = changes x (λ ch. (receive_in ch b).chamber) (l.controllers x) l

unfoldable pub lock_after : LockPoints → World → Lock → LockEvent → Lock
lock_after s w l (kernel e) = l
lock_after s w l (begin n) = starts_on s (packet w n) l
lock_after s w l (command x op p a) = changes x (λ ch. (issue_in ch op p a).chamber) (l.controllers x) l
lock_after s w l (again x c) = changes x (λ ch. (resend_in ch c).chamber) (l.controllers x) l
lock_after s w l (hear x n) = hears x (packet w n) l

-- the product: controllers of the lock with these points
abbrev pub lock_product : LockPoints → Product
lock_product s =
    record {
      Parts = Lock;
      Outer = LockEvent;
      initial = no_lock;
      event_of = lock_event s;
      parts_after = lock_after s;
    }
