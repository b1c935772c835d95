-- The provisos of a lock's schedule as tests of one event in the site before it, and what is looked for at single events.
-- Assumes nothing.
use Rattle.std.specs.Prelude.{ℕ, Bool, true, false, ◌&&◌, ◌||◌, not, List, [], ◌∷◌, eqb, leb, Ok, Err, Option, Some, None}
use Rattle.std.proofs.Math.Option.{Option as Maybe, none, some}
use Rattle.model.specs.declared.Answer.{Answer}
use Rattle.model.specs.declared.Command.{Command}
use Rattle.model.specs.declared.Packet.{Packet}
use Rattle.model.specs.declared.Packet.TheVariants.{Requested, Resulted, Refused, Receipted, Noticed, Granted}
use Rattle.model.specs.Limits.{read_op}
use Rattle.model.specs.Packets.{parse_packet}
use Rattle.model.specs.Calls.{Operation, request, fetch, sync, notice, give, image, take_in, receipt, release, handed}
use Rattle.model.specs.Refusals.{no_refusal}
use Rattle.model.specs.States.{State, point_at, is_held}
use Rattle.claim.specs.World.{Event, found, call, inquire}
use Rattle.claim.specs.World.{recover, checkpoint, store, recover·tail, crash, outside, start, issue, resend, receive, open·lease, renew, query, World, packet}
use Rattle.claim.specs.Claim.{state_given}
use Rattle.claim.specs.Fence.{synced_state}
use Rattle.claim.specs.Above.{Site}
use Rattle.chamber_claim.specs.declared.LockPoints.{LockPoints}
use Rattle.chamber_claim.specs.declared.Chamber.{Chamber}
use Rattle.model.specs.declared.Refusal.{Refusal}
use Rattle.chamber_claim.specs.declared.ChamberStart.{ChamberStart}
use Rattle.chamber_claim.specs.Chamber.{start_in}
use Rattle.chamber_claim.specs.Lock.{LockEvent, kernel, begin, command, again, hear, Lock, lock_event, lock_after, lock_product}
use Rattle.proof_sanity.specs.Trace.{typed_ok, keeps_ok, done}

-- ---- other clients

unfoldable pub is_none : Maybe Chamber → Bool
is_none none = true
is_none (some ch) = false

unfoldable pub gate_ok : LockPoints → ℕ → ℕ → Bool
gate_ok s op p = (not (eqb p s.upper) && not (eqb p s.lower)) || eqb op read_op

-- an event of the kernel is no call of a controller's client, and commands no gate
unfoldable pub aside_ok : LockPoints → Lock → Event → Bool
aside_ok s l (found c state log p n) = true
aside_ok s l (call c o t) = true
aside_ok s l (inquire c i t) = true
aside_ok s l (recover c state log p) = true
aside_ok s l (checkpoint c v tail t) = true
aside_ok s l (store c) = true
aside_ok s l (recover·tail c state k tail) = true
aside_ok s l (crash c k) = true
aside_ok s l (outside (start p)) = true
aside_ok s l (outside (issue x op p a)) = is_none (l.controllers x) && gate_ok s op p
aside_ok s l (outside (resend x c)) = true
aside_ok s l (outside (receive x p)) = is_none (l.controllers x)
aside_ok s l (outside (open·lease t span)) = true
aside_ok s l (outside (renew x t span)) = true
aside_ok s l (outside (query x t)) = true

-- ---- a successor

unfoldable pub held_in : ℕ → Maybe State → Bool
held_in p none = false
held_in p (some st) = is_held (point_at st p)

-- a notice of x with a time not above `heard`
unfoldable pub notice_is : ℕ → ℕ → Option Packet → Bool
notice_is x heard None = false
notice_is x heard (Some (Requested q)) = false
notice_is x heard (Some (Resulted r)) = false
notice_is x heard (Some (Refused r)) = false
notice_is x heard (Some (Receipted r)) = false
notice_is x heard (Some (Noticed n)) = eqb n.client x && leb n.time heard
notice_is x heard (Some (Granted g)) = false

unfoldable pub heard_in : ℕ → Maybe State → Maybe (List ℕ) → Bool
heard_in x none o = false
heard_in x (some st) none = false
heard_in x (some st) (some b) = notice_is x st.heard (parse_packet b)

-- client x is fenced off from both gates: server c holds them, and has synced the notice with packet number k
unfoldable pub successor_ok : List ℕ → LockPoints → ℕ → ℕ → World → Maybe ℕ → Bool
successor_ok plan s c k w none = true
successor_ok plan s c k w (some x) =
    let st = state_given plan (w.servers c) in
    held_in s.upper st && (held_in s.lower st && heard_in x (synced_state plan (w.servers c)) (packet w k))

-- ---- one event

unfoldable pub lock_ok : List ℕ → LockPoints → ℕ → ℕ → World → Lock → LockEvent → Bool
lock_ok plan s c k w l (kernel e) = aside_ok s l e
lock_ok plan s c k w l (begin n) = successor_ok plan s c k w l.latest
lock_ok plan s c k w l (command x op p a) = true
lock_ok plan s c k w l (again x n) = true
lock_ok plan s c k w l (hear x n) = true

-- what is looked for
pub data Look : Type 0 where
  nothing : Look
  starting : ℕ → Look  -- the controller of this client starts
  executing : Command → Look  -- this command is executed

unfoldable pub started_as : ℕ → ChamberStart Refusal → Bool
started_as x a = elim a.answer [ Err e ↦ false | Ok tt ↦ eqb a.chamber.client.client x ]

unfoldable pub starts_in : LockPoints → ℕ → Maybe (List ℕ) → Bool
starts_in s x none = false
starts_in s x (some b) = started_as x (start_in b s)

unfoldable pub done_silently : Maybe Answer → Bool
done_silently none = false
done_silently (some a) = eqb a.refusal no_refusal && eqb a.wrote 0

unfoldable pub same_command : Command → Command → Bool
same_command a b =
    eqb a.client b.client && (eqb a.call b.call && (eqb a.op b.op && (eqb a.point b.point && eqb a.argument b.argument)))

unfoldable pub asks_for : Command → Option Packet → Bool
asks_for k None = false
asks_for k (Some (Requested q)) = same_command q.command k
asks_for k (Some (Resulted r)) = false
asks_for k (Some (Refused r)) = false
asks_for k (Some (Receipted r)) = false
asks_for k (Some (Noticed n)) = false
asks_for k (Some (Granted g)) = false

-- an operation that asks for the command k
unfoldable pub requests : Command → Maybe Operation → Bool
requests k none = false
requests k (some (request v b)) = asks_for k (parse_packet b)
requests k (some (fetch v x c)) = false
requests k (some (sync m)) = false
requests k (some (notice b)) = false
requests k (some (give p d)) = false
requests k (some (image v p)) = false
requests k (some (take_in b)) = false
requests k (some (receipt p)) = false
requests k (some (release b)) = false

-- `a` is what an operation answers
unfoldable pub executes_in : Command → World → Event → Maybe Answer → Bool
executes_in k w (found c state log p n) a = false
executes_in k w (call c o t) a = done_silently a && requests k (handed (packet w) o)
executes_in k w (inquire c i t) a = false
executes_in k w (recover c state log p) a = false
executes_in k w (checkpoint c v tail t) a = false
executes_in k w (store c) a = false
executes_in k w (recover·tail c state n tail) a = false
executes_in k w (crash c n) a = false
executes_in k w (outside e) a = false

unfoldable pub begins_in : LockPoints → ℕ → World → LockEvent → Bool
begins_in s x w (kernel e) = false
begins_in s x w (begin n) = starts_in s x (packet w n)
begins_in s x w (command y op p a) = false
begins_in s x w (again y c) = false
begins_in s x w (hear y n) = false

unfoldable pub looked : LockPoints → World → LockEvent → Event → Maybe Answer → Look → Bool
looked s w o e a nothing = true
looked s w o e a (starting x) = begins_in s x w o
looked s w o e a (executing k) = executes_in k w e a

unfoldable pub event_ok : List ℕ → (s : LockPoints) → ℕ → ℕ → Site (lock_product s) → LockEvent → Event → Maybe Answer → Look → Bool
event_ok plan s c k t o e a x =
    (typed_ok e && keeps_ok plan t.world e) && (lock_ok plan s c k t.world t.parts o && looked s t.world o e a x)

-- ---- a schedule, from a site on, with what is looked for at each event; an event is run once
unfoldable pub passes : List ℕ → (s : LockPoints) → ℕ → ℕ → Site (lock_product s) → List LockEvent → List Look → Bool
passes plan s c k t [] xs = true
passes plan s c k t (o ∷ os) [] = false
passes plan s c k t (o ∷ os) (x ∷ xs) =
    let e = lock_event s t.world t.parts o in
    let d = done t.world e in
    event_ok plan s c k t o e d.answer x && passes plan s c k (record { world = d.world; parts = lock_after s t.world t.parts o }) os xs

-- ---- crashes

unfoldable pub no_crash : Event → Bool
no_crash (found c state log p n) = true
no_crash (call c o t) = true
no_crash (inquire c i t) = true
no_crash (recover c state log p) = true
no_crash (checkpoint c v tail t) = true
no_crash (store c) = true
no_crash (recover·tail c state k tail) = true
no_crash (crash c k) = false
no_crash (outside e) = true

unfoldable pub uncut : LockEvent → Bool
uncut (kernel e) = no_crash e
uncut (begin n) = true
uncut (command x op p a) = true
uncut (again x n) = true
uncut (hear x n) = true
