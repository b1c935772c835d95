-- The dispatchers of a plant above the kernel, one for each server. To the kernel a dispatcher is a slow line: a serving is Request of a packet that was made earlier,
-- and to wait or to be lost is nothing. So demand 3 and the fence speak of these schedules as they stand, and Executes of their servings.
-- Assumes nothing.
use Rattle.std.specs.Prelude.{ℕ, suc, ◌+◌, ◌≤◌, ◌<◌, ◌≡◌, Bool, true, false, ◌&&◌, not, List, [], ◌∷◌, ◌++◌, ◌↔◌, ◌⊎◌, eqb, length, take, drop}
use Rattle.std.proofs.Math.Option.{Option, none, some}
use Rattle.std.proofs.Math.ListN.{get_elem?}
use Rattle.model.specs.Choice.{pick, is_passed}
use Rattle.model.specs.Tables.{every}
use Rattle.model.specs.Refusals.{no_refusal}
use Rattle.model.specs.Versions.{Versions}
use Rattle.model.specs.Sequential.{Marked, marked_by}
use Rattle.model.specs.Operations.{answer_of, request_of}
use Rattle.model.specs.Calls.{request}
use Rattle.model_laws.specs.Bytes.{Bytes}
use Rattle.claim.specs.World.{World, Event, call, outside, Lent, lent_state, lent_log, packet, after, Stored, Server, nothing, running, storing, crashed}
use Rattle.claim.specs.Provisos.{At}
use Rattle.claim.specs.Claim.{Executes}
use Rattle.claim.specs.Above as Above
use Rattle.claim.specs.Above.{Product, Site, step_site, empty_site, run_site, quiet}
use Rattle.dispatch_claim.specs.declared.Dispatcher.{Dispatcher}
use Rattle.dispatch_claim.specs.declared.Enqueued.{Enqueued}
use Rattle.dispatch_claim.specs.Dispatcher.{places, no_waiting, waiting, first_waiting, enqueue_of, serve_of}

-- an event of the kernel, or a call of a server's dispatcher. A packet is named by its number among those made
pub data QueueEvent : Type 0 where
  kernel : Event → QueueEvent
  enqueue : ℕ → ℕ → QueueEvent  -- server, packet
  serve : ℕ → Versions → Lent → QueueEvent  -- server, the versions of its program
  lose : ℕ → QueueEvent  -- server: its host starts with a new dispatcher, after a crash or at any time

-- a dispatcher, and the numbers of the packets that wait in it
pub record Queue : Type 0 where
  pub dispatcher : Dispatcher
  pub numbers : List ℕ

unfoldable pub no_queue : Queue
no_queue = record { dispatcher = no_waiting; numbers = [] }

-- by server
abbrev pub Queues : Type 0
Queues = ℕ → Queue

unfoldable pub with_queue : ℕ → Queue → Queues → Queues
with_queue c q qs = λ d. pick (eqb d c) q (qs d)

-- ---- the call of the kernel that a serving is: where the server does not run, or nobody waits, it is none

unfoldable pub handed_call : ℕ → Versions → Lent → List ℕ → Event
handed_call c v l [] = outside quiet
handed_call c v l (n ∷ ns) = call c (request v n) l

unfoldable pub served_call : ℕ → Versions → Lent → List ℕ → Server → Event
served_call c v l ns nothing = outside quiet
served_call c v l ns (running k state log) = handed_call c v l ns
served_call c v l ns (storing k log next state tail) = outside quiet
served_call c v l ns (crashed k kept mark) = outside quiet

unfoldable pub queue_event : World → Queues → QueueEvent → Event
queue_event w qs (kernel e) = e
queue_event w qs (enqueue c n) = outside quiet
queue_event w qs (serve c v l) = served_call c v l (qs c).numbers (w.servers c)
queue_event w qs (lose c) = outside quiet

-- ---- the dispatchers after a call

unfoldable pub taking : Enqueued → ℕ → Queue → Queue
taking a n q = record { dispatcher = a.dispatcher; numbers = pick (is_passed a.number) (q.numbers ++ (n ∷ [])) q.numbers }

unfoldable pub enqueued_on : Option (List ℕ) → ℕ → Queue → Queue
enqueued_on none n q = q
enqueued_on (some b) n q = taking (enqueue_of q.dispatcher b) n q

unfoldable pub served_by : Versions → Lent → Server → Queue → Queue
served_by v l nothing q = q
served_by v l (running k state log) q =
    record { dispatcher = (serve_of v q.dispatcher (lent_state l state) (lent_log l log) l.out).dispatcher; numbers = drop 1 q.numbers }
served_by v l (storing k log next state tail) q = q
served_by v l (crashed k kept mark) q = q

unfoldable pub queues_after : World → Queues → QueueEvent → Queues
queues_after w qs (kernel e) = qs
queues_after w qs (enqueue c n) = with_queue c (enqueued_on (packet w n) n (qs c)) qs
queues_after w qs (serve c v l) = with_queue c (served_by v l (w.servers c) (qs c)) qs
queues_after w qs (lose c) = with_queue c no_queue qs

-- the product: a dispatcher for each server
abbrev pub queue_product : Product
queue_product =
    record {
      Parts = Queues;
      Outer = QueueEvent;
      initial = λ c. no_queue;
      event_of = queue_event;
      parts_after = queues_after;
    }

-- ---- what is promised of a schedule

-- server c runs
unfoldable pub is_running : Server → Bool
is_running nothing = false
is_running (running k state log) = true
is_running (storing k log next state tail) = false
is_running (crashed k kept mark) = false

-- a serving at c
unfoldable pub serves_at : ℕ → World → QueueEvent → Bool
serves_at c w (kernel e) = false
serves_at c w (enqueue d n) = false
serves_at c w (serve d v l) = eqb d c && is_running (w.servers c)
serves_at c w (lose d) = false

-- the waiting requests of c are lost
unfoldable pub loses_at : ℕ → QueueEvent → Bool
loses_at c (kernel e) = false
loses_at c (enqueue d n) = false
loses_at c (serve d v l) = false
loses_at c (lose d) = eqb d c

-- the servings at c, from a site on
unfoldable pub servings_from : ℕ → Site queue_product → List QueueEvent → ℕ
servings_from c s [] = 0
servings_from c s (o ∷ os) = pick (serves_at c s.world o) 1 0 + servings_from c (step_site queue_product s o) os

-- the site that a schedule leaves
abbrev pub site_of : List QueueEvent → Site queue_product
site_of os = run_site queue_product (empty_site queue_product) os

module _ (os : List QueueEvent) where
  -- the kernel's schedule; a server's dispatcher after n events
  abbrev pub events : List Event
  events = Above.events queue_product os

  abbrev pub queue_at : ℕ → ℕ → Queue
  queue_at n c = (Above.site_after queue_product os n).parts c

  -- event number n
  unfoldable pub AtQueue : ℕ → QueueEvent → Type 0
  AtQueue n o = get_elem? os n ≡ some o

  -- all that was made is bytes: so it is under the provisos of demand 3
  abbrev pub MadeBytes : Type 0
  MadeBytes = (n p : ℕ) (b : List ℕ) → packet (after events n) p ≡ some b → Bytes b

  -- a serving is Request of a packet that was made earlier: of the one that came first, with its answer, slices and packet
  pub record Hands (n c : ℕ) (v : Versions) (l : Lent) (state log : List ℕ) : Type 0 where
    pub number : ℕ
    pub bytes : List ℕ
    pub event : At events n (call c (request v number) l)
    pub delivered : packet (after events n) number ≡ some bytes
    pub same : (serve_of v (queue_at n c).dispatcher (lent_state l state) (lent_log l log) l.out).left ≡ request_of v (lent_state l state) (lent_log l log) bytes l.out

  abbrev pub ServingIs : Type 0
  ServingIs = (n c : ℕ) (v : Versions) (l : Lent) → AtQueue n (serve c v l)
      → (k : Stored) (state log : List ℕ) → (after events n).servers c ≡ running k state log
      → (waiting (queue_at n c).dispatcher ≡ [] → ⊥) → Hands n c v l state log

  -- event n is a serving at c that answers 0 and writes nothing
  pub record Serves (n c : ℕ) (m : Marked) : Type 0 where
    pub versions : Versions
    pub lent : Lent
    pub event : AtQueue n (serve c versions lent)
    pub stored : Stored
    pub state : List ℕ
    pub log : List ℕ
    pub up : (after events n).servers c ≡ running stored state log
    pub answer : (serve_of versions (queue_at n c).dispatcher (lent_state lent state) (lent_log lent log) lent.out).left.answer ≡ answer_of no_refusal 0
    pub its : marked_by versions (first_waiting (queue_at n c).dispatcher).command ≡ m

  -- event n is the kernel's own
  abbrev pub IsKernel : ℕ → Type 0
  IsKernel n = (e : Event) × AtQueue n (kernel e)

  -- what demand 3 and the fence call executed is what such servings, and the kernel's own requests, carry out
  abbrev pub ExecutesBy : Type 0
  ExecutesBy = (n c : ℕ) (m : Marked) → Executes events n c m ↔ (Serves n c m ⊎ (IsKernel n × Executes events n c m))

-- the packet with number n is taken in at server c after the events os. Whatever `more` follows: with 32 servings at c and no loss there, one of the first 32 is
-- Request of that packet, event j behind it
pub record ReachedIn (os more : List QueueEvent) (c n : ℕ) : Type 0 where
  pub j : ℕ
  pub versions : Versions
  pub lent : Lent
  pub event : At (events (os ++ (enqueue c n ∷ more))) (length os + suc j) (call c (request versions n) lent)
  pub soon : servings_from c (site_of (os ++ (enqueue c n ∷ []))) (take j more) < places

unfoldable pub ReachesRun : Type 0
ReachesRun = (os more : List QueueEvent) (c n : ℕ) (b : List ℕ)
    → packet (site_of os).world n ≡ some b → (enqueue_of ((site_of os).parts c).dispatcher b).number ≡ no_refusal
    → every (λ o. not (loses_at c o)) more ≡ true → places ≤ servings_from c (site_of (os ++ (enqueue c n ∷ []))) more
    → ReachedIn os more c n
