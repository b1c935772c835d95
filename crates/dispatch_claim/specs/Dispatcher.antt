-- The dispatcher above a server (paper: cabinet): request packets wait in it, at most 32, at most one of each client (paper: desk), and go to the server in the order
-- they came. It goes in and out by value: with nobody waiting a serving answers before it looks at a slice, and no lent memory changes on a refusal but by
-- the server's own rule. Every value of the struct is taken.
-- Assumes nothing.
use Rattle.std.specs.Prelude.{ℕ, ◌+◌, ◌-◌, Bool, List, [], ◌∷◌, ◌++◌, length, get_or, set, take, drop, replicate, eqb, leb, ltb}
use Rattle.model.specs.declared.Request.{Request}
use Rattle.model.specs.Choice.{pick, or_else, refuse, ◌if◌else◌, passed, is_passed}
use Rattle.model.specs.Refusals.{no_refusal, malformed, clients_full, unknown, already_waiting}
use Rattle.model.specs.Tables.{index_of}
use Rattle.model.specs.Versions.{Versions}
use Rattle.model.specs.Packets.{parse_packet, as_request, request_bytes}
use Rattle.model.specs.Operations.{After, settle, request_of}
use Rattle.dispatch_claim.specs.declared.Dispatcher.{Dispatcher}
use Rattle.dispatch_claim.specs.declared.Enqueued.{Enqueued}
use Rattle.dispatch_claim.specs.declared.Served.{Served}

-- "up to 32 clients"
abbrev pub places : ℕ
places = 32

-- a free place
abbrev pub no_request : Request
no_request = record { command = record { client = 0; call = 0; op = 0; point = 0; argument = 0 }; done = 0; lease = 0 }

-- nobody waits
unfoldable pub no_waiting : Dispatcher
no_waiting = record { count = 0; requests = replicate places no_request }

-- how many wait; a count that no call made is read as 32
unfoldable pub waiting_count : Dispatcher → ℕ
waiting_count d = pick (leb d.count places) d.count places

-- the requests that wait, first come first
unfoldable pub waiting : Dispatcher → List Request
waiting d = take (waiting_count d) d.requests

-- ---- Enqueue (packet): 1 malformed, or no request; 21 its client waits already; 8 32 wait; else it waits behind them

unfoldable pub is_of : ℕ → Request → Bool
is_of x q = eqb q.command.client x

unfoldable pub waits : Dispatcher → ℕ → Bool
waits d x = ltb (index_of (is_of x) (waiting d)) (length (waiting d))

unfoldable pub enqueue_refusal : Dispatcher → Request → ℕ
enqueue_refusal d q =
    already_waiting if waits d q.command.client
    else clients_full if leb places d.count
    else passed

unfoldable pub with_last : Dispatcher → Request → Dispatcher
with_last d q = record { count = d.count + 1; requests = set d.requests d.count q }

abbrev pub enqueued : Dispatcher → ℕ → Enqueued
enqueued d n = record { dispatcher = d; number = n }

unfoldable pub enqueue_request : Dispatcher → Request → Enqueued
enqueue_request d q = let n = enqueue_refusal d q in pick (is_passed n) (enqueued (with_last d q) no_refusal) (enqueued d n)

unfoldable pub enqueue_of : Dispatcher → List ℕ → Enqueued
enqueue_of d packet = or_else (as_request (parse_packet packet)) (enqueued d malformed) (enqueue_request d)

-- ---- Serve: 17 nobody waits; else the first goes to the server, whose answer is the serving's, and its place is free

unfoldable pub first_waiting : Dispatcher → Request
first_waiting d = get_or d.requests 0 no_request

unfoldable pub shifted : Dispatcher → Dispatcher
shifted d = record { count = waiting_count d - 1; requests = drop 1 d.requests ++ (no_request ∷ []) }

-- what a serving leaves: the dispatcher; the answer and the lent slices
pub record AfterServe : Type 0 where
  pub dispatcher : Dispatcher
  pub left : After

-- by a program that executes and writes by v
unfoldable pub serve_of : Versions → Dispatcher → List ℕ → List ℕ → List ℕ → AfterServe
serve_of v d state log out =
    pick (eqb d.count 0) (record { dispatcher = d; left = settle state log out (refuse unknown) })
    (record { dispatcher = shifted d; left = request_of v state log (request_bytes (first_waiting d)) out })

-- an answer with the slices beside it
abbrev pub after_serve : Served → List ℕ → List ℕ → List ℕ → AfterServe
after_serve r s l o = record { dispatcher = r.dispatcher; left = record { answer = r.answer; state = s; log = l; out = o } }
