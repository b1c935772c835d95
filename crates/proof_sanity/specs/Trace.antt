-- A schedule over bytes, run once: whether each event keeps the provisos in the world before it, what its call gets and answers, and how the
-- servers stand at the end.
-- Assumes nothing.
use Rattle.std.specs.Prelude.{ℕ, ◌+◌, ◌*◌, ◌≡◌, Bool, true, false, ◌&&◌, ◌||◌, not, List, [], ◌∷◌, length, take, eqb, leb, ltb}
use Rattle.std.proofs.Math.Option.{Option, none, some}
use Rattle.model.specs.declared.Answer.{Answer}
use Rattle.model.specs.declared.Client.{Client}
use Rattle.model.specs.declared.Point.{Point}
use Rattle.model.specs.Numbers.{word}
use Rattle.model.specs.Tables.{every}
use Rattle.model.specs.States.{load, point_at}
use Rattle.model.specs.Calls.{Operation, request, fetch, sync, notice, give, image, take_in, receipt, release, handed, operated}
use Rattle.model.specs.Clients.{start_of}
use Rattle.claim.specs.World.{Event, found, call, inquire, recover, checkpoint, store, recover·tail, crash, outside}
use Rattle.claim.specs.World.{start, issue, resend, receive, open·lease, renew, query}
use Rattle.claim.specs.World.{Lent, World, Stored, Server, nothing, running, storing, crashed, stored_of, with_server, making, lent_state, lent_log, state_back, log_back, packet, step}
use Rattle.claim.specs.Provisos.{kept_by, mark_of, length_of, reach_of}

-- ---- the provisos, as tests

unfoldable pub bytes_ok : List ℕ → Bool
bytes_ok s = every (λ b. ltb b 256) s

unfoldable pub counted_ok : Lent → Bool
counted_ok l = ltb l.log (word * word)

unfoldable pub typed_ok : Event → Bool
typed_ok (found c state log plan n) = bytes_ok state && bytes_ok plan
typed_ok (call c o l) = counted_ok l
typed_ok (inquire c i l) = counted_ok l
typed_ok (recover c state log plan) = bytes_ok state
typed_ok (checkpoint c v tail l) = counted_ok l
typed_ok (store c) = true
typed_ok (recover·tail c state k tail) = bytes_ok state
typed_ok (crash c k) = true
typed_ok (outside (start p)) = true
typed_ok (outside (issue x op p a)) = true
typed_ok (outside (resend x c)) = true
typed_ok (outside (receive x p)) = true
typed_ok (outside (open·lease t span)) = ltb t word
typed_ok (outside (renew x t span)) = ltb t word
typed_ok (outside (query x t)) = ltb t word

unfoldable pub same_bytes : List ℕ → List ℕ → Bool
same_bytes [] [] = true
same_bytes [] (b ∷ t) = false
same_bytes (a ∷ s) [] = false
same_bytes (a ∷ s) (b ∷ t) = eqb a b && same_bytes s t

unfoldable pub is_nothing : Server → Bool
is_nothing nothing = true
is_nothing (running k state log) = false
is_nothing (storing k log next state tail) = false
is_nothing (crashed k kept mark) = false

unfoldable pub kept_is : List ℕ → Option (List ℕ) → Bool
kept_is log none = false
kept_is log (some s) = same_bytes s log

-- a checkpoint is in force, and the slice begins with it
unfoldable pub begins_ok : List ℕ → List ℕ → Bool
begins_ok k slice = leb 1 (length k) && same_bytes (take (length k) slice) k

unfoldable pub not_started : Option Client → Bool
not_started none = true
not_started (some d) = false

-- a start of the packet, if it starts a client, starts a new one
unfoldable pub starts_new : World → Option (List ℕ) → Bool
starts_new w none = true
starts_new w (some b) = not_started (w.clients (start_of b).client.client)

-- the other provisos; found and the two recoveries are taken as not refused
unfoldable pub keeps_ok : List ℕ → World → Event → Bool
keeps_ok plan w (found c state log p n) = same_bytes p plan && (eqb n c && is_nothing (w.servers c))
keeps_ok plan w (call c o l) = true
keeps_ok plan w (inquire c i l) = true
keeps_ok plan w (recover c state log p) = same_bytes p plan && (kept_is log (kept_by (w.servers c)) && same_bytes (stored_of (w.servers c)).checkpoint [])
keeps_ok plan w (checkpoint c v tail l) = true
keeps_ok plan w (store c) = true
keeps_ok plan w (recover·tail c state k tail) = kept_is tail (kept_by (w.servers c)) && begins_ok (stored_of (w.servers c)).checkpoint k
keeps_ok plan w (crash c k) = leb (mark_of (w.servers c)) k && leb k (length_of (w.servers c))
keeps_ok plan w (outside (start p)) = starts_new w (packet w p)
keeps_ok plan w (outside (issue x op p a)) = true
keeps_ok plan w (outside (resend x c)) = true
keeps_ok plan w (outside (receive x p)) = true
keeps_ok plan w (outside (open·lease t span)) = true
keeps_ok plan w (outside (renew x t span)) = true
keeps_ok plan w (outside (query x t)) = true

-- ---- what is seen of an event

-- a crash: its server, and what it keeps, counted from the founding
pub record Cut : Type 0 where
  pub server : ℕ
  pub reach : ℕ

-- what an event's call gets: the client and the packet it names, an operation with the packet that it names, and its server's log before it, by length
-- from the founding; what an operation answers, and what a crash keeps
pub record Call : Type 0 where
  pub client : Option Client
  pub packet : Option (List ℕ)
  pub operation : Option Operation
  pub size : ℕ
  pub answer : Option Answer
  pub cut : Option Cut

unfoldable pub operation_answer : Lent → Server → Option Operation → Option Answer
operation_answer l nothing o = none
operation_answer l (running k state log) none = none
operation_answer l (running k state log) (some o) = some (operated o (lent_state l state) (lent_log l log) l.out).answer
operation_answer l (storing k log next state tail) o = none
operation_answer l (crashed k kept mark) o = none

-- the world after an event, and what an operation answers
pub record Done : Type 0 where
  pub world : World
  pub answer : Option Answer

-- an operation, computed once for both
unfoldable pub operation_done : ℕ → Lent → Server → Option Operation → World → Done
operation_done c l nothing o w = record { world = w; answer = none }
operation_done c l (running k state log) none w = record { world = w; answer = none }
operation_done c l (running k state log) (some o) w =
    let a = operated o (lent_state l state) (lent_log l log) l.out in
    record { world = making (take a.answer.wrote a.out) (with_server c (running k (state_back l state a) (log_back l state log a)) w); answer = some a.answer }
operation_done c l (storing k log next state tail) o w = record { world = w; answer = none }
operation_done c l (crashed k kept mark) o w = record { world = w; answer = none }

unfoldable pub done : World → Event → Done
done w (found c state log p n) = record { world = step w (found c state log p n); answer = none }
done w (call c o l) = operation_done c l (w.servers c) (handed (packet w) o) w
done w (inquire c i l) = record { world = step w (inquire c i l); answer = none }
done w (recover c state log p) = record { world = step w (recover c state log p); answer = none }
done w (checkpoint c v tail l) = record { world = step w (checkpoint c v tail l); answer = none }
done w (store c) = record { world = step w (store c); answer = none }
done w (recover·tail c state k tail) = record { world = step w (recover·tail c state k tail); answer = none }
done w (crash c k) = record { world = step w (crash c k); answer = none }
done w (outside e) = record { world = step w (outside e); answer = none }

abbrev pub at_server : Server → Option Operation → Option Answer → Call
at_server s o a = record { client = none; packet = none; operation = o; size = reach_of s; answer = a; cut = none }

abbrev pub at_client : Option Client → Option (List ℕ) → Call
at_client d b = record { client = d; packet = b; operation = none; size = 0; answer = none; cut = none }

abbrev pub at_crash : ℕ → ℕ → Server → Call
at_crash c k s = record { client = none; packet = none; operation = none; size = reach_of s; answer = none; cut = some (record { server = c; reach = (stored_of s).replaced + k }) }

-- `a` is what an operation answers
unfoldable pub call_with : World → Event → Option Answer → Call
call_with w (found c state log p n) a = at_server (w.servers c) none none
call_with w (call c o l) a = at_server (w.servers c) (handed (packet w) o) a
call_with w (inquire c i l) a = at_server (w.servers c) none none
call_with w (recover c state log p) a = at_server (w.servers c) none none
call_with w (checkpoint c v tail l) a = at_server (w.servers c) none none
call_with w (store c) a = at_server (w.servers c) none none
call_with w (recover·tail c state k tail) a = at_server (w.servers c) none none
call_with w (crash c k) a = at_crash c k (w.servers c)
call_with w (outside (start p)) a = at_client none (packet w p)
call_with w (outside (issue x op p a)) r = at_client (w.clients x) none
call_with w (outside (resend x c)) a = at_client (w.clients x) none
call_with w (outside (receive x p)) a = at_client (w.clients x) (packet w p)
call_with w (outside (open·lease t span)) a = at_client none none
call_with w (outside (renew x t span)) a = at_client none none
call_with w (outside (query x t)) a = at_client none none

unfoldable pub call_seen : World → Event → Call
call_seen w e = call_with w e (done w e).answer

-- `ok`: it keeps the provisos
pub record Seen : Type 0 where
  pub ok : Bool
  pub call : Call

unfoldable pub seen_with : List ℕ → World → Event → Option Answer → Seen
seen_with plan w e a = record { ok = typed_ok e && keeps_ok plan w e; call = call_with w e a }

unfoldable pub seen_at : List ℕ → World → Event → Seen
seen_at plan w e = seen_with plan w e (done w e).answer

-- an operation that was answered: its server ran, and what it names was made
pub record Answered (l : Lent) (s : Server) (h : Option Operation) (a : Answer) : Type 0 where
  pub stored : Stored
  pub state : List ℕ
  pub log : List ℕ
  pub up : s ≡ running stored state log
  pub operation : Operation
  pub handed : h ≡ some operation
  pub answer : (operated operation (lent_state l state) (lent_log l log) l.out).answer ≡ a

-- a request, if it is one, has the packet b
unfoldable pub requests_only : List ℕ → Operation → Bool
requests_only b (request v p) = same_bytes p b
requests_only b (fetch v x c) = true
requests_only b (sync m) = true
requests_only b (notice p) = true
requests_only b (give p d) = true
requests_only b (image v p) = true
requests_only b (take_in p) = true
requests_only b (receipt p) = true
requests_only b (release p) = true

unfoldable pub asks_only : List ℕ → Seen → Bool
asks_only b r = elim r.call.operation [ none ↦ true | some o ↦ requests_only b o ]

-- ---- the end

-- a server: not founded; running, with what is in force, a point and heard time; with a checkpoint to be stored; crashed, with what is in force,
-- the bytes kept and the mark
pub data Stands : Type 0 where
  off : Stands
  up : Stored → Point → ℕ → Stands
  saving : Stands
  down : Stored → List ℕ → ℕ → Stands

unfoldable pub stands_at : ℕ → Server → Stands
stands_at p nothing = off
stands_at p (running k state log) = let st = load state in up k (point_at st p) st.heard
stands_at p (storing k log next state tail) = saving
stands_at p (crashed k kept mark) = down k kept mark

-- servers 0 and 1
pub record Ended : Type 0 where
  pub first : Stands
  pub second : Stands

unfoldable pub end_seen : ℕ → World → Ended
end_seen p w = record { first = stands_at p (w.servers 0); second = stands_at p (w.servers 1) }

-- ---- the run

pub record Trace : Type 0 where
  pub rows : List Seen
  pub end : Ended

unfoldable pub trace_from : List ℕ → ℕ → World → List Event → Trace
trace_from plan p w [] = record { rows = []; end = end_seen p w }
trace_from plan p w (e ∷ es) =
    let d = done w e in
    let t = trace_from plan p d.world es in
    record { rows = seen_with plan w e d.answer ∷ t.rows; end = t.end }

-- ---- crashes

-- a crash of server c keeps k bytes or more, counted from the founding
unfoldable pub keeps_many : ℕ → ℕ → Seen → Bool
keeps_many c k r = elim r.call.cut [ none ↦ true | some x ↦ not (eqb x.server c) || leb k x.reach ]

-- ---- servers that no event names

-- its server, where it has one, has a number below k
unfoldable pub below : ℕ → Event → Bool
below k (found c state log p n) = ltb c k
below k (call c o l) = ltb c k
below k (inquire c i l) = ltb c k
below k (recover c state log p) = ltb c k
below k (checkpoint c v tail l) = ltb c k
below k (store c) = ltb c k
below k (recover·tail c state n tail) = ltb c k
below k (crash c b) = ltb c k
below k (outside e) = true
