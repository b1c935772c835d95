-- A packet or image stays what it was made as.
--     Keeps, step_keeps    in the world after an event
--     packet-stays         in every later world
-- Assumes nothing.
use Prim.Native.Nat.{ℕ, zero, suc}
use mathlib.Core.Path.{◌≡◌, refl}
use mathlib.Core.List.{List, [], ◌∷◌, ◌++◌}
use mathlib.Core.Option.{Option, none, some}
use lib.Dec.{eqb}
use lib.ListN.{take, get_elem?}
use Rattle.std.specs.Prelude.{Result, Ok, Err}
use Rattle.model.specs.declared.Refusal.{Refusal}
use Rattle.model.specs.declared.Client.{Client}
use Rattle.model.specs.declared.SendAnswer.{SendAnswer}
use Rattle.model.specs.declared.StartAnswer.{StartAnswer}
use Rattle.model.specs.Refusals.{no_refusal}
use Rattle.model.specs.Versions.{Versions}
use Rattle.model.specs.Clients.{start_of}
use Rattle.model.specs.Operations.{After}
use Rattle.model.specs.Checkpoints.{checkpoint_of}
use Rattle.model.specs.Calls.{Operation, operated, handed}
use Rattle.model_laws.proofs.Tests.{choose, impossible}
use Rattle.claim.specs.World.{World, WorldOf, Stored, Server, nothing, running, storing, crashed, Lent, lent_state, lent_log, Event, found, call, inquire, recover, crash}
use Rattle.claim.specs.World.{checkpoint, store, recover·tail, outside, checkpoints, stores, OutsideCall}
use Rattle.claim.specs.World.{start, issue, resend, receive, open·lease, renew, query, with_server, with_client, with_manager, making, calls, calls_on, found_as, crash_at, starts_as, starts_on}
use Rattle.claim.specs.World.{sends, receives, told, packet, outside_step, step, empty_world, run_from, run, after}

-- each packet of w is one of v, under its number
abbrev pub Keeps : {S : Type 0} → WorldOf S → WorldOf S → Type 0
Keeps w v = (i : ℕ) (b : List ℕ) → packet w i ≡ some b → packet v i ≡ some b

still_there : (l k : List (List ℕ)) (i : ℕ) (b : List ℕ) → get_elem? l i ≡ some b → get_elem? (l ++ k) i ≡ some b
still_there [] k i b e = impossible cc
still_there (x ∷ l) k zero b e = e
still_there (x ∷ l) k (suc i) b e = still_there l k i b e

making-keeps : {S : Type 0} (b : List ℕ) (w : WorldOf S) → Keeps w (making b w)
unfolding making packet
making-keeps [] w i g e = e
making-keeps (x ∷ b) w i g e = still_there w.made _ i g e

-- ---- servers

calls-keeps : (c : ℕ) (l : Lent) (f : List ℕ → List ℕ → After) (s : Server) (w : World) → Keeps w (calls c l f s w)
unfolding calls
calls-keeps c l f nothing w i b e = e
calls-keeps c l f (running k state log) w i b e = making-keeps _ _ i b (unfold with_server packet in e)
calls-keeps c l f (storing k log next state tail) w i b e = e
calls-keeps c l f (crashed k log mark) w i b e = e

on_keeps : (c : ℕ) (l : Lent) (o : Option Operation) (w : World) → Keeps w (calls_on c l o w)
unfolding calls_on
on_keeps c l none w i b e = e
on_keeps c l (some o) w i b e = calls-keeps c l (λ s g. operated o s g l.out) (w.servers c) w i b e

found-keeps : (c : ℕ) (k : Stored) (a : After) (w : World) → Keeps w (found_as c k a w)
unfolding found_as with_server packet
found-keeps c k a w i b e = choose (λ (v : World). packet v i ≡ some b) (eqb a.answer.refusal no_refusal) (λ _. e) (λ _. e)

crash-keeps : (c k : ℕ) (s : Server) (w : World) → Keeps w (crash_at c k s w)
unfolding crash_at with_server packet
crash-keeps c k nothing w i b e = e
crash-keeps c n (running k state log) w i b e = e
crash-keeps c n (storing k log next state tail) w i b e = e
crash-keeps c n (crashed k log mark) w i b e = e

checkpoint-keeps : (c : ℕ) (v : Versions) (t : List ℕ) (l : Lent) (s : Server) (w : World) → Keeps w (checkpoints c v t l s w)
unfolding checkpoints with_server packet
checkpoint-keeps c v t l nothing w i b e = e
checkpoint-keeps c v t l (running k state log) w i b e =
    choose (λ (u : World). packet u i ≡ some b) (eqb (checkpoint_of v (lent_state l state) (lent_log l log) l.out t).answer.refusal no_refusal) (λ _. e) (λ _. e)
checkpoint-keeps c v t l (storing k log next state tail) w i b e = e
checkpoint-keeps c v t l (crashed k log mark) w i b e = e

store_keeps : (c : ℕ) (s : Server) (w : World) → Keeps w (stores c s w)
unfolding stores with_server packet
store_keeps c nothing w i b e = e
store_keeps c (running k state log) w i b e = e
store_keeps c (storing k log next state tail) w i b e = e
store_keeps c (crashed k log mark) w i b e = e

-- ---- clients and the lease manager

sends-keeps : {S : Type 0} (x : ℕ) (f : Client → SendAnswer) (o : Option Client) (w : WorldOf S) → Keeps w (sends x f o w)
unfolding sends
sends-keeps x f none w i b e = e
sends-keeps x f (some d) w i b e = making-keeps _ _ i b (unfold with_client packet in e)

receives-keeps : {S : Type 0} (x : ℕ) (o : Option Client) (p : Option (List ℕ)) (w : WorldOf S) → Keeps w (receives x o p w)
unfolding receives with_client packet
receives-keeps x none p w i b e = e
receives-keeps x (some d) none w i b e = e
receives-keeps x (some d) (some g) w i b e = e

as_keeps : {S : Type 0} (a : StartAnswer) (s : Result Unit Refusal) → a.answer ≡ s → (w : WorldOf S) → Keeps w (starts_as a w)
unfolding starts_as with_client packet
as_keeps a (Err k) q w i b e = rw q e
as_keeps a (Ok tt) q w i b e = rw q e

starts-keeps : {S : Type 0} (o : Option (List ℕ)) (w : WorldOf S) → Keeps w (starts_on o w)
unfolding starts_on
starts-keeps none w i b e = e
starts-keeps (some g) w i b e = as_keeps (start_of g) (start_of g).answer refl w i b e

outside-keeps : {S : Type 0} (w : WorldOf S) (o : OutsideCall) → Keeps w (outside_step w o)
unfolding outside_step told
outside-keeps w (start p) i b e = starts-keeps (packet w p) w i b e
outside-keeps w (issue x op p a) i b e = sends-keeps x _ (w.clients x) w i b e
outside-keeps w (resend x c) i b e = sends-keeps x _ (w.clients x) w i b e
outside-keeps w (receive x p) i b e = receives-keeps x (w.clients x) (packet w p) w i b e
outside-keeps w (open·lease t span) i b e = making-keeps _ _ i b (unfold with_manager packet in e)
outside-keeps w (renew x t span) i b e = making-keeps _ _ i b (unfold with_manager packet in e)
outside-keeps w (query x t) i b e = making-keeps _ _ i b (unfold with_manager packet in e)

-- ---- a run

pub step_keeps : (w : World) (e : Event) → Keeps w (step w e)
unfolding step
step_keeps w (found c state log plan n) = found-keeps _ _ _ w
step_keeps w (call c o l) = on_keeps c l (handed (packet w) o) w
step_keeps w (inquire c k l) = calls-keeps c l _ (w.servers c) w
step_keeps w (recover c state log plan) = found-keeps _ _ _ w
step_keeps w (checkpoint c v tail l) = checkpoint-keeps c v tail l (w.servers c) w
step_keeps w (store c) = store_keeps c (w.servers c) w
step_keeps w (recover·tail c state k tail) = found-keeps _ _ _ w
step_keeps w (crash c k) = crash-keeps c k (w.servers c) w
step_keeps w (outside o) = outside-keeps w o

from-keeps : (w : World) (es : List Event) (n : ℕ) → Keeps (run_from w (take n es)) (run_from w es)
unfolding run_from
from-keeps w [] zero i b e = e
from-keeps w [] (suc n) i b e = e
from-keeps w (x ∷ es) zero i b e = from-keeps (step w x) es zero i b (step_keeps w x i b e)
from-keeps w (x ∷ es) (suc n) i b e = from-keeps (step w x) es n i b e

pub packet-stays : (es : List Event) (n i : ℕ) (b : List ℕ) → packet (after es n) i ≡ some b → packet (run es) i ≡ some b
unfolding after run
packet-stays es n = from-keeps empty_world es n
