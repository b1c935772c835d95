-- Servers over records, by what is kept of them (only here their cases are seen); changes of one part of both worlds keep them alike.
--     running-kept, running-same, or-not     a running server: its log, mark and length; every server runs or does not
--     calls-up, calls-down     a call of a server that runs, and of one that does not
--     crash-kept, crash-none   a crash of a server that has a log, and of one that has none
--     like-nothing, like-running, like-crashed     when a server is the protocol's
--     given_either, given-kept, synced-kept     the state that counts, and the one of the synced records
--     like-same, idle-step     nothing changes for the protocol
--     like-server, like-server-same, like-tells, like-making     a server; what it makes
--     like-client, like-client-same, like-leases, like-manager-same     a client, the lease manager
-- Assumes nothing.
use Prim.Native.Nat.{ℕ, ◌≤◌}
use mathlib.Core.Path.{◌≡◌, refl, sym, ◌∙◌, subst, ap}
use mathlib.Core.Bool.{false, Bool, true}
use mathlib.Core.List.Memᴰ
use mathlib.Core.List.{List, [], ◌∷◌, Memᴰ}
use mathlib.Core.Logic.{◌⊎◌, inl, inr}
use mathlib.Core.Option.{none, some, Option}
use native.Mathlib.Omega.{arith}
use Rattle.model.specs.declared.PlanEntry.{PlanEntry}
use Rattle.model.specs.Limits.{head_size}
use Rattle.model.specs.Apply.{replay}
use Rattle.model.specs.States.{State}
use Rattle.model.specs.Decisions.{Decided}
use Rattle.proof_protocol.specs.World as W
use Rattle.claim.specs.World.{with_server, making, with_client, with_manager}
use Rattle.claim.specs.RecordWorld.{World, Event, Server, Log, nothing, running, crashed, kept_by, call_of, calls, cut_at, crash_at, recovered_from, step}
use Rattle.claim.specs.RecordProvisos.{mark_of, length_of}
use Rattle.claim.specs.RecordClaim.{state_given}
use Rattle.claim.specs.RecordFence.{synced_state}
use Rattle.proof_records.specs.Likeness.{entries_in, place_of}
use Rattle.proof_records.specs.Worlds.{Running, LogLike, Replayed, ServerLike, Started, WorldLike}
use lib.Dec.{eqb}
use borrow.Author.Tests.{eqb-true}
use Rattle.model.specs.declared.Client.{Client}
use Rattle.model.specs.declared.LeaseManager.{LeaseManager}
use Rattle.model.specs.Choice.{pick}
use Rattle.model_laws.specs.LeaseForm as Leases
use Rattle.proof_protocol.specs.Servers.{Packet}
use Rattle.proof_protocol.specs.Allowed.{Made}
use Rattle.proof_protocol.specs.Allowed as P
use Rattle.proof_protocol.proofs.Basics.{changed-cases, last-cases}
use Rattle.proof_records.specs.Made.{PacketLike}
use Rattle.proof_records.specs.Matched.{Quiet, other, Stepped}
use Rattle.proof_records.proofs.Made.{like-more}

pub running-kept : (s : Server) (st : State) (log : Log) → Running s st log → (kept_by s ≡ some log) × (mark_of s ≡ st.mark) × (length_of s ≡ st.size)
unfolding Running kept_by mark_of length_of
running-kept s st log e = rw e (refl, refl, refl)

pub running-same : (s : Server) (st x : State) (log g : Log) → Running s st log → Running s x g → (st ≡ x) × (log ≡ g)
unfolding Running
running-same s st x log g e f = let k : running st log ≡ running x g = sym e ∙ f in (cc, cc)

pub or-not : (s : Server) → ((st : State) × ((log : Log) × Running s st log)) ⊎ ((st : State) (log : Log) → Running s st log → ⊥)
unfolding Running
or-not nothing = inr (λ st log e. let z : ◌≡◌ {A = ℕ} 0 1 = cc in omega arith)
or-not (running st log) = inl (st, (log, refl))
or-not (crashed log k mark) = inr (λ st log e. let z : ◌≡◌ {A = ℕ} 0 1 = cc in omega arith)

module _ (c : ℕ) (w : World) where
  pub calls-up : (room : ℕ) (d : State → ℕ → Decided) (s : Server) (st : State) (log : Log) → Running s st log
      → calls c room d s w ≡ making (call_of st log room d).made (with_server c (running (call_of st log room d).state (call_of st log room d).log) w)
  unfolding Running calls
  calls-up room d s st log e = rw e

  pub calls-down : (room : ℕ) (d : State → ℕ → Decided) (s : Server) → ((st : State) (log : Log) → Running s st log → ⊥) → calls c room d s w ≡ w
  unfolding Running calls
  calls-down room d nothing n = refl
  calls-down room d (running st log) n = absurd (n st log refl)
  calls-down room d (crashed log k mark) n = refl

  pub crash-kept : (k : ℕ) (s : Server) (log : Log) → kept_by s ≡ some log → crash_at c k s w ≡ with_server c (crashed (cut_at k log) k (mark_of s)) w
  unfolding kept_by crash_at mark_of
  crash-kept k nothing log e = let z : ◌≡◌ {A = ℕ} 0 1 = cc in absurd (omega arith)
  crash-kept k (running st log) g e = let q : log ≡ g = cc in rw q
  crash-kept k (crashed log n mark) g e = let q : log ≡ g = cc in rw q

  pub crash-none : (k : ℕ) (s : Server) → kept_by s ≡ none → crash_at c k s w ≡ w
  unfolding kept_by crash_at
  crash-none k nothing e = refl
  crash-none k (running st log) e = let z : ◌≡◌ {A = ℕ} 0 1 = cc in absurd (omega arith)
  crash-none k (crashed log n mark) e = let z : ◌≡◌ {A = ℕ} 0 1 = cc in absurd (omega arith)

module _ {plan : List PlanEntry} {c : ℕ} {v : W.Server} where
  pub like-nothing : v.founded ≡ false → ServerLike plan c nothing v
  unfolding Running kept_by
  like-nothing f =
      record {
        absent = λ e. f;
        kept = λ log e. let z : ◌≡◌ {A = ℕ} 0 1 = cc in absurd (omega arith);
        state = λ st log e. let z : ◌≡◌ {A = ℕ} 0 1 = cc in absurd (omega arith);
      }

  pub like-running : (st : State) (log : Log) → LogLike plan c log st.mark st.size v → Replayed plan c st log → ServerLike plan c (running st log) v
  unfolding Running kept_by mark_of length_of
  like-running st log K E =
      record {
        absent = λ e. let z : ◌≡◌ {A = ℕ} 0 1 = cc in absurd (omega arith);
        kept = λ g e. let q : log ≡ g = cc in subst (λ (x : Log). LogLike plan c x st.mark st.size v) q K;
        state = λ x g e. let p : st ≡ x = cc in let q : log ≡ g = cc in subst (λ (y : State). Replayed plan c y g) p (subst (Replayed plan c st) q E);
      }

  pub like-crashed : (log : Log) (k mark : ℕ) → LogLike plan c log mark k v → ServerLike plan c (crashed log k mark) v
  unfolding Running kept_by mark_of length_of
  like-crashed log k mark K =
      record {
        absent = λ e. let z : ◌≡◌ {A = ℕ} 0 1 = cc in absurd (omega arith);
        kept = λ g e. let q : log ≡ g = cc in subst (λ (x : Log). LogLike plan c x mark k v) q K;
        state = λ st g e. let z : ◌≡◌ {A = ℕ} 0 1 = cc in absurd (omega arith);
      }

-- the same log, with another mark and length
pub log-marked : {plan : List PlanEntry} {c : ℕ} {log : Log} {m n : ℕ} {x : W.Server} (K : LogLike plan c log m n x) (t mark size : ℕ) → head_size ≤ mark → mark ≤ size
    → (replay plan c (entries_in K.pairs)).size ≤ size → LogLike plan c log mark size (W.server_after t x (W.syncs (place_of K.pairs mark)))
unfolding W.server_after
log-marked K t mark size h s w =
    record {
      pairs = K.pairs;
      founded = K.founded;
      same = K.same;
      marked = refl;
      good = K.good;
      server = K.server;
      number = K.number;
      entries = K.entries;
      chain = K.chain;
      head = h;
      synced = s;
      within = w;
    }

-- ---- states that count

module _ (plan : List ℕ) where
  -- a server that counts: it runs, or it has a log that recovery is tried on
  pub given_either : (s : Server) (st : State) → state_given plan s ≡ some st
      → ((log : Log) × Running s st log) ⊎ ((log : Log) × (kept_by s ≡ some log) × (recovered_from plan log ≡ some st))
  unfolding Running state_given kept_by
  given_either nothing st e = let z : ◌≡◌ {A = ℕ} 0 1 = cc in absurd (omega arith)
  given_either (running x log) st e = inl (log, (let q : x ≡ st = cc in rw q))
  given_either (crashed log k mark) st e = inr (log, refl, e)

  -- what is kept counts
  pub given-kept : (s : Server) (log : Log) → kept_by s ≡ some log → ((st : State) × (recovered_from plan log ≡ some st)) → (st : State) × (state_given plan s ≡ some st)
  unfolding state_given kept_by
  given-kept nothing log e r = let z : ◌≡◌ {A = ℕ} 0 1 = cc in absurd (omega arith)
  given-kept (running st g) log e r = (st, refl)
  given-kept (crashed g k mark) log e r = let q : g ≡ log = cc in rw q r

  -- what is synced is what a crash at the mark would keep
  pub synced-kept : (s : Server) (st : State) → synced_state plan s ≡ some st → (log : Log) × (kept_by s ≡ some log) × (recovered_from plan (cut_at (mark_of s) log) ≡ some st)
  unfolding synced_state kept_by mark_of
  synced-kept nothing st e = let z : ◌≡◌ {A = ℕ} 0 1 = cc in absurd (omega arith)
  synced-kept (running x log) st e = (log, refl, e)
  synced-kept (crashed log k mark) st e = (log, refl, e)

module _ {plan : List PlanEntry} {w : World} {v : W.World} (l : WorldLike plan w v) where
  pub like-same : WorldLike plan w (W.step v W.same)
  unfolding W.step
  like-same = record { servers = l.servers; clients = l.clients; manager = l.manager; made = l.made; started = l.started; leases = l.leases }

  -- an event that changes nothing
  pub idle-step : (e : Event) → step w e ≡ w → Quiet w e → Stepped plan w v e
  idle-step e q h = record { change = W.same; allowed = P.nothing; like = rw q like-same; matched = other e W.same h tt }

  pub like-tells : (c : ℕ) (p : Packet) → WorldLike plan w (W.step v (W.tells c p))
  unfolding W.step
  like-tells c p =
      record {
        servers = l.servers;
        clients = l.clients;
        manager = l.manager;
        made = λ b m. like-more (λ q k. Memᴰ.tail k) (l.made b m);
        started = l.started;
        leases = l.leases;
      }

  pub like-server : (c : ℕ) (s : Server) (k : W.ServerChange) → ServerLike plan c s (W.server_after v.clock (v.servers c) k) → WorldLike plan (with_server c s w) (W.step v (W.server c k))
  unfolding with_server W.step
  like-server c s k h =
      record { servers = λ d. go d (eqb d c) refl; clients = l.clients; manager = l.manager; made = l.made; started = l.started; leases = l.leases }
    where
      go : (d : ℕ) (b : Bool) → eqb d c ≡ b → ServerLike plan d (pick b s (w.servers d)) (pick b (W.server_after v.clock (v.servers c) k) (v.servers d))
      go d true e = rw (eqb-true d c e) h
      go d false e = l.servers d

  -- the server is as it was there
  pub like-server-same : (c : ℕ) (s : Server) → ServerLike plan c s (v.servers c) → WorldLike plan (with_server c s w) v
  unfolding with_server
  like-server-same c s k =
      record {
        servers = λ d. changed-cases (λ b y. ServerLike plan b y (v.servers b)) w.servers c s k (λ b n. l.servers b) d;
        clients = l.clients;
        manager = l.manager;
        made = l.made;
        started = l.started;
        leases = l.leases;
      }

  pub like-making : (b : List ℕ) → PacketLike (Made v) b → WorldLike plan (making b w) v
  unfolding making
  like-making [] k = l
  like-making (x ∷ b) k =
      record { servers = l.servers; clients = l.clients; manager = l.manager; made = λ y m. go y (last-cases w.made m); started = l.started; leases = l.leases }
    where
      go : (y : List ℕ) → (y ≡ x ∷ b) ⊎ Memᴰ y w.made → PacketLike (Made v) y
      go y (inl e) = rw e k
      go y (inr m) = l.made y m

  started-at : (x : ℕ) (d : Client) → Started x d → (y : ℕ) (e : Client) → pick (eqb y x) (some d) (w.clients y) ≡ some e → Started y e
  started-at x d s y =
      changed-cases (λ (b : ℕ) (o : Option Client). (e : Client) → o ≡ some e → Started b e) w.clients x (some d) (λ e q. let z : d ≡ e = cc in subst (Started x) z s)
      (λ b n e q. l.started b e q) y

  pub like-client : (x : ℕ) (k : W.ClientChange) → Started x (W.client_after x k) → WorldLike plan (with_client x (W.client_after x k) w) (W.step v (W.client x k))
  unfolding with_client W.step
  like-client x k s =
      record {
        servers = l.servers;
        clients = λ y. ap (pick (eqb y x) (some (W.client_after x k))) (l.clients y);
        manager = l.manager;
        made = λ b m. like-more (λ q h. Memᴰ.append_right (W.made_by k) h) (l.made b m);
        started = started-at x (W.client_after x k) s;
        leases = l.leases;
      }

  pub like-client-same : (x : ℕ) (d : Client) → w.clients x ≡ some d → WorldLike plan (with_client x d w) v
  unfolding with_client
  like-client-same x d e =
      record {
        servers = l.servers;
        clients = λ y. changed-cases (λ b k. k ≡ v.clients b) w.clients x (some d) (sym e ∙ l.clients x) (λ b n. l.clients b) y;
        manager = l.manager;
        made = l.made;
        started = started-at x d (l.started x d e);
        leases = l.leases;
      }

  pub like-leases : (m : LeaseManager) (p : Packet) → Leases.WellFormed m → WorldLike plan (with_manager m w) (W.step v (W.leases m p))
  unfolding with_manager W.step
  like-leases m p h =
      record {
        servers = l.servers;
        clients = l.clients;
        manager = refl;
        made = λ b k. like-more (λ q i. Memᴰ.tail i) (l.made b k);
        started = l.started;
        leases = h;
      }

  pub like-manager-same : WorldLike plan (with_manager w.manager w) v
  unfolding with_manager
  like-manager-same = record { servers = l.servers; clients = l.clients; manager = l.manager; made = l.made; started = l.started; leases = l.leases }
