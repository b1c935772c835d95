-- The relation: when a change may happen, by what it rests on.
-- Assumes nothing.
use Rattle.std.specs.Prelude.{ℕ, suc, ◌+◌, ◌≤◌, ◌<◌, max, ◌≡◌, true, false, length}
use mathlib.Core.List.{List, [], ◌∷◌, Memᴰ}
use Rattle.std.proofs.Math.Option.{none, some}
use Rattle.model.specs.declared.Client.{Client}
use Rattle.model.specs.declared.Lease.{Lease}
use Rattle.model.specs.declared.LeaseManager.{LeaseManager}
use Rattle.model.specs.Limits.{point_count}
use Rattle.model.specs.Tables.{every}
use Rattle.model.specs.Images.{floor_of}
use Rattle.model.specs.Versions.{Version}
use Rattle.model.specs.Clients.{is_open, is_own}
use Rattle.model.specs.Leases.{running_at, lease_end, is_taken, with_new_lease, extended}
use Rattle.proof_protocol.specs.Servers.{Plan, rule_at, Id, id_of, Result, Completion, Image, LogRecord, State, Holding, held, given, Asked, Packet, image_for, executed, gone, gave, took, freed, request, answered, receipt, notice, grant, image}
use Rattle.proof_protocol.specs.World.{World, state_of, Change, same, server, tells, client, leases, founds, writes, syncs, crashes, starts, issues, resends, receives, relets, step}

abbrev pub Made : World → Packet → Type 0
Made w p = Memᴰ p w.made

-- a given point
pub record Given (h : Holding) : Type 0 where
  pub destination : ℕ
  pub place : ℕ
  pub is : h ≡ given destination place

-- ---- what is written, and why

pub data Written (plan : Plan) (self : ℕ) (s : State) (Made : Packet → Type 0) : LogRecord → Type 0 where
  -- the point is held, the lease end is after heard time, the call is not under the floor, no completion record has its id, and the answer is
  -- the rule's on the point's value
  executing : (v : Version) (q : Asked) (x : Result) → Made (request q) → (s.points q.cmd.point).holding ≡ held → s.heard < q.lease
      → floor_of q.cmd.client s.floors ≤ q.cmd.call → ((r : Completion) → Memᴰ r s.records → r.id ≡ id_of q.cmd → ⊥)
      → x.answer ≡ rule_at plan v q.cmd (s.points q.cmd.point).value → Written plan self s Made (executed v q.cmd q.done x)
  going : (x time : ℕ) → Made (notice x time) → Written plan self s Made (gone x time)
  giving : (p d : ℕ) → (s.points p).holding ≡ held → Written plan self s Made (gave p d (suc (s.points p).move))
  taking : (i : Image) → Made (image i) → i.destination ≡ self → (s.points i.point).move < i.move
      → ((s.points i.point).holding ≡ held → ⊥) → Written plan self s Made (took i)
  freeing : (p c m : ℕ) → Made (receipt p c m) → Given (s.points p).holding → (s.points p).move ≤ m
      → Written plan self s Made (freed p (s.points p).move)

-- ---- what is told, and why: it is synced

pub data Told (self mark : ℕ) (s : State) : Packet → Type 0 where
  repeating : (r : Completion) → Memᴰ r s.records → r.place ≤ mark → Told self mark s (answered r.id r.point r.res)
  -- rs: just the completion records of the point
  imaging : (p : ℕ) (g : Given (s.points p).holding) (rs : List Completion) → g.place ≤ mark
      → ((r : Completion) → Memᴰ r rs → Memᴰ r s.records × (r.point ≡ p))
      → ((r : Completion) → Memᴰ r s.records → r.point ≡ p → Memᴰ r rs) → Told self mark s (image (image_for s p g.destination rs))
  receipting : (p : ℕ) → Told self mark s (receipt p self (s.points p).taken)

-- ---- what the lease manager tells, and what it is then

-- at a time not before its own; leases that have ended are gone
abbrev managed : ℕ → ℕ → List Lease → LeaseManager
managed now n ls = record { time = now; issued = n; leases = ls }

pub data Leased (m : LeaseManager) : LeaseManager → Packet → Type 0 where
  opens : (now span : ℕ) → m.time ≤ now → every is_taken (running_at now m.leases) ≡ false
      → Leased m
      (managed now (suc m.issued) (with_new_lease (record { client = suc m.issued; lease = now + span }) (running_at now m.leases)))
      (grant (suc m.issued) (now + span))
  renews : (x now span : ℕ) → m.time ≤ now → (lease_end x (running_at now m.leases) ≡ 0 → ⊥)
      → Leased m
      (managed now m.issued (extended x (max (lease_end x (running_at now m.leases)) (now + span)) (running_at now m.leases)))
      (grant x (max (lease_end x (running_at now m.leases)) (now + span)))
  regrants : (x now : ℕ) → m.time ≤ now → (lease_end x (running_at now m.leases) ≡ 0 → ⊥)
      → Leased m (managed now m.issued (running_at now m.leases)) (grant x (lease_end x (running_at now m.leases)))
  notices : (x now : ℕ) → m.time ≤ now → lease_end x (running_at now m.leases) ≡ 0 → (x ≡ 0 → ⊥) → x ≤ m.issued
      → Leased m (managed now m.issued (running_at now m.leases)) (notice x now)

-- ---- the relation

pub data Allowed (plan : Plan) (w : World) : Change → Type 0 where
  nothing : Allowed plan w same
  founding : (c : ℕ) → (w.servers c).founded ≡ false → Allowed plan w (server c founds)
  writing : (c : ℕ) (r : LogRecord) (n : ℕ) → (w.servers c).founded ≡ true → Written plan c (state_of plan w c) (Made w) r
      → Allowed plan w (server c (writes r n))
  -- a recovery syncs all that is kept
  syncing : (c m : ℕ) → (w.servers c).founded ≡ true → (w.servers c).mark ≤ m → m ≤ length (w.servers c).log
      → Allowed plan w (server c (syncs m))
  -- a crash keeps a prefix not shorter than the synced part
  crashing : (c j : ℕ) → (w.servers c).founded ≡ true → (w.servers c).mark + j ≤ length (w.servers c).log
      → Allowed plan w (server c (crashes j))
  telling : (c : ℕ) (p : Packet) → (w.servers c).founded ≡ true → Told c (w.servers c).mark (state_of plan w c) p → Allowed plan w (tells c p)
  -- each client number starts one client, once
  starting : (x t : ℕ) → Made w (grant x t) → w.clients x ≡ none → Allowed plan w (client x (starts t))
  issuing : (x : ℕ) (d : Client) (o p a : ℕ) → w.clients x ≡ some d → p < point_count → Allowed plan w (client x (issues d o p a))
  resending : (x : ℕ) (d : Client) (k : ℕ) → w.clients x ≡ some d → is_open d k ≡ true → Allowed plan w (client x (resends d k))
  receiving : (x : ℕ) (d : Client) (i : Id) (p : ℕ) (r : Result) → w.clients x ≡ some d → Made w (answered i p r)
      → is_own d i.client i.call p ≡ true → Allowed plan w (client x (receives d i p r))
  reletting : (x : ℕ) (d : Client) (t : ℕ) → w.clients x ≡ some d → Made w (grant d.client t) → Allowed plan w (client x (relets d t))
  leasing : (m : LeaseManager) (p : Packet) → Leased w.manager m p → Allowed plan w (leases m p)

-- a run: each change may happen in the world before it
pub data Run (plan : Plan) : World → List Change → Type 0 where
  ended : {w : World} → Run plan w []
  then : {w : World} {c : Change} {cs : List Change} → Allowed plan w c → Run plan (step w c) cs → Run plan w (c ∷ cs)
