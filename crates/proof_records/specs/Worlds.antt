-- When the protocol's world is the world of states and log records. Servers are spoken of by what is kept of them, not by their cases.
-- Assumes nothing.
use Rattle.std.specs.Prelude.{ℕ, ◌≤◌, ◌≡◌, true, false}
use mathlib.Core.List.{List, Memᴰ}
use Rattle.std.proofs.Math.Option.{none, some}
use Rattle.model.specs.declared.PlanEntry.{PlanEntry}
use Rattle.model.specs.declared.Client.{Client}
use Rattle.model.specs.Limits.{last_server, head_size}
use Rattle.model.specs.States.{State}
use Rattle.model.specs.Apply.{replay, with_mark}
use Rattle.model_laws.specs.ClientForm.{WellFormed}
use Rattle.model_laws.specs.LeaseForm as Leases
use Rattle.model_invariants.specs.History.{GoodPlan}
use Rattle.proof_protocol.specs.World as W
use Rattle.proof_protocol.specs.Allowed.{Made}
use Rattle.claim.specs.RecordWorld.{World, Server, Log, running, kept_by}
use Rattle.claim.specs.RecordProvisos.{mark_of, length_of}
use Rattle.proof_records.specs.Likeness.{Pair, entries_in, abstract_in, place_of, Chain}
use Rattle.proof_records.specs.Made.{PacketLike}

-- the server runs
unfoldable pub Running : Server → State → Log → Type 0
Running s st log = s ≡ running st log

-- server c's log: `size` bytes of it are there, and `mark` of them synced
pub record LogLike (plan : List PlanEntry) (c : ℕ) (log : Log) (mark size : ℕ) (v : W.Server) : Type 0 where
  pub pairs : List Pair
  pub founded : v.founded ≡ true
  pub same : v.log ≡ abstract_in pairs
  pub marked : v.mark ≡ place_of pairs mark
  pub good : GoodPlan plan
  pub server : c ≤ last_server
  pub number : log.number ≡ c
  pub entries : log.entries ≡ entries_in pairs
  pub chain : Chain plan c pairs
  pub head : head_size ≤ mark
  pub synced : mark ≤ size
  pub within : (replay plan c (entries_in pairs)).size ≤ size

-- a running server's state is the replay of its log, with its mark
pub record Replayed (plan : List PlanEntry) (c : ℕ) (st : State) (log : Log) : Type 0 where
  pub is : st ≡ with_mark st.mark (replay plan c log.entries)

pub record ServerLike (plan : List PlanEntry) (c : ℕ) (s : Server) (v : W.Server) : Type 0 where
  pub absent : kept_by s ≡ none → v.founded ≡ false
  pub kept : (log : Log) → kept_by s ≡ some log → LogLike plan c log (mark_of s) (length_of s) v
  pub state : (st : State) (log : Log) → Running s st log → Replayed plan c st log

-- a started client is well formed and stands under its own number
pub record Started (x : ℕ) (d : Client) : Type 0 where
  pub well : WellFormed d
  pub own : d.client ≡ x

pub record WorldLike (plan : List PlanEntry) (w : World) (v : W.World) : Type 0 where
  pub servers : (c : ℕ) → ServerLike plan c (w.servers c) (v.servers c)
  pub clients : (x : ℕ) → w.clients x ≡ v.clients x
  pub manager : w.manager ≡ v.manager
  pub made : (b : List ℕ) → Memᴰ b w.made → PacketLike (Made v) b
  -- the parties' own invariants
  pub started : (x : ℕ) (d : Client) → w.clients x ≡ some d → Started x d
  pub leases : Leases.WellFormed w.manager
