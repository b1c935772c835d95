-- Two further promises, under the provisos of demand 3. A command is executed only after it was issued. And the fence: once a server that has a
-- point open has a synced heard time not under that of a client's notice, no command of that client is executed on that point any more, at
-- any server, whatever crashes and moves follow. Neither speaks of the order; whoever hands a duty from one client (paper: desk) to another rests on both.
-- Assumes nothing.
use Rattle.std.specs.Prelude.{ℕ, ◌≤◌, ◌<◌, ◌≡◌, true, List, [], ◌∷◌, take, Some}
use Rattle.std.proofs.Math.Option.{Option, some}
use Rattle.model.specs.declared.Command.{Command}
use Rattle.model.specs.declared.Notice.{Notice}
use Rattle.model.specs.declared.Packet.TheVariants.{Noticed}
use Rattle.model.specs.Sequential.{Marked}
use Rattle.model.specs.Packets.{parse_packet}
use Rattle.model.specs.States.{State, load, point_at, is_held}
use Rattle.claim.specs.World.{Event, WorldOf, Server, nothing, running, storing, crashed, stored_of, after, packet}
use Rattle.claim.specs.Provisos.{Provisos}
use Rattle.claim.specs.Claim.{Issues, Executes, recovered_by, state_given}

-- ---- of any run: servers of type S

-- a notice of client x with this time was made
pub record NoticedIn {S : Type 0} (w : WorldOf S) (x time : ℕ) : Type 0 where
  pub number : ℕ
  pub bytes : List ℕ
  pub made : packet w number ≡ some bytes
  pub notice : Notice
  pub parsed : parse_packet bytes ≡ Some (Noticed notice)
  pub client : notice.client ≡ x
  pub at : notice.time ≡ time

-- client x is fenced off from point p: a server has the point open, and its synced heard time is not under that of a notice of x. `given`: the
-- state that a server counts with; `synced`: the one that recovery gives from the synced part of its log
pub record FencedIn {S : Type 0} (given synced : S → Option State) (w : WorldOf S) (x p : ℕ) : Type 0 where
  pub server : ℕ
  pub state : State
  pub counts : given (w.servers server) ≡ some state
  pub holds : is_held (point_at state p) ≡ true
  pub kept : State
  pub recovered : synced (w.servers server) ≡ some kept
  pub time : ℕ
  pub noticed : NoticedIn w x time
  pub heard : time ≤ kept.heard

-- `Issues n ks`: event n issues ks; `Executes n c m`: event n executes m at server c; `Fenced n x p`: after n events x is fenced off from p
pub record FencesBy (Issues : ℕ → List Command → Type 0) (Executes : ℕ → ℕ → Marked → Type 0) (Fenced : ℕ → ℕ → ℕ → Type 0) : Type 0 where
  pub issued : (n c : ℕ) (m : Marked) → Executes n c m → (i : ℕ) × (i < n) × Issues i (m.command ∷ [])
  pub fence : (n x p : ℕ) → Fenced n x p → (i c : ℕ) (m : Marked) → n ≤ i → Executes i c m → m.command.client ≡ x → m.command.point ≡ p → ⊥

-- ---- over bytes

-- the synced part of a server's log
unfoldable pub synced_part : Server → List ℕ
synced_part nothing = []
synced_part (running k state log) = take (load state).mark log
synced_part (storing k log next state tail) = log
synced_part (crashed k kept mark) = take mark kept

unfoldable pub synced_state : List ℕ → Server → Option State
synced_state plan s = recovered_by plan (stored_of s).checkpoint (synced_part s)

module _ (plan : List ℕ) (es : List Event) where
  -- after n events client x is fenced off from point p
  abbrev pub Fenced : ℕ → ℕ → ℕ → Type 0
  Fenced n x p = FencedIn (state_given plan) (synced_state plan) (after es n) x p

  -- the schedule keeps both promises
  abbrev pub Fences : Type 0
  Fences = FencesBy (Issues es) (Executes es) Fenced

-- the claim
unfoldable pub Fence : Type 0
Fence = (plan : List ℕ) (es : List Event) → Provisos plan es → Fences plan es
