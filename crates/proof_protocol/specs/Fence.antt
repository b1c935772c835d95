-- The fence over the abstract world: a command is executed only after it was issued; and once a server that holds a point has a synced heard
-- time not under that of a client's notice, no command of that client is executed on that point any more, at any server.
-- Assumes nothing.
use Rattle.std.specs.Prelude.{ℕ, ◌-◌, ◌≤◌, ◌≡◌, true, length, drop}
use mathlib.Core.List.{List, Memᴰ}
use Rattle.claim.specs.Fence.{FencesBy}
use Rattle.proof_protocol.specs.Servers.{Plan, Entry, replay, held, notice}
use Rattle.proof_protocol.specs.World.{Server, World, Change, state_of, empty_world}
use Rattle.proof_protocol.specs.Allowed.{Run}
use Rattle.proof_protocol.specs.Explains.{after, Issues, Executes}

-- the synced records of a server
unfoldable pub synced_log : Server → List Entry
synced_log x = drop (length x.log - x.mark) x.log

-- client x is fenced off from point p
pub record FencedIn (plan : Plan) (w : World) (x p : ℕ) : Type 0 where
  pub server : ℕ
  pub founded : (w.servers server).founded ≡ true
  pub holds : ((state_of plan w server).points p).holding ≡ held
  pub time : ℕ
  pub noticed : Memᴰ (notice x time) w.made
  pub heard : time ≤ (replay plan server (synced_log (w.servers server))).heard

module _ (plan : Plan) (cs : List Change) where
  -- after n changes client x is fenced off from point p
  abbrev pub Fenced : ℕ → ℕ → ℕ → Type 0
  Fenced n x p = FencedIn plan (after cs n) x p

  -- the run keeps both promises
  abbrev pub Fences : Type 0
  Fences = FencesBy (Issues cs) (Executes cs) Fenced

unfoldable pub Fence : Type 0
Fence = (plan : Plan) (cs : List Change) → Run plan empty_world cs → Fences plan cs
