-- What the tests of an operation say together where it appends its record, or makes a checkpoint, as propositions; the log's space apart.
-- Assumes nothing.
use Rattle.std.specs.Prelude.{ℕ, ◌≤◌, ◌<◌, ◌≡◌, true, List, ◌≢◌, length, leb}
use Rattle.model.specs.declared.PlanEntry.{PlanEntry}
use Rattle.model.specs.declared.Completion.{Completion}
use Rattle.model.specs.declared.Request.{Request}
use Rattle.model.specs.declared.ImageEntry.{ImageEntry}
use Rattle.model.specs.Limits.{last_point, last_server, last32, client_count, state_size, head_size, checkpoint_size}
use Rattle.model.specs.Plan.{entry_at}
use Rattle.model.specs.Images.{Image, floor_of}
use Rattle.model.specs.States.{State, load, sound, point_at, held, given}
use Rattle.model.specs.Apply.{merge_floors}
use Rattle.model.specs.Decisions.{request_refusal}
use Rattle.model.specs.Choice.{passed}
use Rattle.model_laws.specs.Bytes.{All}
use Rattle.model_invariants.specs.Sound.{GoodValues}

-- no record has the id
abbrev pub Fresh : ℕ → ℕ → List Completion → Type 0
Fresh x c rs = All (λ (r : Completion). r.command.client ≡ x → r.command.call ≡ c → ⊥) rs

-- the request q passes the tests that stand before its id is looked up
abbrev pub Admits : State → Request → Type 0
Admits st q =
    request_refusal (point_at st q.command.point) (leb q.lease st.heard) (floor_of q.command.client st.floors) q.command.call ≡ passed

-- a request that a server founded with this plan and number executes: the server is the point's home, the lease is not over from the start
pub record FirstRequest (plan : List PlanEntry) (n : ℕ) (q : Request) : Type 0 where
  pub home : (entry_at plan q.command.point).home ≡ n
  pub lease : 0 < q.lease

-- a request of client x, call c, on point p; the lease apart
pub record PassedRequest (st : State) (x c p : ℕ) : Type 0 where
  pub held : (point_at st p).status ≡ held
  pub over : floor_of x st.floors ≤ c
  pub fresh : Fresh x c st.records
  pub place : floor_of x st.floors ≡ 0 → length st.floors < client_count

-- a give of point p to d
pub record PassedGive (st : State) (p d : ℕ) : Type 0 where
  pub point : p ≤ last_point
  pub destination : d ≤ last_server
  pub held : (point_at st p).status ≡ held
  pub other : d ≢ st.server
  pub move_number : (point_at st p).move_number < last32

-- an id of the image that is held stands for the image's point
abbrev pub FreeFor : ℕ → List Completion → ImageEntry → Type 0
FreeFor p rs e = All (λ (r : Completion). r.command.client ≡ e.client → r.command.call ≡ e.call → r.command.point ≡ p) rs

pub record PassedTake (st : State) (i : Image) : Type 0 where
  pub values : GoodValues (entry_at st.plan i.point) i
  pub destination : i.destination ≡ st.server
  pub newer : (point_at st i.point).move_number < i.move_number
  pub away : (point_at st i.point).status ≢ held
  pub free : All (FreeFor i.point st.records) i.entries
  pub clients : length (merge_floors i.floors st.floors) ≤ client_count

-- a release of point p by a receipt of move m
pub record PassedRelease (st : State) (p m : ℕ) : Type 0 where
  pub given : (point_at st p).status ≡ given
  pub newer : (point_at st p).move_number ≤ m

-- a checkpoint of the state in its buffer, into buffers for it and for the tail's head
pub record PassedCheckpoint (state checkpoint tail : List ℕ) : Type 0 where
  pub whole : state_size ≤ length state
  pub room : checkpoint_size ≤ length checkpoint
  pub head : head_size ≤ length tail
  pub sound : sound state ≡ true
  pub synced : (load state).size ≤ (load state).mark
