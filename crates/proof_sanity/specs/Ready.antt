-- Lent slices on which a request is refused with neither 2 nor 19, whatever state they hold; what a request that was executed leaves, and a
-- checkpoint with the recovery from it.
-- Assumes nothing.
use Rattle.std.specs.Prelude.{ℕ, ◌+◌, ◌*◌, ◌≤◌, ◌<◌, ◌≡◌, true, List, ◌++◌, length, take, Some}
use Rattle.std.proofs.Math.Option.{none, some}
use Rattle.model.specs.Versions.{today}
use Rattle.model.specs.declared.CommandResult.{CommandResult}
use Rattle.model.specs.declared.Request.{Request}
use Rattle.model.specs.declared.Completion.{Completion}
use Rattle.model.specs.declared.Packet.TheVariants.{Requested, Resulted}
use Rattle.model.specs.Numbers.{word}
use Rattle.model.specs.Limits.{state_size, result_size, executed_size}
use Rattle.model.specs.Packets.{parse_packet}
use Rattle.model.specs.Logs.{executed, record_bytes}
use Rattle.model.specs.States.{load, sound, point_at}
use Rattle.model.specs.Apply.{completion}
use Rattle.model.specs.Decisions.{find, executed_for, result_for, result_of_record}
use Rattle.model.specs.Operations.{After, answer_of, request_of, sync_of}
use Rattle.model.specs.Checkpoints.{AfterCheckpoint, placed_point, placed_record, end_before, checkpoint_bytes}
use Rattle.model.specs.Refusals.{no_refusal}
use Rattle.model_laws.specs.Bytes.{Bytes}

pub record Ready (state log out : List ℕ) : Type 0 where
  pub bytes : Bytes state
  pub long : state_size ≤ length state
  pub safe : sound state ≡ true
  pub recorded : (load state).size ≤ length log
  pub counted : length log < word * word
  pub output : result_size ≤ length out

-- the bytes b are the request q
pub record Asks (b : List ℕ) (q : Request) : Type 0 where
  pub bytes : Bytes b
  pub parsed : parse_packet b ≡ Some (Requested q)

-- the state and the log after the request q was executed: its id, which was not held, is held, with what the rule made of its
-- command; its point has that value and quality; the log has 32 bytes more, the executed record
pub record Changed (state log : List ℕ) (q : Request) (a : After) : Type 0 where
  pub was : find q.command.client q.command.call (load state).records ≡ none
  pub is : find q.command.client q.command.call (load a.state).records ≡ some (completion (executed_for today (load state) q) ((load state).size + executed_size))
  pub value : (point_at (load a.state) q.command.point).value ≡ (result_for today (load state) q).value
  pub quality : (point_at (load a.state) q.command.point).quality ≡ (result_for today (load state) q).quality
  pub size : (load a.state).size ≡ (load state).size + executed_size
  pub logged : take (load a.state).size a.log ≡ take (load state).size log ++ record_bytes (executed (executed_for today (load state) q))

-- the answer's packet is that of the record r, which is held for the request's own id, with the request's own command
pub record Own (state : List ℕ) (q : Request) (a : After) (r : Completion) : Type 0 where
  pub found : find q.command.client q.command.call (load state).records ≡ some r
  pub packet : parse_packet (take result_size a.out) ≡ Some (Resulted (result_of_record true r))
  pub client : r.command.client ≡ q.command.client
  pub call : r.command.call ≡ q.command.call
  pub op : r.command.op ≡ q.command.op
  pub point : r.command.point ≡ q.command.point
  pub argument : r.command.argument ≡ q.command.argument

-- the first 20 bytes of the output once the state is synced to the log's length and the request b is called
unfoldable pub answered_with : List ℕ → List ℕ → List ℕ → List ℕ → List ℕ
answered_with b out state log =
    let s = sync_of state log (load state).size in
    take result_size (request_of today s.state s.log b out).out

-- a sync to the log's length is not refused, and then the request q is answered with its result r
pub record Served (b : List ℕ) (q : Request) (r : CommandResult) (out state log : List ℕ) : Type 0 where
  pub synced : (sync_of state log (load state).size).answer ≡ answer_of no_refusal 0
  pub answer : (request_of today (sync_of state log (load state).size).state (sync_of state log (load state).size).log b out).answer ≡ answer_of no_refusal result_size
  pub packet : parse_packet (answered_with b out state log)
      ≡ Some (Resulted (record { client = q.command.client; call = q.command.call; point = q.command.point; result = r; timed = true }))

-- a recovery that is not refused holds what the request q executed: its completion record, its point's value and quality, all synced
pub record Regained (state : List ℕ) (q : Request) (a : After) : Type 0 where
  pub answer : a.answer ≡ answer_of no_refusal 0
  pub holds : find q.command.client q.command.call (load a.state).records ≡ some (completion (executed_for today (load state) q) ((load state).size + executed_size))
  pub value : (point_at (load a.state) q.command.point).value ≡ (result_for today (load state) q).value
  pub quality : (point_at (load a.state) q.command.point).quality ≡ (result_for today (load state) q).quality
  pub synced : (load a.state).mark ≡ (load a.state).size

-- a checkpoint of the state, and the recovery r from what it wrote: neither is refused, and recovery gives the state that the checkpoint left. Every
-- completion record and every point is there, its places before the tail
pub record Resumed (state : List ℕ) (a : AfterCheckpoint) (r : After) : Type 0 where
  pub made : a.answer ≡ answer_of no_refusal (length (checkpoint_bytes true (load state)))
  pub answer : r.answer ≡ answer_of no_refusal 0
  pub same : load r.state ≡ load a.state
  pub holds : (x c : ℕ) (k : Completion) → find x c (load state).records ≡ some k → find x c (load r.state).records ≡ some (placed_record end_before k)
  pub points : (p : ℕ) → point_at (load r.state) p ≡ placed_point end_before (point_at (load state) p)

-- f, what found left, is not refused; then a first request is executed, and the same one is served with the result r after a sync
pub record Begins (f : After) (b out : List ℕ) (q : Request) (r : CommandResult) : Type 0 where
  pub found : f.answer ≡ answer_of no_refusal 0
  pub executed : (request_of today f.state f.log b out).answer ≡ answer_of no_refusal 0
  pub served : Served b q r out (request_of today f.state f.log b out).state (request_of today f.state f.log b out).log
