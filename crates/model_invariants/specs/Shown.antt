-- What inspect shows of a server that runs: the bytes that hold the completion record of an id, in the tail or in the checkpoint.
-- Assumes nothing.
use Rattle.std.specs.Prelude.{ℕ, ◌+◌, ◌≤◌, ◌≡◌, length, eqb}
use mathlib.Core.List.{List, [], Memᴰ}
use Rattle.std.proofs.Math.Option.{none, some}
use Rattle.model.specs.declared.PlanEntry.{PlanEntry}
use Rattle.model.specs.declared.Executed.{Executed}
use Rattle.model.specs.declared.Completion.{Completion}
use Rattle.model.specs.declared.Place.{Place}
use Rattle.model.specs.Refusals.{unknown, no_refusal}
use Rattle.model.specs.Limits.{head_size, last_server, executed_size, entry_row}
use Rattle.model.specs.Images.{Image, image_entry_of, image_entry_bytes}
use Rattle.model.specs.Logs.{executed, took, Entry, record_size, executed_at, executed_bytes}
use Rattle.model.specs.States.{State, completion_of, load}
use Rattle.model.specs.Apply.{founded}
use Rattle.model.specs.Decisions.{find, entry_of_record}
use Rattle.model.specs.Checkpoints.{in_record, in_image, in_checkpoint, no_place, record_front, record_whole, record_width, checkpoint_state, inspect_of, shown_of}
use Rattle.model_laws.specs.Bytes.{Bytes}
use Rattle.model_invariants.specs.History.{GoodPlan}

-- where a tail starts from: the state that its checkpoint gives, or a founding, with no checkpoint
pub data StartsFrom (checkpoint : List ℕ) (start : State) : Type 0 where
  by_checkpoint : Bytes checkpoint → checkpoint_state checkpoint ≡ some start → StartsFrom checkpoint start
  by_founding : (plan : List PlanEntry) (n : ℕ) → GoodPlan plan → n ≤ last_server → checkpoint ≡ [] → start ≡ founded plan n → StartsFrom checkpoint start

-- the part at p holds the completion record r: it is the log record of its command, that ends where r does; or its entry in the image of the
-- take that ends there; or, where r is from before the tail, its row in the checkpoint. Each in the form of what holds it
pub data Shows (checkpoint : List ℕ) (start : State) (es : List Entry) (r : Completion) (p : Place) (part : List ℕ) : Type 0 where
  of_record : (x : Executed) → Memᴰ (record { item = executed x; end = r.end }) es → x.command ≡ r.command → x.result ≡ r.result
      → p.source ≡ in_record → p.end ≡ r.end → part ≡ executed_bytes x → Shows checkpoint start es r p part
  of_image : (i : Image) → Memᴰ (record { item = took i; end = r.end }) es → i.point ≡ r.command.point → Memᴰ (entry_of_record r) i.entries
      → p.source ≡ in_image → r.end ≤ p.start + record_size (took i) → p.end ≤ r.end → part ≡ image_entry_bytes i.timed (entry_of_record r)
      → Shows checkpoint start es r p part
  of_checkpoint : Memᴰ r start.records → r.end ≡ head_size
      → p.source ≡ in_checkpoint → part ≡ record_front (record_width checkpoint) r → Shows checkpoint start es r p part

-- the part alone tells the record, by its source, and its form by its length: command and result; all of it but the point; all of it
pub record Tells (r : Completion) (p : Place) (part : List ℕ) : Type 0 where
  pub record-tells : p.source ≡ in_record → ((executed_at (eqb (length part) executed_size) part).command ≡ r.command)
      × ((executed_at (eqb (length part) executed_size) part).result ≡ r.result)
  pub image-tells : p.source ≡ in_image → image_entry_of (eqb (length part) entry_row) part ≡ entry_of_record r
  pub checkpoint-tells : p.source ≡ in_checkpoint → completion_of (record_whole (length part) part) ≡ r

-- of the id (x, c): 17 where the state holds no completion record of it, else no refusal and the part that holds that record
pub record Inspected (start : State) (es : List Entry) (state checkpoint tail : List ℕ) (x c : ℕ) : Type 0 where
  pub missing : find x c (load state).records ≡ none → inspect_of state checkpoint tail x c ≡ no_place unknown
  pub passes : (r : Completion) → find x c (load state).records ≡ some r → (inspect_of state checkpoint tail x c).refusal ≡ no_refusal
  pub shown : (r : Completion) → find x c (load state).records ≡ some r
      → Shows checkpoint start es r (inspect_of state checkpoint tail x c) (shown_of state checkpoint tail x c)
  pub tells : (r : Completion) → find x c (load state).records ≡ some r → Tells r (inspect_of state checkpoint tail x c) (shown_of state checkpoint tail x c)
