-- What a record is written on, a packet told on, and what a record leaves, of the calls in Reads: the facts that the relation of `protocol`
-- asks (Written, Told) and that its replay has. Each edit of must-fail/ loses one.
--     executes_leased, -over, -fresh   what an execution passed;  repeats, fetched   the record told is synced;  repeats-held   and told as it is held
--     imaging-synced, -whole   the give is synced, the image has all of the state;  taking, freeing   move numbers
--     gone-heard, took-heard, took-floors     what is heard of, and floors;  regained   recovery gives the replay
-- Assumes nothing.
use Rattle.std.specs.Prelude.{Some}
use Prim.Native.Nat.{ℕ, ◌≤◌, ◌<◌, max}
use mathlib.Core.Path.{◌≡◌, refl, subst}
use mathlib.Core.List.{List}
use mathlib.Core.Option.{some}
use Rattle.model.specs.declared.Request.{Request}
use Rattle.model.specs.declared.Receipt.{Receipt}
use Rattle.model.specs.declared.Notice.{Notice}
use Rattle.model.specs.declared.Completion.{Completion}
use Rattle.model.specs.declared.Packet.TheVariants.{Requested, Receipted}
use Rattle.model.specs.Choice.{reply, append}
use Rattle.model.specs.Plan.{plan_of}
use Rattle.model.specs.Versions.{Versions}
use Rattle.model.specs.Packets.{parse_packet, result_bytes, as_receipt}
use Rattle.model.specs.Images.{Image, image_bytes, floor_of}
use Rattle.model.specs.Logs.{LogRecord, gone, took}
use Rattle.model.specs.States.{State, point_at}
use Rattle.model.specs.Apply.{merge_floors, apply, apply_record, apply_gone, apply_took, founded, replay_from}
use Rattle.model.specs.Decisions.{Decided, timed_by, find, result_of_record, or_malformed, image_for}
use Rattle.model_laws.proofs.Refused.{unless_appends}
use Rattle.model.specs.Calls.{Operation, decision, request, fetch, image}
use Rattle.model_invariants.specs.Passed.{Fresh}
use Rattle.model_invariants.proofs.Decided.{find-fresh, take-tests, release-passed}
use Rattle.model_invariants.proofs.Recovery.{recovered-replay}
use Rattle.claim.specs.RecordWorld.{Log, recovered_from}
use Rattle.proof_records.specs.Inverse.{Appends, Replies, Shows}
use Rattle.proof_records.specs.Inverse as Inverse
use Rattle.proof_records.proofs.Inverted.{shown, recover-shown}
use Rattle.proof_mutations.specs.Reads.{reading, imaged, for_request, for_fetch, for_image, for_gone, for_took, noticed, taken, requests, fetches, images, takes, releases, applies_record, regains}

-- ---- what a call shows of the state that it reads (`proof_records`)

shows : (st : State) (free : ℕ) (o : Operation) {d : Decided} → decision o st free ≡ d → Shows st free o d
shows st free o e = subst (Shows st free o) e (shown st free o)

record Executes (s : State) (q : Request) : Type 0 where
  leased : s.heard < q.lease
  over : floor_of q.command.client s.floors ≤ q.command.call
  fresh : Fresh q.command.client q.command.call s.records

-- a completion record that is synced there
abbrev Synced : State → Type 0
Synced s = (r : Completion) × (r.end ≤ s.mark)

-- the result packet of a completion record that is held there, its time and all
abbrev Held : Versions → State → List ℕ → Type 0
Held v s c = (x : ℕ) × (k : ℕ) × (r : Completion) × (find x k s.records ≡ some r) × (result_bytes (result_of_record (timed_by v s) r) ≡ c)

module _ {s : State} {free : ℕ} where
  request-executes : {v : Versions} {b : List ℕ} {r : LogRecord} (q : Request) → parse_packet b ≡ Some (Requested q) → Appends s free (request v b) r → Executes s q
  request-executes q e (Inverse.executes v b z p h l o f d) = let k : z ≡ q = cc in subst (Executes s) k (record { leased = l; over = o; fresh = find-fresh _ _ _ f })

  request-tells : {v : Versions} {b c : List ℕ} → Replies s free (request v b) c → Synced s
  request-tells (Inverse.repeats v b x k r f l) = (r, l)

  request-holds : {v : Versions} {b c : List ℕ} → Replies s free (request v b) c → Held v s c
  request-holds (Inverse.repeats v b x k r f l) = (x, k, r, f, refl)

  fetch-tells : {v : Versions} {x k : ℕ} {c : List ℕ} → Replies s free (fetch v x k) c → Synced s
  fetch-tells (Inverse.fetches v x k r f l) = (r, l)

  image-tells : {v : Versions} {p : ℕ} {c : List ℕ} → Replies s free (image v p) c → ((point_at s p).give_end ≤ s.mark) × (image_bytes (image_for v s p) ≡ c)
  image-tells (Inverse.images v p l g m) = (m, refl)

-- ---- Request and Fetch

module _ (v : Versions) (st : State) (free : ℕ) (b : List ℕ) where
  request_shows : {d : Decided} → requests v st free (parse_packet b) ≡ d → Shows (for_request st) free (request v b) d
  unfolding requests decision
  request_shows e = shows (for_request st) free (request v b) e

  -- an execution: the lease end is after heard time, the call is not under the floor, no completion record has its id
  module _ (q : Request) (p : parse_packet b ≡ Some (Requested q)) (r : LogRecord) (e : requests v st free (parse_packet b) ≡ append r) where
    terms : Executes (for_request st) q
    terms = request-executes q p (request_shows e)

    pub executes_leased : st.heard < q.lease
    unfolding for_request reading
    executes_leased = terms.leased

    pub executes-over : floor_of q.command.client st.floors ≤ q.command.call
    unfolding for_request reading
    executes-over = terms.over

    pub executes-fresh : Fresh q.command.client q.command.call st.records
    unfolding for_request reading
    executes-fresh = terms.fresh

  -- the record told is synced
  pub repeats : (c : List ℕ) → requests v st free (parse_packet b) ≡ reply c → (r : Completion) × (r.end ≤ st.mark)
  unfolding for_request reading
  repeats c e = request-tells (request_shows e)

  -- and told as it is held
  pub repeats-held : (c : List ℕ) → requests v st free (parse_packet b) ≡ reply c → Held v st c
  unfolding for_request reading timed_by
  repeats-held c e = request-holds (request_shows e)

pub fetched : (v : Versions) (st : State) (x c : ℕ) (b : List ℕ) → fetches v st x c ≡ reply b → (r : Completion) × (r.end ≤ st.mark)
unfolding fetches decision for_fetch reading
fetched v st x c b e = fetch-tells (shows (for_fetch st) 0 (fetch v x c) e)

-- ---- moves

-- an image: the give is synced, and it has heard time, floors and records of the state
module _ (v : Versions) (st : State) (p : ℕ) (b : List ℕ) (e : images v st p ≡ reply b) where
  pub imaging-synced : (point_at st p).give_end ≤ st.mark
  unfolding images decision for_image reading point_at
  imaging-synced = (image-tells (shows (for_image st) 0 (image v p) e)).0

  pub imaging-whole : image_bytes (image_for v st p) ≡ b
  unfolding images decision for_image reading image_for point_at
  imaging-whole = (image-tells (shows (for_image st) 0 (image v p) e)).1

-- a take and a release: the move is newer
pub taking : (st : State) (free : ℕ) (i : Image) (r : LogRecord) → takes st free (some i) ≡ append r → (point_at st i.point).move_number < i.move_number
unfolding takes or_malformed imaged
taking st free i r e = (take-tests st free _ (unless_appends _ _ e).0).0.newer

pub freeing : (st : State) (free : ℕ) (p : Receipt) (r : LogRecord) → releases st free (Some (Receipted p)) ≡ append r → (point_at st p.point).move_number ≤ p.move_number
unfolding releases or_malformed as_receipt
freeing st free p r e = (release-passed st free p.point _ r e).0.newer

-- ---- what a record leaves

pub gone-heard : (n : Notice) (end : ℕ) (st : State) → (applies_record (gone n) end st).heard ≡ max st.heard n.time
unfolding applies_record apply apply_record apply_gone for_gone noticed reading
gone-heard n end st = refl

pub took-heard : (i : Image) (end : ℕ) (st : State) → (applies_record (took i) end st).heard ≡ max st.heard i.heard
unfolding applies_record apply apply_record apply_took for_took taken imaged reading
took-heard i end st = refl

pub took-floors : (i : Image) (end : ℕ) (st : State) → (applies_record (took i) end st).floors ≡ merge_floors i.floors st.floors
unfolding applies_record apply apply_record apply_took for_took taken imaged reading
took-floors i end st = refl

-- ---- Recover

pub regained : (plan : List ℕ) (log : Log) (st : State) → regains plan log ≡ some st → st ≡ replay_from (founded (plan_of plan) log.number) log.entries
unfolding regains recovered_from
regained plan log st e = recovered-replay (founded (plan_of plan) log.number) st log.entries (recover-shown plan log st e)
