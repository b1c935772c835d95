-- The calls of a server, as one type: operations on what the last call left, found and recover. And what holds of a server's
-- buffers between calls: the state is the replay of the log's records, with a sync mark.
-- Assumes nothing.
use Rattle.std.specs.Prelude.{ℕ, ◌≤◌, ◌≡◌, Bool, true, false, List, [], ◌∷◌, ◌++◌, take, leb}
use Rattle.std.proofs.Math.Option.{Option, some}
use Rattle.model.specs.Versions.{Versions}
use Rattle.model.specs.Choice.{pick, refuse, deny, reply, append, marks}
use Rattle.model.specs.Limits.{head_size, receipt_size}
use Rattle.model.specs.Tables.{keep}
use Rattle.model.specs.Packets.{result_size_of}
use Rattle.model.specs.Images.{greatest_of}
use Rattle.model.specs.Logs.{LogRecord, Entry, head_bytes, entries_bytes}
use Rattle.model.specs.States.{State, load, sound}
use Rattle.model.specs.Apply.{replay_from, with_mark}
use Rattle.model.specs.Decisions.{Decided, timed_by}
use Rattle.model.specs.Operations.{After, free_in, lent, found_of, recover_of}
use Rattle.model.specs.Calls.{OperationOf, Operation, request, fetch, sync, notice, give, image, take_in, receipt, release, operated, decision}
use Rattle.model.specs.Refusals.{no_refusal}
use Rattle.model.specs.Checkpoints.{AfterCheckpoint}
use Rattle.model_laws.specs.Bytes.{Bytes}
use Rattle.model_laws.specs.Fits.{last_end}
use Rattle.model_laws.specs.Alike.{Alike}
use Rattle.model_invariants.specs.History.{Decides, entry_for, DecidedFrom}

-- ---- operations

-- the packet or image that it names has B
abbrev pub Named : {P : Type 0} → (P → Type 0) → OperationOf P → Type 0
Named B (request v packet) = B packet
Named B (fetch v client call) = Unit
Named B (sync mark) = Unit
Named B (notice packet) = B packet
Named B (give point destination) = Unit
Named B (image v point) = Unit
Named B (take_in img) = B img
Named B (receipt point) = Unit
Named B (release packet) = B packet

-- it is bytes
abbrev pub LentBytes : Operation → Type 0
LentBytes o = Named Bytes o

-- the bytes that it asks of an output on that state, 0 where it has none
unfoldable pub output_size : {P : Type 0} → State → OperationOf P → ℕ
output_size st (request v packet) = result_size_of (timed_by v st)
output_size st (fetch v client call) = result_size_of (timed_by v st)
output_size st (sync mark) = 0
output_size st (notice packet) = 0
output_size st (give point destination) = 0
output_size st (image v point) = greatest_of (timed_by v st)
output_size st (take_in img) = 0
output_size st (receipt point) = receipt_size
output_size st (release packet) = 0

-- it has one, and the output that it is lent
unfoldable pub has_output : {P : Type 0} → OperationOf P → Bool
has_output (request v packet) = true
has_output (fetch v client call) = true
has_output (sync mark) = false
has_output (notice packet) = false
has_output (give point destination) = false
has_output (image v point) = true
has_output (take_in img) = false
has_output (receipt point) = true
has_output (release packet) = false

unfoldable pub output : {P : Type 0} → OperationOf P → List ℕ → List ℕ
output o out = pick (has_output o) out []

-- x is o with what f hands over for the packet or image that o names
pub record HandedOver {P Q : Type 0} (f : P → Option Q) (o : OperationOf P) (x : OperationOf Q) : Type 1 where
  pub named : (B : Q → Type 0) → ((p : P) (b : Q) → f p ≡ some b → B b) → Named B x
  pub size : (st : State) → output_size st x ≡ output_size st o
  pub has : has_output x ≡ has_output o
  pub requests : (v : Versions) (b : Q) → x ≡ request v b → (p : P) × (o ≡ request v p) × (f p ≡ some b)

-- what a call of it decides on the lent slices, 2 and 19 first
unfoldable pub decided_on : Operation → List ℕ → List ℕ → List ℕ → Decided
decided_on o state log out = lent state log (output o out) (output_size (load state) o) (decision o (load state) (free_in state log))

-- ---- what an operation may decide

-- it appends only records with A, and sets only marks with M
pub data Only (A : LogRecord → Type 0) (M : ℕ → Type 0) : Decided → Type 0 where
  refuses : {n : ℕ} → Only A M (refuse n)
  denies : {n : ℕ} {b : List ℕ} → Only A M (deny n b)
  replies : {b : List ℕ} → Only A M (reply b)
  appends : {r : LogRecord} → A r → Only A M (append r)
  sets : {m : ℕ} → M m → Only A M (marks m)

-- a record that some operation decides, a mark from the present one to the log's length
unfoldable pub Allowed : List ℕ → List ℕ → Decided → Type 0
Allowed state log d = Only (Decides (load state) (free_in state log)) (λ (m : ℕ). ((load state).mark ≤ m) × (m ≤ (load state).size)) d

-- ---- all calls

pub data Call : Type 0 where
  found : List ℕ → ℕ → Call  -- plan, server number
  operate : Operation → Call
  recover : List ℕ → Call  -- plan

unfoldable pub left : Call → List ℕ → List ℕ → List ℕ → After
left (found plan n) state log out = found_of state log plan n
left (operate o) state log out = operated o state log out
left (recover plan) state log out = recover_of state log plan

abbrev pub CallBytes : Call → Type 0
CallBytes (found plan n) = Bytes plan
CallBytes (operate o) = LentBytes o
CallBytes (recover plan) = Bytes plan

-- what two calls leave: all alike, but for what lies behind the state's last completion record
pub record AlikeAfter (a b : After) : Type 0 where
  pub answer : b.answer ≡ a.answer
  pub state : Alike a.state b.state
  pub log : b.log ≡ a.log
  pub out : b.out ≡ a.out

pub record AlikeCheckpoint (a b : AfterCheckpoint) : Type 0 where
  pub answer : b.answer ≡ a.answer
  pub state : Alike a.state b.state
  pub log : b.log ≡ a.log
  pub checkpoint : b.checkpoint ≡ a.checkpoint
  pub tail : b.tail ≡ a.tail

-- ---- between calls

-- the state's buffer is sound and holds the replay, from st on, of the entries es of a decided log, with some sync mark; the log opens with
-- their bytes
pub record Holds (st : State) (es : List Entry) (state log : List ℕ) : Type 0 where
  pub decided : DecidedFrom st es
  pub sound : sound state ≡ true
  pub same : load state ≡ with_mark (load state).mark (replay_from st es)
  pub logged : take (last_end head_size es) log ≡ head_bytes st.server ++ entries_bytes es

-- the entries once a decision is carried out
abbrev pub entries_after : State → List Entry → Decided → List Entry
entries_after st es (refuse k) = es
entries_after st es (deny k b) = es
entries_after st es (reply b) = es
entries_after st es (append r) = es ++ (entry_for (replay_from st es) r ∷ [])
entries_after st es (marks m) = es

-- a recovery from the log's first c bytes was not refused, and left the records that end at or under c
pub record Recovered (st : State) (es : List Entry) (c : ℕ) (a : After) (log : List ℕ) : Type 0 where
  pub refusal : a.answer.refusal ≡ no_refusal
  pub holds : Holds st (keep (λ (e : Entry). leb e.end c) es) a.state log
