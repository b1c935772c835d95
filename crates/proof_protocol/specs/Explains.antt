-- Demand 3 over the abstract world: one order of all surviving commands, each once, explains every result and every final value, in
-- real-time order. By construction of the world: packets and images are only those made, there is one plan, a server is founded
-- once, a crash keeps at least the synced records, recovery uses what is kept, a client number starts one client, once.
-- Assumes nothing.
use Rattle.std.specs.Prelude.{ℕ, suc, ◌≤◌, ◌<◌, ◌≡◌, true, List, [], ◌∷◌, ◌↔◌, length, take}
use Rattle.std.proofs.Math.Option.{some}
use Rattle.std.proofs.Math.ListN.{get_elem?}
use Rattle.model.specs.declared.Command.{Command}
use Rattle.model.specs.declared.Client.{Client}
use Rattle.model.specs.Limits.{point_count}
use Rattle.model.specs.Plan.{entry_at}
use Rattle.model.specs.Sequential.{Marked, OrderEntry, parts, commands, EntryResult, one, opened, values_after, Answers}
use Rattle.claim.specs.Claim.{◌∈◌, Once, Before}
use Rattle.proof_protocol.specs.Servers.{Plan, Id, id_of, Result}
use Rattle.proof_protocol.specs.Servers as S
use Rattle.proof_protocol.specs.World.{World, Change, run, state_of, empty_world, command_at, issued_by}
use Rattle.proof_protocol.specs.World as W
use Rattle.proof_protocol.specs.Allowed.{Run}

module _ (cs : List Change) where
  -- the world after the first n changes
  unfoldable pub after : ℕ → World
  after n = run (take n cs)

  unfoldable pub final : World
  final = run cs

  -- change number n
  unfoldable pub At : ℕ → Change → Type 0
  At n c = get_elem? cs n ≡ some c

  abbrev pub log_length : ℕ → ℕ → ℕ
  log_length n c = length ((after n).servers c).log

  -- "An Issue not refused issues a command": change n issues ks, one command
  pub record Issues (n : ℕ) (ks : List Command) : Type 0 where
    pub client : ℕ
    pub state : Client
    pub op : ℕ
    pub point : ℕ
    pub argument : ℕ
    pub event : At n (W.client client (W.issues state op point argument))
    pub its : (issued_by state op point argument).command ∷ [] ≡ ks

  -- "A Receive of its result, not refused, completes it": change n completes ks, one command, with the result r
  pub record Completes (n : ℕ) (ks : List Command) (r : EntryResult) : Type 0 where
    pub client : ℕ
    pub state : Client
    pub id : Id
    pub point : ℕ
    pub res : Result
    pub event : At n (W.client client (W.receives state id point res))
    pub its : command_at state id.call ∷ [] ≡ ks
    pub result : one res.answer ≡ r

  -- a server that writes an executed record executes its command: change n executes m at server c
  pub record Executes (n c : ℕ) (m : Marked) : Type 0 where
    pub done : ℕ
    pub res : Result
    pub bytes : ℕ
    pub event : At n (W.server c (W.writes (S.executed m.version m.command done res) bytes))

  -- an execution survives where every later crash of its server kept the log as long as it was then
  pub record SurvivesAt (n : ℕ) (m : Marked) : Type 0 where
    pub server : ℕ
    pub executes : Executes n server m
    pub kept : (i j : ℕ) → n < i → At i (W.server server (W.crashes j)) → log_length (suc n) server ≤ log_length (suc i) server

  -- an entry with a surviving part
  pub record Survives (e : OrderEntry) : Type 0 where
    pub part : Marked
    pub among : part ∈ parts e
    pub at : ℕ
    pub survives : SurvivesAt at part

  -- change n executes m so that it survives, and notes this time
  abbrev pub Notes : ℕ → Marked → ℕ → Type 0
  Notes n m t = (s : SurvivesAt n m) × (s.executes.res.time ≡ t)

module _ (plan : Plan) (cs : List Change) where
  -- point p in the state that server c has at the end
  abbrev pub ends_at : ℕ → ℕ → S.Point
  ends_at p c = (state_of plan (final cs) c).points p

  -- the holder: the server where the point's move number is greatest, the taker before the giver, its home at move number 0
  pub record Holder (p c : ℕ) : Type 0 where
    pub founded : ((final cs).servers c).founded ≡ true
    pub greatest : (d : ℕ) → ((final cs).servers d).founded ≡ true → (ends_at p d).move ≤ (ends_at p c).move
    pub taker : (d : ℕ) → ((final cs).servers d).founded ≡ true → (ends_at p d).move ≡ (ends_at p c).move → (ends_at p d).taken ≤ (ends_at p c).taken
    pub home : (ends_at p c).move ≡ 0 → (entry_at plan p).home ≡ c

  -- the order explains the run
  pub record Explains (order : List OrderEntry) : Type 0 where
    -- "each once"
    pub once : Once order
    -- "one order of all surviving commands"
    pub survivors : (e : OrderEntry) → Survives cs e ↔ (e ∈ order)
    -- "the book of document 01, run over it, gives every result that a desk received"
    pub results : (n : ℕ) (ks : List Command) (r : EntryResult) → Completes cs n ks r → Answers plan (opened plan) order ks r
    -- "and, at its end, each point's value and quality at its holder"
    pub values : (p c : ℕ) → p < point_count → Holder p c → (ends_at p c).value ≡ values_after plan (opened plan) order p
    -- "a command completed before another was issued stands first"
    pub real_time : (m n : ℕ) (a b : OrderEntry) (r : EntryResult) → Completes cs m (commands a) r → Issues cs n (commands b) → m < n
        → a ∈ order → b ∈ order → Before a b order
    -- the order keeps each point's sequence of surviving executions
    pub sequence : (m n : ℕ) (j k : Marked) (a b : OrderEntry) → SurvivesAt cs m j → SurvivesAt cs n k → m < n
        → j.command.point ≡ k.command.point → j ∈ parts a → k ∈ parts b → a ∈ order → b ∈ order → Before a b order
    -- every result told has the time that a surviving execution of its id noted
    pub times : (i : Id) (p : ℕ) (x : Result) → S.answered i p x ∈ (final cs).made → (n : ℕ) × (m : Marked) × (id_of m.command ≡ i) × Notes cs n m x.time

unfoldable pub Explained : Type 0
Explained = (plan : Plan) (cs : List Change) → Run plan empty_world cs → (order : List OrderEntry) × Explains plan cs order
