-- The dispatcher's promise, of every list of its calls with any arguments: who came first is handed over first, and whoever waits is handed over by one of the next 32
-- servings, whatever is enqueued meanwhile and by whomever. It speaks of servings, not of time.
-- Assumes nothing.
use Rattle.std.specs.Prelude.{ℕ, suc, ◌≤◌, ◌<◌, ◌≡◌, List, [], ◌∷◌, ◌++◌, length, take}
use Rattle.std.proofs.Math.Option.{some}
use Rattle.std.proofs.Math.ListN.{get_elem?}
use Rattle.model.specs.declared.Request.{Request}
use Rattle.model.specs.Choice.{pick, or_else, is_passed}
use Rattle.model.specs.Refusals.{no_refusal}
use Rattle.model.specs.Versions.{Versions}
use Rattle.model.specs.Packets.{parse_packet, as_request}
use Rattle.model.specs.Operations.{request_of}
use Rattle.model_laws.specs.Bytes.{Bytes}
use Rattle.dispatch_claim.specs.declared.Dispatcher.{Dispatcher}
use Rattle.dispatch_claim.specs.Dispatcher.{places, no_waiting, waiting, enqueue_of, serve_of}

-- ---- lists of calls

pub data Call : Type 0 where
  enqueue : List ℕ → Call  -- packet
  serve : Versions → List ℕ → List ℕ → List ℕ → Call  -- the versions of the server's program; state, log, output

unfoldable pub after_call : Dispatcher → Call → Dispatcher
after_call d (enqueue p) = (enqueue_of d p).dispatcher
after_call d (serve v state log out) = (serve_of v d state log out).dispatcher

unfoldable pub after_calls : Dispatcher → List Call → Dispatcher
after_calls d [] = d
after_calls d (c ∷ cs) = after_calls (after_call d c) cs

unfoldable pub servings : List Call → ℕ
servings [] = 0
servings (enqueue p ∷ cs) = servings cs
servings (serve v state log out ∷ cs) = suc (servings cs)

-- the request that a call takes in
unfoldable pub taken : Dispatcher → Call → List Request
taken d (enqueue p) = or_else (as_request (parse_packet p)) [] (λ q. pick (is_passed (enqueue_of d p).number) (q ∷ []) [])
taken d (serve v state log out) = []

unfoldable pub taken_in : Dispatcher → List Call → List Request
taken_in d [] = []
taken_in d (c ∷ cs) = taken d c ++ taken_in (after_call d c) cs

-- the request that a call hands over
unfoldable pub handed : Dispatcher → Call → List Request
handed d (enqueue p) = []
handed d (serve v state log out) = take 1 (waiting d)

unfoldable pub handed_over : Dispatcher → List Call → List Request
handed_over d [] = []
handed_over d (c ∷ cs) = handed d c ++ handed_over (after_call d c) cs

-- what the type of a dispatcher says
abbrev pub Formed : Dispatcher → Type 0
Formed d = length d.requests ≡ places

-- ---- "one waiting request each for up to 32 clients"

pub record OneEach (d : Dispatcher) : Type 0 where
  pub formed : Formed d
  pub count : d.count ≤ places
  pub one : (i j : ℕ) (q r : Request) → get_elem? (waiting d) i ≡ some q → get_elem? (waiting d) j ≡ some r → q.command.client ≡ r.command.client → i ≡ j

pub record HoldsOneEach : Type 0 where
  pub at_first : OneEach no_waiting
  pub kept : (d : Dispatcher) (c : Call) → OneEach d → OneEach (after_call d c)

-- ---- "serves them in the order they came": what was handed over and, behind it, what waits are what waited at first and what was taken in since

unfoldable pub InOrder : Type 0
InOrder = (d : Dispatcher) (cs : List Call) → Formed d → handed_over d cs ++ waiting (after_calls d cs) ≡ waiting d ++ taken_in d cs

-- ---- "Each reaches the cabinet within 32 servings, however much other desks send"

-- of any calls, serving number i hands over the one that waited at place i
unfoldable pub Fair : Type 0
Fair = (d : Dispatcher) (cs : List Call) (i : ℕ) (q : Request) → Formed d → get_elem? (waiting d) i ≡ some q → i < servings cs → get_elem? (handed_over d cs) i ≡ some q

-- one of the first 32 servings of cs is Request of this packet: its answer and all slices
pub record Reached (d : Dispatcher) (cs : List Call) (packet : List ℕ) : Type 0 where
  pub before : List Call
  pub versions : Versions
  pub state : List ℕ
  pub log : List ℕ
  pub out : List ℕ
  pub later : List Call
  pub split : cs ≡ before ++ (serve versions state log out ∷ later)
  pub soon : servings before < places
  pub served : (serve_of versions (after_calls d before) state log out).left ≡ request_of versions state log packet out

-- a packet that enqueue has taken in, whatever calls follow, once there are 32 servings among them
unfoldable pub Reaches : Type 0
Reaches = (d : Dispatcher) (packet : List ℕ) → Formed d → Bytes packet → (enqueue_of d packet).number ≡ no_refusal
    → (cs : List Call) → places ≤ servings cs → Reached (enqueue_of d packet).dispatcher cs packet
