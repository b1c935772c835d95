-- The provisos of demand 3, each with the customer's words, as conditions on a schedule. These hold by the world's construction:
--     "packets and images are only those the parties made": an event names one by its number among those made
--     "only the operations change state and log": `running` holds what the last call left, and a call is lent just that
--     "the lease office keeps its state": there is one manager, and each call of it gets what the last one left
-- Assumes nothing.
use Rattle.std.specs.Prelude.{ℕ, ◌+◌, ◌*◌, ◌≤◌, ◌<◌, ◌≡◌, List, [], length, take, get_or, Ok}
use Rattle.std.proofs.Math.Option.{Option, none, some}
use Rattle.std.proofs.Math.ListN.{get_elem?}
use Rattle.model.specs.Numbers.{word}
use Rattle.model.specs.Operations.{found_of, recover_of}
use Rattle.model.specs.Checkpoints.{recover_tail_of}
use Rattle.model.specs.States.{load}
use Rattle.model.specs.Clients.{start_of}
use Rattle.model.specs.Refusals.{no_refusal}
use Rattle.claim.specs.World.{OutsideCall, start, issue, resend, receive, open·lease, renew, query}
use Rattle.claim.specs.World.{Event, found, call, inquire, recover, checkpoint, store, recover·tail, crash, outside}
use Rattle.claim.specs.World.{Lent, WorldOf, Server, nothing, running, storing, crashed, stored_of, after, packet}

-- a list of bytes
unfoldable pub Bytes : List ℕ → Type 0
Bytes s = (i : ℕ) → get_or s i 0 < 256

-- the length of a lent log has 64 bits
abbrev pub Counted : Lent → Type 0
Counted l = l.log < word * word

-- what the interface's types say of a call of a client or of the lease manager: times have 32 bits
unfoldable pub OutsideTyped : OutsideCall → Type 0
OutsideTyped (start p) = Unit
OutsideTyped (issue x op p a) = Unit
OutsideTyped (resend x c) = Unit
OutsideTyped (receive x p) = Unit
OutsideTyped (open·lease t span) = t < word
OutsideTyped (renew x t span) = t < word
OutsideTyped (query x t) = t < word

-- what the interface's types say and the conclusion needs: buffers and a plan that a server is founded or recovered with are bytes, a lent
-- log's length has 64 bits, times have 32. It holds for arguments of every other size
unfoldable pub Typed : Event → Type 0
Typed (found c state log plan n) = Bytes state × Bytes plan
Typed (call c o l) = Counted l
Typed (inquire c i l) = Counted l
Typed (recover c state log plan) = Bytes state
Typed (checkpoint c v tail l) = Counted l
Typed (store c) = Unit
Typed (recover·tail c state k tail) = Bytes state
Typed (crash c k) = Unit
Typed (outside e) = OutsideTyped e

-- the client that packet p starts has not started before
abbrev pub StartedOnce : {S : Type 0} → WorldOf S → ℕ → Type 0
StartedOnce w p = (b : List ℕ) → packet w p ≡ some b → (start_of b).answer ≡ Ok tt → w.clients (start_of b).client.client ≡ none

-- the log that a running server has, or that a crash kept: what recovery may use
unfoldable pub kept_by : Server → Option (List ℕ)
kept_by nothing = none
kept_by (running k state log) = some log
kept_by (storing k log next state tail) = none
kept_by (crashed k kept mark) = some kept

-- a checkpoint is in force, and the slice begins with its bytes
pub record Begins (checkpoint slice : List ℕ) : Type 0 where
  pub some·bytes : 1 ≤ length checkpoint
  pub front : take (length checkpoint) slice ≡ checkpoint

-- the sync mark and the length of a server's log; all of it is synced while a checkpoint is being stored
unfoldable pub mark_of : Server → ℕ
mark_of nothing = 0
mark_of (running k state log) = (load state).mark
mark_of (storing k log next state tail) = length log
mark_of (crashed k kept mark) = mark

unfoldable pub length_of : Server → ℕ
length_of nothing = 0
length_of (running k state log) = length log
length_of (storing k log next state tail) = length log
length_of (crashed k kept mark) = length kept

-- the same counted from the founding, with what checkpoints replaced
unfoldable pub reach_of : Server → ℕ
reach_of s = (stored_of s).replaced + length_of s

-- event number n
unfoldable pub At : List Event → ℕ → Event → Type 0
At es n e = get_elem? es n ≡ some e

module _ (plan : List ℕ) (es : List Event) where
  pub record Provisos : Type 0 where
    -- what the interface's types say
    pub typed : (n : ℕ) (e : Event) → At es n e → Typed e
    -- "all cabinets have one plan, given again at each recovery"
    pub one-plan : (n c : ℕ) (state log p : List ℕ) (k : ℕ) → At es n (found c state log p k) → (found_of state log p k).answer.refusal ≡ no_refusal → p ≡ plan
    pub plan-again : (n c : ℕ) (state log p : List ℕ) → At es n (recover c state log p) → (recover_of state log p).answer.refusal ≡ no_refusal → p ≡ plan
    -- "and different numbers": a server is named by the number it was founded with
    pub own-number : (n c : ℕ) (state log p : List ℕ) (k : ℕ) → At es n (found c state log p k) → (found_of state log p k).answer.refusal ≡ no_refusal → k ≡ c
    -- "and are founded once": only a refused found is called again
    pub founded-once : (n c : ℕ) (state log p : List ℕ) (k : ℕ) → At es n (found c state log p k) → (found_of state log p k).answer.refusal ≡ no_refusal
        → (after es n).servers c ≡ nothing
    -- "a crash keeps a prefix of the log not shorter than its synced part", and "the last stored checkpoint whole"
    pub crash-keeps : (n c k : ℕ) → At es n (crash c k) → (mark_of ((after es n).servers c) ≤ k) × (k ≤ length_of ((after es n).servers c))
    -- "recovery uses that prefix": what the crash kept; without a crash, the log up to its recorded length (bytes past it are no log). No checkpoint is
    -- stored: recover cannot tell a tail from a whole log
    pub recovery_uses : (n c : ℕ) (state log p : List ℕ) → At es n (recover c state log p) → (recover_of state log p).answer.refusal ≡ no_refusal
        → (kept_by ((after es n).servers c) ≡ some log) × ((stored_of ((after es n).servers c)).checkpoint ≡ [])
    -- once a checkpoint is stored, "recovery uses these two only": it, whole, and what the crash kept of its own tail
    pub recovery_uses-both : (n c : ℕ) (state k tail : List ℕ) → At es n (recover·tail c state k tail) → (recover_tail_of state k tail).answer.refusal ≡ no_refusal
        → (kept_by ((after es n).servers c) ≡ some tail) × Begins (stored_of ((after es n).servers c)).checkpoint k
    -- "each client number starts one desk, once"
    pub started-once : (n p : ℕ) → At es n (outside (start p)) → StartedOnce (after es n) p
