-- The provisos of demand 3, each with the customer's words, as conditions on a schedule. These hold by the world's construction:
--     "packets and images are only those the parties made": an event names one by its number among those made
--     "only the operations change state and log": `running` holds what the last call left, and a call works on just that
--     "recovery uses that prefix": recover works on the records that the crash kept
--     "the lease office keeps its state": there is one manager, and each call of it gets what the last one left
-- Assumes nothing.
use Rattle.std.specs.Prelude.{ℕ, ◌≤◌, ◌≡◌, List}
use Rattle.std.proofs.Math.Option.{some}
use Rattle.std.proofs.Math.ListN.{get_elem?}
use Rattle.model.specs.States.{State}
use Rattle.claim.specs.World.{start}
use Rattle.claim.specs.Provisos.{Bytes, OutsideTyped, StartedOnce}
use Rattle.claim.specs.RecordWorld.{Event, found, call, recover, crash, outside}
use Rattle.claim.specs.RecordWorld.{Log, Server, nothing, running, crashed, found_of, recover_of, kept_by, after}

-- what the interface's types say and the conclusion needs, as over bytes. A log's length has no bound here: with checkpoints, places counted from the
-- founding may pass 64 bits
unfoldable pub Typed : Event → Type 0
Typed (found c plan n) = Bytes plan
Typed (call c o room) = Unit
Typed (recover c plan) = Unit
Typed (crash c k) = Unit
Typed (outside e) = OutsideTyped e

-- the sync mark and the length in bytes of a server's log
unfoldable pub mark_of : Server → ℕ
mark_of nothing = 0
mark_of (running st log) = st.mark
mark_of (crashed log k mark) = mark

unfoldable pub length_of : Server → ℕ
length_of nothing = 0
length_of (running st log) = st.size
length_of (crashed log k mark) = k

-- event number n
unfoldable pub At : List Event → ℕ → Event → Type 0
At es n e = get_elem? es n ≡ some e

module _ (plan : List ℕ) (es : List Event) where
  pub record Provisos : Type 0 where
    -- what the interface's types say
    pub typed : (n : ℕ) (e : Event) → At es n e → Typed e
    -- "all cabinets have one plan, given again at each recovery"
    pub one-plan : (n c : ℕ) (p : List ℕ) (k : ℕ) (st : State) → At es n (found c p k) → found_of p k ≡ some st → p ≡ plan
    pub plan-again : (n c : ℕ) (p : List ℕ) (log : Log) (st : State) → At es n (recover c p) → kept_by ((after es n).servers c) ≡ some log → recover_of p log ≡ some st
        → p ≡ plan
    -- "and different numbers": a server is named by the number it was founded with
    pub own-number : (n c : ℕ) (p : List ℕ) (k : ℕ) (st : State) → At es n (found c p k) → found_of p k ≡ some st → k ≡ c
    -- "and are founded once": only a refused found is called again
    pub founded-once : (n c : ℕ) (p : List ℕ) (k : ℕ) (st : State) → At es n (found c p k) → found_of p k ≡ some st → (after es n).servers c ≡ nothing
    -- "a crash keeps a prefix of the log not shorter than its synced part"
    pub crash-keeps : (n c k : ℕ) → At es n (crash c k) → (mark_of ((after es n).servers c) ≤ k) × (k ≤ length_of ((after es n).servers c))
    -- "each client number starts one desk, once"
    pub started-once : (n p : ℕ) → At es n (outside (start p)) → StartedOnce (after es n) p
