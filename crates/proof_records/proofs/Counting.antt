-- The state that a server counts with, and the one that recovery gives from its synced records, in both worlds.
--     given-counts, founded-given     the state that a server counts with
--     synced-heard                    the heard time of its synced records
-- Assumes nothing.
use Prim.Native.Nat.{ℕ, ◌-◌}
use mathlib.Core.Path.{◌≡◌, refl, sym, ◌∙◌, ap}
use mathlib.Core.Bool.{true}
use mathlib.Core.List.{List}
use mathlib.Core.Logic.{◌⊎◌, inl, inr}
use mathlib.Core.Option.{Option, none, some}
use native.Mathlib.Omega.{arith}
use lib.ListN.{length, drop}
use Rattle.model.specs.declared.PlanEntry.{PlanEntry}
use Rattle.model.specs.Plan.{plan_of}
use Rattle.model.specs.States.{State}
use Rattle.model.specs.Apply.{replay}
use Rattle.proof_protocol.specs.Servers as S
use Rattle.proof_protocol.specs.World as W
use Rattle.proof_protocol.specs.Fence as PF
use Rattle.proof_protocol.proofs.Basics.{impossible}
use Rattle.claim.specs.RecordWorld.{World, Log, kept_by, recovered_from}
use Rattle.claim.specs.RecordWorld as R
use Rattle.claim.specs.RecordProvisos.{mark_of}
use Rattle.claim.specs.RecordClaim.{state_given}
use Rattle.claim.specs.RecordFence.{synced_state}
use Rattle.proof_records.specs.Likeness.{Pair, Alike, lost}
use Rattle.proof_records.specs.Worlds.{Running, LogLike, WorldLike}
use Rattle.proof_records.proofs.Places.{abstract-length}
use Rattle.proof_records.proofs.Replays.{chain-alike}
use Rattle.proof_records.proofs.Worlds.{given_either, given-kept, synced-kept}
use Rattle.proof_records.proofs.Calls.{running-like, running-alike, some_same}
use Rattle.proof_records.proofs.Starts.{kept-recovers, log-cut}

-- what recovery gives of a log is alike to the protocol's replay
recovered-alike : (plan : List ℕ) {c : ℕ} {log : Log} {m n : ℕ} {x : W.Server} (K : LogLike (plan_of plan) c log m n x) (st : State) → recovered_from plan log ≡ some st
    → Alike (plan_of plan) c K.pairs st (S.replay (plan_of plan) c x.log)
recovered-alike plan {c} K st r =
    let s : st ≡ replay (plan_of plan) c _ = some_same r (kept-recovers plan K) ∙ ap (replay (plan_of plan) c) K.entries in
    rw (s, K.same) (chain-alike (plan_of plan) c K.good K.server K.pairs K.chain)

-- the protocol's synced log is what a crash at the mark would leave
synced-log : {plan : List PlanEntry} {c : ℕ} {log : Log} {m n : ℕ} {x : W.Server} (K : LogLike plan c log m n x) (t : ℕ)
    → PF.synced_log x ≡ (W.server_after t x (W.crashes (lost K.pairs m))).log
unfolding PF.synced_log W.server_after lost
synced-log {x = x} K t =
    ap (λ (k : ℕ). drop k x.log) (ap (λ (k : ℕ). k - x.mark) (ap length K.same ∙ abstract-length K.pairs) ∙ ap (λ (k : ℕ). length K.pairs - k) K.marked)

module _ (plan : List ℕ) {w : World} {v : W.World} (l : WorldLike (plan_of plan) w v) where
  -- server c is founded, and st is its state in the protocol
  pub record Counts (c : ℕ) (st : State) : Type 0 where
    pub founded : (v.servers c).founded ≡ true
    pub pairs : List Pair
    pub alike : Alike (plan_of plan) c pairs st (W.state_of (plan_of plan) v c)

  module _ (c : ℕ) where
    pub given-counts : (st : State) → state_given plan (w.servers c) ≡ some st → Counts c st
    given-counts st e = go (given_either plan (w.servers c) st e)
      where
        go : ((log : Log) × Running (w.servers c) st log) ⊎ ((log : Log) × (kept_by (w.servers c) ≡ some log) × (recovered_from plan log ≡ some st)) → Counts c st
        go (inl (log, u)) = record { founded = (running-like l c st log u).founded; pairs = _; alike = running-alike l c st log u }
        go (inr (log, q, r)) =
            let K = (l.servers c).kept log q in
            record { founded = K.founded; pairs = K.pairs; alike = unfold W.state_of in recovered-alike plan K st r }

    pub founded-given : (v.servers c).founded ≡ true → (st : State) × (state_given plan (w.servers c) ≡ some st)
    founded-given f = go (kept_by (w.servers c)) refl
      where
        go : (o : Option Log) → kept_by (w.servers c) ≡ o → (st : State) × (state_given plan (w.servers c) ≡ some st)
        go none q = impossible (sym f ∙ (l.servers c).absent q)
        go (some log) q = given-kept plan (w.servers c) log q (_, kept-recovers plan ((l.servers c).kept log q))

    pub synced-heard : (st : State) → synced_state plan (w.servers c) ≡ some st → (S.replay (plan_of plan) c (PF.synced_log (v.servers c))).heard ≡ st.heard
    synced-heard st e =
        let r = synced-kept plan (w.servers c) st e in
        let K = (l.servers c).kept r.0 r.1 in
        let m = mark_of (w.servers c) in
        let C : LogLike (plan_of plan) c (R.cut_at m r.0) m m _ = log-cut K m v.clock (omega arith) in
        rw (synced-log K v.clock) (recovered-alike plan C st r.2).like.heard
