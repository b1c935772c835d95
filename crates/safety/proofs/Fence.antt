-- The fence over bytes, from the fence over states and log records: what executes or is fenced off over bytes is so over records, and what is
-- issued over records is issued over bytes.
--     same-synced              the state that recovery gives from the synced part of a log, places of the log aside
--     fenced_here              a client fenced off from a point
--     fence-from-records
-- Assumes nothing.
use Prim.Native.Nat.{ℕ}
use mathlib.Core.Path.{◌≡◌, refl, sym, ◌∙◌, ap}
use mathlib.Core.List.{List}
use native.Mathlib.Omega.{arith}
use lib.ListN.{take}
use lib.Seq.{take_all}
use Rattle.model.specs.Logs.{head_ok, ends_of}
use Rattle.model.specs.States.{State, load, point_at, is_held}
use Rattle.model.specs.Operations.{recovered_on, recovered_state}
use Rattle.model.specs.Checkpoints.{placed, placed_point}
use Rattle.model_invariants.specs.Placed.{seen_from}
use Rattle.claim.specs.World as B
use Rattle.claim.specs.Provisos as BP
use Rattle.claim.specs.Claim as BC
use Rattle.claim.specs.Fence.{NoticedIn}
use Rattle.claim.specs.Fence as BF
use Rattle.claim.specs.RecordWorld as R
use Rattle.claim.specs.RecordFence as RF
use Rattle.safety.specs.Alike.{RunningAlike, ServerAlike, nothing, running, storing, crashed, Shown, neither}
use Rattle.safety.specs.Decoded.{schedule}
use Rattle.safety.proofs.Worlds.{running-mark, running-size}
use Rattle.safety.proofs.Crashes.{holds_kept}
use Rattle.safety.proofs.Tails.{synced-shown}
use Rattle.safety.proofs.Runs.{both_at, provisos_here}
use Rattle.safety.proofs.Carried.{point-seen, shown-here}
use Rattle.safety.proofs.FromRecords.{issues-there, executes-here, packet-here, same-given}

-- one that stores a checkpoint has synced all
all_synced : {plan : List ℕ} {c : ℕ} {st : State} {log : R.Log} {k : B.Stored} {state bytes : List ℕ} → RunningAlike plan c st log k state bytes → st.mark ≡ st.size
    → take (load state).mark bytes ≡ bytes
all_synced {state = state} {bytes = bytes} K e = take_all (load state).mark bytes (omega (arith, e, running-mark K, running-size K))

-- what recovery gives from the synced part of a server's log, which is what a crash at the mark would keep
pub same-synced : (plan : List ℕ) (c : ℕ) {x : R.Server} {y : B.Server} → ServerAlike plan c x y
    → Shown (BF.synced_state plan y) (RF.synced_state plan x)
unfolding BF.synced_state BF.synced_part B.stored_of RF.synced_state
same-synced plan c nothing = unfold BC.recovered_by recovered_state recovered_on ends_of head_ok in neither
same-synced plan c (running K) = rw (running-mark K) (synced-shown K.continues (holds_kept K.holds))
same-synced plan c (storing K e L) =
    rw (running-mark K) (rw (all_synced K e) at (synced-shown K.continues (holds_kept K.holds)))
same-synced plan c (crashed K) = rw K.marked at (synced-shown K.continues K.keeps)

-- ---- a state, places of the log aside

held-seen : (b : ℕ) (st : State) (p : ℕ) → is_held (point_at (seen_from b st) p) ≡ is_held (point_at st p)
unfolding is_held placed_point
held-seen b st p = ap is_held (point-seen b st p)

heard-seen : (b : ℕ) (st : State) → (seen_from b st).heard ≡ st.heard
unfolding seen_from placed
heard-seen b st = refl

module _ (plan : List ℕ) (ys : List B.Event) (P : BP.Provisos plan ys) where
  notice-here : (n x time : ℕ) → NoticedIn (B.after ys n) x time → NoticedIn (R.after (schedule plan ys) n) x time
  notice-here n x time i =
      record {
        number = i.number;
        bytes = i.bytes;
        made = packet-here plan ys P n i.number ∙ i.made;
        notice = i.notice;
        parsed = i.parsed;
        client = i.client;
        at = i.at;
      }

  pub fenced_here : (n x p : ℕ) → BF.Fenced plan ys n x p → RF.Fenced plan (schedule plan ys) n x p
  fenced_here n x p f =
      let c = f.server in
      let s = (both_at plan ys P n).alike.servers c in
      let u = shown-here (same-given plan c s) f.state f.counts in
      let v = shown-here (same-synced plan c s) f.kept f.recovered in
      record {
        server = c;
        state = u.1;
        counts = u.2;
        holds = sym (held-seen u.0 u.1 p) ∙ ap (λ (z : State). is_held (point_at z p)) (sym u.3) ∙ f.holds;
        kept = v.1;
        recovered = v.2;
        time = f.time;
        noticed = notice-here n x f.time f.noticed;
        heard = omega (arith, f.heard, ap (λ (z : State). z.heard) v.3, heard-seen v.0 v.1);
      }

pub fence-from-records : RF.Fence → BF.Fence
unfolding RF.Fence BF.Fence
fence-from-records H plan ys P =
    let F = H plan (schedule plan ys) (provisos_here plan ys P) in
    record {
      issued = λ n c m e. let i = F.issued n c m (executes-here plan ys P n c m e) in (i.0, i.1, issues-there plan ys P i.0 _ i.2);
      fence = λ n x p f i c m h e. F.fence n x p (fenced_here plan ys P n x p f) i c m h (executes-here plan ys P i c m e);
    }
