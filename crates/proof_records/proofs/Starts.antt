-- Found, recover and crash, each followed by a change.
--     log-cut                  a log cut in both worlds
--     kept-recovers            recovery of a log gives its replay
--     found-step, recover-step, crash-step
-- Assumes nothing.
use Prim.Native.Nat.{ℕ, ◌≤◌}
use mathlib.Core.Path.{◌≡◌, refl, sym, ◌∙◌, ap, subst}
use mathlib.Core.Bool.{true}
use mathlib.Core.List.{List, []}
use mathlib.Core.Option.{Option, none, some}
use native.Mathlib.Omega.{arith}
use lib.Dec.{leb}
use lib.ListN.{length, drop}
use Rattle.model.specs.declared.PlanEntry.{PlanEntry}
use Rattle.model.specs.Limits.{last_server}
use Rattle.model.specs.Tables.{keep}
use Rattle.model.specs.Plan.{plan_ok, plan_of}
use Rattle.model.specs.Logs.{Entry}
use Rattle.model.specs.States.{State}
use Rattle.model.specs.Apply.{founded, replay_from, replay, with_mark}
use Rattle.model_invariants.proofs.Loaded.{plan-good}
use Rattle.proof_protocol.specs.Servers as S
use Rattle.proof_protocol.specs.World as W
use Rattle.proof_protocol.specs.Allowed as P
use Rattle.proof_protocol.proofs.Basics.{eqb_same}
use Rattle.proof_protocol.proofs.Logs.{Tail, Tail-drop, Tail-short}
use Rattle.claim.specs.World.{with_server}
use Rattle.claim.specs.Provisos.{Bytes}
use Rattle.claim.specs.RecordWorld.{World, Server, Log, nothing, running, crashed, kept_by, found_of, founds, recover_of, recovered_from, recovers_to, recovers_from, step}
use Rattle.claim.specs.RecordWorld as R
use Rattle.claim.specs.RecordProvisos.{mark_of, length_of}
use Rattle.proof_records.specs.Likeness.{Pair, entries_in, abstract_in, place_of, Chain, Rising, lost, cut_at}
use Rattle.proof_records.specs.Worlds.{LogLike, WorldLike}
use Rattle.proof_records.specs.Provided.{FoundOk}
use Rattle.proof_records.specs.Matched.{bytes_in, Cut, cut, other, Stepped, Quiet}
use Rattle.proof_records.proofs.Places.{place_all, place-most, abstract-length, cut-entries, cut-abstract, cut-place, cut-room, cut-length, cut-within}
use Rattle.proof_records.proofs.Replays.{chain-alike, chain-recovers, chain-drop}
use Rattle.proof_records.proofs.Inverted.{found-shown, recover-shown}
use Rattle.proof_records.proofs.Worlds.{crash-kept, crash-none, like-running, log-marked, like-crashed, idle-step, like-server}
use Rattle.proof_records.proofs.Sizes.{chain-bytes, chain-most, place-bytes}
use Rattle.proof_records.proofs.Calls.{some_same}

-- ---- crash

-- a log cut at k, in both worlds
module _ {plan : List PlanEntry} {c : ℕ} {log : Log} {mark size : ℕ} {x : W.Server} (K : LogLike plan c log mark size x) (k : ℕ) where
  abbrev ps : List Pair
  ps = K.pairs

  rising : Rising ps
  rising = (chain-alike plan c K.good K.server ps K.chain).rising

  kept : Chain plan c (cut_at ps k)
  unfolding cut_at
  kept = chain-drop plan c (lost ps k) ps K.chain

  most : mark ≤ k → (replay plan c (entries_in (cut_at ps k))).size ≤ k
  most low = chain-most plan c (cut_at ps k) k (omega (arith, K.head)) (cut-within ps k rising)

  log-left : drop (lost ps k) x.log ≡ abstract_in (cut_at ps k)
  log-left = ap (drop (lost ps k)) K.same ∙ sym (cut-abstract ps k)

  pub log-cut : (t : ℕ) → mark ≤ k → LogLike plan c (R.cut_at k log) mark k (W.server_after t x (W.crashes (lost ps k)))
  unfolding W.server_after R.cut_at
  log-cut t low =
      record {
        pairs = cut_at ps k;
        founded = K.founded;
        same = log-left;
        marked = K.marked ∙ sym (cut-place ps k mark rising low);
        good = K.good;
        server = K.server;
        number = K.number;
        entries = ap (keep (λ (e : Entry). leb e.end k)) K.entries ∙ sym (cut-entries ps k rising);
        chain = kept;
        head = K.head;
        synced = low;
        within = most low;
      }

module _ {plan : List PlanEntry} {w : World} {v : W.World} (l : WorldLike plan w v) (c k : ℕ) (low : mark_of (w.servers c) ≤ k) where
  -- a server that has a log
  module _ (log : Log) (q : kept_by (w.servers c) ≡ some log) where
    abbrev K : LogLike plan c log (mark_of (w.servers c)) (length_of (w.servers c)) (v.servers c)
    K = (l.servers c).kept log q

    abbrev zs : List Pair
    zs = K.pairs

    crash-like : WorldLike plan (with_server c (crashed (R.cut_at k log) k (mark_of (w.servers c))) w) (W.step v (W.server c (W.crashes (lost zs k))))
    crash-like =
        like-server l c (crashed (R.cut_at k log) k (mark_of (w.servers c))) (W.crashes (lost zs k))
        (like-crashed (R.cut_at k log) k (mark_of (w.servers c)) (log-cut K k v.clock low))

    log-after : ((W.step v (W.server c (W.crashes (lost zs k)))).servers c).log ≡ abstract_in (cut_at zs k)
    unfolding W.step W.server_after
    log-after = rw (eqb_same c) (log-left K k)

    crash-cut : Cut v (W.step v (W.server c (W.crashes (lost zs k)))) c k
    crash-cut = record { stays = stays; most = rw (log-after, ← chain-bytes plan c (cut_at zs k) (kept K k)) (most K k low) }
      where
        stays : (t : List S.Entry) → Tail t (v.servers c).log → bytes_in t ≤ k → Tail t ((W.step v (W.server c (W.crashes (lost zs k)))).servers c).log
        stays t u le =
            let u' : Tail t (abstract_in zs) = subst (Tail t) K.same u in
            let n : length t ≤ length (abstract_in (cut_at zs k)) = rw (cut-length zs k) (place-bytes plan c K.good K.server k t le zs K.chain u') in
            let d : Tail (abstract_in (cut_at zs k)) (abstract_in zs) = rw (cut-abstract zs k) (Tail-drop (lost zs k) (abstract_in zs)) in
            subst (Tail t) (sym log-after) (Tail-short u' d n)

    crash_of : Stepped plan w v (R.crash c k)
    unfolding step
    crash_of =
        record {
          change = W.server c (W.crashes (lost zs k));
          allowed = P.crashing c (lost zs k) K.founded (rw (K.marked, K.same) (cut-room zs k _ low));
          like = rw (crash-kept c w k (w.servers c) log q) crash-like;
          matched = cut c k (lost zs k) crash-cut;
        }

  pub crash-step : Stepped plan w v (R.crash c k)
  crash-step = go (kept_by (w.servers c)) refl
    where
      go : (o : Option Log) → kept_by (w.servers c) ≡ o → Stepped plan w v (R.crash c k)
      go none q =
          idle-step l (R.crash c k) (unfold step in crash-none c w k (w.servers c) q) (unfold Quiet in q)
      go (some log) q = crash_of log q

-- ---- found and recover; the plan is the schedule's

-- what recovery gives of a log is its replay
pub kept-recovers : (plan : List ℕ) {c : ℕ} {log : Log} {m n : ℕ} {x : W.Server} → LogLike (plan_of plan) c log m n x
    → recovered_from plan log ≡ some (replay (plan_of plan) c log.entries)
unfolding recovered_from
kept-recovers plan {c} H = rw (H.number, H.entries) (chain-recovers (plan_of plan) c H.good H.server H.pairs H.chain)

module _ (plan : List ℕ) {w : World} {v : W.World} (l : WorldLike (plan_of plan) w v) (c : ℕ) (p : List ℕ) where
  founded-like : (st : State) → st ≡ founded (plan_of plan) c → plan_ok plan ≡ true → Bytes plan → c ≤ last_server
      → WorldLike (plan_of plan) (with_server c (running st (record { number = c; entries = [] })) w) (W.step v (W.server c W.founds))
  unfolding W.server_after founded replay replay_from with_mark abstract_in entries_in place_of Bytes
  founded-like st e ok b h =
      rw e
      (like-server l c (running (founded (plan_of plan) c) (record { number = c; entries = [] })) W.founds
      (like-running (founded (plan_of plan) c) (record { number = c; entries = [] })
      (record {
        pairs = [];
        founded = refl;
        same = refl;
        marked = refl;
        good = plan-good plan b ok;
        server = h;
        number = refl;
        entries = refl;
        chain = tt;
        head = omega arith;
        synced = omega arith;
        within = omega arith;
      })
      (record { is = refl })))

  module _ (n : ℕ) (b : Bytes p) (F : (st : State) → found_of p n ≡ some st → FoundOk plan nothing (w.servers c) c p n) where
    found-runs : (st : State) → found_of p n ≡ some st → Stepped (plan_of plan) w v (R.found c p n)
    unfolding step founds kept_by Quiet
    found-runs st e =
        let f = F st e in
        let k = found-shown p n st e in
        let h : c ≤ last_server = omega (arith, f.own-number, k.1) in
        let s : st ≡ founded (plan_of plan) c = k.2 ∙ rw (f.one-plan, f.own-number) in
        record {
          change = W.server c W.founds;
          allowed = P.founding c ((l.servers c).absent (ap kept_by f.once));
          like =
              rw (e, f.own-number)
              (founded-like st s (subst (λ (x : List ℕ). plan_ok x ≡ true) f.one-plan k.0) (subst Bytes f.one-plan b) h);
          matched = other (R.found c p n) _ tt tt;
        }

    pub found-step : Stepped (plan_of plan) w v (R.found c p n)
    unfolding step founds Quiet
    found-step = go (found_of p n) refl
      where
        go : (o : Option State) → found_of p n ≡ o → Stepped (plan_of plan) w v (R.found c p n)
        go none e = idle-step l (R.found c p n) (rw e) tt
        go (some st) e = found-runs st e

  module _ (log : Log) (q : kept_by (w.servers c) ≡ some log) where
    abbrev H : LogLike (plan_of plan) c log (mark_of (w.servers c)) (length_of (w.servers c)) (v.servers c)
    H = (l.servers c).kept log q

    recover-runs : (st : State) → recover_of p log ≡ some st → p ≡ plan → Stepped (plan_of plan) w v (R.recover c p)
    unfolding step recovers_from recovers_to Quiet with_mark
    recover-runs st e one =
        let ys = H.pairs in
        let r = replay (plan_of plan) c (entries_in ys) in
        let A = chain-alike (plan_of plan) c H.good H.server ys H.chain in
        let s : st ≡ replay (plan_of plan) c log.entries = some_same (recover-shown plan log st (subst (λ (x : List ℕ). recover_of x log ≡ some st) one e)) (kept-recovers plan H) in
        let t : st.size ≡ r.size = ap (λ (x : State). x.size) s ∙ ap (λ (es : List Entry). (replay (plan_of plan) c es).size) H.entries in
        let all : place_of ys st.size ≡ length ys = ap (place_of ys) t ∙ place_all ys r.size A.within in
        record {
          change = W.server c (W.syncs (place_of ys st.size));
          allowed = P.syncing c (place_of ys st.size) H.founded (rw (H.marked, all) (place-most ys _)) (rw (H.same, all) (omega (arith, abstract-length ys)));
          like =
              rw (q, e)
              (like-server l c (running (with_mark st.size st) log) (W.syncs (place_of ys st.size))
              (like-running (with_mark st.size st) log (log-marked H v.clock st.size st.size (omega (arith, A.sound.head, A.sound.mark)) (omega arith) (omega (arith, t)))
              (record { is = ap (with_mark st.size) s })));
          matched = other (R.recover c p) _ tt tt;
        }

  pub recover-step : ((log : Log) (st : State) → kept_by (w.servers c) ≡ some log → recover_of p log ≡ some st → p ≡ plan) → Stepped (plan_of plan) w v (R.recover c p)
  unfolding step recovers_from recovers_to Quiet
  recover-step F = go (kept_by (w.servers c)) refl
    where
      with_log : (log : Log) → kept_by (w.servers c) ≡ some log → (o : Option State) → recover_of p log ≡ o → Stepped (plan_of plan) w v (R.recover c p)
      with_log log q none e = idle-step l (R.recover c p) (rw (q, e)) tt
      with_log log q (some st) e = recover-runs log q st e (F log st q e)

      go : (o : Option Log) → kept_by (w.servers c) ≡ o → Stepped (plan_of plan) w v (R.recover c p)
      go none q = idle-step l (R.recover c p) (rw q) tt
      go (some log) q = with_log log q (recover_of p log) refl
