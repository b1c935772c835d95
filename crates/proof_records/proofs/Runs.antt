-- Every schedule under the provisos is followed by a run of the protocol, of as many changes.
--     follows                  every event
--     follows-run, followed    every schedule
--     run_of, like_at, matched-at, matched-back     the run, its worlds and changes
--     provided                 the provisos, event by event
-- Assumes nothing.
use Prim.Native.Nat.{ℕ, zero, suc}
use mathlib.Core.Path.{◌≡◌, refl, ap, subst}
use mathlib.Core.List.Memᴰ
use mathlib.Core.List.{List, [], ◌∷◌}
use mathlib.Core.Option.{some}
use native.Mathlib.Omega.{arith}
use lib.ListN.{length, take, get_elem?}
use Rattle.model.specs.declared.PlanEntry.{PlanEntry}
use Rattle.model.specs.Plan.{plan_of}
use Rattle.model_laws.proofs.LeasesKept.{new_well}
use Rattle.proof_protocol.specs.World as W
use Rattle.proof_protocol.specs.Allowed.{Run, ended, then}
use Rattle.claim.specs.World.{start}
use Rattle.claim.specs.RecordWorld.{World, Event, step, run, run_from, after, empty_world}
use Rattle.claim.specs.RecordWorld as R
use Rattle.claim.specs.RecordProvisos.{Typed, Provisos, At}
use Rattle.proof_records.specs.Worlds.{WorldLike}
use Rattle.proof_records.specs.Provided.{Provided}
use Rattle.proof_records.specs.Matched.{Matched, Stepped, Follows, done, more, Pairing}
use Rattle.proof_records.proofs.Worlds.{like-nothing}
use Rattle.proof_records.proofs.Calls.{call_step}
use Rattle.proof_records.proofs.Starts.{found-step, recover-step, crash-step}
use Rattle.proof_records.proofs.Parties.{outside-step}

-- ---- an event

pub follows : (plan : List ℕ) {w : World} {v : W.World} → WorldLike (plan_of plan) w v → (e : Event) → Provided plan w e → Stepped (plan_of plan) w v e
unfolding Typed
follows plan l (R.found c p k) a = found-step plan l c p k a.typed (λ st z. a.founds c p k st refl z)
follows plan l (R.call c o r) a = call_step l c r o
follows plan l (R.recover c p) a = recover-step plan l c p (λ log st q z. a.recovers c p log st refl q z)
follows plan l (R.crash c k) a = crash-step l c k (a.crashes c k refl).0
follows plan l (R.outside e) a = outside-step l e a.typed (λ p q. a.starts p (ap R.outside q))

-- the provisos, event by event
pub provided : (plan : List ℕ) (es : List Event) → Provisos plan es → (n : ℕ) (e : Event) → At es n e → Provided plan (after es n) e
provided plan es P n e a =
    record {
      typed = P.typed n e a;
      founds =
          λ c p k st q z.
          let b = subst (At es n) q a in
          record { one-plan = P.one-plan n c p k st b z; own-number = P.own-number n c p k st b z; once = P.founded-once n c p k st b z };
      recovers = λ c p log st q k z. P.plan-again n c p log st (subst (At es n) q a) k z;
      crashes = λ c k q. P.crash-keeps n c k (subst (At es n) q a);
      starts = λ p q. P.started-once n p (subst (At es n) q a);
    }

-- and back
pub provisos_of : (plan : List ℕ) (es : List Event) → ((n : ℕ) (e : Event) → At es n e → Provided plan (after es n) e) → Provisos plan es
provisos_of plan es D =
    record {
      typed = λ n e a. (D n e a).typed;
      one-plan = λ n c p k st a z. ((D n (R.found c p k) a).founds c p k st refl z).one-plan;
      plan-again = λ n c p log st a x z. (D n (R.recover c p) a).recovers c p log st refl x z;
      own-number = λ n c p k st a z. ((D n (R.found c p k) a).founds c p k st refl z).own-number;
      founded-once = λ n c p k st a z. ((D n (R.found c p k) a).founds c p k st refl z).once;
      crash-keeps = λ n c k a. (D n (R.crash c k) a).crashes c k refl;
      started-once = λ n p a. (D n (R.outside (start p)) a).starts p refl;
    }

-- ---- a schedule

pub follows-run : (plan : List ℕ) (es : List Event) (w : World) (v : W.World) → WorldLike (plan_of plan) w v
    → ((n : ℕ) (e : Event) → get_elem? es n ≡ some e → Provided plan (run_from w (take n es)) e) → (cs : List W.Change) × Follows (plan_of plan) w v es cs
unfolding run_from
follows-run plan [] w v l ok = ([], done l)
follows-run plan (e ∷ es) w v l ok =
    let s = follows plan l e (ok zero e refl) in
    let r = follows-run plan es (step w e) (W.step v s.change) s.like (λ n x q. ok (suc n) x q) in
    (s.change ∷ r.0, more l s.allowed s.matched r.1)

module _ {plan : List PlanEntry} where
  pub run_of : {w : World} {v : W.World} {es : List Event} {cs : List W.Change} → Follows plan w v es cs → Run plan v cs
  run_of (done l) = ended
  run_of (more l a m f) = then a (run_of f)

  pub same_length : {w : World} {v : W.World} {es : List Event} {cs : List W.Change} → Follows plan w v es cs → length es ≡ length cs
  same_length (done l) = refl
  same_length (more l a m f) = ap suc (same_length f)

  pub like_at : {w : World} {v : W.World} {es : List Event} {cs : List W.Change} → Follows plan w v es cs → (n : ℕ)
      → WorldLike plan (run_from w (take n es)) (W.run_from v (take n cs))
  unfolding run_from W.run_from
  like_at (done l) zero = l
  like_at (done l) (suc n) = l
  like_at (more l a m f) zero = l
  like_at (more l a m f) (suc n) = like_at f n

  pub matched-at : {w : World} {v : W.World} {es : List Event} {cs : List W.Change} → Follows plan w v es cs → (n : ℕ) (e : Event) → get_elem? es n ≡ some e
      → (a : W.Change) × Pairing w v es cs n e a
  unfolding run_from W.run_from
  matched-at (done l) n e q = let z : ◌≡◌ {A = ℕ} 0 1 = cc in absurd (omega arith)
  matched-at (more {w = w} {v = v} {e = x} {a = a} l k m f) zero e q =
      let z : x ≡ e = cc in (a, record { here = q; there = refl; matched = subst (λ (y : Event). Matched w v (W.step v a) y a) z m })
  matched-at (more l a m f) (suc n) e q = let r = matched-at f n e q in (r.0, record { here = r.1.here; there = r.1.there; matched = r.1.matched })

  pub matched-back : {w : World} {v : W.World} {es : List Event} {cs : List W.Change} → Follows plan w v es cs → (n : ℕ) (a : W.Change) → get_elem? cs n ≡ some a
      → (e : Event) × Pairing w v es cs n e a
  unfolding run_from W.run_from
  matched-back (done l) n a q = let z : ◌≡◌ {A = ℕ} 0 1 = cc in absurd (omega arith)
  matched-back (more {w = w} {v = v} {e = e} {a = x} l k m f) zero a q =
      let z : x ≡ a = cc in (e, record { here = refl; there = q; matched = subst (λ (y : W.Change). Matched w v (W.step v x) e y) z m })
  matched-back (more l a m f) (suc n) b q = let r = matched-back f n b q in (r.0, record { here = r.1.here; there = r.1.there; matched = r.1.matched })

pub empty-like : (plan : List PlanEntry) → WorldLike plan empty_world W.empty_world
unfolding empty_world W.empty_world
empty-like plan =
    record {
      servers = λ c. like-nothing refl;
      clients = λ x. refl;
      manager = refl;
      made = λ b m. absurd (Memᴰ.not-nil m);
      started = λ x d e. let z : ◌≡◌ {A = ℕ} 0 1 = cc in absurd (omega arith);
      leases = new_well;
    }

-- a schedule under the provisos
pub followed : (plan : List ℕ) (es : List Event) → Provisos plan es → (cs : List W.Change) × Follows (plan_of plan) empty_world W.empty_world es cs
unfolding after run At
followed plan es P = follows-run plan es empty_world W.empty_world (empty-like (plan_of plan)) (λ n e q. provided plan es P n e q)
