-- The provisos of an event over bytes are those of its event over records.
--     decodes
-- Assumes nothing.
use Prim.Native.Nat.{ℕ, ◌+◌, ◌≤◌}
use mathlib.Core.Path.{◌≡◌, refl, sym, ◌∙◌, ap, subst}
use mathlib.Core.Bool.{Bool, true, false}
use mathlib.Core.List.{List, []}
use mathlib.Core.Option.{none, some}
use native.Mathlib.Omega.{arith}
use lib.Dec.{eqb}
use borrow.Author.Tests.{eqb-true}
use Rattle.model.specs.Choice.{pick}
use Rattle.model.specs.Plan.{plan_ok}
use Rattle.model.specs.States.{State}
use Rattle.model.specs.Versions.{Versions, today}
use Rattle.model.specs.Operations.{After, found_of, recover_of}
use Rattle.model.specs.Checkpoints.{recover_tail_of}
use Rattle.model.specs.Clients.{start_of}
use Rattle.model.specs.Calls.{OperationOf, request, fetch, sync, notice, give, image, take_in, receipt, release}
use Rattle.model.specs.Refusals.{no_refusal}
use Rattle.model_laws.proofs.Numbers.{bytes-nil}
use Rattle.model_invariants.specs.Calls.{output_size, has_output, output}
use Rattle.claim.specs.World.{OutsideCall, start}
use Rattle.claim.specs.World as B
use Rattle.claim.specs.Provisos as BP
use Rattle.claim.specs.RecordWorld as R
use Rattle.claim.specs.RecordProvisos as RP
use Rattle.proof_records.specs.Provided.{FoundOk, Provided}
use Rattle.safety.specs.Alike.{WorldAlike, whole}
use Rattle.safety.specs.Allowed.{RecoverOk, Allowed, Decodes}
use Rattle.safety.specs.Decoded.{room_of, place_of, plan_if, idle, decoded}
use Rattle.safety.proofs.Worlds.{same-packet, same-client, nothing-back, alike-mark, alike-reach}

apart : {A : Type 0} → ◌≡◌ {A = ℕ} 0 1 → A
apart e = absurd (omega arith)

-- a plan, or none
plan-bytes : (a : After) (p : List ℕ) → BP.Bytes p → BP.Bytes (plan_if a p)
unfolding plan_if BP.Bytes
plan-bytes a p s = go (eqb a.answer.refusal no_refusal)
  where
    go : (t : Bool) → BP.Bytes (pick t p [])
    go true = s
    go false = bytes-nil

-- counted from the founding, a request is that request, and no other operation is one
whole-request : {P : Type 0} (b : ℕ) (o : OperationOf P) (vs : Versions) (p : P) → whole b o ≡ request vs p → o ≡ request vs p
unfolding whole
whole-request b (request v x) vs p e = e
whole-request b (fetch v x c) vs p e = apart (cc)
whole-request b (sync m) vs p e = apart (cc)
whole-request b (notice x) vs p e = apart (cc)
whole-request b (give x d) vs p e = apart (cc)
whole-request b (image v x) vs p e = apart (cc)
whole-request b (take_in x) vs p e = apart (cc)
whole-request b (receipt x) vs p e = apart (cc)
whole-request b (release x) vs p e = apart (cc)

module _ (plan : List ℕ) {r : R.World} {b : B.World} (l : WorldAlike plan r b) where
  -- found and recover that succeed over records succeed over bytes
  found_ok : (c : ℕ) (state log p : List ℕ) (n : ℕ) → ((found_of state log p n).answer.refusal ≡ no_refusal → FoundOk plan B.nothing (b.servers c) c p n) → (st : State)
      → R.found_of (plan_if (found_of state log p n) p) n ≡ some st → FoundOk plan R.nothing (r.servers c) c (plan_if (found_of state log p n) p) n
  unfolding plan_if R.found_of plan_ok
  found_ok c state log p n a st = go (eqb (found_of state log p n).answer.refusal no_refusal) refl
    where
      go : (t : Bool) → eqb (found_of state log p n).answer.refusal no_refusal ≡ t → R.found_of (pick t p []) n ≡ some st → FoundOk plan R.nothing (r.servers c) c (pick t p []) n
      go true e s = let f = a (eqb-true _ _ e) in record { one-plan = f.one-plan; own-number = f.own-number; once = nothing-back (l.servers c) f.once }
      go false e s = let k : R.found_of [] n ≡ none = refl in apart (cc)

  recover-ok : (c : ℕ) (state log p : List ℕ) → ((recover_of state log p).answer.refusal ≡ no_refusal → RecoverOk plan (b.servers c) log p) → (g : R.Log) (st : State)
      → R.recover_of (plan_if (recover_of state log p) p) g ≡ some st → plan_if (recover_of state log p) p ≡ plan
  unfolding plan_if R.recover_of plan_ok
  recover-ok c state log p a g st = go (eqb (recover_of state log p).answer.refusal no_refusal) refl
    where
      go : (t : Bool) → eqb (recover_of state log p).answer.refusal no_refusal ≡ t → R.recover_of (pick t p []) g ≡ some st → pick t p [] ≡ plan
      go true e s = (a (eqb-true _ _ e)).one-plan
      go false e s = let k : R.recover_of [] g ≡ none = refl in apart (cc)

  -- checkpoint and tail, with the one plan
  tail-ok : (a : After) (g : R.Log) (st : State) → R.recover_of (plan_if a plan) g ≡ some st → plan_if a plan ≡ plan
  unfolding plan_if R.recover_of plan_ok
  tail-ok a g st = go (eqb a.answer.refusal no_refusal)
    where
      go : (t : Bool) → R.recover_of (pick t plan []) g ≡ some st → pick t plan [] ≡ plan
      go true s = refl
      go false s = let k : R.recover_of [] g ≡ none = refl in apart (cc)

  -- a crash keeps as much of the whole log
  crash-ok : (c n : ℕ) → BP.mark_of (b.servers c) ≤ n → n ≤ BP.length_of (b.servers c)
      → (RP.mark_of (r.servers c) ≤ place_of (b.servers c) n) × (place_of (b.servers c) n ≤ RP.length_of (r.servers c))
  unfolding place_of BP.reach_of
  crash-ok c n low high = (omega (arith, low, alike-mark (l.servers c)), omega (arith, high, alike-reach (l.servers c)))

  place_is : (c n k : ℕ) → k ≡ place_of (b.servers c) n → k ≡ (B.stored_of (b.servers c)).replaced + n
  unfolding place_of
  place_is c n k e = e

  -- no crash, request or call outside the servers, with these provisos
  bare : (y : B.Event) (e : R.Event) → ((c k : ℕ) → e ≡ R.crash c k → ⊥) → ((c p : ℕ) (vs : Versions) (room : ℕ) → e ≡ R.call c (request vs p) room → ⊥)
      → ((o : OutsideCall) → e ≡ R.outside o → ⊥) → Provided plan r e → Decodes plan r b y e
  bare y e f g h P =
      record {
        provided = P;
        crashes = λ c k q. absurd (f c k q);
        requests = λ c p vs room q. absurd (g c p vs room q);
        outsides = λ o q. absurd (h o q);
      }

  -- recover with this plan, whose success asks for the one plan
  recovery : (y : B.Event) (c : ℕ) (p : List ℕ) → ((g : R.Log) (st : State) → R.recover_of p g ≡ some st → p ≡ plan) → Decodes plan r b y (R.recover c p)
  unfolding RP.Typed
  recovery y c p ok =
      bare _ _ (λ d k q. apart (cc)) (λ d x vs room q. apart (cc)) (λ o q. apart (cc))
      (record {
        typed = tt;
        founds = λ d x k st q z. apart (cc);
        recovers = λ d x g st q k z. let j : p ≡ x = cc in sym j ∙ ok g st (rw j z);
        crashes = λ d k q. apart (cc);
        starts = λ x q bs k z. apart (cc);
      })

  -- an operation has no provisos of its own
  unasked : (c : ℕ) (o : OperationOf ℕ) {room : ℕ} → Provided plan r (R.call c o room)
  unfolding RP.Typed
  unasked c o =
      record {
        typed = tt;
        founds = λ d x k st q z. apart (cc);
        recovers = λ d x g st q k z. apart (cc);
        crashes = λ d k q. apart (cc);
        starts = λ x q bs k z. apart (cc);
      }

  idles : (y : B.Event) (c : ℕ) → Decodes plan r b y (idle c)
  idles y c = bare y (idle c) (λ d k q. apart (cc)) (λ d x vs room q. apart (cc)) (λ o q. apart (cc)) (unasked c (fetch today 0 0))

  pub decodes : (y : B.Event) → Allowed plan b y → Decodes plan r b y (decoded plan b y)
  unfolding decoded output has_output output_size RP.Typed BP.Typed
  decodes (B.found c state log p n) a =
      let P : List ℕ = plan_if (found_of state log p n) p in
      bare _ _ (λ d k q. apart (cc)) (λ d x vs room q. apart (cc)) (λ o q. apart (cc))
      (record {
        typed = plan-bytes (found_of state log p n) p a.typed.1;
        founds =
            λ d x k st q z.
            let i : c ≡ d = cc in
            let j : P ≡ x = cc in
            let m : n ≡ k = cc in
            subst (λ (v : ℕ). FoundOk plan R.nothing (r.servers v) v x k) i
            (subst (λ (v : List ℕ). FoundOk plan R.nothing (r.servers c) c v k) j
            (subst (λ (v : ℕ). FoundOk plan R.nothing (r.servers c) c P v) m
            (found_ok c state log p n (a.founds c state log p n refl) st (rw (j, m) z))));
        recovers = λ d x g st q k z. apart (cc);
        crashes = λ d k q. apart (cc);
        starts = λ x q bs k z. apart (cc);
      })
  decodes (B.call c o u) a =
      record {
        provided = unasked _ _;
        crashes = λ d k q. apart (cc);
        requests =
            λ d x us room q.
            let i : c ≡ d = cc in
            let n : ℕ = (B.stored_of (b.servers c)).replaced in
            let j : whole n o ≡ request us x = cc in
            let e : o ≡ request us x = whole-request n o us x j in
            let k : room ≡ room_of (b.servers c) u (output o u.out) (λ st. output_size st o) = cc in
            (u, rw (i, e) refl, rw (i, e) at k);
        outsides = λ z q. apart (cc);
      }
  decodes (B.inquire c i u) a = idles _ c
  decodes (B.recover c state log p) a = recovery _ c (plan_if (recover_of state log p) p) (recover-ok c state log p (a.recovers c state log p refl))
  decodes (B.checkpoint c v tail u) a = idles _ c
  decodes (B.store c) a = idles _ c
  decodes (B.recover·tail c state k tail) a = recovery _ c (plan_if (recover_tail_of state k tail) plan) (tail-ok (recover_tail_of state k tail))
  decodes (B.crash c n) a =
      let x = crash-ok c n (a.crashes c n refl).0 (a.crashes c n refl).1 in
      record {
        provided =
            record {
              typed = tt;
              founds = λ d x k st q z. apart (cc);
              recovers = λ d x g st q k z. apart (cc);
              crashes = λ d k q. let i : c ≡ d = cc in let j : place_of (b.servers c) n ≡ k = cc in (rw (j, i) at x.0, rw (j, i) at x.1);
              starts = λ x q bs k z. apart (cc);
            };
        crashes =
            λ d k q.
            let i : c ≡ d = cc in
            let j : k ≡ place_of (b.servers c) n = cc in
            (n, rw i refl, rw i at (place_is c n k j));
        requests = λ d x vs room q. apart (cc);
        outsides = λ o q. apart (cc);
      }
  decodes (B.outside o) a =
      record {
        provided =
            record {
              typed = a.typed;
              founds = λ d x k st q z. apart (cc);
              recovers = λ d x g st q k z. apart (cc);
              crashes = λ d k q. apart (cc);
              starts =
                  λ p q bs e s.
                  let i : o ≡ start p = cc in
                  same-client l (start_of bs).client.client ∙ a.starts p (ap B.outside i) bs (sym (same-packet l p) ∙ e) s;
            };
        crashes = λ d k q. apart (cc);
        requests = λ d x vs room q. apart (cc);
        outsides = λ e q. let i : o ≡ e = cc in ap B.outside i;
      }
