-- A schedule over bytes under the provisos, and the one over records that does the same: the worlds stay alike, and the provisos hold there.
--     both_at                  the worlds after n events
--     at_here, at_back         events by number
--     provisos_here            the provisos over records
--     same_count, end-alike    as many events; the worlds at the end
--     complete                 all of it in one statement
-- Assumes nothing.
use Prim.Native.Nat.{ℕ, zero, suc}
use mathlib.Core.Path.{◌≡◌, refl, ap, subst}
use mathlib.Core.List.{List, [], ◌∷◌}
use mathlib.Core.Option.{some}
use native.Mathlib.Omega.{arith}
use lib.ListN.{length, take, get_elem?}
use lib.Seq.{take-length}
use Rattle.claim.specs.World as B
use Rattle.claim.specs.Provisos as BP
use Rattle.claim.specs.RecordWorld as R
use Rattle.claim.specs.RecordProvisos as RP
use Rattle.safety.specs.Alike.{nothing, WorldAlike, Both}
use Rattle.safety.specs.Allowed.{Allowed, Decodes}
use Rattle.safety.specs.Decoded.{decoded, decoded_from, schedule}
use Rattle.safety.proofs.Parties.{empty-parties}
use Rattle.safety.proofs.Steps.{step-alike}
use Rattle.proof_records.proofs.Runs.{provisos_of}
use Rattle.safety.proofs.Decoding.{decodes}

-- ---- from a world on

-- the byte world before event n
abbrev before : B.World → List B.Event → ℕ → B.World
before b ys n = B.run_from b (take n ys)

both-from : (plan : List ℕ) (ys : List B.Event) {r : R.World} {b : B.World} → Both plan r b
    → ((n : ℕ) (y : B.Event) → get_elem? ys n ≡ some y → Allowed plan (before b ys n) y) → (n : ℕ)
    → Both plan (R.run_from r (take n (decoded_from plan b ys))) (before b ys n)
unfolding decoded_from R.run_from B.run_from
both-from plan [] l a zero = l
both-from plan [] l a (suc n) = l
both-from plan (y ∷ ys) l a zero = l
both-from plan (y ∷ ys) l a (suc n) = both-from plan ys (step-alike plan l y (a zero y refl)) (λ m x q. a (suc m) x q) n

event-here : (plan : List ℕ) (ys : List B.Event) (b : B.World) (n : ℕ) (y : B.Event) → get_elem? ys n ≡ some y
    → get_elem? (decoded_from plan b ys) n ≡ some (decoded plan (before b ys n) y)
unfolding decoded_from B.run_from
event-here plan [] b n y q = let z : ◌≡◌ {A = ℕ} 0 1 = cc in absurd (omega arith)
event-here plan (x ∷ ys) b zero y q = let z : x ≡ y = cc in ap (λ (e : B.Event). some (decoded plan b e)) z
event-here plan (x ∷ ys) b (suc n) y q = event-here plan ys (B.step b x) n y q

event-back : (plan : List ℕ) (ys : List B.Event) (b : B.World) (n : ℕ) (e : R.Event) → get_elem? (decoded_from plan b ys) n ≡ some e
    → (y : B.Event) × (get_elem? ys n ≡ some y) × (decoded plan (before b ys n) y ≡ e)
unfolding decoded_from B.run_from
event-back plan [] b n e q = let z : ◌≡◌ {A = ℕ} 0 1 = cc in absurd (omega arith)
event-back plan (x ∷ ys) b zero e q = let z : decoded plan b x ≡ e = cc in (x, refl, z)
event-back plan (x ∷ ys) b (suc n) e q = event-back plan ys (B.step b x) n e q

count-from : (plan : List ℕ) (ys : List B.Event) (b : B.World) → length (decoded_from plan b ys) ≡ length ys
unfolding decoded_from
count-from plan [] b = refl
count-from plan (y ∷ ys) b = ap suc (count-from plan ys (B.step b y))

-- ---- a schedule under the provisos

module _ (plan : List ℕ) (ys : List B.Event) (P : BP.Provisos plan ys) where
  abbrev At : ℕ → B.Event → Type 0
  At n y = BP.At ys n y

  allowed : (n : ℕ) (y : B.Event) → At n y → Allowed plan (B.after ys n) y
  allowed n y a =
      record {
        typed = P.typed n y a;
        founds =
            λ c state log p k e z.
            let q = subst (At n) e a in
            record { one-plan = P.one-plan n c state log p k q z; own-number = P.own-number n c state log p k q z; once = P.founded-once n c state log p k q z };
        recovers =
            λ c state log p e z.
            let q = subst (At n) e a in
            let u = P.recovery_uses n c state log p q z in
            record { one-plan = P.plan-again n c state log p q z; uses = u.0; first = u.1 };
        recovers·tail = λ c state k tail e z. let u = P.recovery_uses-both n c state k tail (subst (At n) e a) z in record { uses = u.0; begins = u.1 };
        crashes = λ c k e. P.crash-keeps n c k (subst (At n) e a);
        starts = λ p e. P.started-once n p (subst (At n) e a);
      }

  pub both_at : (n : ℕ) → Both plan (R.after (schedule plan ys) n) (B.after ys n)
  unfolding R.after R.run B.after B.run BP.At R.empty_world B.empty_world
  both_at =
      both-from plan ys (record { alike = record { servers = λ c. nothing; clients = refl; manager = refl; made = refl }; parties = empty-parties })
      (λ n y q. allowed n y q)

  pub at_here : (n : ℕ) (y : B.Event) → At n y → RP.At (schedule plan ys) n (decoded plan (B.after ys n) y)
  unfolding B.after B.run RP.At BP.At
  at_here n y a = event-here plan ys B.empty_world n y a

  pub at_back : (n : ℕ) (e : R.Event) → RP.At (schedule plan ys) n e → (y : B.Event) × At n y × Decodes plan (R.after (schedule plan ys) n) (B.after ys n) y e
  at_back n e a =
      let x : (y : B.Event) × At n y × (decoded plan (B.after ys n) y ≡ e) = unfold B.after B.run BP.At RP.At in event-back plan ys B.empty_world n e a in
      let y : B.Event = x.0 in
      (y, x.1, subst (Decodes plan (R.after (schedule plan ys) n) (B.after ys n) y) x.2 (decodes plan (both_at n).alike y (allowed n y x.1)))

  pub provisos_here : RP.Provisos plan (schedule plan ys)
  provisos_here = provisos_of plan (schedule plan ys) (λ n e a. (at_back n e a).2.provided)

  pub same_count : length (schedule plan ys) ≡ length ys
  same_count = count-from plan ys B.empty_world

  pub end-alike : WorldAlike plan (R.run (schedule plan ys)) (B.run ys)
  unfolding R.after B.after
  end-alike =
      let w : take (length ys) ys ≡ ys = take-length ys in
      let v : take (length ys) (schedule plan ys) ≡ schedule plan ys
      = subst (λ (n : ℕ). take n (schedule plan ys) ≡ schedule plan ys) same_count (take-length (schedule plan ys)) in
      rw (w, v) at (both_at (length ys)).alike

-- every schedule over bytes under the provisos is one over records, event by event, with the same clients, lease manager, packets and images, and
-- servers whose buffers hold what theirs are
pub complete : (plan : List ℕ) (ys : List B.Event) → BP.Provisos plan ys
    → (es : List R.Event) × RP.Provisos plan es × (length es ≡ length ys) × ((n : ℕ) → WorldAlike plan (R.after es n) (B.after ys n))
complete plan ys P = (schedule plan ys, provisos_here plan ys P, same_count plan ys P, λ n. (both_at plan ys P n).alike)
