-- The lock over the proved kernel: every schedule that keeps the lock's provisos has an order that explains it, and in every order that does, at no place are
-- both gates away from 0. So at no moment are the gates' values at their holders.
--     safe_in_all
--     lock_safe
--     holders_safe
-- Assumes nothing.
use Prim.Native.Nat.{ℕ, ◌<◌}
use mathlib.Core.Path.{◌≡◌, ◌∙◌, sym, ap, subst}
use mathlib.Core.List.{List}
use mathlib.Core.Logic.{◌⊎◌, inl, inr}
use lib.IntN.{pos}
use lib.ListN.{length, take}
use lib.Seq.{take-length}
use Rattle.model.specs.Limits.{point_count}
use Rattle.model.specs.Plan.{plan_of}
use Rattle.model.specs.Numbers.{signed}
use Rattle.model.specs.States.{State, point_at}
use Rattle.model.specs.Sequential.{OrderEntry, ReadingZ, reading_meant, opened, values_after}
use Rattle.claim.specs.World.{Event}
use Rattle.claim.specs.Claim.{reading_at, Holder, Explains, Demand3}
use Rattle.claim.specs.Fence.{Fence}
use Rattle.claim.proofs.Above.{events-first}
use Rattle.safety.proofs.Demand3.{demand3, fence}
use Rattle.chamber_claim.specs.declared.LockPoints.{LockPoints}
use Rattle.chamber_claim.specs.Lock.{LockEvent, lock_product}
use Rattle.chamber_claim.specs.Safe.{events, LockProvisos, OneClosed, ChamberSafe}
use Rattle.chamber_claim.proofs.Safe.{chamber_safe}
use Rattle.chamber_claim.proofs.Moments.{lock_provisos_first}

module _ (plan : List ℕ) (s : LockPoints) (ls : List LockEvent) (P : LockProvisos plan s ls) where
  pub safe_in_all : (order : List OrderEntry) → Explains plan (events plan s ls) order → (k : ℕ)
      → OneClosed s (values_after (plan_of plan) (opened (plan_of plan)) (take k order))
  unfolding Fence ChamberSafe
  safe_in_all = chamber_safe plan s ls P (fence plan (events plan s ls) P.kernels)

  pub lock_safe : (order : List OrderEntry) × Explains plan (events plan s ls) order
      × ((k : ℕ) → OneClosed s (values_after (plan_of plan) (opened (plan_of plan)) (take k order)))
  unfolding Demand3
  lock_safe = let x = demand3 plan (events plan s ls) P.kernels in (x.0, x.1, safe_in_all x.0 x.1)

  -- when the schedule ends: the values after the whole order are those at the holders
  safe-at-end : (c d : ℕ) (u l : State) → s.upper < point_count → s.lower < point_count
      → Holder plan (events plan s ls) s.upper c u → Holder plan (events plan s ls) s.lower d l
      → (signed (point_at u s.upper).value ≡ pos 0) ⊎ (signed (point_at l s.lower).value ≡ pos 0)
  unfolding reading_meant reading_at
  safe-at-end c d u l a b hu hl =
      let x = lock_safe in
      let z = subst (λ (o : List OrderEntry). OneClosed s (values_after (plan_of plan) (opened (plan_of plan)) o)) (take-length x.0) (x.2 (length x.0)) in
      elim z [
        | inl e ↦ inl (ap (λ (r : ReadingZ). r.value) (x.1.values s.upper c u a hu) ∙ e)
        | inr e ↦ inr (ap (λ (r : ReadingZ). r.value) (x.1.values s.lower d l b hl) ∙ e)
      ]

-- after the first k events, whatever k is: of the gates' values at their holders one is 0
pub holders_safe : (plan : List ℕ) (s : LockPoints) (ls : List LockEvent) → LockProvisos plan s ls → (k c d : ℕ) (u l : State)
    → s.upper < point_count → s.lower < point_count
    → Holder plan (take k (events plan s ls)) s.upper c u → Holder plan (take k (events plan s ls)) s.lower d l
    → (signed (point_at u s.upper).value ≡ pos 0) ⊎ (signed (point_at l s.lower).value ≡ pos 0)
holders_safe plan s ls P k c d u l a b hu hl =
    let e = sym (events-first (lock_product s) ls k) in
    safe-at-end plan s (take k ls) (lock_provisos_first plan s ls k P) c d u l a b
    (subst (λ (es : List Event). Holder plan es s.upper c u) e hu) (subst (λ (es : List Event). Holder plan es s.lower d l) e hl)
