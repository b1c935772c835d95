-- What each call changes makes its answer.
--     err_same                                     two errors that are one
--     no_changes                                   a refused call
--     running_in, running_all                      the leases that run, where some have ended, where none have
--     open_changes_lem, renew-changes, query-changes   with the leases that run
--     query-unknown                                a client that was never given out
--     open_done, renew-done, query-done            what the code makes of the leases that run
--     all_fit                                      what the tests of sums tell
-- Assumes nothing.
use mathlib.Core.Path.{◌≡◌, refl, sym, ◌∙◌}
use mathlib.Core.Bool.{Bool, true, false, ◌||◌}
use mathlib.Core.List.{List}
use Prim.Native.Nat.{ℕ, ◌+◌, ◌≤◌, ◌<◌, max}
use native.Mathlib.Omega.{arith}
use native.Mathlib.Numerals.{add-one}
use lib.Dec.{eqb, ltb}
use lib.ListN.{length, length-map}
use lib.Seq.{set-get_or}
use borrow.Author.Tests.{eqb-false, le-ltb, ltb-true, ltb-false}
use Rattle.std.proofs.Common.{Result, Ok, Err}
use Rattle.model.specs.declared.Refusal.{Refusal}
use Rattle.model.specs.declared.Refusal.TheVariants.{Malformed, NumbersOut, Unknown, LeasesFull}
use Rattle.model.specs.declared.Lease.{Lease}
use Rattle.model.specs.declared.LeaseManager.{LeaseManager}
use Rattle.model.specs.declared.Told.TheVariants.{ByGrant}
use Rattle.model.specs.Leases.{no_lease, time_at, ended_at, running_at, with_new_lease, extended, span_ok, manager, not_told, granted, open_of, renew_of, query_of}
use Rattle.model.specs.Limits.{last32, lease_count}
use Rattle.leases.specs.declared.LeaseChange.{LeaseChange}
use Rattle.leases.specs.Changes.{lease_place, place_in, end_at, lease_at, kept_at, RunningAt, stored, answered, Changes, no_change, new_holder, holder_of, grant_to, granted_to, or_refused, query_among}
use Rattle.model_laws.proofs.Tests.{or_left, or_right, both-fit}
use Rattle.leases.proofs.Places.{place_end, place_under, place_full, place-free, place_new, place-extended}

-- none of three numbers is past k
pub all_fit : (k a b c : ℕ) → (ltb k a || (ltb k b || ltb k c)) ≡ false → (a ≤ k) × (b ≤ k) × (c ≤ k)
all_fit k a b c e = let f = both-fit k b c (or_right (ltb k a) _ e) in (ltb-false k a (or_left _ _ e), f.0, f.1)

pub err_same : {A B : Type 0} {x y : B} → ◌≡◌ {A = Result A B} (Err x) (Err y) → x ≡ y
err_same e = cc

pub no_changes : (m : LeaseManager) (e : Refusal) → Changes m (no_change m e) (not_told m e)
unfolding no_change answered stored kept_at manager not_told
no_changes m e = (omega arith, rw (set-get_or m.leases 0 no_lease) refl)

pub running_in : (m : LeaseManager) (now : ℕ) {ls : List Lease} → ls ≡ running_at now m.leases → length m.leases ≡ lease_count → RunningAt m now ls true
unfolding running_at kept_at
running_in m now running long = record { running = running; kept = sym running; long = rw running (length-map m.leases (ended_at now) ∙ long) }

pub running_all : (m : LeaseManager) (now : ℕ) → running_at now m.leases ≡ m.leases → length m.leases ≡ lease_count → RunningAt m now m.leases false
unfolding kept_at
running_all m now none long = record { running = sym none; kept = refl; long = long }

module _ (m : LeaseManager) (t : ℕ) (ended : Bool) (ls : List Lease) (run : RunningAt m (time_at m t) ls ended) (span : ℕ) where
  -- ---- open

  open_granted : (e : ℕ) → e ≡ time_at m t + span → lease_place 0 ls < lease_count
      → Changes m (record {
        ended = ended;
        time = time_at m t;
        issued = m.issued + 1;
        place = lease_place 0 ls;
        lease = record { client = m.issued + 1; lease = e };
        answer = Ok (ByGrant (record { client = m.issued + 1; lease = e }));
      }) (granted (manager (time_at m t) (m.issued + 1) (with_new_lease (record { client = m.issued + 1; lease = time_at m t + span }) ls)) (m.issued + 1) (time_at m t + span))
  unfolding answered stored granted
  open_granted e k h = (h, rw (run.kept, k, place_new (record { client = m.issued + 1; lease = time_at m t + span }) ls) refl)

  pub open_changes_lem : Changes m (or_refused m (granted_to m (new_holder m ls) ended t span)) (open_of m t span)
  unfolding open_of granted_to grant_to new_holder place_in
  open_changes_lem = go (span_ok span) (ltb (lease_place 0 ls) (length ls)) (ltb last32 (m.issued + 1)) (ltb last32 (time_at m t + span)) refl refl refl refl
    where
      go : (a b c d : Bool) → span_ok span ≡ a → ltb (lease_place 0 ls) (length ls) ≡ b → ltb last32 (m.issued + 1) ≡ c → ltb last32 (time_at m t + span) ≡ d
          → Changes m (or_refused m (granted_to m (new_holder m ls) ended t span)) (open_of m t span)
      go false b c d p q u v = rw p (no_changes m Malformed)
      go true false c d p q u v = rw (p, q, ← run.running, place_full ls (ltb-false _ _ q)) (no_changes m LeasesFull)
      go true true true d p q u v = rw (p, q, ← run.running, place-free ls (ltb-true _ _ q), ← add-one m.issued, u) (no_changes m NumbersOut)
      go true true false true p q u v = rw (p, q, ← run.running, place-free ls (ltb-true _ _ q), ← add-one m.issued, u, v) (no_changes m NumbersOut)
      go true true false false p q u v =
          rw (p, q, ← run.running, place-free ls (ltb-true _ _ q), ← add-one m.issued, u, v)
          (open_granted (max 0 (time_at m t + span)) (omega arith) (rw (← run.long) (ltb-true _ _ q)))

  -- ---- renew

  renew-granted : (x e : ℕ) → lease_place x ls < lease_count
      → Changes m (record {
        ended = ended;
        time = time_at m t;
        issued = m.issued;
        place = lease_place x ls;
        lease = record { client = x; lease = e };
        answer = Ok (ByGrant (record { client = x; lease = e }));
      }) (granted (manager (time_at m t) m.issued (extended x e ls)) x e)
  unfolding answered stored granted
  renew-granted x e h = (h, rw (run.kept, place-extended x e ls) refl)

  pub renew-changes : (x : ℕ) → m.issued ≤ last32 → x ≤ last32 → Changes m (or_refused m (granted_to m (holder_of m x ls) ended t span)) (renew_of m x t span)
  unfolding renew_of granted_to grant_to holder_of lease_at
  renew-changes x issued known = go (span_ok span) (eqb (end_at x ls) 0) (ltb last32 (time_at m t + span)) refl refl refl
    where
      go : (a b c : Bool) → span_ok span ≡ a → eqb (end_at x ls) 0 ≡ b → ltb last32 (time_at m t + span) ≡ c
          → Changes m (or_refused m (granted_to m (holder_of m x ls) ended t span)) (renew_of m x t span)
      go false b c p q u = rw p (no_changes m Malformed)
      go true true c p q u = rw (p, q, ← run.running, place_end x ls, q) (no_changes m Unknown)
      go true false true p q u = rw (p, q, ← run.running, place_end x ls, q, le-ltb _ _ issued, le-ltb _ _ known, u) (no_changes m NumbersOut)
      go true false false p q u =
          let h : lease_place x ls < lease_count = rw (← run.long) (place_under x ls (eqb-false _ _ q)) in
          rw (p, q, ← run.running, place_end x ls, q, le-ltb _ _ issued, le-ltb _ _ known, u) (renew-granted x _ h)

  -- ---- query

  pub query-changes : (x : ℕ) → (eqb x 0 || ltb m.issued x) ≡ false → Changes m (query_among m ls ended x (time_at m t)) (query_of m x t)
  unfolding query_of query_among answered stored granted lease_at
  query-changes x known = (omega arith, go (eqb (end_at x ls) 0) refl)
    where
      go : (b : Bool) → eqb (end_at x ls) 0 ≡ b → answered m (query_among m ls ended x (time_at m t)) ≡ query_of m x t
      go true q = rw (known, ← run.running, run.kept, set-get_or ls 0 no_lease, place_end x ls, q) refl
      go false q = rw (known, ← run.running, run.kept, set-get_or ls 0 no_lease, place_end x ls, q) refl

pub query-unknown : (m : LeaseManager) (x t : ℕ) → (eqb x 0 || ltb m.issued x) ≡ true → Changes m (no_change m Unknown) (query_of m x t)
unfolding query_of
query-unknown m x t never = rw never (no_changes m Unknown)

-- what the code makes of the leases that run

module _ (m : LeaseManager) (t : ℕ) {now : ℕ} (timed : now ≡ time_at m t) {ls : List Lease} {ended : Bool} (run : RunningAt m now ls ended) where
  at_time : RunningAt m (time_at m t) ls ended
  at_time = rw (← timed) run

  module _ (span : ℕ) {r : Result LeaseChange Refusal} {c : LeaseChange} (made : c ≡ or_refused m r) where
    pub open_done : r ≡ granted_to m (new_holder m ls) ended t span → Changes m c (open_of m t span)
    open_done is = rw (made, is) (open_changes_lem m t ended ls at_time span)

    pub renew-done : (x : ℕ) → m.issued ≤ last32 → x ≤ last32 → r ≡ granted_to m (holder_of m x ls) ended t span → Changes m c (renew_of m x t span)
    renew-done x issued known is = rw (made, is) (renew-changes m t ended ls at_time span x issued known)

  pub query-done : (x : ℕ) → (eqb x 0 || ltb m.issued x) ≡ false → {c : LeaseChange} → c ≡ query_among m ls ended x now → Changes m c (query_of m x t)
  query-done x known is = rw (is, timed) (query-changes m t ended ls at_time 0 x known)
