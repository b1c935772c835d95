-- What a call of the lease manager answers, and what it keeps.
--     call_exit       the exits, with what each was told
--     new_well, call-well     a manager is well formed at first, and kept so
--     grant-within    a grant is to a client that was issued, and ends within 32 bits
--     call-time       time never falls
--     call-issued     client numbers never fall
--     open_number     open grants the number after the latest one, so each only once
--     call_covers     the manager still answers for every grant that it answered for
--     grant_covers    and for the grant that it makes
--     call-gone       a client without a lease stays so
--     gone-grant      and is never granted one again
--     notice-gone     a notice names such a client, at the manager's time
--     gone_covers     every grant to such a client has ended: a notice (x, t) says that each grant to x ends at or under t
-- Assumes nothing.
use mathlib.Core.Path.{◌≡◌, refl, sym, ◌∙◌, ap, subst}
use mathlib.Core.Bool.{Bool, true, false, ◌||◌}
use mathlib.Core.List.{List}
use mathlib.Core.Logic.{◌⊎◌, inl, inr}
use Prim.Native.Nat.{ℕ, zero, suc, ◌+◌, ◌≤◌, ◌<◌, max}
use native.Mathlib.Omega.{arith}
use lib.Dec.{eqb, ltb}
use lib.ListN.{length, length-map, replicate}
use borrow.Author.Tests.{eqb-true, eqb-false, ltb-false}
use Rattle.std.specs.Prelude.{Result, Ok}
use Rattle.model_laws.specs.Bytes.{All}
use Rattle.model.specs.declared.Refusal.{Refusal}
use Rattle.model.specs.declared.Refusal.TheVariants.{Malformed, NumbersOut, Unknown, LeasesFull}
use Rattle.model.specs.declared.Grant.{Grant}
use Rattle.model.specs.declared.Notice.{Notice}
use Rattle.model.specs.declared.Lease.{Lease}
use Rattle.model.specs.declared.LeaseManager.{LeaseManager}
use Rattle.model.specs.declared.LeaseAnswer.{LeaseAnswer}
use Rattle.model.specs.declared.Told.{Told}
use Rattle.model.specs.declared.Told.TheVariants.{ByGrant, ByNotice}
use Rattle.model.specs.Tables.{every}
use Rattle.model.specs.Leases.{no_lease, new_manager, time_at, running_at, lease_end, is_taken, with_new_lease, extended, span_ok, manager, not_told, granted, open_of, renew_of, query_of}
use Rattle.model.specs.Limits.{last32, lease_count}
use Rattle.model_laws.specs.LeaseForm.{Fresh, Distinct, Placed, WellFormed, Lasts, Covers, Gone, LeaseCall, answer_of, given_time}
use Rattle.model_laws.proofs.Tests.{both-fit}
use Rattle.model_laws.proofs.LeaseLists.{pos_of, all_mono, all_entered, all_extended, length-entered, length-extended, running-placed, fresh-running}
use Rattle.model_laws.proofs.LeaseLists.{fresh-entered, fresh-extended, fresh-end, end_fresh, end-zero, end-within, end_known, distinct-running}
use Rattle.model_laws.proofs.LeaseLists.{distinct-entered, distinct-extended, lasts_not, lasts_running, lasts_entered, lasts_extended, entered_lasts}
use Rattle.model_laws.proofs.LeaseLists.{extended_lasts, end_lasts}

-- ---- the exits: every call is refused, or leaves the manager at the time now with the leases that run then, one of them changed

-- the leases that run when the call is made
abbrev pub runs : LeaseManager → ℕ → List Lease
runs m t = running_at (time_at m t) m.leases

pub data Exit (m : LeaseManager) (t : ℕ) (a : LeaseAnswer) : Type 0 where
  refused : (r : Refusal) → a ≡ not_told m r → Exit m t a
  opened : (e : ℕ) → every is_taken (runs m t) ≡ false → m.issued < last32 → time_at m t < e → e ≤ last32
      → a ≡ granted (manager (time_at m t) (suc m.issued) (with_new_lease (record { client = suc m.issued; lease = e }) (runs m t))) (suc m.issued) e
      → Exit m t a
  renewed : (x e : ℕ) → (lease_end x (runs m t) ≡ 0 → ⊥) → lease_end x (runs m t) ≤ e → time_at m t < e → e ≤ max (lease_end x (runs m t)) last32
      → a ≡ granted (manager (time_at m t) m.issued (extended x e (runs m t))) x e
      → Exit m t a
  noticed : (x : ℕ) → 1 ≤ x → x ≤ m.issued → lease_end x (runs m t) ≡ 0
      → a ≡ record { manager = manager (time_at m t) m.issued (runs m t); answer = Ok (ByNotice (record { client = x; time = time_at m t })) }
      → Exit m t a
  found : (x : ℕ) → 1 ≤ x → x ≤ m.issued → (lease_end x (runs m t) ≡ 0 → ⊥)
      → a ≡ granted (manager (time_at m t) m.issued (runs m t)) x (lease_end x (runs m t))
      → Exit m t a

span_from : (span : ℕ) → span_ok span ≡ true → 1 ≤ span
unfolding span_ok
span_from zero e = let z : ◌≡◌ {A = ℕ} 0 1 = cc in absurd (omega arith)
span_from (suc n) e = omega arith

open_exit : (m : LeaseManager) (t span : ℕ) → Exit m t (open_of m t span)
unfolding open_of
open_exit m t span =
    go (span_ok span) (every is_taken (runs m t)) (ltb last32 (suc m.issued) || ltb last32 (time_at m t + span)) refl refl refl
  where
    go : (u v w : Bool) → span_ok span ≡ u → every is_taken (runs m t) ≡ v → (ltb last32 (suc m.issued) || ltb last32 (time_at m t + span)) ≡ w → Exit m t (open_of m t span)
    go false v w p q r = refused Malformed (rw p refl)
    go true true w p q r = refused LeasesFull (rw (p, q) refl)
    go true false true p q r = refused NumbersOut (rw (p, q, r) refl)
    go true false false p q r =
        let f = both-fit last32 (suc m.issued) (time_at m t + span) r in
        let s = span_from span p in
        opened (time_at m t + span) q f.0 (omega arith) f.1 (rw (p, q, r) refl)

renew_exit : (m : LeaseManager) (x t span : ℕ) → Exit m t (renew_of m x t span)
unfolding renew_of
renew_exit m x t span = go (span_ok span) (eqb (lease_end x (runs m t)) 0) (ltb last32 (time_at m t + span)) refl refl refl
  where
    go : (u v w : Bool) → span_ok span ≡ u → eqb (lease_end x (runs m t)) 0 ≡ v → ltb last32 (time_at m t + span) ≡ w → Exit m t (renew_of m x t span)
    go false v w p q r = refused Malformed (rw p refl)
    go true true w p q r = refused Unknown (rw (p, q) refl)
    go true false true p q r = refused NumbersOut (rw (p, q, r) refl)
    go true false false p q r =
        let s = span_from span p in
        renewed x (max (lease_end x (runs m t)) (time_at m t + span)) (eqb-false _ _ q) (omega arith) (omega arith) (omega (arith, ltb-false last32 (time_at m t + span) r)) (rw (p, q, r) refl)

query_exit : (m : LeaseManager) (x t : ℕ) → Exit m t (query_of m x t)
unfolding query_of
query_exit m x t = go (eqb x 0) (ltb m.issued x) (eqb (lease_end x (runs m t)) 0) refl refl refl
  where
    go : (u v w : Bool) → eqb x 0 ≡ u → ltb m.issued x ≡ v → eqb (lease_end x (runs m t)) 0 ≡ w → Exit m t (query_of m x t)
    go true v w p q r = refused Unknown (rw p refl)
    go false true w p q r = refused Unknown (rw (p, q) refl)
    go false false true p q r = noticed x (pos_of x (eqb-false _ _ p)) (ltb-false _ _ q) (eqb-true _ _ r) (rw (p, q, r) refl)
    go false false false p q r = found x (pos_of x (eqb-false _ _ p)) (ltb-false _ _ q) (eqb-false _ _ r) (rw (p, q, r) refl)

pub call_exit : (m : LeaseManager) (c : LeaseCall) → Exit m (given_time c) (answer_of m c)
unfolding answer_of given_time
call_exit m (LeaseCall.opens t span) = open_exit m t span
call_exit m (LeaseCall.renews x t span) = renew_exit m x t span
call_exit m (LeaseCall.queries x t) = query_exit m x t

-- ---- well formed

pub new_well : WellFormed new_manager
new_well = record { timed = omega arith; numbered = omega arith; places = refl; each = all_free lease_count; distinct = all_apart lease_count }
  where
    all_free : (n : ℕ) → All (Placed 0 0) (replicate n no_lease)
    all_free zero = tt
    all_free (suc n) = (record { known = omega arith; running = λ h. absurd (omega arith); within = omega arith; free = λ _. refl }, all_free n)

    all_apart : (n : ℕ) → Distinct (replicate n no_lease)
    all_apart zero = tt
    all_apart (suc n) = (λ h. absurd (omega arith), all_apart n)

time-over : (m : LeaseManager) (t : ℕ) → m.time ≤ time_at m t
unfolding time_at
time-over m t = omega arith

length_runs : (m : LeaseManager) (t : ℕ) → length (runs m t) ≡ length m.leases
unfolding running_at
length_runs m t = length-map m.leases _

module _ {m : LeaseManager} (w : WellFormed m) where
  runs-placed : (t : ℕ) → All (Placed (time_at m t) m.issued) (runs m t)
  runs-placed t = running-placed (time_at m t) m.time m.issued m.leases w.each

  runs_new : (t : ℕ) → Fresh (suc m.issued) (runs m t)
  runs_new t = all_mono (Placed (time_at m t) m.issued) (λ (l : Lease). l.client ≡ suc m.issued → ⊥) (λ l p e. omega (arith, p.known)) (runs m t) (runs-placed t)

  time-within : (t : ℕ) → t ≤ last32 → time_at m t ≤ last32
  unfolding time_at
  time-within t z = omega (arith, w.timed)

  renewed_from : (x t : ℕ) → (lease_end x (runs m t) ≡ 0 → ⊥) → 1 ≤ x
  renewed_from x t n = pos_of x (λ z. n (subst (λ (y : ℕ). lease_end y (runs m t) ≡ 0) (sym z) (end-zero (time_at m t) m.issued (runs m t) (runs-placed t))))

  exit_well : (t : ℕ) (a : LeaseAnswer) → Exit m t a → t ≤ last32 → WellFormed a.manager
  unfolding not_told granted manager
  exit_well t a (refused n e) z = rw e w
  exit_well t a (opened f q i k l e) z =
      let n : Lease = record { client = suc m.issued; lease = f } in
      rw e
      (record {
        timed = time-within t z;
        numbered = i;
        places = length-entered n (runs m t) ∙ length_runs m t ∙ w.places;
        each = all_entered (Placed (time_at m t) (suc m.issued)) n (record { known = omega arith; running = λ _. k; within = l; free = λ z. absurd (omega arith) }) (runs m t)
            (all_mono (Placed (time_at m t) m.issued) (Placed (time_at m t) (suc m.issued))
            (λ j p. record { known = omega (arith, p.known); running = p.running; within = p.within; free = p.free }) (runs m t) (runs-placed t));
        distinct = distinct-entered n (runs m t) (runs_new t) (distinct-running (time_at m t) m.leases w.distinct);
      })
  exit_well t a (renewed x f n u k v e) z =
      let h = renewed_from x t n in
      let b = end-within (time_at m t) m.issued x (runs m t) (runs-placed t) in
      rw e
      (record {
        timed = time-within t z;
        numbered = w.numbered;
        places = length-extended x f (runs m t) ∙ length_runs m t ∙ w.places;
        each =
            all_extended (Placed (time_at m t) m.issued) x f (runs m t)
            (λ l q p. record { known = omega (arith, p.known); running = λ _. k; within = omega arith; free = λ z. absurd (omega arith) }) (runs-placed t);
        distinct = distinct-extended x f (runs m t) (distinct-running (time_at m t) m.leases w.distinct);
      })
  exit_well t a (noticed x h k n e) z =
      rw e (record { timed = time-within t z; numbered = w.numbered; places = length_runs m t ∙ w.places; each = runs-placed t; distinct = distinct-running (time_at m t) m.leases w.distinct })
  exit_well t a (found x h k n e) z =
      rw e (record { timed = time-within t z; numbered = w.numbered; places = length_runs m t ∙ w.places; each = runs-placed t; distinct = distinct-running (time_at m t) m.leases w.distinct })

  pub call-well : (c : LeaseCall) → given_time c ≤ last32 → WellFormed (answer_of m c).manager
  call-well c z = exit_well (given_time c) (answer_of m c) (call_exit m c) z

-- a grant: its client was issued, its end is within 32 bits
pub grant-within : {m : LeaseManager} → WellFormed m → (c : LeaseCall) (g : Grant) → (answer_of m c).answer ≡ Ok (ByGrant g)
    → (1 ≤ g.client) × (g.client ≤ last32) × (g.lease ≤ last32)
unfolding not_told granted manager
grant-within {m} w c g = go (given_time c) (answer_of m c) (call_exit m c)
  where
    answer_of_lem : {a : LeaseAnswer} {k : LeaseManager} {x e : ℕ} → a ≡ granted k x e → a.answer ≡ Ok (ByGrant (record { client = x; lease = e }))
    answer_of_lem q = ap (λ (v : LeaseAnswer). v.answer) q

    out : (x e : ℕ) {r : Result Told Refusal} → r ≡ Ok (ByGrant (record { client = x; lease = e })) → r ≡ Ok (ByGrant g) → (1 ≤ x) × (x ≤ last32) × (e ≤ last32)
        → (1 ≤ g.client) × (g.client ≤ last32) × (g.lease ≤ last32)
    out x e q s b =
        let z : record { client = x; lease = e } ≡ g = cc in
        subst (λ (v : Grant). (1 ≤ v.client) × (v.client ≤ last32) × (v.lease ≤ last32)) z b

    go : (t : ℕ) (a : LeaseAnswer) → Exit m t a → a.answer ≡ Ok (ByGrant g) → (1 ≤ g.client) × (g.client ≤ last32) × (g.lease ≤ last32)
    go t a (refused n q) s = let f = ap (λ (x : LeaseAnswer). x.answer) (sym q) ∙ s in let z : ◌≡◌ {A = ℕ} 0 1 = cc in absurd (omega arith)
    go t a (opened f u i k l q) s = out (suc m.issued) f (answer_of_lem q) s (omega arith, i, l)
    go t a (renewed y f n u k v q) s =
        let b = end-within (time_at m t) m.issued y (runs m t) (runs-placed w t) in
        let d = end_known (time_at m t) m.issued y (runs m t) (runs-placed w t) n in
        out y f (answer_of_lem q) s (renewed_from w y t n, omega (arith, w.numbered), omega arith)
    go t a (noticed y h k n q) s = let f = ap (λ (x : LeaseAnswer). x.answer) (sym q) ∙ s in let z : ◌≡◌ {A = ℕ} 0 1 = cc in absurd (omega arith)
    go t a (found y h k n q) s =
        let b = end-within (time_at m t) m.issued y (runs m t) (runs-placed w t) in
        out y (lease_end y (runs m t)) (answer_of_lem q) s (h, omega (arith, w.numbered), b)

-- ---- numbers

pub call-time : (m : LeaseManager) (c : LeaseCall) → m.time ≤ (answer_of m c).manager.time
unfolding not_told granted manager
call-time m c = go (given_time c) (answer_of m c) (call_exit m c)
  where
    go : (t : ℕ) (a : LeaseAnswer) → Exit m t a → m.time ≤ a.manager.time
    go t a (refused n e) = rw e (omega arith)
    go t a (opened f q i k l e) = rw e (time-over m t)
    go t a (renewed x f n u k v e) = rw e (time-over m t)
    go t a (noticed x h k n e) = rw e (time-over m t)
    go t a (found x h k n e) = rw e (time-over m t)

pub call-issued : (m : LeaseManager) (c : LeaseCall) → m.issued ≤ (answer_of m c).manager.issued
unfolding not_told granted manager
call-issued m c = go (given_time c) (answer_of m c) (call_exit m c)
  where
    go : (t : ℕ) (a : LeaseAnswer) → Exit m t a → m.issued ≤ a.manager.issued
    go t a (refused n e) = rw e (omega arith)
    go t a (opened f q i k l e) = rw e (omega arith)
    go t a (renewed x f n u k v e) = rw e (omega arith)
    go t a (noticed x h k n e) = rw e (omega arith)
    go t a (found x h k n e) = rw e (omega arith)

-- open grants the number after the latest one
pub open_number : (m : LeaseManager) (t span : ℕ) (g : Grant) → (open_of m t span).answer ≡ Ok (ByGrant g)
    → (g.client ≡ suc m.issued) × ((open_of m t span).manager.issued ≡ suc m.issued)
unfolding open_of not_told granted manager
open_number m t span g =
    go (span_ok span) (every is_taken (runs m t)) (ltb last32 (suc m.issued) || ltb last32 (time_at m t + span)) refl refl refl
  where
    go : (u v w : Bool) → span_ok span ≡ u → every is_taken (runs m t) ≡ v → (ltb last32 (suc m.issued) || ltb last32 (time_at m t + span)) ≡ w
        → (open_of m t span).answer ≡ Ok (ByGrant g) → (g.client ≡ suc m.issued) × ((open_of m t span).manager.issued ≡ suc m.issued)
    go false v w p q r = rw p (λ s. let z : ◌≡◌ {A = ℕ} 0 1 = cc in absurd (omega arith))
    go true true w p q r = rw (p, q) (λ s. let z : ◌≡◌ {A = ℕ} 0 1 = cc in absurd (omega arith))
    go true false true p q r = rw (p, q, r) (λ s. let z : ◌≡◌ {A = ℕ} 0 1 = cc in absurd (omega arith))
    go true false false p q r = rw (p, q, r) (λ s. (let z : g ≡ record { client = suc m.issued; lease = time_at m t + span } = cc in ap (λ (x : Grant). x.client) z, refl))

-- ---- grants

-- what lasts among the running leases, or has ended
over_runs : (m : LeaseManager) (t x e : ℕ) → 1 ≤ x → Covers m x e → (e ≤ time_at m t) ⊎ Lasts x e (runs m t)
over_runs m t x e h (inl p) = inl (omega (arith, time-over m t))
over_runs m t x e h (inr p) = lasts_running (time_at m t) x e h m.leases p

on_lasts : {A B C : Type 0} → (B → C) → A ⊎ B → A ⊎ C
on_lasts f (inl a) = inl a
on_lasts f (inr b) = inr (f b)

-- the manager still answers for every grant that it answered for
pub call_covers : (m : LeaseManager) (c : LeaseCall) (x e : ℕ) → 1 ≤ x → Covers m x e → Covers (answer_of m c).manager x e
unfolding not_told granted manager
call_covers m c x e h p = go (given_time c) (answer_of m c) (call_exit m c)
  where
    go : (t : ℕ) (a : LeaseAnswer) → Exit m t a → Covers a.manager x e
    go t a (refused n q) = rw q p
    go t a (opened f u i k l q) =
        rw q (on_lasts (lasts_entered x e (record { client = suc m.issued; lease = f }) h (runs m t)) (over_runs m t x e h p))
    go t a (renewed y f n u k v q) = rw q (on_lasts (lasts_extended x e y f (runs m t) u) (over_runs m t x e h p))
    go t a (noticed y g k n q) = rw q (over_runs m t x e h p)
    go t a (found y g k n q) = rw q (over_runs m t x e h p)

-- and for the grant that it makes
pub grant_covers : (m : LeaseManager) (c : LeaseCall) (g : Grant) → (answer_of m c).answer ≡ Ok (ByGrant g) → Covers (answer_of m c).manager g.client g.lease
unfolding not_told granted manager
grant_covers m c g s = go (given_time c) (answer_of m c) (call_exit m c) s
  where
    go : (t : ℕ) (a : LeaseAnswer) → Exit m t a → a.answer ≡ Ok (ByGrant g) → Covers a.manager g.client g.lease
    go t a (refused n q) s = let f = ap (λ (x : LeaseAnswer). x.answer) (sym q) ∙ s in let z : ◌≡◌ {A = ℕ} 0 1 = cc in absurd (omega arith)
    go t a (opened f u i k l q) s =
        let r = ap (λ (x : LeaseAnswer). x.answer) (sym q) ∙ s in
        let n : Lease = record { client = suc m.issued; lease = f } in
        let z : record { client = suc m.issued; lease = f } ≡ g = cc in
        rw q (subst (λ (y : Grant). (y.lease ≤ time_at m t) ⊎ Lasts y.client y.lease (with_new_lease n (runs m t))) z (inr (entered_lasts n (runs m t) u)))
    go t a (renewed y f n u k v q) s =
        let r = ap (λ (x : LeaseAnswer). x.answer) (sym q) ∙ s in
        let z : record { client = y; lease = f } ≡ g = cc in
        rw q (subst (λ (v : Grant). (v.lease ≤ time_at m t) ⊎ Lasts v.client v.lease (extended y f (runs m t))) z (inr (extended_lasts y f (runs m t) n)))
    go t a (noticed y h k n q) s = let f = ap (λ (x : LeaseAnswer). x.answer) (sym q) ∙ s in let z : ◌≡◌ {A = ℕ} 0 1 = cc in absurd (omega arith)
    go t a (found y h k n q) s =
        let r = ap (λ (x : LeaseAnswer). x.answer) (sym q) ∙ s in
        let z : record { client = y; lease = lease_end y (runs m t) } ≡ g = cc in
        rw q (subst (λ (v : Grant). (v.lease ≤ time_at m t) ⊎ Lasts v.client v.lease (runs m t)) z (inr (end_lasts y (runs m t) n)))

-- ---- a client without a lease

pub call-gone : (m : LeaseManager) (c : LeaseCall) (x : ℕ) → Gone m x → Gone (answer_of m c).manager x
unfolding not_told granted manager
call-gone m c x p = go (given_time c) (answer_of m c) (call_exit m c)
  where
    runs-fresh : (t : ℕ) → Fresh x (runs m t)
    runs-fresh t = fresh-running (time_at m t) x p.from m.leases p.fresh

    go : (t : ℕ) (a : LeaseAnswer) → Exit m t a → Gone a.manager x
    go t a (refused n q) = rw q p
    go t a (opened f u i k l q) =
        rw q (record {
          from = p.from;
          issued = omega (arith, p.issued);
          fresh = fresh-entered x (record { client = suc m.issued; lease = f }) (λ e. omega (arith, p.issued))
              (runs m t) (runs-fresh t);
        })
    go t a (renewed y f n u k v q) = rw q (record { from = p.from; issued = p.issued; fresh = fresh-extended x y f (runs m t) (runs-fresh t) })
    go t a (noticed y g k n q) = rw q (record { from = p.from; issued = p.issued; fresh = runs-fresh t })
    go t a (found y g k n q) = rw q (record { from = p.from; issued = p.issued; fresh = runs-fresh t })

-- it is never granted one again
pub gone-grant : (m : LeaseManager) (c : LeaseCall) (g : Grant) → Gone m g.client → (answer_of m c).answer ≡ Ok (ByGrant g) → ⊥
unfolding not_told granted manager
gone-grant m c g p = go (given_time c) (answer_of m c) (call_exit m c)
  where
    ended : (t y : ℕ) → y ≡ g.client → lease_end y (runs m t) ≡ 0
    ended t y e = rw e (fresh-end g.client (runs m t) (fresh-running (time_at m t) g.client p.from m.leases p.fresh))

    go : (t : ℕ) (a : LeaseAnswer) → Exit m t a → a.answer ≡ Ok (ByGrant g) → ⊥
    go t a (refused n q) s = let f = ap (λ (x : LeaseAnswer). x.answer) (sym q) ∙ s in let z : ◌≡◌ {A = ℕ} 0 1 = cc in omega arith
    go t a (opened f u i k l q) s =
        let r = ap (λ (x : LeaseAnswer). x.answer) (sym q) ∙ s in
        let z : record { client = suc m.issued; lease = f } ≡ g = cc in
        let y = ap (λ (v : Grant). v.client) z in
        omega (arith, p.issued)
    go t a (renewed y f n u k v q) s =
        let r = ap (λ (x : LeaseAnswer). x.answer) (sym q) ∙ s in
        let z : record { client = y; lease = f } ≡ g = cc in
        n (ended t y (ap (λ (v : Grant). v.client) z))
    go t a (noticed y h k n q) s = let f = ap (λ (x : LeaseAnswer). x.answer) (sym q) ∙ s in let z : ◌≡◌ {A = ℕ} 0 1 = cc in omega arith
    go t a (found y h k n q) s =
        let r = ap (λ (x : LeaseAnswer). x.answer) (sym q) ∙ s in
        let z : record { client = y; lease = lease_end y (runs m t) } ≡ g = cc in
        n (ended t y (ap (λ (v : Grant). v.client) z))

-- a notice names such a client, at the manager's time
pub notice-gone : {m : LeaseManager} → WellFormed m → (c : LeaseCall) (n : Notice) → (answer_of m c).answer ≡ Ok (ByNotice n)
    → Gone (answer_of m c).manager n.client × ((answer_of m c).manager.time ≡ n.time)
unfolding not_told granted manager
notice-gone {m} w c n = go (given_time c) (answer_of m c) (call_exit m c)
  where
    go : (t : ℕ) (a : LeaseAnswer) → Exit m t a → a.answer ≡ Ok (ByNotice n) → Gone a.manager n.client × (a.manager.time ≡ n.time)
    go t a (refused k q) s = let f = ap (λ (x : LeaseAnswer). x.answer) (sym q) ∙ s in let z : ◌≡◌ {A = ℕ} 0 1 = cc in absurd (omega arith)
    go t a (opened f u i k l q) s = let r = ap (λ (x : LeaseAnswer). x.answer) (sym q) ∙ s in let z : ◌≡◌ {A = ℕ} 0 1 = cc in absurd (omega arith)
    go t a (renewed y f k u l v q) s = let r = ap (λ (x : LeaseAnswer). x.answer) (sym q) ∙ s in let z : ◌≡◌ {A = ℕ} 0 1 = cc in absurd (omega arith)
    go t a (noticed y h k e q) s =
        let r = ap (λ (x : LeaseAnswer). x.answer) (sym q) ∙ s in
        let z : record { client = y; time = time_at m t } ≡ n = cc in
        rw q
        (subst (λ (v : Notice). Gone (record { time = time_at m t; issued = m.issued; leases = runs m t }) v.client × (time_at m t ≡ v.time)) z
        (record { from = h; issued = k; fresh = end_fresh (time_at m t) m.issued y h (runs m t) (runs-placed w t) e }, refl))
    go t a (found y h k e q) s = let r = ap (λ (x : LeaseAnswer). x.answer) (sym q) ∙ s in let z : ◌≡◌ {A = ℕ} 0 1 = cc in absurd (omega arith)

-- every grant to such a client has ended
pub gone_covers : (m : LeaseManager) (x e : ℕ) → Gone m x → Covers m x e → e ≤ m.time
gone_covers m x e p (inl h) = h
gone_covers m x e p (inr l) = absurd (lasts_not x e m.leases p.fresh l)
