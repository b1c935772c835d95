-- The lease manager (paper: lease office): a notice for a client names a time that no grant to it passes, ever.
--     ManagerOk     the invariant: every grant has ended or a lease covers it; a client with a notice has no lease again
--     open_ok, renew-ok, regrant_ok, notice-ok   the manager's calls keep it;  manager_aside   other packets do
-- Assumes nothing.
use mathlib.Core.Path.{◌≡◌, refl, sym, ◌∙◌, ap, subst}
use mathlib.Core.Bool.{Bool, true, false, not, ◌&&◌, ◌||◌}
use mathlib.Core.List.Memᴰ
use mathlib.Core.List.{List, [], ◌∷◌, map, Memᴰ}
use mathlib.Core.Logic.{◌⊎◌, inl, inr}
use native.Mathlib.Omega.{arith}
use Prim.Native.Nat.{ℕ, suc, ◌+◌, ◌≤◌, ◌<◌, max}
use lib.Dec.{leb, eqb}
use borrow.Author.Tests.{eqb-true, eqb-false, leb-true, leb-false}
use Rattle.model.specs.declared.Lease.{Lease}
use Rattle.model.specs.declared.LeaseManager.{LeaseManager}
use Rattle.model.specs.Choice.{pick}
use Rattle.model.specs.Tables.{every}
use Rattle.model.specs.Leases.{no_lease, ended_at, running_at, lease_end, is_taken, with_new_lease, extended}
use Rattle.proof_protocol.specs.Servers.{Packet}
use Rattle.proof_protocol.specs.Servers as S
use Rattle.proof_protocol.proofs.Basics.{impossible}
use Rattle.proof_protocol.proofs.Core.{In}

-- ---- leases that run

-- what the test of an ended lease says
ended_in : (now : ℕ) (l : Lease) → (l.client ≡ 0 → ⊥) → (l.lease ≤ now) ⊎ (ended_at now l ≡ l)
unfolding ended_at
ended_in now l n = go (leb l.lease now) refl (eqb l.client 0) refl
  where
    go : (a : Bool) → leb l.lease now ≡ a → (b : Bool) → eqb l.client 0 ≡ b → (l.lease ≤ now) ⊎ (pick (a || b) no_lease l ≡ l)
    go true p b q = inl (leb-true _ _ p)
    go false p true q = absurd (n (eqb-true _ _ q))
    go false p false q = inr refl

ended-out : (now : ℕ) (l : Lease) → (ended_at now l ≡ no_lease) ⊎ ((ended_at now l ≡ l) × (now < l.lease) × (l.client ≡ 0 → ⊥))
unfolding ended_at
ended-out now l = go (leb l.lease now) refl (eqb l.client 0) refl
  where
    go : (a : Bool) → leb l.lease now ≡ a → (b : Bool) → eqb l.client 0 ≡ b → (pick (a || b) no_lease l ≡ no_lease) ⊎ ((pick (a || b) no_lease l ≡ l) × (now < l.lease) × (l.client ≡ 0 → ⊥))
    go true p b q = inl refl
    go false p true q = inl refl
    go false p false q = inr (refl, leb-false _ _ p, eqb-false _ _ q)

running_in : (now : ℕ) (l : Lease) (ls : List Lease) → (l.client ≡ 0 → ⊥) → Memᴰ l ls → (l.lease ≤ now) ⊎ Memᴰ l (running_at now ls)
unfolding running_at
running_in now l [] n m = absurd (Memᴰ.not-nil m)
running_in now l (k ∷ ls) n m = go (Memᴰ.cases_cons m) (λ j. running_in now l ls n j)
  where
    up : (l.lease ≤ now) ⊎ Memᴰ l (map (ended_at now) ls) → (l.lease ≤ now) ⊎ Memᴰ l (ended_at now k ∷ map (ended_at now) ls)
    up (inl h) = inl h
    up (inr j) = inr (Memᴰ.tail j)

    one : l ≡ k → (l.lease ≤ now) ⊎ (ended_at now l ≡ l) → (l.lease ≤ now) ⊎ Memᴰ l (ended_at now k ∷ map (ended_at now) ls)
    one e (inl h) = inl h
    one e (inr h) = inr (Memᴰ.head (sym h ∙ ap (ended_at now) e))

    go : (l ≡ k) ⊎ Memᴰ l ls → (Memᴰ l ls → (l.lease ≤ now) ⊎ Memᴰ l (map (ended_at now) ls)) → (l.lease ≤ now) ⊎ Memᴰ l (ended_at now k ∷ map (ended_at now) ls)
    go (inl e) ih = one e (ended_in now l n)
    go (inr j) ih = up (ih j)

running-out : (now : ℕ) (l : Lease) (ls : List Lease) → Memᴰ l (running_at now ls) → (l ≡ no_lease) ⊎ (Memᴰ l ls × (now < l.lease) × (l.client ≡ 0 → ⊥))
unfolding running_at
running-out now l [] m = absurd (Memᴰ.not-nil m)
running-out now l (k ∷ ls) m = go (Memᴰ.cases_cons m) (λ j. running-out now l ls j)
  where
    up : (l ≡ no_lease) ⊎ (Memᴰ l ls × (now < l.lease) × (l.client ≡ 0 → ⊥)) → (l ≡ no_lease) ⊎ (Memᴰ l (k ∷ ls) × (now < l.lease) × (l.client ≡ 0 → ⊥))
    up (inl h) = inl h
    up (inr j) = inr (Memᴰ.tail j.0, j.1, j.2)

    one : l ≡ ended_at now k → (ended_at now k ≡ no_lease) ⊎ ((ended_at now k ≡ k) × (now < k.lease) × (k.client ≡ 0 → ⊥))
        → (l ≡ no_lease) ⊎ (Memᴰ l (k ∷ ls) × (now < l.lease) × (l.client ≡ 0 → ⊥))
    one e (inl h) = inl (e ∙ h)
    one e (inr h) = inr (Memᴰ.head (e ∙ h.0), subst (λ (z : Lease). now < z.lease) (sym (e ∙ h.0)) h.1, subst (λ (z : Lease). z.client ≡ 0 → ⊥) (sym (e ∙ h.0)) h.2)

    go : (l ≡ ended_at now k) ⊎ Memᴰ l (map (ended_at now) ls) → (Memᴰ l (map (ended_at now) ls) → (l ≡ no_lease) ⊎ (Memᴰ l ls × (now < l.lease) × (l.client ≡ 0 → ⊥)))
        → (l ≡ no_lease) ⊎ (Memᴰ l (k ∷ ls) × (now < l.lease) × (l.client ≡ 0 → ⊥))
    go (inl e) ih = one e (ended-out now k)
    go (inr j) ih = up (ih j)

-- a client whose lease end is 0 has no lease, if all leases have an end
none_runs : (x : ℕ) (ls : List Lease) → ((l : Lease) → Memᴰ l ls → l.client ≡ x → 0 < l.lease) → lease_end x ls ≡ 0 → (l : Lease) → Memᴰ l ls → l.client ≡ x → ⊥
unfolding lease_end
none_runs x [] pos h l m e = Memᴰ.not-nil m
none_runs x (k ∷ ls) pos h l m e = go (eqb k.client x) refl h (Memᴰ.cases_cons m) (λ g j. none_runs x ls (λ a b. pos a (Memᴰ.tail b)) g l j e)
  where
    go : (b : Bool) → eqb k.client x ≡ b → pick b k.lease (lease_end x ls) ≡ 0 → (l ≡ k) ⊎ Memᴰ l ls → (lease_end x ls ≡ 0 → Memᴰ l ls → ⊥) → ⊥
    go true q g j ih = omega (arith, pos k (Memᴰ.head refl) (eqb-true _ _ q))
    go false q g (inl r) ih = eqb-false _ _ q (ap (λ (z : Lease). z.client) (sym r) ∙ e)
    go false q g (inr j) ih = ih g j

pub record Covers (x e : ℕ) (ls : List Lease) : Type 0 where
  pub lease : Lease
  pub among : Memᴰ lease ls
  pub client : lease.client ≡ x
  pub upto : e ≤ lease.lease

covers_tail : {x e : ℕ} {k : Lease} {ls : List Lease} → Covers x e ls → Covers x e (k ∷ ls)
covers_tail c = record { lease = c.lease; among = Memᴰ.tail c.among; client = c.client; upto = c.upto }

running-lease : (x : ℕ) (ls : List Lease) → (lease_end x ls ≡ 0 → ⊥) → Covers x (lease_end x ls) ls
unfolding lease_end
running-lease x [] h = absurd (h refl)
running-lease x (k ∷ ls) h = go (eqb k.client x) refl h (λ g. running-lease x ls g)
  where
    go : (b : Bool) → eqb k.client x ≡ b → (pick b k.lease (lease_end x ls) ≡ 0 → ⊥) → ((lease_end x ls ≡ 0 → ⊥) → Covers x (lease_end x ls) ls)
        → Covers x (pick b k.lease (lease_end x ls)) (k ∷ ls)
    go true q g ih = record { lease = k; among = Memᴰ.head refl; client = eqb-true _ _ q; upto = omega arith }
    go false q g ih = covers_tail (ih g)

-- ---- a lease is extended

extended_in : (x e y u : ℕ) (ls : List Lease) → lease_end x ls ≤ e → Covers y u ls → Covers y u (extended x e ls)
unfolding extended lease_end
extended_in x e y u [] le c = absurd (Memᴰ.not-nil c.among)
extended_in x e y u (k ∷ ls) le c = go (eqb k.client x) refl le (Memᴰ.cases_cons c.among) (λ f d. extended_in x e y u ls f d)
  where
    go : (b : Bool) → eqb k.client x ≡ b → pick b k.lease (lease_end x ls) ≤ e → (c.lease ≡ k) ⊎ Memᴰ c.lease ls → (lease_end x ls ≤ e → Covers y u ls → Covers y u (extended x e ls))
        → Covers y u (pick b (record { client = x; lease = e } ∷ ls) (k ∷ extended x e ls))
    go true q f (inl r) ih = record {
      lease = record { client = x; lease = e };
      among = Memᴰ.head refl;
      client = sym (eqb-true _ _ q) ∙ ap (λ (z : Lease). z.client) (sym r) ∙ c.client;
      upto = let h : u ≤ k.lease = subst (λ (z : Lease). u ≤ z.lease) r c.upto in omega arith;
    }
    go true q f (inr j) ih = record { lease = c.lease; among = Memᴰ.tail j; client = c.client; upto = c.upto }
    go false q f (inl r) ih = record { lease = c.lease; among = Memᴰ.head r; client = c.client; upto = c.upto }
    go false q f (inr j) ih = covers_tail (ih f (record { lease = c.lease; among = j; client = c.client; upto = c.upto }))

extended_new : (x e : ℕ) (ls : List Lease) → (lease_end x ls ≡ 0 → ⊥) → Covers x e (extended x e ls)
unfolding extended lease_end
extended_new x e [] h = absurd (h refl)
extended_new x e (k ∷ ls) h = go (eqb k.client x) refl h (λ g. extended_new x e ls g)
  where
    go : (b : Bool) → eqb k.client x ≡ b → (pick b k.lease (lease_end x ls) ≡ 0 → ⊥) → ((lease_end x ls ≡ 0 → ⊥) → Covers x e (extended x e ls))
        → Covers x e (pick b (record { client = x; lease = e } ∷ ls) (k ∷ extended x e ls))
    go true q g ih = record { lease = record { client = x; lease = e }; among = Memᴰ.head refl; client = refl; upto = omega arith }
    go false q g ih = covers_tail (ih g)

extended-out : (x e : ℕ) (l : Lease) (ls : List Lease) → Memᴰ l (extended x e ls) → Covers l.client 0 ls
unfolding extended
extended-out x e l [] m = absurd (Memᴰ.not-nil m)
extended-out x e l (k ∷ ls) m = go (eqb k.client x) refl m (λ j. extended-out x e l ls j)
  where
    new : k.client ≡ x → (l ≡ record { client = x; lease = e }) ⊎ Memᴰ l ls → Covers l.client 0 (k ∷ ls)
    new q (inl r) = record { lease = k; among = Memᴰ.head refl; client = q ∙ ap (λ (z : Lease). z.client) (sym r); upto = omega arith }
    new q (inr j) = record { lease = l; among = Memᴰ.tail j; client = refl; upto = omega arith }

    old : (l ≡ k) ⊎ Memᴰ l (extended x e ls) → (Memᴰ l (extended x e ls) → Covers l.client 0 ls) → Covers l.client 0 (k ∷ ls)
    old (inl r) ih = record { lease = k; among = Memᴰ.head refl; client = ap (λ (z : Lease). z.client) (sym r); upto = omega arith }
    old (inr j) ih = covers_tail (ih j)

    go : (b : Bool) → eqb k.client x ≡ b → Memᴰ l (pick b (record { client = x; lease = e } ∷ ls) (k ∷ extended x e ls)) → (Memᴰ l (extended x e ls) → Covers l.client 0 ls) → Covers
        l.client 0 (k ∷ ls)
    go true q j ih = new (eqb-true _ _ q) (Memᴰ.cases_cons j)
    go false q j ih = old (Memᴰ.cases_cons j) ih

-- ---- a lease is entered at the first free place

entered-out : (n l : Lease) (ls : List Lease) → Memᴰ l (with_new_lease n ls) → (l ≡ n) ⊎ Memᴰ l ls
unfolding with_new_lease
entered-out n l [] m = absurd (Memᴰ.not-nil m)
entered-out n l (k ∷ ls) m = go (is_taken k) m (λ j. entered-out n l ls j)
  where
    new : (l ≡ n) ⊎ Memᴰ l ls → (l ≡ n) ⊎ Memᴰ l (k ∷ ls)
    new (inl e) = inl e
    new (inr j) = inr (Memᴰ.tail j)

    old : (l ≡ k) ⊎ Memᴰ l (with_new_lease n ls) → (Memᴰ l (with_new_lease n ls) → (l ≡ n) ⊎ Memᴰ l ls) → (l ≡ n) ⊎ Memᴰ l (k ∷ ls)
    old (inl e) ih = inr (Memᴰ.head e)
    old (inr j) ih = new (ih j)

    go : (b : Bool) → Memᴰ l (pick b (k ∷ with_new_lease n ls) (n ∷ ls)) → (Memᴰ l (with_new_lease n ls) → (l ≡ n) ⊎ Memᴰ l ls) → (l ≡ n) ⊎ Memᴰ l (k ∷ ls)
    go true j ih = old (Memᴰ.cases_cons j) ih
    go false j ih = new (Memᴰ.cases_cons j)

entered_in : (n : Lease) (x e : ℕ) (ls : List Lease) → (x ≡ 0 → ⊥) → Covers x e ls → Covers x e (with_new_lease n ls)
unfolding with_new_lease is_taken
entered_in n x e [] z c = absurd (Memᴰ.not-nil c.among)
entered_in n x e (k ∷ ls) z c = go (eqb k.client 0) refl (Memᴰ.cases_cons c.among) (λ d. entered_in n x e ls z d)
  where
    go : (b : Bool) → eqb k.client 0 ≡ b → (c.lease ≡ k) ⊎ Memᴰ c.lease ls → (Covers x e ls → Covers x e (with_new_lease n ls)) → Covers x e (pick (not b) (k ∷ with_new_lease n ls) (n ∷ ls))
    go true q (inl r) ih = absurd (z (sym c.client ∙ ap (λ (l : Lease). l.client) r ∙ eqb-true _ _ q))
    go true q (inr j) ih = record { lease = c.lease; among = Memᴰ.tail j; client = c.client; upto = c.upto }
    go false q (inl r) ih = record { lease = c.lease; among = Memᴰ.head r; client = c.client; upto = c.upto }
    go false q (inr j) ih = covers_tail (ih (record { lease = c.lease; among = j; client = c.client; upto = c.upto }))

entered_new : (n : Lease) (ls : List Lease) → every is_taken ls ≡ false → Memᴰ n (with_new_lease n ls)
unfolding with_new_lease every
entered_new n [] e = impossible e
entered_new n (k ∷ ls) e = go (is_taken k) e (λ h. entered_new n ls h)
  where
    go : (b : Bool) → b && every is_taken ls ≡ false → (every is_taken ls ≡ false → Memᴰ n (with_new_lease n ls)) → Memᴰ n (pick b (k ∷ with_new_lease n ls) (n ∷ ls))
    go true h ih = Memᴰ.tail (ih h)
    go false h ih = Memᴰ.head refl

-- ---- the manager's invariant

pub record ManagerOk (o : LeaseManager) (made : List Packet) : Type 0 where
  pub known : (l : Lease) → Memᴰ l o.leases → l.client ≤ o.issued
  pub granted : (x e : ℕ) → In made (S.grant x e) → x ≤ o.issued
  pub named : (x e : ℕ) → In made (S.grant x e) → x ≡ 0 → ⊥
  pub covered : (x e : ℕ) → In made (S.grant x e) → (e ≤ o.time) ⊎ Covers x e o.leases
  pub noticed : (x t : ℕ) → In made (S.notice x t) → x ≤ o.issued
  pub called : (x t : ℕ) → In made (S.notice x t) → x ≡ 0 → ⊥
  pub ended : (x t : ℕ) → In made (S.notice x t) → (l : Lease) → Memᴰ l o.leases → l.client ≡ x → ⊥
  pub holds : (x t e : ℕ) → In made (S.notice x t) → In made (S.grant x e) → e ≤ t

-- time goes on
pub manager-runs : (o : LeaseManager) (made : List Packet) (now : ℕ) → o.time ≤ now → ManagerOk o made → ManagerOk (record { time = now; issued = o.issued; leases = running_at now o.leases }) made
manager-runs o made now le k = record {
  known = λ l m. kn l (running-out now l o.leases m);
  granted = k.granted;
  named = k.named;
  covered = λ x e m. go x e (k.named x e m) (k.covered x e m);
  noticed = k.noticed;
  called = k.called;
  ended = λ x t m l j e. en x t m l e (running-out now l o.leases j);
  holds = k.holds;
}
  where
    kn : (l : Lease) → (l ≡ no_lease) ⊎ (Memᴰ l o.leases × (now < l.lease) × (l.client ≡ 0 → ⊥)) → l.client ≤ o.issued
    kn l (inl e) = let z : l.client ≡ 0 = ap (λ (y : Lease). y.client) e in omega arith
    kn l (inr h) = k.known l h.0

    en : (x t : ℕ) → In made (S.notice x t) → (l : Lease) → l.client ≡ x → (l ≡ no_lease) ⊎ (Memᴰ l o.leases × (now < l.lease) × (l.client ≡ 0 → ⊥)) → ⊥
    en x t m l e (inl q) = k.called x t m (sym e ∙ ap (λ (y : Lease). y.client) q)
    en x t m l e (inr h) = k.ended x t m l h.0 e

    on : (x e : ℕ) (c : Covers x e o.leases) → (c.lease.lease ≤ now) ⊎ Memᴰ c.lease (running_at now o.leases) → (e ≤ now) ⊎ Covers x e (running_at now o.leases)
    on x e c (inl h) = inl (omega (arith, c.upto))
    on x e c (inr j) = inr (record { lease = c.lease; among = j; client = c.client; upto = c.upto })

    go : (x e : ℕ) → (x ≡ 0 → ⊥) → (e ≤ o.time) ⊎ Covers x e o.leases → (e ≤ now) ⊎ Covers x e (running_at now o.leases)
    go x e n (inl h) = inl (omega arith)
    go x e n (inr c) = on x e c (running_in now c.lease o.leases (λ q. n (sym c.client ∙ q)) c.among)

-- no grant and no notice: nothing of the manager
abbrev pub aside : Packet → Bool
aside (S.request q) = true
aside (S.answered i p r) = true
aside (S.receipt p c m) = true
aside (S.notice x t) = false
aside (S.grant x t) = false
aside (S.image i) = true

module _ (o : LeaseManager) (made : List Packet) (k : ManagerOk o made) where
  pub manager_aside : (q : Packet) → aside q ≡ true → ManagerOk o (q ∷ made)
  manager_aside q a = record {
    known = k.known;
    granted = λ x e m. k.granted x e (g x e (Memᴰ.cases_cons m));
    named = λ x e m. k.named x e (g x e (Memᴰ.cases_cons m));
    covered = λ x e m. k.covered x e (g x e (Memᴰ.cases_cons m));
    noticed = λ x t m. k.noticed x t (n x t (Memᴰ.cases_cons m));
    called = λ x t m. k.called x t (n x t (Memᴰ.cases_cons m));
    ended = λ x t m. k.ended x t (n x t (Memᴰ.cases_cons m));
    holds = λ x t e m j. k.holds x t e (n x t (Memᴰ.cases_cons m)) (g x e (Memᴰ.cases_cons j));
  }
    where
      g : (x e : ℕ) → (S.grant x e ≡ q) ⊎ In made (S.grant x e) → In made (S.grant x e)
      g x e (inl r) = impossible (sym a ∙ ap aside (sym r))
      g x e (inr m) = m

      n : (x e : ℕ) → (S.notice x e ≡ q) ⊎ In made (S.notice x e) → In made (S.notice x e)
      n x e (inl r) = impossible (sym a ∙ ap aside (sym r))
      n x e (inr m) = m

  -- a grant that a lease of this manager covers
  manager-grant : (y u : ℕ) → (y ≡ 0 → ⊥) → Covers y u o.leases → ManagerOk o (S.grant y u ∷ made)
  manager-grant y u nz c = record {
    known = k.known;
    granted = λ x e m. g x e (Memᴰ.cases_cons m);
    named = λ x e m. nm x e (Memᴰ.cases_cons m);
    covered = λ x e m. v x e (Memᴰ.cases_cons m);
    noticed = λ x t m. k.noticed x t (n x t (Memᴰ.cases_cons m));
    called = λ x t m. k.called x t (n x t (Memᴰ.cases_cons m));
    ended = λ x t m. k.ended x t (n x t (Memᴰ.cases_cons m));
    holds = λ x t e m j. h x t e (n x t (Memᴰ.cases_cons m)) (Memᴰ.cases_cons j);
  }
    where
      g : (x e : ℕ) → (S.grant x e ≡ S.grant y u) ⊎ In made (S.grant x e) → x ≤ o.issued
      g x e (inl r) = let q : x ≡ y = cc in let z = k.known c.lease c.among in let w = c.client in omega arith
      g x e (inr m) = k.granted x e m

      nm : (x e : ℕ) → (S.grant x e ≡ S.grant y u) ⊎ In made (S.grant x e) → x ≡ 0 → ⊥
      nm x e (inl r) z = let q : x ≡ y = cc in nz (sym q ∙ z)
      nm x e (inr m) z = k.named x e m z

      v : (x e : ℕ) → (S.grant x e ≡ S.grant y u) ⊎ In made (S.grant x e) → (e ≤ o.time) ⊎ Covers x e o.leases
      v x e (inl r) = let q : x ≡ y = cc in let s : e ≡ u = cc in inr (record { lease = c.lease; among = c.among; client = c.client ∙ sym q; upto = let w = c.upto in omega arith })
      v x e (inr m) = k.covered x e m

      n : (x e : ℕ) → (S.notice x e ≡ S.grant y u) ⊎ In made (S.notice x e) → In made (S.notice x e)
      n x e (inl r) = let z : ◌≡◌ {A = ℕ} 0 1 = cc in absurd (omega arith)
      n x e (inr m) = m

      h : (x t e : ℕ) → In made (S.notice x t) → (S.grant x e ≡ S.grant y u) ⊎ In made (S.grant x e) → e ≤ t
      h x t e m (inl r) = let q : x ≡ y = cc in absurd (k.ended x t m c.lease c.among (c.client ∙ sym q))
      h x t e m (inr j) = k.holds x t e m j

  -- a notice to a client with no lease here
  manager-notice : (y : ℕ) → (y ≡ 0 → ⊥) → y ≤ o.issued → ((l : Lease) → Memᴰ l o.leases → l.client ≡ y → ⊥) → ManagerOk o (S.notice y o.time ∷ made)
  manager-notice y nz le free = record {
    known = k.known;
    granted = λ x e m. k.granted x e (g x e (Memᴰ.cases_cons m));
    named = λ x e m. k.named x e (g x e (Memᴰ.cases_cons m));
    covered = λ x e m. k.covered x e (g x e (Memᴰ.cases_cons m));
    noticed = λ x t m. nt x t (Memᴰ.cases_cons m);
    called = λ x t m. cl x t (Memᴰ.cases_cons m);
    ended = λ x t m. en x t (Memᴰ.cases_cons m);
    holds = λ x t e m j. h x t e (Memᴰ.cases_cons m) (g x e (Memᴰ.cases_cons j));
  }
    where
      g : (x e : ℕ) → (S.grant x e ≡ S.notice y o.time) ⊎ In made (S.grant x e) → In made (S.grant x e)
      g x e (inl r) = let z : ◌≡◌ {A = ℕ} 0 1 = cc in absurd (omega arith)
      g x e (inr m) = m

      nt : (x t : ℕ) → (S.notice x t ≡ S.notice y o.time) ⊎ In made (S.notice x t) → x ≤ o.issued
      nt x t (inl r) = let q : x ≡ y = cc in omega arith
      nt x t (inr m) = k.noticed x t m

      cl : (x t : ℕ) → (S.notice x t ≡ S.notice y o.time) ⊎ In made (S.notice x t) → x ≡ 0 → ⊥
      cl x t (inl r) z = let q : x ≡ y = cc in nz (sym q ∙ z)
      cl x t (inr m) z = k.called x t m z

      en : (x t : ℕ) → (S.notice x t ≡ S.notice y o.time) ⊎ In made (S.notice x t) → (l : Lease) → Memᴰ l o.leases → l.client ≡ x → ⊥
      en x t (inl r) l j e = let q : x ≡ y = cc in free l j (e ∙ q)
      en x t (inr m) l j e = k.ended x t m l j e

      cov : (x e : ℕ) → x ≡ y → (e ≤ o.time) ⊎ Covers x e o.leases → e ≤ o.time
      cov x e q (inl r) = r
      cov x e q (inr c) = absurd (free c.lease c.among (c.client ∙ q))

      h : (x t e : ℕ) → (S.notice x t ≡ S.notice y o.time) ⊎ In made (S.notice x t) → In made (S.grant x e) → e ≤ t
      h x t e (inl r) j = let q : x ≡ y = cc in let s : t ≡ o.time = cc in let w = cov x e q (k.covered x e j) in omega arith
      h x t e (inr m) j = k.holds x t e m j

-- ---- the calls

module _ (o : LeaseManager) (made : List Packet) (k : ManagerOk o made) (now : ℕ) (le : o.time ≤ now) where
  abbrev ls : List Lease
  ls = running_at now o.leases

  abbrev later : LeaseManager
  later = record { time = now; issued = o.issued; leases = ls }

  k' : ManagerOk later made
  k' = manager-runs o made now le k

  -- a running lease is no free place
  runs-named : (x : ℕ) → (lease_end x ls ≡ 0 → ⊥) → x ≡ 0 → ⊥
  runs-named x h z = let c = running-lease x ls h in go c (running-out now c.lease o.leases c.among)
    where
      go : (c : Covers x (lease_end x ls) ls) → (c.lease ≡ no_lease) ⊎ (Memᴰ c.lease o.leases × (now < c.lease.lease) × (c.lease.client ≡ 0 → ⊥)) → ⊥
      go c (inl e) = let q : c.lease.lease ≡ 0 = ap (λ (y : Lease). y.lease) e in let u = c.upto in h (omega arith)
      go c (inr j) = j.2 (c.client ∙ z)

  pub regrant_ok : (x : ℕ) → (lease_end x ls ≡ 0 → ⊥) → ManagerOk later (S.grant x (lease_end x ls) ∷ made)
  regrant_ok x h = manager-grant later made k' x (lease_end x ls) (runs-named x h) (running-lease x ls h)

  pub notice-ok : (x : ℕ) → lease_end x ls ≡ 0 → (x ≡ 0 → ⊥) → x ≤ o.issued → ManagerOk later (S.notice x now ∷ made)
  notice-ok x h nz q = manager-notice later made k' x nz q (none_runs x ls (λ l m e. go l e (running-out now l o.leases m)) h)
    where
      go : (l : Lease) → l.client ≡ x → (l ≡ no_lease) ⊎ (Memᴰ l o.leases × (now < l.lease) × (l.client ≡ 0 → ⊥)) → 0 < l.lease
      go l e (inl z) = absurd (nz (sym e ∙ ap (λ (y : Lease). y.client) z))
      go l e (inr j) = omega (arith, j.1)

  pub renew-ok : (x span : ℕ) → (lease_end x ls ≡ 0 → ⊥)
      → ManagerOk (record { time = now; issued = o.issued; leases = extended x (max (lease_end x ls) (now + span)) ls }) (S.grant x (max (lease_end x ls) (now + span)) ∷ made)
  renew-ok x span h = manager-grant _ made mid x _ (runs-named x h) (extended_new x e' ls h)
    where
      e' : ℕ
      e' = max (lease_end x ls) (now + span)

      up : (y e : ℕ) → (e ≤ now) ⊎ Covers y e ls → (e ≤ now) ⊎ Covers y e (extended x e' ls)
      up y e (inl r) = inl r
      up y e (inr c) = inr (extended_in x e' y e ls (omega arith) c)

      mid : ManagerOk (record { time = now; issued = o.issued; leases = extended x e' ls }) made
      mid = record {
        known = λ l m. let c = extended-out x e' l ls m in let r = k'.known c.lease c.among in let s = c.client in omega arith;
        granted = k'.granted;
        named = k'.named;
        covered = λ y e m. up y e (k'.covered y e m);
        noticed = k'.noticed;
        called = k'.called;
        ended = λ y t m l j e. let c = extended-out x e' l ls j in k'.ended y t m c.lease c.among (c.client ∙ e);
        holds = k'.holds;
      }

  pub open_ok : (span : ℕ) → every is_taken ls ≡ false
      → ManagerOk (record { time = now; issued = suc o.issued; leases = with_new_lease (record { client = suc o.issued; lease = now + span }) ls }) (S.grant (suc o.issued) (now + span) ∷ made)
  open_ok span f = manager-grant _ made mid (suc o.issued) (now + span) (λ e. absurd (omega arith)) (record { lease = new; among = entered_new new ls f; client = refl; upto = omega arith })
    where
      new : Lease
      new = record { client = suc o.issued; lease = now + span }

      kn : (l : Lease) → (l ≡ new) ⊎ Memᴰ l ls → l.client ≤ suc o.issued
      kn l (inl e) = let q : l.client ≡ suc o.issued = ap (λ (z : Lease). z.client) e in omega arith
      kn l (inr j) = let r = k'.known l j in omega arith

      up : (y e : ℕ) → (y ≡ 0 → ⊥) → (e ≤ now) ⊎ Covers y e ls → (e ≤ now) ⊎ Covers y e (with_new_lease new ls)
      up y e n (inl r) = inl r
      up y e n (inr c) = inr (entered_in new y e ls n c)

      en : (x t : ℕ) → In made (S.notice x t) → (l : Lease) → (l ≡ new) ⊎ Memᴰ l ls → l.client ≡ x → ⊥
      en x t m l (inl e) q = let r = k'.noticed x t m in let s : l.client ≡ suc o.issued = ap (λ (z : Lease). z.client) e in omega arith
      en x t m l (inr j) q = k'.ended x t m l j q

      mid : ManagerOk (record { time = now; issued = suc o.issued; leases = with_new_lease new ls }) made
      mid = record {
        known = λ l m. kn l (entered-out new l ls m);
        granted = λ x e m. let r = k'.granted x e m in omega arith;
        named = k'.named;
        covered = λ y e m. up y e (k'.named y e m) (k'.covered y e m);
        noticed = λ x t m. let r = k'.noticed x t m in omega arith;
        called = k'.called;
        ended = λ x t m l j. en x t m l (entered-out new l ls j);
        holds = k'.holds;
      }
