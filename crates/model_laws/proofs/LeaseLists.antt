-- Lists of leases: the running ones, a new one, one with a new end.
--     pos_of, taken_is, free-is                 tests
--     all_map, all_mono, all_entered, all_extended        what holds of each place
--     length-entered, length-extended
--     fresh-running, fresh-entered, fresh-extended, fresh-end, end_fresh, end-zero, end-within, end_known    a client without a lease
--     distinct-running, distinct-entered, distinct-extended                 no client has two
--     lasts_running, lasts_entered, lasts_extended, lasts_not               a lease that lasts until e
--     entered_lasts, extended_lasts, end_lasts                              of the client that is granted
--     running-placed                                                        running leases end after the time
-- Assumes nothing.
use mathlib.Core.Path.{◌≡◌, refl, sym, ◌∙◌, ap, subst}
use mathlib.Core.Bool.{Bool, true, false, ◌&&◌, ◌||◌, not, false≢true}
use mathlib.Core.List.{List, [], ◌∷◌, map}
use mathlib.Core.Logic.{◌⊎◌, inl, inr}
use Prim.Native.Nat.{ℕ, zero, suc, ◌≤◌, ◌<◌}
use native.Mathlib.Omega.{arith}
use lib.Dec.{eqb, leb}
use lib.ListN.{length}
use borrow.Author.Tests.{eqb-true, eqb-false, leb-true, leb-false}
use Rattle.model_laws.specs.Bytes.{All}
use Rattle.model_laws.proofs.Tests.{choose}
use Rattle.model.specs.declared.Lease.{Lease}
use Rattle.model.specs.Choice.{pick}
use Rattle.model.specs.Tables.{every}
use Rattle.model.specs.Leases.{no_lease, ended_at, running_at, lease_end, is_taken, with_new_lease, extended}
use Rattle.model.specs.Limits.{last32}
use Rattle.model_laws.specs.LeaseForm.{Fresh, Distinct, Placed, Lasts}

-- ---- tests

pub pos_of : (n : ℕ) → (n ≡ 0 → ⊥) → 1 ≤ n
pos_of zero f = absurd (f refl)
pos_of (suc n) f = omega arith

pub taken_is : (l : Lease) → is_taken l ≡ true → 1 ≤ l.client
unfolding is_taken
taken_is l e = go (eqb l.client 0) refl e
  where
    go : (b : Bool) → eqb l.client 0 ≡ b → not b ≡ true → 1 ≤ l.client
    go true q f = absurd (false≢true f)
    go false q f = pos_of _ (eqb-false _ _ q)

pub free-is : (l : Lease) → is_taken l ≡ false → l.client ≡ 0
unfolding is_taken
free-is l e = go (eqb l.client 0) refl e
  where
    go : (b : Bool) → eqb l.client 0 ≡ b → not b ≡ false → l.client ≡ 0
    go true q f = eqb-true _ _ q
    go false q f = absurd (false≢true (sym f))

-- ---- each place

pub all_map : (P Q : Lease → Type 0) (f : Lease → Lease) → ((l : Lease) → P l → Q (f l)) → (ls : List Lease) → All P ls → All Q (map f ls)
all_map P Q f g [] a = tt
all_map P Q f g (l ∷ ls) a = (g l a.0, all_map P Q f g ls a.1)

pub all_mono : (P Q : Lease → Type 0) → ((l : Lease) → P l → Q l) → (ls : List Lease) → All P ls → All Q ls
all_mono P Q g [] a = tt
all_mono P Q g (l ∷ ls) a = (g l a.0, all_mono P Q g ls a.1)

pub all_entered : (P : Lease → Type 0) (n : Lease) → P n → (ls : List Lease) → All P ls → All P (with_new_lease n ls)
unfolding with_new_lease
all_entered P n p [] a = tt
all_entered P n p (l ∷ ls) a = choose (All P) (is_taken l) (λ _. (a.0, all_entered P n p ls a.1)) (λ _. (p, a.1))

pub all_extended : (P : Lease → Type 0) (x e : ℕ) (ls : List Lease) → ((l : Lease) → l.client ≡ x → P l → P (record { client = x; lease = e })) → All P ls → All P (extended x e ls)
unfolding extended
all_extended P x e [] f a = tt
all_extended P x e (l ∷ ls) f a =
    choose (All P) (eqb l.client x) (λ q. (f l (eqb-true _ _ q) a.0, a.1)) (λ _. (a.0, all_extended P x e ls f a.1))

pub length-entered : (n : Lease) (ls : List Lease) → length (with_new_lease n ls) ≡ length ls
unfolding with_new_lease
length-entered n [] = refl
length-entered n (l ∷ ls) = choose (λ (k : List Lease). length k ≡ suc (length ls)) (is_taken l) (λ _. ap suc (length-entered n ls)) (λ _. refl)

pub length-extended : (x e : ℕ) (ls : List Lease) → length (extended x e ls) ≡ length ls
unfolding extended
length-extended x e [] = refl
length-extended x e (l ∷ ls) = choose (λ (k : List Lease). length k ≡ suc (length ls)) (eqb l.client x) (λ _. refl) (λ _. ap suc (length-extended x e ls))

-- ---- running leases

-- a lease that has ended leaves a free place, another stays
pub ended-each : (P : Lease → Type 0) (now : ℕ) (l : Lease) → ((l.lease ≤ now) ⊎ (l.client ≡ 0) → P no_lease) → (now < l.lease → 1 ≤ l.client → P l) → P (ended_at now l)
unfolding ended_at
ended-each P now l f g = go (leb l.lease now) (eqb l.client 0) refl refl
  where
    go : (u v : Bool) → leb l.lease now ≡ u → eqb l.client 0 ≡ v → P (pick (u || v) no_lease l)
    go true v p q = f (inl (leb-true _ _ p))
    go false true p q = f (inr (eqb-true _ _ q))
    go false false p q = g (leb-false _ _ p) (pos_of _ (eqb-false _ _ q))

pub running-placed : (now time issued : ℕ) (ls : List Lease) → All (Placed time issued) ls → All (Placed now issued) (running_at now ls)
unfolding running_at
running-placed now time issued =
    all_map (Placed time issued) (Placed now issued) (ended_at now)
    (λ l p. ended-each (Placed now issued) now l
    (λ _. record { known = omega arith; running = λ h. absurd (omega arith); within = omega arith; free = λ _. refl })
    (λ h k. record { known = p.known; running = λ _. h; within = p.within; free = p.free }))

-- ---- a client without a lease

pub fresh-running : (now x : ℕ) → 1 ≤ x → (ls : List Lease) → Fresh x ls → Fresh x (running_at now ls)
unfolding running_at
fresh-running now x h =
    all_map (λ (k : Lease). k.client ≡ x → ⊥) (λ (k : Lease). k.client ≡ x → ⊥) (ended_at now) (λ l p. ended-each (λ (k : Lease). k.client ≡ x → ⊥) now l (λ _ e. omega arith) (λ _ _. p))

pub fresh-entered : (x : ℕ) (n : Lease) → (n.client ≡ x → ⊥) → (ls : List Lease) → Fresh x ls → Fresh x (with_new_lease n ls)
fresh-entered x n p = all_entered (λ (l : Lease). l.client ≡ x → ⊥) n p

pub fresh-extended : (x y e : ℕ) (ls : List Lease) → Fresh x ls → Fresh x (extended y e ls)
fresh-extended x y e ls = all_extended (λ (l : Lease). l.client ≡ x → ⊥) y e ls (λ l q p r. p (q ∙ r))

pub fresh-end : (x : ℕ) (ls : List Lease) → Fresh x ls → lease_end x ls ≡ 0
unfolding lease_end
fresh-end x [] a = refl
fresh-end x (l ∷ ls) a = choose (λ (n : ℕ). n ≡ 0) (eqb l.client x) (λ q. absurd (a.0 (eqb-true _ _ q))) (λ _. fresh-end x ls a.1)

pub end_fresh : (time issued x : ℕ) → 1 ≤ x → (ls : List Lease) → All (Placed time issued) ls → lease_end x ls ≡ 0 → Fresh x ls
unfolding lease_end
end_fresh time issued x h [] a e = tt
end_fresh time issued x h (l ∷ ls) a e = go (eqb l.client x) refl e (end_fresh time issued x h ls a.1)
  where
    go : (b : Bool) → eqb l.client x ≡ b → pick b l.lease (lease_end x ls) ≡ 0 → (lease_end x ls ≡ 0 → Fresh x ls) → Fresh x (l ∷ ls)
    go true q f ih = let c : l.client ≡ x = eqb-true _ _ q in let r = a.0.running (omega arith) in absurd (omega arith)
    go false q f ih = (eqb-false _ _ q, ih f)

-- no lease is of client 0
pub end-zero : (time issued : ℕ) (ls : List Lease) → All (Placed time issued) ls → lease_end 0 ls ≡ 0
unfolding lease_end
end-zero time issued [] a = refl
end-zero time issued (l ∷ ls) a =
    choose (λ (n : ℕ). n ≡ 0) (eqb l.client 0) (λ q. a.0.free (eqb-true _ _ q)) (λ _. end-zero time issued ls a.1)

pub end-within : (time issued x : ℕ) (ls : List Lease) → All (Placed time issued) ls → lease_end x ls ≤ last32
unfolding lease_end
end-within time issued x [] a = omega arith
end-within time issued x (l ∷ ls) a =
    choose (λ (n : ℕ). n ≤ last32) (eqb l.client x) (λ _. a.0.within) (λ _. end-within time issued x ls a.1)

pub end_known : (time issued x : ℕ) (ls : List Lease) → All (Placed time issued) ls → (lease_end x ls ≡ 0 → ⊥) → x ≤ issued
unfolding lease_end
end_known time issued x [] a n = absurd (n refl)
end_known time issued x (l ∷ ls) a n = go (eqb l.client x) refl n (end_known time issued x ls a.1)
  where
    go : (b : Bool) → eqb l.client x ≡ b → (pick b l.lease (lease_end x ls) ≡ 0 → ⊥) → ((lease_end x ls ≡ 0 → ⊥) → x ≤ issued) → x ≤ issued
    go true q m ih = subst (λ (y : ℕ). y ≤ issued) (eqb-true _ _ q) a.0.known
    go false q m ih = ih m

-- ---- no client has two leases

pub distinct-running : (now : ℕ) (ls : List Lease) → Distinct ls → Distinct (running_at now ls)
unfolding running_at
distinct-running now [] d = tt
distinct-running now (l ∷ ls) d = (
  ended-each (λ (k : Lease). 1 ≤ k.client → Fresh k.client (running_at now ls)) now l
      (λ _ h. absurd (omega arith)) (λ _ _ h. fresh-running now l.client h ls (d.0 h)),
  distinct-running now ls d.1,
)

pub distinct-entered : (n : Lease) (ls : List Lease) → Fresh n.client ls → Distinct ls → Distinct (with_new_lease n ls)
unfolding with_new_lease
distinct-entered n [] a d = tt
distinct-entered n (l ∷ ls) a d =
    choose Distinct (is_taken l)
    (λ _. (λ h. fresh-entered l.client n (λ e. a.0 (sym e)) ls (d.0 h), distinct-entered n ls a.1 d.1))
    (λ _. (λ _. a.1, d.1))

pub distinct-extended : (x e : ℕ) (ls : List Lease) → Distinct ls → Distinct (extended x e ls)
unfolding extended
distinct-extended x e [] d = tt
distinct-extended x e (l ∷ ls) d =
    choose Distinct (eqb l.client x)
    (λ q. let c = eqb-true _ _ q in (λ h. subst (λ (y : ℕ). Fresh y ls) c (d.0 (omega arith)), d.1))
    (λ _. (λ h. fresh-extended l.client x e ls (d.0 h), distinct-extended x e ls d.1))

-- ---- a lease that lasts until e

pub lasts_not : (x e : ℕ) (ls : List Lease) → Fresh x ls → Lasts x e ls → ⊥
lasts_not x e [] a c = c
lasts_not x e (l ∷ ls) a (inl c) = a.0 c.0
lasts_not x e (l ∷ ls) a (inr c) = lasts_not x e ls a.1 c

pub lasts_running : (now x e : ℕ) → 1 ≤ x → (ls : List Lease) → Lasts x e ls → (e ≤ now) ⊎ Lasts x e (running_at now ls)
unfolding running_at
lasts_running now x e h [] c = absurd c
lasts_running now x e h (l ∷ ls) (inl c) =
    ended-each (λ (k : Lease). (e ≤ now) ⊎ Lasts x e (k ∷ running_at now ls)) now l (λ w. over w) (λ _ _. inr (inl c))
  where
    over : (l.lease ≤ now) ⊎ (l.client ≡ 0) → (e ≤ now) ⊎ Lasts x e (no_lease ∷ running_at now ls)
    over (inl w) = inl (omega (arith, c.1))
    over (inr w) = absurd (omega (arith, c.0))
lasts_running now x e h (l ∷ ls) (inr c) = on (lasts_running now x e h ls c)
  where
    on : (e ≤ now) ⊎ Lasts x e (running_at now ls) → (e ≤ now) ⊎ Lasts x e (ended_at now l ∷ running_at now ls)
    on (inl w) = inl w
    on (inr w) = inr (inr w)

pub lasts_entered : (x e : ℕ) (n : Lease) → 1 ≤ x → (ls : List Lease) → Lasts x e ls → Lasts x e (with_new_lease n ls)
unfolding with_new_lease
lasts_entered x e n h [] c = absurd c
lasts_entered x e n h (l ∷ ls) (inl c) =
    choose (Lasts x e) (is_taken l) (λ _. inl c) (λ q. let z = free-is l q in absurd (omega (arith, c.0)))
lasts_entered x e n h (l ∷ ls) (inr c) = choose (Lasts x e) (is_taken l) (λ _. inr (lasts_entered x e n h ls c)) (λ _. inr c)

pub lasts_extended : (x e y f : ℕ) (ls : List Lease) → lease_end y ls ≤ f → Lasts x e ls → Lasts x e (extended y f ls)
unfolding extended lease_end
lasts_extended x e y f [] h c = absurd c
lasts_extended x e y f (l ∷ ls) h c = go (eqb l.client y) refl h c (lasts_extended x e y f ls)
  where
    go : (b : Bool) → eqb l.client y ≡ b → pick b l.lease (lease_end y ls) ≤ f → ((l.client ≡ x) × (e ≤ l.lease)) ⊎ Lasts x e ls
        → (lease_end y ls ≤ f → Lasts x e ls → Lasts x e (extended y f ls))
        → Lasts x e (pick b (record { client = y; lease = f } ∷ ls) (l ∷ extended y f ls))
    go true q g (inl d) ih = inl (sym (eqb-true _ _ q) ∙ d.0, omega (arith, d.1))
    go true q g (inr d) ih = inr d
    go false q g (inl d) ih = inl d
    go false q g (inr d) ih = inr (ih g d)

-- ---- the client that is granted

pub entered_lasts : (n : Lease) (ls : List Lease) → every is_taken ls ≡ false → Lasts n.client n.lease (with_new_lease n ls)
unfolding with_new_lease every
entered_lasts n [] q = absurd (false≢true (sym q))
entered_lasts n (l ∷ ls) q = go (is_taken l) refl q (entered_lasts n ls)
  where
    go : (b : Bool) → is_taken l ≡ b → (b && every is_taken ls) ≡ false → (every is_taken ls ≡ false → Lasts n.client n.lease (with_new_lease n ls))
        → Lasts n.client n.lease (pick b (l ∷ with_new_lease n ls) (n ∷ ls))
    go true t f ih = inr (ih f)
    go false t f ih = inl (refl, omega arith)

pub extended_lasts : (x e : ℕ) (ls : List Lease) → (lease_end x ls ≡ 0 → ⊥) → Lasts x e (extended x e ls)
unfolding extended lease_end
extended_lasts x e [] n = absurd (n refl)
extended_lasts x e (l ∷ ls) n = go (eqb l.client x) refl n (extended_lasts x e ls)
  where
    go : (b : Bool) → eqb l.client x ≡ b → (pick b l.lease (lease_end x ls) ≡ 0 → ⊥) → ((lease_end x ls ≡ 0 → ⊥) → Lasts x e (extended x e ls))
        → Lasts x e (pick b (record { client = x; lease = e } ∷ ls) (l ∷ extended x e ls))
    go true q m ih = inl (refl, omega arith)
    go false q m ih = inr (ih m)

pub end_lasts : (x : ℕ) (ls : List Lease) → (lease_end x ls ≡ 0 → ⊥) → Lasts x (lease_end x ls) ls
unfolding lease_end
end_lasts x [] n = absurd (n refl)
end_lasts x (l ∷ ls) n = go (eqb l.client x) refl n (end_lasts x ls)
  where
    go : (b : Bool) → eqb l.client x ≡ b → (pick b l.lease (lease_end x ls) ≡ 0 → ⊥) → ((lease_end x ls ≡ 0 → ⊥) → Lasts x (lease_end x ls) ls)
        → Lasts x (pick b l.lease (lease_end x ls)) (l ∷ ls)
    go true q m ih = inl (eqb-true _ _ q, omega arith)
    go false q m ih = inr (ih m)
