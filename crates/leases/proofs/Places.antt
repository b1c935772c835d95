-- The places of a lease manager.
--     run_step, run_end                       the running leases, place after place
--     clear-not, none-more                    no place must be cleared
--     place_by, place_some                    the first place that is found
--     none_there, none_runs, one_runs         the client's lease runs, or does not
--     place_end, place_under                  what stands there is the client's lease
--     place_full, place-free                  client 0 has the first free place
--     place_new, place-extended               what is stored there
-- Assumes nothing.
use mathlib.Core.Path.{◌≡◌, refl, sym, ◌∙◌, ap}
use mathlib.Core.Bool.{Bool, true, false, ◌||◌, ◌&&◌, not, false≢true}
use mathlib.Core.List.{List, [], ◌∷◌, ◌++◌, append-nil}
use Prim.Native.Nat.{ℕ, suc, ◌+◌, ◌≤◌, ◌<◌}
use native.Mathlib.Omega.{arith}
use native.Mathlib.Numerals.{add-one}
use lib.Dec.{eqb, leb, ltb}
use lib.ListN.{length, get_or, set, take, drop, drop_of_length-le, get_or-eq_default}
use lib.Seq.{drop-cons, take-suc-set, drop-set-lt, append_snoc, take_all}
use borrow.Author.Tests.{eqb-true, ne_eqb, ltb-true, ltb-false}
use Rattle.model.specs.declared.Lease.{Lease}
use Rattle.model.specs.Choice.{pick}
use Rattle.model.specs.Tables.{every, index_of}
use Rattle.model.specs.Leases.{no_lease, ended_at, running_at, lease_end, is_taken, with_new_lease, extended}
use Rattle.model_laws.proofs.Tests.{or_left, or_right}
use Rattle.std.proofs.lemmas.List.{map_push}
use Rattle.std.proofs.lemmas.List.Recursion.{is_position_or_len}
use Rattle.std.specs.List.{position, position_or_len}
use Rattle.std.proofs.Common.{Some, None, cond}
use Rattle.leases.specs.Changes.{lease_place, place_in, end_at, lease_at}

-- ---- the running leases

pub run_step : (now : ℕ) (ls out : List Lease) (i : ℕ) {e : Lease} → i < length out
    → running_at now ls ≡ take i out ++ running_at now (drop i out)
    → e ≡ ended_at now (get_or out i no_lease)
    → running_at now ls ≡ take (i + 1) (set out i e) ++ running_at now (drop (i + 1) (set out i e))
unfolding running_at
run_step now ls out i {e} h p q =
    rw (p, add-one, take-suc-set out i e h, drop-set-lt (suc i) out i e (omega arith), drop-cons out i no_lease h, ← q, append_snoc) refl

pub run_end : (now : ℕ) (ls out : List Lease) (i : ℕ) → length out ≤ i → running_at now ls ≡ take i out ++ running_at now (drop i out) → out ≡ running_at now ls
unfolding running_at
run_end now ls out i h p = rw (p, take_all i out h, drop_of_length-le out h, append-nil) refl

-- ---- whether any has ended

-- what need not be cleared is left by the clearing
pub clear-not : (now : ℕ) (l : Lease) {u : Bool} → u ≡ (leb l.lease now || eqb l.client 0)
    → (u && not (eqb l.client 0 && eqb l.lease 0)) ≡ false → ended_at now l ≡ l
unfolding ended_at
clear-not now l {u} e n = rw (← e) (go u (eqb l.client 0) (eqb l.lease 0) refl refl n)
  where
    go : (u a b : Bool) → eqb l.client 0 ≡ a → eqb l.lease 0 ≡ b → (u && not (a && b)) ≡ false → pick u no_lease l ≡ l
    go false a b p q n = refl
    go true true true p q n =
        ap (λ (c : ℕ). record { client = c; lease = 0 }) (sym (eqb-true _ _ p)) ∙ ap (λ (k : ℕ). record { client = l.client; lease = k }) (sym (eqb-true _ _ q))
    go true true false p q n = absurd (false≢true (sym n))
    go true false b p q n = absurd (false≢true (sym n))

-- one more lease
pub none-more : (now : ℕ) (ls : List Lease) {l : Lease} {found e r : Bool} → r ≡ (found || e) → (e ≡ false → ended_at now l ≡ l)
    → (found ≡ false → running_at now ls ≡ ls) → r ≡ false → running_at now (ls ++ (l ∷ [])) ≡ ls ++ (l ∷ [])
unfolding running_at
none-more now ls {l} {found} {e} is here before n = let none = rw is at n in rw (map_push (ended_at now) ls l, before (or_left found e none), here (or_right found e none)) refl

-- ---- what stands there

-- the first place found is the same
place-found : (x : ℕ) (ls : List Lease) → lease_place x ls ≡ position_or_len (λ l. eqb l.client x) ls
unfolding lease_place index_of
place-found x = is_position_or_len (lease_place x) (λ l. eqb l.client x) refl (λ l ls. go (eqb l.client x) (lease_place x ls))
  where
    go : (b : Bool) (n : ℕ) → pick b 0 (suc n) ≡ cond b 0 (1 + n)
    go true n = refl
    go false n = omega arith

pub place_by : (x : ℕ) (ls : List Lease) → position (λ l. eqb l.client x) ls ≡ place_in x ls
unfolding place_in
place_by x ls = rw (place-found x ls) (go (ltb (position_or_len (λ l. eqb l.client x) ls) (length ls)))
  where
    go : (b : Bool) → cond b (Some (position_or_len (λ l. eqb l.client x) ls)) None ≡ pick b (Some (position_or_len (λ l. eqb l.client x) ls)) None
    go true = refl
    go false = refl

pub place_some : (x : ℕ) (ls : List Lease) {i : ℕ} → Some i ≡ place_in x ls → (i ≡ lease_place x ls) × (i < length ls)
unfolding place_in
place_some x ls {i} = go (ltb (lease_place x ls) (length ls)) refl
  where
    go : (b : Bool) → ltb (lease_place x ls) (length ls) ≡ b → Some i ≡ pick b (Some (lease_place x ls)) None → (i ≡ lease_place x ls) × (i < length ls)
    go true p q = let e : i ≡ lease_place x ls = cc in (e, rw e (ltb-true _ _ p))
    go false p q = absurd (cc)

-- the client's lease does not run, or runs
none-end : (x : ℕ) (ls : List Lease) → None ≡ place_in x ls → end_at x ls ≡ 0
unfolding place_in end_at
none-end x ls = go (ltb (lease_place x ls) (length ls)) refl
  where
    go : (b : Bool) → ltb (lease_place x ls) (length ls) ≡ b → None ≡ pick b (Some (lease_place x ls)) None → (get_or ls (lease_place x ls) no_lease).lease ≡ 0
    go true p q = absurd (cc)
    go false p q = ap (λ l. l.lease) (get_or-eq_default ls no_lease {n = lease_place x ls} (ltb-false _ _ p))

end_by : (x : ℕ) (ls : List Lease) {i : ℕ} → Some i ≡ place_in x ls → end_at x ls ≡ (get_or ls i no_lease).lease
unfolding end_at
end_by x ls at = ap (λ (j : ℕ). (get_or ls j no_lease).lease) (sym (place_some x ls at).0)

pub none_there : (x : ℕ) (ls : List Lease) → None ≡ place_in x ls → None ≡ lease_at x ls
unfolding lease_at
none_there x ls none = rw (none-end x ls none) refl

pub none_runs : (x : ℕ) (ls : List Lease) {i : ℕ} → Some i ≡ place_in x ls → (get_or ls i no_lease).lease ≡ 0 → None ≡ lease_at x ls
unfolding lease_at
none_runs x ls at e = rw (end_by x ls at ∙ e) refl

pub one_runs : (x : ℕ) (ls : List Lease) {i : ℕ} → Some i ≡ place_in x ls → ((get_or ls i no_lease).lease ≡ 0 → ⊥)
    → Some (record { place = i; end = (get_or ls i no_lease).lease }) ≡ lease_at x ls
unfolding lease_at
one_runs x ls at n = rw (end_by x ls at, ne_eqb _ _ n, ← (place_some x ls at).0) refl

pub place_end : (x : ℕ) (ls : List Lease) → lease_end x ls ≡ end_at x ls
unfolding lease_end end_at lease_place index_of
place_end x [] = refl
place_end x (l ∷ ls) = go (eqb l.client x) (place_end x ls)
  where
    go : (b : Bool) → lease_end x ls ≡ (get_or ls (lease_place x ls) no_lease).lease
        → pick b l.lease (lease_end x ls) ≡ (get_or (l ∷ ls) (pick b 0 (suc (lease_place x ls))) no_lease).lease
    go true e = refl
    go false e = e

pub place_under : (x : ℕ) (ls : List Lease) → (end_at x ls ≡ 0 → ⊥) → lease_place x ls < length ls
unfolding end_at lease_place index_of
place_under x [] n = absurd (n refl)
place_under x (l ∷ ls) n = go (eqb l.client x) n (place_under x ls)
  where
    go : (b : Bool) → ((get_or (l ∷ ls) (pick b 0 (suc (lease_place x ls))) no_lease).lease ≡ 0 → ⊥)
        → (((get_or ls (lease_place x ls) no_lease).lease ≡ 0 → ⊥) → lease_place x ls < length ls) → pick b 0 (suc (lease_place x ls)) < length (l ∷ ls)
    go true m k = omega arith
    go false m k = let h = k m in omega arith

pub place_full : (ls : List Lease) → length ls ≤ lease_place 0 ls → every is_taken ls ≡ true
unfolding lease_place index_of every is_taken
place_full [] h = refl
place_full (l ∷ ls) h = go (eqb l.client 0) h (place_full ls)
  where
    go : (b : Bool) → length (l ∷ ls) ≤ pick b 0 (suc (lease_place 0 ls)) → (length ls ≤ lease_place 0 ls → every is_taken ls ≡ true) → (not b && every is_taken ls) ≡ true
    go true k f = absurd (omega arith)
    go false k f = f (omega arith)

pub place-free : (ls : List Lease) → lease_place 0 ls < length ls → every is_taken ls ≡ false
unfolding lease_place index_of every is_taken
place-free [] h = absurd (omega arith)
place-free (l ∷ ls) h = go (eqb l.client 0) h (place-free ls)
  where
    go : (b : Bool) → pick b 0 (suc (lease_place 0 ls)) < length (l ∷ ls) → (lease_place 0 ls < length ls → every is_taken ls ≡ false) → (not b && every is_taken ls) ≡ false
    go true k f = refl
    go false k f = f (omega arith)

pub place_new : (n : Lease) (ls : List Lease) → with_new_lease n ls ≡ set ls (lease_place 0 ls) n
unfolding with_new_lease lease_place index_of is_taken
place_new n [] = refl
place_new n (l ∷ ls) = go (eqb l.client 0) (place_new n ls)
  where
    go : (b : Bool) → with_new_lease n ls ≡ set ls (lease_place 0 ls) n → pick (not b) (l ∷ with_new_lease n ls) (n ∷ ls) ≡ set (l ∷ ls) (pick b 0 (suc (lease_place 0 ls))) n
    go true e = refl
    go false e = ap (λ (t : List Lease). l ∷ t) e

pub place-extended : (x e : ℕ) (ls : List Lease) → extended x e ls ≡ set ls (lease_place x ls) (record { client = x; lease = e })
unfolding extended lease_place index_of
place-extended x e [] = refl
place-extended x e (l ∷ ls) = go (eqb l.client x) (place-extended x e ls)
  where
    go : (b : Bool) → extended x e ls ≡ set ls (lease_place x ls) (record { client = x; lease = e })
        → pick b (record { client = x; lease = e } ∷ ls) (l ∷ extended x e ls) ≡ set (l ∷ ls) (pick b 0 (suc (lease_place x ls))) (record { client = x; lease = e })
    go true q = refl
    go false q = ap (λ (t : List Lease). l ∷ t) q
