-- The least open call of a list.
--     least_under     it is at most the number that stands for none
--     least-each      and at most every open call
--     least-over      what is at most all of them is at most it
--     least-found     it is the number that stands for none, or an open call
--     least-opened    the number that stands for none, opened at a free place, leaves it as it is
-- Assumes nothing.
use mathlib.Core.Path.{◌≡◌, refl, ◌∙◌, ap}
use mathlib.Core.Bool.{Bool, true, false, ◌&&◌}
use mathlib.Core.List.{List, [], ◌∷◌}
use mathlib.Core.Logic.{◌⊎◌, inl, inr}
use Prim.Native.Nat.{ℕ, zero, suc, ◌≤◌, ◌<◌}
use native.Mathlib.Omega.{arith}
use lib.Dec.{leb, ltb, eqb}
use lib.ListN.{length, get_or, set}
use lib.Seq.{get_or-set_same, get_or-set_other}
use borrow.Author.Tests.{leb-true, leb-false, ltb-true, ltb-false, eqb-true, eqb-false}
use Rattle.model.specs.declared.OpenCall.{OpenCall}
use Rattle.model.specs.Choice.{pick}
use Rattle.model.specs.Clients.{no_call, least_open}

-- the lesser of an open call and n
abbrev lesser : ℕ → ℕ → ℕ
lesser c n = pick (leb 1 c && ltb c n) c n

record Lesser (c n m : ℕ) : Type 0 where
  under : m ≤ n
  each : 1 ≤ c → m ≤ c
  found : (m ≡ n) ⊎ ((m ≡ c) × (1 ≤ c))

lesser_is : (c n : ℕ) → Lesser c n (lesser c n)
lesser_is c n = go (leb 1 c) (ltb c n) refl refl
  where
    go : (u v : Bool) → leb 1 c ≡ u → ltb c n ≡ v → Lesser c n (pick (u && v) c n)
    go true true p q = let h = leb-true 1 c p in let k = ltb-true c n q in record { under = omega arith; each = λ _. omega arith; found = inr (refl, h) }
    go true false p q = let k = ltb-false c n q in record { under = omega arith; each = λ _. k; found = inl refl }
    go false v p q = let h = leb-false 1 c p in record { under = omega arith; each = λ g. absurd (omega arith); found = inl refl }

pub least_under : (n : ℕ) (ks : List OpenCall) → least_open n ks ≤ n
unfolding least_open
least_under n [] = omega arith
least_under n (k ∷ ks) = let h = least_under (lesser k.call n) ks in let l = (lesser_is k.call n).under in omega arith

pub least-each : (n : ℕ) (ks : List OpenCall) (i : ℕ) → 1 ≤ (get_or ks i no_call).call → least_open n ks ≤ (get_or ks i no_call).call
unfolding least_open
least-each n [] i p = absurd (omega arith)
least-each n (k ∷ ks) zero p = let u = least_under (lesser k.call n) ks in let l = (lesser_is k.call n).each p in omega arith
least-each n (k ∷ ks) (suc i) p = least-each (lesser k.call n) ks i p

pub least-over : (m n : ℕ) (ks : List OpenCall) → m ≤ n → ((i : ℕ) → i < length ks → 1 ≤ (get_or ks i no_call).call → m ≤ (get_or ks i no_call).call) → m ≤ least_open n ks
unfolding least_open
least-over m n [] h f = h
least-over m n (k ∷ ks) h f =
    least-over m (lesser k.call n) ks (go (lesser_is k.call n).found) (λ i l. f (suc i) (omega arith))
  where
    go : (lesser k.call n ≡ n) ⊎ ((lesser k.call n ≡ k.call) × (1 ≤ k.call)) → m ≤ lesser k.call n
    go (inl e) = omega arith
    go (inr e) = let g = f zero (omega arith) e.1 in omega arith

pub record Found (n : ℕ) (ks : List OpenCall) : Type 0 where
  pub place : ℕ
  pub inside : place < length ks
  pub is : least_open n ks ≡ (get_or ks place no_call).call
  pub from : 1 ≤ (get_or ks place no_call).call

pub least-found : (n : ℕ) (ks : List OpenCall) → (least_open n ks ≡ n) ⊎ Found n ks
unfolding least_open
least-found n [] = inl refl
least-found n (k ∷ ks) = go (lesser_is k.call n).found (least-found (lesser k.call n) ks)
  where
    go : (lesser k.call n ≡ n) ⊎ ((lesser k.call n ≡ k.call) × (1 ≤ k.call))
        → (least_open (lesser k.call n) ks ≡ lesser k.call n) ⊎ Found (lesser k.call n) ks
        → (least_open (lesser k.call n) ks ≡ n) ⊎ Found n (k ∷ ks)
    go (inl e) (inl f) = inl (f ∙ e)
    go (inr e) (inl f) = inr (record { place = zero; inside = omega arith; is = f ∙ e.0; from = e.1 })
    go (inl e) (inr g) = inr (record { place = suc g.place; inside = omega (arith, g.inside); is = g.is; from = g.from })
    go (inr e) (inr g) = inr (record { place = suc g.place; inside = omega (arith, g.inside); is = g.is; from = g.from })

pub least-opened : (n : ℕ) (ks : List OpenCall) (i : ℕ) (k : OpenCall) → i < length ks → (get_or ks i no_call).call ≡ 0 → k.call ≡ n → 1 ≤ n → least_open (suc n) (set ks i k) ≡ least_open n ks
least-opened n ks i k h free is from = let a = least-over (least_open n ks) (suc n) (set ks i k) (omega (arith, least_under n ks)) over in let b = under (least-found n ks) in omega arith
  where
    here : (get_or (set ks i k) i no_call).call ≡ n
    here = ap (λ (c : OpenCall). c.call) (get_or-set_same ks i k no_call h) ∙ is

    other : (j : ℕ) → (j ≡ i → ⊥) → (get_or (set ks i k) j no_call).call ≡ (get_or ks j no_call).call
    other j ne = ap (λ (c : OpenCall). c.call) (get_or-set_other ks i j k no_call ne)

    over : (j : ℕ) → j < length (set ks i k) → 1 ≤ (get_or (set ks i k) j no_call).call → least_open n ks ≤ (get_or (set ks i k) j no_call).call
    over j l p = go (eqb j i) refl
      where
        go : (u : Bool) → eqb j i ≡ u → least_open n ks ≤ (get_or (set ks i k) j no_call).call
        go true e = let u = least_under n ks in let v = ap (λ (x : ℕ). (get_or (set ks i k) x no_call).call) (eqb-true j i e) ∙ here in omega arith
        go false e =
            let v = other j (eqb-false j i e) in
            let u = least-each n ks j (omega arith) in
            omega arith

    under : (least_open n ks ≡ n) ⊎ Found n ks → least_open (suc n) (set ks i k) ≤ least_open n ks
    under (inl e) = let u = least-each (suc n) (set ks i k) i (omega (arith, here)) in omega (arith, here)
    under (inr f) =
        let v = other f.place (λ e. let z = ap (λ (x : ℕ). (get_or ks x no_call).call) e in let g = f.from in omega arith) in
        let g = f.from in
        let u = least-each (suc n) (set ks i k) f.place (omega arith) in
        let w = f.is in
        omega arith
