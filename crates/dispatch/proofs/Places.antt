-- The walks over the places of a dispatcher.
--     count_most, count-least           how many wait
--     waits-any                         whether a client's request waits
--     moved-next, moved-end             all move one place to the front
-- Assumes nothing.
use Prim.Native.Nat.{ℕ, suc, ◌+◌, ◌-◌, ◌≤◌, ◌<◌}
use mathlib.Core.Path.{◌≡◌, refl, sym, ap, ◌∙◌}
use mathlib.Core.Bool.{Bool, true, false, ◌||◌}
use mathlib.Core.List.{List, [], ◌∷◌, ◌++◌}
use Rattle.std.specs.List.{list_any}
use Rattle.std.proofs.lemmas.Bool.Decides.{nat_tests}
use native.Mathlib.Omega.{arith}
use native.Mathlib.Numerals.{add-one}
use lib.Dec.{leb, ltb}
use lib.ListN.{length, get_or, set, take, drop, length-drop, drop_of_length-le}
use lib.Seq.{length-take-le, take_all, take-suc, drop-cons, append_snoc, get_or-drop, set_at}
use borrow.Author.Tests.{leb-true}
use Rattle.model.specs.Choice.{pick}
use Rattle.model.specs.Tables.{index_of}
use Rattle.dispatch_claim.specs.declared.Dispatcher.{Dispatcher}
use Rattle.dispatch_claim.specs.Dispatcher.{places, waiting_count, waiting, is_of, waits}

module _ (d : Dispatcher) where
  pub count_most : waiting_count d ≤ places
  unfolding waiting_count
  count_most = go (leb d.count places) refl
    where
      go : (b : Bool) → leb d.count places ≡ b → pick b d.count places ≤ places
      go true e = leb-true d.count places e
      go false e = omega arith

  pub count-least : 1 ≤ d.count → 1 ≤ waiting_count d
  unfolding waiting_count
  count-least h = go (leb d.count places)
    where
      go : (b : Bool) → 1 ≤ pick b d.count places
      go true = h
      go false = omega arith

-- ---- a client's request

any-found : {A : Type 0} (t : A → Bool) (xs : List A) → list_any t xs ≡ ltb (index_of t xs) (length xs)
unfolding index_of
any-found t [] = refl
any-found t (x ∷ xs) = go (t x) _ _ (any-found t xs)
  where
    go : (b : Bool) {u : Bool} (i n : ℕ) → u ≡ ltb i n → (b || u) ≡ ltb (pick b 0 (suc i)) (suc n)
    go true i n e = grind (arith, nat_tests)
    go false i n e = grind (arith, nat_tests)

pub waits-any : (d : Dispatcher) (client : ℕ) → list_any (is_of client) (waiting d) ≡ waits d client
unfolding waits
waits-any d client = any-found (is_of client) (waiting d)

-- ---- i have moved one place to the front

abbrev pub moved_by : {A : Type 0} → List A → ℕ → List A
moved_by xs i = take i (drop 1 xs) ++ drop i xs

module _ {A : Type 0} (xs : List A) (z : A) (i : ℕ) {ys : List A} (moved : ys ≡ moved_by xs i) where
  pub moved-next : i + 1 < length xs → set ys i (get_or xs (i + 1) z) ≡ moved_by xs (i + 1)
  moved-next h =
      let back : List A = drop 1 xs in
      let l : length back ≡ length xs - 1 = length-drop 1 xs in
      let e : i + 1 ≡ 1 + i = omega arith in
      let at : get_or xs (i + 1) z ≡ get_or back i z = ap (λ (k : ℕ). get_or xs k z) e ∙ sym (get_or-drop 1 xs i z) in
      rw (moved, at, add-one, drop-cons xs i z (omega arith), take-suc back i z (omega arith))
      (set_at (take i back) (get_or xs i z) (drop (suc i) xs) (get_or back i z) i (length-take-le i back (omega arith))
      ∙ sym (append_snoc (take i back) (get_or back i z) (drop (suc i) xs)))

  pub moved-end : length xs ≡ i + 1 → set ys i z ≡ drop 1 xs ++ (z ∷ [])
  moved-end h =
      let back : List A = drop 1 xs in
      let l : length back ≡ length xs - 1 = length-drop 1 xs in
      rw (moved, take_all i back (omega arith), drop-cons xs i z (omega arith), drop_of_length-le xs {i = suc i} (omega arith))
      (set_at back (get_or xs i z) [] z i (omega arith))
