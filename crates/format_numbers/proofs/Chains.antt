-- A chain `(0..n).all(..)` in place of a loop that stops at the first test that fails.
--     all_walked     what holds before each test, by index, decides what the chain answers
--     every_steps    where it tests each row of a table
-- Assumes nothing.
use Prim.Native.Nat.{ℕ, zero, suc, ◌+◌, ◌*◌, ◌<◌}
use mathlib.Core.Path.{◌≡◌, refl, sym, ap, subst, ◌∙◌}
use mathlib.Core.Bool.{Bool, true, false, not}
use native.Mathlib.Omega.{arith}
use native.Mathlib.Nat.{zero-add}
use lib.ListN.{length, get_or, drop}
use Rattle.std.specs.Bool.{MatchBool}
use Rattle.std.specs.Prelude.{List, Option, MatchOption}
use Rattle.std.specs.Fn.{Mut, Called}
use Rattle.std.specs.Iterator.{YieldsThen}
use Rattle.std.specs.List.{range_with_len, FoldsTo, AllWithin, HoldsAt}
use Rattle.std.specs.declared.ops.Range.{Range}
use Rattle.std.proofs.iter.Yields.{nat_range_steps}
use Rattle.std.proofs.lemmas.Iterator.{cases_from_all, YieldsList-from_range}
use Rattle.std.proofs.lemmas.List.FromFn.{length-range_with_len, get_or-range_with_len}
use Rattle.model.specs.Tables.{rows, every}
use Rattle.model_laws.proofs.Loops.{Open, row_test, every_open, open_next, open_false, open_true}

-- the test u of index i, behind I of i: it goes on, or x is false; behind the last, x is true
pub record Steps (n : ℕ) (x : Bool) (u : ℕ → Bool) (I : ℕ → Type 0) : Type 0 where
  pub start : I 0
  pub next : (i : ℕ) → I i → i < n → u i ≡ true → I (i + 1)
  pub stop : (i : ℕ) → I i → i < n → u i ≡ false → false ≡ x
  pub end : I n → true ≡ x

module _ {n : ℕ} {x : Bool} {u : ℕ → Bool} {I : ℕ → Type 0} (S : Steps n x u I) where
  onward : ((i : ℕ) → i < n → u i ≡ true) → (k i : ℕ) → i + k ≡ n → I i → true ≡ x
  onward t zero i e o = let q : i ≡ n = omega arith in S.end (subst I q o)
  onward t (suc k) i e o = onward t k (i + 1) (omega arith) (S.next i o (omega arith) (t i (omega arith)))

  until : (j : ℕ) → j < n → u j ≡ false → (k i : ℕ) → i + k ≡ j → I i → false ≡ x
  until j l f zero i e o = let q : i ≡ j = omega arith in S.stop i o (omega arith) (subst (λ m. u m ≡ false) (sym q) f)
  until j l f (suc k) i e o = step (u i) refl (λ v. until j l f k (i + 1) (omega arith) v)
    where
      step : (b : Bool) → u i ≡ b → (I (i + 1) → false ≡ x) → false ≡ x
      step true p more = more (S.next i o (omega arith) p)
      step false p more = S.stop i o (omega arith) p

  decided : {r : Bool}
      → MatchBool r (AllWithin (λ i. u i ≡ true) (range_with_len 0 n) 0 (length (range_with_len 0 n)))
      ((k : ℕ) × (k < length (range_with_len 0 n)) × HoldsAt (λ i. u i ≡ false) (range_with_len 0 n) k)
      → r ≡ x
  decided {r = true} t = onward (λ i l. rw (at_index i l) at (t i 0 (omega arith) (omega (arith, length-range_with_len 0 n)))) n 0 (omega arith) S.start
    where
      at_index : (i : ℕ) → i < n → get_or (range_with_len 0 n) i 0 ≡ i
      at_index i l = get_or-range_with_len 0 n i 0 l ∙ zero-add i
  decided {r = false} t =
      let l : t.0 < n = omega (arith, t.1, length-range_with_len 0 n) in
      let e : get_or (range_with_len 0 n) t.0 0 ≡ t.0 = get_or-range_with_len 0 n t.0 0 l ∙ zero-add t.0 in
      until t.0 l (rw e at (t.2 0)) t.0 0 (omega arith) S.start

  -- by the clause `ran` of `all`, whose closure answers u
  pub all_walked : {F : Type 0} {g : Mut F (ℕ × Unit {0}) Bool} {s : Range ℕ} (t : Range ℕ) (f : F) (r : Bool)
      → (xs : List ℕ) × (o : Option ℕ) × (j : F) × YieldsThen nat_range_steps s xs o t × FoldsTo (λ p y q. Called g p (y, tt) true q) f xs j
      × MatchOption o (r ≡ true) (λ y. (r ≡ false) × ((h : F) × Called g j (y, tt) false h))
      → s ≡ record { start = 0; end = n }
      → ((i : ℕ) (q : F) → Called g f (i, tt) true q → (q ≡ f) × (u i ≡ true))
      → ((i : ℕ) (q : F) → Called g f (i, tt) false q → u i ≡ false)
      → r ≡ x
  all_walked t f r ran e held failed =
      decided (cases_from_all t f r (λ i. u i ≡ true) (λ i. u i ≡ false) ran (YieldsList-from_range 0 n n e (omega arith)) held failed)

-- a chain that tests each row of a table
pub every_steps : {A : Type 0} (dec : List ℕ → A) (w k : ℕ) (t : A → Bool) (s : List ℕ) (n : ℕ)
    → Steps n (every t (rows dec w n (drop k s))) (λ i. t (dec (drop (k + w * i) s))) (Open (row_test dec t) w k (every t (rows dec w n (drop k s))) s n)
every_steps dec w k t s n =
    record {
      start = every_open dec w k t s n;
      next = λ i o h e. open_next o h refl (ap not e);
      stop = λ i o h e. open_false o h refl (ap not e);
      end = λ o. open_true o (omega arith);
    }
