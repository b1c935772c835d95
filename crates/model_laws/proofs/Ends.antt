-- Laws of the first walk over a log: the ends of its records.
--     spans-least                   a whole record has at least 8 bytes
--     join_end, ends_cons            one step of the walk
--     ends_none, ends_cut, ends_off     where it ends
--     ends_whole                    a whole record, and the walk from its end on
--     ends_behind                   no end lies before the first place
--     extent_alike, ends_alike      the walk sees kinds and lengths alone
-- Assumes nothing.
use Prim.Native.Nat.{ℕ, zero, suc, ◌+◌, ◌≤◌}
use mathlib.Core.Path.{◌≡◌, refl, sym, ap, ◌∙◌}
use mathlib.Core.Bool.{Bool, true, false}
use mathlib.Core.List.{List, [], ◌∷◌}
use mathlib.Core.Option.{Option, none, some}
use native.Mathlib.Omega.{arith}
use borrow.Author.Tests.{eqb-true}
use lib.ListN.{length, drop, length-drop}
use lib.Dec.{eqb}
use Rattle.model.specs.Numbers.{byte_at, le32_at}
use Rattle.model.specs.Logs.{Extent, off, cut, spans, within, take_extent, extent_of, walk_ends, last_of}
use Rattle.model.specs.Limits.{first_executed_size, executed_size, head_size, first_executed_kind, executed_kind, give_kind, give_size, gone_kind, gone_size, release_kind, release_size, take_kind}
use Rattle.model_laws.specs.Heads.{SameHeads}
use Rattle.model_laws.proofs.Tests.{choose, impossible}
use Rattle.model_laws.proofs.Logs.{within-spans, take-spans}

pub spans-least : (s : List ℕ) (n : ℕ) → extent_of s ≡ spans n → head_size ≤ n
unfolding extent_of
spans-least s n =
    let P : Extent → Type 0 = λ x. x ≡ spans n → head_size ≤ n in
    choose P (eqb (byte_at s 0) first_executed_kind) (λ k e. let w = within-spans s first_executed_size n e in omega arith)
    (λ k1. choose P (eqb (byte_at s 0) gone_kind) (λ k e. let w = within-spans s gone_size n e in omega arith)
    (λ k2. choose P (eqb (byte_at s 0) give_kind) (λ k e. let w = within-spans s give_size n e in omega arith)
    (λ k3. choose P (eqb (byte_at s 0) take_kind) (λ k e. let w = take-spans s n e in omega arith)
    (λ k4. choose P (eqb (byte_at s 0) release_kind) (λ k e. let w = within-spans s release_size n e in omega arith)
    (λ k5. choose P (eqb (byte_at s 0) executed_kind) (λ k e. let w = within-spans s executed_size n e in omega arith)
    (λ k6 e. let z : ◌≡◌ {A = ℕ} 0 1 = cc in absurd (omega arith)))))))

-- ---- one step

-- an end before the others
unfoldable pub join_end : ℕ → Option (List ℕ) → Option (List ℕ)
join_end end w = elim w [ none ↦ none | some es ↦ some (end ∷ es) ]

unfoldable pub on_extent : ℕ → ℕ → List ℕ → Extent → Option (List ℕ)
on_extent n k s x = elim x [ off ↦ none | cut ↦ some [] | spans m ↦ join_end (k + m) (walk_ends n (k + m) (drop m s)) ]

pub ends_step : (n k b : ℕ) (s : List ℕ) {x : Extent} → extent_of (b ∷ s) ≡ x → walk_ends (suc n) k (b ∷ s) ≡ on_extent n k (b ∷ s) x
unfolding walk_ends on_extent join_end
ends_step n k b s e = ap (λ (x : Extent). on_extent n k (b ∷ s) x) e

pub ends_cons : (n k b : ℕ) (s : List ℕ) (m : ℕ) → extent_of (b ∷ s) ≡ spans m
    → walk_ends (suc n) k (b ∷ s) ≡ join_end (k + m) (walk_ends n (k + m) (drop m (b ∷ s)))
unfolding on_extent
ends_cons n k b s m e = ends_step n k b s e

pub ends_none : (n k : ℕ) → walk_ends n k [] ≡ some []
unfolding walk_ends
ends_none zero k = refl
ends_none (suc n) k = refl

pub ends_cut : (n k : ℕ) (s : List ℕ) → extent_of s ≡ cut → walk_ends n k s ≡ some []
unfolding walk_ends on_extent
ends_cut zero k s e = refl
ends_cut (suc n) k [] e = refl
ends_cut (suc n) k (b ∷ s) e = ends_step n k b s e

pub ends_off : (n k : ℕ) (s : List ℕ) → 1 ≤ length s → length s ≤ n → extent_of s ≡ off → walk_ends n k s ≡ none
unfolding on_extent
ends_off n k [] p l e = absurd (omega arith)
ends_off zero k (b ∷ s) p l e = absurd (omega arith)
ends_off (suc n) k (b ∷ s) p l e = ends_step n k b s e

-- more fuel than the length changes nothing
module _ (n : ℕ) (below : (m k : ℕ) (s : List ℕ) → length s ≤ n → length s ≤ m → walk_ends n k s ≡ walk_ends m k s) where
  fuel_extent : (m k b : ℕ) (s : List ℕ) → length (b ∷ s) ≤ suc n → length (b ∷ s) ≤ suc m → (x : Extent) → extent_of (b ∷ s) ≡ x
      → walk_ends (suc n) k (b ∷ s) ≡ walk_ends (suc m) k (b ∷ s)
  fuel_extent m k b s p q off e = ends_off (suc n) k (b ∷ s) (omega arith) p e ∙ sym (ends_off (suc m) k (b ∷ s) (omega arith) q e)
  fuel_extent m k b s p q cut e = ends_cut (suc n) k (b ∷ s) e ∙ sym (ends_cut (suc m) k (b ∷ s) e)
  fuel_extent m k b s p q (spans w) e =
      let t : List ℕ = b ∷ s in
      ends_cons n k b s w e
      ∙ ap (join_end (k + w)) (below m (k + w) (drop w t) (omega (arith, length-drop w t, spans-least t w e)) (omega (arith, length-drop w t, spans-least t w e)))
      ∙ sym (ends_cons m k b s w e)

  fuel_next : (m k : ℕ) (s : List ℕ) → length s ≤ suc n → length s ≤ m → walk_ends (suc n) k s ≡ walk_ends m k s
  fuel_next m k [] p q = ends_none (suc n) k ∙ sym (ends_none m k)
  fuel_next zero k (b ∷ s) p q = absurd (omega arith)
  fuel_next (suc m) k (b ∷ s) p q = fuel_extent m k b s p q (extent_of (b ∷ s)) refl

fuel_none : (m k : ℕ) (s : List ℕ) → length s ≤ 0 → walk_ends 0 k s ≡ walk_ends m k s
fuel_none m k [] p = ends_none 0 k ∙ sym (ends_none m k)
fuel_none m k (b ∷ s) p = absurd (omega arith)

ends_fuel : (n m k : ℕ) (s : List ℕ) → length s ≤ n → length s ≤ m → walk_ends n k s ≡ walk_ends m k s
ends_fuel zero m k s p q = fuel_none m k s p
ends_fuel (suc n) m k s p q = fuel_next n (ends_fuel n) m k s p q

pub ends_whole : (n k m : ℕ) (s : List ℕ) → 1 ≤ length s → length s ≤ n → extent_of s ≡ spans m
    → walk_ends n k s ≡ join_end (k + m) (walk_ends n (k + m) (drop m s))
ends_whole n k m [] p l e = absurd (omega arith)
ends_whole zero k m (b ∷ s) p l e = absurd (omega arith)
ends_whole (suc n) k m (b ∷ s) p l e =
    ends_cons n k b s m e
    ∙ ap (join_end (k + m)) (ends_fuel n (suc n) (k + m) (drop m (b ∷ s)) (omega (arith, length-drop m (b ∷ s), spans-least (b ∷ s) m e)) (omega (arith, length-drop m (b ∷ s))))

-- ---- the last end

behind-none : (k : ℕ) (es : List ℕ) → some [] ≡ some es → k ≤ last_of k es
unfolding last_of
behind-none k es e = let q : [] ≡ es = cc in rw (← q) (omega arith)

module _ (n : ℕ) (below : (k : ℕ) (s es : List ℕ) → walk_ends n k s ≡ some es → k ≤ last_of k es) where
  behind_join : (k m : ℕ) (s es : List ℕ) (w : Option (List ℕ)) → walk_ends n (k + m) s ≡ w → join_end (k + m) w ≡ some es → k ≤ last_of k es
  unfolding join_end last_of
  behind_join k m s es none p e = impossible (cc)
  behind_join k m s es (some fs) p e = let q : (k + m) ∷ fs ≡ es = cc in rw (← q) (omega (arith, below (k + m) s fs p))

  behind_extent : (k b : ℕ) (s es : List ℕ) (x : Extent) → extent_of (b ∷ s) ≡ x → on_extent n k (b ∷ s) x ≡ some es → k ≤ last_of k es
  unfolding on_extent
  behind_extent k b s es off x e = impossible (cc)
  behind_extent k b s es cut x e = behind-none k es e
  behind_extent k b s es (spans m) x e = behind_join k m (drop m (b ∷ s)) es (walk_ends n (k + m) (drop m (b ∷ s))) refl e

pub ends_behind : (n k : ℕ) (s es : List ℕ) → walk_ends n k s ≡ some es → k ≤ last_of k es
unfolding walk_ends
ends_behind zero k s es e = behind-none k es e
ends_behind (suc n) k [] es e = behind-none k es e
ends_behind (suc n) k (b ∷ s) es e = behind_extent n (ends_behind n) k b s es (extent_of (b ∷ s)) refl (sym (ends_step n k b s refl) ∙ e)

-- ---- the walk sees kinds and lengths alone

pub extent_alike : (s t : List ℕ) → length s ≡ length t → byte_at s 0 ≡ byte_at t 0 → (byte_at s 0 ≡ take_kind → le32_at s 4 ≡ le32_at t 4) → extent_of s ≡ extent_of t
unfolding extent_of within take_extent
extent_alike s t l k i = go (eqb (byte_at s 0) take_kind) refl
  where
    go : (b : Bool) → eqb (byte_at s 0) take_kind ≡ b → extent_of s ≡ extent_of t
    go true e = rw (← k, ← l, i (eqb-true (byte_at s 0) take_kind e))
    go false e = rw (← k, ← l, e)

-- up to n records
module _ (n : ℕ) (below : (k : ℕ) (s t : List ℕ) → length s ≡ length t → SameHeads n s t → walk_ends n k s ≡ walk_ends n k t) where
  alike_extent : (k b c : ℕ) (s t : List ℕ) → length (b ∷ s) ≡ length (c ∷ t) → SameHeads (suc n) (b ∷ s) (c ∷ t) → (x : Extent) → extent_of (b ∷ s) ≡ x
      → extent_of (c ∷ t) ≡ x → walk_ends (suc n) k (b ∷ s) ≡ walk_ends (suc n) k (c ∷ t)
  unfolding on_extent
  alike_extent k b c s t l h off e f = ends_step n k b s e ∙ sym (ends_step n k c t f)
  alike_extent k b c s t l h cut e f = ends_step n k b s e ∙ sym (ends_step n k c t f)
  alike_extent k b c s t l h (spans m) e f =
      ends_cons n k b s m e
      ∙ ap (join_end (k + m)) (below (k + m) (drop m (b ∷ s)) (drop m (c ∷ t)) (omega (arith, length-drop m (b ∷ s), length-drop m (c ∷ t))) (h.2 m e))
      ∙ sym (ends_cons n k c t m f)

  alike_next : (k : ℕ) (s t : List ℕ) → length s ≡ length t → SameHeads (suc n) s t → walk_ends (suc n) k s ≡ walk_ends (suc n) k t
  alike_next k [] [] l h = refl
  alike_next k [] (c ∷ t) l h = absurd (omega arith)
  alike_next k (b ∷ s) [] l h = absurd (omega arith)
  alike_next k (b ∷ s) (c ∷ t) l h = alike_extent k b c s t l h (extent_of (b ∷ s)) refl (sym (extent_alike (b ∷ s) (c ∷ t) l h.0 h.1))

pub ends_alike : (n k : ℕ) (s t : List ℕ) → length s ≡ length t → SameHeads n s t → walk_ends n k s ≡ walk_ends n k t
unfolding walk_ends
ends_alike zero k s t l h = refl
ends_alike (suc n) k s t l h = alike_next n (ends_alike n) k s t l h
