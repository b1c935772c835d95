-- The place of a log end: how many entries end at or under it. A log cut by a crash, in both worlds.
--     place_old, place_new              with one more entry
--     place_all, place-most, place_rises     at the log's length; never more than the entries; monotone
--     abstract-length                   as many entries in both
--     cut-entries, cut-abstract         what a crash keeps
--     cut-place, cut-room               marks under the cut
--     cut-length, cut-within            how many are kept, and where they end
-- Assumes nothing.
use Prim.Native.Nat.{ℕ, suc, ◌≤◌, ◌<◌, zero, ◌+◌, ◌-◌}
use mathlib.Core.Path.{◌≡◌, refl, ap, ◌∙◌, sym}
use mathlib.Core.Bool.{Bool, true, false}
use mathlib.Core.List.{List, [], ◌∷◌, ◌++◌}
use native.Mathlib.Omega.{arith}
use lib.ListN.{length, drop, length-drop}
use lib.Dec.{leb}
use borrow.Author.Tests.{leb-true, leb-false, le-leb, lt-leb}
use Rattle.model.specs.Choice.{pick}
use Rattle.model_invariants.proofs.Lists.{all_to}
use Rattle.proof_records.specs.Likeness.{Pair, place_of, Within, entries_in, abstract_in, Rising, lost, cut_at}
use Rattle.model.specs.Tables.{keep}
use Rattle.model.specs.Logs.{Entry}
use Rattle.model_laws.specs.Bytes.{All}
use Rattle.model_laws.proofs.Tables.{keep_all, keep_no, all_every, all_append}

-- an end before the newest entry's
pub place_old : (z : Pair) (zs : List Pair) (k : ℕ) → k < z.entry.end → place_of (z ∷ zs) k ≡ place_of zs k
unfolding place_of
place_old z zs k h = rw (lt-leb z.entry.end k h)

place-next : (z : Pair) (zs : List Pair) (k : ℕ) → z.entry.end ≤ k → place_of (z ∷ zs) k ≡ suc (place_of zs k)
unfolding place_of
place-next z zs k h = rw (le-leb z.entry.end k h)

pub place_all : (zs : List Pair) (n : ℕ) → Within n zs → place_of zs n ≡ length zs
unfolding place_of
place_all [] n h = refl
place_all (z ∷ zs) n h = place-next z zs n h.0 ∙ ap suc (place_all zs n h.1)

pub place_new : (z : Pair) (zs : List Pair) (n : ℕ) → Within n zs → n < z.entry.end → place_of (z ∷ zs) z.entry.end ≡ suc (length zs)
place_new z zs n h l =
    place_all (z ∷ zs) z.entry.end (omega arith, all_to zs (λ (y : Pair) (k : y.entry.end ≤ n). omega arith) h)

pub place-most : (zs : List Pair) (k : ℕ) → place_of zs k ≤ length zs
unfolding place_of
place-most [] k = omega arith
place-most (z ∷ zs) k = go (leb z.entry.end k) (place-most zs k)
  where
    go : (b : Bool) → place_of zs k ≤ length zs → pick b (suc (place_of zs k)) (place_of zs k) ≤ suc (length zs)
    go true ih = omega arith
    go false ih = omega arith

pub place_rises : (zs : List Pair) (k m : ℕ) → k ≤ m → place_of zs k ≤ place_of zs m
unfolding place_of
place_rises [] k m h = omega arith
place_rises (z ∷ zs) k m h = go (leb z.entry.end k) refl (leb z.entry.end m) refl (place_rises zs k m h)
  where
    go : (b : Bool) → leb z.entry.end k ≡ b → (c : Bool) → leb z.entry.end m ≡ c → place_of zs k ≤ place_of zs m
        → pick b (suc (place_of zs k)) (place_of zs k) ≤ pick c (suc (place_of zs m)) (place_of zs m)
    go true p true q ih = omega arith
    go true p false q ih = absurd (omega (arith, leb-true z.entry.end k p, leb-false z.entry.end m q))
    go false p true q ih = omega arith
    go false p false q ih = ih

pub abstract-length : (zs : List Pair) → length (abstract_in zs) ≡ length zs
unfolding abstract_in
abstract-length [] = refl
abstract-length (z ∷ zs) = ap suc (abstract-length zs)

drop-abstract : (j : ℕ) (zs : List Pair) → abstract_in (drop j zs) ≡ drop j (abstract_in zs)
unfolding abstract_in
drop-abstract zero zs = refl
drop-abstract (suc j) [] = refl
drop-abstract (suc j) (z ∷ zs) = drop-abstract j zs

-- entries that end at or under k
all_entries : (k : ℕ) (zs : List Pair) → Within k zs → All (λ (e : Entry). leb e.end k ≡ true) (entries_in zs)
unfolding entries_in
all_entries k [] h = tt
all_entries k (z ∷ zs) h = all_append (λ (e : Entry). leb e.end k ≡ true) (entries_in zs) (z.entry ∷ []) (all_entries k zs h.1) (le-leb _ _ h.0, tt)

-- the newest entry ends at or under k: the log is whole; or it goes
cut-whole : (zs : List Pair) (k : ℕ) → Within k zs → cut_at zs k ≡ zs
unfolding cut_at lost
cut-whole zs k h = let e : length zs - place_of zs k ≡ 0 = omega (arith, place_all zs k h) in rw e

cut_less : (z : Pair) (zs : List Pair) (k : ℕ) → k < z.entry.end → cut_at (z ∷ zs) k ≡ cut_at zs k
unfolding cut_at lost
cut_less z zs k h =
    let e : suc (length zs) - place_of (z ∷ zs) k ≡ suc (length zs - place_of zs k) = omega (arith, place_old z zs k h, place-most zs k) in
    rw e

newest_within : (z : Pair) (zs : List Pair) (k : ℕ) → Rising (z ∷ zs) → z.entry.end ≤ k → Within k (z ∷ zs)
newest_within z zs k r h = (h, all_to zs (λ (y : Pair) (l : y.entry.end < z.entry.end). omega arith) r.0)

pub cut-entries : (zs : List Pair) (k : ℕ) → Rising zs → entries_in (cut_at zs k) ≡ keep (λ (e : Entry). leb e.end k) (entries_in zs)
unfolding entries_in keep
cut-entries [] k r = rw (cut-whole [] k tt)
cut-entries (z ∷ zs) k r = go (leb z.entry.end k) refl (cut-entries zs k r.1)
  where
    t : Entry → Bool
    t e = leb e.end k

    go : (b : Bool) → leb z.entry.end k ≡ b → entries_in (cut_at zs k) ≡ keep t (entries_in zs)
        → entries_in (cut_at (z ∷ zs) k) ≡ keep t (entries_in zs ++ (z.entry ∷ []))
    go true q ih =
        let w = newest_within z zs k r (leb-true _ _ q) in
        ap entries_in (cut-whole (z ∷ zs) k w) ∙ sym (keep_all t (entries_in (z ∷ zs)) (all_every t (entries_in (z ∷ zs)) (all_entries k (z ∷ zs) w)))
    go false q ih = ap entries_in (cut_less z zs k (leb-false _ _ q)) ∙ (ih ∙ sym (keep_no t (entries_in zs) z.entry q))

pub cut-place : (zs : List Pair) (k m : ℕ) → Rising zs → m ≤ k → place_of (cut_at zs k) m ≡ place_of zs m
cut-place [] k m r h = rw (cut-whole [] k tt)
cut-place (z ∷ zs) k m r h = go (leb z.entry.end k) refl (cut-place zs k m r.1 h)
  where
    go : (b : Bool) → leb z.entry.end k ≡ b → place_of (cut_at zs k) m ≡ place_of zs m → place_of (cut_at (z ∷ zs) k) m ≡ place_of (z ∷ zs) m
    go true q ih = ap (λ (ys : List Pair). place_of ys m) (cut-whole (z ∷ zs) k (newest_within z zs k r (leb-true _ _ q)))
    go false q ih =
        let l : k < z.entry.end = leb-false _ _ q in
        ap (λ (ys : List Pair). place_of ys m) (cut_less z zs k l) ∙ (ih ∙ sym (place_old z zs m (omega arith)))

pub cut-abstract : (zs : List Pair) (k : ℕ) → abstract_in (cut_at zs k) ≡ drop (lost zs k) (abstract_in zs)
unfolding cut_at
cut-abstract zs k = drop-abstract (lost zs k) zs

-- the mark is under the cut
pub cut-room : (zs : List Pair) (k m : ℕ) → m ≤ k → place_of zs m + lost zs k ≤ length (abstract_in zs)
unfolding lost
cut-room zs k m h =
    omega (arith, place_rises zs m k h, place-most zs k, abstract-length zs)

pub cut-length : (zs : List Pair) (k : ℕ) → length (abstract_in (cut_at zs k)) ≡ place_of zs k
unfolding lost
cut-length zs k =
    ap length (cut-abstract zs k)
    ∙ (length-drop (lost zs k) (abstract_in zs)
    ∙ omega (arith, place-most zs k, abstract-length zs))

pub cut-within : (zs : List Pair) (k : ℕ) → Rising zs → Within k (cut_at zs k)
cut-within [] k r = rw (cut-whole [] k tt) tt
cut-within (z ∷ zs) k r = go (leb z.entry.end k) refl (cut-within zs k r.1)
  where
    go : (b : Bool) → leb z.entry.end k ≡ b → Within k (cut_at zs k) → Within k (cut_at (z ∷ zs) k)
    go true q ih = let w = newest_within z zs k r (leb-true _ _ q) in rw (cut-whole (z ∷ zs) k w) w
    go false q ih = rw (cut_less z zs k (leb-false _ _ q)) ih
