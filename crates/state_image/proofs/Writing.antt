-- The loop that writes the entries of slots.
--     Walking, walk_start, walk_skip, walk_put, walk_end     slot by slot
--     walk-room                                              the entries' number
-- Assumes nothing.
use Prim.Native.Nat.{ℕ, suc, ◌+◌, ◌*◌, ◌≤◌, ◌<◌}
use mathlib.Core.Path.{◌≡◌, refl, sym, ap, ◌∙◌}
use mathlib.Core.Bool.{Bool, true, false}
use mathlib.Core.List.{List, [], ◌∷◌}
use mathlib.Core.Logic.{◌≢◌}
use native.Mathlib.Omega.{arith}
use native.Mathlib.Nat.{add-zero, mul-zero}
use native.Mathlib.Numerals.{add-one}
use lib.ListN.{length, get_or, drop, drop_of_length-le}
use lib.Seq.{drop-cons}
use lib.Dec.{eqb}
use borrow.Author.Tests.{eq-eqb, ne_eqb}
use Rattle.model.specs.declared.Completion.{Completion}
use Rattle.model.specs.declared.ImageEntry.{ImageEntry}
use Rattle.model.specs.Choice.{pick}
use Rattle.model.specs.Tables.{bytes_of, written}
use Rattle.model_laws.specs.Codec.{Codec}
use Rattle.model_laws.proofs.Written.{length-written, written_none, written-append}
use Rattle.model_laws.proofs.Tables.{row_next}
use Rattle.state_image.specs.Slots.{entry_in, entries_in}

-- k slots were passed, and j entries stored from s₀'s place at on, by a layout C of rows
pub record Walking (C : Codec ImageEntry) (rs : List Completion) (u : List ℕ) (at : ℕ) (s₀ : List ℕ) (k j : ℕ) (s : List ℕ) : Type 0 where
  pub below : k ≤ length u
  pub same : length s ≡ length s₀
  pub count : j + length (entries_in rs (drop k u)) ≡ length (entries_in rs u)
  pub bytes : written s₀ at (bytes_of C.enc (entries_in rs u)) ≡ written s (at + C.width * j) (bytes_of C.enc (entries_in rs (drop k u)))

pub walk_start : (C : Codec ImageEntry) (rs : List Completion) (u : List ℕ) (at : ℕ) (s : List ℕ) → Walking C rs u at s 0 0 s
walk_start C rs u at s = record { below = omega arith; same = refl; count = omega arith; bytes = rw (mul-zero, add-zero) }

entries-length : (rs : List Completion) (t : List ℕ) → length (entries_in rs t) ≤ length t
unfolding entries_in
entries-length rs [] = omega arith
entries-length rs (v ∷ t) = go (eqb v 0) (entries-length rs t)
  where
    go : (b : Bool) → length (entries_in rs t) ≤ length t → length (pick b (entries_in rs t) (entry_in rs v ∷ entries_in rs t)) ≤ suc (length t)
    go true h = omega arith
    go false h = omega arith

-- the entries from the slot k on
module _ (rs : List Completion) (u : List ℕ) (k : ℕ) where
  entries_skip : k < length u → get_or u k 0 ≡ 0 → entries_in rs (drop k u) ≡ entries_in rs (drop (k + 1) u)
  unfolding entries_in
  entries_skip l z = rw (drop-cons u k 0 l, eq-eqb (get_or u k 0) 0 z, add-one)

  entries_next : k < length u → get_or u k 0 ≢ 0 → entries_in rs (drop k u) ≡ entry_in rs (get_or u k 0) ∷ entries_in rs (drop (k + 1) u)
  unfolding entries_in
  entries_next l n = rw (drop-cons u k 0 l, ne_eqb (get_or u k 0) 0 n, add-one)

  entries_over : length u ≤ k → entries_in rs (drop k u) ≡ []
  unfolding entries_in
  entries_over l = rw (drop_of_length-le u {i = k} l)

-- an entry before others, as it is written
next-written : (C : Codec ImageEntry) (s : List ℕ) (at j : ℕ) (e : ImageEntry) (es : List ImageEntry)
    → written s (at + C.width * j) (bytes_of C.enc (e ∷ es)) ≡ written (written s (at + C.width * j) (C.enc e)) (at + C.width * (j + 1)) (bytes_of C.enc es)
unfolding bytes_of
next-written C s at j e es =
    let q : at + C.width * j + C.width ≡ at + C.width * (j + 1) = omega (arith, row_next C.width j) in
    written-append s (at + C.width * j) (C.enc e) (bytes_of C.enc es) ∙ rw (C.enc-width e, q)

module _ {C : Codec ImageEntry} {rs : List Completion} {u : List ℕ} {at : ℕ} {s₀ : List ℕ} {k j : ℕ} {s : List ℕ} (o : Walking C rs u at s₀ k j s) where
  pub walk_skip : k < length u → get_or u k 0 ≡ 0 → Walking C rs u at s₀ (k + 1) j s
  walk_skip l z =
      let e : entries_in rs (drop k u) ≡ entries_in rs (drop (k + 1) u) = entries_skip rs u k l z in
      record {
        below = omega arith;
        same = o.same;
        count = ap (λ (x : List ImageEntry). j + length x) (sym e) ∙ o.count;
        bytes = o.bytes ∙ ap (λ (x : List ImageEntry). written s (at + C.width * j) (bytes_of C.enc x)) e;
      }

  pub walk_put : {e : ImageEntry} {s' : List ℕ} → k < length u → get_or u k 0 ≢ 0 → e ≡ entry_in rs (get_or u k 0) → s' ≡ written s (at + C.width * j) (C.enc e)
      → Walking C rs u at s₀ (k + 1) (j + 1) s'
  walk_put {e} {s'} l n p q =
      let x : entries_in rs (drop k u) ≡ e ∷ entries_in rs (drop (k + 1) u) = entries_next rs u k l n ∙ rw (← p) in
      record {
        below = omega arith;
        same = rw (q, length-written) o.same;
        count = omega (arith, ap length x, o.count);
        bytes =
            o.bytes
            ∙ ap (λ (y : List ImageEntry). written s (at + C.width * j) (bytes_of C.enc y)) x
            ∙ next-written C s at j e (entries_in rs (drop (k + 1) u))
            ∙ rw (← q);
      }

  -- an entry that is still to be written is one of at most as many as slots
  pub walk-room : k < length u → get_or u k 0 ≢ 0 → j < length u
  walk-room l n = omega (arith, o.count, ap length (entries_next rs u k l n), entries-length rs u)

  pub walk_end : length u ≤ k → (s ≡ written s₀ at (bytes_of C.enc (entries_in rs u))) × (j ≡ length (entries_in rs u))
  unfolding bytes_of
  walk_end l =
      let e : entries_in rs (drop k u) ≡ [] = entries_over rs u k l in
      (sym (o.bytes ∙ rw (e, written_none)), omega (arith, ap length e, o.count))
