-- A crash keeps a prefix of the log.
--     incomplete-take               a prefix of an incomplete record is one
--     cut_at                        a cut through entries keeps the whole ones and an incomplete one
--     holds_kept                    a running server's log, as a crash at its end keeps it
--     crash-again                   a crash
-- Assumes nothing.
use Prim.Native.Nat.{ℕ, zero, suc, ◌+◌, ◌-◌, ◌≤◌, ◌<◌}
use mathlib.Core.Path.{◌≡◌, refl, sym, ap, ◌∙◌}
use mathlib.Core.Bool.{Bool, true, false, ◌||◌}
use mathlib.Core.List.{List, [], ◌∷◌, ◌++◌, append_assoc, append-nil}
use native.Mathlib.Omega.{arith}
use lib.ListN.{length, take, get_or, length-take}
use lib.Seq.{get_or-take}
use lib.Dec.{eqb, leb, ltb}
use borrow.Author.Tests.{leb-true, leb-false, ltb-true, ltb-false, lt-leb}
use Rattle.model.specs.Choice.{pick}
use Rattle.model.specs.Numbers.{byte_at, le32_at}
use Rattle.model.specs.Limits.{head_size, first_executed_size, executed_size, gone_size, give_size, release_size, take_head, least_image, greatest_image}
use Rattle.model.specs.Tables.{keep}
use Rattle.model.specs.Logs.{Entry, record_size, head_bytes, record_bytes, entries_bytes, off, cut, spans, within, take_extent, extent_of}
use Rattle.model.specs.States.{State, load}
use Rattle.model_laws.specs.Fits.{EntriesFrom, Incomplete}
use Rattle.model_laws.proofs.Tests.{choose}
use Rattle.model_laws.proofs.Numbers.{le32-take}
use Rattle.model_laws.proofs.Logs.{record-length, within-cut, extent_cut}
use Rattle.model_invariants.proofs.Crash.{decided-from, decided-cut}
use Rattle.safety.specs.Holds.{Holds, Kept, kept_entries, Cut}
use Rattle.safety.proofs.Facts.{take-front, holds-log, holds-mark}

-- ---- a prefix of an incomplete record

is-incomplete : (s : List ℕ) → extent_of s ≡ cut → Incomplete s
is-incomplete [] e = tt
is-incomplete (b ∷ s) e = e

module _ (s : List ℕ) (j : ℕ) (some : 1 ≤ j) where
  abbrev t : List ℕ
  t = take j s

  within-take : (n : ℕ) → within s n ≡ cut → within t n ≡ cut
  unfolding within
  within-take n e = go (ltb (length s) n) refl e
    where
      go : (b : Bool) → ltb (length s) n ≡ b → pick b cut (spans n) ≡ cut → pick (ltb (length t) n) cut (spans n) ≡ cut
      go true q k = within-cut t n (omega (arith, ltb-true (length s) n q, length-take j s))
      go false q k = let z : ◌≡◌ {A = ℕ} 0 1 = cc in absurd (omega arith)

  take-cut : take_extent s ≡ cut → take_extent t ≡ cut
  unfolding take_extent
  take-cut e =
      choose (λ x. take_extent s ≡ cut → x ≡ cut) (ltb (length t) take_head) (λ k h. refl)
      (λ k h.
      let m : take_head ≤ length t = ltb-false _ _ k in
      let same : le32_at t 4 ≡ le32_at s 4 = le32-take j s 4 (omega (arith, m, length-take j s)) in
      rw same (long (ltb (length s) take_head) refl (ltb (le32_at s 4) least_image || ltb greatest_image (le32_at s 4)) e m)) e
    where
      long : (a : Bool) → ltb (length s) take_head ≡ a → (b : Bool)
          → pick a cut (pick b off (within s (take_head + le32_at s 4))) ≡ cut → take_head ≤ length t
          → pick b off (within t (take_head + le32_at s 4)) ≡ cut
      long true p b k m = absurd (omega (arith, ltb-true (length s) take_head p, m, length-take j s))
      long false p true k m = k
      long false p false k m = within-take (take_head + le32_at s 4) k

  extent_prefix : extent_of s ≡ cut → extent_of t ≡ cut
  unfolding extent_of
  extent_prefix e =
      let first : get_or t 0 0 ≡ get_or s 0 0 = get_or-take j s 0 0 some in
      rw first (go (eqb (byte_at s 0) 1) (eqb (byte_at s 0) 2) (eqb (byte_at s 0) 3) (eqb (byte_at s 0) 4) (eqb (byte_at s 0) 5) (eqb (byte_at s 0) 6) e)
    where
      go : (k1 k2 k3 k4 k5 k6 : Bool)
          → pick k1 (within s first_executed_size)
          (pick k2 (within s gone_size) (pick k3 (within s give_size) (pick k4 (take_extent s) (pick k5 (within s release_size) (pick k6 (within s executed_size) off))))) ≡ cut
          → pick k1 (within t first_executed_size)
          (pick k2 (within t gone_size) (pick k3 (within t give_size) (pick k4 (take_extent t) (pick k5 (within t release_size) (pick k6 (within t executed_size) off))))) ≡ cut
      go true k2 k3 k4 k5 k6 h = within-take first_executed_size h
      go false true k3 k4 k5 k6 h = within-take gone_size h
      go false false true k4 k5 k6 h = within-take give_size h
      go false false false true k5 k6 h = take-cut h
      go false false false false true k6 h = within-take release_size h
      go false false false false false true h = within-take executed_size h
      go false false false false false false h = h

pub incomplete-take : (s : List ℕ) (j : ℕ) → Incomplete s → Incomplete (take j s)
incomplete-take s zero i = tt
incomplete-take [] (suc j) i = tt
incomplete-take (b ∷ s) (suc j) i = is-incomplete (take (suc j) (b ∷ s)) (extent_prefix (b ∷ s) (suc j) (omega arith) i)

-- ---- a cut through entries

keep-later : (k p : ℕ) (es : List Entry) → EntriesFrom p es → k < p → keep (λ e. leb e.end k) es ≡ []
unfolding keep
keep-later k p [] f h = refl
keep-later k p (e ∷ es) f h =
    let later : k < e.end = omega (arith, f.0.end) in
    rw (lt-leb e.end k later) (keep-later k e.end es f.1 later)

pub cut_at : (k p : ℕ) (es : List Entry) (tail : List ℕ) → EntriesFrom p es → Incomplete tail → p ≤ k → Cut k p es tail
unfolding keep entries_bytes
cut_at k p [] tail f i h = record { rest = take (k - p) tail; incomplete = incomplete-take tail (k - p) i; split = refl }
cut_at k p (e ∷ es) tail f i h = go (leb e.end k) refl (cut_at k e.end es tail f.1 i)
  where
    bs : List ℕ
    bs = record_bytes e.item

    more : List ℕ
    more = entries_bytes es ++ tail

    size : length bs ≡ record_size e.item
    size = record-length e.item

    go : (b : Bool) → leb e.end k ≡ b → (e.end ≤ k → Cut k e.end es tail) → Cut k p (e ∷ es) tail
    go true q ih =
        let l : e.end ≤ k = leb-true _ _ q in
        let C : Cut k e.end es tail = ih l in
        let n : k - p - length bs ≡ k - e.end = omega (arith, size, f.0.end) in
        record {
          rest = C.rest;
          incomplete = C.incomplete;
          split =
              rw (q, append_assoc bs (entries_bytes es) tail)
              (take-front (k - p) bs more (omega (arith, size, f.0.end)) ∙ ap (λ (x : ℕ). bs ++ take x more) n ∙ rw (C.split, append_assoc));
        }
    go false q ih =
        let l : k < e.end = leb-false _ _ q in
        record {
          rest = take (k - p) (bs ++ more);
          incomplete = extent_cut e.item more (k - p) f.0.ok (omega (arith, f.0.end));
          split = rw (q, append_assoc bs (entries_bytes es) tail, keep-later k e.end es f.1 l);
        }

-- ---- crashes

head-size : (c : ℕ) → length (head_bytes c) ≡ head_size
unfolding head_bytes
head-size c = refl

pub holds_kept : {start : State} {es : List Entry} {state log : List ℕ} → Holds start es state log → Kept start es log (load state).mark
holds_kept {start} {es} H =
    let m = holds-mark H in
    record {
      from = H.from;
      rest = [];
      incomplete = tt;
      logged = holds-log H ∙ ap (λ (x : List ℕ). head_bytes start.server ++ x) (sym (append-nil (entries_bytes es)));
      decided = H.opens.decided;
      head = m.0;
      within = m.1;
    }

-- a crash of a server that has crashed; of one that runs, by holds_kept
pub crash-again : {start : State} {es : List Entry} {kept : List ℕ} {mark : ℕ} → Kept start es kept mark → (k : ℕ) → mark ≤ k → k ≤ length kept
    → Kept start (kept_entries k es) (take k kept) mark
crash-again {start} {es} {kept} K k low high =
    let X : Cut k head_size es K.rest = cut_at k head_size es K.rest (decided-from K.from es K.decided) K.incomplete (omega (arith, K.head)) in
    let c : ℕ = start.server in
    let head : length (head_bytes c) ≡ head_size = head-size c in
    record {
      from = K.from;
      rest = X.rest;
      incomplete = X.incomplete;
      logged =
          ap (take k) K.logged
          ∙ take-front k (head_bytes c) (entries_bytes es ++ K.rest) (omega (arith, head, K.head))
          ∙ ap (λ (x : ℕ). head_bytes c ++ take (k - x) (entries_bytes es ++ K.rest)) head
          ∙ ap (λ (x : List ℕ). head_bytes c ++ x) X.split;
      decided = decided-cut K.from k es K.decided;
      head = K.head;
      within = omega (arith, length-take k kept);
    }
