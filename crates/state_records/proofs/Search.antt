-- The search for an id among the completion records.
--     id-there                                       the id of a row, by its eight bytes
--     four_past                                      none of four rows has the id
--     all_records, counted                           the records, by their count
--     find_eight                                     the loop over groups of eight
--     find_hit, find_none                            what the loop over the others finds
--     found_none, found_at, missing                  what the answer says
-- Assumes nothing.
use Prim.Native.Nat.{ℕ, suc, ◌+◌, ◌*◌, ◌≤◌, ◌<◌}
use mathlib.Core.Path.{◌≡◌, refl, sym, ap, ◌∙◌, subst}
use mathlib.Core.Bool.{Bool, true, false, ◌&&◌, ◌||◌, not}
use mathlib.Core.List.{List, [], ◌∷◌}
use mathlib.Core.Option.{Option as Maybe, none, some}
use native.Mathlib.Omega.{arith}
use native.Mathlib.Nat.{add-zero, add_assoc}
use lib.ListN.{length, drop, get_or}
use lib.Seq.{drop-drop}
use lib.Dec.{eqb}
use borrow.Author.Tests.{eqb-true, eqb-false, eq-eqb, ne_eqb, not-false}
use Rattle.std.specs.Prelude.{Option, None, Some, is_some}
use Rattle.model.specs.declared.Completion.{Completion}
use Rattle.model.specs.Choice.{pick}
use Rattle.model.specs.Numbers.{word, le32_at, le64_at}
use Rattle.model.specs.Tables.{rows, every, index_of}
use Rattle.model.specs.States.{load, completion_of, is_id, records_in, record_row, records_start}
use Rattle.model.specs.Decisions.{find, is_none as none_found}
use Rattle.model_laws.specs.Bytes.{Bytes}
use Rattle.model_laws.specs.Sought.{Sought}
use Rattle.model_laws.proofs.Tests.{and_left, and_right}
use Rattle.model_laws.proofs.Numbers.{le32-drop, le32-below}
use Rattle.model_laws.proofs.Tables.{length-rows, get_d_rows}
use Rattle.model_laws.proofs.Searches.{row_hit, row_none, row_run}
use Rattle.state_rows.specs.Canonical.{Canonical}
use Rattle.state_rows.proofs.Access.{records-count}
use Rattle.state_records.specs.Rules.{found_of}

-- two numbers of 32 bits as one of 64
pair_eqb : (a b x c : ℕ) → a < word → x < word → eqb (a + word * b) (x + word * c) ≡ (eqb a x && eqb b c)
pair_eqb a b x c h l = go (eqb a x) refl (eqb b c) refl
  where
    go : (t : Bool) → eqb a x ≡ t → (u : Bool) → eqb b c ≡ u → eqb (a + word * b) (x + word * c) ≡ (t && u)
    go true p true q = eq-eqb (a + word * b) (x + word * c) (omega (arith, eqb-true a x p, eqb-true b c q))
    go true p false q = ne_eqb (a + word * b) (x + word * c) (λ (e : a + word * b ≡ x + word * c). eqb-false b c q (omega arith))
    go false p u q = ne_eqb (a + word * b) (x + word * c) (λ (e : a + word * b ≡ x + word * c). eqb-false a x p (omega arith))

pub id-there : (s : List ℕ) (k x c : ℕ) {v : ℕ} → Bytes s → x < word → v ≡ le64_at s k → eqb v (x + word * c) ≡ is_id x c (completion_of (drop k s))
unfolding is_id completion_of le64_at
id-there s k x c b h e =
    rw (e, le32-drop k s 0, le32-drop k s 4, add-zero) (pair_eqb (le32_at s k) (le32_at s (k + 4)) x c (le32-below s k b) h)

-- ---- groups of rows

pub four_past : (s : List ℕ) (k x c : ℕ) {a b d e : Bool} → a ≡ is_id x c (completion_of (drop k s)) → b ≡ is_id x c (completion_of (drop (k + record_row) s))
    → d ≡ is_id x c (completion_of (drop (k + 2 * record_row) s)) → e ≡ is_id x c (completion_of (drop (k + 3 * record_row) s))
    → not (a || (b || (d || e))) ≡ every (λ r. not (is_id x c r)) (rows completion_of record_row 4 (drop k s))
unfolding every rows
four_past s k x c {a} {b} {d} {e} p q r t =
    let two : drop record_row (drop (k + record_row) s) ≡ drop (k + 2 * record_row) s = drop-drop record_row (k + record_row) s ∙ ap (λ (j : ℕ). drop j s) (add_assoc k record_row record_row) in
    let three : drop record_row (drop (k + 2 * record_row) s) ≡ drop (k + 3 * record_row) s =
    drop-drop record_row (k + 2 * record_row) s ∙ ap (λ (j : ℕ). drop j s) (add_assoc k (2 * record_row) record_row) in
    rw (drop-drop record_row k s, two, three, ← p, ← q, ← r, ← t) (go a b d e)
  where
    go : (a b d e : Bool) → not (a || (b || (d || e))) ≡ (not a && (not b && (not d && (not e && true))))
    go true b d e = refl
    go false true d e = refl
    go false false true e = refl
    go false false false true = refl
    go false false false false = refl

-- ---- the loops

pub all_records : (s : List ℕ) (n : ℕ) → n ≡ records_in s → (load s).records ≡ rows completion_of record_row n (drop records_start s)
unfolding load
all_records s n e = rw e

-- the records as rows, by their count
module _ {s : List ℕ} {n : ℕ} (w : Canonical s) (e : n ≡ length (load s).records) where
  pub counted : (load s).records ≡ rows completion_of record_row n (drop records_start s)
  counted = all_records s n (e ∙ records-count s)

-- the first that has the id is the one that is found
module _ (x c : ℕ) where
  find_in : (rs : List Completion) (d : Completion) → index_of (is_id x c) rs < length rs → find x c rs ≡ some (get_or rs (index_of (is_id x c) rs) d)
  unfolding find index_of
  find_in [] d h = absurd (omega arith)
  find_in (r ∷ rs) d h = go (is_id x c r) h (find_in rs d)
    where
      go : (b : Bool) → pick b 0 (suc (index_of (is_id x c) rs)) < suc (length rs)
          → (index_of (is_id x c) rs < length rs → find x c rs ≡ some (get_or rs (index_of (is_id x c) rs) d))
          → pick b (some r) (find x c rs) ≡ some (get_or (r ∷ rs) (pick b 0 (suc (index_of (is_id x c) rs))) d)
      go true k ih = refl
      go false k ih = ih (omega arith)

  find-out : (rs : List Completion) → length rs ≤ index_of (is_id x c) rs → find x c rs ≡ none
  unfolding find index_of
  find-out [] h = refl
  find-out (r ∷ rs) h = go (is_id x c r) h (find-out rs)
    where
      go : (b : Bool) → suc (length rs) ≤ pick b 0 (suc (index_of (is_id x c) rs)) → (length rs ≤ index_of (is_id x c) rs → find x c rs ≡ none) → pick b (some r) (find x c rs) ≡ none
      go true k ih = absurd (omega arith)
      go false k ih = ih (omega arith)

module _ (x c : ℕ) (s : List ℕ) (n : ℕ) {i : ℕ} (o : Sought (is_id x c) (rows completion_of record_row n (drop records_start s)) i) where
  abbrev rs : List Completion
  rs = rows completion_of record_row n (drop records_start s)

  size : length rs ≡ n
  size = length-rows completion_of record_row n (drop records_start s)

  pub find_hit : {r : Completion} → (load s).records ≡ rs → i < n → is_id x c (completion_of (drop (records_start + record_row * i) s)) ≡ true
      → r ≡ completion_of (drop (records_start + record_row * i) s)
      → Some r ≡ found_of (find x c (load s).records)
  unfolding found_of
  find_hit {r} a h q e =
      let k : i ≡ index_of (is_id x c) rs = row_hit completion_of record_row records_start n s o h q in
      let row : get_or rs i (completion_of []) ≡ r = rw (get_d_rows completion_of record_row n (drop records_start s) i (completion_of []) h, drop-drop) (sym e) in
      rw (a, find_in x c rs (completion_of []) (omega (arith, size)), ← k, row)

  pub find_none : (load s).records ≡ rs → n ≤ i → None ≡ found_of (find x c (load s).records)
  unfolding found_of
  find_none a h = let k : n ≡ index_of (is_id x c) rs = row_none completion_of record_row records_start n s o h in rw (a, find-out x c rs (omega (arith, size)))

  -- none of eight has it
  pub find_eight : i + 8 ≤ n → {j : ℕ} → j ≡ i + 8 → {a b : Bool} → a ≡ every (λ r. not (is_id x c r)) (rows completion_of record_row 4 (drop (records_start + record_row * i) s))
      → b ≡ every (λ r. not (is_id x c r)) (rows completion_of record_row 4 (drop (records_start + record_row * i + 4 * record_row) s))
      → not (a && b) ≡ false → Sought (is_id x c) rs j
  find_eight h e {a} {b} p q t =
      let both : (a && b) ≡ true = not-false (a && b) t in
      let at : records_start + record_row * i + 4 * record_row ≡ records_start + record_row * (i + 4) = omega arith in
      let one : Sought (is_id x c) rs (i + 4) = row_run completion_of record_row records_start n s o 4 (omega arith) (sym p ∙ and_left a b both) in
      let two : Sought (is_id x c) rs (i + 4 + 4) = row_run completion_of record_row records_start n s one 4 (omega arith) (rw (← at) (sym q ∙ and_right a b both)) in
      subst (λ (j : ℕ). Sought (is_id x c) rs j) (omega arith) two

-- ---- a search's answer

pub found_none : (o : Maybe Completion) → None ≡ found_of o → o ≡ none
unfolding found_of
found_none none e = refl
found_none (some r) e = cc

pub found_at : (o : Maybe Completion) (x : Completion) → Some x ≡ found_of o → o ≡ some x
unfolding found_of
found_at none x e = cc
found_at (some r) x e = let m : r ≡ x = cc in ap some m

pub missing : (o : Maybe Completion) (b : Bool) {f : Option Completion} → f ≡ found_of o → is_some f ≡ not b → b ≡ none_found o
unfolding found_of none_found
missing none true e h = refl
missing none false e h = cc
missing (some r) true e h = cc
missing (some r) false e h = refl
