-- A row that begins as that of a held point.
--     head-is       the test by the word that was read
--     held_row      what is left to test decides
-- Assumes nothing.
use Prim.Native.Nat.{ℕ, ◌≤◌}
use mathlib.Core.Path.{◌≡◌, sym, ap, ◌∙◌}
use mathlib.Core.Bool.{Bool, true, ◌&&◌, and_assoc}
use mathlib.Core.List.{List}
use native.Mathlib.Omega.{arith}
use native.Mathlib.Nat.{add-zero}
use lib.ListN.{drop}
use lib.Seq.{get_or-drop}
use lib.Dec.{eqb, ltb}
use borrow.Author.Tests.{eqb-true, ltb-true, le-leb}
use Rattle.model.specs.declared.PlanEntry.{PlanEntry}
use Rattle.model.specs.declared.Point.{Point}
use Rattle.model.specs.Numbers.{byte_at, le32_at}
use Rattle.model.specs.Plan.{plan_entry_of, plan_row_ok, in_range}
use Rattle.model.specs.States.{held, point_of, point_ok, point_row_ok, not_given}
use Rattle.model.specs.Limits.{last_quality}
use Rattle.model_laws.specs.Bytes.{Bytes}
use Rattle.model_laws.proofs.Numbers.{le32-drop}
use Rattle.model_laws.proofs.Tests.{and_left, and_right}
use Rattle.state_sound_rows.specs.Parts.{held_move, origin, status_and_ends, fields_in, held_heads, held_head, still_held, held_rest, row_ok}
use Rattle.state_sound_rows.proofs.Points.{point-parts}

pub head-is : (s : List ℕ) (k : ℕ) {w : ℕ} → w ≡ le32_at s k → (ltb w held_heads && eqb (byte_at s k) held) ≡ held_head (drop k s)
unfolding held_head
head-is s k p =
    let word : le32_at (drop k s) 0 ≡ le32_at s k = le32-drop k s 0 ∙ ap (le32_at s) (add-zero k) in
    let byte : byte_at (drop k s) 0 ≡ byte_at s k = get_or-drop k s 0 0 ∙ ap (byte_at s) (add-zero k) in
    rw (p, word, byte)

held-fields : (e : PlanEntry) (x : Point) → x.status ≡ 1 → x.quality ≤ last_quality → x.destination ≡ 0 → fields_in e x ≡ in_range e x.value
unfolding fields_in
held-fields e x p q d = rw (p, le-leb x.quality last_quality q, d)

held-status : (server size : ℕ) (e : PlanEntry) (x : Point) → x.status ≡ 1 → status_and_ends server size e x ≡ (held_move x && origin server size e x)
unfolding status_and_ends
held-status server size e x p = rw p

held_move_lem : (x : Point) → x.destination ≡ 0 → held_move x ≡ still_held x
unfolding held_move not_given still_held
held_move_lem x d = rw d

held_any : (server size : ℕ) (e : PlanEntry) (x : Point) → x.status ≡ 1 → x.quality ≤ last_quality → x.destination ≡ 0 → (fields_in e x && status_and_ends server size e x) ≡ held_rest server size e x
unfolding held_rest
held_any server size e x p q d =
    rw (held-fields e x p q d, held-status server size e x p, held_move_lem x d) (sym (and_assoc (in_range e x.value) (still_held x) (origin server size e x)))

module _ (server size : ℕ) (e : PlanEntry) (q : List ℕ) (b : Bytes q) (r : held_head q ≡ true) where
  heads : (byte_at q 0 ≡ 1) × (byte_at q 1 ≤ last_quality) × (byte_at q 2 ≡ 0) × (byte_at q 3 ≡ 0)
  unfolding held_head le32_at
  heads =
      let w = ltb-true (le32_at q 0) held_heads (and_left (ltb (le32_at q 0) held_heads) (eqb (byte_at q 0) held) r) in
      let h = eqb-true (byte_at q 0) held (and_right (ltb (le32_at q 0) held_heads) (eqb (byte_at q 0) held) r) in
      let f = b 0 in
      (h, omega (arith, w, f), omega (arith, w, f), omega (arith, w, f))

  held-point : point_ok server size e (point_of q) ≡ held_rest server size e (point_of q)
  unfolding point_of
  held-point = point-parts server size e (point_of q) ∙ held_any server size e (point_of q) heads.0 heads.1 heads.2

  pub held_row : (p : List ℕ) → e ≡ plan_entry_of p → plan_row_ok p ≡ true → {v : Bool} → v ≡ held_rest server size e (point_of q) → v ≡ row_ok server size p q
  unfolding row_ok point_row_ok
  held_row p h k f = f ∙ sym (rw (k, heads.3, ← h, held-point))
