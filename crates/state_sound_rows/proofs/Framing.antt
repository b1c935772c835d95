-- The head of a state's buffer and the rows past its counts.
--     few_clients, few_records     the counts are in their limits; framed-counts: both, once the whole framing is tested
--     framed_is, framed_rows     state_framed by the head and the rows past the counts
-- Assumes nothing.
use Prim.Native.Nat.{ℕ, ◌+◌, ◌-◌, ◌*◌, ◌≤◌}
use mathlib.Core.Path.{◌≡◌, refl, sym, ap, ◌∙◌}
use mathlib.Core.Bool.{Bool, true, false, ◌&&◌, not, and_assoc}
use mathlib.Core.List.{List, [], ◌∷◌}
use native.Mathlib.Omega.{arith}
use lib.ListN.{drop}
use lib.Dec.{eqb, leb}
use borrow.Author.Tests.{leb-true, not-false}
use Rattle.model.specs.Numbers.{le32_at, zeros3_at, starts_with}
use Rattle.model.specs.Tables.{zeros}
use Rattle.model.specs.States.{clients_in, records_in, state_framed, floors_start, state_magic}
use Rattle.model.specs.Limits.{client_count, floor_row, record_count}
use Rattle.model_laws.proofs.Tests.{and_left, joined_all}
use Rattle.state_sound_rows.specs.Parts.{head_framed}

abbrev tests : List ℕ → List Bool
tests s =
    starts_with s state_magic ∷ zeros3_at s 5 ∷ eqb (le32_at s 20) 0 ∷ leb (clients_in s) client_count ∷ leb (records_in s) record_count ∷ []

pub few_clients : (s : List ℕ) {u : Bool} → u ≡ head_framed s → not u ≡ false → clients_in s ≤ client_count
unfolding head_framed
few_clients s {u} p q = leb-true (clients_in s) client_count (joined_all (tests s) (sym p ∙ not-false u q)).1.1.1.0

pub few_records : (s : List ℕ) {u : Bool} → u ≡ head_framed s → not u ≡ false → records_in s ≤ record_count
unfolding head_framed
few_records s {u} p q = leb-true (records_in s) record_count (joined_all (tests s) (sym p ∙ not-false u q)).1.1.1.1.0

-- tests after a run of tests
then : (a b c d e x : Bool) → (a && (b && (c && (d && (e && x))))) ≡ ((a && (b && (c && (d && e)))) && x)
then a b c d e x = rw (and_assoc, and_assoc, and_assoc, and_assoc)

pub framed_is : (s : List ℕ) → state_framed s ≡ (head_framed s && zeros (floor_row * (client_count - clients_in s)) (drop (floors_start + floor_row * clients_in s) s))
unfolding state_framed head_framed
framed_is s =
    then (starts_with s state_magic) (zeros3_at s 5) (eqb (le32_at s 20) 0) (leb (clients_in s) client_count) (leb (records_in s) record_count)
    (zeros (floor_row * (client_count - clients_in s)) (drop (floors_start + floor_row * clients_in s) s))

pub framed_counts : (s : List ℕ) {u : Bool} → u ≡ state_framed s → not u ≡ false → (clients_in s ≤ client_count) × (records_in s ≤ record_count)
framed_counts s {u} p q =
    let rest : Bool = zeros (floor_row * (client_count - clients_in s)) (drop (floors_start + floor_row * clients_in s) s) in
    let h : head_framed s ≡ true = and_left (head_framed s) rest (sym (framed_is s) ∙ sym p ∙ not-false u q) in
    let n : not (head_framed s) ≡ false = ap not h in
    (few_clients s refl n, few_records s refl n)

module _ (s : List ℕ) {u : Bool} (p : u ≡ head_framed s) where
  pub framed_rows : not u ≡ false → {n : ℕ} → n ≡ clients_in s → (v : ℕ) → eqb v 0 ≡ zeros (4 * (2 * (client_count - n))) (drop (floors_start + floor_row * n) s) → eqb v 0 ≡ state_framed s
  framed_rows q {n} a v f = let e : 4 * (2 * (client_count - n)) ≡ floor_row * (client_count - n) = omega arith in sym (framed_is s ∙ rw (← p, not-false u q, ← a, ← e, ← f))
