-- A record that stays by a rule.
--     stays-over, stays_of_other, stays_on_other, stays-over-floors     each rule is the model's
--     clients-within, floor-stays      the rule by the state's own floors, as it is tested
--     row_free                         a record that stays has a row
--     over-kept                        where all are over a floor, none goes for one that is not above it
-- Assumes nothing.
use Prim.Native.Nat.{ℕ, ◌+◌, ◌*◌, ◌≤◌, ◌<◌}
use mathlib.Core.Path.{◌≡◌, refl, sym, ap, ◌∙◌}
use mathlib.Core.Bool.{Bool, true, false, ◌||◌, not}
use mathlib.Core.List.{List, [], ◌∷◌}
use native.Mathlib.Omega.{arith}
use lib.ListN.{length, drop}
use lib.Dec.{eqb, leb}
use borrow.Author.Tests.{le-leb, leb-true}
use Rattle.model.specs.declared.Floor.{Floor}
use Rattle.model.specs.declared.Completion.{Completion}
use Rattle.model.specs.Limits.{floor_row, client_count, record_count}
use Rattle.model.specs.Tables.{rows, every, keep}
use Rattle.model.specs.Images.{floor_of, floor_of_bytes}
use Rattle.model.specs.States.{load, state_end, clients_in, floors_start}
use Rattle.model.specs.Apply.{stays_over, stays_over_floors, is_of_other, is_on_other}
use Rattle.model.specs.Operations.{stored}
use Rattle.model_laws.specs.Layout.{with_records}
use Rattle.model_laws.proofs.Tables.{keep_all, every_imp}
use Rattle.state_rows.specs.Canonical.{Canonical}
use Rattle.state_rows.proofs.Access.{floors-count}
use Rattle.state_rows.proofs.Chains.{stored_same}
use Rattle.state_records.specs.declared.Rule.TheVariants.{OverFloor, OfOther, OnOther}
use Rattle.state_records.specs.Rules.{stays_by}

-- ---- the rules

module _ (fs : List Floor) where
  pub stays-over : (x n : ℕ) → stays_by (OverFloor x n) fs ≡ stays_over x n
  unfolding stays_by
  stays-over x n = refl

  pub stays_of_other : (x : ℕ) → stays_by (OfOther x) fs ≡ is_of_other x
  unfolding stays_by
  stays_of_other x = refl

  pub stays_on_other : (p : ℕ) → stays_by (OnOther p) fs ≡ is_on_other p
  unfolding stays_by
  stays_on_other p = refl

-- ---- the state's own floors

pub clients-within : (s : List ℕ) {n : ℕ} → state_end ≤ length s → clients_in s ≤ client_count → n ≡ length (load s).floors → floors_start + floor_row * n ≤ length s
clients-within s l h e = omega (arith, floors-count s)

pub floor-stays : (s : List ℕ) (r : Completion) {n f : ℕ} → n ≡ length (load s).floors → f ≡ floor_of r.command.client (rows floor_of_bytes floor_row n (drop floors_start s))
    → leb f r.command.call ≡ stays_over_floors (load s).floors r
unfolding stays_over_floors
floor-stays s r {n} {f} e p = rw (p, e ∙ floors-count s) (unfold load in refl)

-- ---- a row for a record that stays

pub row_free : (t : Completion → Bool) (r : Completion) {u : Bool} {j : ℕ} → u ≡ t r → j + length (keep t (r ∷ [])) ≤ record_count → u ≡ true → j < record_count
unfolding keep
row_free t r {u} {j} e h q =
    let one : length (keep t (r ∷ [])) ≡ 1 = rw (sym e ∙ q) in
    omega arith

-- ---- a floor that does not rise

over_less : (x old n : ℕ) → n ≤ old → (r : Completion) → stays_over x old r ≡ true → stays_over x n r ≡ true
unfolding stays_over
over_less x old n h r = go (not (eqb r.command.client x))
  where
    go : (b : Bool) → (b || leb old r.command.call) ≡ true → (b || leb n r.command.call) ≡ true
    go true e = refl
    go false e = le-leb n r.command.call (omega (arith, leb-true old r.command.call e))

pub over-kept : {s : List ℕ} → Canonical s → (x : ℕ) {old n : ℕ} → every (stays_over x old) (load s).records ≡ true → n ≤ old
    → s ≡ stored s (with_records (keep (stays_over x n) (load s).records) (load s))
unfolding with_records
over-kept {s} w x {old} {n} e h =
    sym (ap (λ (rs : List Completion). stored s (with_records rs (load s))) (keep_all (stays_over x n) (load s).records
    (every_imp (stays_over x old) (stays_over x n) (over_less x old n h) (load s).records e)) ∙ stored_same s w)
