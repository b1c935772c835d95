-- The rules on numbers kept as x + 2 ^ 31 are the sequential specification's rules over the integers.
--     view             what the integer of a − b is, by its sign
--     le_z_signed       the order is the same
--     sum_signed       the sum
--     diff_signed      the difference, of ordered numbers
--     argument_tie     the range of an op's argument is the same
--     argument_ends    and these are its ends: read and fault 0, part 0 to 1000, others any
--     set_tie, step_tie, report_tie, fault_tie, part_tie     the rule of each op
--     rule_tie         the rule, by the op
-- Assumes nothing.
use Prim.Native.Nat.{ℕ, zero, suc, ◌+◌, ◌-◌, ◌*◌, ◌≤◌, ◌<◌}
use mathlib.Core.Path.{◌≡◌, refl, sym, ap, ◌∙◌, subst}
use mathlib.Core.Bool.{Bool, true, false, ◌&&◌}
use mathlib.Core.Logic.{◌⊎◌, inl, inr, ⊎_elim}
use native.Mathlib.Omega.{arith}
use borrow.Author.Tests.{lt-ltb, le-ltb, le-leb, lt-leb, leb-true, leb-false, ltb-true, ltb-false, eqb-true}
use lib.Dec.{leb, ltb, eqb}
use lib.IntN.{ℤ, pos, negsuc, sub_ℕ, ◌+ℤ◌, ◌-ℤ◌, neg_ℤ}
use lib.Signed.{le_z}
use Rattle.model.specs.Versions.{Version, first, second, third, part_quality}
use Rattle.model.specs.declared.PlanEntry.{PlanEntry}
use Rattle.model.specs.declared.Reading.{Reading}
use Rattle.model.specs.Choice.{pick}
use Rattle.model.specs.Numbers.{half, signed}
use Rattle.model.specs.Plan.{in_range, plan_entry_ok}
use Rattle.model.specs.Rules.{rounded, sum_in_range, end_past, past_end, set_rule, step_rule, report_rule, fault_rule, part_rule, rule_of, argument_range, in_arguments, argument_ok}
use Rattle.model.specs.Sequential.{result_z, entry_z, reading_meant, result_meant, in_range_z, quotient_down, quotient_nearest, rounded_z, read_z, set_z, past_end_z, step_z, report_z, fault_z, part_z, rule_z}
use Rattle.model.specs.Limits.{whole_part, read_op, set_op, step_op, report_op, fault_op, part_op, carried_out, stopped, invalid}
use Rattle.model_laws.proofs.Bounds.{sum_bounds, part_bounds, entry_ordered}

-- ---- a difference of two numbers, as an integer

pub lt-or_ge : (a b : ℕ) → (a < b) ⊎ (b ≤ a)
lt-or_ge a b = go (ltb a b) refl
  where
    go : (t : Bool) → ltb a b ≡ t → (a < b) ⊎ (b ≤ a)
    go true e = inl (ltb-true a b e)
    go false e = inr (ltb-false a b e)

pub sub_pos : (a b : ℕ) → b ≤ a → sub_ℕ a b ≡ pos (a - b)
sub_pos a b h = rw (le-ltb a b h)

pub sub_neg : (a b : ℕ) → a < b → sub_ℕ a b ≡ negsuc (b - suc a)
sub_neg a b h = rw (lt-ltb a b h)

sub-is_pos : (a b n : ℕ) → a ≡ b + n → sub_ℕ a b ≡ pos n
sub-is_pos a b n e = sub_pos a b (omega arith) ∙ ap pos (omega arith)

pub sub-is_neg : (a b n : ℕ) → a + suc n ≡ b → sub_ℕ a b ≡ negsuc n
sub-is_neg a b n e = sub_neg a b (omega arith) ∙ ap negsuc (omega arith)

-- a − b is a number or its opposite
data Sub (a b : ℕ) : ℤ → Type 0 where
  up : (n : ℕ) → a ≡ b + n → Sub a b (pos n)
  down : (n : ℕ) → a + suc n ≡ b → Sub a b (negsuc n)

view : (a b : ℕ) → Sub a b (sub_ℕ a b)
view a b =
    ⊎_elim (λ h. subst (Sub a b) (sym (sub_neg a b h)) (down (b - suc a) (omega arith)))
    (λ h. subst (Sub a b) (sym (sub_pos a b h)) (up (a - b) (omega arith))) (lt-or_ge a b)

leb_same : (a b c d : ℕ) → (a ≤ b → c ≤ d) → (c ≤ d → a ≤ b) → leb a b ≡ leb c d
leb_same a b c d f g = go (leb a b) refl
  where
    go : (t : Bool) → leb a b ≡ t → t ≡ leb c d
    go true e = sym (le-leb c d (f (leb-true a b e)))
    go false e =
        ⊎_elim (λ h. sym (lt-leb c d h)) (λ h. let k : a ≤ b = g h in absurd (let q : b < a = leb-false a b e in omega arith)) (lt-or_ge d c)

le_views : (a b x y : ℕ) {m n : ℤ} → Sub a x m → Sub b y n → le_z m n ≡ leb (a + y) (b + x)
le_views a b x y (up m p) (up n q) = leb_same m n (a + y) (b + x) (λ h. omega arith) (λ h. omega arith)
le_views a b x y (up m p) (down n q) = sym (lt-leb (a + y) (b + x) (omega arith))
le_views a b x y (down m p) (up n q) = sym (le-leb (a + y) (b + x) (omega arith))
le_views a b x y (down m p) (down n q) = leb_same n m (a + y) (b + x) (λ h. omega arith) (λ h. omega arith)

same-sub : (a b c d : ℕ) {m : ℤ} → Sub a b m → a + d ≡ c + b → m ≡ sub_ℕ c d
same-sub a b c d (up n p) e = sym (sub-is_pos c d n (omega arith))
same-sub a b c d (down n p) e = sym (sub-is_neg c d n (omega arith))

add_views : (a b x y : ℕ) {m n : ℤ} → Sub a x m → Sub b y n → m +ℤ n ≡ sub_ℕ (a + b) (x + y)
add_views a b x y (up m p) (up n q) = sym (sub-is_pos (a + b) (x + y) (m + n) (omega arith))
add_views a b x y (up m p) (down n q) = same-sub m (suc n) (a + b) (x + y) (view m (suc n)) (omega arith)
add_views a b x y (down m p) (up n q) = same-sub n (suc m) (a + b) (x + y) (view n (suc m)) (omega arith)
add_views a b x y (down m p) (down n q) = sym (sub-is_neg (a + b) (x + y) (suc (m + n)) (omega arith))

neg_views : (a b : ℕ) {m : ℤ} → Sub a b m → neg_ℤ m ≡ sub_ℕ b a
neg_views a b (up zero p) = sym (sub-is_pos b a 0 (omega arith))
neg_views a b (up (suc n) p) = sym (sub-is_neg b a n (omega arith))
neg_views a b (down n p) = sym (sub-is_pos b a (suc n) (omega arith))

-- ---- the integer that a number stands for

pub le_z_signed : (a b : ℕ) → le_z (signed a) (signed b) ≡ leb a b
unfolding signed
le_z_signed a b =
    le_views a b half half (view a half) (view b half) ∙ leb_same (a + half) (b + half) a b (λ h. omega arith) (λ h. omega arith)

pub sum_signed : (a b : ℕ) → signed a +ℤ signed b ≡ sub_ℕ (a + b) (half + half)
unfolding signed
sum_signed a b = add_views a b half half (view a half) (view b half)

pub sum_kept : (a b : ℕ) → half ≤ a + b → signed (a + b - half) ≡ signed a +ℤ signed b
unfolding signed
sum_kept a b h = same-sub (a + b - half) half (a + b) (half + half) (view (a + b - half) half) (omega arith) ∙ sym (sum_signed a b)

pub low_sum : (l a b : ℕ) → le_z (signed l) (signed a +ℤ signed b) ≡ leb (l + half) (a + b)
unfolding signed
low_sum l a b =
    rw (sum_signed a b)
    (le_views l (a + b) half (half + half) (view l half) (view (a + b) (half + half))
    ∙ leb_same (l + (half + half)) (a + b + half) (l + half) (a + b) (λ h. omega arith) (λ h. omega arith))

pub sum_high : (a b h : ℕ) → le_z (signed a +ℤ signed b) (signed h) ≡ leb (a + b) (h + half)
unfolding signed
sum_high a b h =
    rw (sum_signed a b)
    (le_views (a + b) h (half + half) half (view (a + b) (half + half)) (view h half)
    ∙ leb_same (a + b + half) (h + (half + half)) (a + b) (h + half) (λ k. omega arith) (λ k. omega arith))

pub sum_pos : (a n : ℕ) → signed (a + n) ≡ signed a +ℤ pos n
unfolding signed
sum_pos a n =
    same-sub (a + n) half (a + n) (half + 0) (view (a + n) half) (omega arith)
    ∙ sym (add_views a n half 0 (view a half) (up n (omega arith)))

pub signed_pos : (a : ℕ) → half ≤ a → signed a ≡ pos (a - half)
unfolding signed
signed_pos a h = sub_pos a half h

pub diff_signed : (a b : ℕ) → b ≤ a → signed a -ℤ signed b ≡ pos (a - b)
unfolding signed
diff_signed a b h =
    rw (neg_views b half (view b half))
    (add_views a half half b (view a half) (view half b) ∙ sub-is_pos (a + half) (half + b) (a - b) (omega arith))

-- ---- the arguments

pub argument_tie : (op a : ℕ) → argument_ok op a ≡ (le_z (signed (argument_range op).least) (signed a) && le_z (signed a) (signed (argument_range op).greatest))
unfolding argument_ok in_arguments
argument_tie op a = rw (le_z_signed (argument_range op).least a, le_z_signed a (argument_range op).greatest)

-- the ends of an op's argument
abbrev ends : ℕ → ℤ → ℤ → Type 0
ends op l h = (signed (argument_range op).least ≡ l) × (signed (argument_range op).greatest ≡ h)

pub argument_ends : ends read_op (pos 0) (pos 0) × ends set_op (negsuc 2147483647) (pos 2147483647) × ends step_op (negsuc 2147483647) (pos 2147483647)
    × ends report_op (negsuc 2147483647) (pos 2147483647) × ends fault_op (pos 0) (pos 0) × ends part_op (pos 0) (pos whole_part)
unfolding signed argument_range
argument_ends = ((refl, refl), (refl, refl), (refl, refl), (refl, refl), (refl, refl), (refl, refl))

-- ---- the rules

-- a function of a choice, and a choice by an equal test, whose sides agree
pub pick_tie : {A B : Type 0} (f : A → B) (t u : Bool) {x y : A} {v w : B}
    → t ≡ u → (t ≡ true → f x ≡ v) → (t ≡ false → f y ≡ w) → f (pick t x y) ≡ pick u v w
pick_tie f true true e p q = p refl
pick_tie f true false e p q = cc
pick_tie f false true e p q = cc
pick_tie f false false e p q = q refl

rounded_tie : (v : Version) (m n : ℕ) → pos (rounded v m n) ≡ rounded_z v (pos m) n
unfolding rounded_z quotient_down quotient_nearest
rounded_tie first m n = refl
rounded_tie second m n = refl
rounded_tie third m n = refl

module _ (e : PlanEntry) where
  range_tie : (a : ℕ) → in_range e a ≡ in_range_z (entry_z e) (signed a)
  unfolding in_range in_range_z entry_z
  range_tie a = rw (le_z_signed e.low a, le_z_signed a e.high)

  sum_tie : (v a : ℕ) → sum_in_range e v a ≡ in_range_z (entry_z e) (signed v +ℤ signed a)
  unfolding sum_in_range in_range_z entry_z
  sum_tie v a = rw (low_sum, sum_high)

  pub set_tie : (n : Version) (a : ℕ) (r : Reading) → result_meant (set_rule n e a r) ≡ set_z n (entry_z e) (signed a) (reading_meant r)
  unfolding result_meant set_rule set_z reading_meant
  set_tie n a r = pick_tie result_meant (in_range e a) (in_range_z (entry_z e) (signed a)) (range_tie a) (λ h. refl) (λ h. refl)

  pub report_tie : (a : ℕ) (r : Reading) → result_meant (report_rule e a r) ≡ report_z (entry_z e) (signed a)
  unfolding result_meant report_rule report_z entry_z
  report_tie a r = pick_tie result_meant (in_range e a) (in_range_z (entry_z e) (signed a)) (range_tie a) (λ h. refl) (λ h. refl)

  pub fault_tie : result_meant (fault_rule e) ≡ fault_z (entry_z e)
  unfolding result_meant fault_rule fault_z entry_z
  fault_tie = refl

  end_tie : (v a : ℕ) → signed (end_past e v a) ≡ pick (le_z (entry_z e).low (signed v +ℤ signed a)) (entry_z e).high (entry_z e).low
  unfolding entry_z
  end_tie v a =
      pick_tie signed (leb (e.low + half) (v + a)) (le_z (signed e.low) (signed v +ℤ signed a)) (sym (low_sum e.low v a)) (λ h. refl) (λ h. refl)

  past_tie : (n : Version) (a : ℕ) (r : Reading)
      → result_meant (past_end n e a r) ≡ past_end_z n (entry_z e) (signed r.value +ℤ signed a) (reading_meant r)
  unfolding result_meant past_end_z reading_meant
  past_tie first a r = refl
  past_tie second a r = ap (λ (v : ℤ). result_z stopped v r.quality) (end_tie r.value a)
  past_tie third a r = ap (λ (v : ℤ). result_z stopped v r.quality) (end_tie r.value a)

  pub step_tie : (n : Version) (a : ℕ) (r : Reading) → result_meant (step_rule n e a r) ≡ step_z n (entry_z e) (signed a) (reading_meant r)
  unfolding result_meant step_rule step_z reading_meant
  step_tie n a r =
      pick_tie result_meant (eqb r.quality invalid) (eqb r.quality invalid) refl (λ h. refl)
      (λ h. pick_tie result_meant (sum_in_range e r.value a) (in_range_z (entry_z e) (signed r.value +ℤ signed a)) (sum_tie r.value a)
      (λ k. let b = sum_bounds e r.value a k in ap (λ (v : ℤ). result_z carried_out v r.quality) (sum_kept r.value a (omega arith)))
      (λ k. past_tie n a r))

  pub part_tie : (n : Version) (a : ℕ) → e.low ≤ e.high → half ≤ a → result_meant (part_rule n e a) ≡ part_z n (entry_z e) (signed a)
  unfolding result_meant part_rule part_z entry_z
  part_tie n a h k =
      let m = (e.high - e.low) * (a - half) in
      rw (diff_signed e.high e.low h, signed_pos a k)
      (ap (λ (v : ℤ). result_z carried_out v (part_quality n)) (sum_pos e.low (rounded n m whole_part) ∙ ap (λ (q : ℤ). signed e.low +ℤ q) (rounded_tie n m whole_part)))

  -- for every op: read, and ops that no command has, change nothing in both
  pub rule_tie : (v : Version) (op a : ℕ) (r : Reading) → plan_entry_ok e ≡ true → argument_ok op a ≡ true
      → result_meant (rule_of v e op a r) ≡ rule_z v (entry_z e) op (signed a) (reading_meant r)
  unfolding rule_of rule_z read_z result_meant reading_meant
  rule_tie n op a r ok h =
      pick_tie result_meant (eqb op read_op) (eqb op read_op) refl (λ k. refl)
      (λ k. pick_tie result_meant (eqb op set_op) (eqb op set_op) refl (λ k. set_tie n a r)
      (λ k. pick_tie result_meant (eqb op step_op) (eqb op step_op) refl (λ k. step_tie n a r)
      (λ k. pick_tie result_meant (eqb op report_op) (eqb op report_op) refl (λ k. report_tie a r)
      (λ k. pick_tie result_meant (eqb op fault_op) (eqb op fault_op) refl (λ k. fault_tie)
      (λ k. pick_tie result_meant (eqb op part_op) (eqb op part_op) refl (λ k. part k) (λ k. refl))))))
    where
      part : eqb op part_op ≡ true → result_meant (part_rule n e a) ≡ part_z n (entry_z e) (signed a)
      part k =
          let b = entry_ordered e ok in
          part_tie n a (omega arith) (part_bounds a (subst (λ (n : ℕ). argument_ok n a ≡ true) (eqb-true op part_op k) h)).0
