-- Places of an order, and the values at them.
--     place_in, place_of_lem      an entry of an order has a place
--     one-command, part_of, is-part, its-commands    an entry has one command
--     one_place               an id has one place;  before-places   what stands before has the lesser place
--     values-step, values-past    the values one place on
--     answered                a result is the answer at a place
--     other-value             an entry leaves other points
--     read_opens-none         a read is no opening
--     gate_value              a value 0 stays under read, set and part, but for an opening
--     read_value              a read answers the value
-- Assumes nothing.
use Prim.Native.Nat.{ℕ, zero, suc, ◌<◌}
use mathlib.Core.Path.{◌≡◌, refl, sym, ◌∙◌, ap, subst}
use mathlib.Core.Bool.{Bool, true, false, ◌||◌}
use mathlib.Core.List.Memᴰ
use mathlib.Core.List.{List, [], ◌∷◌}
use mathlib.Core.Logic.{◌⊎◌, inl, inr}
use mathlib.Core.Option.{none, some}
use native.Mathlib.Omega.{arith}
use lib.Dec.{eqb}
use lib.IntN.{pos}
use lib.ListN.{take, get_elem?}
use borrow.Author.Tests.{eqb-true, eqb-false, ne_eqb}
use Rattle.model.specs.declared.PlanEntry.{PlanEntry}
use Rattle.model.specs.declared.Command.{Command}
use Rattle.model.specs.declared.CommandResult.{CommandResult}
use Rattle.model.specs.Numbers.{half, signed}
use Rattle.model.specs.Plan.{entry_at}
use Rattle.model.specs.Limits.{read_op, set_op, part_op}
use Rattle.model.specs.Sequential.{Marked, OrderEntry, single, parts, commands, EntryResult, one, ResultZ, EntryZ, ReadingZ, Values, result_meant, after_z, entry_z, in_range_z, set_z, read_z, rule_z}
use Rattle.model.specs.Sequential.{answer_z, answer_to, values_with, values_after, Answers, here, later}
use Rattle.model_laws.proofs.Tests.{choose, impossible}
use Rattle.model_laws.proofs.Sequential.{untouched, single-here}
use Rattle.claim.specs.Claim.{◌∈◌, Once, none_left, one_more, Before}
use Rattle.claim.specs.Claim as Claim
use Rattle.chamber_claim.specs.Chamber.{is_opening}

-- ---- places

-- m stands at the place k
abbrev pub Stands : List OrderEntry → ℕ → Marked → Type 0
Stands order k m = get_elem? order k ≡ some (single m)

pub place_of_lem : {A : Type 0} (l : List A) (k : ℕ) (a : A) → get_elem? l k ≡ some a → a ∈ l
place_of_lem [] k a e = impossible cc
place_of_lem (x ∷ l) zero a e = let q : a ≡ x = cc in Memᴰ.head q
place_of_lem (x ∷ l) (suc k) a e = Memᴰ.tail (place_of_lem l k a e)

pub place_in : {A : Type 0} (l : List A) (a : A) → a ∈ l → (k : ℕ) × (get_elem? l k ≡ some a)
place_in [] a m = absurd (Memᴰ.not-nil m)
place_in {A} (x ∷ l) a m = go (Memᴰ.cases_cons m) (λ j. place_in l a j)
  where
    go : (a ≡ x) ⊎ (a ∈ l) → (a ∈ l → (k : ℕ) × (get_elem? l k ≡ some a)) → (k : ℕ) × (get_elem? (x ∷ l) k ≡ some a)
    go (inl e) ih = (0, ap some (sym e))
    go (inr j) ih = let h = ih j in (suc h.0, h.1)

-- the entry of one command
pub one-command : (e : OrderEntry) (k : Command) → commands e ≡ k ∷ [] → (m : Marked) × (e ≡ single m) × (m.command ≡ k)
unfolding commands parts
one-command (single m) k e = (m, refl, let q : m.command ≡ k = cc in q)

pub part_of : (m j : Marked) → j ∈ parts (single m) → j ≡ m
unfolding parts
part_of m j h = Memᴰ.eq_of_singleton h

pub is-part : (m : Marked) → m ∈ parts (single m)
unfolding parts
is-part m = Memᴰ.head refl

pub its-commands : (m : Marked) → m.command ∷ [] ≡ commands (single m)
unfolding commands parts
its-commands m = refl

pub one_place : {order : List OrderEntry} → Once order → (i j : ℕ) (k m : Marked) → Stands order i k → Stands order j m
    → k.command.client ≡ m.command.client → k.command.call ≡ m.command.call → i ≡ j
one_place none_left i j k m e f c n = impossible cc
one_place (one_more f o) zero zero k m p q c n = refl
one_place (one_more {e = e} {es = es} f o) zero (suc j) k m p q c n =
    let h : e ≡ single k = cc in absurd (f (single m) m k (place_of_lem es j (single m) q) (is-part m) (subst (λ (z : OrderEntry). k ∈ parts z) (sym h) (is-part k)) (sym c) (sym n))
one_place (one_more {e = e} {es = es} f o) (suc i) zero k m p q c n =
    let h : e ≡ single m = cc in absurd (f (single k) k m (place_of_lem es i (single k) p) (is-part k) (subst (λ (z : OrderEntry). m ∈ parts z) (sym h) (is-part m)) c n)
one_place (one_more f o) (suc i) (suc j) k m p q c n = ap suc (one_place o i j k m p q c n)

before_at : {A : Type 0} {a b : A} {l : List A} → Before a b l → (i : ℕ) × (j : ℕ) × (get_elem? l i ≡ some a) × (get_elem? l j ≡ some b) × (i < j)
before_at {b = b} (Claim.first {es = es} m) = let h = place_in es b m in (0, suc h.0, refl, h.1, omega arith)
before_at (Claim.later h) = let k = before_at h in (suc k.0, suc k.1, k.2, k.3, omega (arith, k.4))

pub before-places : {order : List OrderEntry} → Once order → (i j : ℕ) (k m : Marked) → Stands order i k → Stands order j m → Before (single k) (single m) order → i < j
before-places o i j k m p q b =
    let h = before_at b in
    let u = one_place o i h.0 k k p h.2 refl refl in
    let v = one_place o j h.1 m m q h.3 refl refl in
    omega (arith, h.4)

-- ---- the values at a place

-- read, set or part
abbrev pub GateOp : ℕ → Type 0
GateOp op = (eqb op read_op || (eqb op set_op || eqb op part_op)) ≡ true

-- a part, and a set but to 0, is an opening; a read is none
part-opens : (op a : ℕ) → op ≡ part_op → is_opening op a ≡ true
unfolding is_opening
part-opens op a e = rw e refl

set-opens : (op a : ℕ) → op ≡ set_op → (a ≡ half → ⊥) → is_opening op a ≡ true
unfolding is_opening
set-opens op a e f = rw (e, ne_eqb a half f) refl

pub read_opens-none : (op a : ℕ) → op ≡ read_op → is_opening op a ≡ true → ⊥
unfolding is_opening
read_opens-none op a e h = let k : false ≡ true = rw e at h in impossible cc

module _ (plan : List PlanEntry) where
  pub values-step : (b : Values) (order : List OrderEntry) (k : ℕ) (e : OrderEntry) → get_elem? order k ≡ some e
      → values_after plan b (take (suc k) order) ≡ values_with plan (values_after plan b (take k order)) e
  unfolding values_after
  values-step b [] k e h = impossible cc
  values-step b (x ∷ order) zero e h = ap (values_with plan b) (let q : x ≡ e = cc in q)
  values-step b (x ∷ order) (suc k) e h = values-step (values_with plan b x) order k e h

  pub values-past : (b : Values) (order : List OrderEntry) (k : ℕ) → get_elem? order k ≡ none → values_after plan b (take (suc k) order) ≡ values_after plan b (take k order)
  unfolding values_after
  values-past b [] zero h = refl
  values-past b [] (suc k) h = refl
  values-past b (x ∷ order) zero h = impossible cc
  values-past b (x ∷ order) (suc k) h = values-past (values_with plan b x) order k h

  pub answered : {b : Values} {order : List OrderEntry} {ks : List Command} {r : EntryResult} → Answers plan b order ks r
      → (k : ℕ) × (e : OrderEntry) × (get_elem? order k ≡ some e) × (commands e ≡ ks) × (answer_to plan (values_after plan b (take k order)) e ≡ r)
  unfolding values_after
  answered (here {e = e}) = (0, e, refl, refl, refl)
  answered (later a) = let h = answered a in (suc h.0, h.1, h.2, h.3, h.4)

  module _ (b : Values) (m : Marked) where
    pub other-value : (p : ℕ) → (m.command.point ≡ p → ⊥) → values_with plan b (single m) p ≡ b p
    other-value p f = untouched plan b (single m) p (λ j h e. f (ap (λ (z : Marked). z.command.point) (sym (part_of m j h)) ∙ e))

    rule_value : (e : EntryZ) (r : ReadingZ) → GateOp m.command.op → is_opening m.command.op m.command.argument ≡ false → r.value ≡ pos 0
        → (rule_z m.version e m.command.op (signed m.command.argument) r).value ≡ pos 0
    unfolding rule_z read_z set_z signed
    rule_value e r g n z = go (eqb m.command.op read_op) refl (eqb m.command.op set_op) refl (eqb m.command.op part_op) refl (eqb m.command.argument half) refl g
      where
        no_opening : {A : Type 0} → is_opening m.command.op m.command.argument ≡ true → A
        no_opening h = let k : true ≡ false = sym h ∙ n in impossible cc

        go : (u : Bool) → eqb m.command.op read_op ≡ u → (v : Bool) → eqb m.command.op set_op ≡ v → (w : Bool) → eqb m.command.op part_op ≡ w → (t : Bool)
            → eqb m.command.argument half ≡ t → (u || (v || w)) ≡ true → (rule_z m.version e m.command.op (signed m.command.argument) r).value ≡ pos 0
        go true p v q w x t y k = rw p z
        go false p true q w x true y k = rw (p, q, eqb-true m.command.argument half y) (choose (λ (a : ResultZ). a.value ≡ pos 0) (in_range_z e (pos 0)) (λ _. refl) (λ _. z))
        go false p true q w x false y k = no_opening (set-opens _ _ (eqb-true _ _ q) (eqb-false _ _ y))
        go false p false q true x t y k = no_opening (part-opens _ _ (eqb-true _ _ x))
        go false p false q false x t y k = impossible cc

    pub gate_value : (p : ℕ) → (m.command.point ≡ p → GateOp m.command.op) → (b p).value ≡ pos 0
        → ((values_with plan b (single m) p).value ≡ pos 0) ⊎ ((m.command.point ≡ p) × (is_opening m.command.op m.command.argument ≡ true))
    unfolding after_z answer_z
    gate_value p g z = go (eqb m.command.point p) refl (is_opening m.command.op m.command.argument) refl
      where
        go : (u : Bool) → eqb m.command.point p ≡ u → (v : Bool) → is_opening m.command.op m.command.argument ≡ v
            → ((values_with plan b (single m) p).value ≡ pos 0) ⊎ ((m.command.point ≡ p) × (is_opening m.command.op m.command.argument ≡ true))
        go false e v f = inl (ap (λ (r : ReadingZ). r.value) (other-value p (eqb-false _ _ e)) ∙ z)
        go true e true f = inr (eqb-true _ _ e, f)
        go true e false f =
            let h : m.command.point ≡ p = eqb-true _ _ e in
            inl (subst (λ (q : ℕ). (values_with plan b (single m) q).value ≡ pos 0) h
            (rw (single-here plan b m) (rule_value (entry_z (entry_at plan m.command.point)) (b m.command.point) (g h) f (ap (λ (q : ℕ). (b q).value) h ∙ z))))

    pub read_value : (r : CommandResult) → m.command.op ≡ read_op → answer_to plan b (single m) ≡ one (result_meant r) → r.value ≡ half → (b m.command.point).value ≡ pos 0
    unfolding answer_to answer_z rule_z read_z result_meant signed
    read_value r o e h =
        let q : answer_z plan b m ≡ result_meant r = cc in
        let k : read_z (b m.command.point) ≡ answer_z plan b m = rw o refl in
        ap (λ (a : ResultZ). a.value) (k ∙ q) ∙ rw h refl
