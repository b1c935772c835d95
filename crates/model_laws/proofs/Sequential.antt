-- The sequential specification: what an entry leaves alone, and what it enters.
--     untouched       points of none of its commands keep their value
--     single-here     the point of a single command has its answer
-- Assumes nothing.
use Prim.Native.Nat.{ℕ}
use mathlib.Core.Path.{◌≡◌, refl, sym}
use mathlib.Core.List.{List, Memᴰ}
use borrow.Author.Tests.{eq-eqb, ne_eqb}
use Rattle.model.specs.declared.PlanEntry.{PlanEntry}
use Rattle.model.specs.Sequential.{Marked, Values, OrderEntry, single, parts, after_z, answer_z, entered, values_with}

pub untouched : (plan : List PlanEntry) (b : Values) (e : OrderEntry) (p : ℕ) → ((m : Marked) → Memᴰ m (parts e) → m.command.point ≡ p → ⊥)
    → values_with plan b e p ≡ b p
unfolding values_with entered parts
untouched plan b (single m) p f = rw (ne_eqb p m.command.point (λ e. f m (Memᴰ.head refl) (sym e)))

pub single-here : (plan : List PlanEntry) (b : Values) (m : Marked) → values_with plan b (single m) m.command.point ≡ after_z (answer_z plan b m)
unfolding values_with entered
single-here plan b m = rw (eq-eqb m.command.point m.command.point refl)
