-- The points against the plan.
--     point-parts     point_ok in the order of the code: the fields that are tested alone, then what the status asks for
--     points-start, points-next, points-false, points-true     a loop that walks both tables
-- Assumes nothing.
use Prim.Native.Nat.{ℕ, zero, suc, ◌+◌, ◌-◌, ◌*◌, ◌≤◌, ◌<◌}
use mathlib.Core.Path.{◌≡◌, refl, sym, ◌∙◌}
use mathlib.Core.Bool.{Bool, true, false, ◌&&◌, not, and_assoc, and-true, and-false}
use mathlib.Core.List.{List, [], ◌∷◌}
use native.Mathlib.Omega.{arith}
use native.Mathlib.Nat.{add-zero}
use lib.ListN.{drop}
use lib.Dec.{eqb, leb}
use borrow.Author.Tests.{ne_eqb, le-leb, le-ltb, not-true, not-false}
use Rattle.model.specs.declared.PlanEntry.{PlanEntry}
use Rattle.model.specs.declared.Point.{Point}
use Rattle.model.specs.Choice.{pick}
use Rattle.model.specs.Tables.{rows, every_row}
use Rattle.model.specs.Plan.{plan_entry_of, plan_row_ok}
use Rattle.model.specs.States.{absent, held, point_of, end_ok, ends_in_order, not_given, origin_ok, absent_ok, held_ok, given_ok, status_ok, point_ok, points_ok, point_row_ok, point_row}
use Rattle.model.specs.Limits.{invalid, head_size, point_count, plan_row}
use Rattle.model_laws.proofs.Tests.{and_left, joined_all}
use Rattle.model_laws.proofs.Tables.{rows-cons, every_row-cons}
use Rattle.state_sound_rows.specs.Parts.{is_end, held_move, given_move, origin, status_and_ends, fields_in, row_ok, rows_ok}

-- ---- tests in another order

and-and-false : (a b : Bool) → (a && (b && false)) ≡ false
and-and-false true b = and-false b
and-and-false false b = refl

-- tests that a third one implies
implied : (p q a : Bool) → (a ≡ true → p ≡ true) → (a ≡ true → q ≡ true) → (p && (q && a)) ≡ a
implied p q true f g = rw (f refl, g refl)
implied p q false f g = and-and-false p q

-- the first two of a chain behind the next ones
behind : (g t a b o : Bool) → (g && (t && (a && (b && o)))) ≡ ((a && (b && g)) && (t && o))
behind g t true true o = refl
behind g t true false o = and-and-false g t
behind g t false b o = and-and-false g t

behind_3 : (g t a b c o : Bool) → (g && (t && (a && (b && (c && o))))) ≡ ((a && (b && (c && g))) && (t && o))
behind_3 g t true b c o = behind g t b c o
behind_3 g t false b c o = and-and-false g t

-- the first tests of three chains before their others
firsts : (a b c x y z : Bool) → ((a && x) && ((b && y) && (c && z))) ≡ ((a && (b && c)) && (x && (y && z)))
firsts true true true x y z = refl
firsts true true false x y z = and-and-false x y
firsts true false c x y z = and-false x
firsts false b c x y z = refl

-- ---- the tests of a point's ends, beside those that its status asks for

module _ (size : ℕ) where
  no_end : (end : ℕ) → eqb end 0 ≡ true → end_ok size end ≡ true
  unfolding end_ok
  no_end end e = rw e

  none_end : (d : Bool) (end : ℕ) → ((d && eqb end 0) && end_ok size end) ≡ (d && eqb end 0)
  none_end true end = step (eqb end 0) refl
    where
      step : (b : Bool) → eqb end 0 ≡ b → (eqb end 0 && end_ok size end) ≡ eqb end 0
      step true e = rw (e, no_end end e)
      step false e = rw e
  none_end false end = refl

  some_end : (end : ℕ) → (end_ok size end && leb 1 end) ≡ is_end size end
  unfolding end_ok
  some_end zero = refl
  some_end (suc end) = rw (ne_eqb (suc end) 0 (λ e. omega arith), le-leb 1 (suc end) (omega arith)) (and-true (is_end size (suc end)))

  later-end : (t end : ℕ) → (ends_in_order t end && end_ok size end) ≡ (ends_in_order t end && is_end size end)
  unfolding end_ok ends_in_order
  later-end t zero = rw (le-ltb t 0 (omega arith), ne_eqb 0 head_size (λ e. omega arith), and-false (eqb t head_size))
  later-end t (suc end) = rw (ne_eqb (suc end) 0 (λ e. omega arith))

module _ (server size : ℕ) (e : PlanEntry) (x : Point) where
  absent_ends : (end_ok size x.give_end && (end_ok size x.take_end && absent_ok server e x)) ≡ absent_ok server e x
  unfolding absent_ok not_given
  absent_ends =
      let tests : List Bool =
      not (eqb e.home server) ∷ eqb x.value e.fallback ∷ eqb x.quality invalid ∷ eqb x.move_number 0 ∷ eqb x.taken_move 0 ∷ eqb x.take_end 0 ∷ eqb x.destination
      0 ∷ eqb x.give_end 0 ∷ [] in
      implied (end_ok size x.give_end) (end_ok size x.take_end) (absent_ok server e x)
      (λ h. no_end size x.give_end (joined_all tests h).1.1.1.1.1.1.1.0)
      (λ h. no_end size x.take_end (joined_all tests h).1.1.1.1.1.0)

  origin-end : (end_ok size x.take_end && origin_ok server e x) ≡ origin server size e x
  unfolding origin_ok origin
  origin-end = step (eqb x.taken_move 0)
    where
      step : (b : Bool) → (end_ok size x.take_end && pick b (eqb x.take_end 0 && eqb e.home server) (leb 1 x.take_end))
          ≡ pick b (eqb x.take_end 0 && eqb e.home server) (is_end size x.take_end)
      step true = implied (end_ok size x.take_end) true (eqb x.take_end 0 && eqb e.home server)
          (λ h. no_end size x.take_end (and_left (eqb x.take_end 0) (eqb e.home server) h)) (λ h. refl)
      step false = some_end size x.take_end

  held_ends : (end_ok size x.give_end && (end_ok size x.take_end && held_ok server e x)) ≡ (held_move x && origin server size e x)
  unfolding held_ok held_move not_given
  held_ends =
      behind (end_ok size x.give_end) (end_ok size x.take_end) (eqb x.move_number x.taken_move) (not_given x) (origin_ok server e x)
      ∙ rw (none_end size (eqb x.destination 0) x.give_end, origin-end)

  given_ends : (end_ok size x.give_end && (end_ok size x.take_end && given_ok server e x)) ≡ (given_move server size x && origin server size e x)
  unfolding given_ok given_move
  given_ends =
      behind_3 (end_ok size x.give_end) (end_ok size x.take_end) (eqb x.move_number (suc x.taken_move)) (not (eqb x.destination server)) (ends_in_order x.take_end x.give_end)
      (origin_ok server e x)
      ∙ rw (later-end size x.take_end x.give_end, origin-end)

  status_ends : (end_ok size x.give_end && (end_ok size x.take_end && status_ok server e x)) ≡ status_and_ends server size e x
  unfolding status_ok status_and_ends
  status_ends = step (eqb x.status absent) (eqb x.status held)
    where
      step : (b d : Bool) → (end_ok size x.give_end && (end_ok size x.take_end && pick b (absent_ok server e x) (pick d (held_ok server e x) (given_ok server e x))))
          ≡ pick b (absent_ok server e x) (pick d (held_move x) (given_move server size x) && origin server size e x)
      step true d = absent_ends
      step false true = held_ends
      step false false = given_ends

  pub point-parts : point_ok server size e x ≡ (fields_in e x && status_and_ends server size e x)
  unfolding point_ok fields_in
  point-parts = rw (status_ends, and_assoc, and_assoc, and_assoc)

-- ---- both tables

-- the rows from i on decide the answer y
pub record PointsOpen (server size j k : ℕ) (y : Bool) (s : List ℕ) (n i : ℕ) : Type 0 where
  pub below : i ≤ n
  pub rest : y
      ≡ (every_row plan_row_ok plan_row (n - i) (drop (j + plan_row * i) s)
      && (every_row point_row_ok point_row (n - i) (drop (k + point_row * i) s)
      && points_ok server size (rows plan_entry_of plan_row (n - i) (drop (j + plan_row * i) s)) (rows point_of point_row (n - i) (drop (k + point_row * i) s))))

pub points-start : (server size j k : ℕ) (s : List ℕ) → PointsOpen server size j k (rows_ok server size (drop j s) (drop k s)) s point_count 0
unfolding rows_ok
points-start server size j k s = record { below = omega arith; rest = rw (add-zero, add-zero) }

module _ {server size j k : ℕ} {y : Bool} {s : List ℕ} {n i : ℕ} (o : PointsOpen server size j k y s n i) where
  pub points-true : n ≤ i → true ≡ y
  unfolding points_ok rows every_row
  points-true h = let e : n - i ≡ 0 = omega arith in sym (o.rest ∙ rw e)

  module _ {u : Bool} (h : i < n) (p : u ≡ row_ok server size (drop (j + plan_row * i) s) (drop (k + point_row * i) s)) where
    abbrev plan-at : List ℕ
    plan-at = drop (j + plan_row * i) s

    abbrev point_at_lem : List ℕ
    point_at_lem = drop (k + point_row * i) s

    step : y
        ≡ (u && (every_row plan_row_ok plan_row (n - (i + 1)) (drop (j + plan_row * (i + 1)) s)
        && (every_row point_row_ok point_row (n - (i + 1)) (drop (k + point_row * (i + 1)) s)
        && points_ok server size (rows plan_entry_of plan_row (n - (i + 1)) (drop (j + plan_row * (i + 1)) s)) (rows point_of point_row (n - (i + 1)) (drop (k + point_row * (i + 1)) s)))))
    unfolding points_ok row_ok
    step =
        o.rest
        ∙ rw (every_row-cons plan_row_ok plan_row s j i n h, every_row-cons point_row_ok point_row s k i n h, rows-cons plan_entry_of plan_row s j i n h, rows-cons point_of point_row s k i n h, p)
        (firsts (plan_row_ok plan-at) (point_row_ok point_at_lem) (point_ok server size (plan_entry_of plan-at) (point_of point_at_lem))
        (every_row plan_row_ok plan_row (n - (i + 1)) (drop (j + plan_row * (i + 1)) s))
        (every_row point_row_ok point_row (n - (i + 1)) (drop (k + point_row * (i + 1)) s))
        (points_ok server size (rows plan_entry_of plan_row (n - (i + 1)) (drop (j + plan_row * (i + 1)) s)) (rows point_of point_row (n - (i + 1)) (drop (k + point_row * (i + 1)) s))))

    pub points-next : not u ≡ false → PointsOpen server size j k y s n (i + 1)
    points-next q = record { below = omega arith; rest = rw (not-false u q) at step }

    pub points-false : not u ≡ true → false ≡ y
    points-false q = sym (rw (not-true u q) at step)
