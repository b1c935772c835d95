-- The changes of one operation, one after the other.
--     stage_start, stage_next           the first buffer; one more change
--     stage_canonical, stage_load, stage_length     what holds of a buffer on the way
--     max-below                         the greater of two numbers below a third
-- Assumes nothing.
use Prim.Native.Nat.{ℕ, zero, suc, ◌*◌, ◌≤◌, ◌<◌, max}
use mathlib.Core.Path.{◌≡◌, sym, ap, ◌∙◌}
use mathlib.Core.List.{List, [], ◌∷◌}
use native.Mathlib.Omega.{arith}
use lib.ListN.{length, get_or}
use lib.Dec.{lit<}
use Rattle.model.specs.declared.Point.{Point}
use Rattle.model.specs.declared.Give.{Give}
use Rattle.model.specs.Numbers.{word}
use Rattle.model.specs.States.{State, load, point_at, no_point}
use Rattle.model.specs.Operations.{stored}
use Rattle.model.specs.Apply.{gave_point, released_point}
use Rattle.model_laws.specs.Bytes.{All}
use Rattle.model_laws.specs.Fits.{StateFits, PointFits}
use Rattle.state_rows.specs.Canonical.{Canonical}
use Rattle.state_rows.proofs.Chains.{canonical-stored, load_stored, stored-stored, stored_fewer, stored_same, length-stored}
use Rattle.server_apply.specs.Stage.{Stage}

pub stage_start : (s : List ℕ) → Canonical s → Stage s s (load s)
stage_start s w = record { long = w.long; is = sym (stored_same s w); fits = w.fits }

module _ {s now : List ℕ} {st : State} (g : Stage s now st) where
  pub stage_load : load now ≡ st
  stage_load = rw g.is (load_stored s g.long st g.fits)

  pub stage_canonical : Canonical now
  stage_canonical = rw g.is (canonical-stored s g.long st g.fits)

  pub stage_length : length now ≡ length s
  stage_length = rw g.is (length-stored s st)

  stage_done : (f : State → State) {next : List ℕ} → next ≡ stored now (f (load now)) → StateFits (f st) → stored (stored s st) (f st) ≡ stored s (f st) → Stage s next (f st)
  stage_done f {next} e h c =
      record {
        long = g.long;
        is = e ∙ ap (λ (x : State). stored now (f x)) stage_load ∙ ap (λ (x : List ℕ). stored x (f st)) g.is ∙ c;
        fits = h;
      }

  -- a change that leaves no row out
  pub stage_next : (f : State → State) {next : List ℕ} → next ≡ stored now (f (load now)) → StateFits (f st) → length st.records ≤ length (f st).records → Stage s next (f st)
  stage_next f e h c = stage_done f e h (stored-stored s st (f st) g.fits h c)

  -- any change, while the rows are those of the first buffer
  pub stage_fewer : Canonical s → st.records ≡ (load s).records → (f : State → State) {next : List ℕ} → next ≡ stored now (f (load now)) → StateFits (f st) → Stage s next (f st)
  stage_fewer w own f e h = stage_done f e h (stored_fewer s w st (f st) g.fits h own)

pub max-below : (a b k : ℕ) → a < k → b < k → max a b < k
max-below a b k p q = omega arith

-- ---- points

point-at-fits : (xs : List Point) (p : ℕ) → All PointFits xs → PointFits (get_or xs p no_point)
point-at-fits [] p a = record { status = lit< tt; quality = lit< tt; destination = lit< tt; value = lit< tt; move_number = lit< tt; taken_move = lit< tt; give_end = lit< tt; take_end = lit< tt }
point-at-fits (x ∷ xs) zero a = a.0
point-at-fits (x ∷ xs) (suc p) a = point-at-fits xs p a.1

pub point-fits : (st : State) (p : ℕ) → StateFits st → PointFits (point_at st p)
unfolding point_at
point-fits st p f = point-at-fits st.points p f.points

pub gave_fits : (g : Give) (end : ℕ) (x : Point) → g.destination < 256 → g.move_number < word → end < word * word → PointFits x → PointFits (gave_point g end x)
unfolding gave_point
gave_fits g end x d n e f =
    record { status = lit< tt; quality = f.quality; destination = d; value = f.value; move_number = n; taken_move = f.taken_move; give_end = e; take_end = f.take_end }

pub released-fits : (x : Point) → PointFits x → PointFits (released_point x)
unfolding released_point
released-fits x f =
    record { status = lit< tt; quality = f.quality; destination = f.destination; value = f.value; move_number = f.move_number; taken_move = f.taken_move; give_end = f.give_end; take_end = f.take_end }
