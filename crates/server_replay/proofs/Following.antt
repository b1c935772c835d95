-- One record replayed.
--     replayed_no, replayed_yes     one that does not follow, and one that does
--     gave-tests                    a give in range
-- Assumes nothing.
use Prim.Native.Nat.{ℕ, ◌+◌, ◌≤◌}
use mathlib.Core.Path.{◌≡◌, sym, ◌∙◌}
use mathlib.Core.Bool.{Bool, true, false, ◌&&◌, not}
use mathlib.Core.List.{List}
use native.Mathlib.Numerals.{add-one}
use lib.Dec.{eqb}
use borrow.Author.Tests.{le-ltb, not-true, not-false}
use Rattle.model.specs.declared.Give.{Give}
use Rattle.model.specs.Limits.{last_point, last_server, give_size}
use Rattle.model.specs.Logs.{LogRecord, gave}
use Rattle.model.specs.States.{State, load, point_at}
use Rattle.model.specs.Apply.{apply_record}
use Rattle.model.specs.Decisions.{places_bad, give_refusal, follows}
use Rattle.model.specs.Operations.{stored}
use Rattle.model.specs.Choice.{passed}
use Rattle.server_replay.specs.Standing.{replayed, ReplayedBy}

-- a give in range
pub gave-tests : (st : State) (g : Give) → g.point ≤ last_point → g.destination ≤ last_server
    → (eqb (give_refusal (point_at st g.point) st.server give_size g.destination) passed && eqb g.move_number ((point_at st g.point).move_number + 1)) ≡ follows st (gave g)
unfolding follows places_bad
gave-tests st g p d = rw (le-ltb last_point g.point p, le-ltb last_server g.destination d, add-one)

-- a record of which a test t says whether it follows
module _ (s : List ℕ) (r : LogRecord) (end : ℕ) {t : Bool} (e : t ≡ follows (load s) r) where
  pub replayed_no : not t ≡ true → ReplayedBy r end s s false
  unfolding replayed
  replayed_no p = let no : t ≡ false = not-true t p in (sym no ∙ e, rw (sym e ∙ no))

  pub replayed_yes : {s' : List ℕ} → not t ≡ false → s' ≡ stored s (apply_record r end (load s)) → ReplayedBy r end s s' true
  unfolding replayed
  replayed_yes p q = let yes : t ≡ true = not-false t p in (sym yes ∙ e, rw (sym e ∙ yes) q)
