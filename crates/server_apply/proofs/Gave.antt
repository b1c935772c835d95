-- The steps of a give.
--     gave-point      the point is stored;    gave-done     the log's length too
-- Assumes nothing.
use Prim.Native.Nat.{ℕ, ◌*◌, ◌<◌}
use mathlib.Core.Path.{◌≡◌, ap, ◌∙◌}
use mathlib.Core.List.{List}
use native.Mathlib.Omega.{arith}
use Rattle.model.specs.declared.Point.{Point}
use Rattle.model.specs.declared.Give.{Give}
use Rattle.model.specs.Numbers.{word}
use Rattle.model.specs.States.{State, load, point_at}
use Rattle.model.specs.Apply.{gave_point, apply_gave}
use Rattle.model.specs.Operations.{stored}
use Rattle.model_laws.specs.Layout.{with_size, with_point}
use Rattle.state_rows.specs.Canonical.{Canonical}
use Rattle.state_rows.proofs.Chains.{fits-point, fits-size}
use Rattle.server_apply.specs.Stage.{Stage}
use Rattle.server_apply.proofs.Stages.{stage_start, stage_next, point-fits, gave_fits}
use Rattle.server_apply.proofs.Composed.{gave_composed}

module _ {s : List ℕ} (w : Canonical s) (g : Give) (end : ℕ) (d : g.destination < 256) (n : g.move_number < word) (e : end < word * word) where
  abbrev given : State
  given = with_point g.point (gave_point g end (point_at (load s) g.point)) (load s)

  pub gave_stage : {x y : Point} {s1 : List ℕ} → x ≡ point_at (load s) g.point → y ≡ gave_point g end x → s1 ≡ stored s (with_point g.point y (load s)) → Stage s s1 given
  gave_stage {x} {y} {s1} p q r =
      stage_next (stage_start s w) (with_point g.point (gave_point g end (point_at (load s) g.point)))
      (r ∙ ap (λ (z : Point). stored s (with_point g.point z (load s))) (q ∙ ap (gave_point g end) p))
      (fits-point (load s) w.fits g.point _ (gave_fits g end (point_at (load s) g.point) d n e (point-fits (load s) g.point w.fits))) (unfold with_point in omega arith)

  pub gave-done : {s1 s2 : List ℕ} → Stage s s1 given → s2 ≡ stored s1 (with_size end (load s1)) → s2 ≡ stored s (apply_gave g end (load s))
  gave-done t r = (stage_next t (with_size end) r (fits-size given t.fits end e) (unfold with_size in omega arith)).is ∙ ap (λ (z : State). stored s z) (gave_composed (load s) end g)
