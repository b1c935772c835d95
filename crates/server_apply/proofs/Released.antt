-- The steps of a release: the point's records go, then the point and the log's length are stored.
--     released_dropped, released_stage, released-done
-- Assumes nothing.
use Prim.Native.Nat.{ℕ, ◌*◌, ◌<◌}
use mathlib.Core.Path.{◌≡◌, ap, ◌∙◌, refl}
use mathlib.Core.List.{List}
use native.Mathlib.Omega.{arith}
use Rattle.model.specs.declared.Point.{Point}
use Rattle.model.specs.declared.Release.{Release}
use Rattle.model.specs.Numbers.{word}
use Rattle.model.specs.Tables.{keep}
use Rattle.model.specs.States.{State, load, point_at}
use Rattle.model.specs.Apply.{is_on_other, released_point, apply_released}
use Rattle.model.specs.Operations.{stored}
use Rattle.model_laws.specs.Fits.{CompletionFits}
use Rattle.model_laws.specs.Layout.{with_size, with_point, with_records}
use Rattle.model_laws.proofs.Tables.{all_keep, length-keep}
use Rattle.state_rows.specs.Canonical.{Canonical}
use Rattle.state_rows.proofs.Chains.{fits-point, fits-size, fits-records}
use Rattle.state_records.specs.declared.Rule.TheVariants.{OnOther}
use Rattle.state_records.specs.Rules.{stays_by, kept_by}
use Rattle.server_apply.specs.Stage.{Stage}
use Rattle.server_apply.proofs.Stages.{stage_start, stage_fewer, stage_next, point-fits, released-fits}
use Rattle.server_apply.proofs.Composed.{released_composed}

module _ {s : List ℕ} (w : Canonical s) (r : Release) (end : ℕ) (e : end < word * word) where
  abbrev dropped : State
  dropped = with_records (keep (is_on_other r.point) (load s).records) (load s)

  pub released_dropped : {s1 : List ℕ} → s1 ≡ stored s (with_records (kept_by (OnOther r.point) (load s)) (load s)) → Stage s s1 dropped
  unfolding stays_by
  released_dropped p =
      stage_fewer (stage_start s w) w refl (with_records (keep (is_on_other r.point) (load s).records)) p
      (fits-records (load s) w.fits (keep (is_on_other r.point) (load s).records) (all_keep CompletionFits (is_on_other r.point) (load s).records w.fits.records)
      (omega (arith, length-keep (is_on_other r.point) (load s).records, w.fits.records-count)))

  abbrev closed : State
  closed = with_point r.point (released_point (point_at (load s) r.point)) dropped

  pub released_stage : {x y : Point} {s1 s2 : List ℕ} → Stage s s1 dropped → x ≡ point_at (load s) r.point → y ≡ released_point x → s2 ≡ stored s1 (with_point r.point y (load s1))
      → Stage s s2 closed
  released_stage {x} {y} {s1} {s2} t p q z =
      stage_next t (with_point r.point (released_point (point_at (load s) r.point)))
      (z ∙ ap (λ (u : Point). stored s1 (with_point r.point u (load s1))) (q ∙ ap released_point p))
      (fits-point dropped t.fits r.point _ (released-fits (point_at (load s) r.point) (point-fits (load s) r.point w.fits))) (unfold with_point in omega arith)

  pub released-done : {s2 s3 : List ℕ} → Stage s s2 closed → s3 ≡ stored s2 (with_size end (load s2)) → s3 ≡ stored s (apply_released r end (load s))
  released-done t z = (stage_next t (with_size end) z (fits-size closed t.fits end e) (unfold with_size in omega arith)).is ∙ ap (λ (u : State). stored s u) (released_composed (load s) end r)
