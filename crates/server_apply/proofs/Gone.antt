-- The steps of a notice: the client goes, its records go, heard time and the log's length are stored.
--     gone-client, gone-records, gone-heard, gone-done
-- Assumes nothing.
use Prim.Native.Nat.{ℕ, ◌*◌, ◌<◌, max}
use mathlib.Core.Path.{◌≡◌, ap, ◌∙◌, refl}
use mathlib.Core.List.{List}
use native.Mathlib.Omega.{arith}
use Rattle.model.specs.declared.Notice.{Notice}
use Rattle.model.specs.Numbers.{word}
use Rattle.model.specs.Tables.{keep}
use Rattle.model.specs.States.{State, load}
use Rattle.model.specs.Apply.{is_not_client, is_of_other, apply_gone}
use Rattle.model.specs.Operations.{stored}
use Rattle.model_laws.specs.Fits.{FloorFits}
use Rattle.model_laws.specs.Layout.{with_heard, with_size, with_floors, with_records}
use Rattle.model_laws.proofs.Tables.{all_keep, length-keep}
use Rattle.state_rows.specs.Canonical.{Canonical}
use Rattle.state_rows.proofs.Chains.{fits-heard, fits-size, fits-floors}
use Rattle.state_records.specs.declared.Rule.TheVariants.{OfOther}
use Rattle.state_records.specs.Rules.{stays_by, kept_by}
use Rattle.state_records.proofs.Chained.{kept-fits}
use Rattle.server_apply.specs.Stage.{Stage}
use Rattle.server_apply.proofs.Stages.{stage_start, stage_fewer, stage_next, max-below}
use Rattle.server_apply.proofs.Composed.{gone_composed}

module _ {s : List ℕ} (w : Canonical s) (n : Notice) where
  abbrev without : State
  without = with_floors (keep (is_not_client n.client) (load s).floors) (load s)

  abbrev forgotten : State
  forgotten = with_records (keep (is_of_other n.client) (load s).records) without

  abbrev heard : State
  heard = with_heard (max (load s).heard n.time) forgotten

  pub gone-client : {s1 : List ℕ} → s1 ≡ stored s without → Stage s s1 without
  gone-client p =
      stage_fewer (stage_start s w) w refl (with_floors (keep (is_not_client n.client) (load s).floors)) p
      (fits-floors (load s) w.fits (keep (is_not_client n.client) (load s).floors) (all_keep FloorFits (is_not_client n.client) (load s).floors w.fits.floors)
      (omega (arith, length-keep (is_not_client n.client) (load s).floors, w.fits.floors-count)))

  pub gone-records : {s1 s2 : List ℕ} → Stage s s1 without → s2 ≡ stored s1 (with_records (kept_by (OfOther n.client) (load s1)) (load s1)) → Stage s s2 forgotten
  unfolding stays_by with_floors
  gone-records t p = stage_fewer t w refl (λ (x : State). with_records (kept_by (OfOther n.client) x) x) p (kept-fits without t.fits (OfOther n.client))

  pub gone-heard : {h : ℕ} {s2 s3 : List ℕ} → Stage s s2 forgotten → n.time < word → h ≡ max (load s).heard n.time → s3 ≡ stored s2 (with_heard h (load s2)) → Stage s s3 heard
  gone-heard {h} {s2} t k q p =
      stage_next t (with_heard (max (load s).heard n.time)) (p ∙ ap (λ (x : ℕ). stored s2 (with_heard x (load s2))) q)
      (fits-heard forgotten t.fits (max (load s).heard n.time) (max-below (load s).heard n.time word w.fits.heard k)) (unfold with_heard in omega arith)

  pub gone-done : (end : ℕ) → end < word * word → {s3 s4 : List ℕ} → Stage s s3 heard → s4 ≡ stored s3 (with_size end (load s3)) → s4 ≡ stored s (apply_gone n end (load s))
  gone-done end e t p = (stage_next t (with_size end) p (fits-size heard t.fits end e) (unfold with_size in omega arith)).is ∙ ap (λ (u : State). stored s u) (gone_composed (load s) end n)
