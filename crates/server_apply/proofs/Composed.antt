-- What each log record does to a state, as changes of one part after the other.
--     executed-stays      the record of a call that is not under a floor stays
--     executed_composed, gone_composed, gave_composed, released_composed, took_composed
-- Assumes nothing.
use Prim.Native.Nat.{ℕ, ◌≤◌, max}
use mathlib.Core.Path.{◌≡◌, refl}
use mathlib.Core.Bool.{Bool, true}
use mathlib.Core.List.{[], ◌∷◌, ◌++◌, map}
use borrow.Author.Tests.{eq-eqb, le-leb}
use Rattle.model.specs.declared.Executed.{Executed}
use Rattle.model.specs.declared.Notice.{Notice}
use Rattle.model.specs.declared.Give.{Give}
use Rattle.model.specs.declared.Release.{Release}
use Rattle.model.specs.declared.Completion.{Completion}
use Rattle.model.specs.Tables.{keep}
use Rattle.model.specs.Images.{Image, floor_of}
use Rattle.model.specs.States.{State, point_at}
use Rattle.model.specs.Apply.{raise, merge_floors, is_not_client, stays_over, stays_over_floors, is_of_other, is_on_other, executed_point, completion, apply_executed, apply_gone, gave_point, apply_gave, took_point, taken_record, apply_took, released_point, apply_released}
use Rattle.model_laws.specs.Layout.{with_heard, with_size, with_point, with_floors, with_records}
use Rattle.model_laws.proofs.Tables.{keep_append, keep_yes}

pub executed-stays : (x : Executed) (end : ℕ) {n : ℕ} → n ≤ x.command.call → stays_over x.command.client n (completion x end) ≡ true
unfolding stays_over completion
executed-stays x end {n} h = rw (eq-eqb x.command.client x.command.client refl, le-leb n x.command.call h)

module _ (st : State) (end : ℕ) where
  pub executed_composed : (x : Executed)
      → stays_over x.command.client (floor_of x.command.client (raise x.command.client x.done st.floors)) (completion x end) ≡ true
      → with_size end (with_point x.command.point (executed_point x (point_at st x.command.point))
      (with_records (keep (stays_over x.command.client (floor_of x.command.client (raise x.command.client x.done st.floors))) st.records ++ (completion x end ∷ []))
      (with_floors (raise x.command.client x.done st.floors) st)))
      ≡ apply_executed x end st
  unfolding with_size with_point with_records with_floors apply_executed
  executed_composed x h =
      let p : Completion → Bool = stays_over x.command.client (floor_of x.command.client (raise x.command.client x.done st.floors)) in
      rw (keep_yes p st.records (completion x end) h)

  pub gone_composed : (n : Notice)
      → with_size end (with_heard (max st.heard n.time) (with_records (keep (is_of_other n.client) st.records) (with_floors (keep (is_not_client n.client) st.floors) st)))
      ≡ apply_gone n end st
  unfolding with_size with_heard with_records with_floors apply_gone
  gone_composed n = refl

  pub gave_composed : (g : Give) → with_size end (with_point g.point (gave_point g end (point_at st g.point)) st) ≡ apply_gave g end st
  unfolding with_size with_point apply_gave
  gave_composed g = refl

  pub released_composed : (r : Release)
      → with_size end (with_point r.point (released_point (point_at st r.point)) (with_records (keep (is_on_other r.point) st.records) st)) ≡ apply_released r end st
  unfolding with_size with_point with_records apply_released
  released_composed r = refl

  pub took_composed : (i : Image)
      → with_size end (with_heard (max st.heard i.heard) (with_point i.point (took_point i end)
      (with_records (keep (stays_over_floors (merge_floors i.floors st.floors)) (keep (is_on_other i.point) st.records) ++ keep (stays_over_floors (merge_floors i.floors st.floors))
      (map (taken_record i.point end) i.entries))
      (with_floors (merge_floors i.floors st.floors) st))))
      ≡ apply_took i end st
  unfolding with_size with_heard with_point with_records with_floors apply_took
  took_composed i =
      rw (keep_append (stays_over_floors (merge_floors i.floors st.floors)) (keep (is_on_other i.point) st.records) (map (taken_record i.point end) i.entries))
