-- The steps of an executed command: the client's floor, its records under the floor go, the new record, the point, the log's length.
--     executed-floor, executed-over, executed-kept, executed-room, executed_added, executed_stage, executed-done
-- Assumes nothing.
use Prim.Native.Nat.{ℕ, ◌*◌, ◌<◌, max}
use mathlib.Core.Path.{◌≡◌, sym, ap, ◌∙◌, refl}
use mathlib.Core.Bool.{true}
use mathlib.Core.List.{List, [], ◌∷◌, ◌++◌}
use native.Mathlib.Omega.{arith}
use lib.ListN.{length, length-append}
use Rattle.model.specs.declared.Executed.{Executed}
use Rattle.model.specs.declared.Point.{Point}
use Rattle.model.specs.declared.Completion.{Completion}
use Rattle.model.specs.Numbers.{word}
use Rattle.model.specs.Tables.{keep, every}
use Rattle.model.specs.Limits.{record_count}
use Rattle.model.specs.Images.{floor_of}
use Rattle.model.specs.States.{State, load, point_at}
use Rattle.model.specs.Apply.{stays_over, completion, executed_point, apply_executed}
use Rattle.model.specs.Operations.{stored}
use Rattle.model_laws.specs.Fits.{PointFits}
use Rattle.model_laws.specs.Layout.{with_size, with_point, with_floors, with_records}
use Rattle.state_rows.specs.Canonical.{Canonical}
use Rattle.state_rows.proofs.Chains.{fits-point, fits-size, fits-floors}
use Rattle.state_records.specs.declared.Rule.TheVariants.{OverFloor}
use Rattle.state_records.specs.Rules.{stays_by}
use Rattle.state_records.proofs.Chained.{kept-fits, added_fits}
use Rattle.state_clients.proofs.Raised.{raise-fits}
use Rattle.server_apply.specs.Room.{floors_with, floor_with, Room}
use Rattle.server_apply.specs.Stage.{Stage}
use Rattle.server_apply.proofs.Stages.{stage_start, stage_fewer, stage_next, stage_load, point-fits}
use Rattle.server_apply.proofs.Composed.{executed-stays, executed_composed}

-- the fields of an executed record in their widths
pub record Widths (x : Executed) (end : ℕ) : Type 0 where
  pub op : x.command.op < 256
  pub point : x.command.point < 256
  pub outcome : x.result.outcome < 256
  pub client : x.command.client < word
  pub call : x.command.call < word
  pub done : x.done < word
  pub argument : x.command.argument < word
  pub value : x.result.value < word
  pub quality : x.result.quality < 256
  pub time : x.result.time < word
  pub ends : end < word * word

module _ {s : List ℕ} (w : Canonical s) (x : Executed) (end : ℕ) (f : Widths x end) (r : Room x (load s)) where
  abbrev pub raised : State
  raised = with_floors (floors_with x (load s)) (load s)

  abbrev pub kept : State
  kept = with_records (keep (stays_over x.command.client (floor_with x (load s))) (load s).records) raised

  abbrev pub added : State
  added = with_records (keep (stays_over x.command.client (floor_with x (load s))) (load s).records ++ (completion x end ∷ [])) kept

  abbrev pub pointed : State
  pointed = with_point x.command.point (executed_point x (point_at (load s) x.command.point)) added

  pub executed-floor : {s1 : List ℕ} → s1 ≡ stored s raised → Stage s s1 raised
  executed-floor p =
      stage_fewer (stage_start s w) w refl (with_floors (floors_with x (load s))) p
      (fits-floors (load s) w.fits (floors_with x (load s))
      (raise-fits (record { client = x.command.client; floor = x.done }) (load s).floors (record { client = f.client; floor = f.done }) w.fits.floors) r.clients)

  -- no record of the client is under the floor that it had
  pub executed-over : {old : ℕ} {s1 : List ℕ} → Stage s s1 raised → old ≡ floor_of x.command.client (load s).floors → every (stays_over x.command.client old) (load s1).records ≡ true
  unfolding with_floors
  executed-over t o = rw (stage_load t, o) r.over

  pub executed-kept : {old n : ℕ} {s1 s2 : List ℕ} → Stage s s1 raised → old ≡ floor_of x.command.client (load s).floors → n ≡ max old x.done
      → s2 ≡ stored s1 (with_records (keep (stays_over x.command.client n) (load s1).records) (load s1)) → Stage s s2 kept
  unfolding stays_by with_floors
  executed-kept {old} {n} {s1} {s2} t o q p =
      let m : ℕ = floor_with x (load s) in
      let e : n ≡ m = q ∙ ap (λ (k : ℕ). max k x.done) o ∙ sym r.floor in
      stage_fewer t w refl (λ (st : State). with_records (keep (stays_over x.command.client m) st.records) st)
      (p ∙ ap (λ (k : ℕ). stored s1 (with_records (keep (stays_over x.command.client k) (load s1).records) (load s1))) e)
      (kept-fits raised t.fits (OverFloor x.command.client m))

  pub executed-room : {s2 : List ℕ} → Stage s s2 kept → length (load s2).records < record_count
  unfolding with_records
  executed-room t = rw (stage_load t) r.records

  pub executed_added : {c : Completion} {s2 s3 : List ℕ} → Stage s s2 kept → c ≡ completion x end → s3 ≡ stored s2 (with_records ((load s2).records ++ (c ∷ [])) (load s2)) → Stage s s3 added
  unfolding with_records completion
  executed_added {c} {s2} t q p =
      stage_next t (λ (st : State). with_records (st.records ++ (completion x end ∷ [])) st)
      (p ∙ ap (λ (d : Completion). stored s2 (with_records ((load s2).records ++ (d ∷ [])) (load s2))) q)
      (added_fits kept t.fits (completion x end)
      (record {
        client = f.client;
        call = f.call;
        argument = f.argument;
        value = f.value;
        op = f.op;
        outcome = f.outcome;
        quality = f.quality;
        point = f.point;
        time = f.time;
        end = f.ends;
      })
      r.records) (omega (arith, length-append kept.records (completion x end ∷ [])))

  pub executed_stage : {q y : Point} {s3 s4 : List ℕ} → Stage s s3 added → q ≡ point_at (load s) x.command.point → y ≡ executed_point x q → s4 ≡ stored s3 (with_point x.command.point y (load s3))
      → Stage s s4 pointed
  unfolding executed_point
  executed_stage {q} {y} {s3} t a b p =
      let old : PointFits (point_at (load s) x.command.point) = point-fits (load s) x.command.point w.fits in
      stage_next t (with_point x.command.point (executed_point x (point_at (load s) x.command.point)))
      (p ∙ ap (λ (u : Point). stored s3 (with_point x.command.point u (load s3))) (b ∙ ap (executed_point x) a))
      (fits-point added t.fits x.command.point (executed_point x (point_at (load s) x.command.point))
      (record {
        status = old.status;
        quality = f.quality;
        destination = old.destination;
        value = f.value;
        move_number = old.move_number;
        taken_move = old.taken_move;
        give_end = old.give_end;
        take_end = old.take_end;
      })) (unfold with_point in omega arith)

  pub executed-done : {s4 s5 : List ℕ} → Stage s s4 pointed → s5 ≡ stored s4 (with_size end (load s4)) → s5 ≡ stored s (apply_executed x end (load s))
  unfolding with_records
  executed-done t p =
      (stage_next t (with_size end) p (fits-size pointed t.fits end f.ends) (unfold with_size in omega arith)).is
      ∙ ap (λ (u : State). stored s u) (executed_composed (load s) end x (executed-stays x end r.call))
