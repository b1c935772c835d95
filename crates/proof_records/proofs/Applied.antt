-- Each log record, applied in both worlds, keeps states alike.
--     record-like              every record
-- Assumes nothing.
use Prim.Native.Nat.{ℕ, ◌≤◌, suc, max}
use mathlib.Core.Path.{◌≡◌, refl, sym, ap, ◌∙◌, subst}
use mathlib.Core.Bool.{Bool, true, false}
use mathlib.Core.List.{List, [], ◌∷◌, map}
use native.Mathlib.Omega.{arith}
use lib.ListN.{length, get_or, set}
use lib.Seq.{get_or-set_same, get_or-set_other}
use lib.Dec.{eqb}
use borrow.Author.Tests.{eqb-true}
use Rattle.model.specs.declared.Point.{Point}
use Rattle.model.specs.Choice.{pick}
use Rattle.model.specs.Limits.{last_point, point_count}
use Rattle.model.specs.Tables.{keep}
use Rattle.model.specs.States.{no_point, State, point_at}
use Rattle.model_invariants.proofs.Floors.{eqb_no}
use Rattle.proof_protocol.specs.Servers as S
use Rattle.model.specs.Versions.{Version}
use Rattle.model.specs.declared.Executed.{Executed}
use Rattle.model.specs.declared.Notice.{Notice}
use Rattle.model.specs.declared.Give.{Give}
use Rattle.model.specs.declared.Release.{Release}
use Rattle.model.specs.declared.ImageEntry.{ImageEntry}
use Rattle.model.specs.declared.Completion.{Completion}
use Rattle.model.specs.Packets.{command_ok}
use Rattle.model.specs.Sequential.{reading_meant, result_meant, after_z}
use Rattle.model.specs.Images.{Image, floor_of}
use Rattle.model.specs.Logs.{LogRecord, executed_ok}
use Rattle.model.specs.Apply
use Rattle.model.specs.Apply.{raise, merge_floors, is_not_client}
use Rattle.model_laws.proofs.Tests.{and_left}
use Rattle.model_laws.proofs.Commands.{command-parts}
use Rattle.model_invariants.specs.Sound.{GoodExecuted, GoodRecord}
use Rattle.proof_records.specs.Likeness.{Pair, place_of, reading_of, result_of, Mapped, taken_as, ImageLike, RecordLike, completion_of, holding_of, PointLike, StateLike}
use Rattle.proof_records.specs.Likeness as Likeness
use Rattle.proof_records.proofs.Mapped.{mapped_map, mapped_append, mapped_keep, mapped_with, mapped_through}

-- what every element is set to
pub set-each : (R : Point → S.Point → Type 0) (xs : List Point) (f : ℕ → S.Point) (q : ℕ) (v : Point) (y : S.Point)
    → length xs ≡ point_count → ((p : ℕ) → p ≤ last_point → R (get_or xs p no_point) (f p)) → R v y
    → (p : ℕ) → p ≤ last_point → R (get_or (set xs q v) p no_point) (S.at_point f q y p)
set-each R xs f q v y n h r p l = go (eqb p q) refl
  where
    go : (b : Bool) → eqb p q ≡ b → R (get_or (set xs q v) p no_point) (pick b y (f p))
    go true e =
        let s : p ≡ q = eqb-true p q e in
        subst (λ (x : Point). R x y) (sym (ap (λ (k : ℕ). get_or (set xs q v) k no_point) s ∙ get_or-set_same xs q v no_point (omega arith))) r
    go false e = subst (λ (x : Point). R x (f p)) (sym (get_or-set_other xs q p v no_point (eqb_no p q e))) (h p l)

-- the point of a well-formed executed record
executed-point-good : (x : Executed) → GoodExecuted x → x.command.point ≤ last_point
unfolding executed_ok
executed-point-good x G =
    (command-parts x.command.op x.command.point x.command.argument (and_left (command_ok x.command.op x.command.point x.command.argument) _ G.ok)).point

-- ---- the five records, on the log zs that has them, whose end is `end`

module _ (zs : List Pair) (st : State) (s : S.State) (end t : ℕ) (T : StateLike zs st s) (full : length st.points ≡ point_count) (placed : place_of zs end ≡ suc s.count) where
  executed-record : (x : Executed)
      → record { id = S.id_of x.command; point = x.command.point; res = result_of x.result; place = suc s.count } ≡ completion_of zs (Apply.completion x end)
  unfolding completion_of Apply.completion
  executed-record x = rw placed

  executed-like : (v : Version) (x : Executed) → x.command.point ≤ last_point
      → StateLike zs (Apply.apply_executed x end st) (S.apply_record s (S.executed v x.command x.done (result_of x.result)) t)
  unfolding Apply.apply_executed S.apply_record point_at Apply.completion S.stays_over Apply.stays_over completion_of
      Apply.executed_point S.executed_point holding_of reading_of reading_meant result_meant after_z
  executed-like v x l =
      let fs = raise x.command.client x.done st.floors in
      let es : raise x.command.client x.done s.floors ≡ fs = ap (raise x.command.client x.done) T.floors in
      let g = completion_of zs in
      let u : Completion → Bool = Apply.stays_over x.command.client (floor_of x.command.client fs) in
      let new = Apply.completion x end in
      let P = T.points x.command.point l in
      record {
        points = set-each (PointLike zs) st.points s.points x.command.point _ _ full T.points (record { holding = P.holding; move = P.move; taken = P.taken; value = refl });
        floors = es;
        records =
            rw (es, executed-record x)
            (mapped_keep g _ u (λ r. refl) (mapped_append g T.records (mapped_map g (new ∷ []))));
        heard = T.heard;
      }

  gone-like : (n : Notice) → StateLike zs (Apply.apply_gone n end st) (S.apply_record s (S.gone n.client n.time) t)
  unfolding Apply.apply_gone S.apply_record point_at S.is_of_other Apply.is_of_other completion_of
  gone-like n =
      record {
        points = T.points;
        floors = ap (keep (is_not_client n.client)) T.floors;
        records = mapped_keep (completion_of zs) _ (Apply.is_of_other n.client) (λ r. refl) T.records;
        heard = ap (λ (h : ℕ). max h n.time) T.heard;
      }

  gave-like : (g : Give) → g.point ≤ last_point → StateLike zs (Apply.apply_gave g end st) (S.apply_record s (S.gave g.point g.destination g.move_number) t)
  unfolding Apply.apply_gave S.apply_record point_at Apply.gave_point S.gave_point holding_of reading_of
  gave-like g l =
      let P = T.points g.point l in
      record {
        points = set-each (PointLike zs) st.points s.points g.point _ _ full T.points (record { holding = rw placed; move = refl; taken = P.taken; value = P.value });
        floors = T.floors;
        records = T.records;
        heard = T.heard;
      }

  released-like : (r : Release) → r.point ≤ last_point → StateLike zs (Apply.apply_released r end st) (S.apply_record s (S.freed r.point r.move_number) t)
  unfolding Apply.apply_released S.apply_record point_at S.is_on_other Apply.is_on_other completion_of Apply.released_point S.freed_point holding_of reading_of
  released-like r l =
      let P = T.points r.point l in
      record {
        points = set-each (PointLike zs) st.points s.points r.point _ _ full T.points (record { holding = refl; move = P.move; taken = P.taken; value = P.value });
        floors = T.floors;
        records = mapped_keep (completion_of zs) _ (Apply.is_on_other r.point) (λ r. refl) T.records;
        heard = T.heard;
      }

  taken-entry : (p : ℕ) (e : ImageEntry) → completion_of zs (Apply.taken_record p end e) ≡ taken_as (suc s.count) p e
  unfolding Apply.taken_record completion_of taken_as
  taken-entry p e = rw placed

  took-like : (i : Image) (a : S.Image) → ImageLike i a → i.point ≤ last_point → StateLike zs (Apply.apply_took i end st) (S.apply_record s (S.took a) t)
  unfolding Apply.apply_took S.apply_record point_at S.took_point S.is_on_other Apply.is_on_other S.stays_over_floors Apply.stays_over_floors completion_of Apply.took_point holding_of reading_of
  took-like i a L l =
      let fs = merge_floors i.floors st.floors in
      let es : merge_floors a.floors s.floors ≡ fs = rw (L.floors, T.floors) in
      let g = completion_of zs in
      let u : Completion → Bool = Apply.is_on_other i.point in
      let v : Completion → Bool = Apply.stays_over_floors fs in
      let news = map (Apply.taken_record i.point end) i.entries in
      let olds : Mapped g (keep u st.records) (keep (S.is_on_other a.point) s.records) = rw L.point (mapped_keep g _ u (λ r. refl) T.records) in
      let taken : Mapped g news (map (S.taken_record (suc s.count)) a.records)
      = mapped_through (Apply.taken_record i.point end) g (mapped_with _ _ (λ e m. sym (taken-entry i.point e)) (L.records (suc s.count))) in
      let points : (p : ℕ) → p ≤ last_point → PointLike zs (get_or (set st.points i.point (Apply.took_point i end)) p no_point) (S.at_point s.points i.point (S.took_point a) p)
      = set-each (PointLike zs) st.points s.points i.point _ _ full T.points (record { holding = refl; move = L.move; taken = L.move; value = L.value }) in
      record {
        points = rw L.point points;
        floors = es;
        records = rw es (mapped_keep g _ v (λ r. refl) (mapped_append g olds taken));
        heard = rw (L.heard, T.heard);
      }

  pub record-like : (r : LogRecord) (a : S.LogRecord) → RecordLike r a → GoodRecord r → StateLike zs (Apply.apply_record r end st) (S.apply_record s a t)
  unfolding Apply.apply_record
  record-like r a (Likeness.executed v x) G = executed-like v x (executed-point-good x G)
  record-like r a (Likeness.gone n) G = gone-like n
  record-like r a (Likeness.gave g) G = gave-like g G.point
  record-like r a (Likeness.took i b L) G = took-like i b L G.point
  record-like r a (Likeness.released x) G = released-like x G.point
