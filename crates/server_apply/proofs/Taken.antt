-- The steps of a take.
--     Widths          the widths of a head's fields
--     kept_stage      records gone
--     taken-..        the tables: floors merged, the point's own records gone, those under a floor gone, the image's added
--     pointed_stage, heard_stage, pointed-done     the point, heard time and the log's length
--     tabled_stage, took-done     both
-- Assumes nothing.
use Prim.Native.Nat.{ℕ, zero, suc, ◌+◌, ◌*◌, ◌≤◌, ◌<◌, max}
use mathlib.Core.Path.{◌≡◌, refl, ap, ◌∙◌}
use mathlib.Core.Bool.{Bool, true, false, ◌&&◌}
use Rattle.model.specs.Choice.{pick}
use mathlib.Core.List.{List, [], ◌∷◌, ◌++◌, map}
use native.Mathlib.Omega.{arith}
use lib.ListN.{length, drop, length-append}
use lib.Dec.{lit<}
use Rattle.model.specs.declared.ImageHead.{ImageHead}
use Rattle.model.specs.declared.ImageEntry.{ImageEntry}
use Rattle.model.specs.declared.Point.{Point}
use Rattle.model.specs.declared.Floor.{Floor}
use Rattle.model.specs.declared.Completion.{Completion}
use Rattle.model.specs.Numbers.{word}
use Rattle.model.specs.Limits.{client_count, record_count, least_image, floor_row}
use Rattle.model.specs.Tables.{keep, rows}
use Rattle.model.specs.Images.{Image, image_at, floor_of_bytes, image_entry_of, entry_width, entries_start, length_by}
use Rattle.model.specs.States.{State, load}
use Rattle.model.specs.Apply.{raise, merge_floors, stays_over_floors, is_on_other, took_point, taken_record, apply_took}
use Rattle.model.specs.Operations.{stored}
use Rattle.model_laws.specs.Bytes.{Bytes, All}
use Rattle.model_laws.specs.Fits.{StateFits, FloorFits, ImageEntryFits, CompletionFits, PointFits}
use Rattle.model_laws.specs.Layout.{with_heard, with_size, with_point, with_floors, with_records}
use Rattle.model_laws.proofs.Numbers.{bytes_drop}
use Rattle.model_laws.proofs.Tables.{all_keep, all_append, length-keep, keep_append, rows_fit, every_row-true}
use Rattle.model_laws.proofs.Images.{floor_codec, entry-fit}
use Rattle.model_invariants.proofs.Tests.{time-fits}
use Rattle.state_rows.specs.Canonical.{Canonical}
use Rattle.state_rows.proofs.Chains.{fits-point, fits-heard, fits-size, fits-floors, fits-records}
use Rattle.state_records.specs.declared.Rule.{Rule}
use Rattle.state_records.specs.declared.Rule.TheVariants.{Beside}
use Rattle.state_records.specs.Rules.{stays_by, kept_by, brought}
use Rattle.state_clients.proofs.Raised.{raise-fits}
use Rattle.server_apply.specs.Stage.{Stage}
use Rattle.server_apply.proofs.Stages.{stage_start, stage_fewer, stage_next, stage_load, stage_canonical}

-- the widths of a head's fields and of a log's length
pub record Widths (h : ImageHead) (end : ℕ) : Type 0 where
  pub point : h.point < 256
  pub quality : h.quality < 256
  pub value : h.value < word
  pub move_number : h.move_number < word
  pub heard : h.heard < word
  pub size : end < word * word

-- ---- what an image brings fits

merge_fits : (gs fs : List Floor) → All FloorFits gs → All FloorFits fs → All FloorFits (merge_floors gs fs)
unfolding merge_floors
merge_fits [] fs a b = b
merge_fits (g ∷ gs) fs a b = merge_fits gs (raise g.client g.floor fs) a.1 (raise-fits g fs a.0 b)

entries_fit : (timed : Bool) (w n : ℕ) (s : List ℕ) → Bytes s → All (ImageEntryFits timed) (rows (image_entry_of timed) w n s)
unfolding rows
entries_fit timed w zero s b = tt
entries_fit timed w (suc n) s b = (entry-fit timed s b, entries_fit timed w n (drop w s) (bytes_drop w s b))

taken-fit : (timed : Bool) (p end : ℕ) (es : List ImageEntry) → p < 256 → end < word * word → All (ImageEntryFits timed) es → All CompletionFits (map (taken_record p end) es)
unfolding taken_record
taken-fit timed p end [] h k a = tt
taken-fit timed p end (e ∷ es) h k a =
    let f = a.0 in (
      record {
        client = f.client;
        call = f.call;
        argument = f.argument;
        value = f.value;
        op = f.op;
        outcome = f.outcome;
        quality = f.quality;
        point = h;
        time = time-fits timed e.result.time f.time;
        end = k;
      },
      taken-fit timed p end es h k a.1,
    )

-- ---- one change more

module _ {s a : List ℕ} {st : State} (t : Stage s a st) {a' : List ℕ} where
  pub kept_stage : Canonical s → st.records ≡ (load s).records → (rule : Rule) → a' ≡ stored a (with_records (kept_by rule (load a)) (load a)) → Stage s a' (with_records (kept_by rule st) st)
  kept_stage w own rule e =
      stage_fewer t w own (λ x. with_records (kept_by rule x) x) e
      (fits-records st t.fits (kept_by rule st) (all_keep CompletionFits (stays_by rule st.floors) st.records t.fits.records)
      (omega (arith, length-keep (stays_by rule st.floors) st.records, t.fits.records-count)))

-- ---- the tables

-- floors merged, the point's own records gone, those under a floor gone, the image's added
abbrev pub merged_by : ImageHead → List ℕ → State → State
merged_by h image x = with_floors (merge_floors (image_at h image).floors x.floors) x

abbrev pub kept_in : Rule → State → State
kept_in rule x = with_records (kept_by rule x) x

abbrev pub added_by : ImageHead → ℕ → List ℕ → State → State
added_by h end image x = with_records (x.records ++ brought x h end image) x

abbrev pub kept_of : ImageHead → List ℕ → State → State
kept_of h image x = kept_in (Beside h.point) (merged_by h image x)

keep-both : (t u : Completion → Bool) (rs : List Completion) → keep u (keep t rs) ≡ keep (λ r. t r && u r) rs
unfolding keep
keep-both t u [] = refl
keep-both t u (r ∷ rs) = go (t r) (keep-both t u rs)
  where
    go : (b : Bool) → keep u (keep t rs) ≡ keep (λ q. t q && u q) rs → keep u (pick b (r ∷ keep t rs) (keep t rs)) ≡ pick (b && u r) (r ∷ keep (λ q. t q && u q) rs) (keep (λ q. t q && u q) rs)
    go true e = rw e
    go false e = e

tables_composed : (h : ImageHead) (end : ℕ) (image : List ℕ) (st : State)
    → added_by h end image (kept_of h image st) ≡ with_records (apply_took (image_at h image) end st).records (with_floors (apply_took (image_at h image) end st).floors st)
unfolding with_records with_floors apply_took stays_by image_at
tables_composed h end image st =
    let over : Completion → Bool = stays_over_floors (merge_floors (image_at h image).floors st.floors) in
    let news : List Completion = map (taken_record h.point end) (image_at h image).entries in
    rw (← keep-both (is_on_other h.point) over st.records, keep_append over (keep (is_on_other h.point) st.records) news)

module _ {s : List ℕ} (w : Canonical s) (image : List ℕ) (b : Bytes image) (h : ImageHead) (end : ℕ)
    (floors : length (apply_took (image_at h image) end (load s)).floors ≤ client_count) where
  merged_fits : All FloorFits (merge_floors (image_at h image).floors (load s).floors)
  unfolding image_at
  merged_fits =
      merge_fits (rows floor_of_bytes floor_row h.floors (drop least_image image)) (load s).floors
      (rows_fit floor_codec h.floors (drop least_image image) (bytes_drop least_image image b) (every_row-true floor_row h.floors (drop least_image image)))
      w.fits.floors

  pub taken_merge : length_by h ≤ length image
      → Canonical s × (entries_start h.floors ≤ length image) × (length (merge_floors (rows floor_of_bytes floor_row h.floors (drop least_image image)) (load s).floors) ≤ client_count)
  unfolding apply_took image_at
  taken_merge l = (w, omega arith, floors)

  -- floors merged
  pub taken_merged : {s1 : List ℕ} → s1 ≡ stored s (with_floors (merge_floors (rows floor_of_bytes floor_row h.floors (drop least_image image)) (load s).floors) (load s)) → Stage s s1
      (merged_by h image (load s))
  unfolding apply_took image_at
  taken_merged e = stage_fewer (stage_start s w) w refl (merged_by h image) e (fits-floors (load s) w.fits (merge_floors (image_at h image).floors (load s).floors) merged_fits floors)

  module _ (records : length (apply_took (image_at h image) end (load s)).records ≤ record_count) {s3 : List ℕ} (t : Stage s s3 (kept_of h image (load s))) where
    abbrev three : State
    three = kept_of h image (load s)

    both : length (three.records ++ brought three h end image) ≤ record_count
    unfolding with_records
    both = rw (ap (λ (x : State). x.records) (tables_composed h end image (load s))) records

    -- the image's records added
    pub taken-add : length_by h ≤ length image
        → Canonical s3 × (length_by h ≤ length image) × (length (load s3).records + length (brought (load s3) h end image) ≤ record_count)
    taken-add l = (stage_canonical t, l, rw (stage_load t) (omega (arith, both, length-append three.records (brought three h end image))))

    pub taken-done : {s4 : List ℕ} → Widths h end → s4 ≡ stored s3 (with_records ((load s3).records ++ brought (load s3) h end image) (load s3))
        → s4 ≡ stored s (with_records (apply_took (image_at h image) end (load s)).records (with_floors (apply_took (image_at h image) end (load s)).floors (load s)))
    taken-done {s4} f e =
        let fit : All CompletionFits (brought three h end image) =
        all_keep CompletionFits (stays_over_floors three.floors) (map (taken_record h.point end) (image_at h image).entries)
        (taken-fit h.timed h.point end (image_at h image).entries f.point f.size
        (unfold image_at in entries_fit h.timed (entry_width h) h.entries (drop (entries_start h.floors) image) (bytes_drop (entries_start h.floors) image b))) in
        (stage_next t (added_by h end image) e
        (fits-records three t.fits (three.records ++ brought three h end image) (all_append CompletionFits three.records (brought three h end image) t.fits.records fit) both)
        (unfold with_records in omega (arith, length-append three.records (brought three h end image)))).is
        ∙ ap (λ (x : State). stored s x) (tables_composed h end image (load s))

-- ---- the point, heard time and the log's length

took-fits : (h : ImageHead) (end : ℕ) → Widths h end → PointFits (took_point (image_at h []) end)
unfolding took_point image_at
took-fits h end f =
    record { status = lit< tt; quality = f.quality; destination = lit< tt; value = f.value; move_number = f.move_number; taken_move = f.move_number; give_end = lit< tt; take_end = f.size }

abbrev pub pointed_by : ImageHead → ℕ → State → State
pointed_by h end x = with_point h.point (took_point (image_at h []) end) x

abbrev pub heard_by : ImageHead → ℕ → State → State
heard_by h end x = with_heard (max x.heard h.heard) (pointed_by h end x)

module _ {s : List ℕ} (w : Canonical s) (h : ImageHead) (end : ℕ) (f : Widths h end) where
  pub pointed_stage : {x : Point} {s1 : List ℕ} → x ≡ took_point (image_at h []) end → s1 ≡ stored s (with_point h.point x (load s)) → Stage s s1 (pointed_by h end (load s))
  pointed_stage {x} {s1} p r =
      stage_next (stage_start s w) (pointed_by h end) (r ∙ ap (λ (z : Point). stored s (with_point h.point z (load s))) p)
      (fits-point (load s) w.fits h.point _ (took-fits h end f)) (unfold with_point in omega arith)

  pub heard_stage : {k m : ℕ} {s1 s2 : List ℕ} → Stage s s1 (pointed_by h end (load s)) → m ≡ (load s).heard → k ≡ max m h.heard → s2 ≡ stored s1 (with_heard k (load s1))
      → Stage s s2 (heard_by h end (load s))
  heard_stage {k} {m} {s1} {s2} g p r z =
      stage_next g (with_heard (max (load s).heard h.heard)) (z ∙ ap (λ (x : ℕ). stored s1 (with_heard x (load s1))) (r ∙ ap (λ (x : ℕ). max x h.heard) p))
      (fits-heard (pointed_by h end (load s)) g.fits (max (load s).heard h.heard) (omega (arith, w.fits.heard, f.heard))) (unfold with_heard in omega arith)

  pub pointed-done : {s2 s3 : List ℕ} → Stage s s2 (heard_by h end (load s)) → s3 ≡ stored s2 (with_size end (load s2)) → s3 ≡ stored s (with_size end (heard_by h end (load s)))
  pointed-done g z = (stage_next g (with_size end) z (fits-size (heard_by h end (load s)) g.fits end f.size) (unfold with_size in omega arith)).is

-- ---- the whole

-- the state with both tables as a take leaves them
abbrev pub tabled : ImageHead → ℕ → List ℕ → State → State
tabled h end image st = with_records (apply_took (image_at h image) end st).records (with_floors (apply_took (image_at h image) end st).floors st)

abbrev pub set_by : ImageHead → ℕ → State → State
set_by h end x = with_size end (heard_by h end x)

took-whole : (h : ImageHead) (end : ℕ) (image : List ℕ) (st : State) → set_by h end (tabled h end image st) ≡ apply_took (image_at h image) end st
unfolding with_size with_heard with_point with_records with_floors apply_took image_at took_point
took-whole h end image st = refl

records-fit : (h : ImageHead) (end : ℕ) (image : List ℕ) (st : State) → Bytes image → h.point < 256 → end < word * word → All CompletionFits st.records → All CompletionFits
    (apply_took (image_at h image) end st).records
unfolding apply_took image_at
records-fit h end image st b hp he a =
    let i : Image = image_at h image in
    let old : List Completion = keep (is_on_other h.point) st.records in
    let new : List Completion = map (taken_record h.point end) i.entries in
    all_keep CompletionFits (stays_over_floors (merge_floors i.floors st.floors)) (old ++ new)
    (all_append CompletionFits old new (all_keep CompletionFits (is_on_other h.point) st.records a)
    (taken-fit h.timed h.point end i.entries hp he
    (entries_fit h.timed (entry_width h) h.entries (drop (entries_start h.floors) image) (bytes_drop (entries_start h.floors) image b))))

module _ {s : List ℕ} (w : Canonical s) (image : List ℕ) (b : Bytes image) (h : ImageHead) (end : ℕ)
    (floors : length (apply_took (image_at h image) end (load s)).floors ≤ client_count) (records : length (apply_took (image_at h image) end (load s)).records ≤ record_count) (f : Widths h end) where
  floors-fit : StateFits (with_floors (apply_took (image_at h image) end (load s)).floors (load s))
  unfolding apply_took
  floors-fit = fits-floors (load s) w.fits (merge_floors (image_at h image).floors (load s).floors) (merged_fits w image b h end floors) floors

  pub tabled_stage : {s1 : List ℕ} → s1 ≡ stored s (tabled h end image (load s)) → Stage s s1 (tabled h end image (load s))
  tabled_stage e =
      record {
        long = w.long;
        is = e;
        fits =
            fits-records (with_floors (apply_took (image_at h image) end (load s)).floors (load s)) floors-fit (apply_took (image_at h image) end (load s)).records
            (records-fit h end image (load s) b f.point f.size w.fits.records) records;
      }

  pub took-done : {s1 s2 : List ℕ} → Stage s s1 (tabled h end image (load s)) → s2 ≡ stored s1 (set_by h end (load s1))
      → s2 ≡ stored s (apply_took (image_at h image) end (load s))
  took-done g e =
      let st : State = tabled h end image (load s) in
      let pf : StateFits (pointed_by h end st) = fits-point st g.fits h.point (took_point (image_at h []) end) (took-fits h end f) in
      let hf : StateFits (heard_by h end st) = fits-heard (pointed_by h end st) pf (max st.heard h.heard) (omega (arith, g.fits.heard, f.heard)) in
      (stage_next g (set_by h end) e (fits-size (heard_by h end st) hf end f.size) (unfold with_size with_heard with_point in omega arith)).is
      ∙ ap (λ (x : State). stored s x) (took-whole h end image (load s))
