-- What one record of a log holds, and the walk over all of them.
--     image-place                   the place of an image's entry
--     executed_inside, image-there, image-whole     an executed record, and a take's image, lie within the log
--     held, held-image              what the record at a place holds, by what it says
--     latest-done, latest-next      the walk from a place on
--     Walking, walking-..           its loop
-- Assumes nothing.
use Prim.Native.Nat.{ℕ, ◌+◌, ◌-◌, ◌*◌, ◌≤◌, ◌<◌}
use mathlib.Core.Path.{◌≡◌, refl, sym, ap, ◌∙◌}
use mathlib.Core.Bool.{true}
use mathlib.Core.List.{List, []}
use mathlib.Core.Option.{Option as Maybe, none, some}
use native.Mathlib.Omega.{arith}
use denote.Ref.{Bor}
use Rattle.std.specs.Prelude.{Option, Some, None}
use lib.ListN.{length, drop}
use lib.Dec.{ltb}
use borrow.Rule.Slice.PartAt.{part_count}
use Rattle.model.specs.declared.Place.{Place}
use Rattle.model.specs.declared.Executed.{Executed}
use Rattle.model.specs.declared.ImageHead.{ImageHead}
use Rattle.model.specs.Choice.{pick, or_else}
use Rattle.model.specs.Numbers.{word}
use Rattle.model.specs.Refusals.{unknown}
use Rattle.model.specs.Limits.{head_size}
use Rattle.model.specs.Tables.{index_of}
use Rattle.model.specs.Images.{image_entry_of, entry_width, entries_start, image_head, image_head_of, image_at, image_ok}
use Rattle.model.specs.Logs.{LogRecord, executed, executed_size_of, spans, record_at, record_size}
use Rattle.model.specs.Checkpoints.{in_image, place_at, no_place, fronts, place_among, is_entry_id, latest_of, latest_in}
use Rattle.model_laws.specs.Bytes.{Bytes, part}
use Rattle.model_laws.specs.Fits.{IsRecord}
use Rattle.model_laws.proofs.Numbers.{bytes_drop}
use Rattle.model_laws.proofs.Logs.{record_is}
use Rattle.model_laws.proofs.Images.{head-same}
use Rattle.model_laws.proofs.Ends.{join_end}
use Rattle.format_log_reader.specs.declared.Span.{Span}
use Rattle.format_log_reader.specs.declared.Record.{Record}
use Rattle.format_log_reader.specs.declared.Record.TheVariants.{Took}
use Rattle.format_log_reader.specs.declared.Record.TheVariants.{Executed as Performed}
use Rattle.format_log_reader.specs.Answers.{image_in, span_in, record_means, ImagePlaced, Parsed}
use Rattle.format_log_ends.specs.Answers.{extent_from}
use Rattle.format_log_ends.specs.Walked.{ends_from}
use Rattle.format_log_ends.specs.declared.whole.Records.{Records}
use Rattle.format_log_ends.specs.Records.{Ahead, Stepped, from_head}
use Rattle.format_log_ends.proofs.Ends.{from-spans, from_inside}
use Rattle.format_log_ends.proofs.Walked.{ends_from-spans, ends_reached}
use Rattle.server_inspect.specs.Places.{is_row_id, place_in_image, latest_from}
use Rattle.server_inspect.proofs.Rows.{among}

-- ---- an image

pub image-place : (s : List ℕ) (from x c : ℕ) (found : Place) {h : ImageHead} {w at i : ℕ} {r : Place} → h ≡ image_head_of s → w ≡ entry_width h → at ≡ entries_start h.floors
    → i ≡ index_of (is_row_id x c) (fronts w h.entries (drop at s))
    → r ≡ pick (ltb i h.entries) (place_at in_image (from + at + w * i) w) found
    → r ≡ place_in_image x c from (image_in s) found
unfolding place_in_image image_in image_at image_head is_row_id is_entry_id image_entry_of
image-place s from x c found {h} {w} {at} {i} {r} e u v p q =
    let d : ImageHead = image_head_of s in
    let t = is_entry_id x c in
    let a : i ≡ index_of (is_row_id x c) (fronts (entry_width d) d.entries (drop (entries_start d.floors) s)) = rw (u, v, e) at p in
    let b : r ≡ pick (ltb i d.entries) (place_at in_image (from + entries_start d.floors + entry_width d * i) (entry_width d)) found = rw (u, v, e) at q in
    b
    ∙ among (image_entry_of d.timed) t in_image (from + entries_start d.floors) (entry_width d) d.entries (drop (entries_start d.floors) s) found a
    ∙ ap (λ (y : ImageHead). place_among in_image (from + entries_start y.floors) (entry_width y) t (image_at d s).entries found) (sym (head-same d s))

-- ---- one record

says : (log : List ℕ) (at n : ℕ) {r y : Option Record} → Parsed log at n r → r ≡ y → record_means log y ≡ record_at (drop at log)
says log at n p e = sym (ap (record_means log) e) ∙ p.means

-- an executed record's bytes are all there
pub executed_inside : (log : List ℕ) (at n : ℕ) → Bytes log → extent_from log at ≡ spans n → {r : Option Record} {x : Executed} → Parsed log at n r → r ≡ Some (Performed x)
    → at + executed_size_of x.timed ≤ length log
unfolding record_means record_size
executed_inside log at n b w {r} {x} p e =
    let i : IsRecord (drop at log) n (executed x) = record_is (drop at log) (bytes_drop at log b) n (from-spans log at n w) (executed x) (sym (says log at n p e)) in
    omega (arith, i.size, from_inside log at n w)

-- a take's image, at its place
pub image-there : (log : List ℕ) (at n : ℕ) {r : Option Record} {q : Span} → Parsed log at n r → r ≡ Some (Took q) → ImagePlaced log at n q
image-there log at n p e = rw e at p.placed

-- as the log's part that is passed on
pub image-whole : (log : List ℕ) (at n : ℕ) {r : Option Record} {q : Span} → Parsed log at n r → r ≡ Some (Took q) → at + n ≤ length log → length log < word * word
    → (image_ok (part q.from (q.from + q.len - q.from) log) ≡ true) × (q.from + length (part q.from (q.from + q.len - q.from) log) < word * word)
unfolding span_in
image-whole log at n {r} {q} p e l z =
    let i : ImagePlaced log at n q = image-there log at n p e in
    let k : q.from + q.len - q.from ≡ q.len = omega arith in (
      rw k i.ok,
      omega (arith, i.end, part_count log q.from (q.from + q.len) (omega arith, omega (arith, i.end))),
    )

module _ (log : List ℕ) (at n x c : ℕ) (found : Place) {r : Option Record} (p : Parsed log at n r) where
  pub held : {y : Option Record} → r ≡ y → latest_of x c at (record_means log y) found ≡ latest_of x c at (record_at (drop at log)) found
  held e = ap (λ (o : Maybe LogRecord). latest_of x c at o found) (says log at n p e)

  module _ {q : Span} (e : r ≡ Some (Took q)) where
    pub held-image : {v : Place} → v ≡ place_in_image x c q.from (image_in (part q.from (q.from + q.len - q.from) log)) found
        → v ≡ latest_of x c at (record_at (drop at log)) found
    unfolding record_means latest_of place_in_image span_in
    held-image h =
        let k : q.from + q.len - q.from ≡ q.len = omega arith in
        h
        ∙ ap (λ (m : ℕ). place_in_image x c q.from (image_in (part q.from m log)) found) k
        ∙ ap (λ (m : ℕ). place_in_image x c m (image_in (span_in log q)) found) (image-there log at n p e).start
        ∙ held e

-- ---- all records

module _ (x c : ℕ) (log : List ℕ) (at : ℕ) (found : Place) where
  pub latest-done : ends_from log at ≡ some [] → latest_from x c log at found ≡ found
  unfolding latest_from latest_in
  latest-done e = rw e

  pub latest-next : (n : ℕ) → extent_from log at ≡ spans n → latest_from x c log at found ≡ latest_from x c log (at + n) (latest_of x c at (record_at (drop at log)) found)
  unfolding latest_from latest_in join_end
  latest-next n e = ap (λ (w : Maybe (List ℕ)). or_else w (no_place unknown) (λ es. latest_in x c log at es found)) (ends_from-spans log at n e) ∙ on (ends_from log (at + n))
    where
      on : (w : Maybe (List ℕ)) → or_else (join_end (at + n) w) (no_place unknown) (λ es. latest_in x c log at es found)
          ≡ or_else w (no_place unknown) (λ es. latest_in x c log (at + n) es (latest_of x c at (record_at (drop at log)) found))
      on none = refl
      on (some es) = refl

-- the walk is at a place of the log, with a place found: what will be found is the same from there
pub record Walking (x c : ℕ) (log : List ℕ) (first : Place) (w : Records) (found : Place) : Type 0 where
  pub of : w.log.now ≡ log
  pub same : latest_from x c log head_size first ≡ latest_from x c log w.at found

module _ {x c : ℕ} {log : List ℕ} {first : Place} {w : Records} where
  pub walking_start : {end : ℕ} → from_head log end w → Walking x c log first w first
  walking_start e = record { of = e.0; same = rw e.1 }

  module _ {found : Place} (o : Walking x c log first w found) where
    module _ {at n : ℕ} {w' : Records} (s : Stepped w (Some (at, n)) w') where
      pub walking_spans : extent_from log at ≡ spans n
      walking_spans = rw o.of at s.1

      pub walking_next : {r : Place} → r ≡ latest_of x c at (record_at (drop at log)) found → Walking x c log first w' r
      walking_next {r} q = record {
        of = ap (λ (b : Bor (List ℕ)). b.now) s.3 ∙ o.of;
        same =
            o.same
            ∙ ap (λ (k : ℕ). latest_from x c log k found) (sym s.0)
            ∙ latest-next x c log at found n walking_spans
            ∙ rw (s.2, q);
      }

    pub walking_done : Ahead w → {w' : Records} → Stepped w None w' → found ≡ latest_from x c log head_size first
    walking_done a s = sym (o.same ∙ latest-done x c log w.at found (ends_reached log w.at w.end (rw o.of at a) s.0))
