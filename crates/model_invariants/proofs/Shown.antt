-- Inspect, of a server that runs, shows the bytes that hold the completion record.
--     latest-same              the walk over the tail's bytes is the walk over its entries
--     record-shown, image-shown, checkpoint-shown     the part at a place
--     found-shown, shows_tells     what stands at a place is shown there; the part alone tells it
--     log-walks, checkpoint-good   tests that a running server passes
--     inspected                17 where the state has no completion record of the id, else the part that holds it
-- Assumes nothing.
use Prim.Native.Nat.{ℕ, suc, ◌+◌, ◌-◌, ◌*◌, ◌≤◌}
use mathlib.Core.Path.{◌≡◌, refl, sym, ap, ◌∙◌, subst}
use mathlib.Core.Bool.{Bool, true, false, and-false}
use mathlib.Core.List.{List, [], ◌∷◌, ◌++◌, append_assoc, append-nil, Memᴰ}
use mathlib.Core.Option.{Option, none, some}
use native.Mathlib.Omega.{arith}
use lib.ListN.{length, take, drop, length-append, take-append-drop}
use lib.Seq.{take_at, drop_at}
use lib.Dec.{eqb, leb}
use borrow.Author.Tests.{eq-eqb, lt-ltb, le-ltb, le-leb}
use Rattle.model.specs.declared.Completion.{Completion}
use Rattle.model.specs.declared.ImageEntry.{ImageEntry}
use Rattle.model.specs.declared.Executed.{Executed}
use Rattle.model.specs.declared.Place.{Place}
use Rattle.model.specs.Choice.{pick, ◌if◌else◌, passed}
use Rattle.model.specs.Refusals.{unknown, no_refusal}
use Rattle.model.specs.Numbers.{le32, quad, starts_with}
use Rattle.model.specs.Tables.{bytes_of}
use Rattle.model.specs.Limits.{state_size, head_size, floor_row, entry_row, executed_size, take_head, take_kind}
use Rattle.model.specs.Images.{Image, floor_of_bytes, floor_bytes, image_entry_of, image_entry_bytes, entry_row_of, entry_width, entries_start, image_head, image_length, image_head_bytes, image_bytes}
use Rattle.model.specs.Logs.{LogRecord, executed, took, Entry, head_bytes, record_bytes, record_size, take_bytes, executed_size_of, executed_at, executed_bytes, record_at, head_server, head_ok, ends_of, whole_end, last_of, entries_to, entries_bytes}
use Rattle.model.specs.Plan.{plan_bytes}
use Rattle.model.specs.States.{State, completion_of, completion_bytes, is_id, clients_in, load}
use Rattle.model.specs.Apply.{founded, replay_from, with_mark}
use Rattle.model.specs.Decisions.{find, is_none, entry_of_record}
use Rattle.model.specs.Operations.{short, unfit}
use Rattle.model.specs.Checkpoints.{placed_record, end_before, checkpoint_magic, checkpoint_magic_of, checkpoint_record_of, records_part, pairs_bytes, point_front, record_front, record_whole, checkpoint_bytes, record_width, clients_of, restored, checkpoint_state}
use Rattle.model.specs.Checkpoints.{in_checkpoint, place_at, no_place, place_among, latest_of, latest_in, place_in_checkpoint, checkpoint_bad, tail_of, inspect_refusal, inspect_of, shown_of}
use Rattle.model_laws.specs.Bytes.{Bytes, All}
use Rattle.model_laws.specs.Fits.{TimeFits, ImageEntryFits, ImageFits, record_fits, EntriesFrom, last_end, CompletionFits}
use Rattle.model_laws.proofs.Tests.{impossible}
use Rattle.model_laws.proofs.Tables.{row_in, length-rows, bytes_of-append, length-bytes_of, all_member}
use Rattle.model_laws.proofs.Images.{floor_codec, entry_codec, head-length}
use Rattle.model_laws.proofs.States.{completion_codec}
use Rattle.model_laws.proofs.Logs.{head-server, head-back, executed_codec, record-length, log-length, entries-append, entries-back}
use Rattle.model_laws.proofs.TwoWalks.{entries-same, recovered_on_lem}
use Rattle.model_laws.proofs.Fronts.{length-each, record-front-width, form_width, record-whole}
use Rattle.model_laws.proofs.Checkpoints.{framed_is, Timely}
use Rattle.model_laws.proofs.Restored.{restored-clients}
use Rattle.model_invariants.specs.Sound.{GoodCompletion, Other, Distinct, Sound}
use Rattle.model_invariants.specs.History.{Start, DecidedFrom}
use Rattle.model_invariants.specs.Calls.{Holds}
use Rattle.model_invariants.specs.Shown.{StartsFrom, by_checkpoint, by_founding, Shows, of_record, of_image, of_checkpoint, Tells, Inspected}
use Rattle.model_invariants.proofs.Lists.{all_to, all_any}
use Rattle.model_invariants.proofs.Tests.{fits_of, is-id, id-is}
use Rattle.model_invariants.proofs.Decided.{find-has}
use Rattle.model_invariants.proofs.Kept.{founded-start}
use Rattle.model_invariants.proofs.Recovery.{recovers}
use Rattle.model_invariants.proofs.Crash.{replay-end, decided-from, log-recovers}
use Rattle.model_invariants.proofs.FirstWalk.{recovered-length}
use Rattle.model_invariants.proofs.Running.{holds-size}
use Rattle.model_invariants.proofs.Checkpoints.{checkpoint-length}
use Rattle.model_invariants.proofs.Restored.{gives, checkpoint-sound, checkpoint_timely, checkpoint-again}
use Rattle.model_invariants.proofs.Latest.{Once, Split, once-split, split_below, latest_among, Found, before, in_log, in_take, found-latest}

-- ---- the walk over bytes

module _ (x c : ℕ) (log : List ℕ) where
  latest-step : (k end : ℕ) (ends : List ℕ) (es : List Entry) (found : Place) (o : Option LogRecord) (w : Option (List Entry))
      → ((p : Place) (ys : List Entry) → w ≡ some ys → latest_in x c log end ends p ≡ latest_among x c end ys p)
      → elim o [ none ↦ none | some r ↦ elim w [ none ↦ none | some xs ↦ some (record { item = r; end = end } ∷ xs) ] ] ≡ some es
      → latest_in x c log end ends (latest_of x c k o found) ≡ latest_among x c k es found
  unfolding latest_among
  latest-step k end ends es found none w h e = impossible (cc)
  latest-step k end ends es found (some r) none h e = impossible (cc)
  latest-step k end ends es found (some r) (some ys) h e =
      let q : record { item = r; end = end } ∷ ys ≡ es = cc in
      h (latest_of x c k (some r) found) ys refl ∙ ap (λ (l : List Entry). latest_among x c k l found) q

  pub latest-same : (k : ℕ) (ends : List ℕ) (es : List Entry) (found : Place) → entries_to log k ends ≡ some es → latest_in x c log k ends found ≡ latest_among x c k es found
  unfolding entries_to latest_in latest_among
  latest-same k [] es found e = let q : [] ≡ es = cc in ap (λ (l : List Entry). latest_among x c k l found) q
  latest-same k (end ∷ ends) es found e = latest-step k end ends es found (record_at (drop k log)) (entries_to log end ends) (λ p ys. latest-same end ends ys p) e

-- ---- the part at a place

part_at : (s w row v : List ℕ) (k m : ℕ) → s ≡ w ++ (row ++ v) → length w ≡ k → length row ≡ m → take (k + m - k) (drop k s) ≡ row
part_at s w row v k m e p q =
    let z : k + m - k ≡ m = omega arith in
    ap (λ (j : ℕ). take j (drop k s)) z ∙ ap (λ (j : List ℕ). take m (drop k j)) e ∙ ap (take m) (drop_at w (row ++ v) k p) ∙ take_at row v m q

-- the tail at the record behind its entries a
module _ (n : ℕ) (es : List Entry) (tail : List ℕ) (logged : take (last_end head_size es) tail ≡ head_bytes n ++ entries_bytes es) where
  behind : List ℕ
  behind = drop (last_end head_size es) tail

  tail-split : (a b : List Entry) (e : Entry) → es ≡ a ++ (e ∷ b) → tail ≡ (head_bytes n ++ entries_bytes a) ++ (record_bytes e.item ++ (entries_bytes b ++ behind))
  unfolding entries_bytes behind
  tail-split a b e q =
      let r : List ℕ = record_bytes e.item in
      let s : entries_bytes es ≡ entries_bytes a ++ (r ++ entries_bytes b) = ap entries_bytes q ∙ entries-append a (e ∷ b) in
      sym (take-append-drop (last_end head_size es) tail)
      ∙ ap (λ (j : List ℕ). j ++ behind) (logged ∙ ap (λ (j : List ℕ). head_bytes n ++ j) s)
      ∙ rw (
        append_assoc (head_bytes n) (entries_bytes a) (r ++ (entries_bytes b ++ behind)),
        append_assoc (head_bytes n) (entries_bytes a ++ (r ++ entries_bytes b)) behind,
        append_assoc (entries_bytes a) (r ++ entries_bytes b) behind,
        append_assoc r (entries_bytes b) behind,
      )

  record-shown : (a b : List Entry) (x : Executed) (end : ℕ) → es ≡ a ++ (record { item = executed x; end = end } ∷ b) → EntriesFrom head_size a
      → take (last_end head_size a + executed_size_of x.timed - last_end head_size a) (drop (last_end head_size a) tail) ≡ executed_bytes x
  unfolding record_bytes record_size
  record-shown a b x end q f =
      part_at tail (head_bytes n ++ entries_bytes a) (executed_bytes x) (entries_bytes b ++ behind) (last_end head_size a) (executed_size_of x.timed)
      (tail-split a b (record { item = executed x; end = end }) q)
      (log-length n a f) (record-length (executed x))

  -- the bytes of a take before the entries that follow `front`
  image_front : Image → List ImageEntry → List ℕ
  image_front i front =
      quad take_kind 0 0 0 ++ (le32 (image_length i) ++ (image_head_bytes (image_head i) ++ (bytes_of floor_bytes i.floors ++ bytes_of (image_entry_bytes i.timed) front)))

  front_length : (i : Image) (front : List ImageEntry) → length (image_front i front) ≡ take_head + entries_start (length i.floors) + entry_row_of i.timed * length front
  unfolding image_front
  front_length i front =
      let f : List ℕ = bytes_of floor_bytes i.floors in
      let e : List ℕ = bytes_of (image_entry_bytes i.timed) front in
      let h : List ℕ = image_head_bytes (image_head i) in
      omega (arith, length-append h (f ++ e), length-append f e, head-length (image_head i), length-bytes_of floor_codec i.floors, length-bytes_of (entry_codec i.timed) front)

  take_split : (i : Image) (front rest : List ImageEntry) (e : ImageEntry) → i.entries ≡ front ++ (e ∷ rest)
      → take_bytes i ≡ image_front i front ++ (image_entry_bytes i.timed e ++ bytes_of (image_entry_bytes i.timed) rest)
  unfolding take_bytes image_bytes image_front bytes_of
  take_split i front rest e q =
      let enc : ImageEntry → List ℕ = image_entry_bytes i.timed in
      let h : List ℕ = image_head_bytes (image_head i) in
      let f : List ℕ = bytes_of floor_bytes i.floors in
      let u : List ℕ = bytes_of enc front in
      let v : List ℕ = enc e ++ bytes_of enc rest in
      ap (λ (j : List ℕ). quad take_kind 0 0 0 ++ (le32 (image_length i) ++ (h ++ (f ++ j)))) (ap (bytes_of enc) q ∙ bytes_of-append enc front (e ∷ rest))
      ∙ rw (append_assoc h (f ++ u) v, append_assoc f u v)

  image-shown : (a b : List Entry) (i : Image) (end : ℕ) → es ≡ a ++ (record { item = took i; end = end } ∷ b) → EntriesFrom head_size a
      → (front rest : List ImageEntry) (e : ImageEntry) → i.entries ≡ front ++ (e ∷ rest) → (k : ℕ)
      → k ≡ last_end head_size a + take_head + entries_start (length i.floors) + entry_row_of i.timed * length front
      → take (k + entry_row_of i.timed - k) (drop k tail) ≡ image_entry_bytes i.timed e
  unfolding record_bytes
  image-shown a b i end q f front rest e s k z =
      let h : List ℕ = head_bytes n ++ entries_bytes a in
      let w : List ℕ = image_front i front in
      let r : List ℕ = image_entry_bytes i.timed e in
      let v : List ℕ = bytes_of (image_entry_bytes i.timed) rest in
      let u : List ℕ = entries_bytes b ++ behind in
      let t : tail ≡ (h ++ w) ++ (r ++ (v ++ u))
      = tail-split a b (record { item = took i; end = end }) q
      ∙ ap (λ (j : List ℕ). h ++ (j ++ u)) (take_split i front rest e s)
      ∙ rw (append_assoc h w (r ++ (v ++ u)), append_assoc w (r ++ v) u, append_assoc r v u) in
      part_at tail (h ++ w) r (v ++ u) k (entry_row_of i.timed) t (omega (arith, z, length-append h w, log-length n a f, front_length i front)) ((entry_codec i.timed).enc-width e)

-- ---- the row of a checkpoint

records-once : (x c : ℕ) (rs : List Completion) → Distinct rs → Once (is_id x c) rs
records-once x c [] d = tt
records-once x c (r ∷ rs) d = (
  λ (h : is_id x c r ≡ true).
      all_to rs
      (λ (q : Completion) (o : Other r q) (k : is_id x c q ≡ true).
      let a = is-id x c r h in
      let b = is-id x c q k in
      o (a.0 ∙ sym b.0) (a.1 ∙ sym b.1))
      d.0,
  records-once x c rs d.1,
)

module _ (timed : Bool) (st : State) where
  abbrev width : ℕ
  width = checkpoint_record_of timed

  -- the bytes of a checkpoint before its completion records
  before_records : List ℕ
  before_records =
      checkpoint_magic_of timed
      ++ (quad st.server 0 0 0
      ++ (le32 st.heard
      ++ (pairs_bytes width (length st.floors) (length st.records) ++ (plan_bytes st.plan ++ (bytes_of point_front st.points ++ bytes_of floor_bytes st.floors)))))

  row_width : (r : Completion) → length (record_front width r) ≡ width
  row_width r = record-front-width width (omega (arith, (form_width timed).1)) r

  fronts-length : (rs : List Completion) → length (bytes_of (record_front width) rs) ≡ width * length rs
  fronts-length rs = length-each (record_front width) width rs (all_any rs row_width)

  checkpoint-split : checkpoint_bytes timed st ≡ before_records ++ bytes_of (record_front width) st.records
  unfolding checkpoint_bytes before_records pairs_bytes
  checkpoint-split =
      let m : List ℕ = checkpoint_magic_of timed in
      let f : List ℕ = bytes_of point_front st.points in
      let g : List ℕ = bytes_of floor_bytes st.floors in
      let h : List ℕ = bytes_of (record_front width) st.records in
      rw (append_assoc m _ h, append_assoc (plan_bytes st.plan) (f ++ g) h, append_assoc f g h)

  before-length : Sound st → length before_records ≡ records_part (length st.floors)
  before-length S =
      let l = ap length checkpoint-split ∙ length-append before_records (bytes_of (record_front width) st.records) in
      omega (arith, l, checkpoint-length timed st S, fronts-length st.records)

module _ (x c : ℕ) (s : List ℕ) (b : Bytes s) (st : State) (e : checkpoint_state s ≡ some st) where
  abbrev form_of : Bool
  form_of = starts_with s checkpoint_magic

  clients_of_lem : clients_of s ≡ length st.floors
  unfolding load
  clients_of_lem =
      let g = gives s st e in
      sym (ap (λ (j : State). length j.floors) (sym g.same) ∙ length-rows floor_of_bytes floor_row (clients_in (restored s)) _ ∙ restored-clients s (framed_is s g.framed))

  module _ (r : Completion) (m : Memᴰ r st.records) (k : r.command.client ≡ x) (l : r.command.call ≡ c) where
    row : Split (is_id x c) r st.records
    row = once-split (is_id x c) st.records m (id-is x c r k l) (records-once x c st.records (checkpoint-sound s b st e).sound.ids)

    row_at : ℕ
    row_at = records_part (clients_of s) + record_width s * length row.front

    row_place : place_in_checkpoint x c s ≡ place_at in_checkpoint row_at (record_width s)
    unfolding place_in_checkpoint place_among row_at
    row_place =
        let g = gives s st e in
        rw (le-leb 1 (length s) (omega (arith, (framed_is s g.framed).whole)), g.same, lt-ltb _ _ (split_below (is_id x c) st.records row), row.index)

    checkpoint-shown : take (row_at + record_width s - row_at) (drop row_at s) ≡ record_front (record_width s) r
    unfolding row_at bytes_of record_width
    checkpoint-shown =
        let S = (checkpoint-sound s b st e).sound in
        let n : ℕ = checkpoint_record_of form_of in
        let h : List ℕ = before_records form_of st in
        let f : List ℕ = bytes_of (record_front n) row.front in
        let w : List ℕ = record_front n r in
        let v : List ℕ = bytes_of (record_front n) row.rest in
        let u : List ℕ = drop (length (checkpoint_bytes form_of st)) s in
        let q : bytes_of (record_front n) st.records ≡ f ++ (w ++ v) =
        ap (bytes_of (record_front n)) row.same ∙ bytes_of-append (record_front n) row.front (r ∷ row.rest) in
        let t : s ≡ (h ++ f) ++ (w ++ (v ++ u))
        = sym (take-append-drop (length (checkpoint_bytes form_of st)) s)
        ∙ ap (λ (j : List ℕ). j ++ u) (checkpoint-again s b st e ∙ checkpoint-split form_of st ∙ ap (λ (j : List ℕ). h ++ j) q)
        ∙ rw (append_assoc h f (w ++ (v ++ u)), append_assoc h (f ++ (w ++ v)) u, append_assoc f (w ++ v) u, append_assoc w v u) in
        part_at s (h ++ f) w (v ++ u) row_at n t
        (omega (arith, length-append h f, before-length form_of st S, fronts-length form_of st row.front, ap records_part clients_of_lem)) (row_width form_of st r)

-- ---- what stands at a place is shown

starts : {checkpoint : List ℕ} {start : State} → StartsFrom checkpoint start → Start start
starts {checkpoint} {start} (by_checkpoint b e) = checkpoint-sound checkpoint b start e
starts (by_founding plan n g h z q) = subst Start (sym q) (founded-start plan n g h)

-- the part at a place
abbrev part_of : List ℕ → List ℕ → Place → List ℕ
part_of checkpoint tail p = take (p.end - p.start) (drop p.start (pick (eqb p.source in_checkpoint) checkpoint tail))

abbrev Shown : State → List Entry → List ℕ → List ℕ → Completion → Place → Type 0
Shown start es checkpoint tail r p = (p.refusal ≡ no_refusal) × Shows checkpoint start es r p (part_of checkpoint tail p)

at-start : {start : State} → Start start → (r : Completion) → Memᴰ r start.records → r.end ≡ head_size
at-start {start} s r m =
    let g = all_member (GoodCompletion start.plan start.size) s.sound.records m in
    omega (arith, g.past, g.within, s.empty)

before-shown : (start : State) (es : List Entry) (checkpoint tail : List ℕ) (x c : ℕ) → StartsFrom checkpoint start → (r : Completion) → Memᴰ r start.records
    → r.command.client ≡ x → r.command.call ≡ c → Shown start es checkpoint tail r (place_in_checkpoint x c checkpoint)
unfolding founded
before-shown start es checkpoint tail x c (by_checkpoint b e) r m k l =
    subst (Shown start es checkpoint tail r) (sym (row_place x c checkpoint b start e r m k l))
    (refl, of_checkpoint m (at-start (checkpoint-sound checkpoint b start e) r m) refl (checkpoint-shown x c checkpoint b start e r m k l))
before-shown start es checkpoint tail x c (by_founding plan n g h z q) r m k l =
    absurd (mathlib.Core.List.Memᴰ.not-nil (subst (λ (j : State). Memᴰ r j.records) q m))

member_at : {e : Entry} (es a b : List Entry) → es ≡ a ++ (e ∷ b) → Memᴰ e es
member_at {e} es a b q = subst (λ (j : List Entry). Memᴰ e j) (sym q) (mathlib.Core.List.Memᴰ.append_right a (mathlib.Core.List.Memᴰ.head refl))

module _ (start : State) (es : List Entry) (checkpoint tail : List ℕ) (x c : ℕ) (F : StartsFrom checkpoint start)
    (logged : take (last_end head_size es) tail ≡ head_bytes start.server ++ entries_bytes es) where
  found-shown : (r : Completion) (p : Place) → r.command.client ≡ x → r.command.call ≡ c → Found start (place_in_checkpoint x c checkpoint) es r p
      → Shown start es checkpoint tail r p
  unfolding entry_width image_head
  found-shown r p k l (before m q) = subst (Shown start es checkpoint tail r) (sym q) (before-shown start es checkpoint tail x c F r m k l)
  found-shown r p k l (in_log a b y s f d t n q) =
      subst (Shown start es checkpoint tail r) (sym q)
      (refl, of_record y (member_at es a b s) d t refl (sym n) (record-shown start.server es tail logged a b y r.end s f))
  found-shown r p k l (in_take a b i s f d u v t n q) =
      let m : ℕ = entry_row_of i.timed in
      let at : ℕ = last_end head_size a + take_head + entries_start (length i.floors) + m * length u in
      let w : length i.entries ≡ length u + suc (length v) = ap length t ∙ length-append u (entry_of_record r ∷ v) in
      let z : record_size (took i) ≡ take_head + (entries_start (length i.floors) + m * length i.entries) = unfold record_size image_length in refl in
      let l : m * length u + m ≤ m * length i.entries = row_in m (length u) (length i.entries) (omega (arith, w)) in
      let here : Memᴰ (entry_of_record r) i.entries = subst (λ (j : List ImageEntry). Memᴰ (entry_of_record r) j) (sym t) (mathlib.Core.List.Memᴰ.append_right u (mathlib.Core.List.Memᴰ.head refl)) in
      subst (Shown start es checkpoint tail r) (sym q)
      (refl, of_image i (member_at es a b s) d here refl (omega (arith, n, z)) (omega (arith, n, z)) (image-shown start.server es tail logged a b i r.end s f u v (entry_of_record r) t at refl))

-- ---- the part tells the record

from_member : {e : Entry} (k : ℕ) (es : List Entry) → EntriesFrom k es → Memᴰ e es → record_fits e.item
from_member k (y ∷ es) f (mathlib.Core.List.Memᴰ.head q) = subst (λ (j : Entry). record_fits j.item) (sym q) f.0.fits
from_member k (y ∷ es) f (mathlib.Core.List.Memᴰ.tail m) = from_member y.end es f.1 m
from_member {e = e} k [] f m = elim m [ ]

row_tells : (timed : Bool) (r : Completion) → CompletionFits r → TimeFits timed r.result.time → r.end ≡ head_size
    → completion_of (record_whole (checkpoint_record_of timed) (record_front (checkpoint_record_of timed) r)) ≡ r
unfolding placed_record end_before
row_tells timed r f t z =
    let w : ℕ = checkpoint_record_of timed in
    let b : end_before r.end ≡ head_size = rw z in
    let q : placed_record end_before r ≡ r = λ i. record { command = r.command; result = r.result; end = (b ∙ sym z) i } in
    let u : record_whole w (record_front w r) ≡ completion_bytes (placed_record end_before r) = rw append-nil at (record-whole timed r [] (t, b)) in
    ap completion_of (u ∙ ap completion_bytes q) ∙ rw append-nil at (completion_codec.dec-enc r [] f)

-- the form by the length
executed_form : (timed : Bool) → eqb (executed_size_of timed) executed_size ≡ timed
unfolding executed_size_of
executed_form true = refl
executed_form false = refl

entry_form : (timed : Bool) → eqb (entry_row_of timed) entry_row ≡ timed
unfolding entry_row_of
entry_form true = refl
entry_form false = refl

executed-tells : (y : Executed) → record_fits (executed y) → executed_at (eqb (length (executed_bytes y)) executed_size) (executed_bytes y) ≡ y
unfolding record_bytes record_size
executed-tells y f =
    rw (record-length (executed y), executed_form y.timed) (rw append-nil at ((executed_codec y.timed).dec-enc y [] (f, refl)))

entry-tells : (timed : Bool) (e : ImageEntry) → ImageEntryFits timed e → image_entry_of (eqb (length (image_entry_bytes timed e)) entry_row) (image_entry_bytes timed e) ≡ e
entry-tells timed e f = rw ((entry_codec timed).enc-width e, entry_form timed) (rw append-nil at ((entry_codec timed).dec-enc e [] f))

-- the times of what a tail starts from fit the checkpoint's form
start-time : {checkpoint : List ℕ} {start : State} → StartsFrom checkpoint start → (r : Completion) → Memᴰ r start.records
    → TimeFits (starts_with checkpoint checkpoint_magic) r.result.time
unfolding founded Timely
start-time {checkpoint} {start} (by_checkpoint b e) r m =
    all_member (λ (j : Completion). TimeFits (starts_with checkpoint checkpoint_magic) j.result.time) (checkpoint_timely checkpoint b start e) m
start-time (by_founding plan n g h z q) r m = absurd (mathlib.Core.List.Memᴰ.not-nil (subst (λ (j : State). Memᴰ r j.records) q m))

shows_tells : {checkpoint : List ℕ} {start : State} {r : Completion} {p : Place} {part : List ℕ} (es : List Entry) → StartsFrom checkpoint start → EntriesFrom head_size es
    → CompletionFits r → Shows checkpoint start es r p part → Tells r p part
unfolding record_width
shows_tells {checkpoint} {start} {r} {p} {part} es s g f (of_record y m c t q n e) =
    let k : executed_at (eqb (length part) executed_size) part ≡ y
    = ap (λ (j : List ℕ). executed_at (eqb (length j) executed_size) j) e ∙ executed-tells y (from_member head_size es g m) in
    record {
      record-tells = λ h. (ap (λ (j : Executed). j.command) k ∙ c, ap (λ (j : Executed). j.result) k ∙ t);
      image-tells = λ h. absurd (omega (arith, q, h));
      checkpoint-tells = λ h. absurd (omega (arith, q, h));
    }
shows_tells {checkpoint} {start} {r} {p} {part} es s g f (of_image i m c w q n u e) =
    let fits : ImageFits i = from_member head_size es g m in
    record {
      record-tells = λ h. absurd (omega (arith, q, h));
      image-tells = λ h.
          ap (λ (j : List ℕ). image_entry_of (eqb (length j) entry_row) j) e
          ∙ entry-tells i.timed (entry_of_record r) (all_member (ImageEntryFits i.timed) fits.entries w);
      checkpoint-tells = λ h. absurd (omega (arith, q, h));
    }
shows_tells {checkpoint} {start} {r} {p} {part} es s g f (of_checkpoint m z q e) =
    let timed : Bool = starts_with checkpoint checkpoint_magic in
    let w : ℕ = checkpoint_record_of timed in
    record {
      record-tells = λ h. absurd (omega (arith, q, h));
      image-tells = λ h. absurd (omega (arith, q, h));
      checkpoint-tells = λ h.
          ap (λ (j : List ℕ). completion_of (record_whole (length j) j)) e
          ∙ ap (λ (j : ℕ). completion_of (record_whole j (record_front w r))) (row_width timed start r) ∙ row_tells timed r f (start-time s r m) z;
    }

-- ---- inspect

all_self : (rs : List Completion) → All (λ (q : Completion). Memᴰ q rs) rs
all_self [] = tt
all_self (r ∷ rs) = (mathlib.Core.List.Memᴰ.head refl, all_to rs (λ (q : Completion) (m : Memᴰ q rs). mathlib.Core.List.Memᴰ.tail m) (all_self rs))

-- the first walk over a log that a server wrote finds its ends, and between them its entries
record Walks (log : List ℕ) (es : List Entry) : Type 0 where
  ends : List ℕ
  found : ends_of log ≡ some ends
  read : entries_to log head_size ends ≡ some es

last_found : Option (List ℕ) → Option ℕ
last_found w = elim w [ none ↦ none | some es ↦ some (last_of head_size es) ]

log-walks : (start : State) → Start start → (es : List Entry) → DecidedFrom start es → Walks (head_bytes start.server ++ entries_bytes es) es
unfolding ends_of whole_end last_found
log-walks start s es d = go (ends_of log) refl
  where
    log : List ℕ
    log = head_bytes start.server ++ entries_bytes es

    ok : head_ok log ≡ true
    ok = head-back start.server (entries_bytes es) s.sound.server

    whole : whole_end log ≡ some (replay_from start es).size
    whole =
        recovered-length log start (replay_from start es) s.empty
        (recovered_on_lem log start ok ∙ rw append-nil at (log-recovers s start.server es [] d tt))

    go : (o : Option (List ℕ)) → ends_of log ≡ o → Walks log es
    go none e = let q : none ≡ some (replay_from start es).size = sym (ap last_found e) ∙ whole in impossible (cc)
    go (some ends) e =
        record {
          ends = ends;
          found = e;
          read = entries-same log ends (rw (ok, ends_of) at e) ∙ rw append-nil at (entries-back start.server es [] (decided-from s es d) tt);
        }

checkpoint-good : (start : State) (checkpoint tail : List ℕ) → StartsFrom checkpoint start → head_server tail ≡ start.server → checkpoint_bad checkpoint tail ≡ false
unfolding checkpoint_bad
checkpoint-good start checkpoint tail (by_checkpoint b e) h = rw (e, eq-eqb (head_server tail) start.server h) (and-false (leb 1 (length checkpoint)))
checkpoint-good start checkpoint tail (by_founding plan n g l z q) h = rw z

module _ (start : State) (es : List Entry) (state checkpoint tail : List ℕ) (F : StartsFrom checkpoint start) (H : Holds start es state tail) (l : state_size ≤ length state)
    (f : (load state).size ≤ length tail) where
  started : Start start
  started = starts F

  tail_of_lem : tail_of state tail ≡ head_bytes start.server ++ entries_bytes es
  unfolding tail_of
  tail_of_lem = ap (λ (k : ℕ). take k tail) (holds-size started es state tail H ∙ replay-end started es) ∙ H.logged

  walks : Walks (tail_of state tail) es
  walks = subst (λ (j : List ℕ). Walks j es) (sym tail_of_lem) (log-walks start started es H.decided)

  server_of_lem : head_server tail ≡ start.server
  server_of_lem =
      let k : ℕ = last_end head_size es in
      ap head_server (sym (take-append-drop k tail) ∙ ap (λ (j : List ℕ). j ++ drop k tail) H.logged ∙ append_assoc (head_bytes start.server) (entries_bytes es) (drop k tail))
      ∙ head-server start.server (entries_bytes es ++ drop k tail)

  records_of_lem : (load state).records ≡ (replay_from start es).records
  unfolding with_mark
  records_of_lem = ap (λ (j : State). j.records) H.same

  module _ (x c : ℕ) where
    tests : inspect_refusal state checkpoint tail x c ≡ (unknown if is_none (find x c (load state).records) else passed)
    unfolding inspect_refusal short unfit
    tests = rw (le-ltb (length state) state_size l, H.sound, le-ltb (length tail) (load state).size f, checkpoint-good start checkpoint tail F server_of_lem, walks.found)

    inspect-missing : find x c (load state).records ≡ none → inspect_of state checkpoint tail x c ≡ no_place unknown
    unfolding inspect_of is_none
    inspect-missing h = rw (tests, h)

    inspect-latest : (r : Completion) → find x c (load state).records ≡ some r
        → inspect_of state checkpoint tail x c ≡ latest_among x c head_size es (place_in_checkpoint x c checkpoint)
    unfolding inspect_of is_none
    inspect-latest r h = rw (tests, h, walks.found) (latest-same x c (tail_of state tail) head_size walks.ends es (place_in_checkpoint x c checkpoint) walks.read)

    inspect-shown : (r : Completion) → find x c (load state).records ≡ some r → Shown start es checkpoint tail r (inspect_of state checkpoint tail x c)
    inspect-shown r h =
        let m = find-has (λ (q : Completion). Memᴰ q (load state).records) x c (load state).records r h (all_self (load state).records) in
        let p : Place = latest_among x c head_size es (place_in_checkpoint x c checkpoint) in
        let g : Found start (place_in_checkpoint x c checkpoint) es r p
        = found-latest start (place_in_checkpoint x c checkpoint) x c started es H.decided (λ q i j k. before i refl) r (rw records_of_lem at m.0) m.1 m.2 in
        subst (Shown start es checkpoint tail r) (sym (inspect-latest r h)) (found-shown start es checkpoint tail x c F H.logged r p m.1 m.2 g)

    record-fits : (r : Completion) → find x c (load state).records ≡ some r → CompletionFits r
    record-fits r h =
        let f = fits_of (replay_from start es) (recovers started es H.decided).sound in
        (find-has CompletionFits x c (load state).records r h (subst (All CompletionFits) (sym records_of_lem) f.records)).0

    pub inspected : Inspected start es state checkpoint tail x c
    unfolding shown_of
    inspected =
        record {
          missing = inspect-missing;
          passes = λ r h. (inspect-shown r h).0;
          shown = λ r h. (inspect-shown r h).1;
          tells = λ r h. shows_tells es F (decided-from started es H.decided) (record-fits r h) (inspect-shown r h).1;
        }
