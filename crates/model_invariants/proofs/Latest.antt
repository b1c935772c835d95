-- The latest place of an id among a log's entries is that of the state's completion record, if it has one.
--     Split, once-split, index_has     the one element that passes a test, and its index
--     latest_among, latest-append       the walk over entries; one more at the end
--     Found                            where a completion record stands: before the log, in a log record, in a take's image
--     found-latest                     every completion record of a decided log's state stands at its id's latest place
-- Assumes nothing.
use Prim.Native.Nat.{ℕ, suc, ◌+◌, ◌*◌, ◌<◌}
use mathlib.Core.Path.{◌≡◌, refl, sym, ap, ◌∙◌, subst}
use mathlib.Core.Bool.{Bool, true, false, ◌&&◌}
use mathlib.Core.List.Memᴰ
use mathlib.Core.List.{List, [], ◌∷◌, ◌++◌, map, append_assoc, Memᴰ}
use mathlib.Core.Logic.{◌⊎◌, inl, inr}
use mathlib.Core.Option.{some}
use native.Mathlib.Omega.{arith}
use lib.ListN.{length, length-append}
use lib.Dec.{eqb, ltb}
use borrow.Author.Tests.{ltb-true, lt-ltb, not-true}
use Rattle.model.specs.declared.Completion.{Completion}
use Rattle.model.specs.declared.ImageEntry.{ImageEntry}
use Rattle.model.specs.declared.Executed.{Executed}
use Rattle.model.specs.declared.Place.{Place}
use Rattle.model.specs.Choice.{pick}
use Rattle.model.specs.Limits.{head_size, take_head}
use Rattle.model.specs.Tables.{keep, index_of}
use Rattle.model.specs.Images.{Image, entry_width, entries_start, image_head}
use Rattle.model.specs.Logs.{LogRecord, executed, gone, gave, took, released, Entry, record_size, executed_size_of}
use Rattle.model.specs.States.{State}
use Rattle.model.specs.Apply.{is_on_other, completion, taken_record, apply_executed, apply_gone, apply_gave, apply_took, apply_released, apply_record, apply, replay_from}
use Rattle.model.specs.Decisions.{follows, entry_of_record}
use Rattle.model.specs.Checkpoints.{in_record, in_image, place_at, place_among, is_entry_id, latest_of}
use Rattle.model_laws.specs.Bytes.{All}
use Rattle.model_laws.specs.Fits.{EntriesFrom, last_end}
use Rattle.model_laws.proofs.Reflects.{eq, both}
use Rattle.model_laws.proofs.Tables.{all_member, keep_member, every_member, every-keep}
use Rattle.model_invariants.specs.Sound.{GoodRecord, Before, EntriesAscending}
use Rattle.model_invariants.specs.Passed.{FreeFor}
use Rattle.model_invariants.specs.History
use Rattle.model_invariants.specs.History.{StartBy, DecidedBy, entry_for, next}
use Rattle.model_invariants.proofs.Lists.{all_to, impossible}
use Rattle.model_invariants.proofs.Floors.{eqb_no}
use Rattle.model_invariants.proofs.Kept.{executed-follows, took-follows, decided-good, decided-follows}
use Rattle.model_invariants.proofs.Recovery.{from_next, recovers}
use Rattle.model_invariants.proofs.Crash.{replay-end, decided-from}

-- ---- the one element that passes a test

-- at most one passes the test t
abbrev pub Once : {A : Type 0} → (A → Bool) → List A → Type 0
Once t [] = Unit
Once t (y ∷ ys) = (t y ≡ true → All (λ z. t z ≡ true → ⊥) ys) × Once t ys

-- the list with x at its index, which is the first one that passes t
pub record Split {A : Type 0} (t : A → Bool) (x : A) (xs : List A) : Type 0 where
  pub front : List A
  pub rest : List A
  pub same : xs ≡ front ++ (x ∷ rest)
  pub index : index_of t xs ≡ length front

-- an element that passes t
record Has {A : Type 0} (t : A → Bool) (xs : List A) : Type 0 where
  item : A
  member : Memᴰ item xs
  passes : t item ≡ true

module _ {A : Type 0} (t : A → Bool) where
  pub once-split : {x : A} (xs : List A) → Memᴰ x xs → t x ≡ true → Once t xs → Split t x xs
  unfolding index_of
  once-split {x} (y ∷ ys) (Memᴰ.head e) h o =
      let k : t y ≡ true = ap t (sym e) ∙ h in
      record { front = []; rest = ys; same = ap (λ (z : A). z ∷ ys) (sym e); index = rw k }
  once-split {x} (y ∷ ys) (Memᴰ.tail m) h o = go (t y) refl (once-split ys m h o.1)
    where
      go : (b : Bool) → t y ≡ b → Split t x ys → Split t x (y ∷ ys)
      go true k s = absurd (all_member (λ z. t z ≡ true → ⊥) (o.0 k) m h)
      go false k s = record { front = y ∷ s.front; rest = s.rest; same = ap (λ (l : List A). y ∷ l) s.same; index = rw k (ap suc s.index) }
  once-split {x = x} [] m h o = elim m [ ]

  pub split_below : {x : A} (xs : List A) → Split t x xs → index_of t xs < length xs
  split_below {x} xs s = let l = ap length s.same ∙ length-append s.front (x ∷ s.rest) in omega (arith, s.index, l)

  index_has : (xs : List A) → index_of t xs < length xs → Has t xs
  unfolding index_of
  index_has [] h = absurd (omega arith)
  index_has (y ∷ ys) h = go (t y) refl h (index_has ys)
    where
      go : (b : Bool) → t y ≡ b → pick b 0 (suc (index_of t ys)) < suc (length ys) → (index_of t ys < length ys → Has t ys) → Has t (y ∷ ys)
      go true k l ih = record { item = y; member = Memᴰ.head refl; passes = k }
      go false k l ih = let s = ih (omega arith) in record { item = s.item; member = Memᴰ.tail s.member; passes = s.passes }

-- ---- the walk over entries

-- the latest place of the id among entries from place k on; `found` where there is none
unfoldable pub latest_among : ℕ → ℕ → ℕ → List Entry → Place → Place
latest_among x c k [] found = found
latest_among x c k (e ∷ es) found = latest_among x c e.end es (latest_of x c k (some e.item) found)

pub latest-append : (x c k : ℕ) (es : List Entry) (e : Entry) (found : Place)
    → latest_among x c k (es ++ (e ∷ [])) found ≡ latest_of x c (last_end k es) (some e.item) (latest_among x c k es found)
unfolding latest_among last_end
latest-append x c k [] e found = refl
latest-append x c k (y ∷ es) e found = latest-append x c y.end es e (latest_of x c k (some y.item) found)

-- where the entries of the image of a take start, which stands behind the entries a
abbrev pub entries_at : List Entry → Image → ℕ
entries_at a i = last_end head_size a + take_head + entries_start (length i.floors)

-- the completion record r stands at p: before the log, whose first place is `first`; or in the log es, behind its entries a
pub data Found (start : State) (first : Place) (es : List Entry) (r : Completion) (p : Place) : Type 0 where
  before : Memᴰ r start.records → p ≡ first → Found start first es r p
  in_log : (a b : List Entry) (x : Executed) → es ≡ a ++ (record { item = executed x; end = r.end } ∷ b) → EntriesFrom head_size a
      → x.command ≡ r.command → x.result ≡ r.result → r.end ≡ last_end head_size a + executed_size_of x.timed
      → p ≡ place_at in_record (last_end head_size a) (executed_size_of x.timed) → Found start first es r p
  in_take : (a b : List Entry) (i : Image) → es ≡ a ++ (record { item = took i; end = r.end } ∷ b) → EntriesFrom head_size a
      → i.point ≡ r.command.point → (front rest : List ImageEntry) → i.entries ≡ front ++ (entry_of_record r ∷ rest)
      → r.end ≡ last_end head_size a + record_size (took i) → p ≡ place_at in_image (entries_at a i + entry_width (image_head i) * length front) (entry_width (image_head i)) → Found start first es r p

found-more : (start : State) (first : Place) (es : List Entry) (e : Entry) (r : Completion) (p : Place) → Found start first es r p → Found start first (es ++ (e ∷ [])) r p
found-more start first es e r p (before m q) = before m q
found-more start first es e r p (in_log a b x s f c t n q) =
    in_log a (b ++ (e ∷ [])) x (ap (λ (l : List Entry). l ++ (e ∷ [])) s ∙ append_assoc a (record { item = executed x; end = r.end } ∷ b) (e ∷ [])) f c t n q
found-more start first es e r p (in_take a b i s f c u v t n q) =
    in_take a (b ++ (e ∷ [])) i (ap (λ (l : List Entry). l ++ (e ∷ [])) s ∙ append_assoc a (record { item = took i; end = r.end } ∷ b) (e ∷ [])) f c u v t n q

-- ---- the entries of an image

entry-id : (x c : ℕ) (e : ImageEntry) → is_entry_id x c e ≡ true → (e.client ≡ x) × (e.call ≡ c)
unfolding is_entry_id
entry-id x c e h = (both (eq e.client x) (eq e.call c)).holds h

id-entry : (x c : ℕ) (e : ImageEntry) → e.client ≡ x → e.call ≡ c → is_entry_id x c e ≡ true
unfolding is_entry_id
id-entry x c e p q = (both (eq e.client x) (eq e.call c)).passes (p, q)

entries-once : (x c : ℕ) (es : List ImageEntry) → EntriesAscending es → Once (is_entry_id x c) es
entries-once x c [] a = tt
entries-once x c (e ∷ es) a = (
  λ (h : is_entry_id x c e ≡ true).
      all_to es
      (λ (f : ImageEntry) (b : Before e f) (k : is_entry_id x c f ≡ true).
      let p = entry-id x c e h in
      let q = entry-id x c f k in
      let l : e.call < f.call = b.call (p.0 ∙ sym q.0) in
      omega (arith, p.1, q.1))
      a.0,
  entries-once x c es a.1,
)

-- a completion record of a taken image is one of its entries
record Taken (p end : ℕ) (es : List ImageEntry) (r : Completion) : Type 0 where
  entry : ImageEntry
  member : Memᴰ entry es
  same : r ≡ taken_record p end entry

taken-from : (p end : ℕ) (es : List ImageEntry) (r : Completion) → Memᴰ r (map (taken_record p end) es) → Taken p end es r
taken-from p end (e ∷ es) r (Memᴰ.head q) = record { entry = e; member = Memᴰ.head refl; same = q }
taken-from p end (e ∷ es) r (Memᴰ.tail m) =
    let k = taken-from p end es r m in
    record { entry = k.entry; member = Memᴰ.tail k.member; same = k.same }
taken-from p end [] r m = elim m [ ]

-- ---- one more record

module _ (start : State) (first : Place) (x c : ℕ) where
  -- each completion record of the id among rs stands at p of the log es
  abbrev pub Standing : List Entry → Place → List Completion → Type 0
  Standing es p rs = (r : Completion) → Memᴰ r rs → r.command.client ≡ x → r.command.call ≡ c → Found start first es r p

  standing-more : (es : List Entry) (e : Entry) (p : Place) (rs qs : List Completion) → ((r : Completion) → Memᴰ r qs → Memᴰ r rs) → Standing es p rs
      → Standing (es ++ (e ∷ [])) p qs
  standing-more es e p rs qs f S r m k l = found-more start first es e r p (S r (f r m) k l)

  module _ (es : List Entry) (F : EntriesFrom head_size es) (st : State) (z : st.size ≡ last_end head_size es) (p : Place) (S : Standing es p st.records) where
    executed-standing : (y : Executed) → follows st (executed y) ≡ true
        → Standing (es ++ (entry_for st (executed y) ∷ [])) (latest_of x c (last_end head_size es) (some (executed y)) p) (apply_executed y (st.size + executed_size_of y.timed) st).records
    unfolding apply_executed completion latest_of record_size
    executed-standing y h r m k l = go (eqb y.command.client x && eqb y.command.call c) refl (Memᴰ.append_cases st.records (keep_member _ _ m))
      where
        new : r ≡ completion y (st.size + executed_size_of y.timed)
            → Found start first (es ++ (entry_for st (executed y) ∷ [])) r (place_at in_record (last_end head_size es) (executed_size_of y.timed))
        new q =
            let n : r.end ≡ st.size + executed_size_of y.timed = ap (λ (i : Completion). i.end) q in
            in_log es [] y (ap (λ (i : ℕ). es ++ (record { item = executed y; end = i } ∷ [])) (sym n)) F (sym (ap (λ (i : Completion). i.command) q)) (sym (ap (λ (i : Completion). i.result) q))
            (n ∙ ap (λ (i : ℕ). i + executed_size_of y.timed) z) refl

        go : (b : Bool) → (eqb y.command.client x && eqb y.command.call c) ≡ b → Memᴰ r st.records ⊎ Memᴰ r (completion y (st.size + executed_size_of y.timed) ∷ [])
            → Found start first (es ++ (entry_for st (executed y) ∷ [])) r (pick b (place_at in_record (last_end head_size es) (executed_size_of y.timed)) p)
        go true i (inl old) =
            let a = (both (eq y.command.client x) (eq y.command.call c)).holds i in
            absurd (all_member _ (executed-follows st y h).0.fresh old (k ∙ sym a.0) (l ∙ sym a.1))
        go true i (inr here) = new (Memᴰ.eq_of_singleton here)
        go false i (inl old) = found-more start first es (entry_for st (executed y)) r p (S r old k l)
        go false i (inr here) =
            let q = Memᴰ.eq_of_singleton here in
            let a : y.command.client ≡ x = sym (ap (λ (j : Completion). j.command.client) q) ∙ k in
            let d : y.command.call ≡ c = sym (ap (λ (j : Completion). j.command.call) q) ∙ l in
            impossible (sym ((both (eq y.command.client x) (eq y.command.call c)).passes (a, d)) ∙ i)

    -- an image is taken that has an entry of the id: no completion record of another point has it
    took-other : (i : Image) → follows st (took i) ≡ true → Has (is_entry_id x c) i.entries → (r : Completion) → Memᴰ r (keep (is_on_other i.point) st.records)
        → r.command.client ≡ x → r.command.call ≡ c → ⊥
    unfolding is_on_other
    took-other i h e r m k l =
        let d = entry-id x c e.item e.passes in
        let f : FreeFor i.point st.records e.item = all_member (FreeFor i.point st.records) (took-follows st i h).free e.member in
        let at : r.command.point ≡ i.point = all_member _ f (keep_member (is_on_other i.point) st.records m) (k ∙ sym d.0) (l ∙ sym d.1) in
        let kept = every-keep (is_on_other i.point) st.records in
        let n : eqb r.command.point i.point ≡ false = not-true _ (every_member (is_on_other i.point) (keep (is_on_other i.point) st.records) kept m) in
        eqb_no _ _ n at

    took-here : (i : Image) → EntriesAscending i.entries → (r : Completion) → Taken i.point (st.size + record_size (took i)) i.entries r → r.command.client ≡ x → r.command.call ≡ c
        → (index_of (is_entry_id x c) i.entries < length i.entries)
        × Found start first (es ++ (entry_for st (took i) ∷ [])) r
        (place_at in_image (entries_at es i + entry_width (image_head i) * index_of (is_entry_id x c) i.entries) (entry_width (image_head i)))
    unfolding taken_record entry_of_record
    took-here i a r T k l =
        let t = is_entry_id x c in
        let q = T.same in
        let e = T.entry in
        let k' : e.client ≡ x = sym (ap (λ (j : Completion). j.command.client) q) ∙ k in
        let l' : e.call ≡ c = sym (ap (λ (j : Completion). j.command.call) q) ∙ l in
        let s : Split t e i.entries = once-split t i.entries T.member (id-entry x c e k' l') (entries-once x c i.entries a) in
        let n : r.end ≡ st.size + record_size (took i) = ap (λ (j : Completion). j.end) q in
        let same : i.entries ≡ s.front ++ (entry_of_record r ∷ s.rest) = subst (λ (j : ImageEntry). i.entries ≡ s.front ++ (j ∷ s.rest)) (sym (ap entry_of_record q)) s.same in (
          split_below t i.entries s,
          in_take es [] i (ap (λ (j : ℕ). es ++ (record { item = took i; end = j } ∷ [])) (sym n)) F (sym (ap (λ (j : Completion). j.command.point) q)) s.front s.rest
              same (n ∙ ap (λ (j : ℕ). j + record_size (took i)) z)
              (ap (λ (j : ℕ). place_at in_image (entries_at es i + entry_width (image_head i) * j) (entry_width (image_head i))) s.index),
        )

    took-standing : (i : Image) → EntriesAscending i.entries → follows st (took i) ≡ true
        → Standing (es ++ (entry_for st (took i) ∷ [])) (latest_of x c (last_end head_size es) (some (took i)) p) (apply_took i (st.size + record_size (took i)) st).records
    unfolding apply_took latest_of place_among
    took-standing i a h r m k l =
        go (ltb (index_of (is_entry_id x c) i.entries) (length i.entries)) refl (Memᴰ.append_cases (keep (is_on_other i.point) st.records) (keep_member _ _ m))
      where
        go : (b : Bool) → ltb (index_of (is_entry_id x c) i.entries) (length i.entries) ≡ b
            → Memᴰ r (keep (is_on_other i.point) st.records) ⊎ Memᴰ r (map (taken_record i.point (st.size + record_size (took i))) i.entries)
            → Found start first (es ++ (entry_for st (took i) ∷ [])) r
            (pick b (place_at in_image (entries_at es i + entry_width (image_head i) * index_of (is_entry_id x c) i.entries) (entry_width (image_head i))) p)
        go true q (inl old) = absurd (took-other i h (index_has (is_entry_id x c) i.entries (ltb-true _ _ q)) r old k l)
        go true q (inr new) = (took-here i a r (taken-from _ _ i.entries r new) k l).1
        go false q (inl old) = found-more start first es (entry_for st (took i)) r p (S r (keep_member _ _ old) k l)
        go false q (inr new) = impossible (sym (lt-ltb _ _ (took-here i a r (taken-from _ _ i.entries r new) k l).0) ∙ q)

    record-standing : (r : LogRecord) → GoodRecord r → follows st r ≡ true
        → Standing (es ++ (entry_for st r ∷ [])) (latest_of x c (last_end head_size es) (some r) p) (apply_record r (st.size + record_size r) st).records
    unfolding apply_record record_size
    record-standing (executed y) G h = executed-standing y h
    record-standing (gone n) G h = unfold latest_of apply_gone in standing-more es (entry_for st (gone n)) p st.records _ (λ r m. keep_member _ _ m) S
    record-standing (gave g) G h = unfold latest_of apply_gave in standing-more es (entry_for st (gave g)) p st.records _ (λ r m. m) S
    record-standing (took i) G h = took-standing i G.ids h
    record-standing (released y) G h = unfold latest_of apply_released in standing-more es (entry_for st (released y)) p st.records _ (λ r m. keep_member _ _ m) S

  -- ---- a decided log

  pub found-latest : {P : ℕ → Type 0} → StartBy P start → (es : List Entry) → DecidedBy P start es → Standing [] first start.records
      → Standing es (latest_among x c head_size es first) (replay_from start es).records
  unfolding replay_from latest_among apply
  found-latest s es History.none S = S
  found-latest s es' (next es free r d D z) S =
      let now = replay_from start es in
      let R = (recovers s es d).sound in
      let e = entry_for now r in
      let good = decided-good now free r R D in
      let T = record-standing es (decided-from s es d) now (replay-end s es) (latest_among x c head_size es first) (found-latest s es d S) r good (decided-follows now free r R D) in
      rw (latest-append x c head_size es e first, from_next start es e) T
