-- Images: the tests against their propositions, and the image of a sound state's given point.
--     before, before-test                id_before;    entries_ascend, ascend-entries: ids_ascend
--     image-entry-fits                   what image_entry_ok says, fits
--     image_of_lem, image-well, image-fits   a well-formed image that fits is GoodImage
--     sort_all, sort_length, sort_ascending     sort_entries
--     image-good                         the image of a point of a sound state is well formed, its values in range
--     image-short                        and has at most 10,544 bytes in the first form, 12,592 in the second
-- Assumes nothing.
use Prim.Native.Nat.{ℕ, suc, ◌+◌, ◌*◌, ◌≤◌, ◌<◌}
use mathlib.Core.Path.{◌≡◌, refl, sym, ap, ◌∙◌, subst}
use mathlib.Core.Bool.{Bool, true, false, ◌&&◌, ◌||◌, false≢true}
use mathlib.Core.List.{List, [], ◌∷◌, map}
use mathlib.Core.Logic.{◌≢◌}
use native.Mathlib.Omega.{arith}
use lib.ListN.{length, length-map}
use lib.Dec.{eqb, ltb}
use borrow.Author.Tests.{eqb-true, ltb-true, ltb-false}
use Rattle.model.specs.declared.Floor.{Floor}
use Rattle.model.specs.declared.Completion.{Completion}
use Rattle.model.specs.declared.ImageEntry.{ImageEntry}
use Rattle.model.specs.Versions.{Versions}
use Rattle.model.specs.Choice.{pick}
use Rattle.model.specs.Tables.{every, keep}
use Rattle.model.specs.Limits.{last_point, last_server, last_quality, client_count, record_count}
use Rattle.model.specs.Plan.{entry_at}
use Rattle.model.specs.Packets.{command_ok, outcome_ok, id_ok}
use Rattle.model.specs.Images.{Image, floor_of, clients_ascend, id_before, ids_ascend, floor_ok, image_entry_ok, image_head_ok, image_tables_ok, image_length, image_head, entries_start, entry_row_of, entry_width, greatest_of}
use Rattle.model.specs.States.{State, point_at}
use Rattle.model.specs.Apply.{taken_record}
use Rattle.model.specs.Decisions.{is_on_point, entry_of_record, insert_entry, sort_entries, image_for, timed_by}
use Rattle.model_laws.specs.Bytes.{All}
use Rattle.model_laws.specs.Fits.{TimeFits, ImageEntryFits, ImageFits, image_well}
use Rattle.model_laws.proofs.Checkpoints.{Timely}
use Rattle.model_laws.proofs.Tests.{and_both}
use Rattle.model_laws.proofs.Reflects.{Reflects, Test, le, lt, eq, flag, of, both, facts, passed, reflects, rows_hold, rows_pass, choose_or}
use Rattle.model_invariants.specs.Sound.{GoodEntry, Ranged, GoodPoint, GoodCompletion, Windowed, Distinct, SoundBy, Before, EntriesAscending, GoodImageEntry, GoodImage, GoodValues}
use Rattle.model_laws.proofs.Tables.{all_keep, length-keep}
use Rattle.model_invariants.proofs.Lists.{all_to, all_with, all_image, keep-passes}
use Rattle.model_invariants.proofs.Floors.{eqb_no}
use Rattle.model_invariants.proofs.Count.{distinct-keep, windows_few}
use Rattle.model_invariants.proofs.Tests.{sound-entry, split, window_says, floor_says, floor-fits, command-fits, outcome_fits, times-fit, ascends, ascend_test}
use Rattle.model_invariants.proofs.Steps.{taken-distinct}

-- ---- the order of ids

before_says : (e f : ImageEntry) → Reflects Unit (id_before e.client e.call f.client f.call) (Before e f)
unfolding id_before
before_says e f =
    let same = eqb e.client f.client && ltb e.call f.call in
    record {
      holds = λ u. choose_or (λ t. t ≡ true → Before e f) (ltb e.client f.client) same
          (λ q h. let l : e.client < f.client = ltb-true _ _ q in record { client = omega arith; call = λ (c : e.client ≡ f.client). absurd (omega arith) })
          (λ q h.
          let p = (both (eq e.client f.client) (lt e.call f.call)).holds h in
          record { client = omega (arith, p.0); call = λ (c : e.client ≡ f.client). p.1 });
      passes = λ b. choose_or (λ t. t ≡ true) (ltb e.client f.client) same (λ q. refl)
          (λ q.
          let c : e.client ≡ f.client = omega (arith, b.client, ltb-false e.client f.client q) in
          (both (eq e.client f.client) (lt e.call f.call)).passes (c, b.call c));
    }

pub before : (e f : ImageEntry) → id_before e.client e.call f.client f.call ≡ true → Before e f
before e f h = (before_says e f).holds tt h

pub before-test : (e f : ImageEntry) → Before e f → id_before e.client e.call f.client f.call ≡ true
before-test e f b = (before_says e f).passes b

-- another id
abbrev OtherEntry : ImageEntry → ImageEntry → Type 0
OtherEntry e f = e.client ≡ f.client → e.call ≡ f.call → ⊥

-- of two distinct ids, the one that is not before the other is after it
after : (e f : ImageEntry) → OtherEntry e f → id_before e.client e.call f.client f.call ≡ false → Before f e
unfolding id_before
after e f o h = go (ltb e.client f.client) refl (eqb e.client f.client) refl h
  where
    go : (s : Bool) → ltb e.client f.client ≡ s → (t : Bool) → eqb e.client f.client ≡ t → (s || (t && ltb e.call f.call)) ≡ false → Before f e
    go true p t q k = absurd (false≢true (sym k))
    go false p true q k =
        let c : e.client ≡ f.client = eqb-true _ _ q in
        let l : f.call ≤ e.call = ltb-false _ _ k in
        let n : e.call ≢ f.call = o c in
        record { client = omega arith; call = λ (d : f.client ≡ e.client). omega arith }
    go false p false q k =
        let l : f.client ≤ e.client = ltb-false _ _ p in
        let n : e.client ≢ f.client = eqb_no _ _ q in
        record { client = omega arith; call = λ (d : f.client ≡ e.client). absurd (omega arith) }

before-trans : (e f : ImageEntry) → Before e f → (g : ImageEntry) → Before f g → Before e g
before-trans e f b g c =
    record { client = omega (arith, b.client, c.client); call = λ (k : e.client ≡ g.client). both k }
  where
    both : e.client ≡ g.client → e.call < g.call
    both k =
        let p : e.client ≡ f.client = omega (arith, b.client, c.client) in
        let q : f.client ≡ g.client = omega (arith, b.client, c.client) in
        omega (arith, b.call p, c.call q)

pub entries_ascend : (es : List ImageEntry) → ids_ascend es ≡ true → EntriesAscending es
unfolding ids_ascend
entries_ascend [] h = tt
entries_ascend (e ∷ []) h = (tt, tt)
entries_ascend (e ∷ (f ∷ fs)) h =
    let a = split (id_before e.client e.call f.client f.call) (ids_ascend (f ∷ fs)) h in
    let b : Before e f = before e f a.0 in
    let r = entries_ascend (f ∷ fs) a.1 in
    ((b, all_to fs (before-trans e f b) r.0), r)

pub ascend_entries : (es : List ImageEntry) → EntriesAscending es → ids_ascend es ≡ true
unfolding ids_ascend
ascend_entries [] a = refl
ascend_entries (e ∷ []) a = refl
ascend_entries (e ∷ (f ∷ fs)) a =
    and_both (id_before e.client e.call f.client f.call) (ids_ascend (f ∷ fs)) (before-test e f a.0.0) (ascend_entries (f ∷ fs) a.1)

-- ---- tables

image-entry_says : (timed : Bool) (p : ℕ) (fs : List Floor) (e : ImageEntry) → Reflects (ImageEntryFits timed e) (image_entry_ok p fs e) (GoodImageEntry timed p fs e)
unfolding image_entry_ok id_ok
image-entry_says timed p fs e =
    reflects
    (flag (command_ok e.op p e.argument) ∷ flag (outcome_ok e.result.outcome e.result.quality) ∷ both (le 1 e.client) (le 1 e.call)
    ∷ of (window_says (floor_of e.client fs) e.call) ∷ [])
    (λ f q.
    record {
      command = q 0;
      outcome = q 1;
      client = (q 2).0;
      call = (q 2).1;
      client-fits = f.client;
      call_fits = f.call;
      value-fits = f.value;
      time = f.time;
      window = q 3;
    })
    (λ g k. k g.command g.outcome (g.client, g.call) g.window)

pub image-entry-fits : (timed : Bool) (p : ℕ) (fs : List Floor) (e : ImageEntry) → GoodImageEntry timed p fs e → ImageEntryFits timed e
image-entry-fits timed p fs e g =
    let c = command-fits e.op p e.argument g.command in
    let o = outcome_fits e.result.outcome e.result.quality g.outcome in
    record {
      client = g.client-fits;
      call = g.call_fits;
      argument = c.argument;
      value = g.value-fits;
      op = omega (arith, c.op);
      outcome = omega (arith, o.0);
      quality = omega (arith, o.1);
      time = g.time;
    }

-- an image's records: at most 16 for each floor
pub entries_few : (timed : Bool) (p : ℕ) (fs : List Floor) (es : List ImageEntry) → All (GoodImageEntry timed p fs) es → EntriesAscending es → length es ≤ 16 * length fs
unfolding taken_record
entries_few timed p fs es h a =
    let rs : List Completion = map (taken_record 0 0) es in
    let w : All (Windowed fs) rs
    = all_image (Windowed fs) (taken_record 0 0) es (all_to es (λ (e : ImageEntry) (g : GoodImageEntry timed p fs e). g.window) h) in
    omega (arith, windows_few fs rs w (taken-distinct 0 0 es a), length-map es (taken_record 0 0))

-- the tests of a head and of the tables
abbrev head_tests : Image → List Test
head_tests i =
    le i.point last_point ∷ le i.destination last_server ∷ le i.source last_server ∷ le i.quality last_quality ∷ le (length i.floors) client_count ∷ []

abbrev table_tests : Image → List Test
table_tests i =
    flag (every floor_ok i.floors) ∷ flag (clients_ascend i.floors) ∷ flag (every (image_entry_ok i.point i.floors) i.entries) ∷ flag (ids_ascend i.entries) ∷ []

abbrev image_tests : Image → List Test
image_tests i = flag (image_head_ok (image_head i)) ∷ le (image_length i) (greatest_of i.timed) ∷ flag (image_tables_ok i) ∷ []

pub image_of_lem : (i : Image) → image_well i ≡ true → ImageFits i → GoodImage i
unfolding image_well image_tables_ok image_head_ok image_head
image_of_lem i h F =
    let w = facts (image_tests i) h in
    let p = facts (head_tests i) (w 0) in
    let t = facts (table_tests i) (w 2) in
    let entries : All (GoodImageEntry i.timed i.point i.floors) i.entries =
    rows_hold (image-entry_says i.timed i.point i.floors) i.entries F.entries (t 2) in
    let ids : EntriesAscending i.entries = entries_ascend i.entries (t 3) in
    record {
      point = p 0;
      destination = p 1;
      source = p 2;
      quality = p 3;
      move_number = F.move_number;
      heard = F.heard;
      value = F.value;
      clients = p 4;
      floors = rows_hold floor_says i.floors F.floors (t 0);
      ascending = ascends i.floors (t 1);
      count = omega (arith, entries_few i.timed i.point i.floors i.entries entries ids, p 4);
      entries = entries;
      ids = ids;
    }

pub image-short : (i : Image) → GoodImage i → image_length i ≤ greatest_of i.timed
unfolding image_length image_head entry_width entry_row_of greatest_of
image-short i G = by_form i.timed (length i.floors) (length i.entries) G.clients G.count
  where
    by_form : (timed : Bool) (n k : ℕ) → n ≤ client_count → k ≤ record_count → entries_start n + entry_row_of timed * k ≤ greatest_of timed
    by_form true n k l m = omega arith
    by_form false n k l m = omega arith

pub image-well : (i : Image) → GoodImage i → image_well i ≡ true
unfolding image_well image_tables_ok image_head_ok image_head
image-well i G =
    passed (image_tests i) (passed (head_tests i) G.point G.destination G.source G.quality G.clients) (image-short i G)
    (passed (table_tests i) (rows_pass floor_says i.floors G.floors) (ascend_test i.floors G.ascending)
    (rows_pass (image-entry_says i.timed i.point i.floors) i.entries G.entries) (ascend_entries i.entries G.ids))

pub image-fits : (i : Image) → GoodImage i → ImageFits i
image-fits i G =
    record {
      point = omega (arith, G.point);
      destination = omega (arith, G.destination);
      source = omega (arith, G.source);
      move_number = G.move_number;
      heard = G.heard;
      value = G.value;
      quality = omega (arith, G.quality);
      floors = all_to i.floors floor-fits G.floors;
      entries = all_to i.entries (image-entry-fits i.timed i.point i.floors) G.entries;
    }

-- ---- sorting

pub insert_all_lem : (P : ImageEntry → Type 0) (e : ImageEntry) (es : List ImageEntry) → P e → All P es → All P (insert_entry e es)
unfolding insert_entry
insert_all_lem P e [] p h = (p, tt)
insert_all_lem P e (f ∷ fs) p h = go (id_before e.client e.call f.client f.call) (insert_all_lem P e fs p h.1)
  where
    go : (b : Bool) → All P (insert_entry e fs) → All P (pick b (e ∷ (f ∷ fs)) (f ∷ insert_entry e fs))
    go true ih = (p, h)
    go false ih = (h.0, ih)

pub sort_all : (P : ImageEntry → Type 0) (es : List ImageEntry) → All P es → All P (sort_entries es)
unfolding sort_entries
sort_all P [] h = tt
sort_all P (e ∷ es) h = insert_all_lem P e (sort_entries es) h.0 (sort_all P es h.1)

insert_length : (e : ImageEntry) (es : List ImageEntry) → length (insert_entry e es) ≡ suc (length es)
unfolding insert_entry
insert_length e [] = refl
insert_length e (f ∷ fs) = go (id_before e.client e.call f.client f.call) (insert_length e fs)
  where
    go : (b : Bool) → length (insert_entry e fs) ≡ suc (length fs) → length (pick b (e ∷ (f ∷ fs)) (f ∷ insert_entry e fs)) ≡ suc (suc (length fs))
    go true ih = refl
    go false ih = ap suc ih

pub sort_length : (es : List ImageEntry) → length (sort_entries es) ≡ length es
unfolding sort_entries
sort_length [] = refl
sort_length (e ∷ es) = insert_length e (sort_entries es) ∙ ap suc (sort_length es)

insert_ascending : (e : ImageEntry) (es : List ImageEntry) → All (OtherEntry e) es → EntriesAscending es → EntriesAscending (insert_entry e es)
unfolding insert_entry
insert_ascending e [] o a = (tt, tt)
insert_ascending e (f ∷ fs) o a = go (id_before e.client e.call f.client f.call) refl (insert_ascending e fs o.1 a.1)
  where
    go : (b : Bool) → id_before e.client e.call f.client f.call ≡ b → EntriesAscending (insert_entry e fs)
        → EntriesAscending (pick b (e ∷ (f ∷ fs)) (f ∷ insert_entry e fs))
    go true q ih = let b = before e f q in ((b, all_to fs (before-trans e f b) a.0), a)
    go false q ih = (insert_all_lem (Before f) e fs (after e f o.0 q) a.0, ih)

-- no id stands twice
abbrev EntriesDistinct : List ImageEntry → Type 0
EntriesDistinct [] = Unit
EntriesDistinct (e ∷ es) = All (OtherEntry e) es × EntriesDistinct es

sort_ascending : (es : List ImageEntry) → EntriesDistinct es → EntriesAscending (sort_entries es)
unfolding sort_entries
sort_ascending [] d = tt
sort_ascending (e ∷ es) d = insert_ascending e (sort_entries es) (sort_all (OtherEntry e) es d.0) (sort_ascending es d.1)

-- ---- the image of a state's point

entries-distinct : (rs : List Completion) → Distinct rs → EntriesDistinct (map entry_of_record rs)
unfolding entry_of_record
entries-distinct [] d = tt
entries-distinct (r ∷ rs) d = (all_image (OtherEntry (entry_of_record r)) entry_of_record rs d.0, entries-distinct rs d.1)

on_point : (p : ℕ) (r : Completion) → is_on_point p r ≡ true → r.command.point ≡ p
unfolding is_on_point
on_point p r e = eqb-true _ _ e

entry_of : (timed : Bool) (st : State) (p : ℕ) → GoodEntry (entry_at st.plan p) → (r : Completion)
    → GoodCompletion st.plan st.size r × Windowed st.floors r × TimeFits timed r.result.time
    → is_on_point p r ≡ true → GoodImageEntry timed p st.floors (entry_of_record r) × Ranged (entry_at st.plan p) r.result.value
unfolding entry_of_record
entry_of timed st p E r k t =
    let s : r.command.point ≡ p = on_point p r t in
    let g = k.0 in
    let v : Ranged (entry_at st.plan p) r.result.value = subst (λ (q : ℕ). Ranged (entry_at st.plan q) r.result.value) s g.value in (
      record {
        command = subst (λ (q : ℕ). command_ok r.command.op q r.command.argument ≡ true) s g.command;
        outcome = g.outcome;
        client = g.client;
        call = g.call;
        client-fits = g.client-fits;
        call_fits = g.call_fits;
        value-fits = omega (arith, v.high, E.fits);
        time = k.2;
        window = k.1;
      },
      v,
    )

pub image-good : {P : ℕ → Type 0} (v : Versions) (st : State) (p : ℕ) → SoundBy P st → p ≤ last_point
    → GoodImage (image_for v st p) × GoodValues (entry_at st.plan p) (image_for v st p)
unfolding image_for entry_of_record
image-good v st p S l =
    let E = sound-entry st S p l in
    let P : GoodPoint st.server st.size (entry_at st.plan p) (point_at st p) = S.point p l in
    let t : Completion → Bool = is_on_point p in
    let timed : Bool = timed_by v st in
    let rs : List Completion = keep t st.records in
    let es : List ImageEntry = map entry_of_record rs in
    let both : All (λ (r : Completion). GoodImageEntry timed p st.floors (entry_of_record r) × Ranged (entry_at st.plan p) r.result.value) rs
    = all_with rs (entry_of timed st p E)
    (all_keep (λ (r : Completion). GoodCompletion st.plan st.size r × Windowed st.floors r × TimeFits timed r.result.time) t st.records
    (all_with st.records
    (λ (r : Completion) (g : GoodCompletion st.plan st.size r) (k : Windowed st.floors r × TimeFits timed r.result.time). (g, k.0, k.1)) S.records
    (all_with st.records (λ (r : Completion) (w : Windowed st.floors r) (k : TimeFits timed r.result.time). (w, k)) S.windows
    (unfold Timely in times-fit v st S))))
    (keep-passes t st.records) in
    let good : All (GoodImageEntry timed p st.floors) es
    = all_image (GoodImageEntry timed p st.floors) entry_of_record rs
    (all_to rs (λ (r : Completion) (k : GoodImageEntry timed p st.floors (entry_of_record r) × Ranged (entry_at st.plan p) r.result.value). k.0) both) in
    let ranged : All (λ (e : ImageEntry). Ranged (entry_at st.plan p) e.result.value) es
    = all_image (λ (e : ImageEntry). Ranged (entry_at st.plan p) e.result.value) entry_of_record rs
    (all_to rs (λ (r : Completion) (k : GoodImageEntry timed p st.floors (entry_of_record r) × Ranged (entry_at st.plan p) r.result.value). k.1) both) in (
      record {
        point = l;
        destination = P.destination;
        source = S.server;
        quality = P.quality;
        move_number = P.move_number;
        heard = S.heard;
        value = omega (arith, P.value.high, E.fits);
        clients = S.clients;
        floors = S.floors;
        ascending = S.ascending;
        count = omega (arith, sort_length es, length-map rs entry_of_record, length-keep t st.records, S.count);
        entries = sort_all (GoodImageEntry timed p st.floors) es good;
        ids = sort_ascending es (entries-distinct rs (distinct-keep t st.records S.ids));
      },
      record { value = P.value; values = sort_all (λ (e : ImageEntry). Ranged (entry_at st.plan p) e.result.value) es ranged },
    )
