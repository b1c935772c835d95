-- What a call shows of its state is what the protocol's relation asks for.
--     written                  a record that is appended
--     spoken                   a packet or image that is told
-- Assumes nothing.
use Prim.Native.Nat.{ℕ, suc, ◌≤◌, ◌<◌}
use mathlib.Core.Path.{◌≡◌, refl, sym, ap, ◌∙◌, subst}
use mathlib.Core.Bool.{Bool, true, false, ◌&&◌}
use mathlib.Core.List.{List, [], ◌∷◌, map, map-map, Memᴰ}
use mathlib.Core.Logic.{◌≢◌}
use mathlib.Core.Option.{none, some}
use native.Mathlib.Omega.{arith}
use lib.ListN.{length, length-map}
use lib.Dec.{eqb, leb}
use borrow.Author.Tests.{eqb-true, eq-eqb, leb-true, le-leb}
use Rattle.model.specs.Versions.{Versions}
use Rattle.model.specs.declared.PlanEntry.{PlanEntry}
use Rattle.model.specs.declared.Reading.{Reading}
use Rattle.model.specs.declared.Request.{Request}
use Rattle.model.specs.declared.Give.{Give}
use Rattle.model.specs.declared.Release.{Release}
use Rattle.model.specs.declared.Point.{Point}
use Rattle.model.specs.declared.Completion.{Completion}
use Rattle.model.specs.declared.Packet.TheVariants.{Resulted, Receipted}
use Rattle.model.specs.Choice.{pick}
use Rattle.model.specs.Numbers.{word}
use Rattle.model.specs.Limits.{last_point, last_server, last_outcome, last_quality}
use Rattle.model.specs.Tables.{keep}
use Rattle.model.specs.Plan.{entry_at}
use Rattle.model.specs.Sequential.{reading_meant, result_meant}
use Rattle.model.specs.Packets.{command_ok, outcome_ok, id_ok, request_ok, result_ok, result_bytes, receipt_ok, receipt_bytes, packet_bytes}
use Rattle.model.specs.Images.{image_bytes, floor_of}
use Rattle.model.specs.Logs.{LogRecord}
use Rattle.model.specs.States.{State, point_at, held, given, is_id, released_status}
use Rattle.model.specs.Decisions.{timed_by, find, result_of_record, result_for, with_time, executed_for, is_on_point, entry_of_record, sort_entries, image_for}
use Rattle.model_laws.proofs.Meaning.{rule_tie}
use Rattle.model_laws.specs.Bytes.{All}
use Rattle.model_laws.specs.Fits.{TimeFits, IsPacket}
use Rattle.model_laws.proofs.Tables.{all_member}
use Rattle.model_laws.proofs.Tests.{and_left, and_both}
use Rattle.model_laws.proofs.Commands.{CommandParts, command-parts}
use Rattle.model_invariants.specs.Sound.{GoodCompletion, GoodRequest, SoundBy}
use Rattle.model_invariants.specs.History.{Decides, by_request, by_notice, by_give, by_take, by_release}
use Rattle.model.specs.Calls.{Operation}
use Rattle.model_invariants.specs.Calls.{Named}
use Rattle.model_laws.proofs.Checkpoints.{Timely}
use Rattle.model_invariants.proofs.Tests.{split, entry-good, sound-entry, times-fit}
use Rattle.model_invariants.proofs.Decided.{find-fresh}
use Rattle.model_invariants.proofs.Images.{image-good, sort_length}
use Rattle.proof_protocol.specs.Servers as S
use Rattle.proof_protocol.specs.World.{asked_in}
use Rattle.proof_protocol.specs.Allowed.{Given, Written, executing, going, giving, taking, freeing, Told, repeating, imaging, receipting}
use Rattle.proof_protocol.proofs.Basics.{keep_in, keep_out, map_in, map-out}
use Rattle.proof_records.specs.Likeness.{Pair, place_of, reading_of, result_of, Mapped, taken_as, RecordLike, completion_of, holding_of, PointLike, AnyLength, Alike}
use Rattle.proof_records.specs.Likeness as Likeness
use Rattle.proof_records.specs.Made.{Means, ImageMeans, PacketLike}
use Rattle.proof_records.specs.Inverse.{Appends, Replies}
use Rattle.proof_records.specs.Inverse as Inverse
use Rattle.proof_records.specs.Matched.{Source, execution, no_execution}
use Rattle.proof_records.proofs.Mapped.{mapped_map, mapped_with, mapped_through, mapped_sort}
use Rattle.proof_records.proofs.Places.{place_rises}
use Rattle.proof_records.proofs.Made.{like-packet, like-image}

-- ---- how a point is held

module _ (zs : List Pair) (x : Point) (y : S.Point) (P : PointLike zs x y) where
  held-like : x.status ≡ held → y.holding ≡ S.held
  unfolding holding_of
  held-like e = P.holding ∙ rw e

  not-held : x.status ≢ held → y.holding ≡ S.held → ⊥
  unfolding holding_of
  not-held n e = go (eqb x.status held) refl (eqb x.status given) (eqb x.status released_status) (sym P.holding ∙ e)
    where
      go : (a : Bool) → eqb x.status held ≡ a → (b c : Bool)
          → pick a S.held (pick b (S.given x.destination (place_of zs x.give_end)) (pick c S.released S.absent)) ≡ S.held → ⊥
      go true q b c k = n (eqb-true _ _ q)
      go false q true c k = let z : ◌≡◌ {A = ℕ} 0 1 = cc in omega arith
      go false q false true k = let z : ◌≡◌ {A = ℕ} 0 1 = cc in omega arith
      go false q false false k = let z : ◌≡◌ {A = ℕ} 0 1 = cc in omega arith

  given-like : x.status ≡ given → Given y.holding
  unfolding holding_of
  given-like e = record { destination = x.destination; place = place_of zs x.give_end; is = P.holding ∙ rw e }

-- ---- completion records

found_in : (x c : ℕ) (rs : List Completion) (r : Completion) → find x c rs ≡ some r → Memᴰ r rs
unfolding find
found_in x c [] r e = let z : ◌≡◌ {A = ℕ} 0 1 = cc in absurd (omega arith)
found_in x c (q ∷ rs) r e = go (is_id x c q) e (found_in x c rs r)
  where
    go : (b : Bool) → pick b (some q) (find x c rs) ≡ some r → (find x c rs ≡ some r → Memᴰ r rs) → Memᴰ r (q ∷ rs)
    go true k ih = let z : r ≡ q = cc in Memᴰ.head z
    go false k ih = Memᴰ.tail (ih k)

-- ---- packets

-- the result packet of a good completion record
result-packet : (timed : Bool) (st : State) → SoundBy AnyLength st → (r : Completion) → GoodCompletion st.plan st.size r → TimeFits timed r.result.time
    → IsPacket (result_bytes (result_of_record timed r)) (Resulted (result_of_record timed r))
unfolding result_of_record result_ok packet_bytes outcome_ok id_ok
result-packet timed st G r g t =
    let K = command-parts r.command.op r.command.point r.command.argument g.command in
    let O = split (leb r.result.outcome last_outcome) (leb r.result.quality last_quality) g.outcome in
    let E = sound-entry st G r.command.point K.point in
    record {
      ok =
          and_both (leb r.command.point last_point) (outcome_ok r.result.outcome r.result.quality && id_ok r.command.client r.command.call) (le-leb _ _ K.point)
          (and_both (outcome_ok r.result.outcome r.result.quality) (id_ok r.command.client r.command.call) g.outcome
          (and_both (leb 1 r.command.client) (leb 1 r.command.call) (le-leb _ _ g.client) (le-leb _ _ g.call)));
      fits =
          record {
            outcome = omega (arith, leb-true r.result.outcome last_outcome O.0);
            point = omega (arith, K.point);
            quality = omega (arith, leb-true r.result.quality last_quality O.1);
            client = g.client-fits;
            call = g.call_fits;
            value = omega (arith, g.value.high, E.fits);
            time = t;
          };
      same = refl;
    }

receipt-packet : (p c m : ℕ) → p ≤ last_point → c ≤ last_server → m < word
    → IsPacket (receipt_bytes (record { point = p; server = c; move_number = m })) (Receipted (record { point = p; server = c; move_number = m }))
unfolding receipt_ok packet_bytes
receipt-packet p c m l h f =
    record {
      ok = and_both (leb p last_point) (leb c last_server) (le-leb _ _ l) (le-leb _ _ h);
      fits = record { point = omega arith; server = omega arith; move_number = f };
      same = refl;
    }

-- the command of a good request
request-command : (q : Request) → GoodRequest q → CommandParts q.command.op q.command.point q.command.argument
unfolding request_ok
request-command q G = command-parts q.command.op q.command.point q.command.argument (and_left (command_ok q.command.op q.command.point q.command.argument) _ G.ok)

-- ---- the relation's facts

-- what is no request
no_request_lem : ◌≡◌ {A = ℕ} 0 1 → ⊥
no_request_lem e = omega arith

-- what an operation is handed was made
abbrev pub Handed : (S.Packet → Type 0) → Operation → Type 0
Handed M o = Named (PacketLike M) o

module _ (plan : List PlanEntry) (c : ℕ) (zs : List Pair) (st : State) (s : S.State) (A : Alike plan c zs st s) (free : ℕ) where
  pub record Wrote (M : S.Packet → Type 0) (o : Operation) (r : LogRecord) : Type 0 where
    pub abstract : S.LogRecord
    pub like : RecordLike r abstract
    pub why : Written plan c s M abstract
    pub decides : Decides st free r
    pub source : Source st o abstract

  -- a packet that is told, in whatever world it is made
  pub record Spoke (b : List ℕ) : Type 1 where
    pub packet : S.Packet
    pub why : Told c (place_of zs st.mark) s packet
    pub like : (M : S.Packet → Type 0) → M packet → PacketLike M b

  -- the rule of a command
  rule-same : (v : Versions) (q : Request) → GoodRequest q → result_meant (result_for v st q) ≡ S.rule_at plan (v.rule q.command.op) q.command (s.points q.command.point).value
  unfolding result_for S.rule_at reading_of
  rule-same v q G =
      let P = request-command q G in
      let x : Reading = record { value = (point_at st q.command.point).value; quality = (point_at st q.command.point).quality } in
      let e = entry_at st.plan q.command.point in
      let w : (s.points q.command.point).value ≡ reading_meant x = (A.like.points q.command.point P.point).value in
      let g = entry-good e (sound-entry st A.sound q.command.point P.point) in
      let t = rule_tie e (v.rule q.command.op) q.command.op q.command.argument x g P.ranged in
      rw (w, ← A.planned) t

  -- no completion record has a fresh id
  none-held : (x k : ℕ) → find x k st.records ≡ none → (r : S.Completion) → Memᴰ r s.records → r.id ≡ record { client = x; call = k } → ⊥
  none-held x k f r m e =
      let y = A.like.records.back r m in
      let i : (completion_of zs y.0).id ≡ record { client = x; call = k } = ap (λ (z : S.Completion). z.id) (sym y.2) ∙ e in
      go y.0 i (all_member _ (find-fresh x k st.records f) y.1)
    where
      go : (y : Completion) → (completion_of zs y).id ≡ record { client = x; call = k } → (y.command.client ≡ x → y.command.call ≡ k → ⊥) → ⊥
      go y i n = n (unfold completion_of in ap (λ (z : S.Id). z.client) i) (unfold completion_of in ap (λ (z : S.Id). z.call) i)

  floor-same : (x : ℕ) → floor_of x s.floors ≡ floor_of x st.floors
  floor-same x = ap (floor_of x) A.like.floors

  pub written : {M : S.Packet → Type 0} (o : Operation) (r : LogRecord) → Appends st free o r → Handed M o → Wrote M o r
  unfolding Means ImageMeans asked_in executed_for with_time result_meant
  written {M} o r (Inverse.executes v b q e h l f n d) H =
      let m = subst (Means M) e H.packet in
      let P = A.like.points q.command.point (request-command q m.0).point in
      record {
        abstract = _;
        like = Likeness.executed (v.rule q.command.op) (executed_for v st q);
        why =
            executing (v.rule q.command.op) (asked_in q) (result_of (executed_for v st q).result) m.1 (held-like zs _ _ P h) (omega (arith, A.like.heard))
            (rw (floor-same q.command.client) f) (none-held _ _ n) (rule-same v q m.0);
        decides = by_request v q m.0 d;
        source = execution v b q _ refl e refl refl;
      }
  written {M} o r (Inverse.goes b n e d) H =
      let m = subst (Means M) e H.packet in
      record { abstract = _; like = Likeness.gone n; why = going n.client n.time m.1; decides = by_notice n m.0 d; source = no_execution (λ v k z. no_request_lem (cc)) tt }
  written o r (Inverse.gives p d l h e) H =
      let P = A.like.points p l in
      let g : Give = record { point = p; destination = d; move_number = suc (point_at st p).move_number } in
      record {
        abstract = S.gave p d (suc (s.points p).move);
        like = rw P.move (Likeness.gave g);
        why = giving p d (held-like zs _ _ P h);
        decides = by_give p d e;
        source = no_execution (λ v k z. no_request_lem (cc)) tt;
      }
  written {M} o r (Inverse.takes b i e t n w d) H =
      let m = subst (ImageMeans M) e H.image in
      let a = m.1.0 in
      let L = m.1.1 in
      let P : PointLike zs (point_at st i.point) (s.points a.point) = rw L.point (A.like.points i.point m.0.point) in
      record {
        abstract = S.took a;
        like = Likeness.took i a L;
        why = taking a m.1.2 (L.destination ∙ (t ∙ A.server)) (omega (arith, P.move, L.move)) (not-held zs _ _ P w);
        decides = by_take i m.0 d;
        source = no_execution (λ v k z. no_request_lem (cc)) tt;
      }
  written {M} o r (Inverse.frees b x e g n d) H =
      let m = subst (Means M) e H.packet in
      let P = A.like.points x.point m.0 in
      let y : Release = record { point = x.point; move_number = (point_at st x.point).move_number } in
      record {
        abstract = S.freed x.point (s.points x.point).move;
        like = rw P.move (Likeness.released y);
        why = freeing x.point x.server x.move_number m.1 (given-like zs _ _ P g) (omega (arith, P.move));
        decides = by_release x.point x.move_number m.0 d;
        source = no_execution (λ v k z. no_request_lem (cc)) tt;
      }

  -- ---- what is told

  -- the image of a given point
  module _ (p : ℕ) (l : p ≤ last_point) (g : (point_at st p).status ≡ given) where
    abbrev mine : List Completion
    mine = keep (is_on_point p) st.records

    -- the image's records, in the order of arrival; `model` sorts its entries
    abbrev told : List S.Completion
    told = map (completion_of zs) mine

    on_point : (r : Completion) → Memᴰ r mine → r.command.point ≡ p
    unfolding is_on_point
    on_point r m = eqb-true _ _ (keep_out (is_on_point p) r st.records m).1

    entered : (n : ℕ) → Mapped (taken_as n p) (sort_entries (map entry_of_record mine)) (map (S.taken_record n) told)
    entered n =
        mapped_sort (taken_as n p)
        (mapped_through entry_of_record (taken_as n p)
        (mapped_with _ _ (λ r m. same r (on_point r m)) (subst (Mapped _ mine) (sym (map-map (S.taken_record n) (completion_of zs) mine)) (mapped_map _ mine))))
      where
        same : (r : Completion) → r.command.point ≡ p → S.taken_record n (completion_of zs r) ≡ taken_as n p (entry_of_record r)
        same r e = unfold S.taken_record completion_of taken_as entry_of_record in rw e

    count : length told ≡ length (sort_entries (map entry_of_record mine))
    count = length-map mine (completion_of zs) ∙ sym (sort_length (map entry_of_record mine) ∙ length-map mine entry_of_record)

    image_spoke : (v : Versions) → (point_at st p).give_end ≤ st.mark → Spoke (image_bytes (image_for v st p))
    unfolding image_for S.image_for reading_of is_on_point completion_of given-like
    image_spoke v h =
        let P = A.like.points p l in
        let G = given-like zs (point_at st p) (s.points p) P g in
        let a = S.image_for s p G.destination told in
        record {
          packet = S.image a;
          why = imaging p G told (place_rises zs _ _ h) to back;
          like =
              λ M m.
              like-image (image_for v st p) a (image-good v st p A.sound l).0
              (record { point = refl; destination = refl; move = P.move; heard = A.like.heard; value = P.value; floors = A.like.floors; records = entered; count = count }) m;
        }
      where
        to : (r : S.Completion) → Memᴰ r told → Memᴰ r s.records × (r.point ≡ p)
        to r m =
            let y = map-out (completion_of zs) r mine m in
            let k = keep_out (is_on_point p) y.0 st.records y.1 in
            (rw y.2 (A.like.records.to y.0 k.0), rw y.2 (eqb-true _ _ k.1))

        back : (r : S.Completion) → Memᴰ r s.records → r.point ≡ p → Memᴰ r told
        back r m e =
            let y = A.like.records.back r m in
            let q : y.0.command.point ≡ p = ap (λ (z : S.Completion). z.point) (sym y.2) ∙ e in
            rw y.2 (map_in (completion_of zs) y.0 mine (keep_in (is_on_point p) y.0 st.records y.1 (eq-eqb _ _ q)))

  -- the result of a completion record
  result_spoke : (v : Versions) (x k : ℕ) (r : Completion) → find x k st.records ≡ some r → r.end ≤ st.mark → Spoke (result_bytes (result_of_record (timed_by v st) r))
  unfolding completion_of result_of_record Means
  result_spoke v x k r f l =
      let i = found_in x k st.records r f in
      let T : All (λ (y : Completion). TimeFits (timed_by v st) y.result.time) st.records = unfold Timely in times-fit v st A.sound in
      let I = result-packet (timed_by v st) st A.sound r (all_member _ A.sound.records i) (all_member _ T i) in
      record {
        packet = _;
        why = repeating (completion_of zs r) (A.like.records.to r i) (place_rises zs _ _ l);
        like = λ M m. like-packet (Resulted (result_of_record (timed_by v st) r)) I (I.fits, m);
      }

  pub spoken : (o : Operation) (b : List ℕ) → Replies st free o b → Spoke b
  unfolding result_of_record Means point_at
  spoken o b (Inverse.repeats v d x k r f l) = result_spoke v x k r f l
  spoken o b (Inverse.fetches v x k r f l) = result_spoke v x k r f l
  spoken o b (Inverse.images v p l g h) = image_spoke p l g v h
  spoken o b (Inverse.receipts p l t h) =
      let G = A.sound.point p l in
      let P = A.like.points p l in
      record {
        packet = S.receipt p c (s.points p).taken;
        why = receipting p;
        like =
            λ M m.
            like-packet (Receipted (record { point = p; server = st.server; move_number = (point_at st p).taken_move }))
            (receipt-packet p st.server (point_at st p).taken_move l A.sound.server (omega (arith, G.taken_move, G.move_number))) (l, (rw (A.server, ← P.taken) m));
      }
