-- What an operation makes, packet or image, is bytes and fits its output.
--     operation-made
-- Assumes nothing.
use Prim.Native.Nat.{ℕ, ◌≤◌, ◌<◌}
use mathlib.Core.Path.{◌≡◌, refl}
use mathlib.Core.Bool.{Bool, true, false, ◌&&◌}
use mathlib.Core.List.{List}
use mathlib.Core.Option.{Option, none, some}
use native.Mathlib.Omega.{arith}
use lib.ListN.{length}
use lib.Dec.{leb, ltb, lit≤}
use borrow.Author.Tests.{ltb-false}
use Rattle.model.specs.Versions.{Versions}
use Rattle.model.specs.declared.Request.{Request}
use Rattle.model.specs.declared.Completion.{Completion}
use Rattle.model.specs.declared.Packet.TheVariants.{Resulted, Refused, Receipted}
use Rattle.model.specs.Choice.{refuse, reply, is_passed, unless_refused}
use Rattle.model.specs.Limits.{last_point, refusal_size, receipt_size}
use Rattle.model.specs.Packets.{time_bytes, result_size_of, parse_packet, as_request, as_receipt, as_notice, packet_bytes, result_bytes, refusal_bytes, receipt_bytes, command_ok, id_ok, done_ok, request_ok}
use Rattle.model.specs.Logs.{executed_size_of}
use Rattle.model.specs.Images.{Image, greatest_of, parse_image, image_bytes, floor_of}
use Rattle.model.specs.States.{State, point_at}
use Rattle.model.specs.Decisions.{Decided, timed_by, or_malformed, find, result_of_record, on_held, on_new, on_id, decide_request, denying, on_request, on_fetched, on_fetch, on_sync, decide_notice, on_notice, on_give, image_for, image_refusal, on_image, decide_take, on_take, receipt_refusal, on_receipt, decide_release, on_release}
use Rattle.model_laws.specs.Bytes.{Bytes}
use Rattle.model_laws.specs.Fits.{TimeFits}
use Rattle.model_laws.proofs.Tests.{choose}
use Rattle.model_laws.proofs.Refused.{unless}
use Rattle.model_laws.proofs.Commands.{command-parts}
use Rattle.model_laws.proofs.Packets.{packet-bytes, request_of_lem}
use Rattle.model_laws.proofs.Images.{image-length, image-bytes}
use Rattle.model_laws.proofs.Checkpoints.{Timely}
use Rattle.model_invariants.specs.Sound.{Sound, GoodCompletion, GoodRequest, GoodImage}
use Rattle.model.specs.Calls.{Operation, request, fetch, sync, notice, give, image, take_in, receipt, release, decision}
use Rattle.model_invariants.specs.Calls.{output_size, LentBytes}
use Rattle.model_invariants.proofs.Tests.{split, outcome_fits, sound-entry, times-fit}
use Rattle.model_invariants.proofs.Decided.{find-has, request-byte, held-byte, new_byte}
use Rattle.model_invariants.proofs.Formats.{parsed-request}
use Rattle.model_invariants.proofs.Images.{image-well, image-fits, image-good, image-short}
use Rattle.safety.specs.Alike.{Made}
use Rattle.safety.specs.Decoded.{told_size}

unless_small : (P : Decided → Type 0) (n : ℕ) {d : Decided} → n < 256 → ((k : ℕ) → k < 256 → P (refuse k)) → P d → P (unless_refused n d)
unfolding unless_refused
unless_small P n h r p = choose P (is_passed n) (λ e. p) (λ e. r n h)

module _ (st : State) (S : Sound st) where
  -- the result packet of a completion record
  result-bytes : (v : Versions) (x c : ℕ) (r : Completion) → find x c st.records ≡ some r → Bytes (result_bytes (result_of_record (timed_by v st) r))
  unfolding result_of_record packet_bytes
  result-bytes v x c r e =
      let g = (find-has (GoodCompletion st.plan st.size) x c st.records r e S.records).0 in
      let t = (find-has (λ (y : Completion). TimeFits (timed_by v st) y.result.time) x c st.records r e (unfold Timely in times-fit v st S)).0 in
      let K = command-parts r.command.op r.command.point r.command.argument g.command in
      let O = outcome_fits r.result.outcome r.result.quality g.outcome in
      let E = sound-entry st S r.command.point K.point in
      packet-bytes (Resulted (result_of_record (timed_by v st) r))
      (record {
        outcome = omega (arith, O.0);
        point = omega (arith, K.point);
        quality = omega (arith, O.1);
        client = g.client-fits;
        call = g.call_fits;
        value = omega (arith, g.value.high, E.fits);
        time = t;
      })

  -- its length, by form; a refusal packet is no longer
  result-length : (timed : Bool) (r : Completion) → length (result_bytes (result_of_record timed r)) ≤ result_size_of timed
  unfolding result_of_record result_bytes time_bytes result_size_of
  result-length true r = lit≤ tt
  result-length false r = lit≤ tt

  short_enough : (timed : Bool) → refusal_size ≤ result_size_of timed
  unfolding result_size_of
  short_enough true = lit≤ tt
  short_enough false = lit≤ tt

  module _ (v : Versions) (free : ℕ) (q : Request) (G : GoodRequest q) where
    abbrev AsRequested : Decided → Type 0
    AsRequested d = Made (told_size v st) (denying q d)

    denied : (n : ℕ) → n < 256 → AsRequested (refuse n)
    unfolding denying request_ok packet_bytes refusal_bytes
    denied n l =
        let k = split (command_ok q.command.op q.command.point q.command.argument) (id_ok q.command.client q.command.call && done_ok q.done q.command.call) G.ok in
        let P = command-parts q.command.op q.command.point q.command.argument k.0 in (
          packet-bytes (Refused (record { refusal = n; point = q.command.point; client = q.command.client; call = q.command.call }))
              (record { refusal = l; point = omega (arith, P.point); client = G.client; call = G.call }),
          short_enough (timed_by v st),
        )

    by_id : (o : Option Completion) → find q.command.client q.command.call st.records ≡ o → AsRequested (on_id v st free q o)
    unfolding on_id on_new on_held denying
    by_id none f = unless_small AsRequested _ (new_byte (floor_of q.command.client st.floors) (length st.floors) free (executed_size_of v.timed)) denied tt
    by_id (some r) f =
        unless_small AsRequested _ {d = reply (result_bytes (result_of_record (timed_by v st) r))} (held-byte st.mark q r) denied
        (result-bytes v q.command.client q.command.call r f, result-length (timed_by v st) r)

    requested : AsRequested (decide_request v st free q)
    unfolding decide_request
    requested =
        unless_small AsRequested _ (request-byte (point_at st q.command.point) (leb q.lease st.heard) (floor_of q.command.client st.floors) q.command.call) denied
        (by_id (find q.command.client q.command.call st.records) refl)

  request-made : (v : Versions) (free : ℕ) (b : List ℕ) → Bytes b → Made (told_size v st) (on_request v st free (parse_packet b))
  unfolding on_request or_malformed
  request-made v free b h = go (as_request (parse_packet b)) refl
    where
      go : (o : Option Request) → as_request (parse_packet b) ≡ o → Made (told_size v st) (or_malformed o (λ q. denying q (decide_request v st free q)))
      go none e = tt
      go (some q) e = requested v free q (parsed-request b q h (request_of_lem (parse_packet b) q e))

  fetch-made : (v : Versions) (x c : ℕ) → Made (told_size v st) (on_fetch v st x c)
  unfolding on_fetch on_fetched
  fetch-made v x c = go (find x c st.records) refl
    where
      go : (o : Option Completion) → find x c st.records ≡ o → Made (told_size v st) (on_fetched v st o)
      go none e = tt
      go (some r) e = unless (Made (told_size v st)) _ (λ n. tt) (result-bytes v x c r e, result-length (timed_by v st) r)

  image-made : (v : Versions) (p : ℕ) → Made (greatest_of (timed_by v st)) (on_image v st p)
  unfolding on_image unless_refused
  image-made v p =
      let need : ℕ = greatest_of (timed_by v st) in
      choose (λ (n : ℕ). Made need (unless_refused n (reply (image_bytes (image_for v st p))))) (ltb last_point p) (λ k. tt)
      (λ k.
      let i : Image = image_for v st p in
      let G : GoodImage i = (image-good v st p S (ltb-false _ _ k)).0 in
      let f : i.timed ≡ timed_by v st = unfold image_for in refl in
      let l : length (image_bytes i) ≤ need = rw (image-length i, ← f) (image-short i G) in
      unless (Made need) (image_refusal (point_at st p) st.mark) {d = reply (image_bytes (image_for v st p))} (λ n. tt) (image-bytes i (image-well i G) (image-fits i G), l))

  receipt-made : (p : ℕ) → Made receipt_size (on_receipt st p)
  unfolding on_receipt receipt_bytes packet_bytes unless_refused
  receipt-made p =
      choose (λ (n : ℕ). Made receipt_size (unless_refused n (reply (receipt_bytes (record { point = p; server = st.server; move_number = (point_at st p).taken_move })))))
      (ltb last_point p) (λ k. tt)
      (λ k.
      let G = S.point p (ltb-false _ _ k) in
      unless (Made receipt_size) (receipt_refusal (point_at st p) st.mark) (λ n. tt) (
        packet-bytes (Receipted (record { point = p; server = st.server; move_number = (point_at st p).taken_move }))
            (record { point = omega (arith, ltb-false last_point p k); server = omega (arith, S.server); move_number = omega (arith, G.taken_move, G.move_number) }),
        lit≤ tt,
      ))

  -- a packet or image that is none of its kind is refused
  of_kind : {A : Type 0} (o : Option A) (f : A → Decided) → ((x : A) → Made 0 (f x)) → Made 0 (or_malformed o f)
  unfolding or_malformed
  of_kind none f h = tt
  of_kind (some x) f h = h x

  pub operation-made : (o : Operation) (free : ℕ) → LentBytes o → Made (output_size st o) (decision o st free)
  unfolding decision output_size on_sync on_notice decide_notice on_give on_take decide_take on_release decide_release
  operation-made (request v b) free h = request-made v free b h
  operation-made (fetch v x c) free h = fetch-made v x c
  operation-made (sync m) free h = unless (Made 0) _ (λ n. tt) tt
  operation-made (notice b) free h = of_kind (as_notice (parse_packet b)) _ (λ n. unless (Made 0) _ (λ k. tt) tt)
  operation-made (give p d) free h = unless (Made 0) _ (λ n. tt) tt
  operation-made (image v p) free h = image-made v p
  operation-made (take_in b) free h = of_kind (parse_image b) _ (λ i. unless (Made 0) _ (λ n. tt) tt)
  operation-made (receipt p) free h = receipt-made p
  operation-made (release b) free h = of_kind (as_receipt (parse_packet b)) _ (λ r. unless (Made 0) _ (λ n. tt) tt)
