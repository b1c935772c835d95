-- Laws of the packets.
--     request_codec, result_codec, refusal_codec, receipt_codec, notice_codec, grant_codec     by kind, as codecs, a result by its form
--     packet-length, packet-bytes   the length of a packet by kind; its bytes are bytes
--     packet-back                   what was written is read back, for every well-formed packet that fits
--     request_of_lem, receipt_of_lem, notice_of_lem     what is of a kind
--     packet-is                     what parses is well-formed, fits, and is written again; packet-again: the last by itself
-- Assumes nothing.
use Rattle.std.specs.Prelude.{Option, Some, None}
use Prim.Native.Nat.{ℕ}
use mathlib.Core.Path.{◌≡◌, refl, sym, ap, ◌∙◌, subst}
use mathlib.Core.Bool.{Bool, true, false, ◌&&◌}
use mathlib.Core.List.{List, [], ◌∷◌}
use mathlib.Core.Option.{some}
use native.Mathlib.Omega.{arith}
use lib.ListN.{length}
use lib.Seq.{take_all}
use lib.Dec.{eqb, ltb}
use borrow.Author.Tests.{eqb-true}
use Rattle.model.specs.declared.Request.{Request}
use Rattle.model.specs.declared.ResultPacket.{ResultPacket}
use Rattle.model.specs.declared.RefusalPacket.{RefusalPacket}
use Rattle.model.specs.declared.Receipt.{Receipt}
use Rattle.model.specs.declared.Notice.{Notice}
use Rattle.model.specs.declared.Grant.{Grant}
use Rattle.model.specs.declared.Packet.{Packet}
use Rattle.model.specs.declared.Packet.TheVariants.{Requested, Resulted, Refused, Receipted, Noticed, Granted}
use Rattle.model.specs.Numbers.{byte_at, zero_at, zeros3_at}
use Rattle.model.specs.Packets.{packet_length, time_at, time_bytes, result_kind_of, request_at, request_ok, request_bytes, result_at, result_ok, result_bytes, refusal_at, refusal_ok, refusal_bytes}
use Rattle.model.specs.Packets.{receipt_at, receipt_ok, receipt_bytes, notice_at, notice_ok, notice_bytes, grant_at, grant_ok, grant_bytes, whole}
use Rattle.model.specs.Packets.{parse_request, parse_result, parse_refusal, parse_receipt, parse_notice, parse_grant, parse_packet, packet_bytes, as_request}
use Rattle.model.specs.Packets.{as_receipt, as_notice}
use Rattle.model.specs.Limits.{first_result_kind, grant_kind, notice_kind, receipt_kind, refusal_kind, request_kind, result_kind}
use Rattle.model_laws.specs.Bytes.{Bytes}
use Rattle.model_laws.specs.Codec.{Codec}
use Rattle.model_laws.specs.Fields.{Field, byte, word32, signed, fixed, Bounded, BoundedAt, Layout, Computes}
use Rattle.model_laws.specs.Fits.{TimeFits, RequestFits, ResultFits, RefusalFits, ReceiptFits, NoticeFits, GrantFits, packet_fits, packet_ok, kind_of, IsPacket}
use Rattle.model_laws.proofs.Tests.{and_left, and_right, and_both, choose}
use Rattle.model_laws.proofs.Fields.{codec}

-- ---- the layouts

abbrev request_layout : Layout Request
request_layout =
    record {
      fields = fixed request_kind ∷ byte ∷ byte ∷ fixed 0 ∷ word32 ∷ word32 ∷ word32 ∷ word32 ∷ signed ∷ [];
      to = λ v. record { command = record { client = v 2; call = v 3; op = v 0; point = v 1; argument = v 6 }; done = v 4; lease = v 5 };
      from = λ a. a.command.op ∷ a.command.point ∷ a.command.client ∷ a.command.call ∷ a.done ∷ a.lease ∷ a.command.argument ∷ [];
      Fit = RequestFits;
      fits = λ a h. (h.op, (h.point, (h.client, (h.call, (h.done, (h.lease, (h.argument, tt)))))));
      fitted = λ v p. record { op = p 0; point = p 1; client = p 2; call = p 3; done = p 4; lease = p 5; argument = p 6 };
    }

pub request_computes : Computes request_layout request_at request_bytes (λ s. eqb (byte_at s 0) request_kind && zero_at s 3)
unfolding request_at request_bytes
request_computes = record { reads = λ s. refl; writes = λ a. refl; tests = λ s. refl; plain = refl; back = λ a h. refl; forth = λ s. refl }

abbrev pub request_codec : Codec Request
request_codec = codec request_computes

-- a result by its form: its fields, what it keeps, and it as one of that form
abbrev result_fields : Bool → List Field
result_fields true = fixed result_kind ∷ byte ∷ byte ∷ byte ∷ word32 ∷ word32 ∷ signed ∷ word32 ∷ []
result_fields false = fixed first_result_kind ∷ byte ∷ byte ∷ byte ∷ word32 ∷ word32 ∷ signed ∷ []

abbrev pub ResultFitsIn : Bool → ResultPacket → Type 0
ResultFitsIn timed r = ResultFits r × (r.timed ≡ timed)

abbrev pub result_in : Bool → ResultPacket → ResultPacket
result_in timed r = record { client = r.client; call = r.call; point = r.point; result = r.result; timed = timed }

abbrev result_numbers : ResultPacket → List ℕ
result_numbers r = r.result.outcome ∷ r.point ∷ r.result.quality ∷ r.client ∷ r.call ∷ r.result.value ∷ r.result.time ∷ []

abbrev result_of : Bool → (ℕ → ℕ) → ResultPacket
result_of timed v = record { client = v 3; call = v 4; point = v 1; result = record { outcome = v 0; value = v 5; quality = v 2; time = v 6 }; timed = timed }

pub result_fits : (timed : Bool) (r : ResultPacket) → ResultFitsIn timed r → Bounded (result_fields timed) (result_numbers r)
result_fits true r h =
    let f = h.0 in
    (f.outcome, (f.point, (f.quality, (f.client, (f.call, (f.value, (subst (λ u. TimeFits u r.result.time) h.1 f.time, tt)))))))
result_fits false r h =
    let f = h.0 in
    (f.outcome, (f.point, (f.quality, (f.client, (f.call, (f.value, (subst (λ u. TimeFits u r.result.time) h.1 f.time, tt)))))))

pub result-fitted : (timed : Bool) (v : ℕ → ℕ) → ((k : ℕ) → BoundedAt (result_fields timed) k (v k)) → ResultFitsIn timed (result_of timed v)
result-fitted true v p = (record { outcome = p 0; point = p 1; quality = p 2; client = p 3; call = p 4; value = p 5; time = p 6 }, refl)
result-fitted false v p = (record { outcome = p 0; point = p 1; quality = p 2; client = p 3; call = p 4; value = p 5; time = p 6 }, refl)

abbrev result_layout : Bool → Layout ResultPacket
result_layout timed =
    record {
      fields = result_fields timed;
      to = result_of timed;
      from = result_numbers;
      Fit = ResultFitsIn timed;
      fits = result_fits timed;
      fitted = result-fitted timed;
    }

result-back : (timed : Bool) (r : ResultPacket) → ResultFitsIn timed r → result_in timed r ≡ r
result-back timed r h = ap (λ u. result_in u r) (sym h.1)

pub result_computes : (timed : Bool) → Computes (result_layout timed) (result_at timed) (λ r. result_bytes (result_in timed r)) (λ s. eqb (byte_at s 0) (result_kind_of timed))
unfolding result_at result_bytes result_kind_of time_at time_bytes
result_computes true = record { reads = λ s. refl; writes = λ a. refl; tests = λ s. refl; plain = refl; back = result-back true; forth = λ s. refl }
result_computes false = record { reads = λ s. refl; writes = λ a. refl; tests = λ s. refl; plain = refl; back = result-back false; forth = λ s. refl }

abbrev pub result_codec : Bool → Codec ResultPacket
result_codec timed = codec (result_computes timed)

result-width : (timed : Bool) → (result_codec timed).width ≡ packet_length (result_kind_of timed)
unfolding packet_length result_kind_of
result-width true = refl
result-width false = refl

abbrev refusal_layout : Layout RefusalPacket
refusal_layout =
    record {
      fields = fixed refusal_kind ∷ byte ∷ byte ∷ fixed 0 ∷ word32 ∷ word32 ∷ [];
      to = λ v. record { refusal = v 0; point = v 1; client = v 2; call = v 3 };
      from = λ a. a.refusal ∷ a.point ∷ a.client ∷ a.call ∷ [];
      Fit = RefusalFits;
      fits = λ a h. (h.refusal, (h.point, (h.client, (h.call, tt))));
      fitted = λ v p. record { refusal = p 0; point = p 1; client = p 2; call = p 3 };
    }

pub refusal_computes : Computes refusal_layout refusal_at refusal_bytes (λ s. eqb (byte_at s 0) refusal_kind && zero_at s 3)
unfolding refusal_at refusal_bytes
refusal_computes = record { reads = λ s. refl; writes = λ a. refl; tests = λ s. refl; plain = refl; back = λ a h. refl; forth = λ s. refl }

abbrev pub refusal_codec : Codec RefusalPacket
refusal_codec = codec refusal_computes

abbrev receipt_layout : Layout Receipt
receipt_layout =
    record {
      fields = fixed receipt_kind ∷ byte ∷ byte ∷ fixed 0 ∷ word32 ∷ [];
      to = λ v. record { point = v 0; server = v 1; move_number = v 2 };
      from = λ a. a.point ∷ a.server ∷ a.move_number ∷ [];
      Fit = ReceiptFits;
      fits = λ a h. (h.point, (h.server, (h.move_number, tt)));
      fitted = λ v p. record { point = p 0; server = p 1; move_number = p 2 };
    }

pub receipt_computes : Computes receipt_layout receipt_at receipt_bytes (λ s. eqb (byte_at s 0) receipt_kind && zero_at s 3)
unfolding receipt_at receipt_bytes
receipt_computes = record { reads = λ s. refl; writes = λ a. refl; tests = λ s. refl; plain = refl; back = λ a h. refl; forth = λ s. refl }

abbrev pub receipt_codec : Codec Receipt
receipt_codec = codec receipt_computes

-- a notice, and log record 2, by the kind
abbrev notice_layout : ℕ → Layout Notice
notice_layout kind =
    record {
      fields = fixed kind ∷ fixed 0 ∷ fixed 0 ∷ fixed 0 ∷ word32 ∷ word32 ∷ [];
      to = λ v. record { client = v 0; time = v 1 };
      from = λ a. a.client ∷ a.time ∷ [];
      Fit = NoticeFits;
      fits = λ a h. (h.client, (h.time, tt));
      fitted = λ v p. record { client = p 0; time = p 1 };
    }

pub notice_computes : (kind : ℕ) → ltb kind 256 ≡ true → Computes (notice_layout kind) notice_at (notice_bytes kind) (λ s. eqb (byte_at s 0) kind && zeros3_at s 1)
unfolding notice_at notice_bytes zeros3_at
notice_computes kind h = record { reads = λ s. refl; writes = λ a. refl; tests = λ s. refl; plain = rw h; back = λ a h. refl; forth = λ s. refl }

abbrev pub notice_codec : (kind : ℕ) → ltb kind 256 ≡ true → Codec Notice
notice_codec kind h = codec (notice_computes kind h)

abbrev grant_layout : Layout Grant
grant_layout =
    record {
      fields = fixed grant_kind ∷ fixed 0 ∷ fixed 0 ∷ fixed 0 ∷ word32 ∷ word32 ∷ [];
      to = λ v. record { client = v 0; lease = v 1 };
      from = λ a. a.client ∷ a.lease ∷ [];
      Fit = GrantFits;
      fits = λ a h. (h.client, (h.lease, tt));
      fitted = λ v p. record { client = p 0; lease = p 1 };
    }

pub grant_computes : Computes grant_layout grant_at grant_bytes (λ s. eqb (byte_at s 0) grant_kind && zeros3_at s 1)
unfolding grant_at grant_bytes zeros3_at
grant_computes = record { reads = λ s. refl; writes = λ a. refl; tests = λ s. refl; plain = refl; back = λ a h. refl; forth = λ s. refl }

abbrev pub grant_codec : Codec Grant
grant_codec = codec grant_computes

-- ---- all kinds

pub packet-length : (p : Packet) → length (packet_bytes p) ≡ packet_length (kind_of p)
unfolding packet_bytes packet_length request_bytes result_bytes refusal_bytes receipt_bytes notice_bytes grant_bytes
packet-length (Requested q) = refl
packet-length (Resulted r) = (result_codec r.timed).enc-width r ∙ result-width r.timed
packet-length (Refused r) = refl
packet-length (Receipted r) = refl
packet-length (Noticed n) = refl
packet-length (Granted g) = refl

-- the bytes of a packet are bytes
pub packet-bytes : (p : Packet) → packet_fits p → Bytes (packet_bytes p)
unfolding packet_bytes
packet-bytes (Requested q) f = request_codec.enc-bytes q f
packet-bytes (Resulted r) f = (result_codec r.timed).enc-bytes r (f, refl)
packet-bytes (Refused r) f = refusal_codec.enc-bytes r f
packet-bytes (Receipted r) f = receipt_codec.enc-bytes r f
packet-bytes (Noticed n) f = (notice_codec notice_kind refl).enc-bytes n f
packet-bytes (Granted g) f = grant_codec.enc-bytes g f

-- what was written is read back
result-parsed : (timed : Bool) (r : ResultPacket) → result_ok r ≡ true → ResultFitsIn timed r → parse_packet (result_bytes (result_in timed r)) ≡ Some (Resulted r)
unfolding parse_packet whole packet_length parse_result result_bytes result_kind_of time_bytes
result-parsed true r ok f = rw ((result_codec true).dec-enc r [] f, ok)
result-parsed false r ok f = rw ((result_codec false).dec-enc r [] f, ok)

pub packet-back : (p : Packet) → packet_ok p ≡ true → packet_fits p → parse_packet (packet_bytes p) ≡ Some p
unfolding packet_bytes parse_packet whole packet_length parse_request parse_refusal parse_receipt parse_notice parse_grant request_bytes refusal_bytes receipt_bytes
    notice_bytes grant_bytes zeros3_at
packet-back (Requested q) ok f = rw (request_codec.dec-enc q [] f, ok)
packet-back (Resulted r) ok f = result-parsed r.timed r ok (f, refl)
packet-back (Refused r) ok f = rw (refusal_codec.dec-enc r [] f, ok)
packet-back (Receipted r) ok f = rw (receipt_codec.dec-enc r [] f, ok)
packet-back (Noticed n) ok f = rw ((notice_codec notice_kind refl).dec-enc n [] f, ok)
packet-back (Granted g) ok f = rw (grant_codec.dec-enc g [] f, ok)

-- what parses is well-formed, fits, and is written again: the same bytes
abbrev Found : List ℕ → Option Packet → Type 0
Found b o = (p : Packet) → o ≡ Some p → IsPacket b p

nothing : {b : List ℕ} → Found b None
nothing p e = let z : ◌≡◌ {A = ℕ} 0 1 = cc in absurd (omega arith)

whole-found : (b : List ℕ) (kind : ℕ) (ok : Bool) (p : Packet) → (length b ≡ packet_length kind → ok ≡ true → IsPacket b p) → Found b (whole b kind ok p)
unfolding whole
whole-found b kind ok p f =
    choose (Found b) (eqb (length b) (packet_length kind))
    (λ n. choose (Found b) ok (λ t q e. let z : p ≡ q = cc in subst (IsPacket b) z (f (eqb-true (length b) (packet_length kind) n) t)) (λ t. nothing))
    (λ n. nothing)

module _ (b : List ℕ) (h : Bytes b) where
  -- of one kind, whose zero bytes pass their test
  kind-found : {A : Type 0} (C : Codec A) (p : A → Packet) (kind : ℕ) (zeros : Bool) (ok : A → Bool) → packet_length kind ≡ C.width → (zeros ≡ true → C.test b ≡ true)
      → ((a : A) → ok a ≡ true → C.Fit a → C.enc a ≡ b → IsPacket b (p a)) → Found b (whole b kind (zeros && ok (C.dec b)) (p (C.dec b)))
  kind-found C p kind zeros ok w z f =
      whole-found b kind (zeros && ok (C.dec b)) (p (C.dec b))
      (λ n t.
      let c : C.test b ≡ true = z (and_left zeros (ok (C.dec b)) t) in
      f (C.dec b) (and_right zeros (ok (C.dec b)) t) (C.dec-fit b h c)
      (C.enc-dec b h (omega (arith, w, n)) c ∙ take_all C.width b (omega (arith, w, n))))

  request-found : eqb (byte_at b 0) request_kind ≡ true → Found b (parse_request b)
  unfolding parse_request packet_length packet_bytes
  request-found k =
      kind-found request_codec Requested request_kind (zero_at b 3) request_ok refl (and_both (eqb (byte_at b 0) request_kind) (zero_at b 3) k) (λ a o f e. record { ok = o; fits = f; same = e })

  result-found : (timed : Bool) → eqb (byte_at b 0) (result_kind_of timed) ≡ true → Found b (parse_result timed b)
  unfolding parse_result packet_bytes
  result-found timed k =
      kind-found (result_codec timed) Resulted (result_kind_of timed) true result_ok (sym (result-width timed)) (λ z. k)
      (λ a o f e. record { ok = o; fits = f.0; same = ap result_bytes (sym (result-back timed a f)) ∙ e })

  refusal-found : eqb (byte_at b 0) refusal_kind ≡ true → Found b (parse_refusal b)
  unfolding parse_refusal packet_length packet_bytes
  refusal-found k =
      kind-found refusal_codec Refused refusal_kind (zero_at b 3) refusal_ok refl (and_both (eqb (byte_at b 0) refusal_kind) (zero_at b 3) k) (λ a o f e. record { ok = o; fits = f; same = e })

  receipt-found : eqb (byte_at b 0) receipt_kind ≡ true → Found b (parse_receipt b)
  unfolding parse_receipt packet_length packet_bytes
  receipt-found k =
      kind-found receipt_codec Receipted receipt_kind (zero_at b 3) receipt_ok refl (and_both (eqb (byte_at b 0) receipt_kind) (zero_at b 3) k) (λ a o f e. record { ok = o; fits = f; same = e })

  notice-found : eqb (byte_at b 0) notice_kind ≡ true → Found b (parse_notice b)
  unfolding parse_notice packet_length packet_bytes
  notice-found k =
      kind-found (notice_codec notice_kind refl) Noticed notice_kind (zeros3_at b 1) notice_ok refl (and_both (eqb (byte_at b 0) notice_kind) (zeros3_at b 1) k)
      (λ a o f e. record { ok = o; fits = f; same = e })

  grant-found : eqb (byte_at b 0) grant_kind ≡ true → Found b (parse_grant b)
  unfolding parse_grant packet_length packet_bytes
  grant-found k =
      kind-found grant_codec Granted grant_kind (zeros3_at b 1) grant_ok refl (and_both (eqb (byte_at b 0) grant_kind) (zeros3_at b 1) k) (λ a o f e. record { ok = o; fits = f; same = e })

  pub packet-is : (p : Packet) → parse_packet b ≡ Some p → IsPacket b p
  unfolding parse_packet result_kind_of
  packet-is =
      choose (Found b) (eqb (byte_at b 0) 1) request-found
      (λ k1. choose (Found b) (eqb (byte_at b 0) 2) (result-found false)
      (λ k2. choose (Found b) (eqb (byte_at b 0) 3) refusal-found
      (λ k3. choose (Found b) (eqb (byte_at b 0) 4) receipt-found
      (λ k4. choose (Found b) (eqb (byte_at b 0) 5) notice-found
      (λ k5. choose (Found b) (eqb (byte_at b 0) 6) grant-found
      (λ k6. choose (Found b) (eqb (byte_at b 0) 7) (result-found true) (λ k7. nothing)))))))

  pub packet-again : (p : Packet) → parse_packet b ≡ Some p → packet_bytes p ≡ b
  packet-again p e = (packet-is p e).same

-- ---- one kind

pub request_of_lem : (p : Option Packet) (q : Request) → as_request p ≡ some q → p ≡ Some (Requested q)
unfolding as_request
request_of_lem None q e = let z : ◌≡◌ {A = ℕ} 0 1 = cc in absurd (omega arith)
request_of_lem (Some (Requested x)) q e = let z : x ≡ q = cc in ap (λ y. Some (Requested y)) z
request_of_lem (Some (Resulted x)) q e = let z : ◌≡◌ {A = ℕ} 0 1 = cc in absurd (omega arith)
request_of_lem (Some (Refused x)) q e = let z : ◌≡◌ {A = ℕ} 0 1 = cc in absurd (omega arith)
request_of_lem (Some (Receipted x)) q e = let z : ◌≡◌ {A = ℕ} 0 1 = cc in absurd (omega arith)
request_of_lem (Some (Noticed x)) q e = let z : ◌≡◌ {A = ℕ} 0 1 = cc in absurd (omega arith)
request_of_lem (Some (Granted x)) q e = let z : ◌≡◌ {A = ℕ} 0 1 = cc in absurd (omega arith)

pub receipt_of_lem : (p : Option Packet) (q : Receipt) → as_receipt p ≡ some q → p ≡ Some (Receipted q)
unfolding as_receipt
receipt_of_lem None q e = let z : ◌≡◌ {A = ℕ} 0 1 = cc in absurd (omega arith)
receipt_of_lem (Some (Requested x)) q e = let z : ◌≡◌ {A = ℕ} 0 1 = cc in absurd (omega arith)
receipt_of_lem (Some (Resulted x)) q e = let z : ◌≡◌ {A = ℕ} 0 1 = cc in absurd (omega arith)
receipt_of_lem (Some (Refused x)) q e = let z : ◌≡◌ {A = ℕ} 0 1 = cc in absurd (omega arith)
receipt_of_lem (Some (Receipted x)) q e = let z : x ≡ q = cc in ap (λ y. Some (Receipted y)) z
receipt_of_lem (Some (Noticed x)) q e = let z : ◌≡◌ {A = ℕ} 0 1 = cc in absurd (omega arith)
receipt_of_lem (Some (Granted x)) q e = let z : ◌≡◌ {A = ℕ} 0 1 = cc in absurd (omega arith)

pub notice_of_lem : (p : Option Packet) (q : Notice) → as_notice p ≡ some q → p ≡ Some (Noticed q)
unfolding as_notice
notice_of_lem None q e = let z : ◌≡◌ {A = ℕ} 0 1 = cc in absurd (omega arith)
notice_of_lem (Some (Requested x)) q e = let z : ◌≡◌ {A = ℕ} 0 1 = cc in absurd (omega arith)
notice_of_lem (Some (Resulted x)) q e = let z : ◌≡◌ {A = ℕ} 0 1 = cc in absurd (omega arith)
notice_of_lem (Some (Refused x)) q e = let z : ◌≡◌ {A = ℕ} 0 1 = cc in absurd (omega arith)
notice_of_lem (Some (Receipted x)) q e = let z : ◌≡◌ {A = ℕ} 0 1 = cc in absurd (omega arith)
notice_of_lem (Some (Noticed x)) q e = let z : x ≡ q = cc in ap (λ y. Some (Noticed y)) z
notice_of_lem (Some (Granted x)) q e = let z : ◌≡◌ {A = ℕ} 0 1 = cc in absurd (omega arith)
