-- Packets and images made: what their bytes parse to.
--     like-more                what was made stays made
--     like-packet, like-image, like_blank     bytes of a packet, of an image, of a refusal packet
--     reply-some               what is told has bytes
-- Assumes nothing.
use Rattle.std.specs.Prelude.{Option, Some, None}
use Prim.Native.Nat.{ℕ}
use mathlib.Core.Path.{◌≡◌, refl, sym, ap, ◌∙◌, subst}
use mathlib.Core.Bool.{Bool, true, false, ◌&&◌}
use mathlib.Core.List.{List, [], ◌++◌}
use mathlib.Core.Option.{Option as Maybe, none, some}
use native.Mathlib.Omega.{arith}
use lib.Dec.{eqb, leb}
use lib.ListN.{length}
use Rattle.model.specs.declared.Packet.{Packet}
use Rattle.model.specs.declared.Packet.TheVariants.{Requested, Resulted, Refused, Receipted, Noticed, Granted}
use Rattle.model.specs.declared.RefusalPacket.{RefusalPacket}
use Rattle.model.specs.Choice.{pick}
use Rattle.model.specs.Numbers.{byte_at, zero_at, starts_with}
use Rattle.model.specs.Packets.{parse_packet, parse_refusal, whole, packet_bytes, packet_length, request_bytes, result_kind_of, result_bytes, refusal_at, refusal_ok, refusal_bytes, receipt_bytes, notice_bytes, grant_bytes}
use Rattle.model.specs.Images.{Image, image_magic, image_magic_of, greatest_of, parse_image, image_ok, image_framed, image_head, image_head_of, image_at, image_bytes, image_head_bytes}
use Rattle.model.specs.Limits.{least_image, refusal_kind}
use Rattle.model_laws.specs.Fits.{IsPacket}
use Rattle.model_laws.proofs.Packets.{packet-back}
use Rattle.model_laws.proofs.Images.{image-back}
use Rattle.model_invariants.specs.Sound.{GoodImage}
use Rattle.model.specs.Calls.{Operation}
use Rattle.model_invariants.proofs.Images.{image-well, image-fits}
use Rattle.model.specs.States.{State}
use Rattle.model.specs.Decisions.{image_for}
use Rattle.proof_protocol.specs.Servers as S
use Rattle.proof_records.specs.Likeness.{ImageLike}
use Rattle.proof_records.specs.Made.{Means, ImageMeans, PacketLike}
use Rattle.proof_records.specs.Inverse.{Replies, repeats, fetches, images, receipts}

-- ---- more is made

pub like-more : {M N : S.Packet → Type 0} → ((p : S.Packet) → M p → N p) → {b : List ℕ} → PacketLike M b → PacketLike N b
unfolding Means ImageMeans
like-more {M} {N} f {b} l = record { packet = packet (parse_packet b) l.packet; image = image (parse_image b) l.image }
  where
    packet : (x : Option Packet) → Means M x → Means N x
    packet None m = tt
    packet (Some (Requested q)) m = (m.0, f _ m.1)
    packet (Some (Resulted r)) m = (m.0, f _ m.1)
    packet (Some (Refused r)) m = tt
    packet (Some (Receipted r)) m = (m.0, f _ m.1)
    packet (Some (Noticed n)) m = (m.0, f _ m.1)
    packet (Some (Granted g)) m = (m.0, m.1, f _ m.2)

    image : (o : Maybe Image) → ImageMeans M o → ImageMeans N o
    image none m = tt
    image (some i) m = (m.0, (m.1.0, m.1.1, f _ m.1.2))

-- ---- packets

-- no packet opens with 77, as an image does
result-opens : (timed : Bool) → eqb (result_kind_of timed) 77 ≡ false
unfolding result_kind_of
result-opens true = refl
result-opens false = refl

packet-opens : (q : Packet) → eqb (byte_at (packet_bytes q) 0) 77 ≡ false
unfolding packet_bytes request_bytes result_bytes refusal_bytes receipt_bytes notice_bytes grant_bytes
packet-opens (Requested q) = refl
packet-opens (Resulted r) = result-opens r.timed
packet-opens (Refused r) = refl
packet-opens (Receipted r) = refl
packet-opens (Noticed n) = refl
packet-opens (Granted g) = refl

-- in either form
magic-opens : (timed : Bool) (a b : List ℕ) → byte_at ((image_magic_of timed ++ a) ++ b) 0 ≡ 77
unfolding image_magic_of
magic-opens true a b = refl
magic-opens false a b = refl

image-opens : (i : Image) → byte_at (image_bytes i) 0 ≡ 77
unfolding image_bytes image_head_bytes image_head
image-opens i = magic-opens i.timed _ _

framed_not : (s : List ℕ) → eqb (byte_at s 0) 77 ≡ false → image_framed s ≡ false
unfolding image_framed
framed_not s e = rw e refl

image-not : (s : List ℕ) → eqb (byte_at s 0) 77 ≡ false → parse_image s ≡ none
unfolding parse_image image_ok
image-not s e = rw (framed_not s e) (go (leb least_image (length s)) (leb (length s) (greatest_of (starts_with s image_magic))))
  where
    go : (t u : Bool) → pick (t && (u && false)) (some (image_at (image_head_of s) s)) none ≡ none
    go true true = refl
    go true false = refl
    go false u = refl

module _ {M : S.Packet → Type 0} where
  pub like-packet : {b : List ℕ} (x : Packet) → IsPacket b x → Means M (Some x) → PacketLike M b
  unfolding ImageMeans
  like-packet x k m =
      subst (PacketLike M) k.same
      (record { packet = rw (packet-back x k.ok k.fits) m; image = rw (image-not (packet_bytes x) (packet-opens x)) tt })

  pub like_blank : (r : RefusalPacket) → PacketLike M (refusal_bytes r)
  unfolding Means ImageMeans parse_packet parse_refusal whole refusal_bytes packet_bytes
  like_blank r =
      let b = refusal_bytes r in
      record {
        packet = go (eqb (length b) (packet_length refusal_kind)) (zero_at b 3 && refusal_ok (refusal_at b)) (refusal_at b);
        image = rw (image-not b (packet-opens (Refused r))) tt;
      }
    where
      go : (t u : Bool) (x : RefusalPacket) → Means M (pick t (pick u (Some (Refused x)) None) None)
      go true true x = tt
      go true false x = tt
      go false u x = tt

  pub like-image : (i : Image) (a : S.Image) → GoodImage i → ImageLike i a → M (S.image a) → PacketLike M (image_bytes i)
  unfolding Means ImageMeans
  like-image i a G L m =
      record { packet = rw (opens i) tt; image = rw (image-back i (image-fits i G) (image-well i G)) (G, (a, L, m)) }
    where
      -- 77 is no kind of packet
      opens : (j : Image) → parse_packet (image_bytes j) ≡ None
      opens j = unfold parse_packet in rw (image-opens j) refl

-- what is told has bytes
pub reply-some : {st : State} {free : ℕ} {o : Operation} {b : List ℕ} → Replies st free o b → b ≡ [] → ⊥
unfolding result_bytes receipt_bytes
reply-some (repeats v b x c r f l) e = omega (arith, ap length e)
reply-some (fetches v x c r f l) e = omega (arith, ap length e)
reply-some {st} (images v p l g m) e = let z : ◌≡◌ {A = ℕ} 77 0 = sym (image-opens (image_for v st p)) ∙ ap (λ (s : List ℕ). byte_at s 0) e in omega arith
reply-some (receipts p l t m) e = let z : ◌≡◌ {A = ℕ} 0 1 = cc in omega arith
