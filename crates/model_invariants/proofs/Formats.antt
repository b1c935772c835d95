-- What laws calls well formed against what is well formed here, both ways; so what is parsed may be handed to an operation, and what
-- is appended is read back.
--     good-record, record-good           log records
--     parsed-request, parsed-notice, parsed-receipt, parsed-image     what is parsed is well formed
--     image_read                         an image made by a sound state is read back
--     on_request_lem, on_notice_lem, on_take_lem, on_release_lem             what an operation decides on its packet
--     chained, from_chained              entries of a log, one after the other
-- Assumes nothing.
use Rattle.std.specs.Prelude.{Some}
use Prim.Native.Nat.{ℕ, ◌*◌, ◌≤◌, ◌<◌}
use mathlib.Core.Path.{◌≡◌, refl}
use mathlib.Core.Bool.{true}
use mathlib.Core.List.{List, [], ◌∷◌}
use mathlib.Core.Option.{Option, none, some}
use native.Mathlib.Omega.{arith}
use borrow.Author.Tests.{leb-true, le-leb}
use Rattle.model.specs.Versions.{Versions}
use Rattle.model.specs.declared.Executed.{Executed}
use Rattle.model.specs.declared.Request.{Request}
use Rattle.model.specs.declared.Notice.{Notice}
use Rattle.model.specs.declared.Receipt.{Receipt}
use Rattle.model.specs.declared.Packet.TheVariants.{Requested, Receipted, Noticed}
use Rattle.model.specs.Choice.{refuse, deny, reply, append, marks}
use Rattle.model.specs.Numbers.{word}
use Rattle.model.specs.Limits.{last_point, last_server}
use Rattle.model.specs.Packets.{notice_ok, receipt_ok, parse_packet, as_request, as_receipt, as_notice}
use Rattle.model.specs.Images.{Image, parse_image, image_bytes}
use Rattle.model.specs.Logs.{LogRecord, executed, gone, gave, took, released, give_ok, release_ok, Entry}
use Rattle.model.specs.States.{State}
use Rattle.model.specs.Decisions.{image_for, Decided, or_malformed, decide_request, denying, on_request, decide_notice, on_notice, on_take, decide_release, on_release}
use Rattle.model_laws.specs.Bytes.{Bytes}
use Rattle.model_laws.specs.Fits.{RequestFits, NoticeFits, IsPacket, ExecutedFits, record_fits, record_ok, EntriesFrom, last_end}
use Rattle.model_laws.proofs.Reflects.{le, both}
use Rattle.model_laws.proofs.Packets.{packet-is, request_of_lem, receipt_of_lem, notice_of_lem}
use Rattle.model_laws.proofs.Images.{image-is, image-back}
use Rattle.model_invariants.specs.Sound.{SoundBy, In64, GoodImage, GoodRequest, GoodExecuted, GoodNotice, GoodRecord}
use Rattle.model_invariants.specs.History.{Decides, by_request, by_notice, by_take, by_release, Chained}
use Rattle.model_invariants.proofs.Tests.{command-fits, outcome_fits}
use Rattle.model_invariants.proofs.Steps.{tested}
use Rattle.model_invariants.proofs.Images.{image_of_lem, image-well, image-fits, image-good}

-- ---- log records

pub good-record : (r : LogRecord) → record_ok r ≡ true → record_fits r → GoodRecord r
unfolding notice_ok give_ok release_ok
good-record (executed x) h f = record { ok = h; client = f.client; call = f.call; value = f.value; time = f.time }
good-record (gone n) h f = record { ok = leb-true _ _ h; client = f.client; time = f.time }
good-record (gave g) h f = let a = (both (le g.point last_point) (le g.destination last_server)).holds h in record { point = a.0; destination = a.1; move_number = f.move_number }
good-record (took i) h f = image_of_lem i h f
good-record (released r) h f = record { point = leb-true _ _ h; move_number = f.move_number }

executed-fits : (x : Executed) → GoodExecuted x → ExecutedFits x
executed-fits x g =
    let t = tested x g.ok in
    let c = command-fits x.command.op x.command.point x.command.argument t.command in
    let o = outcome_fits x.result.outcome x.result.quality t.outcome in
    record {
      op = omega (arith, c.op);
      point = omega (arith, c.point);
      outcome = omega (arith, o.0);
      client = g.client;
      call = g.call;
      done = omega (arith, t.low, g.call);
      argument = c.argument;
      value = g.value;
      quality = omega (arith, o.1);
      time = g.time;
    }

pub record-good : (r : LogRecord) → GoodRecord r → (record_ok r ≡ true) × record_fits r
unfolding notice_ok give_ok release_ok
record-good (executed x) g = (g.ok, executed-fits x g)
record-good (gone n) g = (le-leb _ _ g.ok, record { client = g.client; time = g.time })
record-good (gave x) g = (
  (both (le x.point last_point) (le x.destination last_server)).passes (g.point, g.destination),
  record { point = omega (arith, g.point); destination = omega (arith, g.destination); move_number = g.move_number },
)
record-good (took i) g = (image-well i g, image-fits i g)
record-good (released r) g = (le-leb _ _ g.point, record { point = omega (arith, g.point); move_number = g.move_number })

-- ---- packets and images

pub parsed-request : (b : List ℕ) (q : Request) → Bytes b → parse_packet b ≡ Some (Requested q) → GoodRequest q
parsed-request b q h e =
    let p : IsPacket b (Requested q) = packet-is b h (Requested q) e in
    let f : RequestFits q = p.fits in
    record { ok = p.ok; client = f.client; call = f.call }

pub parsed-notice : (b : List ℕ) (n : Notice) → Bytes b → parse_packet b ≡ Some (Noticed n) → GoodNotice n
unfolding notice_ok
parsed-notice b n h e =
    let p : IsPacket b (Noticed n) = packet-is b h (Noticed n) e in
    let f : NoticeFits n = p.fits in
    record { ok = leb-true _ _ p.ok; client = f.client; time = f.time }

pub parsed-receipt : (b : List ℕ) (r : Receipt) → Bytes b → parse_packet b ≡ Some (Receipted r) → r.point ≤ last_point
unfolding receipt_ok
parsed-receipt b r h e =
    let p : IsPacket b (Receipted r) = packet-is b h (Receipted r) e in
    ((both (le r.point last_point) (le r.server last_server)).holds p.ok).0

pub parsed-image : (b : List ℕ) (i : Image) → Bytes b → parse_image b ≡ some i → GoodImage i
parsed-image b i h e = let p = image-is b h i e in image_of_lem i p.ok p.fits

-- the bytes of a sound state's image are read back as that image
pub image_read : {P : ℕ → Type 0} (v : Versions) (st : State) (p : ℕ) → SoundBy P st → p ≤ last_point → parse_image (image_bytes (image_for v st p)) ≡ some (image_for v st p)
image_read v st p S l = let G = (image-good v st p S l).0 in image-back (image_for v st p) (image-fits (image_for v st p) G) (image-well (image_for v st p) G)

-- ---- what an operation decides on what it is handed

never : {X : Type 0} (n : ℕ) (r : LogRecord) → ◌≡◌ {A = Decided} (refuse n) (append r) → X
never n r e = let z : ◌≡◌ {A = ℕ} 0 1 = cc in absurd (omega arith)

packet-append : (q : Request) (d : Decided) (r : LogRecord) → denying q d ≡ append r → d ≡ append r
unfolding denying
packet-append q (refuse n) r e = let z : ◌≡◌ {A = ℕ} 0 1 = cc in absurd (omega arith)
packet-append q (deny n b) r e = let z : ◌≡◌ {A = ℕ} 0 1 = cc in absurd (omega arith)
packet-append q (reply b) r e = let z : ◌≡◌ {A = ℕ} 0 1 = cc in absurd (omega arith)
packet-append q (append x) r e = e
packet-append q (marks m) r e = let z : ◌≡◌ {A = ℕ} 0 1 = cc in absurd (omega arith)

module _ (st : State) (free : ℕ) (b : List ℕ) (h : Bytes b) (r : LogRecord) where
  pub on_request_lem : (v : Versions) → on_request v st free (parse_packet b) ≡ append r → Decides st free r
  unfolding on_request or_malformed
  on_request_lem v e = go (as_request (parse_packet b)) refl e
    where
      go : (o : Option Request) → as_request (parse_packet b) ≡ o → or_malformed o (λ q. denying q (decide_request v st free q)) ≡ append r → Decides st free r
      go none q k = never _ r k
      go (some x) q k = by_request v x (parsed-request b x h (request_of_lem (parse_packet b) x q)) (packet-append x (decide_request v st free x) r k)

  pub on_notice_lem : on_notice st free (parse_packet b) ≡ append r → Decides st free r
  unfolding on_notice or_malformed
  on_notice_lem e = go (as_notice (parse_packet b)) refl e
    where
      go : (o : Option Notice) → as_notice (parse_packet b) ≡ o → or_malformed o (decide_notice st free) ≡ append r → Decides st free r
      go none q k = never _ r k
      go (some x) q k = by_notice x (parsed-notice b x h (notice_of_lem (parse_packet b) x q)) k

  pub on_take_lem : on_take st free (parse_image b) ≡ append r → Decides st free r
  unfolding on_take or_malformed
  on_take_lem e = go (parse_image b) refl e
    where
      go : (o : Option Image) → parse_image b ≡ o → on_take st free o ≡ append r → Decides st free r
      go none q k = never _ r k
      go (some i) q k = by_take i (parsed-image b i h q) k

  pub on_release_lem : on_release st free (parse_packet b) ≡ append r → Decides st free r
  unfolding on_release or_malformed
  on_release_lem e = go (as_receipt (parse_packet b)) refl e
    where
      go : (o : Option Receipt) → as_receipt (parse_packet b) ≡ o → or_malformed o (λ x. decide_release st free x.point x.move_number) ≡ append r → Decides st free r
      go none q k = never _ r k
      go (some x) q k = by_release x.point x.move_number (parsed-receipt b x h (receipt_of_lem (parse_packet b) x q)) k

-- ---- entries of a log

from-least : (k : ℕ) (es : List Entry) → EntriesFrom k es → k ≤ last_end k es
unfolding last_end
from-least k [] f = omega arith
from-least k (e ∷ es) f = omega (arith, f.0.end, from-least e.end es f.1)

pub chained : (k : ℕ) (es : List Entry) → EntriesFrom k es → last_end k es < word * word → Chained In64 k es
unfolding last_end
chained k [] f z = tt
chained k (e ∷ es) f z =
    (good-record e.item f.0.ok f.0.fits, f.0.end, omega (arith, z, from-least e.end es f.1), chained e.end es f.1 z)

pub from_chained : (k : ℕ) (es : List Entry) → Chained In64 k es → EntriesFrom k es
from_chained k [] c = tt
from_chained k (e ∷ es) c = let g = record-good e.item c.0 in (record { ok = g.0; fits = g.1; end = c.1 }, from_chained e.end es c.3)
