-- Packets to and from a client.
--     command-fits                 a well-formed command fits its bytes
--     issue-packet, resend-packet  a request that is sent is a well-formed packet
--     issue-back, resend-back      a request that is sent is read back as it was
--     parsed-fits                  what is parsed of bytes fits
--     start-kept, receive-kept     start and receive, over bytes, keep a client well formed
-- Assumes nothing.
use mathlib.Core.Path.{◌≡◌, refl, subst}
use mathlib.Core.Bool.{true}
use mathlib.Core.List.{List}
use Prim.Native.Nat.{ℕ, ◌<◌}
use native.Mathlib.Omega.{arith}
use borrow.Author.Tests.{leb-true}
use Rattle.std.specs.Prelude.{Ok, Option, Some, None}
use Rattle.model_laws.specs.Bytes.{Bytes}
use Rattle.model_laws.specs.Fits.{RequestFits, packet_fits, IsPacket}
use Rattle.model_laws.proofs.Tests.{and_left}
use Rattle.model_laws.proofs.Commands.{command-parts}
use Rattle.model_laws.proofs.Packets.{packet-back, packet-is}
use Rattle.model_laws.proofs.Clients.{first_under, issue-asked, resend-asked}
use Rattle.model.specs.declared.OpenCall.{OpenCall}
use Rattle.model.specs.declared.Client.{Client}
use Rattle.model.specs.declared.Request.{Request}
use Rattle.model.specs.declared.Grant.{Grant}
use Rattle.model.specs.declared.Packet.{Packet}
use Rattle.model.specs.declared.Packet.TheVariants.{Requested, Resulted, Refused, Receipted, Noticed, Granted}
use Rattle.model.specs.Packets.{command_ok, request_ok, grant_ok, request_bytes, packet_bytes, parse_packet}
use Rattle.model.specs.Clients.{call_at, with_calls, with_call, new_call, request_for, start_with, start_of, issue_of, resend_of, receive_with, receive_of, not_received}
use Rattle.model_laws.specs.ClientForm.{WellFormed}
use Rattle.model_laws.proofs.OpenCalls.{open_below_lem}
use Rattle.model_laws.proofs.ClientsKept.{start-well, receive-well, issue-well, issue-ok, resend-ok}

pub command-fits : (op point a : ℕ) → command_ok op point a ≡ true → (op < 256) × (point < 256) × (a < 4294967296)
command-fits op point a e =
    let c = command-parts op point a e in
    let o = c.op in
    let p = c.point in
    (omega arith, omega arith, c.fits)

-- a well-formed request of a well-formed client
request-fits : {d : Client} → WellFormed d → (k : OpenCall) → k.call < d.next → request_ok (request_for d k) ≡ true → RequestFits (request_for d k)
unfolding request_ok request_for
request-fits {d} w k b ok =
    let f = command-fits k.op k.point k.argument (and_left (command_ok k.op k.point k.argument) _ ok) in
    record {
      op = f.0;
      point = f.1;
      client = omega (arith, w.client-within);
      call = omega (arith, w.next-within);
      done = omega (arith, w.next-within, first_under d);
      lease = omega (arith, w.lease-within);
      argument = f.2;
    }

is-packet : (q : Request) → request_ok q ≡ true → RequestFits q → IsPacket (request_bytes q) (Requested q)
unfolding packet_bytes
is-packet q ok fits = record { ok = ok; fits = fits; same = refl }

pub issue-packet : {d : Client} → WellFormed d → (op point a : ℕ) (q : Request) → (issue_of d op point a).answer ≡ Ok q → IsPacket (request_bytes q) (Requested q)
issue-packet {d} w op point a q s =
    let i = issue-asked d op point a q s in
    let ok = issue-ok w op point a q s in
    let v = subst WellFormed i.after (issue-well w op point a) in
    is-packet q ok (rw i.asks (request-fits v (new_call d op point a) (next-after d op point a) (subst (λ (x : Request). request_ok x ≡ true) i.asks ok)))
  where
    next-after : (c : Client) (o p b : ℕ) → (new_call c o p b).call < (with_call c (new_call c o p b)).next
    next-after c o p b = unfold new_call with_call with_calls in omega arith

pub resend-packet : {d : Client} → WellFormed d → (c : ℕ) (q : Request) → (resend_of d c).answer ≡ Ok q → IsPacket (request_bytes q) (Requested q)
resend-packet {d} w c q s =
    let r = resend-asked d c q s in
    let ok = resend-ok w c q s in
    let b = open_below_lem w c r.open_call_lem in
    is-packet q ok (rw r.asks (request-fits w (call_at d c) (omega (arith, r.open_call_lem.at)) (subst (λ (x : Request). request_ok x ≡ true) r.asks ok)))

back : (q : Request) → IsPacket (request_bytes q) (Requested q) → parse_packet (request_bytes q) ≡ Some (Requested q)
unfolding packet_bytes
back q k = packet-back (Requested q) k.ok k.fits

pub issue-back : {d : Client} → WellFormed d → (op point a : ℕ) (q : Request) → (issue_of d op point a).answer ≡ Ok q → parse_packet (request_bytes q) ≡ Some (Requested q)
issue-back w op point a q s = back q (issue-packet w op point a q s)

pub resend-back : {d : Client} → WellFormed d → (c : ℕ) (q : Request) → (resend_of d c).answer ≡ Ok q → parse_packet (request_bytes q) ≡ Some (Requested q)
resend-back w c q s = back q (resend-packet w c q s)

-- ---- over bytes

pub parsed-fits : (b : List ℕ) → Bytes b → (p : Packet) → parse_packet b ≡ Some p → packet_fits p
parsed-fits b h p e = (packet-is b h p e).fits

pub receive-kept : {d : Client} → WellFormed d → (b : List ℕ) → Bytes b → WellFormed (receive_of d b).client
unfolding receive_of receive_with not_received
receive-kept {d} w b h = go (parse_packet b) (parsed-fits b h)
  where
    go : (o : Option Packet) → ((p : Packet) → o ≡ Some p → packet_fits p) → WellFormed (receive_with d o).client
    go None f = w
    go (Some p) f = receive-well w p (f p refl)

grant-kept : {b : List ℕ} {g : Grant} → IsPacket b (Granted g) → WellFormed (start_with (Some (Granted g))).client
unfolding grant_ok
grant-kept {g = g} k = start-well g (leb-true 1 g.client k.ok) k.fits

pub start-kept : (b : List ℕ) → Bytes b → (start_of b).answer ≡ Ok tt → WellFormed (start_of b).client
unfolding start_of start_with
start-kept b h e = go (parse_packet b) (packet-is b h) e
  where
    go : (o : Option Packet) → ((p : Packet) → o ≡ Some p → IsPacket b p) → (start_with o).answer ≡ Ok tt → WellFormed (start_with o).client
    go None f s = let z : ◌≡◌ {A = ℕ} 0 1 = cc in absurd (omega arith)
    go (Some (Requested q)) f s = let z : ◌≡◌ {A = ℕ} 0 1 = cc in absurd (omega arith)
    go (Some (Resulted r)) f s = let z : ◌≡◌ {A = ℕ} 0 1 = cc in absurd (omega arith)
    go (Some (Refused r)) f s = let z : ◌≡◌ {A = ℕ} 0 1 = cc in absurd (omega arith)
    go (Some (Receipted r)) f s = let z : ◌≡◌ {A = ℕ} 0 1 = cc in absurd (omega arith)
    go (Some (Noticed n)) f s = let z : ◌≡◌ {A = ℕ} 0 1 = cc in absurd (omega arith)
    go (Some (Granted g)) f s = grant-kept (f (Granted g) refl)
