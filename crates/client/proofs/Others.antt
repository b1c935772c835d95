-- A packet of another kind than a call takes: start takes a grant, receive a result, a refusal or a grant.
--     not-grant, not_taken
--     start-other, start-grant      start takes a packet whose kind and length are a grant's, and parses it as one
--     of_call      a result and a refusal are of the call that stands in their bytes
--     receive-same      receive takes a packet as a client parses it
-- Assumes nothing.
use Rattle.std.specs.Prelude.{Option, Some, None}
use mathlib.Core.Path.{◌≡◌, refl, sym}
use mathlib.Core.Bool.{Bool, true, false}
use mathlib.Core.List.{List}
use Prim.Native.Nat.{ℕ, ◌≤◌}
use native.Mathlib.Omega.{arith}
use lib.Dec.{eqb}
use lib.ListN.{length}
use borrow.Author.Tests.{le-ltb, eqb-true}
use Rattle.model.specs.declared.Client.{Client}
use Rattle.model.specs.declared.Grant.{Grant}
use Rattle.model.specs.declared.Packet.{Packet}
use Rattle.model.specs.declared.RefusalPacket.{RefusalPacket}
use Rattle.model.specs.declared.ResultPacket.{ResultPacket}
use Rattle.model.specs.declared.Packet.TheVariants.{Requested, Resulted, Refused, Receipted, Noticed, Granted}
use Rattle.model.specs.declared.Refusal.TheVariants as refusal
use Rattle.model.specs.Numbers.{byte_at, le32_at}
use Rattle.model.specs.Limits.{request_kind, first_result_kind, result_kind, refusal_kind, receipt_kind, notice_kind, grant_kind, refusal_size, grant_size}
use Rattle.model.specs.Packets.{packet_length, result_kind_of, result_at, refusal_at, whole}
use Rattle.model.specs.Packets.{parse_request, parse_result, parse_refusal, parse_receipt, parse_notice, parse_grant, parse_packet}
use Rattle.model_laws.proofs.Tests.{choose}
use Rattle.client.specs.Changes.{packet_call, client_packet, OfCall}
use Rattle.model.specs.Clients.{not_started, start_with, start_of, not_received, receive_with, receive_of}

pub not-grant : (p : Packet) → ((g : Grant) → p ≡ Granted g → ⊥) → start_with (Some p) ≡ not_started
unfolding start_with
not-grant (Requested q) h = refl
not-grant (Resulted r) h = refl
not-grant (Refused r) h = refl
not-grant (Receipted r) h = refl
not-grant (Noticed n) h = refl
not-grant (Granted g) h = absurd (h g refl)

pub not_taken : (d : Client) (p : Packet) → ((r : ResultPacket) → p ≡ Resulted r → ⊥) → ((r : RefusalPacket) → p ≡ Refused r → ⊥) → ((g : Grant) → p ≡ Granted g → ⊥)
    → receive_with d (Some p) ≡ not_received d refusal.Malformed
unfolding receive_with
not_taken d (Requested q) h2 h3 h6 = refl
not_taken d (Resulted r) h2 h3 h6 = absurd (h2 r refl)
not_taken d (Refused r) h2 h3 h6 = absurd (h3 r refl)
not_taken d (Receipted r) h2 h3 h6 = refl
not_taken d (Noticed n) h2 h3 h6 = refl
not_taken d (Granted g) h2 h3 h6 = absurd (h6 g refl)

-- a packet of one kind is malformed, or has its kind's length
whole_case : (P : Option Packet → Type 0) (b : List ℕ) (kind : ℕ) (ok : Bool) (p : Packet) → P None → (length b ≡ packet_length kind → P (Some p)) → P (whole b kind ok p)
unfolding whole
whole_case P b kind ok p m f = choose P (eqb (length b) (packet_length kind)) (λ n. choose P ok (λ t. f (eqb-true _ _ n)) (λ t. m)) (λ n. m)

-- ---- start

abbrev NotTaken : Option Packet → Type 0
NotTaken p = start_with p ≡ not_started

module _ (b : List ℕ) where
  pub start-other : (byte_at b 0 ≡ grant_kind → length b ≡ grant_size → ⊥) → start_with None ≡ start_of b
  unfolding start_of start_with parse_packet parse_request parse_result parse_refusal parse_receipt parse_notice parse_grant packet_length
  start-other h =
      sym (choose NotTaken (eqb (byte_at b 0) request_kind) (λ k. whole_case NotTaken b request_kind _ _ refl (λ n. refl))
      (λ k1. choose NotTaken (eqb (byte_at b 0) first_result_kind) (λ k. whole_case NotTaken b _ _ _ refl (λ n. refl))
      (λ k2. choose NotTaken (eqb (byte_at b 0) refusal_kind) (λ k. whole_case NotTaken b refusal_kind _ _ refl (λ n. refl))
      (λ k3. choose NotTaken (eqb (byte_at b 0) receipt_kind) (λ k. whole_case NotTaken b receipt_kind _ _ refl (λ n. refl))
      (λ k4. choose NotTaken (eqb (byte_at b 0) notice_kind) (λ k. whole_case NotTaken b notice_kind _ _ refl (λ n. refl))
      (λ k5. choose NotTaken (eqb (byte_at b 0) grant_kind)
      (λ k. whole_case NotTaken b grant_kind _ _ refl (λ n. absurd (h (eqb-true (byte_at b 0) grant_kind k) n)))
      (λ k6. choose NotTaken (eqb (byte_at b 0) result_kind) (λ k. whole_case NotTaken b _ _ _ refl (λ n. refl)) (λ k7. refl))))))))

  pub start-grant : byte_at b 0 ≡ grant_kind → start_with (parse_grant b) ≡ start_of b
  unfolding start_of parse_packet
  start-grant k = rw k refl

-- ---- receive

module _ (b : List ℕ) where
  call-there : refusal_size ≤ length b → packet_call b ≡ le32_at b 8
  unfolding packet_call
  call-there h = rw (le-ltb (length b) refusal_size h) refl

  pub of_call : OfCall (packet_call b) (client_packet b)
  unfolding client_packet parse_result parse_refusal parse_grant packet_length result_kind_of result_at refusal_at
  of_call =
      let Is = OfCall (packet_call b) in
      choose Is (eqb (byte_at b 0) first_result_kind) (λ k. whole_case Is b first_result_kind _ _ tt (λ n. call-there (omega arith)))
      (λ k2. choose Is (eqb (byte_at b 0) refusal_kind) (λ k. whole_case Is b refusal_kind _ _ tt (λ n. call-there (omega arith)))
      (λ k3. choose Is (eqb (byte_at b 0) grant_kind) (λ k. whole_case Is b grant_kind _ _ tt (λ n. tt))
      (λ k6. choose Is (eqb (byte_at b 0) result_kind) (λ k. whole_case Is b result_kind _ _ tt (λ n. call-there (omega arith))) (λ k7. tt))))

  module _ (d : Client) where
    abbrev NotReceived : Option Packet → Type 0
    NotReceived p = not_received d refusal.Malformed ≡ receive_with d p

    abbrev Same : Type 0
    Same = receive_with d (client_packet b) ≡ receive_of d b

    of_kind : (kind : ℕ) → (byte_at b 0 ≡ kind → Same) → (eqb (byte_at b 0) kind ≡ false → Same) → Same
    of_kind kind f g = go (eqb (byte_at b 0) kind) refl
      where
        go : (u : Bool) → eqb (byte_at b 0) kind ≡ u → Same
        go true k = f (eqb-true (byte_at b 0) kind k)
        go false k = g k

    pub receive-same : receive_with d (client_packet b) ≡ receive_of d b
    unfolding receive_of client_packet parse_packet parse_request parse_receipt parse_notice receive_with
    receive-same =
        of_kind request_kind (λ k. rw k (whole_case NotReceived b request_kind _ _ refl (λ n. refl)))
        (λ k1. of_kind first_result_kind (λ k. rw k refl)
        (λ k2. of_kind refusal_kind (λ k. rw k refl)
        (λ k3. of_kind receipt_kind (λ k. rw k (whole_case NotReceived b receipt_kind _ _ refl (λ n. refl)))
        (λ k4. of_kind notice_kind (λ k. rw k (whole_case NotReceived b notice_kind _ _ refl (λ n. refl)))
        (λ k5. of_kind grant_kind (λ k. rw k refl)
        (λ k6. of_kind result_kind (λ k. rw k refl) (λ k7. rw (k1, k2, k3, k4, k5, k6, k7) refl)))))))
