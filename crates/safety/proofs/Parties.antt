-- Clients and lease manager stay well formed, and what is made is bytes, whatever is called.
--     packet-made              a packet or image that was made is bytes
--     parties-server, parties-making     a server changes; bytes are made
--     parties-outside          calls of clients and of the lease manager
--     empty-parties            the beginning
-- Assumes nothing.
use Prim.Native.Nat.{ℕ, zero, suc, ◌≤◌}
use mathlib.Core.Path.{◌≡◌, refl, subst}
use mathlib.Core.Bool.{Bool, true, false}
use mathlib.Core.List.{List, [], ◌∷◌}
use mathlib.Core.Option.{Option, none, some}
use native.Mathlib.Omega.{arith}
use lib.Dec.{eqb}
use lib.ListN.{get_elem?}
use Rattle.std.specs.Prelude.{Result, Ok, Err}
use Rattle.model.specs.declared.Request.{Request}
use Rattle.model.specs.declared.Refusal.{Refusal}
use Rattle.model.specs.declared.Client.{Client}
use Rattle.model.specs.declared.LeaseManager.{LeaseManager}
use Rattle.model.specs.declared.Told.{Told}
use Rattle.model.specs.declared.Told.TheVariants.{ByGrant, ByNotice}
use Rattle.model.specs.declared.Packet.{Packet}
use Rattle.model.specs.declared.Packet.TheVariants.{Noticed, Granted}
use Rattle.model.specs.declared.SendAnswer.{SendAnswer}
use Rattle.model.specs.Choice.{pick}
use Rattle.model.specs.Packets.{packet_bytes, request_bytes}
use Rattle.model.specs.Clients.{start_of, issue_of, resend_of, receive_of, sent_bytes}
use Rattle.model.specs.Leases.{told_bytes}
use Rattle.model.specs.Limits.{last32}
use Rattle.model_laws.specs.Bytes.{Bytes, All}
use Rattle.model_laws.specs.Fits.{IsPacket}
use Rattle.model_laws.proofs.Numbers.{bytes-nil}
use Rattle.model_laws.proofs.Packets.{packet-bytes}
use Rattle.model_laws.proofs.Clients.{resend-same}
use Rattle.model_laws.proofs.Tables.{all_append}
use Rattle.model_laws.specs.ClientForm.{WellFormed}
use Rattle.model_laws.proofs.ClientsKept.{issue-well}
use Rattle.model_laws.proofs.ClientsBytes.{issue-packet, resend-packet, receive-kept, start-kept}
use Rattle.model_laws.specs.LeaseForm.{LeaseCall, given_time, answer_of}
use Rattle.model_laws.specs.LeaseForm as Leases
use Rattle.model_laws.proofs.LeasesKept.{new_well, call-well, grant-within, notice-gone}
use Rattle.claim.specs.World.{OutsideCall, start, issue, resend, receive, open·lease, renew, query}
use Rattle.claim.specs.World.{WorldOf, with_server, with_client, with_manager, making, packet, starts_as, starts_on, sends, receives, told, outside_step}
use Rattle.claim.specs.Provisos.{OutsideTyped}
use Rattle.claim.specs.RecordWorld as R
use Rattle.safety.specs.Parties.{Parties}

all_at : {A : Type 0} (P : A → Type 0) (xs : List A) (n : ℕ) (x : A) → All P xs → get_elem? xs n ≡ some x → P x
all_at P [] n x h e = let z : ◌≡◌ {A = ℕ} 0 1 = cc in absurd (omega arith)
all_at P (y ∷ xs) zero x h e = let z : y ≡ x = cc in subst P z h.0
all_at P (y ∷ xs) (suc n) x h e = all_at P xs n x h.1 e

is-bytes : {b : List ℕ} {p : Packet} → IsPacket b p → Bytes b
is-bytes {p = p} k = subst Bytes k.same (packet-bytes p k.fits)

module _ {S : Type 0} {w : WorldOf S} (h : Parties w) where
  pub packet-made : (n : ℕ) (b : List ℕ) → packet w n ≡ some b → Bytes b
  unfolding packet
  packet-made n b e = all_at Bytes w.made n b h.made e

  pub parties-server : (c : ℕ) (s : S) → Parties (with_server c s w)
  unfolding with_server
  parties-server c s = record { clients = h.clients; manager = h.manager; made = h.made }

  parties-client : (x : ℕ) (d : Client) → WellFormed d → Parties (with_client x d w)
  unfolding with_client
  parties-client x d k = record { clients = λ y c e. go y c (eqb y x) e; manager = h.manager; made = h.made }
    where
      go : (y : ℕ) (c : Client) (t : Bool) → pick t (some d) (w.clients y) ≡ some c → WellFormed c
      go y c true e = let z : d ≡ c = cc in subst WellFormed z k
      go y c false e = h.clients y c e

  parties-manager : (m : LeaseManager) → Leases.WellFormed m → Parties (with_manager m w)
  unfolding with_manager
  parties-manager m k = record { clients = h.clients; manager = k; made = h.made }

  pub parties-making : (b : List ℕ) → Bytes b → Parties (making b w)
  unfolding making
  parties-making [] k = h
  parties-making (x ∷ b) k = record { clients = h.clients; manager = h.manager; made = all_append Bytes w.made ((x ∷ b) ∷ []) h.made (k, tt) }

-- ---- clients

module _ {S : Type 0} {w : WorldOf S} (h : Parties w) where
  parties-starts : (o : Option (List ℕ)) → ((b : List ℕ) → o ≡ some b → Bytes b) → Parties (starts_on o w)
  unfolding starts_on starts_as
  parties-starts none k = h
  parties-starts (some b) k = go (start_of b).answer refl
    where
      go : (s : Result Unit Refusal) → (start_of b).answer ≡ s → Parties {S = S} (elim s [ Err n ↦ w | Ok tt ↦ with_client (start_of b).client.client (start_of b).client w ])
      go (Err n) e = h
      go (Ok tt) e = parties-client h (start_of b).client.client (start_of b).client (start-kept b (k b refl) e)

  -- a client that sends
  parties-sends : (x : ℕ) (f : Client → SendAnswer) → ((d : Client) → WellFormed d → WellFormed (f d).client × Bytes (sent_bytes (f d).answer))
      → (o : Option Client) → w.clients x ≡ o → Parties (sends x f o w)
  unfolding sends
  parties-sends x f k none e = h
  parties-sends x f k (some d) e =
      let y = k d (h.clients x d e) in
      parties-making (parties-client h x (f d).client y.0) (sent_bytes (f d).answer) y.1

  sent-bytes : (s : Result Request Refusal) → ((q : _) → s ≡ Ok q → Bytes (request_bytes q)) → Bytes (sent_bytes s)
  unfolding sent_bytes
  sent-bytes (Err n) k = bytes-nil
  sent-bytes (Ok q) k = k q refl

  parties-issues : (x op p a : ℕ) → Parties (sends x (λ d. issue_of d op p a) (w.clients x) w)
  parties-issues x op p a =
      parties-sends x (λ d. issue_of d op p a)
      (λ d k. (issue-well k op p a, sent-bytes (issue_of d op p a).answer (λ q e. is-bytes (issue-packet k op p a q e)))) (w.clients x) refl

  parties-resends : (x c : ℕ) → Parties (sends x (λ d. resend_of d c) (w.clients x) w)
  parties-resends x c =
      parties-sends x (λ d. resend_of d c)
      (λ d k. (rw (resend-same d c) k, sent-bytes (resend_of d c).answer (λ q e. is-bytes (resend-packet k c q e)))) (w.clients x) refl

  parties-receives : (x : ℕ) (p : Option (List ℕ)) → ((b : List ℕ) → p ≡ some b → Bytes b) → Parties (receives x (w.clients x) p w)
  parties-receives x p k = go (w.clients x) refl p k
    where
      go : (o : Option Client) → w.clients x ≡ o → (q : Option (List ℕ)) → ((b : List ℕ) → q ≡ some b → Bytes b) → Parties (receives x o q w)
      go none e q k = unfold receives in h
      go (some d) e none k = unfold receives in h
      go (some d) e (some b) k = unfold receives in parties-client h x (receive_of d b).client (receive-kept (h.clients x d e) b (k b refl))

  -- ---- the lease manager

  parties-told : (c : LeaseCall) → given_time c ≤ last32 → Parties (told (answer_of w.manager c) w)
  unfolding told told_bytes packet_bytes
  parties-told c t =
      parties-making (parties-manager h (answer_of w.manager c).manager well) (told_bytes (answer_of w.manager c).answer) (go (answer_of w.manager c).answer refl)
    where
      well : Leases.WellFormed (answer_of w.manager c).manager
      well = call-well h.manager c t

      go : (s : Result Told Refusal) → (answer_of w.manager c).answer ≡ s → Bytes (told_bytes s)
      go (Err n) e = bytes-nil
      go (Ok (ByGrant g)) e = let b = grant-within h.manager c g e in packet-bytes (Granted g) (record { client = omega (arith, b.1); lease = omega (arith, b.2) })
      go (Ok (ByNotice n)) e =
          let b = notice-gone h.manager c n e in
          packet-bytes (Noticed n) (record { client = omega (arith, b.0.issued, well.numbered); time = omega (arith, b.1, well.timed) })

  -- ---- both

  pub parties-outside : (e : OutsideCall) → OutsideTyped e → Parties (outside_step w e)
  unfolding outside_step OutsideTyped answer_of given_time
  parties-outside (start p) t = parties-starts (packet w p) (packet-made h p)
  parties-outside (issue x op p a) t = parties-issues x op p a
  parties-outside (resend x c) t = parties-resends x c
  parties-outside (receive x p) t = parties-receives x (packet w p) (packet-made h p)
  parties-outside (open·lease n span) t = parties-told (LeaseCall.opens n span) (omega (arith, t))
  parties-outside (renew x n span) t = parties-told (LeaseCall.renews x n span) (omega (arith, t))
  parties-outside (query x n) t = parties-told (LeaseCall.queries x n) (omega (arith, t))

pub empty-parties : Parties R.empty_world
unfolding R.empty_world
empty-parties = record { clients = λ x d e. let z : ◌≡◌ {A = ℕ} 0 1 = cc in absurd (omega arith); manager = new_well; made = tt }
