-- The reply of each case.
--     reply-none, reply-request      what issue and resend give
--     lease-none, lease-grant, lease-notice      what the lease manager gives
--     past-test, issued-past         issue with an op or a point past a byte
--     sends, receives, leases        what is stored and replied makes the answer
-- Assumes nothing.
use mathlib.Core.Path.{◌≡◌, refl, ap, ◌∙◌}
use mathlib.Core.Bool.{Bool, true, false, ◌||◌}
use mathlib.Core.List.{List}
use Prim.Native.Nat.{ℕ, ◌<◌}
use native.Mathlib.Omega.{arith}
use lib.Dec.{ltb}
use borrow.Author.Tests.{ltb-false}
use lib.ListN.{set, replicate}
use Rattle.std.proofs.Common.{Result, Ok, Err}
use Rattle.model.specs.declared.Request.{Request}
use Rattle.model.specs.declared.Grant.{Grant}
use Rattle.model.specs.declared.Notice.{Notice}
use Rattle.model.specs.declared.Client.{Client}
use Rattle.model.specs.declared.SendAnswer.{SendAnswer}
use Rattle.model.specs.declared.ReceiveAnswer.{ReceiveAnswer}
use Rattle.model.specs.declared.LeaseManager.{LeaseManager}
use Rattle.model.specs.declared.LeaseAnswer.{LeaseAnswer}
use Rattle.model.specs.declared.Told.TheVariants.{ByGrant, ByNotice}
use Rattle.model.specs.Limits.{notice_kind, grant_kind, request_size, grant_size, notice_size}
use Rattle.model.specs.Packets.{request_bytes, grant_bytes, notice_bytes}
use Rattle.model.specs.declared.Received.{Received}
use Rattle.model.specs.Numbers.{flip}
use Rattle.model.specs.Clients.{place_of, with_calls, not_sent, send_number, receive_number, brought, sent_bytes, issue_of}
use Rattle.model.specs.Leases.{told_number, told_bytes}
use Rattle.model.specs.declared.Refusal.{Refusal}
use Rattle.model.specs.declared.Refusal.TheVariants.{Malformed}
use Rattle.model.specs.Refusals.{no_refusal, number_of}
use Rattle.model_laws.proofs.Clients.{past-byte}
use Rattle.leases.specs.declared.LeaseChange.{LeaseChange}
use Rattle.leases.specs.Changes.{answered, Changes}
use Rattle.client.specs.declared.SendChange.{SendChange}
use Rattle.client.specs.declared.ReceiveChange.{ReceiveChange}
use Rattle.client.specs.Changes.{issued, received}
use Rattle.client_c.specs.declared.SendReply.{SendReply}
use Rattle.client_c.specs.declared.ReceiveReply.{ReceiveReply}
use Rattle.client_c.specs.declared.LeaseReply.{LeaseReply}
use Rattle.client_c.specs.Replies.{filled, numbered, sent_call, send_reply, send_reply_by, receive_reply, receive_reply_by, told_kind, lease_reply}

-- ---- issue and resend

pub reply-none : {n m : ℕ} → n ≡ m → record { number = n; call = 0; length = 0; packet = replicate request_size 0 } ≡ send_reply_by (Err m)
unfolding send_reply_by filled
reply-none is = rw is refl

pub reply-request : (q : Request) {p : List ℕ} → p ≡ request_bytes q
    → record { number = no_refusal; call = q.command.call; length = request_size; packet = p } ≡ send_reply_by (Ok q)
unfolding send_reply_by send_reply sent_call send_number sent_bytes filled request_bytes
reply-request q e = rw e refl

-- by a refusal or by its number
pub sent_numbered : (a : Result Request Refusal) {o : Result Request ℕ} {s : SendReply} → o ≡ numbered a → s ≡ send_reply_by o → s ≡ send_reply a
unfolding send_reply_by send_reply sent_call send_number sent_bytes
sent_numbered (Ok q) p e = rw p at e
sent_numbered (Err x) p e = rw p at e

pub received_numbered : (a : Result Received Refusal) {o : Result Received ℕ} {r : ReceiveReply} → o ≡ numbered a → r ≡ receive_reply_by o → r ≡ receive_reply a
unfolding receive_reply_by receive_reply receive_number brought flip
received_numbered (Ok q) p e = rw p at e
received_numbered (Err x) p e = rw p at e

-- ---- the lease manager

pub lease-none : (e : Refusal) {n : ℕ} → n ≡ number_of e → record { number = n; kind = 0; length = 0; packet = replicate grant_size 0 } ≡ lease_reply (Err e)
unfolding lease_reply told_kind told_number told_bytes filled
lease-none e is = rw is refl

pub lease-grant : (g : Grant) {p : List ℕ} → p ≡ grant_bytes g → record { number = no_refusal; kind = grant_kind; length = grant_size; packet = p } ≡ lease_reply (Ok (ByGrant g))
unfolding lease_reply told_kind told_number told_bytes filled grant_bytes
lease-grant g e = rw e refl

pub lease-notice : (n : Notice) {p : List ℕ} → p ≡ notice_bytes notice_kind n
    → record { number = no_refusal; kind = notice_kind; length = notice_size; packet = p } ≡ lease_reply (Ok (ByNotice n))
unfolding lease_reply told_kind told_number told_bytes filled notice_bytes
lease-notice n e = rw e refl

-- ---- what is stored and replied

-- one of two numbers is past a byte
pub past-test : (a b : ℕ) → (a < 256 → b < 256 → ⊥) → (ltb 255 a || ltb 255 b) ≡ true
past-test a b past = go (ltb 255 a) (ltb 255 b) refl refl
  where
    go : (u v : Bool) → ltb 255 a ≡ u → ltb 255 b ≡ v → (ltb 255 a || ltb 255 b) ≡ true
    go true v p q = rw p refl
    go false true p q = rw (p, q) refl
    go false false p q = let h = ltb-false 255 a p in let k = ltb-false 255 b q in absurd (past (omega arith) (omega arith))

pub issued-past : (d : Client) (op point a : ℕ) (c : SendChange) → (op < 256 → point < 256 → ⊥) → issued d c ≡ not_sent d Malformed → issued d c ≡ issue_of d op point a
unfolding not_sent
issued-past d op point a c past e = e ∙ past-byte d op point a (past-test op point past)

pub sends : (d : Client) {a : SendAnswer} (c : SendChange) {s : SendReply} → issued d c ≡ a → s ≡ send_reply c.answer
    → (s ≡ send_reply a.answer) × (with_calls d c.next (set d.calls (place_of d.next) c.call) ≡ a.client)
unfolding issued
sends d c i e = (e ∙ ap (λ (x : SendAnswer). send_reply x.answer) i, ap (λ (x : SendAnswer). x.client) i)

pub receives : (d : Client) (n : ℕ) {a : ReceiveAnswer} (c : ReceiveChange) {s : ReceiveReply} → received d n c ≡ a → s ≡ receive_reply c.answer
    → (s ≡ receive_reply a.answer) × (record { client = d.client; lease = c.lease; next = d.next; calls = set d.calls (place_of n) c.call } ≡ a.client)
unfolding received
receives d n c i e = (e ∙ ap (λ (x : ReceiveAnswer). receive_reply x.answer) i, ap (λ (x : ReceiveAnswer). x.client) i)

pub leases : (m : LeaseManager) {n : LeaseManager} {a : LeaseAnswer} (c : LeaseChange) {r : LeaseReply} → Changes m c a → n ≡ (answered m c).manager → r ≡ lease_reply c.answer
    → (r ≡ lease_reply a.answer) × (n ≡ a.manager)
unfolding answered
leases m c (under, whole) stores e = (e ∙ ap (λ (x : LeaseAnswer). lease_reply x.answer) whole, stores ∙ ap (λ (x : LeaseAnswer). x.manager) whole)
