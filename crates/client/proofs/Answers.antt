-- Every exit of an operation: what the calls before it found, and that its change makes the definition's answer.
--     same-call       what stands at a place, stored there again, changes nothing
--     first-opened    a call opened at a free place leaves the first open one
--     not-issued, issue_bad, issue_full, issue-out, issue-done
--     resend_open, resend-unknown
--     not-received, result_own, result-unknown, refusal-own, refusal-unknown, grant-later, grant-unknown
-- Assumes nothing.
use Rattle.std.specs.Prelude.{Some}
use mathlib.Core.Path.{◌≡◌, refl, ap, ◌∙◌, sym, subst}
use mathlib.Core.Bool.{Bool, true, false, ◌&&◌}
use Prim.Native.Nat.{ℕ, ◌+◌, ◌≤◌, ◌<◌}
use native.Mathlib.Omega.{arith}
use native.Mathlib.Numerals.{add-one}
use lib.Dec.{leb, eqb}
use lib.ListN.{length, set}
use lib.Seq.{set-get_or}
use borrow.Author.Tests.{le-leb, lt-leb, leb-true, eqb-true}
use Rattle.std.proofs.Common.{Ok, Err}
use Rattle.model_laws.proofs.Tests.{and_left, and_right}
use Rattle.model_laws.proofs.Least.{least-opened}
use Rattle.model_laws.proofs.Clients.{place_under}
use Rattle.model.specs.declared.OpenCall.{OpenCall}
use Rattle.model.specs.declared.Client.{Client}
use Rattle.model.specs.declared.Request.{Request}
use Rattle.model.specs.declared.SendAnswer.{SendAnswer}
use Rattle.model.specs.declared.ResultPacket.{ResultPacket}
use Rattle.model.specs.declared.RefusalPacket.{RefusalPacket}
use Rattle.model.specs.declared.Grant.{Grant}
use Rattle.model.specs.declared.Packet.{Packet}
use Rattle.model.specs.declared.Packet.TheVariants.{Resulted, Refused, Granted}
use Rattle.model.specs.declared.Received.TheVariants.{Completed, Denied, Extended}
use Rattle.model.specs.Packets.{command_ok}
use Rattle.model.specs.Clients.{no_call, place_of, call_at, is_open, first_open, with_calls, new_call, with_call, request_for, not_sent, sent, issue_of, resend_of}
use Rattle.model.specs.Clients.{with_lease, closed, is_own, not_received, receive_result, receive_refusal, receive_grant, receive_with}
use Rattle.model.specs.declared.Refusal.{Refusal}
use Rattle.model.specs.declared.Refusal.TheVariants.{Malformed, WindowFull, NumbersOut, Unknown}
use Rattle.model.specs.Limits.{call_window, last32}
use Rattle.client.specs.Changes.{request_with, OfCall, issued, received}

pub same-call : (d : Client) (c : ℕ) {k : OpenCall} → k ≡ call_at d c → set d.calls (place_of c) k ≡ d.calls
unfolding call_at
same-call d c at = rw at (set-get_or d.calls (place_of c) no_call)

-- ---- issue

pub first-opened : (d : Client) {old : OpenCall} (k : OpenCall) → length d.calls ≡ call_window → old ≡ call_at d d.next → k.call ≡ d.next
    → {first : ℕ} → first ≡ first_open d → (eqb old.call 0 && leb 1 k.call) ≡ true
    → first ≡ first_open (with_call d k)
unfolding first_open with_call with_calls call_at
first-opened d {old} k long at next least free =
    let z = sym (ap (λ (c : OpenCall). c.call) at) ∙ eqb-true old.call 0 (and_left (eqb old.call 0) (leb 1 k.call) free) in
    let g = leb-true 1 k.call (and_right (eqb old.call 0) (leb 1 k.call) free) in
    let u = place_under k.call in
    least ∙ sym (least-opened d.next d.calls (place_of k.call) k (omega arith) (rw (ap place_of next) z) next (omega arith))

pub not-issued : (d : Client) (e : Refusal) {k : OpenCall} → k ≡ call_at d d.next → issued d (record { next = d.next; call = k; answer = Err e }) ≡ not_sent d e
unfolding issued not_sent with_calls
not-issued d e at = rw (same-call d d.next at) refl

module _ (d : Client) (op point a : ℕ) {u : Bool} {r : SendAnswer} (tested : u ≡ command_ok op point a) where
  pub issue_bad : u ≡ false → r ≡ not_sent d Malformed → r ≡ issue_of d op point a
  unfolding issue_of
  issue_bad bad e = rw (← tested, bad) e

  module _ (good : u ≡ true) {first : ℕ} (least : first ≡ first_open d) where
    pub issue_full : first + call_window ≤ d.next → r ≡ not_sent d WindowFull → r ≡ issue_of d op point a
    unfolding issue_of
    issue_full full e = rw (← tested, good, ← least, le-leb _ _ full) e

    module _ (room : d.next < first + call_window) where
      pub issue-out : last32 ≤ d.next → r ≡ not_sent d NumbersOut → r ≡ issue_of d op point a
      unfolding issue_of
      issue-out out e = rw (← tested, good, ← least, lt-leb _ _ room, le-leb _ _ out) e

-- the call that issue opens, and its request
module _ (d : Client) (op point a : ℕ) {u : Bool} (tested : u ≡ command_ok op point a) (good : u ≡ true) where
  abbrev opened : OpenCall
  opened = record { call = d.next; op = op; point = point; argument = a }

  pub issue-done : {first : ℕ} → first ≡ first_open d → d.next < first + call_window → d.next < last32
      → {done : ℕ} {q : Request} → done ≡ first_open (with_call d opened) → q ≡ request_with d opened done
      → issued d (record { next = d.next + 1; call = opened; answer = Ok q }) ≡ issue_of d op point a
  unfolding issue_of new_call issued sent request_for request_with with_call with_calls
  issue-done least room left after asks = rw (← tested, good, ← least, lt-leb _ _ room, lt-leb _ _ left, asks, after, add-one) refl

-- ---- resend

module _ (d : Client) (c : ℕ) {k : OpenCall} (at : k ≡ call_at d c) where
  pub resend_open : (leb 1 c && eqb k.call c) ≡ true → {done : ℕ} {q : Request} → done ≡ first_open d → q ≡ request_with d k done
      → record { client = d; answer = Ok q } ≡ resend_of d c
  unfolding resend_of is_open sent request_for request_with
  resend_open is least asks = rw (← at, is, asks, least) refl

  pub resend-unknown : (leb 1 c && eqb k.call c) ≡ false → record { client = d; answer = Err Unknown } ≡ resend_of d c
  unfolding resend_of is_open not_sent
  resend-unknown is = rw (← at, is) refl

-- ---- receive

pub is-own : (d : Client) (client call point : ℕ) {k : OpenCall} → k ≡ call_at d call
    → (eqb client d.client && ((leb 1 call && eqb k.call call) && eqb k.point point)) ≡ is_own d client call point
unfolding is_own is_open
is-own d client call point at = rw at refl

pub not-received : (d : Client) (c : ℕ) (e : Refusal) {k : OpenCall} → k ≡ call_at d c → received d c (record { lease = d.lease; call = k; answer = Err e }) ≡ not_received d e
unfolding received not_received
not-received d c e at = rw (same-call d c at) refl

module _ (d : Client) (c : ℕ) {p : Packet} (of : OfCall c (Some p)) {k : OpenCall} (at : k ≡ call_at d c) where
  pub result_own : (r : ResultPacket) → p ≡ Resulted r → true ≡ is_own d r.client r.call r.point → {l : OpenCall} → l ≡ no_call
      → received d c (record { lease = d.lease; call = l; answer = Ok (Completed r) }) ≡ receive_with d (Some p)
  unfolding receive_with receive_result received closed with_calls
  result_own r is own made = rw (subst (λ x. OfCall c (Some x)) is of, is, ← own, made) refl

  pub refusal-own : (r : RefusalPacket) → p ≡ Refused r → true ≡ is_own d r.client r.call r.point
      → received d c (record { lease = d.lease; call = k; answer = Ok (Denied r) }) ≡ receive_with d (Some p)
  unfolding receive_with receive_refusal received
  refusal-own r is own = rw (is, ← own, same-call d c at) refl

  pub grant-later : (g : Grant) → p ≡ Granted g → (eqb g.client d.client && leb d.lease g.lease) ≡ true
      → received d c (record { lease = g.lease; call = k; answer = Ok (Extended g) }) ≡ receive_with d (Some p)
  unfolding receive_with receive_grant received with_lease
  grant-later g is later = rw (is, later, same-call d c at) refl

module _ (d : Client) {p : Packet} where
  pub result-unknown : (r : ResultPacket) → p ≡ Resulted r → false ≡ is_own d r.client r.call r.point → not_received d Unknown ≡ receive_with d (Some p)
  unfolding receive_with receive_result
  result-unknown r is own = rw (is, ← own) refl

  pub refusal-unknown : (r : RefusalPacket) → p ≡ Refused r → false ≡ is_own d r.client r.call r.point → not_received d Unknown ≡ receive_with d (Some p)
  unfolding receive_with receive_refusal
  refusal-unknown r is own = rw (is, ← own) refl

  pub grant-unknown : (g : Grant) → p ≡ Granted g → (eqb g.client d.client && leb d.lease g.lease) ≡ false → not_received d Unknown ≡ receive_with d (Some p)
  unfolding receive_with receive_grant
  grant-unknown g is later = rw (is, later) refl
