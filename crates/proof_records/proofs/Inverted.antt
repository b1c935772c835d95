-- What each call shows, from the inversion of its tests in `model_invariants` (Decided): no module of this crate names a test or a refusal
-- of a call.
--     passes                   a decision behind tests: refused, or all of them passed
--     shown, call-shown        every call, on the free space and on the room of the log
--     found-shown, recover-shown     Found and Recover
-- Assumes nothing.
use Rattle.std.specs.Prelude.{Some}
use Prim.Native.Nat.{ℕ, ◌-◌, ◌≤◌}
use mathlib.Core.Path.{◌≡◌, refl, ◌∙◌, ap}
use mathlib.Core.Bool.{Bool, true, false, ◌||◌, not}
use mathlib.Core.List.{List}
use mathlib.Core.Logic.{◌≢◌}
use mathlib.Core.Option.{Option, none, some}
use native.Mathlib.Omega.{arith}
use lib.Dec.{eqb, leb, ltb}
use borrow.Author.Tests.{eqb-true, eqb-false, ltb-false, leb-false}
use Rattle.model.specs.Versions.{Versions}
use Rattle.model.specs.declared.Request.{Request}
use Rattle.model.specs.declared.Completion.{Completion}
use Rattle.model.specs.declared.Packet.TheVariants.{Requested}
use Rattle.model.specs.Choice.{pick, refuse, append, unless_refused}
use Rattle.model.specs.Refusals
use Rattle.model.specs.Limits.{last_server}
use Rattle.model.specs.Plan.{plan_ok, plan_of}
use Rattle.model.specs.Apply.{founded}
use Rattle.model.specs.Packets.{parse_packet, as_request, as_receipt, as_notice}
use Rattle.model.specs.Images.{parse_image, floor_of}
use Rattle.model.specs.States.{State, point_at, held}
use Rattle.model.specs.Decisions.{Decided, or_malformed, find, on_held, on_new, on_id, decide_request, denying, on_request, on_fetched, on_fetch, on_sync, decide_notice, on_notice, on_give, on_image, decide_take, on_take, on_receipt, decide_release, on_release}
use Rattle.model_laws.proofs.Packets.{request_of_lem, receipt_of_lem, notice_of_lem}
use Rattle.model_laws.proofs.Refused.{unless_passed}
use Rattle.model.specs.Calls.{Operation, decision}
use Rattle.model.specs.Calls as Calls
use Rattle.model_invariants.proofs.Decided.{request-tests, held-tests, fetch-tests, sync-tests, place-tests, give-tests, point-tests, image-tests, take-tests, receipt-tests, release-tests}
use Rattle.claim.specs.RecordWorld.{Log, found_of, recovered_from, recover_of}
use Rattle.proof_records.specs.Inverse.{Shows}
use Rattle.proof_records.specs.Inverse as Inverse

-- a decision behind tests
passes : (P : Decided → Type 0) (n : ℕ) (d : Decided) → ((k : ℕ) → k ≢ 0 → P (refuse k)) → (n ≡ 0 → P d) → P (unless_refused n d)
unfolding unless_refused
passes P n d r h = go (eqb n 0) refl
  where
    go : (b : Bool) → eqb n 0 ≡ b → P (pick b d (refuse n))
    go true e = h (eqb-true n 0 e)
    go false e = r n (eqb-false n 0 e)

-- a packet of the kind asked for, or an image; none is a refusal
handed : {A : Type 0} (P : Decided → Type 0) (o : Option A) (f : A → Decided) → ((k : ℕ) → k ≢ 0 → P (refuse k)) → ((x : A) → o ≡ some x → P (f x)) → P (or_malformed o f)
unfolding or_malformed
handed P none f r h = r Refusals.malformed (λ e. omega arith)
handed P (some x) f r h = h x refl

module _ (st : State) (free : ℕ) where
  -- what is told of a completion record
  held-shown : (v : Versions) (b : List ℕ) (q : Request) (x c : ℕ) (r : Completion) → find x c st.records ≡ some r
      → Shows st free (Calls.request v b) (denying q (on_held v st q r))
  unfolding on_held denying
  held-shown v b q x c r f =
      passes (λ d. Shows st free (Calls.request v b) (denying q d)) _ _ (λ k n. (n, (_, refl))) (λ z. Inverse.repeats v b x c r f (held-tests st.mark q r z).1)

  request-shown : (v : Versions) (b : List ℕ) (q : Request) → parse_packet b ≡ Some (Requested q) → Shows st free (Calls.request v b) (denying q (decide_request v st free q))
  unfolding decide_request denying on_id on_new
  request-shown v b q p =
      let x = q.command.client in
      let c = q.command.call in
      passes P _ _ (λ k n. (n, (_, refl)))
      (λ z. id (find x c st.records) refl (request-tests _ _ _ _ z) (unless_passed _ (on_id v st free q (find x c st.records)) z))
    where
      P : Decided → Type 0
      P d = Shows st free (Calls.request v b) (denying q d)

      id : (o : Option Completion) → find q.command.client q.command.call st.records ≡ o
          → ((point_at st q.command.point).status ≡ held) × (leb q.lease st.heard ≡ false) × (floor_of q.command.client st.floors ≤ q.command.call)
          → decide_request v st free q ≡ on_id v st free q (find q.command.client q.command.call st.records) → P (on_id v st free q o)
      id none f t e =
          passes P _ _ (λ k n. (n, (_, refl)))
          (λ z. Inverse.executes v b q p t.0 (leb-false _ _ t.1) t.2 f (e ∙ (ap (on_id v st free q) f ∙ unless_passed _ (append _) z)))
      id (some r) f t e = held-shown v b q _ _ r f

  fetch-shown : (v : Versions) (x c : ℕ) → Shows st free (Calls.fetch v x c) (on_fetch v st x c)
  unfolding on_fetch on_fetched
  fetch-shown v x c = go (find x c st.records) refl
    where
      go : (o : Option Completion) → find x c st.records ≡ o → Shows st free (Calls.fetch v x c) (on_fetched v st o)
      go none f = λ e. omega arith
      go (some r) f = passes (Shows st free (Calls.fetch v x c)) _ _ (λ k n. n) (λ z. Inverse.fetches v x c r f (fetch-tests st.mark r z))

  pub shown : (o : Operation) → Shows st free o (decision o st free)
  unfolding decision on_request on_sync on_notice decide_notice on_give on_image on_take decide_take on_receipt on_release decide_release
  shown (Calls.request v b) = handed (Shows st free (Calls.request v b)) (as_request (parse_packet b)) _ (λ k n. n) (λ q e. request-shown v b q (request_of_lem _ q e))
  shown (Calls.fetch v x c) = fetch-shown v x c
  shown (Calls.sync m) =
      passes (Shows st free (Calls.sync m)) _ _ (λ k n. n) (λ z. let a = sync-tests st.mark st.size m z in (refl, a.0, a.1))
  shown (Calls.notice b) =
      handed (Shows st free (Calls.notice b)) (as_notice (parse_packet b)) _ (λ k n. n)
      (λ n e. passes (Shows st free (Calls.notice b)) _ _ (λ k n. n) (λ z. Inverse.goes b n (notice_of_lem _ n e) (unless_passed _ _ z)))
  shown (Calls.give p d) =
      passes (Shows st free (Calls.give p d)) _ _ (λ k n. n)
      (λ z.
      let a = place-tests p d _ z in
      let g = (give-tests st free p d a.0 a.1).0 in
      Inverse.gives p d g.point g.held (unless_passed _ _ z))
  shown (Calls.image v p) =
      passes (Shows st free (Calls.image v p)) _ _ (λ k n. n)
      (λ z.
      let a = point-tests p _ z in
      let b = image-tests (point_at st p) st.mark a.1 in
      Inverse.images v p a.0 b.0 b.1)
  shown (Calls.take_in b) =
      handed (Shows st free (Calls.take_in b)) (parse_image b) _ (λ k n. n)
      (λ i e.
      passes (Shows st free (Calls.take_in b)) _ _ (λ k n. n)
      (λ z. let t = (take-tests st free i z).0 in Inverse.takes b i e t.destination t.newer t.away (unless_passed _ _ z)))
  shown (Calls.receipt p) =
      passes (Shows st free (Calls.receipt p)) _ _ (λ k n. n)
      (λ z.
      let a = point-tests p _ z in
      let b = receipt-tests (point_at st p) st.mark a.1 in
      Inverse.receipts p a.0 b.0 b.1)
  shown (Calls.release b) =
      handed (Shows st free (Calls.release b)) (as_receipt (parse_packet b)) _ (λ k n. n)
      (λ r e.
      passes (Shows st free (Calls.release b)) _ _ (λ k n. n)
      (λ z. let t = (release-tests st free r.point r.move_number z).0 in Inverse.frees b r (receipt_of_lem _ r e) t.given t.newer (unless_passed _ _ z)))

-- what a call decides: 19, or what the operation does
abbrev pub decided_in : State → ℕ → Operation → Decided
decided_in st room o = pick (ltb room st.size) (refuse Refusals.unsound) (decision o st (room - st.size))

pub call-shown : (st : State) (room : ℕ) (o : Operation) → Shows st (room - st.size) o (decided_in st room o)
call-shown st room o = go (ltb room st.size)
  where
    go : (b : Bool) → Shows st (room - st.size) o (pick b (refuse Refusals.unsound) (decision o st (room - st.size)))
    go true = λ e. omega arith
    go false = shown st (room - st.size) o

-- ---- found and recover

pub found-shown : (p : List ℕ) (n : ℕ) (st : State) → found_of p n ≡ some st → (plan_ok p ≡ true) × (n ≤ last_server) × (st ≡ founded (plan_of p) n)
unfolding found_of
found-shown p n st e = go (plan_ok p) refl (ltb last_server n) refl e
  where
    go : (a : Bool) → plan_ok p ≡ a → (b : Bool) → ltb last_server n ≡ b → pick (not a || b) none (some (founded (plan_of p) n)) ≡ some st
        → (plan_ok p ≡ true) × (n ≤ last_server) × (st ≡ founded (plan_of p) n)
    go true q true r k = let z : ◌≡◌ {A = ℕ} 0 1 = cc in absurd (omega arith)
    go true q false r k = (q, ltb-false _ _ r, cc)
    go false q b r k = let z : ◌≡◌ {A = ℕ} 0 1 = cc in absurd (omega arith)

pub recover-shown : (p : List ℕ) (log : Log) (st : State) → recover_of p log ≡ some st → recovered_from p log ≡ some st
unfolding recover_of
recover-shown p log st e = go (plan_ok p) e
  where
    go : (a : Bool) → pick (not a) none (recovered_from p log) ≡ some st → recovered_from p log ≡ some st
    go true k = k
    go false k = let z : ◌≡◌ {A = ℕ} 0 1 = cc in absurd (omega arith)
