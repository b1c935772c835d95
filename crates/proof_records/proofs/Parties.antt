-- Calls of clients and of the lease manager, each followed by a change.
--     outside-step
-- Assumes nothing.
use Prim.Native.Nat.{ℕ, ◌+◌, ◌-◌, ◌≤◌, max}
use mathlib.Core.Path.{◌≡◌, refl, sym, ◌∙◌, ap, subst}
use mathlib.Core.Bool.{true, ◌&&◌}
use mathlib.Core.List.Memᴰ
use mathlib.Core.List.{List}
use mathlib.Core.Option.{Option as Maybe, none, some}
use native.Mathlib.Omega.{arith}
use lib.Dec.{eqb}
use borrow.Author.Tests.{eq-eqb, le-leb}
use Rattle.std.specs.Prelude.{Result, Ok, Err, Option, Some, None}
use Rattle.model.specs.declared.Refusal.{Refusal}
use Rattle.model.specs.declared.PlanEntry.{PlanEntry}
use Rattle.model.specs.declared.Client.{Client}
use Rattle.model.specs.declared.OpenCall.{OpenCall}
use Rattle.model.specs.declared.Request.{Request}
use Rattle.model.specs.declared.ResultPacket.{ResultPacket}
use Rattle.model.specs.declared.Packet.{Packet}
use Rattle.model.specs.declared.Packet.TheVariants.{Requested, Resulted, Refused, Receipted, Noticed, Granted}
use Rattle.model.specs.declared.Received.TheVariants.{Completed}
use Rattle.model.specs.declared.ReceiveAnswer.{ReceiveAnswer}
use Rattle.model.specs.Packets.{parse_packet, request_bytes, grant_ok, notice_ok, packet_bytes, grant_bytes, notice_bytes}
use Rattle.model.specs.Clients.{start_of, start_with, issue_of, resend_of, receive_of, receive_with, not_received, is_open, is_own, call_at, closed, with_lease, with_calls, with_call, new_call, sent_bytes}
use Rattle.model_laws.specs.Fits.{IsPacket, RequestFits, GrantFits, NoticeFits}
use Rattle.model_laws.proofs.Tests.{and_both}
use Rattle.model_laws.proofs.Commands.{command-parts}
use Rattle.model_laws.proofs.Clients.{is_open_of, Own, ReceiveCase, receive_case, issue-asked, issue-refused, resend-asked, resend-same}
use Rattle.model_laws.specs.ClientForm.{WellFormed}
use Rattle.model_laws.proofs.ClientsKept.{start-well, issue-well, receive-well}
use Rattle.model_laws.proofs.ClientsBytes.{issue-packet, resend-packet}
use Rattle.model_invariants.specs.Sound.{GoodRequest}
use Rattle.proof_protocol.specs.Servers as S
use Rattle.proof_protocol.specs.World as W
use Rattle.proof_protocol.specs.Allowed.{Made, Leased, opens, renews, regrants, notices}
use Rattle.proof_protocol.specs.Allowed as P
use Rattle.claim.specs.World.{OutsideCall, start, issue, resend, receive, open·lease, renew, query}
use Rattle.claim.specs.World.{packet, making, sends, receives, starts_on, starts_as, told, outside_step}
use Rattle.claim.specs.Provisos.{OutsideTyped, StartedOnce}
use Rattle.claim.specs.RecordWorld.{World, step}
use Rattle.claim.specs.RecordWorld as R
use Rattle.proof_records.specs.Likeness.{result_of}
use Rattle.proof_records.specs.Made.{Means, PacketLike}
use Rattle.proof_records.specs.Worlds.{WorldLike}
use Rattle.proof_records.specs.Matched.{Quiet, issued, received, other, Stepped}
use Rattle.proof_records.proofs.Made.{like-packet}
use Rattle.proof_records.proofs.Worlds.{idle-step, like-same, like-client, like-client-same, like-making, like-leases, like-manager-same}
use Rattle.proof_records.proofs.Calls.{packet_in_lem, some_same}
use Rattle.model.specs.declared.Grant.{Grant}
use Rattle.model.specs.declared.Notice.{Notice}
use Rattle.model.specs.declared.LeaseManager.{LeaseManager}
use Rattle.model.specs.declared.LeaseAnswer.{LeaseAnswer}
use Rattle.model.specs.declared.Told.TheVariants.{ByGrant, ByNotice}
use Rattle.model.specs.Leases.{time_at, running_at, lease_end, extended, manager, not_told, granted, told_bytes}
use Rattle.model.specs.Limits.{notice_kind, last32}
use Rattle.model_laws.specs.LeaseForm.{WellFormed as WellManaged, LeaseCall, given_time, answer_of}
use Rattle.model_laws.proofs.LeasesKept.{Exit, call_exit, call-well, grant-within, notice-gone}
use Rattle.model_laws.proofs.LeasesKept as Kept

request-good : {b : List ℕ} (q : Request) → IsPacket b (Requested q) → GoodRequest q
request-good q k = let f : RequestFits q = k.fits in record { ok = k.ok; client = f.client; call = f.call }

not-asked : {A : Type 0} {r : Refusal} {q : Request} {s : Result Request Refusal} → s ≡ Err r → s ≡ Ok q → A
not-asked {r = r} {q = q} e f = let k : Err r ≡ Ok q = sym e ∙ f in let z : ◌≡◌ {A = ℕ} 0 1 = cc in absurd (omega arith)

own_yes : (d : Client) (x c p : ℕ) → Own d x c p → is_own d x c p ≡ true
unfolding is_own
own_yes d x c p o =
    and_both (eqb x d.client) (is_open d c && eqb (call_at d c).point p) (eq-eqb _ _ o.client-is)
    (and_both (is_open d c) (eqb (call_at d c).point p) (is_open_of d c o.open_call_lem) (eq-eqb _ _ o.point-is))

module _ {plan : List PlanEntry} {w : World} {v : W.World} (l : WorldLike plan w v) where
  -- a client as the protocol has it
  there : {x : ℕ} {o : Maybe Client} → w.clients x ≡ o → v.clients x ≡ o
  there {x} e = sym (l.clients x) ∙ e

  -- ---- issue

  module _ (x op p a : ℕ) where
    issue-some : (d : Client) → w.clients x ≡ some d → (s : Result Request Refusal) → (issue_of d op p a).answer ≡ s → Stepped plan w v (R.outside (issue x op p a))
    unfolding step outside_step sends sent_bytes making Quiet W.client_after Means
    issue-some d e (Err k) s =
        record {
          change = W.same;
          allowed = P.nothing;
          like = rw (e, s, issue-refused d op p a k s) (like-same (like-client-same l x d e));
          matched = other (R.outside (issue x op p a)) W.same (λ b q f k. not-asked {q = q} s (rw (some_same e f) k)) tt;
        }
    issue-some d e (Ok q) s =
        let i = issue-asked d op p a q s in
        let t = l.started x d e in
        let g = issue-packet t.well op p a q s in
        let k = W.issues d op p a in
        record {
          change = W.client x k;
          allowed = P.issuing x d op p a (there e) (omega (arith, (command-parts op p a i.ok).point));
          like =
              rw (e, s, i.after)
              (like-making (like-client l x k (record { well = subst WellFormed i.after (issue-well t.well op p a); own = own d (new_call d op p a) ∙ t.own })) (request_bytes q)
              (like-packet (Requested q) g (request-good q g, rw i.asks (unfold W.step W.made_by in Memᴰ.head refl))));
          matched = issued x op p a d q e s;
        }
      where
        own : (d : Client) (k : OpenCall) → (with_call d k).client ≡ d.client
        own d k = unfold with_call with_calls in refl

    issue-step : Stepped plan w v (R.outside (issue x op p a))
    unfolding step outside_step sends Quiet
    issue-step = go (w.clients x) refl
      where
        go : (o : Maybe Client) → w.clients x ≡ o → Stepped plan w v (R.outside (issue x op p a))
        go none e = idle-step l (R.outside (issue x op p a)) (rw e) (λ d q f k. let y : none ≡ some d = sym e ∙ f in let z : ◌≡◌ {A = ℕ} 0 1 = cc in omega arith)
        go (some d) e = issue-some d e (issue_of d op p a).answer refl

  -- ---- resend

  module _ (x c : ℕ) where
    resend-some : (d : Client) → w.clients x ≡ some d → (s : Result Request Refusal) → (resend_of d c).answer ≡ s → Stepped plan w v (R.outside (resend x c))
    unfolding step outside_step sends sent_bytes making Quiet W.client_after Means
    resend-some d e (Err k) s =
        record {
          change = W.same;
          allowed = P.nothing;
          like = rw (e, s, resend-same d c) (like-same (like-client-same l x d e));
          matched = other (R.outside (resend x c)) W.same tt tt;
        }
    resend-some d e (Ok q) s =
        let i = resend-asked d c q s in
        let t = l.started x d e in
        let g = resend-packet t.well c q s in
        record {
          change = W.client x (W.resends d c);
          allowed = P.resending x d c (there e) (is_open_of d c i.open_call_lem);
          like =
              rw (e, s, resend-same d c)
              (like-making (like-client l x (W.resends d c) t) (request_bytes q)
              (like-packet (Requested q) g (request-good q g, rw i.asks (unfold W.step W.made_by in Memᴰ.head refl))));
          matched = other (R.outside (resend x c)) (W.client x (W.resends d c)) tt tt;
        }

    resend-step : Stepped plan w v (R.outside (resend x c))
    unfolding step outside_step sends Quiet
    resend-step = go (w.clients x) refl
      where
        go : (o : Maybe Client) → w.clients x ≡ o → Stepped plan w v (R.outside (resend x c))
        go none e = idle-step l (R.outside (resend x c)) (rw e) tt
        go (some d) e = resend-some d e (resend_of d c).answer refl

  -- ---- receive

  module _ (x n : ℕ) where
    module _ (d : Client) (e : w.clients x ≡ some d) (b : List ℕ) (f : packet w n ≡ some b) where
      handed : PacketLike (Made v) b
      unfolding packet
      handed = l.made b (packet_in_lem w.made n b f)

      -- the client is as it was
      unchanged : (a : ReceiveAnswer) → receive_with d (parse_packet b) ≡ a → a.client ≡ d → ((r : ResultPacket) → a.answer ≡ Ok (Completed r) → ⊥) → Stepped plan w v (R.outside (receive x n))
      unfolding step outside_step receives receive_of Quiet
      unchanged a q s t =
          record {
            change = W.same;
            allowed = P.nothing;
            like = rw (e, f, q, s) (like-same (like-client-same l x d e));
            matched =
                other (R.outside (receive x n)) W.same
                (λ d' b' r e' f' k.
                t r (subst (λ (y : ReceiveAnswer). y.answer ≡ Ok (Completed r)) q (rw (some_same e e', some_same f f') k))) tt;
          }

      receive-some : ReceiveCase d (parse_packet b) → Stepped plan w v (R.outside (receive x n))
      unfolding step outside_step receives receive_of W.client_after Means not_received closed with_calls with_lease
      receive-some (ReceiveCase.refused k q) = unchanged _ q refl (λ r z. let y : ◌≡◌ {A = ℕ} 0 1 = cc in omega arith)
      receive-some (ReceiveCase.denied k p o q) = unchanged _ q refl (λ r z. let y : ◌≡◌ {A = ℕ} 0 1 = cc in omega arith)
      receive-some (ReceiveCase.completed r p o q) =
          let m = subst (Means (Made v)) p handed.packet in
          let t = l.started x d e in
          let k = W.receives d (record { client = r.client; call = r.call }) r.point (result_of r.result) in
          let h : WellFormed (receive_with d (Some (Resulted r))).client = receive-well t.well (Resulted r) m.0 in
          let g : (receive_with d (Some (Resulted r))).client ≡ closed d r.call = ap (λ (y : Option Packet). (receive_with d y).client) (sym p) ∙ ap (λ (y : ReceiveAnswer). y.client) q in
          record {
            change = W.client x k;
            allowed = P.receiving x d (record { client = r.client; call = r.call }) r.point (result_of r.result) (there e) m.1 (own_yes d _ _ _ o);
            like = rw (e, f, q) (like-client l x k (record { well = subst WellFormed g h; own = t.own }));
            matched = received x n d b r e f (ap (λ (y : ReceiveAnswer). y.answer) q);
          }
      receive-some (ReceiveCase.extended g p o u q) =
          let m = subst (Means (Made v)) p handed.packet in
          let t = l.started x d e in
          let k = W.relets d g.lease in
          let h : WellFormed (receive_with d (Some (Granted g))).client = receive-well t.well (Granted g) m.1 in
          let y : (receive_with d (Some (Granted g))).client ≡ with_lease d g.lease = ap (λ (y : Option Packet). (receive_with d y).client) (sym p) ∙ ap (λ (y : ReceiveAnswer). y.client) q in
          record {
            change = W.client x k;
            allowed = P.reletting x d g.lease (there e) (subst (λ (c : ℕ). Made v (S.grant c g.lease)) o m.2);
            like = rw (e, f, q) (like-client l x k (record { well = subst WellFormed y h; own = t.own }));
            matched =
                other (R.outside (receive x n)) (W.client x k)
                (unfold Quiet in λ d' b' r e' f' z.
                let j = subst (λ (y : ReceiveAnswer). y.answer ≡ Ok (Completed r)) q (rw (some_same e e', some_same f f') z) in let y : ◌≡◌ {A = ℕ} 0 1 = cc in omega arith) tt;
          }

    receive-step : Stepped plan w v (R.outside (receive x n))
    unfolding step outside_step receives Quiet
    receive-step = go (w.clients x) refl (packet w n) refl
      where
        go : (o : Maybe Client) → w.clients x ≡ o → (a : Maybe (List ℕ)) → packet w n ≡ a → Stepped plan w v (R.outside (receive x n))
        go none e a f = idle-step l (R.outside (receive x n)) (rw e) (λ d b r e' f' k. let y : none ≡ some d = sym e ∙ e' in let z : ◌≡◌ {A = ℕ} 0 1 = cc in omega arith)
        go (some d) e none f = idle-step l (R.outside (receive x n)) (rw (e, f)) (λ d' b r e' f' k. let y : none ≡ some b = sym f ∙ f' in let z : ◌≡◌ {A = ℕ} 0 1 = cc in omega arith)
        go (some d) e (some b) f = receive-some d e b f (receive_case d (parse_packet b))

  -- ---- start

  module _ (n : ℕ) (once : StartedOnce w n) where
    starts : (b : List ℕ) → packet w n ≡ some b → (k : Option Packet) → parse_packet b ≡ k → Stepped plan w v (R.outside (start n))
    unfolding step outside_step starts_on starts_as start_of start_with Quiet W.client_after Means packet
    starts b f None q = idle-step l (R.outside (start n)) (rw (f, q)) tt
    starts b f (Some (Requested r)) q = idle-step l (R.outside (start n)) (rw (f, q)) tt
    starts b f (Some (Resulted r)) q = idle-step l (R.outside (start n)) (rw (f, q)) tt
    starts b f (Some (Refused r)) q = idle-step l (R.outside (start n)) (rw (f, q)) tt
    starts b f (Some (Receipted r)) q = idle-step l (R.outside (start n)) (rw (f, q)) tt
    starts b f (Some (Noticed r)) q = idle-step l (R.outside (start n)) (rw (f, q)) tt
    starts b f (Some (Granted g)) q =
        let m = subst (Means (Made v)) q (l.made b (packet_in_lem w.made n b f)).packet in
        let z : w.clients g.client ≡ none = (rw q at (once b f)) refl in
        record {
          change = W.client g.client (W.starts g.lease);
          allowed = P.starting g.client g.lease m.2 (there z);
          like = rw (f, q) (like-client l g.client (W.starts g.lease) (record { well = start-well g m.0 m.1; own = refl }));
          matched = other (R.outside (start n)) (W.client g.client (W.starts g.lease)) tt tt;
        }

    start-step : Stepped plan w v (R.outside (start n))
    unfolding step outside_step starts_on Quiet
    start-step = go (packet w n) refl
      where
        go : (o : Maybe (List ℕ)) → packet w n ≡ o → Stepped plan w v (R.outside (start n))
        go none f = idle-step l (R.outside (start n)) (rw f) tt
        go (some b) f = starts b f (parse_packet b) refl

module _ {m : LeaseManager} (k : WellManaged m) (c : LeaseCall) (h : given_time c ≤ last32) {M : S.Packet → Type 0} where
  grant-like : (g : Grant) → (answer_of m c).answer ≡ Ok (ByGrant g) → M (S.grant g.client g.lease) → PacketLike M (grant_bytes g)
  unfolding packet_bytes grant_ok Means
  grant-like g e made =
      let b = grant-within k c g e in
      let f : GrantFits g = record { client = omega (arith, b.1); lease = omega (arith, b.2) } in
      like-packet (Granted g) (record { ok = le-leb 1 g.client b.0; fits = f; same = refl }) (b.0, f, made)

  notice-like : (n : Notice) → (answer_of m c).answer ≡ Ok (ByNotice n) → M (S.notice n.client n.time) → PacketLike M (notice_bytes notice_kind n)
  unfolding packet_bytes notice_ok Means
  notice-like n e made =
      let b = notice-gone k c n e in
      let w = call-well k c h in
      let f : NoticeFits n = record { client = omega (arith, b.0.issued, w.numbered); time = omega (arith, b.1, w.timed) } in
      like-packet (Noticed n) (record { ok = le-leb 1 n.client b.0.from; fits = f; same = refl })
      (record { ok = b.0.from; client = f.client; time = f.time }, made)

module _ {plan : List PlanEntry} {w : World} {v : W.World} (l : WorldLike plan w v) where
  module _ (e : OutsideCall) (c : LeaseCall) (h : given_time c ≤ last32) (s : outside_step w e ≡ told (answer_of w.manager c) w) (q : Quiet w (R.outside e)) where
    abbrev a : LeaseAnswer
    a = answer_of w.manager c

    -- a grant or a notice, of a manager that it leaves
    tells-step : (p : S.Packet) → Leased w.manager a.manager p → PacketLike (Made (W.step v (W.leases a.manager p))) (told_bytes a.answer) → Stepped plan w v (R.outside e)
    unfolding step told
    tells-step p L k =
        record {
          change = W.leases a.manager p;
          allowed = P.leasing a.manager p (subst (λ (x : LeaseManager). Leased x a.manager p) l.manager L);
          like = rw s (like-making (like-leases l a.manager p (call-well l.leases c h)) (told_bytes a.answer) k);
          matched = other (R.outside e) (W.leases a.manager p) q tt;
        }

    -- a grant to x until t
    grants : (n : LeaseManager) (x t : ℕ) → a ≡ granted n x t → Leased w.manager n (S.grant x t) → Stepped plan w v (R.outside e)
    unfolding granted told_bytes W.step
    grants n x t z L =
        let g : Grant = record { client = x; lease = t } in
        let y : a.answer ≡ Ok (ByGrant g) = ap (λ (b : LeaseAnswer). b.answer) z in
        tells-step (S.grant x t) (rw z L) (rw y (grant-like l.leases c h g y (Memᴰ.head refl)))

    lease_exit : (t : ℕ) → Exit w.manager t a → Stepped plan w v (R.outside e)
    unfolding step not_told told_bytes making told manager time_at W.step
    lease_exit t (Kept.refused n z) =
        record { change = W.same; allowed = P.nothing; like = rw (s, z) (like-same (like-manager-same l)); matched = other (R.outside e) W.same q tt }
    lease_exit t (Kept.opened u f i k r z) =
        let now = max w.manager.time t in
        let y : now + (u - now) ≡ u = omega arith in
        grants _ _ u z (rw (← y) (opens now (u - now) (omega arith) f))
    lease_exit t (Kept.renewed x u f k j r z) =
        let now = max w.manager.time t in
        let y : max (lease_end x (running_at now w.manager.leases)) (now + (u - now)) ≡ u = omega arith in
        let ls = running_at now w.manager.leases in
        grants _ x u z (subst (λ (n : ℕ). Leased w.manager (manager now w.manager.issued (extended x n ls)) (S.grant x n)) y (renews x now (u - now) (omega arith) f))
    lease_exit t (Kept.noticed x k i r z) =
        let now = max w.manager.time t in
        let n : Notice = record { client = x; time = now } in
        let y : a.answer ≡ Ok (ByNotice n) = ap (λ (b : LeaseAnswer). b.answer) z in
        tells-step (S.notice x now) (rw z (notices x now (omega arith) r (λ o. omega arith) i)) (rw y (notice-like l.leases c h n y (Memᴰ.head refl)))
    lease_exit t (Kept.found x k i r z) = let now = max w.manager.time t in grants _ x _ z (regrants x now (omega arith) r)

    lease-step : Stepped plan w v (R.outside e)
    lease-step = lease_exit (given_time c) (call_exit w.manager c)

  pub outside-step : (e : OutsideCall) → OutsideTyped e → ((p : ℕ) → e ≡ start p → StartedOnce w p) → Stepped plan w v (R.outside e)
  unfolding OutsideTyped outside_step answer_of given_time Quiet
  outside-step (start p) t once = start-step l p (once p refl)
  outside-step (issue x op p a) t once = issue-step l x op p a
  outside-step (resend x c) t once = resend-step l x c
  outside-step (receive x p) t once = receive-step l x p
  outside-step (open·lease n span) t once = lease-step (open·lease n span) (LeaseCall.opens n span) (omega (arith, t)) refl tt
  outside-step (renew x n span) t once = lease-step (renew x n span) (LeaseCall.renews x n span) (omega (arith, t)) refl tt
  outside-step (query x n) t once = lease-step (query x n) (LeaseCall.queries x n) (omega (arith, t)) refl tt
