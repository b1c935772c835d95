-- What the operations keep of a client.
--     start-well, issue-well, receive-well      a client is kept well formed
--     issue-opens, issue-stays, issue-only      issue opens next alone; the others stay open, with their data
--     receive-stays, receive-only  an open call stays open, with its data, until a result of it is received
--     receive-lease                the lease end never falls
--     sent-ok                      a request that is sent is well formed, and its done is the first open call
-- Assumes nothing.
use mathlib.Core.Path.{◌≡◌, refl, sym, ◌∙◌, ap, subst}
use mathlib.Core.Bool.{Bool, true, false, ◌&&◌}
use mathlib.Core.List.{List}
use mathlib.Core.Logic.{◌⊎◌, inr}
use Prim.Native.Nat.{ℕ, suc, ◌+◌, ◌-◌, ◌≤◌, ◌<◌}
use native.Mathlib.Omega.{arith}
use lib.Dec.{eqb, leb}
use lib.ListN.{length, get_or, set, replicate, length-set, get_or-replicate}
use lib.Seq.{get_or-set_same, get_or-set_other}
use borrow.Author.Tests.{eqb-true, eqb-false, le-leb}
use Rattle.std.specs.Prelude.{Ok, Option, Some}
use Rattle.model_laws.specs.Fits.{GrantFits, packet_fits}
use Rattle.model_laws.proofs.Tests.{and_both, impossible}
use Rattle.model_laws.proofs.Least.{least-over}
use Rattle.model_laws.proofs.Clients.{Open, place_under, first_under, first-each, open_from, IssueCase, issue_case, Own, ReceiveCase, receive_case, issue-asked, resend-asked}
use Rattle.model.specs.declared.OpenCall.{OpenCall}
use Rattle.model.specs.declared.Client.{Client}
use Rattle.model.specs.declared.Request.{Request}
use Rattle.model.specs.declared.ResultPacket.{ResultPacket}
use Rattle.model.specs.declared.Grant.{Grant}
use Rattle.model.specs.declared.Packet.{Packet}
use Rattle.model.specs.declared.Packet.TheVariants.{Resulted, Granted}
use Rattle.model.specs.declared.Received.TheVariants.{Completed}
use Rattle.model.specs.declared.ReceiveAnswer.{ReceiveAnswer}
use Rattle.model.specs.Packets.{command_ok, id_ok, done_ok, request_ok}
use Rattle.model.specs.Clients.{no_call, place_of, call_at, first_open, with_calls, with_lease, closed, request_for, start_with, new_call, with_call, not_sent, sent, issue_of, resend_of, not_received, receive_with}
use Rattle.model.specs.Limits.{call_window, last32, last_in_window}
use Rattle.model_laws.specs.ClientForm.{WellFormed}
use Rattle.model_laws.proofs.OpenCalls.{open_below_lem, first-from, issued-at, issued-keeps, issued-next, issued_open, issued-only, closed-off, closed-keeps, closed_open, closed-only}

-- ---- start

no_call_in : (i : ℕ) → i < call_window → get_or (replicate call_window no_call) i no_call ≡ no_call
no_call_in i h = get_or-replicate call_window i no_call no_call h

pub start-well : (g : Grant) → 1 ≤ g.client → GrantFits g → WellFormed (start_with (Some (Granted g))).client
unfolding start_with
start-well g p fits = record {
  numbered = p;
  started = omega arith;
  places = refl;
  placed = λ i h q. absurd (empty i h q);
  below = λ i h. let e = ap (λ (k : OpenCall). k.call) (no_call_in i h) in omega arith;
  commands = λ i h q. absurd (empty i h q);
  client-within = omega (arith, fits.client);
  lease-within = omega (arith, fits.lease);
  next-within = omega arith;
  window = omega arith;
}
  where
    empty : (i : ℕ) → i < call_window → 1 ≤ (get_or (replicate call_window no_call) i no_call).call → ⊥
    empty i h q = let e : (get_or (replicate call_window no_call) i no_call).call ≡ 0 = ap (λ (k : OpenCall). k.call) (no_call_in i h) in omega arith

-- ---- a place is stored to

-- what holds of the new entry, and of the others, holds of each place
set-each : (P : OpenCall → Type 0) (ks : List OpenCall) (j : ℕ) (k : OpenCall) (i : ℕ) → i < length ks
    → (i ≡ j → P k) → P (get_or ks i no_call) → P (get_or (set ks j k) i no_call)
set-each P ks j k i h f g = go (eqb i j) refl
  where
    go : (b : Bool) → eqb i j ≡ b → P (get_or (set ks j k) i no_call)
    go true e =
        let q = eqb-true i j e in
        subst (λ (n : ℕ). P (get_or (set ks n k) i no_call)) q (subst P (sym (get_or-set_same ks i k no_call h)) (f q))
    go false e = subst P (sym (get_or-set_other ks j i k no_call (eqb-false i j e))) g

-- ---- a packet is received

-- an open call stays open, with its data, until a result of it is received
pub data Stays (d : Client) (p : Option Packet) (c : ℕ) : Type 0 where
  stays : Open (receive_with d p).client c → call_at (receive_with d p).client c ≡ call_at d c → Stays d p c
  ends : (r : ResultPacket) → p ≡ Some (Resulted r) → r.call ≡ c → (receive_with d p).answer ≡ Ok (Completed r) → Stays d p c

-- the lease end never falls
pub receive-lease : (d : Client) (p : Option Packet) → d.lease ≤ (receive_with d p).client.lease
unfolding not_received closed with_calls with_lease
receive-lease d p = go (receive_case d p)
  where
    go : ReceiveCase d p → d.lease ≤ (receive_with d p).client.lease
    go (ReceiveCase.refused n e) = rw e (omega arith)
    go (ReceiveCase.completed r q o e) = rw e (omega arith)
    go (ReceiveCase.denied r q o e) = rw e (omega arith)
    go (ReceiveCase.extended g q o l e) = rw e l

module _ {d : Client} (w : WellFormed d) where
  inside : (i : ℕ) → i < call_window → i < length d.calls
  inside i h = omega (arith, w.places)

  -- ---- a new call

  module _ (k : OpenCall) (new : k.call ≡ d.next) (ok : command_ok k.op k.point k.argument ≡ true) (room : d.next < first_open d + call_window) (left : d.next < last32) where
    new_over : suc d.next - call_window ≤ first_open (with_call d k)
    unfolding first_open with_call with_calls
    new_over =
        least-over (suc d.next - call_window) (suc d.next) (set d.calls (place_of k.call) k) (omega arith)
        (λ i h p. each i (omega (arith, w.places, length-set d.calls (place_of k.call) k)) p)
      where
        each : (i : ℕ) → i < call_window → 1 ≤ (get_or (set d.calls (place_of k.call) k) i no_call).call → suc d.next - call_window ≤ (get_or (set d.calls (place_of k.call) k) i no_call).call
        each i h =
            set-each (λ (x : OpenCall). 1 ≤ x.call → suc d.next - call_window ≤ x.call) d.calls (place_of k.call) k i (inside i h)
            (λ _ _. omega arith) (λ p. let f = first-each d i p in omega arith)

    pub with_call-well : WellFormed (with_call d k)
    unfolding with_call with_calls
    with_call-well = record {
      numbered = w.numbered;
      started = omega arith;
      places = length-set d.calls (place_of k.call) k ∙ w.places;
      placed = λ i h. set-each (λ (x : OpenCall). 1 ≤ x.call → place_of x.call ≡ i) d.calls (place_of k.call) k i (inside i h) (λ e _. sym e) (w.placed i h);
      below = λ i h. set-each (λ (x : OpenCall). x.call < suc d.next) d.calls (place_of k.call) k i (inside i h) (λ _. omega arith) (let b = w.below i h in omega arith);
      commands = λ i h. set-each (λ (x : OpenCall). 1 ≤ x.call → command_ok x.op x.point x.argument ≡ true) d.calls (place_of k.call) k i (inside i h) (λ _ _. ok) (w.commands i h);
      client-within = w.client-within;
      lease-within = w.lease-within;
      next-within = left;
      window = omega (arith, new_over);
    }

  -- ---- a call is closed

  module _ (c : ℕ) where
    closed-over : first_open d ≤ first_open (closed d c)
    unfolding first_open closed with_calls
    closed-over =
        least-over (first_open d) d.next (set d.calls (place_of c) no_call) (first_under d)
        (λ i h p. each i (omega (arith, w.places, length-set d.calls (place_of c) no_call)) p)
      where
        each : (i : ℕ) → i < call_window → 1 ≤ (get_or (set d.calls (place_of c) no_call) i no_call).call → first_open d ≤ (get_or (set d.calls (place_of c) no_call) i no_call).call
        each i h =
            set-each (λ (x : OpenCall). 1 ≤ x.call → first_open d ≤ x.call) d.calls (place_of c) no_call i (inside i h)
            (λ _ q. absurd (omega arith)) (first-each d i)

    pub closed-well : WellFormed (closed d c)
    unfolding closed with_calls
    closed-well = record {
      numbered = w.numbered;
      started = w.started;
      places = length-set d.calls (place_of c) no_call ∙ w.places;
      placed = λ i h. set-each (λ (x : OpenCall). 1 ≤ x.call → place_of x.call ≡ i) d.calls (place_of c) no_call i (inside i h) (λ _ q. absurd (omega arith)) (w.placed i h);
      below = λ i h. set-each (λ (x : OpenCall). x.call < d.next) d.calls (place_of c) no_call i (inside i h) (λ _. w.started) (w.below i h);
      commands =
          λ i h. set-each (λ (x : OpenCall). 1 ≤ x.call → command_ok x.op x.point x.argument ≡ true) d.calls (place_of c) no_call i (inside i h)
          (λ _ q. absurd (omega arith)) (w.commands i h);
      client-within = w.client-within;
      lease-within = w.lease-within;
      next-within = w.next-within;
      window = omega (arith, closed-over, w.window);
    }

  with_lease-well : (e : ℕ) → e ≤ last32 → WellFormed (with_lease d e)
  unfolding with_lease
  with_lease-well e z = record {
    numbered = w.numbered;
    started = w.started;
    places = w.places;
    placed = w.placed;
    below = w.below;
    commands = w.commands;
    client-within = w.client-within;
    lease-within = z;
    next-within = w.next-within;
    window = with_lease-window;
  }
    where
      with_lease-window : d.next ≤ first_open (with_lease d e) + call_window
      with_lease-window = unfold first_open in w.window

  -- ---- the operations

  pub issue-well : (op point a : ℕ) → WellFormed (issue_of d op point a).client
  unfolding not_sent sent new_call
  issue-well op point a = go (issue_case d op point a)
    where
      go : IssueCase d op point a → WellFormed (issue_of d op point a).client
      go (IssueCase.refused n e) = rw e w
      go (IssueCase.issued ok room left e) = rw e (with_call-well (new_call d op point a) refl ok room left)

  pub receive-well : (p : Packet) → packet_fits p → WellFormed (receive_with d (Some p)).client
  unfolding not_received
  receive-well p fits = go (receive_case d (Some p))
    where
      go : ReceiveCase d (Some p) → WellFormed (receive_with d (Some p)).client
      go (ReceiveCase.refused n e) = rw e w
      go (ReceiveCase.completed r q o e) = rw e (closed-well r.call)
      go (ReceiveCase.denied r q o e) = rw e w
      go (ReceiveCase.extended g q o l e) = let z : p ≡ Granted g = cc in rw e (with_lease-well g.lease (omega (arith, (subst packet_fits z fits).lease)))

  -- ---- what is open after an operation

  -- issue opens next, with the command asked for, and leaves the others as they were
  pub issue-opens : (op point a : ℕ) (q : Request) → (issue_of d op point a).answer ≡ Ok q
      → Open (issue_of d op point a).client d.next × (call_at (issue_of d op point a).client d.next ≡ new_call d op point a)
  unfolding new_call
  issue-opens op point a q s =
      let i = issue-asked d op point a q s in
      rw i.after (issued-next w i.room (new_call d op point a) refl, issued-at w i.room (new_call d op point a) refl)

  pub issue-stays : (op point a c : ℕ) → Open d c → Open (issue_of d op point a).client c × (call_at (issue_of d op point a).client c ≡ call_at d c)
  unfolding not_sent sent new_call
  issue-stays op point a c o = go (issue_case d op point a)
    where
      go : IssueCase d op point a → Open (issue_of d op point a).client c × (call_at (issue_of d op point a).client c ≡ call_at d c)
      go (IssueCase.refused n e) = rw e (o, refl)
      go (IssueCase.issued ok room left e) = rw e (issued_open w room (new_call d op point a) refl c o, issued-keeps w room (new_call d op point a) refl c o)

  pub issue-only : (op point a c : ℕ) → Open (issue_of d op point a).client c → (c ≡ d.next) ⊎ Open d c
  unfolding not_sent sent new_call
  issue-only op point a c = go (issue_case d op point a)
    where
      go : IssueCase d op point a → Open (issue_of d op point a).client c → (c ≡ d.next) ⊎ Open d c
      go (IssueCase.refused n e) = rw e (λ o. inr o)
      go (IssueCase.issued ok room left e) = rw e (issued-only w room (new_call d op point a) refl c)

  open_leased : (e c : ℕ) → Open d c → Open (with_lease d e) c
  unfolding with_lease call_at
  open_leased e c o = record { from = o.from; at = o.at }

  leased_at : (e c : ℕ) → call_at (with_lease d e) c ≡ call_at d c
  unfolding with_lease call_at
  leased_at e c = refl

  pub receive-stays : (p : Option Packet) (c : ℕ) → Open d c → Stays d p c
  unfolding not_received
  receive-stays p c o = go (receive_case d p)
    where
      on : (r : ResultPacket) → p ≡ Some (Resulted r) → Own d r.client r.call r.point → receive_with d p ≡ record { client = closed d r.call; answer = Ok (Completed r) }
          → (b : Bool) → eqb c r.call ≡ b → Stays d p c
      on r q own e true f = ends r q (sym (eqb-true _ _ f)) (ap (λ (x : ReceiveAnswer). x.answer) e)
      on r q own e false f =
          let n = eqb-false _ _ f in
          stays (rw e (closed_open w r.call own.open_call_lem c o n)) (rw e (closed-keeps w r.call own.open_call_lem c o n))

      go : ReceiveCase d p → Stays d p c
      go (ReceiveCase.refused n e) = stays (rw e o) (rw e refl)
      go (ReceiveCase.completed r q own e) = on r q own e (eqb c r.call) refl
      go (ReceiveCase.denied r q own e) = stays (rw e o) (rw e refl)
      go (ReceiveCase.extended g q k l e) = stays (rw e (open_leased g.lease c o)) (rw e (leased_at g.lease c))

  pub receive-only : (p : Option Packet) (c : ℕ) → Open (receive_with d p).client c → Open d c
  unfolding not_received
  receive-only p c = go (receive_case d p)
    where
      back : (e : ℕ) → Open (with_lease d e) c → Open d c
      back e o = record { from = o.from; at = sym (ap (λ (x : OpenCall). x.call) (leased_at e c)) ∙ o.at }

      go : ReceiveCase d p → Open (receive_with d p).client c → Open d c
      go (ReceiveCase.refused n e) = rw e (λ o. o)
      go (ReceiveCase.completed r q own e) = rw e (closed-only w r.call own.open_call_lem c)
      go (ReceiveCase.denied r q own e) = rw e (λ o. o)
      go (ReceiveCase.extended g q k l e) = rw e (back g.lease)

  -- a completed call is closed
  pub receive_ends : (p : Option Packet) (r : ResultPacket) → (receive_with d p).answer ≡ Ok (Completed r) → Open (receive_with d p).client r.call → ⊥
  unfolding not_received
  receive_ends p r s = go (receive_case d p)
    where
      told : {a : ReceiveAnswer} → receive_with d p ≡ a → a.answer ≡ Ok (Completed r)
      told e = ap (λ (x : ReceiveAnswer). x.answer) (sym e) ∙ s

      go : ReceiveCase d p → Open (receive_with d p).client r.call → ⊥
      go (ReceiveCase.refused n e) = let f = told e in impossible cc
      go (ReceiveCase.completed r' q own e) =
          let f = told e in let z : r' ≡ r = cc in
          rw e (subst (λ (x : ResultPacket). Open (closed d r'.call) x.call → ⊥) z (closed-off w r'.call own.open_call_lem))
      go (ReceiveCase.denied r' q own e) = let f = told e in impossible cc
      go (ReceiveCase.extended g q k l e) = let f = told e in impossible cc

  -- ---- a request that is sent

  -- of an open call: well formed, its done the first open call
  pub sent-ok : (c : ℕ) → Open d c → request_ok (request_for d (call_at d c)) ≡ true
  unfolding request_ok id_ok done_ok request_for
  sent-ok c o =
      let at = o.at in
      let f = first-from w in
      let u : first_open d ≤ (call_at d c).call = omega (arith, open_from d c o) in
      let b : (call_at d c).call ≤ first_open d + last_in_window = omega (arith, open_below_lem w c o, w.window) in
      let p : 1 ≤ (call_at d c).call = omega (arith, o.from) in
      and_both (command_ok (call_at d c).op (call_at d c).point (call_at d c).argument) _ (command c o)
      (and_both (leb 1 d.client && leb 1 (call_at d c).call) _
      (and_both (leb 1 d.client) _ (le-leb _ _ w.numbered) (le-leb _ _ p))
      (and_both (leb 1 (first_open d)) _ (le-leb _ _ f)
      (and_both (leb (first_open d) (call_at d c).call) _ (le-leb _ _ u) (le-leb _ _ b))))
    where
      command : (e : ℕ) → Open d e → command_ok (call_at d e).op (call_at d e).point (call_at d e).argument ≡ true
      command e p = unfold call_at in w.commands (place_of e) (place_under e) (omega (arith, p.at, p.from))

-- of issue and of resend
pub issue-ok : {d : Client} → WellFormed d → (op point a : ℕ) (q : Request) → (issue_of d op point a).answer ≡ Ok q → request_ok q ≡ true
issue-ok {d} w op point a q s =
    let i = issue-asked d op point a q s in
    let n = new_call d op point a in
    let t = issue-opens w op point a q s in
    let o = subst (λ (x : Client). Open x d.next) i.after t.0 in
    let k = subst (λ (x : Client). call_at x d.next ≡ n) i.after t.1 in
    let v = subst (λ (x : Client). WellFormed x) i.after (issue-well w op point a) in
    rw i.asks (subst (λ (x : OpenCall). request_ok (request_for (with_call d n) x) ≡ true) k (sent-ok v d.next o))

pub resend-ok : {d : Client} → WellFormed d → (c : ℕ) (q : Request) → (resend_of d c).answer ≡ Ok q → request_ok q ≡ true
resend-ok {d} w c q s = let r = resend-asked d c q s in rw r.asks (sent-ok w c r.open_call_lem)

-- done is the first open call of the client that sends, the new one counted
pub issue-done : (d : Client) (op point a : ℕ) (q : Request) → (issue_of d op point a).answer ≡ Ok q → q.done ≡ first_open (issue_of d op point a).client
unfolding request_for
issue-done d op point a q s =
    let i = issue-asked d op point a q s in ap (λ (x : Request). x.done) i.asks ∙ ap first_open (sym i.after)

pub resend-done : (d : Client) (c : ℕ) (q : Request) → (resend_of d c).answer ≡ Ok q → q.done ≡ first_open d
unfolding request_for
resend-done d c q s = ap (λ (x : Request). x.done) (resend-asked d c q s).asks
