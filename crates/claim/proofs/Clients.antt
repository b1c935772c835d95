-- Clients along a run of the kernel.
--     after-step, at_once               a world after one event more; event n is one event
--     becomes                           what an event makes of a client
--     issue-after, receive-after, start-after    the client after a call of it
--     own-number                        a client's number is the one that names it
--     clients_on                        a client stays, and its next number never falls
--     issue-is, issuer                  what an issue issues: the client's next number
--     issued-below, issue_rises, issue-one       numbers rise by events; an event issues one command
-- Assumes nothing.
use Prim.Native.Nat.{ℕ, zero, suc, ◌≤◌, ◌<◌}
use mathlib.Core.Path.{◌≡◌, refl, sym, ◌∙◌, ap, subst}
use mathlib.Core.Bool.{Bool, true, false}
use mathlib.Core.List.{List, [], ◌∷◌}
use mathlib.Core.Option.{Option, none, some}
use native.Mathlib.Omega.{arith}
use lib.ListN.{take, get_elem?}
use lib.Dec.{eqb, leb}
use borrow.Author.Tests.{eqb-true, eq-eqb, leb-true, leb-false}
use Rattle.std.specs.Prelude.{Result, Ok, Err}
use Rattle.model.specs.declared.Refusal.{Refusal}
use Rattle.model.specs.declared.Client.{Client}
use Rattle.model.specs.declared.Command.{Command}
use Rattle.model.specs.Refusals.{no_refusal}
use Rattle.model.specs.Versions.{Versions}
use Rattle.model.specs.Packets.{parse_packet}
use Rattle.model.specs.Clients.{start_of, issue_of, resend_of, receive_of}
use Rattle.model.specs.Operations.{After}
use Rattle.model.specs.Checkpoints.{checkpoint_of}
use Rattle.model.specs.Calls.{Operation, operated}
use Rattle.model_laws.proofs.Tests.{choose, impossible}
use Rattle.model_laws.proofs.Clients.{command_of, issue-command, issue-next, issue-keeps, receive-next, resend-same}
use Rattle.claim.specs.World.{World, WorldOf, Stored, Server, nothing, running, storing, crashed, Lent, lent_state, lent_log, Event, found, call, inquire, recover, crash}
use Rattle.claim.specs.World.{checkpoint, store, recover·tail, outside, checkpoints, stores}
use Rattle.claim.specs.World.{start, issue, resend, receive, open·lease, renew, query, with_server, with_client, with_manager, making, calls, calls_on, found_as, crash_at, starts_as, starts_on}
use Rattle.claim.specs.World.{sends, receives, told, packet, outside_step, step, empty_world, run_from, run, after}
use Rattle.claim.specs.Provisos.{At, Provisos}
use Rattle.claim.specs.Claim.{Issues}

-- ---- one event of a server or of the lease manager leaves the clients

making-clients : {S : Type 0} (b : List ℕ) (w : WorldOf S) → (making b w).clients ≡ w.clients
unfolding making
making-clients [] w = refl
making-clients (x ∷ b) w = refl

calls-clients : (c : ℕ) (l : Lent) (f : List ℕ → List ℕ → After) (s : Server) (w : World) → (calls c l f s w).clients ≡ w.clients
unfolding calls with_server
calls-clients c l f nothing w = refl
calls-clients c l f (running k state log) w = making-clients _ _
calls-clients c l f (storing k log next state tail) w = refl
calls-clients c l f (crashed k log mark) w = refl

on_clients : (c : ℕ) (l : Lent) (o : Option Operation) (w : World) → (calls_on c l o w).clients ≡ w.clients
unfolding calls_on
on_clients c l none w = refl
on_clients c l (some o) w = calls-clients c l (λ s g. operated o s g l.out) (w.servers c) w

found-clients : (c : ℕ) (k : Stored) (a : After) (w : World) → (found_as c k a w).clients ≡ w.clients
unfolding found_as with_server
found-clients c k a w = choose (λ (v : World). v.clients ≡ w.clients) (eqb a.answer.refusal no_refusal) (λ _. refl) (λ _. refl)

crash-clients : (c k : ℕ) (s : Server) (w : World) → (crash_at c k s w).clients ≡ w.clients
unfolding crash_at with_server
crash-clients c k nothing w = refl
crash-clients c n (running k state log) w = refl
crash-clients c n (storing k log next state tail) w = refl
crash-clients c n (crashed k log mark) w = refl

checkpoint-clients : (c : ℕ) (v : Versions) (t : List ℕ) (l : Lent) (s : Server) (w : World) → (checkpoints c v t l s w).clients ≡ w.clients
unfolding checkpoints with_server
checkpoint-clients c v t l nothing w = refl
checkpoint-clients c v t l (running k state log) w =
    choose (λ (u : World). u.clients ≡ w.clients) (eqb (checkpoint_of v (lent_state l state) (lent_log l log) l.out t).answer.refusal no_refusal) (λ _. refl) (λ _. refl)
checkpoint-clients c v t l (storing k log next state tail) w = refl
checkpoint-clients c v t l (crashed k log mark) w = refl

store-clients : (c : ℕ) (s : Server) (w : World) → (stores c s w).clients ≡ w.clients
unfolding stores with_server
store-clients c nothing w = refl
store-clients c (running k state log) w = refl
store-clients c (storing k log next state tail) w = refl
store-clients c (crashed k log mark) w = refl

-- ---- a run

run_step : (w : World) (es : List Event) (n : ℕ) (e : Event) → get_elem? es n ≡ some e → run_from w (take (suc n) es) ≡ step (run_from w (take n es)) e
unfolding run_from
run_step w [] n e h = impossible cc
run_step w (x ∷ es) zero e h = ap (step w) (let q : x ≡ e = cc in q)
run_step w (x ∷ es) (suc n) e h = run_step (step w x) es n e h

run_past : (w : World) (es : List Event) (n : ℕ) → get_elem? es n ≡ none → run_from w (take (suc n) es) ≡ run_from w (take n es)
unfolding run_from
run_past w [] zero h = refl
run_past w [] (suc n) h = refl
run_past w (x ∷ es) zero h = impossible cc
run_past w (x ∷ es) (suc n) h = run_past (step w x) es n h

module _ (plan : List ℕ) (es : List Event) where
  pub after-step : (n : ℕ) (e : Event) → At es n e → after es (suc n) ≡ step (after es n) e
  unfolding At after run
  after-step n e h = run_step empty_world es n e h

  after-past : (n : ℕ) → get_elem? es n ≡ none → after es (suc n) ≡ after es n
  unfolding after run
  after-past n h = run_past empty_world es n h

  pub at_once : (n : ℕ) (e f : Event) → At es n e → At es n f → e ≡ f
  unfolding At
  at_once n e f h k = let q : some e ≡ some f = sym h ∙ k in cc

  -- what event n makes of client x
  pub data Becomes (n x : ℕ) : Option Client → Type 0 where
    still : Becomes n x ((after es n).clients x)
    begun : (p : ℕ) (b : List ℕ) → At es n (outside (start p)) → packet (after es n) p ≡ some b → (start_of b).answer ≡ Ok tt → (start_of b).client.client ≡ x
        → Becomes n x (some (start_of b).client)
    asked : (op p a : ℕ) (d : Client) → At es n (outside (issue x op p a)) → (after es n).clients x ≡ some d → Becomes n x (some (issue_of d op p a).client)
    heard : (p : ℕ) (d : Client) (b : List ℕ) → At es n (outside (receive x p)) → (after es n).clients x ≡ some d → packet (after es n) p ≡ some b
        → Becomes n x (some (receive_of d b).client)

  module _ (n x : ℕ) where
    -- an event that leaves all clients
    as_still : (e : Event) → (step (after es n) e).clients ≡ (after es n).clients → Becomes n x ((step (after es n) e).clients x)
    as_still e q = subst (λ (f : ℕ → Option Client). Becomes n x (f x)) (sym q) still

    step_becomes : (e : Event) → At es n e → Becomes n x ((step (after es n) e).clients x)
    unfolding step outside_step starts_on starts_as sends receives told with_client with_manager
    step_becomes (found c state log plan k) h = as_still (found c state log plan k) (found-clients _ _ _ _)
    step_becomes (call c o l) h = as_still (call c o l) (on_clients _ _ _ _)
    step_becomes (inquire c i l) h = as_still (inquire c i l) (calls-clients _ _ _ _ _)
    step_becomes (recover c state log plan) h = as_still (recover c state log plan) (found-clients _ _ _ _)
    step_becomes (checkpoint c v t l) h = as_still (checkpoint c v t l) (checkpoint-clients _ _ _ _ _ _)
    step_becomes (store c) h = as_still (store c) (store-clients _ _ _)
    step_becomes (recover·tail c state k t) h = as_still (recover·tail c state k t) (found-clients _ _ _ _)
    step_becomes (crash c k) h = as_still (crash c k) (crash-clients _ _ _ _)
    step_becomes (outside (start p)) h = go (packet (after es n) p) refl
      where
        run_as : (b : List ℕ) → packet (after es n) p ≡ some b → (s : Result Unit Refusal) → (start_of b).answer ≡ s → Becomes n x ((starts_as (start_of b) (after es n)).clients x)
        run_as b f (Err k) q = rw q still
        run_as b f (Ok tt) q = rw q (choose (Becomes n x) (eqb x (start_of b).client.client) (λ t. begun p b h f q (sym (eqb-true _ _ t))) (λ t. still))

        go : (o : Option (List ℕ)) → packet (after es n) p ≡ o → Becomes n x ((starts_on o (after es n)).clients x)
        go none f = still
        go (some b) f = run_as b f (start_of b).answer refl
    step_becomes (outside (issue y op p a)) h = go ((after es n).clients y) refl
      where
        go : (o : Option Client) → (after es n).clients y ≡ o → Becomes n x ((sends y (λ d. issue_of d op p a) o (after es n)).clients x)
        go none f = still
        go (some d) f =
            subst (λ (g : ℕ → Option Client). Becomes n x (g x)) (sym (making-clients _ _))
            (choose (Becomes n x) (eqb x y)
            (λ t.
            let q : y ≡ x = sym (eqb-true x y t) in
            asked op p a d (subst (λ (z : ℕ). At es n (outside (issue z op p a))) q h) (subst (λ (z : ℕ). (after es n).clients z ≡ some d) q f)) (λ t. still))
    step_becomes (outside (resend y c)) h = go ((after es n).clients y) refl
      where
        go : (o : Option Client) → (after es n).clients y ≡ o → Becomes n x ((sends y (λ d. resend_of d c) o (after es n)).clients x)
        go none f = still
        go (some d) f =
            subst (λ (g : ℕ → Option Client). Becomes n x (g x)) (sym (making-clients _ _))
            (choose (Becomes n x) (eqb x y)
            (λ t. rw (resend-same d c) (subst (Becomes n x) (subst (λ (z : ℕ). (after es n).clients z ≡ some d) (sym (eqb-true x y t)) f) still)) (λ t. still))
    step_becomes (outside (receive y p)) h = go ((after es n).clients y) refl (packet (after es n) p) refl
      where
        go : (o : Option Client) → (after es n).clients y ≡ o → (b : Option (List ℕ)) → packet (after es n) p ≡ b → Becomes n x ((receives y o b (after es n)).clients x)
        go none f b g = still
        go (some d) f none g = still
        go (some d) f (some b) g =
            choose (Becomes n x) (eqb x y)
            (λ t.
            let q : y ≡ x = sym (eqb-true x y t) in
            heard p d b (subst (λ (z : ℕ). At es n (outside (receive z p))) q h) (subst (λ (z : ℕ). (after es n).clients z ≡ some d) q f) g) (λ t. still)
    step_becomes (outside (open·lease t span)) h = as_still (outside (open·lease t span)) (making-clients _ _)
    step_becomes (outside (renew y t span)) h = as_still (outside (renew y t span)) (making-clients _ _)
    step_becomes (outside (query y t)) h = as_still (outside (query y t)) (making-clients _ _)

    pub becomes : Becomes n x ((after es (suc n)).clients x)
    unfolding At
    becomes = go (get_elem? es n) refl
      where
        go : (o : Option Event) → get_elem? es n ≡ o → Becomes n x ((after es (suc n)).clients x)
        go none f = rw (after-past n f) still
        go (some e) f = rw (after-step n e f) (step_becomes e f)

  -- ---- the client after a call of it

  pub issue-after : (n x op p a : ℕ) (d : Client) → At es n (outside (issue x op p a)) → (after es n).clients x ≡ some d → (after es (suc n)).clients x ≡ some (issue_of d op p a).client
  unfolding step outside_step sends with_client
  issue-after n x op p a d h e = rw (after-step n _ h, e, making-clients, eq-eqb x x refl) refl

  pub receive-after : (n x p : ℕ) (d : Client) (b : List ℕ) → At es n (outside (receive x p)) → (after es n).clients x ≡ some d → packet (after es n) p ≡ some b
      → (after es (suc n)).clients x ≡ some (receive_of d b).client
  unfolding step outside_step receives with_client
  receive-after n x p d b h e f = rw (after-step n _ h, e, f, eq-eqb x x refl) refl

  pub start-after : (n p : ℕ) (b : List ℕ) → At es n (outside (start p)) → packet (after es n) p ≡ some b → (start_of b).answer ≡ Ok tt
      → (after es (suc n)).clients (start_of b).client.client ≡ some (start_of b).client
  unfolding step outside_step starts_on starts_as with_client
  start-after n p b h f e = rw (after-step n _ h, f, e, eq-eqb (start_of b).client.client (start_of b).client.client refl) refl

  -- ---- numbers

  pub own-number : (n x : ℕ) (d : Client) → (after es n).clients x ≡ some d → d.client ≡ x
  unfolding after run run_from empty_world receive_of
  own-number zero x d e = impossible cc
  own-number (suc n) x d e = go (λ c. own-number n x c) (becomes n x) e
    where
      go : ((c : Client) → (after es n).clients x ≡ some c → c.client ≡ x) → {o : Option Client} → Becomes n x o → o ≡ some d → d.client ≡ x
      go ih still f = ih d f
      go ih (begun p b h f r q) g = let k : (start_of b).client ≡ d = cc in subst (λ (z : Client). z.client ≡ x) k q
      go ih (asked op p a c h f) g = let k : (issue_of c op p a).client ≡ d = cc in subst (λ (z : Client). z.client ≡ x) k ((issue-keeps c op p a).1 ∙ ih c f)
      go ih (heard p c b h f q) g = let k : (receive_of c b).client ≡ d = cc in subst (λ (z : Client). z.client ≡ x) k ((receive-next c (parse_packet b)).1 ∙ ih c f)

  -- an issue takes the next number
  pub issue-is : (n : ℕ) (k : Command) (i : Issues es n (k ∷ [])) → k ≡ command_of i.state i.op i.point i.argument
  issue-is n k i = let q : i.asked.command ∷ [] ≡ k ∷ [] = i.its in let r : i.asked.command ≡ k = cc in sym r ∙ issue-command _ _ _ _ _ i.answer

  pub issuer : (n : ℕ) (k : Command) (i : Issues es n (k ∷ [])) → i.client ≡ k.client
  issuer n k i = sym (ap (λ (z : Command). z.client) (issue-is n k i) ∙ own-number n i.client i.state i.started)

  pub issue-one : (n : ℕ) (k l : Command) → Issues es n (k ∷ []) → Issues es n (l ∷ []) → k ≡ l
  issue-one n k l i j =
      let e = at_once n _ _ i.event j.event in
      let x : i.client ≡ j.client = cc in
      let o : i.op ≡ j.op = cc in
      let p : i.point ≡ j.point = cc in
      let a : i.argument ≡ j.argument = cc in
      let f : some i.state ≡ some j.state = sym i.started ∙ ap (after es n).clients x ∙ j.started in
      let d : i.state ≡ j.state = cc in
      issue-is n k i ∙ (rw (d, o, p, a) refl) ∙ sym (issue-is n l j)

  module _ (provisos : Provisos plan es) where
    next-kept : (n x : ℕ) (d : Client) → (after es n).clients x ≡ some d → (c : Client) × ((after es (suc n)).clients x ≡ some c) × (d.next ≤ c.next)
    unfolding receive_of
    next-kept n x d e = go (becomes n x)
      where
        same : {c : Client} → (after es n).clients x ≡ some c → d ≡ c
        same {c} f = let g : some d ≡ some c = sym e ∙ f in cc

        go : {o : Option Client} → Becomes n x o → (c : Client) × (o ≡ some c) × (d.next ≤ c.next)
        go still = (d, e, omega arith)
        go (begun p b h f r q) =
            let z : (after es n).clients x ≡ none = subst (λ (y : ℕ). (after es n).clients y ≡ none) q (provisos.started-once n p h b f r) in
            let y : some d ≡ none = sym e ∙ z in impossible cc
        go (asked op p a c h f) = (_, refl, let k = ap (λ (z : Client). z.next) (same f) in omega (arith, (issue-keeps c op p a).0))
        go (heard p c b h f q) = (_, refl, let k = ap (λ (z : Client). z.next) (same f) in omega (arith, (receive-next c (parse_packet b)).0))

    pub clients_on : (n m x : ℕ) (d : Client) → n ≤ m → (after es n).clients x ≡ some d → (c : Client) × ((after es m).clients x ≡ some c) × (d.next ≤ c.next)
    clients_on n zero x d h e = (d, subst (λ (k : ℕ). (after es k).clients x ≡ some d) (omega arith) e, omega arith)
    clients_on n (suc m) x d h e = go (leb n m) refl (λ k. clients_on n m x d k e)
      where
        go : (b : Bool) → leb n m ≡ b → (n ≤ m → (c : Client) × ((after es m).clients x ≡ some c) × (d.next ≤ c.next))
            → (c : Client) × ((after es (suc m)).clients x ≡ some c) × (d.next ≤ c.next)
        go true q ih =
            let c = ih (leb-true n m q) in
            let f = next-kept m x c.0 c.1 in
            (f.0, f.1, omega (arith, c.2, f.2))
        go false q ih = let k = leb-false n m q in (d, subst (λ (j : ℕ). (after es j).clients x ≡ some d) (omega arith) e, omega arith)

    -- what was issued has a number below the next
    pub issued-below : (n m : ℕ) (k : Command) (d : Client) → Issues es n (k ∷ []) → n < m → (after es m).clients k.client ≡ some d → k.call < d.next
    issued-below n m k d i h e =
        let c = clients_on (suc n) m i.client _ h (issue-after n _ _ _ _ _ i.event i.started) in
        let f : some c.0 ≡ some d = sym c.1 ∙ ap (after es m).clients (issuer n k i) ∙ e in
        let g : c.0 ≡ d = cc in
        let l : c.0.next ≡ d.next = ap (λ (z : Client). z.next) g in
        let o : k.call ≡ i.state.next = ap (λ (z : Command). z.call) (issue-is n k i) in
        omega (arith, c.2, (issue-next _ _ _ _ _ i.answer).1)

    -- numbers rise by events
    pub issue_rises : (n m : ℕ) (k l : Command) → Issues es n (k ∷ []) → Issues es m (l ∷ []) → k.client ≡ l.client → n < m → k.call < l.call
    issue_rises n m k l i j e h =
        let b = issued-below n m k j.state i h (ap (after es m).clients (e ∙ sym (issuer m l j)) ∙ j.started) in
        let o : l.call ≡ j.state.next = ap (λ (z : Command). z.call) (issue-is m l j) in
        omega arith
