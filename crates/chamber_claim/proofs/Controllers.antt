-- What holds of a controller along a schedule.
--     held                     `Held`: its client is the world's, its reads were completed, no set or part has a number over `moved`, and each command
--                              that it issued is completed or open
--     after-begin              a client that is started issues after its start
--     none_open                when a controller's command is issued, those before it are completed
--     there_on, begun-at       a controller is there from its start on
-- Assumes nothing.
use Prim.Native.Nat.{ℕ, zero, suc, ◌<◌, ◌≤◌}
use mathlib.Core.Path.{◌≡◌, refl, sym, ◌∙◌, ap, subst}
use mathlib.Core.Bool.{Bool, true, false}
use mathlib.Core.List.{List, [], ◌∷◌}
use mathlib.Core.Logic.{◌⊎◌, inl, inr}
use mathlib.Core.Option.{Option, none, some}
use native.Mathlib.Omega.{arith}
use lib.Dec.{eqb, ltb}
use lib.ListN.{length, get_or, set, replicate, length-set}
use lib.Seq.{get_or-set_same, get_or-set_other}
use borrow.Author.Tests.{eqb-true, eqb-false, ne_eqb, ltb-true, ltb-false}
use Rattle.std.specs.Prelude.{Ok}
use Rattle.model.specs.declared.OpenCall.{OpenCall}
use Rattle.model.specs.declared.Client.{Client}
use Rattle.model.specs.declared.Command.{Command}
use Rattle.model.specs.declared.CommandResult.{CommandResult}
use Rattle.model.specs.declared.ResultPacket.{ResultPacket}
use Rattle.model.specs.declared.Received.TheVariants.{Completed}
use Rattle.model.specs.declared.ReceiveAnswer.{ReceiveAnswer}
use Rattle.model.specs.Choice.{pick}
use Rattle.model.specs.Limits.{read_op, call_window}
use Rattle.model.specs.Sequential.{EntryResult, one, result_meant}
use Rattle.model.specs.Packets.{parse_packet}
use Rattle.model.specs.Clients.{no_call, place_of, call_at, with_calls, with_call, with_lease, new_call, closed, start_of, not_received, receive_of}
use Rattle.model_laws.proofs.Tests.{choose, impossible}
use Rattle.model_laws.proofs.Clients.{open_from, asking, command_of, issue-asked, issue-command, start-fresh, Own, ReceiveCase, receive_case}
use Rattle.claim.specs.World.{Event, outside, issue, receive, packet}
use Rattle.claim.specs.Claim.{Issues, Completes, command_at}
use Rattle.claim.specs.Above.{site_after, empty_site, run_site}
use Rattle.claim.proofs.Clients.{at_once, Becomes, still, begun, asked, heard, becomes, issue-after, receive-after, start-after, own-number, clients_on, issuer, issue-one, issued-below}
use Rattle.chamber_claim.specs.declared.LockPoints.{LockPoints}
use Rattle.chamber_claim.specs.declared.LatestRead.{LatestRead}
use Rattle.chamber_claim.specs.declared.Chamber.{Chamber}
use Rattle.chamber_claim.specs.Chamber.{role_in, no_read, read_at, new_chamber, start_in, issue_in, read_by, reads_with, receive_in}
use Rattle.chamber_claim.specs.Lock.{LockEvent, kernel, command, hear, Lock, no_lock, unless_not_sent, issue_call, if_there, lock_event}
use Rattle.chamber_claim.specs.Safe.{events, lock_at, AtLock, Begins, LockProvisos}
use Rattle.chamber_claim.proofs.Commands.{started, Passed, passed, heard-same, ended_chamber}
use Rattle.chamber_claim.proofs.Frame.{last_or, world, AtKernel, kernel-event, Commands, issue-from, receive-from, Spares, LockStep, same, born, commanding, hearing, lock_step}
use Rattle.chamber_claim.proofs.Frame.{begins-event, begins-client, begins-after}

abbrev pub call_of : Command → OpenCall
call_of k = record { call = k.call; op = k.op; point = k.point; argument = k.argument }

-- k is open among the calls
abbrev pub OpenIn : List OpenCall → Command → Type 0
OpenIn ks k = (1 ≤ k.call) × (get_or ks (place_of k.call) no_call ≡ call_of k)

-- a stored read, or the one that was there
set_either : {A : Type 0} (l : List A) (j : ℕ) (v : A) (i : ℕ) (z : A) → ((i ≡ j) × (get_or (set l j v) i z ≡ v)) ⊎ (get_or (set l j v) i z ≡ get_or l i z)
set_either [] j v i z = inr refl
set_either (a ∷ l) zero v zero z = inl (refl, refl)
set_either (a ∷ l) zero v (suc i) z = inr refl
set_either (a ∷ l) (suc j) v zero z = inr refl
set_either (a ∷ l) (suc j) v (suc i) z = go (set_either l j v i z)
  where
    go : ((i ≡ j) × (get_or (set l j v) i z ≡ v)) ⊎ (get_or (set l j v) i z ≡ get_or l i z) → ((suc i ≡ suc j) × (get_or (set l j v) i z ≡ v)) ⊎ (get_or (set l j v) i z ≡ get_or l i z)
    go (inl e) = inl (ap suc e.0, e.1)
    go (inr e) = inr e

-- a new controller has read nothing
unread : (n i : ℕ) → get_or (replicate n no_read) i no_read ≡ no_read
unread zero i = refl
unread (suc n) zero = refl
unread (suc n) (suc i) = unread n i

module _ (plan : List ℕ) (s : LockPoints) (ls : List LockEvent) where
  abbrev es : List Event
  es = events plan s ls

  abbrev lock : ℕ → Lock
  lock n = lock_at plan s ls n

  -- ---- what holds of a controller

  -- k was completed within the first n events
  pub record Done (n : ℕ) (k : Command) : Type 0 where
    pub at : ℕ
    pub soon : at < n
    pub result : EntryResult
    pub completes : Completes es at (k ∷ []) result

  -- g is the read of the role i that an event completed
  pub record ReadBy (x i : ℕ) (g : LatestRead) : Type 0 where
    pub read : Command
    pub by : read.client ≡ x
    pub number : read.call ≡ g.call
    pub op : read.op ≡ read_op
    pub role : role_in s read.point ≡ i
    pub at : ℕ
    pub result : CommandResult
    pub value : result.value ≡ g.value
    pub completes : Completes es at (read ∷ []) (one (result_meant result))

  -- one of the first n events did
  abbrev pub Seen : ℕ → ℕ → ℕ → LatestRead → Type 0
  Seen n x i g = (r : ReadBy x i g) × (r.at < n)

  -- event j issues k, of client x
  abbrev pub IssuedBy : ℕ → ℕ → Command → Type 0
  IssuedBy x j k = Issues es j (k ∷ []) × (k.client ≡ x)

  -- the controller of x after n events
  pub record Held (n x : ℕ) (ch : Chamber) : Type 0 where
    pub client : (world plan s ls n).clients x ≡ some ch.client
    pub points : ch.points ≡ s
    pub places : length ch.client.calls ≡ call_window
    pub numbered : 1 ≤ ch.client.next
    pub reads : (i : ℕ) → 1 ≤ (read_at ch i).call → Seen n x i (read_at ch i)
    pub moves : (j : ℕ) (k : Command) → j < n → IssuedBy x j k → (k.op ≡ read_op → ⊥) → k.call ≤ ch.moved
    pub done : (j : ℕ) (k : Command) → j < n → IssuedBy x j k → Done n k ⊎ OpenIn ch.client.calls k

  seen_on : {n x i : ℕ} {g : LatestRead} → Seen n x i g → Seen (suc n) x i g
  seen_on r = (r.0, let h = r.1 in omega arith)

  done_on : {n : ℕ} {k : Command} → Done n k → Done (suc n) k
  done_on r = record { at = r.at; soon = let h = r.soon in omega arith; result = r.result; completes = r.completes }

  -- an event that issues no command of x: what may change are reads and open calls
  held_on : (n x : ℕ) (ch c : Chamber) → Held n x ch → ((k : Command) → IssuedBy x n k → ⊥) → (world plan s ls (suc n)).clients x ≡ some c.client → c.points ≡ ch.points → c.moved ≡ ch.moved
      → length c.client.calls ≡ length ch.client.calls → c.client.next ≡ ch.client.next → ((i : ℕ) → 1 ≤ (read_at c i).call → Seen (suc n) x i (read_at c i))
      → ((k : Command) → k.client ≡ x → OpenIn ch.client.calls k → Done (suc n) k ⊎ OpenIn c.client.calls k) → Held (suc n) x c
  held_on n x ch c h quiet w p m l e r o =
      record {
        client = w;
        points = p ∙ h.points;
        places = l ∙ h.places;
        numbered = omega (arith, h.numbered);
        reads = r;
        moves = λ j k b i f. let q = h.moves j k (earlier j k i (last_or j n b)) i f in omega arith;
        done = λ j k b i. further k i (h.done j k (earlier j k i (last_or j n b)) i);
      }
    where
      earlier : (j : ℕ) (k : Command) → IssuedBy x j k → (j < n) ⊎ (j ≡ n) → j < n
      earlier j k i (inl f) = f
      earlier j k i (inr f) = absurd (quiet k (subst (λ (z : ℕ). IssuedBy x z k) f i))

      further : (k : Command) {j : ℕ} → IssuedBy x j k → Done n k ⊎ OpenIn ch.client.calls k → Done (suc n) k ⊎ OpenIn c.client.calls k
      further k i (inl f) = inl (done_on f)
      further k i (inr f) = o k i.1 f

  module _ (pr : LockProvisos plan s ls) where
    begins-none : (n x : ℕ) → Begins plan s ls n x → (world plan s ls n).clients x ≡ none
    begins-none n x b =
        let e = begins-event plan s ls n x b in
        subst (λ (z : ℕ). (world plan s ls n).clients z ≡ none) (begins-client plan s ls n x b) (pr.kernels.started-once n b.number e.0 b.bytes e.1 (started s b.bytes b.answer).1)

    -- a client that is started issues after its start
    pub after-begin : (n x j : ℕ) (k : Command) → Begins plan s ls n x → IssuedBy x j k → n < j
    after-begin n x j k b i = go (ltb n j) refl
      where
        go : (u : Bool) → ltb n j ≡ u → n < j
        go true e = ltb-true n j e
        go false e =
            let c = clients_on plan es pr.kernels j n i.0.client i.0.state (ltb-false n j e) i.0.started in
            let f : none ≡ some c.0 = sym (begins-none n x b) ∙ ap (world plan s ls n).clients (sym (issuer plan es j k i.0 ∙ i.1)) ∙ c.1 in
            impossible cc

    -- ---- the four cases

    no_issue : (n x : ℕ) (ch : Chamber) → (lock n).controllers x ≡ some ch → ((o : LockEvent) → AtLock plan s ls n o → Spares plan s ls n x o)
        → (op p a : ℕ) → AtKernel plan s ls n (outside (issue x op p a)) → ⊥
    no_issue n x ch e f op p a h = go (issue-from plan s ls n x op p a h)
      where
        go : AtLock plan s ls n (kernel (outside (issue x op p a))) ⊎ Commands plan s ls n x op p a → ⊥
        go (inl k) = pr.own-issue n x op p a ch k e
        go (inr c) = f _ c.event refl c.chamber c.request c.there c.answer

    no_receive : (n x : ℕ) (ch : Chamber) → (lock n).controllers x ≡ some ch → ((o : LockEvent) → AtLock plan s ls n o → Spares plan s ls n x o)
        → (p : ℕ) (b : List ℕ) → AtKernel plan s ls n (outside (receive x p)) → packet (world plan s ls n) p ≡ some b → ⊥
    no_receive n x ch e f p b h g = go (receive-from plan s ls n x p h)
      where
        go : AtLock plan s ls n (kernel (outside (receive x p))) ⊎ AtLock plan s ls n (hear x p) → ⊥
        go (inl k) = pr.own-receive n x p ch k e
        go (inr k) = f _ k refl ch b e g

    -- the event of an issue of x
    own-event : (n x : ℕ) (k : Command) (i : IssuedBy x n k) → AtKernel plan s ls n (outside (issue x i.0.op i.0.point i.0.argument))
    own-event n x k i = subst (λ (z : ℕ). AtKernel plan s ls n (outside (issue z i.0.op i.0.point i.0.argument))) (issuer plan es n k i.0 ∙ i.1) i.0.event

    held_same : (n x : ℕ) (ch : Chamber) → Held n x ch → (lock n).controllers x ≡ some ch → ((o : LockEvent) → AtLock plan s ls n o → Spares plan s ls n x o) → Held (suc n) x ch
    held_same n x ch h e f =
        held_on n x ch ch h (λ k i. no_issue n x ch e f _ _ _ (own-event n x k i)) (unchanged (becomes plan es n x)) refl refl refl refl (λ i g. seen_on (h.reads i g))
        (λ k _ o. inr o)
      where
        unchanged : {o : Option Client} → Becomes plan es n x o → o ≡ some ch.client
        unchanged still = h.client
        unchanged (begun p b k g r q) =
            let z : (world plan s ls n).clients x ≡ none = subst (λ (y : ℕ). (world plan s ls n).clients y ≡ none) q (pr.kernels.started-once n p k b g r) in
            let y : some ch.client ≡ none = sym h.client ∙ z in impossible cc
        unchanged (asked op p a d k g) = absurd (no_issue n x ch e f op p a k)
        unchanged (heard p d b k g q) = absurd (no_receive n x ch e f p b k q)

    held_born : (n x : ℕ) (b : Begins plan s ls n x) → Held (suc n) x (start_in b.bytes s).chamber
    unfolding new_chamber read_at
    held_born n x b =
        let t = started s b.bytes b.answer in
        let e = begins-event plan s ls n x b in
        let f = start-fresh b.bytes t.1 in
        subst (Held (suc n) x) (sym t.2)
        (record {
          client =
              subst (λ (z : ℕ). (world plan s ls (suc n)).clients z ≡ some (start_of b.bytes).client) (begins-client plan s ls n x b)
              (start-after plan es n b.number b.bytes e.0 e.1 t.1);
          points = refl;
          places = f.0;
          numbered = omega (arith, f.1);
          reads = λ i g. let u : (get_or (replicate 5 no_read) i no_read).call ≡ 0 = ap (λ (z : LatestRead). z.call) (unread 5 i) in absurd (omega arith);
          moves = λ j k h i g. let u = after-begin n x j k b i in absurd (omega arith);
          done = λ j k h i. let u = after-begin n x j k b i in absurd (omega arith);
        })

    module _ (n x op p a : ℕ) (c : Commands plan s ls n x op p a) (h : Held n x c.chamber) where
      abbrev client : Client
      client = c.chamber.client

      tests : Passed c.chamber op p a c.request
      tests = passed c.chamber op p a c.request c.answer

      below : (j : ℕ) (k : Command) → j < n → IssuedBy x j k → k.call < client.next
      below j k l i = issued-below plan es pr.kernels j n k client i.0 l (ap (world plan s ls n).clients i.1 ∙ h.client)

      -- when a command of a controller is issued, those before it are completed
      pub none_open : (j : ℕ) (k : Command) → j < n → IssuedBy x j k → Done n k
      none_open j k l i = go (h.done j k l i)
        where
          go : Done n k ⊎ OpenIn client.calls k → Done n k
          go (inl f) = f
          go (inr f) =
              let u = open_from client k.call (record { from = f.0; at = unfold call_at in (ap (λ (z : OpenCall). z.call) f.1) }) in
              let v = below j k l i in
              let w = tests.free in
              absurd (omega arith)

      asks-event : AtKernel plan s ls n (outside (issue x op p a))
      unfolding lock_event issue_call unless_not_sent
      asks-event = rw (c.there, c.answer) at (kernel-event plan s ls n (command x op p a) c.event)

      -- what it issues
      only_this : (k : Command) → IssuedBy x n k → k ≡ command_of client op p a
      only_this k i =
          issue-one plan es n k _ i.0
          (record {
            client = x;
            op = op;
            point = p;
            argument = a;
            event = asks-event;
            state = client;
            started = h.client;
            asked = c.request;
            answer = tests.as_client;
            its = ap (λ (z : Command). z ∷ []) (issue-command client op p a c.request tests.as_client);
          })

      asked_moves : (j : ℕ) (k : Command) → IssuedBy x j k → (k.op ≡ read_op → ⊥) → (j < n) ⊎ (j ≡ n) → k.call ≤ pick (eqb op read_op) c.chamber.moved client.next
      asked_moves j k i o (inl l) = let b = below j k l i in choose (λ (z : ℕ). k.call ≤ z) (eqb op read_op) (λ _. h.moves j k l i o) (λ _. omega arith)
      asked_moves j k i o (inr l) =
          let e = only_this k (subst (λ (z : ℕ). IssuedBy x z k) l i) in
          let f : k.op ≡ op = ap (λ (z : Command). z.op) e in
          let g : k.call ≡ client.next = ap (λ (z : Command). z.call) e in
          rw (ne_eqb op read_op (λ q. o (f ∙ q))) (omega arith)

      asked-done : (j : ℕ) (k : Command) → IssuedBy x j k → (j < n) ⊎ (j ≡ n) → Done (suc n) k ⊎ OpenIn (asking client op p a).calls k
      unfolding with_call with_calls new_call
      asked-done j k i (inl l) = inl (done_on (none_open j k l i))
      asked-done j k i (inr l) =
          let e = only_this k (subst (λ (z : ℕ). IssuedBy x z k) l i) in
          let inside : place_of client.next < length client.calls = unfold place_of in (omega (arith, h.places)) in
          inr (subst (OpenIn (asking client op p a).calls) (sym e) (h.numbered, get_or-set_same client.calls (place_of client.next) (new_call client op p a) no_call inside))

      held-asked : Held (suc n) x (issue_in c.chamber op p a).chamber
      unfolding with_call with_calls new_call read_at
      held-asked =
          subst (Held (suc n) x) (sym tests.leaves)
          (record {
            client = issue-after plan es n x op p a client asks-event h.client ∙ ap some (issue-asked client op p a c.request tests.as_client).after;
            points = h.points;
            places = length-set client.calls (place_of client.next) (new_call client op p a) ∙ h.places;
            numbered = omega arith;
            reads = λ r g. seen_on (h.reads r g);
            moves = λ j k l i o. asked_moves j k i o (last_or j n l);
            done = λ j k l i. asked-done j k i (last_or j n l);
          })

    module _ (n x j : ℕ) (b : List ℕ) (ch : Chamber) (at : AtLock plan s ls n (hear x j)) (there : (lock n).controllers x ≡ some ch) (given : packet (world plan s ls n) j ≡ some b)
        (h : Held n x ch) where
      hear-event : AtKernel plan s ls n (outside (receive x j))
      unfolding lock_event if_there
      hear-event = rw there at (kernel-event plan s ls n (hear x j) at)

      no_command : (k : Command) → IssuedBy x n k → ⊥
      no_command k i = let e = at_once plan es n _ _ hear-event i.0.event in impossible cc

      heard-client : (world plan s ls (suc n)).clients x ≡ some (receive_of ch.client b).client
      heard-client = receive-after plan es n x j ch.client b hear-event h.client given

      held_kept : (lease : ℕ) → (receive_of ch.client b).client ≡ with_lease ch.client lease → ((r : ResultPacket) → (receive_of ch.client b).answer ≡ Ok (Completed r) → ⊥)
          → Held (suc n) x (receive_in ch b).chamber
      unfolding with_lease read_at
      held_kept lease e f =
          subst (Held (suc n) x) (sym (heard-same ch b lease e f))
          (held_on n x ch _ h no_command (heard-client ∙ ap some e) refl refl refl refl (λ i g. seen_on (h.reads i g)) (λ k _ o. inr o))

      module _ (r : ResultPacket) (own : Own ch.client r.client r.call r.point)
          (e : receive_of ch.client b ≡ record { client = closed ch.client r.call; answer = Ok (Completed r) }) where
        -- the call that the result ends is completed
        ends : Completes es n (command_at ch.client r.call ∷ []) (one (result_meant r.result))
        ends =
            record {
              client = x;
              number = j;
              event = hear-event;
              state = ch.client;
              started = h.client;
              bytes = b;
              delivered = given;
              received = r;
              answer = ap (λ (z : ReceiveAnswer). z.answer) e;
              its = refl;
              result = refl;
            }

        number_is_lem : ch.client.client ≡ x
        number_is_lem = own-number plan es n x ch.client h.client

        ended-reads : (i : ℕ) → 1 ≤ (get_or (reads_with ch r) i no_read).call → Seen (suc n) x i (get_or (reads_with ch r) i no_read)
        unfolding reads_with read_at command_at read_by
        ended-reads i =
            choose (λ (l : List LatestRead). 1 ≤ (get_or l i no_read).call → Seen (suc n) x i (get_or l i no_read)) (eqb (call_at ch.client r.call).op read_op)
            (λ t. stored t (set_either ch.reads (role_in ch.points r.point) (read_by r) i no_read)) (λ t g. seen_on (h.reads i g))
          where
            stored : eqb (call_at ch.client r.call).op read_op ≡ true
                → ((i ≡ role_in ch.points r.point) × (get_or (set ch.reads (role_in ch.points r.point) (read_by r)) i no_read ≡ read_by r))
                ⊎ (get_or (set ch.reads (role_in ch.points r.point) (read_by r)) i no_read ≡ get_or ch.reads i no_read)
                → 1 ≤ (get_or (set ch.reads (role_in ch.points r.point) (read_by r)) i no_read).call
                → Seen (suc n) x i (get_or (set ch.reads (role_in ch.points r.point) (read_by r)) i no_read)
            stored t (inr q) = rw q (λ g. seen_on (h.reads i g))
            stored t (inl q) =
                λ g.
                rw q.1 (
                  record {
                    read = command_at ch.client r.call;
                    by = number_is_lem;
                    number = own.open_call_lem.at;
                    op = eqb-true _ _ t;
                    role = rw (own.point-is, ← h.points) (sym q.0);
                    at = n;
                    result = r.result;
                    value = refl;
                    completes = ends;
                  },
                  omega arith,
                )

        ended-calls : (k : Command) → k.client ≡ x → OpenIn ch.client.calls k → Done (suc n) k ⊎ OpenIn (closed ch.client r.call).calls k
        unfolding closed with_calls call_at command_at
        ended-calls k c o = go (eqb k.call r.call) refl
          where
            go : (u : Bool) → eqb k.call r.call ≡ u → Done (suc n) k ⊎ OpenIn (set ch.client.calls (place_of r.call) no_call) k
            go true t =
                let q : k.call ≡ r.call = eqb-true _ _ t in
                let f : call_at ch.client r.call ≡ call_of k = ap (call_at ch.client) (sym q) ∙ o.1 in
                let g : command_at ch.client r.call ≡ k = rw (f, number_is_lem ∙ sym c) refl in
                let done : Completes es n (k ∷ []) (one (result_meant r.result)) = subst (λ (z : Command). Completes es n (z ∷ []) (one (result_meant r.result))) g ends in
                inl (record { at = n; soon = omega arith; result = one (result_meant r.result); completes = done })
            go false t =
                inr (o.0, get_or-set_other ch.client.calls (place_of r.call) (place_of k.call) no_call no_call apart ∙ o.1)
              where
                apart : place_of k.call ≡ place_of r.call → ⊥
                apart q =
                    let f : call_at ch.client r.call ≡ call_of k = ap (λ (i : ℕ). get_or ch.client.calls i no_call) (sym q) ∙ o.1 in
                    let g : (call_at ch.client r.call).call ≡ k.call = ap (λ (z : OpenCall). z.call) f in
                    eqb-false _ _ t (sym g ∙ own.open_call_lem.at)

        held-ended : Held (suc n) x (receive_in ch b).chamber
        unfolding closed with_calls read_at
        held-ended =
            subst (Held (suc n) x) (sym (ended_chamber ch b r e))
            (held_on n x ch _ h no_command (heard-client ∙ ap (λ (z : ReceiveAnswer). some z.client) e) refl refl (length-set ch.client.calls (place_of r.call) no_call) refl
            ended-reads ended-calls)

      held-heard : Held (suc n) x (receive_in ch b).chamber
      unfolding receive_of not_received with_lease
      held-heard = go (receive_case ch.client (parse_packet b))
        where
          go : ReceiveCase ch.client (parse_packet b) → Held (suc n) x (receive_in ch b).chamber
          go (ReceiveCase.refused m e) = held_kept ch.client.lease (rw e refl) (λ r. rw e (λ z. impossible cc))
          go (ReceiveCase.completed r p o e) = held-ended r o e
          go (ReceiveCase.denied q p o e) = held_kept ch.client.lease (rw e refl) (λ r. rw e (λ z. impossible cc))
          go (ReceiveCase.extended g p o l e) = held_kept g.lease (rw e refl) (λ r. rw e (λ z. impossible cc))

    pub held : (n x : ℕ) (ch : Chamber) → (lock n).controllers x ≡ some ch → Held n x ch
    unfolding site_after run_site empty_site no_lock
    held zero x ch e = impossible cc
    held (suc n) x ch e = go (λ c f. held n x c f) (lock_step plan s ls n x) e
      where
        go : ((c : Chamber) → (lock n).controllers x ≡ some c → Held n x c) → {o : Option Chamber} → LockStep plan s ls n x o → o ≡ some ch → Held (suc n) x ch
        go ih (same f) q = held_same n x ch (ih ch q) q f
        go ih (born b) q = let k : (start_in b.bytes s).chamber ≡ ch = cc in subst (Held (suc n) x) k (held_born n x b)
        go ih (commanding op p a c) q = let k : (issue_in c.chamber op p a).chamber ≡ ch = cc in subst (Held (suc n) x) k (held-asked n x op p a c (ih c.chamber c.there))
        go ih (hearing j b c f g t) q = let k : (receive_in c b).chamber ≡ ch = cc in subst (Held (suc n) x) k (held-heard n x j b c f g t (ih c g))

    -- ---- who started when

    stays : (n x : ℕ) (ch : Chamber) → (lock n).controllers x ≡ some ch → (c : Chamber) × ((lock (suc n)).controllers x ≡ some c)
    stays n x ch e = go (lock_step plan s ls n x)
      where
        go : {o : Option Chamber} → LockStep plan s ls n x o → (c : Chamber) × (o ≡ some c)
        go (same f) = (ch, e)
        go (born b) = (_, refl)
        go (commanding op p a c) = (_, refl)
        go (hearing j b c f g t) = (_, refl)

    -- from its start on a controller is there
    pub there_on : (n m x : ℕ) → Begins plan s ls n x → n < m → (c : Chamber) × ((lock m).controllers x ≡ some c)
    there_on n zero x b h = absurd (omega arith)
    there_on n (suc m) x b h = go (last_or n m h) (λ k. there_on n m x b k)
      where
        go : (n < m) ⊎ (n ≡ m) → (n < m → (c : Chamber) × ((lock m).controllers x ≡ some c)) → (c : Chamber) × ((lock (suc m)).controllers x ≡ some c)
        go (inl k) ih = let c = ih k in stays m x c.0 c.1
        go (inr k) ih = (_, subst (λ (z : ℕ). (lock (suc z)).controllers x ≡ some (start_in b.bytes s).chamber) k (begins-after plan s ls n x b).0)

    -- and it started
    pub begun-at : (n x : ℕ) (ch : Chamber) → (lock n).controllers x ≡ some ch → (m : ℕ) × (m < n) × Begins plan s ls m x
    unfolding site_after run_site empty_site no_lock
    begun-at zero x ch e = impossible cc
    begun-at (suc n) x ch e = go (λ c f. begun-at n x c f) (lock_step plan s ls n x) e
      where
        more : (m : ℕ) × (m < n) × Begins plan s ls m x → (m : ℕ) × (m < suc n) × Begins plan s ls m x
        more b = (b.0, omega (arith, b.1), b.2)

        go : ((c : Chamber) → (lock n).controllers x ≡ some c → (m : ℕ) × (m < n) × Begins plan s ls m x) → {o : Option Chamber} → LockStep plan s ls n x o → o ≡ some ch
            → (m : ℕ) × (m < suc n) × Begins plan s ls m x
        go ih (same f) q = more (ih ch q)
        go ih (born b) q = (n, omega arith, b)
        go ih (commanding op p a c) q = more (ih c.chamber c.there)
        go ih (hearing j b c f g t) q = more (ih c g)
