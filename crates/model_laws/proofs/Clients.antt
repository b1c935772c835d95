-- A client's open calls and the exits of its calls, whatever the client.
--     open_is, is_open_of, not_open    what it is for a call to be open
--     place_under                      a place is below 16
--     first_under, first-each, open_from        the first open call is at most next, and at most every open one
--     none_under                       no call under it is open
--     issue_case, resend_case, receive_case     the exits of each call, with what each was told
--     issue-asked, resend-asked        what an issue or a resend that is not refused does
--     issue-refused, resend-same       a refused issue and a resend leave the client
--     past-byte                        an issue whose op or point is past a byte is refused with 1
--     start-fresh                      a started client: 16 places, the next number 1
--     issue-command, issue-next        an issue that is not refused takes next and raises it by 1
--     issue-keeps, receive-next        a client keeps its number; next never falls, and only an issue raises it
-- Assumes nothing.
use mathlib.Core.Path.{◌≡◌, refl, sym, ◌∙◌, ap}
use mathlib.Core.Bool.{Bool, true, false, ◌&&◌, ◌||◌}
use mathlib.Core.List.{List}
use mathlib.Core.Option.{Option as Maybe, none, some}
use Prim.Native.Nat.{ℕ, suc, ◌+◌, ◌≤◌, ◌<◌}
use native.Mathlib.Omega.{arith}
use lib.Dec.{eqb, leb, ltb}
use lib.ListN.{length, get_or}
use borrow.Author.Tests.{leb-true, leb-false, eqb-true, le-leb, eq-eqb}
use Rattle.std.specs.Prelude.{Ok, Err, Option, Some, None}
use Rattle.model.specs.declared.Client.{Client}
use Rattle.model.specs.declared.Command.{Command}
use Rattle.model.specs.declared.Request.{Request}
use Rattle.model.specs.declared.Refusal.{Refusal}
use Rattle.model.specs.declared.Refusal.TheVariants.{WindowFull, NumbersOut, Unknown}
use Rattle.model.specs.declared.Refusal.TheVariants as refusals
use Rattle.model.specs.declared.ResultPacket.{ResultPacket}
use Rattle.model.specs.declared.RefusalPacket.{RefusalPacket}
use Rattle.model.specs.declared.Grant.{Grant}
use Rattle.model.specs.declared.Packet.{Packet}
use Rattle.model.specs.declared.Packet.TheVariants.{Requested, Resulted, Refused, Receipted, Noticed, Granted}
use Rattle.model.specs.declared.Received.TheVariants.{Completed, Denied, Extended}
use Rattle.model.specs.declared.SendAnswer.{SendAnswer}
use Rattle.model.specs.Choice.{or_else}
use Rattle.model.specs.Packets.{command_ok, parse_packet, as_grant}
use Rattle.model.specs.Clients.{no_call, place_of, call_at, is_open, first_open, with_calls, with_lease, closed, request_for, not_started, started, start_with, start_of}
use Rattle.model.specs.Clients.{new_call, with_call, not_sent, sent, issue_of, resend_of, is_own, not_received, receive_result, receive_refusal, receive_grant, receive_with}
use Rattle.model.specs.Limits.{last32, call_window}
use Rattle.model_laws.proofs.Tests.{and_left, and_right, and_both, impossible}
use Rattle.model_laws.proofs.Commands.{command-past}
use Rattle.model_laws.proofs.Least.{least_under, least-each}

-- ---- what it is to be open

pub record Open (d : Client) (c : ℕ) : Type 0 where
  pub from : 1 ≤ c
  pub at : (call_at d c).call ≡ c

pub open_is : (d : Client) (c : ℕ) → is_open d c ≡ true → Open d c
unfolding is_open
open_is d c e = record { from = leb-true 1 c (and_left (leb 1 c) _ e); at = eqb-true _ _ (and_right (leb 1 c) _ e) }

pub is_open_of : (d : Client) (c : ℕ) → Open d c → is_open d c ≡ true
unfolding is_open
is_open_of d c o = and_both (leb 1 c) _ (le-leb 1 c o.from) (eq-eqb _ _ o.at)

-- a test that is not true
pub not_open : (d : Client) (c : ℕ) → (Open d c → ⊥) → is_open d c ≡ false
not_open d c f = go (is_open d c) refl
  where
    go : (b : Bool) → is_open d c ≡ b → is_open d c ≡ false
    go true e = absurd (f (open_is d c e))
    go false e = e

pub place_under : (c : ℕ) → place_of c < call_window
unfolding place_of
place_under c = omega arith

-- ---- the first open call

pub first_under : (d : Client) → first_open d ≤ d.next
unfolding first_open
first_under d = least_under d.next d.calls

pub first-each : (d : Client) (i : ℕ) → 1 ≤ (get_or d.calls i no_call).call → first_open d ≤ (get_or d.calls i no_call).call
unfolding first_open
first-each d i p = least-each d.next d.calls i p

pub open_from : (d : Client) (c : ℕ) → Open d c → first_open d ≤ c
unfolding call_at
open_from d c o = let f = o.at in let h = first-each d (place_of c) (omega (arith, o.from)) in omega arith

pub none_under : (d : Client) (c : ℕ) → c < first_open d → is_open d c ≡ false
none_under d c h = not_open d c (λ o. let k = open_from d c o in omega arith)

-- ---- the exits

-- a client after an issue that is not refused, and the command that it asks for
abbrev pub asking : Client → ℕ → ℕ → ℕ → Client
asking d op point a = with_call d (new_call d op point a)

abbrev pub command_of : Client → ℕ → ℕ → ℕ → Command
command_of d op point a = record { client = d.client; call = d.next; op = op; point = point; argument = a }

pub data IssueCase (d : Client) (op point a : ℕ) : Type 0 where
  refused : (r : Refusal) → issue_of d op point a ≡ not_sent d r → IssueCase d op point a
  issued : command_ok op point a ≡ true → d.next < first_open d + call_window → d.next < last32
      → issue_of d op point a ≡ sent (asking d op point a) (new_call d op point a)
      → IssueCase d op point a

pub issue_case : (d : Client) (op point a : ℕ) → IssueCase d op point a
unfolding issue_of
issue_case d op point a = go (command_ok op point a) (leb (first_open d + call_window) d.next) (leb last32 d.next) refl refl refl
  where
    go : (u v w : Bool) → command_ok op point a ≡ u → leb (first_open d + call_window) d.next ≡ v → leb last32 d.next ≡ w → IssueCase d op point a
    go false v w p q r = refused refusals.Malformed (rw p refl)
    go true true w p q r = refused WindowFull (rw (p, q) refl)
    go true false true p q r = refused NumbersOut (rw (p, q, r) refl)
    go true false false p q r = issued p (leb-false _ _ q) (leb-false _ _ r) (rw (p, q, r) refl)

pub data ResendCase (d : Client) (c : ℕ) : Type 0 where
  refused : resend_of d c ≡ not_sent d Unknown → ResendCase d c
  resent : Open d c → resend_of d c ≡ sent d (call_at d c) → ResendCase d c

pub resend_case : (d : Client) (c : ℕ) → ResendCase d c
unfolding resend_of
resend_case d c = go (is_open d c) refl
  where
    go : (u : Bool) → is_open d c ≡ u → ResendCase d c
    go true e = resent (open_is d c e) (rw e refl)
    go false e = refused (rw e refl)

-- a packet of this client, and of an open call on its point
pub record Own (d : Client) (client call point : ℕ) : Type 0 where
  pub client-is : client ≡ d.client
  pub open_call_lem : Open d call
  pub point-is : (call_at d call).point ≡ point

own_is : (d : Client) (client call point : ℕ) → is_own d client call point ≡ true → Own d client call point
unfolding is_own
own_is d client call point e =
    let r = and_right (eqb client d.client) _ e in
    record { client-is = eqb-true _ _ (and_left (eqb client d.client) _ e); open_call_lem = open_is d call (and_left (is_open d call) _ r); point-is = eqb-true _ _ (and_right (is_open d call) _ r) }

pub data ReceiveCase (d : Client) (p : Option Packet) : Type 0 where
  refused : (r : Refusal) → receive_with d p ≡ not_received d r → ReceiveCase d p
  completed : (r : ResultPacket) → p ≡ Some (Resulted r) → Own d r.client r.call r.point
      → receive_with d p ≡ record { client = closed d r.call; answer = Ok (Completed r) } → ReceiveCase d p
  denied : (r : RefusalPacket) → p ≡ Some (Refused r) → Own d r.client r.call r.point
      → receive_with d p ≡ record { client = d; answer = Ok (Denied r) } → ReceiveCase d p
  extended : (g : Grant) → p ≡ Some (Granted g) → g.client ≡ d.client → d.lease ≤ g.lease
      → receive_with d p ≡ record { client = with_lease d g.lease; answer = Ok (Extended g) } → ReceiveCase d p

pub receive_case : (d : Client) (p : Option Packet) → ReceiveCase d p
unfolding receive_with receive_result receive_refusal receive_grant
receive_case d None = refused refusals.Malformed refl
receive_case d (Some (Requested q)) = refused refusals.Malformed refl
receive_case d (Some (Resulted r)) = go (is_own d r.client r.call r.point) refl
  where
    go : (u : Bool) → is_own d r.client r.call r.point ≡ u → ReceiveCase d (Some (Resulted r))
    go true e = completed r refl (own_is d _ _ _ e) (rw e refl)
    go false e = refused Unknown (rw e refl)
receive_case d (Some (Refused r)) = go (is_own d r.client r.call r.point) refl
  where
    go : (u : Bool) → is_own d r.client r.call r.point ≡ u → ReceiveCase d (Some (Refused r))
    go true e = denied r refl (own_is d _ _ _ e) (rw e refl)
    go false e = refused Unknown (rw e refl)
receive_case d (Some (Receipted r)) = refused refusals.Malformed refl
receive_case d (Some (Noticed n)) = refused refusals.Malformed refl
receive_case d (Some (Granted g)) = go (eqb g.client d.client && leb d.lease g.lease) refl
  where
    go : (u : Bool) → (eqb g.client d.client && leb d.lease g.lease) ≡ u → ReceiveCase d (Some (Granted g))
    go true e = extended g refl (eqb-true _ _ (and_left (eqb g.client d.client) _ e)) (leb-true _ _ (and_right (eqb g.client d.client) _ e)) (rw e refl)
    go false e = refused Unknown (rw e refl)

-- ---- refused or not

-- what an issue that is not refused does
pub record Issues (d : Client) (op point a : ℕ) (q : Request) : Type 0 where
  pub ok : command_ok op point a ≡ true
  pub room : d.next < first_open d + call_window
  pub left : d.next < last32
  pub after : (issue_of d op point a).client ≡ asking d op point a
  pub asks : q ≡ request_for (asking d op point a) (new_call d op point a)

-- what a resend that is not refused does
pub record Resends (d : Client) (c : ℕ) (q : Request) : Type 0 where
  pub open_call_lem : Open d c
  pub asks : q ≡ request_for d (call_at d c)

pub issue-asked : (d : Client) (op point a : ℕ) (q : Request) → (issue_of d op point a).answer ≡ Ok q → Issues d op point a q
unfolding not_sent sent
issue-asked d op point a q s = go (issue_case d op point a)
  where
    go : IssueCase d op point a → Issues d op point a q
    go (IssueCase.refused r e) = let f : Err r ≡ Ok q = ap (λ (x : SendAnswer). x.answer) (sym e) ∙ s in impossible cc
    go (IssueCase.issued ok room left e) =
        let f : Ok (request_for (asking d op point a) (new_call d op point a)) ≡ Ok q = ap (λ (x : SendAnswer). x.answer) (sym e) ∙ s in
        record { ok = ok; room = room; left = left; after = ap (λ (x : SendAnswer). x.client) e; asks = cc }

pub issue-refused : (d : Client) (op point a : ℕ) (r : Refusal) → (issue_of d op point a).answer ≡ Err r → (issue_of d op point a).client ≡ d
unfolding not_sent sent
issue-refused d op point a r s = go (issue_case d op point a)
  where
    go : IssueCase d op point a → (issue_of d op point a).client ≡ d
    go (IssueCase.refused k e) = ap (λ (x : SendAnswer). x.client) e
    go (IssueCase.issued ok room left e) =
        let f : Ok (request_for (asking d op point a) (new_call d op point a)) ≡ Err r = ap (λ (x : SendAnswer). x.answer) (sym e) ∙ s in
        impossible cc

pub resend-asked : (d : Client) (c : ℕ) (q : Request) → (resend_of d c).answer ≡ Ok q → Resends d c q
unfolding not_sent sent
resend-asked d c q s = go (resend_case d c)
  where
    go : ResendCase d c → Resends d c q
    go (ResendCase.refused e) = let f : Err Unknown ≡ Ok q = ap (λ (x : SendAnswer). x.answer) (sym e) ∙ s in impossible cc
    go (ResendCase.resent o e) = let f : Ok (request_for d (call_at d c)) ≡ Ok q = ap (λ (x : SendAnswer). x.answer) (sym e) ∙ s in record { open_call_lem = o; asks = cc }

pub resend-same : (d : Client) (c : ℕ) → (resend_of d c).client ≡ d
unfolding not_sent sent
resend-same d c = go (resend_case d c)
  where
    go : ResendCase d c → (resend_of d c).client ≡ d
    go (ResendCase.refused e) = ap (λ (x : SendAnswer). x.client) e
    go (ResendCase.resent o e) = ap (λ (x : SendAnswer). x.client) e

-- ---- numbers

pub start-fresh : (b : List ℕ) → (start_of b).answer ≡ Ok tt → (length (start_of b).client.calls ≡ call_window) × ((start_of b).client.next ≡ 1)
unfolding start_of start_with
start-fresh b = go (as_grant (parse_packet b))
  where
    go : (g : Maybe Grant) → (or_else g not_started started).answer ≡ Ok tt → (length (or_else g not_started started).client.calls ≡ call_window) × ((or_else g not_started started).client.next ≡ 1)
    go none e = impossible cc
    go (some g) e = (refl, refl)

-- call numbers rise: an issue that is not refused takes next, and the next one is 1 more; nothing else changes it
pub issue-command : (d : Client) (op point a : ℕ) (q : Request) → (issue_of d op point a).answer ≡ Ok q → q.command ≡ command_of d op point a
unfolding request_for new_call with_call with_calls
issue-command d op point a q s = ap (λ (x : Request). x.command) (issue-asked d op point a q s).asks

pub issue-next : (d : Client) (op point a : ℕ) (q : Request) → (issue_of d op point a).answer ≡ Ok q → (q.command.call ≡ d.next) × ((issue_of d op point a).client.next ≡ suc d.next)
unfolding with_call with_calls
issue-next d op point a q s = (ap (λ (x : Command). x.call) (issue-command d op point a q s), ap (λ (x : Client). x.next) (issue-asked d op point a q s).after)

pub issue-keeps : (d : Client) (op point a : ℕ) → (d.next ≤ (issue_of d op point a).client.next) × ((issue_of d op point a).client.client ≡ d.client)
unfolding not_sent sent with_call with_calls
issue-keeps d op point a = go (issue_case d op point a)
  where
    go : IssueCase d op point a → (d.next ≤ (issue_of d op point a).client.next) × ((issue_of d op point a).client.client ≡ d.client)
    go (IssueCase.refused r e) = rw e (omega arith, refl)
    go (IssueCase.issued ok room left e) = rw e (omega arith, refl)

pub receive-next : (d : Client) (p : Option Packet) → ((receive_with d p).client.next ≡ d.next) × ((receive_with d p).client.client ≡ d.client)
unfolding not_received closed with_calls with_lease
receive-next d p = go (receive_case d p)
  where
    go : ReceiveCase d p → ((receive_with d p).client.next ≡ d.next) × ((receive_with d p).client.client ≡ d.client)
    go (ReceiveCase.refused k e) = rw e (refl, refl)
    go (ReceiveCase.completed r q o e) = rw e (refl, refl)
    go (ReceiveCase.denied r q o e) = rw e (refl, refl)
    go (ReceiveCase.extended g q o l e) = rw e (refl, refl)

pub past-byte : (d : Client) (op point a : ℕ) → (ltb 255 op || ltb 255 point) ≡ true → record { client = d; answer = Err refusals.Malformed } ≡ issue_of d op point a
unfolding issue_of not_sent
past-byte d op point a e = rw (command-past op point a e) refl
