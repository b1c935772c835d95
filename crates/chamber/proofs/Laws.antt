-- What the controller's calls have in common with its client's, and when its own refusal is given.
--     issue_exit          the exits of an issue, with what each was told
--     issue_as_client     an issue that is not refused is its client's, answer and client alike
--     resend_as_client, receive_as_client     always
--     issue-not-safe      20 just where the command is one that the lock takes, none is open, and it is an opening that the reads do not allow
--     start-refused       a refused start leaves no controller
--     receive-refused     a refusal leaves the controller as it was; of issue and resend chamber_claim says so (Commands: refused-same, again-same)
-- Assumes nothing.
use mathlib.Core.Path.{◌≡◌, refl, sym, ap, ◌∙◌}
use mathlib.Core.Bool.{Bool, true, false, ◌&&◌, not}
use mathlib.Core.List.{List}
use mathlib.Core.Logic.{◌↔◌}
use Prim.Native.Nat.{ℕ, ◌+◌}
use native.Mathlib.Omega.{arith}
use lib.Dec.{ltb, leb}
use borrow.Author.Tests.{not-true}
use Rattle.model_laws.proofs.Tests.{and_left, and_right}
use Rattle.model_laws.proofs.Clients.{ReceiveCase, receive_case, issue-asked}
use Rattle.model.specs.declared.Client.{Client}
use Rattle.model.specs.declared.Request.{Request}
use Rattle.std.proofs.Common.{Result, Ok, Err}
use Rattle.model.specs.declared.Refusal.{Refusal}
use Rattle.model.specs.declared.Refusal.TheVariants.{Malformed, WindowFull}
use Rattle.model.specs.declared.Refusal.TheVariants as refusal
use Rattle.model.specs.Limits.{call_window, last32}
use Rattle.model.specs.Packets.{command_ok, parse_packet}
use Rattle.model.specs.Clients.{first_open, not_sent, sent, start_of, issue_of, resend_of, not_received, receive_of, send_number}
use Rattle.chamber_claim.specs.declared.LockPoints.{LockPoints}
use Rattle.chamber_claim.specs.declared.Chamber.{Chamber}
use Rattle.chamber_claim.specs.Chamber.{role_in, op_ok, is_opening, may_open, points_ok, reads_by}
use Rattle.chamber_claim.proofs.Commands.{passed}
use Rattle.chamber_claim.specs.Chamber.{no_chamber, not_started_in, started_in, start_in, not_sent_in, sent_in, issue_in, resend_in, receive_in}

-- the command is one that the lock takes: test 1
unfoldable pub takes : Chamber → ℕ → ℕ → ℕ → Bool
takes ch op point a = command_ok op point a && op_ok (role_in ch.points point) op

-- a command is open: test 15
unfoldable pub is_busy : Chamber → Bool
is_busy ch = ltb (first_open ch.client) ch.client.next

-- ---- the exits of an issue

pub data IssueExit (ch : Chamber) (op point a : ℕ) : Type 0 where
  untaken : takes ch op point a ≡ false → issue_in ch op point a ≡ not_sent_in ch Malformed → IssueExit ch op point a
  busy : takes ch op point a ≡ true → is_busy ch ≡ true → issue_in ch op point a ≡ not_sent_in ch WindowFull → IssueExit ch op point a
  unsafe : takes ch op point a ≡ true → is_busy ch ≡ false → (is_opening op a && not (may_open ch (role_in ch.points point))) ≡ true
      → issue_in ch op point a ≡ not_sent_in ch refusal.NotSafe → IssueExit ch op point a
  allowed : takes ch op point a ≡ true → is_busy ch ≡ false → (is_opening op a && not (may_open ch (role_in ch.points point))) ≡ false
      → issue_in ch op point a ≡ sent_in ch op (issue_of ch.client op point a) → IssueExit ch op point a

pub issue_exit : (ch : Chamber) (op point a : ℕ) → IssueExit ch op point a
unfolding issue_in takes is_busy
issue_exit ch op point a = go (takes ch op point a) (is_busy ch) (is_opening op a && not (may_open ch (role_in ch.points point))) refl refl refl
  where
    go : (u v w : Bool) → takes ch op point a ≡ u → is_busy ch ≡ v → (is_opening op a && not (may_open ch (role_in ch.points point))) ≡ w → IssueExit ch op point a
    go false v w p q r = untaken p (rw p refl)
    go true true w p q r = busy p q (rw (p, q) refl)
    go true false true p q r = unsafe p q r (rw (p, q, r) refl)
    go true false false p q r = allowed p q r (rw (p, q, r) refl)

-- ---- as the client

pub issue_as_client : (ch : Chamber) (op point a : ℕ) {q : Request} → (issue_in ch op point a).answer ≡ Ok q
    → ((issue_in ch op point a).answer ≡ (issue_of ch.client op point a).answer)
    × ((issue_in ch op point a).chamber.client ≡ (issue_of ch.client op point a).client)
issue_as_client ch op point a {q} e =
    let k = passed ch op point a q e in
    (e ∙ sym k.as_client, ap (λ (c : Chamber). c.client) k.leaves ∙ sym (issue-asked ch.client op point a q k.as_client).after)

pub resend_as_client : (ch : Chamber) (c : ℕ)
    → ((resend_in ch c).answer ≡ (resend_of ch.client c).answer) × ((resend_in ch c).chamber.client ≡ (resend_of ch.client c).client)
unfolding resend_in
resend_as_client ch c = (refl, refl)

pub receive_as_client : (ch : Chamber) (packet : List ℕ)
    → ((receive_in ch packet).answer ≡ (receive_of ch.client packet).answer) × ((receive_in ch packet).chamber.client ≡ (receive_of ch.client packet).client)
unfolding receive_in
receive_as_client ch packet = (refl, refl)

-- ---- 20

-- tests 1 and 15 are passed, the command is an opening, and the reads do not allow it
pub record NotSafe (ch : Chamber) (op point a : ℕ) : Type 0 where
  pub taken : takes ch op point a ≡ true
  pub free : is_busy ch ≡ false
  pub opening : is_opening op a ≡ true
  pub not-clear : may_open ch (role_in ch.points point) ≡ false

-- the client does not give 20
client-not : (d : Client) (op point a : ℕ) → (issue_of d op point a).answer ≡ Err refusal.NotSafe → ⊥
unfolding issue_of not_sent sent send_number
client-not d op point a e = go (command_ok op point a) (leb (first_open d + call_window) d.next) (leb last32 d.next) refl refl refl
  where
    go : (u v w : Bool) → command_ok op point a ≡ u → leb (first_open d + call_window) d.next ≡ v → leb last32 d.next ≡ w → ⊥
    go false v w p q r = let z = ap send_number (rw p at e) in omega arith
    go true true w p q r = let z = ap send_number (rw (p, q) at e) in omega arith
    go true false true p q r = let z = ap send_number (rw (p, q, r) at e) in omega arith
    go true false false p q r = let z = ap send_number (rw (p, q, r) at e) in omega arith

module _ (ch : Chamber) (op point a : ℕ) where
  not-safe_when : (issue_in ch op point a).answer ≡ Err refusal.NotSafe → NotSafe ch op point a
  unfolding not_sent_in sent_in send_number
  not-safe_when e = elim (issue_exit ch op point a) [
    | untaken p is ↦ let z = ap send_number (rw is at e) in absurd (omega arith)
    | busy p q is ↦ let z = ap send_number (rw is at e) in absurd (omega arith)
    | unsafe p q r is ↦ record {
      taken = p;
      free = q;
      opening = and_left (is_opening op a) _ r;
      not-clear = not-true _ (and_right (is_opening op a) _ r);
    }
    | allowed p q r is ↦ absurd (client-not ch.client op point a (rw is at e))
  ]

  not-safe-then : NotSafe ch op point a → (issue_in ch op point a).answer ≡ Err refusal.NotSafe
  unfolding issue_in takes is_busy not_sent_in
  not-safe-then h = rw (h.taken, h.free, h.opening, h.not-clear) refl

  pub issue-not-safe : ((issue_in ch op point a).answer ≡ Err refusal.NotSafe) ↔ NotSafe ch op point a
  issue-not-safe = (not-safe_when, not-safe-then)

-- ---- a refusal leaves the controller as it was

pub start-refused : (packet : List ℕ) (s : LockPoints) {e : Refusal} → (start_in packet s).answer ≡ Err e → (start_in packet s).chamber ≡ no_chamber
unfolding start_in started_in not_started_in
start-refused packet s e = go (points_ok s) (start_of packet).answer refl refl
  where
    go : (u : Bool) (a : Result Unit Refusal) → points_ok s ≡ u → (start_of packet).answer ≡ a → (start_in packet s).chamber ≡ no_chamber
    go false a p q = rw p refl
    go true (Err m) p q = rw (p, q) refl
    go true (Ok tt) p q = let e' = rw (p, q) at e in let z : ◌≡◌ {A = ℕ} 0 1 = cc in absurd (omega arith)

pub receive-refused : (ch : Chamber) (packet : List ℕ) {e : Refusal} → (receive_in ch packet).answer ≡ Err e → (receive_in ch packet).chamber ≡ ch
unfolding receive_in receive_of reads_by not_received
receive-refused ch packet e = go (receive_case ch.client (parse_packet packet))
  where
    go : ReceiveCase ch.client (parse_packet packet) → (receive_in ch packet).chamber ≡ ch
    go (ReceiveCase.refused m is) = rw is refl
    go (ReceiveCase.completed r p own is) = let f = rw is at e in let z : ◌≡◌ {A = ℕ} 0 1 = cc in absurd (omega arith)
    go (ReceiveCase.denied r p own is) = let f = rw is at e in let z : ◌≡◌ {A = ℕ} 0 1 = cc in absurd (omega arith)
    go (ReceiveCase.extended g p own later is) = let f = rw is at e in let z : ◌≡◌ {A = ℕ} 0 1 = cc in absurd (omega arith)
