-- What a start and a command of a controller passed, and what they leave.
--     started                     a start that is not refused
--     gates_differ                the gates are two points
--     closed-seen                 an opening saw the other gate closed, since the last set or part
--     passed, refused-same        a command that is issued, or refused
--     again-same, heard-same, ended_chamber    the controller after a resend and a receive
-- Assumes nothing.
use Prim.Native.Nat.{ℕ, ◌<◌, ◌≤◌}
use mathlib.Core.Path.{◌≡◌, refl, sym, ◌∙◌, ap}
use mathlib.Core.Bool.{Bool, true, false, ◌&&◌, ◌||◌, not}
use mathlib.Core.List.{List, [], ◌∷◌}
use native.Mathlib.Omega.{arith}
use lib.Dec.{eqb, leb, ltb}
use borrow.Author.Tests.{eqb-true, eqb-false, eq-eqb, ne_eqb, ltb-true, ltb-false, not-true, not-false}
use Rattle.std.specs.Prelude.{Result, Ok, Err}
use Rattle.model.specs.declared.Refusal.{Refusal}
use Rattle.model.specs.declared.Refusal.TheVariants.{Malformed, WindowFull, NotSafe}
use Rattle.model.specs.declared.Request.{Request}
use Rattle.model.specs.declared.ResultPacket.{ResultPacket}
use Rattle.model.specs.declared.Received.{Received}
use Rattle.model.specs.declared.Received.TheVariants.{Completed, Denied, Extended}
use Rattle.model.specs.Choice.{pick}
use Rattle.model.specs.Numbers.{half}
use Rattle.model.specs.Limits.{read_op, set_op, part_op}
use Rattle.model.specs.Packets.{command_ok}
use Rattle.model.specs.Tables.{every}
use Rattle.model.specs.Clients.{closed, first_open, start_of, issue_of, receive_of, with_lease}
use Rattle.model_laws.proofs.Tests.{and_left, and_right, choose, impossible}
use Rattle.model_laws.proofs.Clients.{asking, issue-asked, issue-command, issue-refused, resend-same}
use Rattle.chamber_claim.specs.declared.LockPoints.{LockPoints}
use Rattle.chamber_claim.specs.declared.LatestRead.{LatestRead}
use Rattle.chamber_claim.specs.declared.Chamber.{Chamber}
use Rattle.chamber_claim.specs.declared.ChamberSend.{ChamberSend}
use Rattle.chamber_claim.specs.Chamber.{upper_gate, lower_gate, lower_level, point_list, role_in, is_other, all_different, is_point, points_ok, op_ok, read_at, is_opening, valid_gate, closed_seen}
use Rattle.chamber_claim.specs.Chamber.{levels_seen, clear, may_open, new_chamber, not_started_in, started_in, start_in, not_sent_in, moved_by, sent_in, issue_in, resend_in, reads_with, reads_by}
use Rattle.chamber_claim.specs.Chamber.{receive_in}
use Rattle.chamber_claim.proofs.Orders.{GateOp}

-- ---- start

pub started : (s : LockPoints) (b : List ℕ) → (start_in b s).answer ≡ Ok tt
    → (points_ok s ≡ true) × ((start_of b).answer ≡ Ok tt) × ((start_in b s).chamber ≡ new_chamber s (start_of b).client)
unfolding start_in started_in not_started_in
started s b e = go (points_ok s) refl (start_of b).answer refl e
  where
    go : (u : Bool) → points_ok s ≡ u → (a : Result Unit Refusal) → (start_of b).answer ≡ a → (start_in b s).answer ≡ Ok tt
        → (points_ok s ≡ true) × ((start_of b).answer ≡ Ok tt) × ((start_in b s).chamber ≡ new_chamber s (start_of b).client)
    go false p a q r = let k : Err _ ≡ Ok tt = rw p at r in impossible cc
    go true p (Err n) q r = let k : Err n ≡ Ok tt = rw (p, q) at r in impossible cc
    go true p (Ok tt) q r = (p, q, rw (p, q) refl)

-- ---- the gates

-- a chain of roles: the first two
abbrev chain : Bool → Bool → Bool → Bool → Bool → ℕ
chain u v w x y = pick u 0 (pick v 1 (pick w 2 (pick x 3 (pick y 4 5))))

chain_upper : (u v w x y : Bool) → chain u v w x y ≡ 0 → u ≡ true
chain_upper true v w x y e = refl
chain_upper false true w x y e = absurd (omega arith)
chain_upper false false true x y e = absurd (omega arith)
chain_upper false false false true y e = absurd (omega arith)
chain_upper false false false false true e = absurd (omega arith)
chain_upper false false false false false e = absurd (omega arith)

chain_lower : (u v w x y : Bool) → chain u v w x y ≡ 1 → v ≡ true
chain_lower true v w x y e = absurd (omega arith)
chain_lower false true w x y e = refl
chain_lower false false true x y e = absurd (omega arith)
chain_lower false false false true y e = absurd (omega arith)
chain_lower false false false false true e = absurd (omega arith)
chain_lower false false false false false e = absurd (omega arith)

module _ (s : LockPoints) where
  -- a gate, and the other one
  pub data Gates : ℕ → ℕ → Type 0 where
    up : Gates s.upper s.lower
    down : Gates s.lower s.upper

  pub gates_differ : points_ok s ≡ true → s.upper ≡ s.lower → ⊥
  unfolding points_ok all_different every is_other
  gates_differ e q =
      let d = and_right (every is_point (point_list s)) (all_different (point_list s)) e in
      let f = and_left (every (is_other s.upper) (s.lower ∷ s.level1 ∷ s.level2 ∷ s.level3 ∷ [])) _ d in
      let g = and_left (not (eqb s.lower s.upper)) _ f in
      eqb-false s.lower s.upper (not-true _ g) (sym q)

  role_upper : role_in s s.upper ≡ upper_gate
  unfolding role_in
  role_upper = rw (eq-eqb s.upper s.upper refl)

  role_lower : points_ok s ≡ true → role_in s s.lower ≡ lower_gate
  unfolding role_in
  role_lower e = rw (ne_eqb s.lower s.upper (λ q. gates_differ e (sym q)), eq-eqb s.lower s.lower refl)

  upper_role : (p : ℕ) → role_in s p ≡ upper_gate → p ≡ s.upper
  unfolding role_in
  upper_role p e = eqb-true _ _ (chain_upper (eqb p s.upper) (eqb p s.lower) (eqb p s.level1) (eqb p s.level2) (eqb p s.level3) e)

  lower_role : (p : ℕ) → role_in s p ≡ lower_gate → p ≡ s.lower
  unfolding role_in
  lower_role p e = eqb-true _ _ (chain_lower (eqb p s.upper) (eqb p s.lower) (eqb p s.level1) (eqb p s.level2) (eqb p s.level3) e)

  -- the read that an opening of the gate g rests on
  pub record Closed (ch : Chamber) (g' : ℕ) : Type 0 where
    pub role : ℕ
    pub is : (p : ℕ) → role_in s p ≡ role → p ≡ g'
    pub fresh : ch.moved < (read_at ch role).call
    pub zero : (read_at ch role).value ≡ half

  closed_parts : (ch : Chamber) (g : LatestRead) → closed_seen ch g ≡ true → (ch.moved < g.call) × (g.value ≡ half)
  unfolding closed_seen
  closed_parts ch g e =
      let r = and_right (ltb ch.moved g.call) (eqb g.value half && valid_gate g.quality) e in
      (ltb-true _ _ (and_left (ltb ch.moved g.call) _ e), eqb-true _ _ (and_left (eqb g.value half) _ r))

  clear-closed : (ch : Chamber) (i a b : ℕ) → clear ch i a b ≡ true → closed_seen ch (read_at ch i) ≡ true
  unfolding clear
  clear-closed ch i a b e = and_left (closed_seen ch (read_at ch i)) (levels_seen (read_at ch i) (read_at ch a) (read_at ch b)) e

  pub closed-seen : (ch : Chamber) → points_ok s ≡ true → {g g' : ℕ} → Gates g g' → may_open ch (role_in s g) ≡ true → Closed ch g'
  unfolding may_open
  closed-seen ch ok up e =
      let c = closed_parts ch (read_at ch lower_gate) (clear-closed ch lower_gate _ _ (rw role_upper at e)) in
      record { role = lower_gate; is = lower_role; fresh = c.0; zero = c.1 }
  closed-seen ch ok down e =
      let c = closed_parts ch (read_at ch upper_gate) (clear-closed ch upper_gate _ _ (rw (role_lower ok) at e)) in
      record { role = upper_gate; is = upper_role; fresh = c.0; zero = c.1 }

-- ---- issue

gate_op : (i op : ℕ) → op_ok i op ≡ true → GateOp op
unfolding op_ok
gate_op i op e = go (leb i lower_gate) (leb i lower_level) (eqb op read_op) (eqb op set_op) (eqb op part_op) e
  where
    go : (a b u v w : Bool) → ((a && (u || (v || w))) || (b && u)) ≡ true → (u || (v || w)) ≡ true
    go a b true v w h = refl
    go a b false true w h = refl
    go a b false false true h = refl
    go true true false false false h = h
    go true false false false false h = h
    go false true false false false h = h
    go false false false false false h = h

-- a command that a controller issues
pub record Passed (ch : Chamber) (op p a : ℕ) (q : Request) : Type 0 where
  pub op-is : GateOp op
  pub free : ch.client.next ≤ first_open ch.client
  pub safe : is_opening op a ≡ true → may_open ch (role_in ch.points p) ≡ true
  pub as_client : (issue_of ch.client op p a).answer ≡ Ok q
  pub leaves : (issue_in ch op p a).chamber
      ≡ record { client = asking ch.client op p a; points = ch.points; moved = pick (eqb op read_op) ch.moved ch.client.next; reads = ch.reads }

unless_not : (i m : Bool) → (i && not m) ≡ false → i ≡ true → m ≡ true
unless_not true m e h = not-false m e
unless_not false m e h = impossible cc

module _ (ch : Chamber) (op p a : ℕ) where
  data IssueInCase : ChamberSend Refusal → Type 0 where
    refused : (r : Refusal) → IssueInCase (not_sent_in ch r)
    issued : op_ok (role_in ch.points p) op ≡ true → ch.client.next ≤ first_open ch.client → (is_opening op a ≡ true → may_open ch (role_in ch.points p) ≡ true)
        → IssueInCase (sent_in ch op (issue_of ch.client op p a))

  issue_in_case : IssueInCase (issue_in ch op p a)
  unfolding issue_in
  issue_in_case =
      choose IssueInCase _ (λ _. refused Malformed)
      (λ e. choose IssueInCase _ (λ _. refused WindowFull)
      (λ f. choose IssueInCase _ (λ _. refused NotSafe)
      (λ g. issued (and_right (command_ok op p a) (op_ok (role_in ch.points p) op) (not-false _ e)) (ltb-false _ _ f) (unless_not (is_opening op a) (may_open ch (role_in ch.points p)) g))))

  pub passed : (q : Request) → (issue_in ch op p a).answer ≡ Ok q → Passed ch op p a q
  unfolding not_sent_in sent_in moved_by
  passed q e = go issue_in_case refl
    where
      go : {z : ChamberSend Refusal} → IssueInCase z → z ≡ issue_in ch op p a → Passed ch op p a q
      go (refused r) f = let k : Err r ≡ Ok q = ap (λ (z : ChamberSend Refusal). z.answer) f ∙ e in impossible cc
      go (issued o l y) f =
          let k : (issue_of ch.client op p a).answer ≡ Ok q = ap (λ (z : ChamberSend Refusal). z.answer) f ∙ e in
          let s = (issue-asked ch.client op p a q k).after in
          let i = issue-command ch.client op p a q k in
          record { op-is = gate_op _ op o; free = l; safe = y; as_client = k; leaves = ap (λ (z : ChamberSend Refusal). z.chamber) (sym f) ∙ rw (k, s, i) refl }

  -- a refusal leaves the controller
  pub refused-same : (r : Refusal) → (issue_in ch op p a).answer ≡ Err r → (issue_in ch op p a).chamber ≡ ch
  unfolding not_sent_in sent_in moved_by
  refused-same r = go issue_in_case
    where
      go : {z : ChamberSend Refusal} → IssueInCase z → z.answer ≡ Err r → z.chamber ≡ ch
      go (refused m) e = refl
      go (issued o l y) e = rw (e, issue-refused ch.client op p a r e) refl

-- ---- resend and receive

pub again-same : (ch : Chamber) (c : ℕ) → (resend_in ch c).chamber ≡ ch
unfolding resend_in
again-same ch c = rw (resend-same ch.client c) refl

reads_same : (ch : Chamber) (a : Result Received Refusal) → ((r : ResultPacket) → a ≡ Ok (Completed r) → ⊥) → reads_by ch a ≡ ch.reads
unfolding reads_by
reads_same ch (Err n) f = refl
reads_same ch (Ok (Completed r)) f = absurd (f r refl)
reads_same ch (Ok (Denied r)) f = refl
reads_same ch (Ok (Extended g)) f = refl

pub heard-same : (ch : Chamber) (b : List ℕ) (lease : ℕ) → (receive_of ch.client b).client ≡ with_lease ch.client lease → ((r : ResultPacket) → (receive_of ch.client b).answer ≡ Ok (Completed r) → ⊥)
    → (receive_in ch b).chamber ≡ record { client = with_lease ch.client lease; points = ch.points; moved = ch.moved; reads = ch.reads }
unfolding receive_in
heard-same ch b lease e f = rw (e, reads_same ch (receive_of ch.client b).answer f) refl

pub ended_chamber : (ch : Chamber) (b : List ℕ) (r : ResultPacket) → receive_of ch.client b ≡ record { client = closed ch.client r.call; answer = Ok (Completed r) }
    → (receive_in ch b).chamber ≡ record { client = closed ch.client r.call; points = ch.points; moved = ch.moved; reads = reads_with ch r }
unfolding receive_in reads_by
ended_chamber ch b r e = rw e refl
