-- The lock's theorem. An opening O of a gate was issued by a controller that had seen the other gate closed, by a read R. No opening Y of the
-- other gate stands from R to O: by the same controller, one command is open at a time; of two controllers the earlier is fenced off.
--     ran               an entry of the order was issued, then executed
--     gate_ops          on a gate it is a read, set or part
--     seen              the read that an opening rests on
--     between           no opening of the other gate stands between
--     other-closed      the other gate is closed where an opening stands
--     chamber_safe      the theorem
-- Assumes nothing.
use Rattle.std.specs.Prelude.{Some}
use Prim.Native.Nat.{ℕ, zero, suc, ◌<◌, ◌≤◌}
use mathlib.Core.Path.{◌≡◌, refl, sym, ◌∙◌, ap, subst}
use mathlib.Core.Bool.{Bool, true, false}
use mathlib.Core.List.{List, [], ◌∷◌}
use mathlib.Core.Logic.{◌⊎◌, inl, inr}
use mathlib.Core.Option.{Option, none, some}
use native.Mathlib.Omega.{arith}
use lib.Dec.{eqb, ltb}
use lib.IntN.{pos, ℤ}
use lib.ListN.{take, get_elem?}
use borrow.Author.Tests.{eqb-true, eqb-false, ltb-true, ltb-false}
use Rattle.model.specs.declared.Command.{Command}
use Rattle.model.specs.declared.Request.{Request}
use Rattle.model.specs.declared.Packet.TheVariants.{Requested}
use Rattle.model.specs.Limits.{read_op}
use Rattle.model.specs.Plan.{plan_of}
use Rattle.model.specs.Packets.{parse_packet}
use Rattle.model.specs.Sequential.{Marked, marked_by, OrderEntry, single, one, ReadingZ, Values, result_meant, opened, answer_to, values_with, values_after}
use Rattle.claim.specs.World.{Event, outside, issue, after, packet}
use Rattle.claim.specs.Claim.{Issues, Completes, Executes, SurvivesAt, Explains}
use Rattle.claim.specs.Fence.{Fences}
use Rattle.claim.proofs.Clients.{at_once, issue-one, issue_rises}
use Rattle.chamber_claim.specs.declared.LockPoints.{LockPoints}
use Rattle.chamber_claim.specs.Chamber.{is_opening, role_in, may_open, read_at, points_ok}
use Rattle.chamber_claim.specs.Lock.{LockEvent, kernel}
use Rattle.chamber_claim.specs.Safe.{OneClosed, events, lock_at, AtLock, Begins, IsGate, FencedOff, LockProvisos, ChamberSafe}
use Rattle.chamber_claim.proofs.Orders.{Stands, GateOp, place_of_lem, one-command, part_of, is-part, its-commands, before-places, values-step, values-past, answered, other-value, read_opens-none}
use Rattle.chamber_claim.proofs.Orders.{gate_value, read_value}
use Rattle.chamber_claim.proofs.Commands.{Gates, up, down, gates_differ, Closed, closed-seen, passed}
use Rattle.chamber_claim.proofs.Frame.{Commands}
use Rattle.chamber_claim.proofs.Controllers.{Done, ReadBy, Seen, Held, held, after-begin, there_on, begun-at}
use Rattle.chamber_claim.proofs.Successors.{begins-points, same-begin, succeeded, issue_by, all_done}

compare : (a b : ℕ) → (a < b) ⊎ ((a ≡ b) ⊎ (b < a))
compare a b = go (ltb a b) refl (ltb b a) refl
  where
    go : (u : Bool) → ltb a b ≡ u → (v : Bool) → ltb b a ≡ v → (a < b) ⊎ ((a ≡ b) ⊎ (b < a))
    go true e v f = inl (ltb-true a b e)
    go false e true f = inr (inr (ltb-true b a f))
    go false e false f = let h = ltb-false a b e in let k = ltb-false b a f in inr (inl (omega arith))

module _ (s : LockPoints) where
  flip : {g g' : ℕ} → Gates s g g' → Gates s g' g
  flip up = down
  flip down = up

  apart : points_ok s ≡ true → {g g' : ℕ} → Gates s g g' → g ≡ g' → ⊥
  apart ok up e = gates_differ s ok e
  apart ok down e = gates_differ s ok (sym e)

-- an event executes one command
executes-one : (plan : List ℕ) (es : List Event) (n c d : ℕ) (j m : Marked) → Executes es n c j → Executes es n d m → j ≡ m
executes-one plan es n c d j m x y =
    let e = at_once plan es n _ _ x.event y.event in
    let p : x.number ≡ y.number = cc in
    let v : x.versions ≡ y.versions = cc in
    let b : some x.bytes ≡ some y.bytes = sym x.delivered ∙ ap (packet (after es n)) p ∙ y.delivered in
    let f : x.bytes ≡ y.bytes = cc in
    let q : Some (Requested x.asked) ≡ Some (Requested y.asked) = sym x.parsed ∙ ap parse_packet f ∙ y.parsed in
    let r : x.asked ≡ y.asked = cc in
    sym x.its ∙ ap (λ (z : Request). marked_by x.versions z.command) r ∙ rw v y.its

module _ (plan : List ℕ) (s : LockPoints) (ls : List LockEvent) (pr : LockProvisos plan s ls) (fences : Fences plan (events plan s ls)) (order : List OrderEntry)
    (explains : Explains plan (events plan s ls) order) where
  abbrev es : List Event
  es = events plan s ls

  -- the values at a place, and a point's
  abbrev values_at : ℕ → Values
  values_at k = values_after (plan_of plan) (opened (plan_of plan)) (take k order)

  abbrev value_at : ℕ → ℕ → ℤ
  value_at k p = (values_at k p).value

  gate_is : {g g' : ℕ} → Gates s g g' → IsGate plan s ls g
  gate_is up = inl refl
  gate_is down = inr refl

  -- an entry of the order was issued, then executed
  record Ran (m : Marked) : Type 0 where
    time : ℕ
    survives : SurvivesAt es time m
    event : ℕ
    soon : event < time
    issues : Issues es event (m.command ∷ [])

  ran : (k : ℕ) (m : Marked) → Stands order k m → Ran m
  ran k m h =
      let v = (explains.survivors (single m)).1 (place_of_lem order k (single m) h) in
      let e = part_of m v.part v.among in
      let t : SurvivesAt es v.at m = subst (SurvivesAt es v.at) e v.survives in
      let i = fences.issued v.at t.server m t.executes in
      record { time = v.at; survives = t; event = i.0; soon = i.1; issues = i.2 }

  -- by `real_time` and `sequence`
  by_time : (i j n : ℕ) (k m : Marked) → Stands order i k → Stands order j m → Done plan s ls n k.command → Issues es n (m.command ∷ []) → i < j
  by_time i j n k m p q d e =
      before-places explains.once i j k m p q
      (explains.real_time d.at n (single k) (single m) d.result (rw (its-commands k) at d.completes) (rw (its-commands m) at e) d.soon (place_of_lem order i _ p) (place_of_lem order j _ q))

  in_sequence : (i j : ℕ) (k m : Marked) → Stands order i k → Stands order j m → (r : Ran k) (t : Ran m) → r.time < t.time → k.command.point ≡ m.command.point → i < j
  in_sequence i j k m p q r t h e =
      before-places explains.once i j k m p q
      (explains.sequence r.time t.time k m (single k) (single m) r.survives t.survives h e (is-part k) (is-part m) (place_of_lem order i _ p) (place_of_lem order j _ q))

  -- on a gate: a read, or a command of a controller
  gate_command : (k : ℕ) (m : Marked) (h : Stands order k m) (r : Ran m) → IsGate plan s ls m.command.point
      → (m.command.op ≡ read_op) ⊎ Commands plan s ls r.event m.command.client m.command.op m.command.point m.command.argument
  gate_command k m h r g = go (issue_by plan s ls pr r.event m.command r.issues)
    where
      go : AtLock plan s ls r.event (kernel (outside (issue m.command.client m.command.op m.command.point m.command.argument)))
          ⊎ Commands plan s ls r.event m.command.client m.command.op m.command.point m.command.argument
          → (m.command.op ≡ read_op) ⊎ Commands plan s ls r.event m.command.client m.command.op m.command.point m.command.argument
      go (inl e) = inl (pr.only r.event _ m.command e r.issues g)
      go (inr c) = inr c

  gate_ops : (k : ℕ) (m : Marked) → Stands order k m → IsGate plan s ls m.command.point → GateOp m.command.op
  gate_ops k m h g = let r = ran k m h in go (gate_command k m h r g)
    where
      go : (m.command.op ≡ read_op) ⊎ Commands plan s ls (ran k m h).event m.command.client m.command.op m.command.point m.command.argument → GateOp m.command.op
      go (inl e) = rw e refl
      go (inr c) = (passed c.chamber _ _ _ c.request c.answer).op-is

  -- m stands at the place k and opens the gate g; the other one is g'
  record Opens (k : ℕ) (m : Marked) (g g' : ℕ) : Type 0 where
    stands : Stands order k m
    gates : Gates s g g'
    on : m.command.point ≡ g
    opening : is_opening m.command.op m.command.argument ≡ true

  -- the controller that issued an opening
  record Opener (m : Marked) : Type 0 where
    its : Ran m
    command : Commands plan s ls its.event m.command.client m.command.op m.command.point m.command.argument
    start : ℕ
    begins : Begins plan s ls start m.command.client

  opener : (k : ℕ) (m : Marked) {g g' : ℕ} → Opens k m g g' → Opener m
  opener k m {g} o =
      let r = ran k m o.stands in
      go r (gate_command k m o.stands r (subst (IsGate plan s ls) (sym o.on) (gate_is o.gates)))
    where
      go : (r : Ran m) → (m.command.op ≡ read_op) ⊎ Commands plan s ls r.event m.command.client m.command.op m.command.point m.command.argument → Opener m
      go r (inl e) = absurd (read_opens-none _ _ e o.opening)
      go r (inr c) = let b = begun-at plan s ls pr r.event _ c.chamber c.there in record { its = r; command = c; start = b.0; begins = b.2 }

  -- the read that it rests on
  record Read (m : Marked) (p : Opener m) (g' : ℕ) : Type 0 where
    place : ℕ
    marked : Marked
    stands : Stands order place marked
    by : marked.command.client ≡ m.command.client
    op : marked.command.op ≡ read_op
    on : marked.command.point ≡ g'
    fresh : p.command.chamber.moved < marked.command.call
    zero : value_at place g' ≡ pos 0
    done : Done plan s ls p.its.event marked.command

  read_of : (k : ℕ) (m : Marked) {g g' : ℕ} (o : Opens k m g g') (p : Opener m) → Read m p g'
  read_of k m {g} {g'} o p = go (closed-seen s p.command.chamber (begins-points plan s ls _ _ p.begins) o.gates may)
    where
      h : Held plan s ls p.its.event m.command.client p.command.chamber
      h = held plan s ls pr p.its.event _ p.command.chamber p.command.there

      may : may_open p.command.chamber (role_in s g) ≡ true
      may =
          subst (λ (z : LockPoints). may_open p.command.chamber (role_in z g) ≡ true) h.points
          (subst (λ (z : ℕ). may_open p.command.chamber (role_in p.command.chamber.points z) ≡ true) o.on
          ((passed p.command.chamber _ _ _ p.command.request p.command.answer).safe o.opening))

      -- r, read as the order answers it at the place j, where its entry e stands
      entered : (c : Closed s p.command.chamber g') (r : ReadBy plan s ls m.command.client c.role (read_at p.command.chamber c.role)) → r.at < p.its.event
          → (j : ℕ) (e : Marked) → Stands order j e → e.command ≡ r.read → answer_to (plan_of plan) (values_at j) (single e) ≡ one (result_meant r.result) → Read m p g'
      entered c r soon j e st q a =
          let on : e.command.point ≡ g' = ap (λ (z : Command). z.point) q ∙ c.is r.read.point r.role in
          let op : e.command.op ≡ read_op = ap (λ (z : Command). z.op) q ∙ r.op in
          record {
            place = j;
            marked = e;
            stands = st;
            by = ap (λ (z : Command). z.client) q ∙ r.by;
            op = op;
            on = on;
            fresh = let n : e.command.call ≡ (read_at p.command.chamber c.role).call = ap (λ (z : Command). z.call) q ∙ r.number in omega (arith, c.fresh);
            zero = subst (λ (z : ℕ). value_at j z ≡ pos 0) on (read_value (plan_of plan) (values_at j) e r.result op a (r.value ∙ c.zero));
            done =
                record {
                  at = r.at;
                  soon = soon;
                  result = one (result_meant r.result);
                  completes = subst (λ (z : Command). Completes es r.at (z ∷ []) (one (result_meant r.result))) (sym q) r.completes;
                };
          }

      go : Closed s p.command.chamber g' → Read m p g'
      go c = seen (h.reads c.role (omega (arith, c.fresh)))
        where
          seen : Seen plan s ls p.its.event m.command.client c.role (read_at p.command.chamber c.role) → Read m p g'
          seen r =
              let a = answered (plan_of plan) (explains.results r.0.at (r.0.read ∷ []) (one (result_meant r.0.result)) r.0.completes) in
              let e = one-command a.1 r.0.read a.3 in
              entered c r.0 r.1 a.0 e.0 (a.2 ∙ ap some e.1) e.2 (rw e.1 at a.4)

  -- m is O at the place k, y is Y at l, r is R
  module _ (k l : ℕ) (m y : Marked) {g g' : ℕ} (o : Opens k m g g') (w : Opens l y g' g) (p : Opener m) (q : Opener y) (r : Read m p g') (low : r.place ≤ l) (high : l < k) where
    rr : Ran r.marked
    rr = ran r.place r.marked r.stands

    not_read : r.marked.command ≡ y.command → ⊥
    not_read e = read_opens-none _ _ (ap (λ (z : Command). z.op) (sym e) ∙ r.op) w.opening

    -- both by one controller: one command is open at a time
    one_controller : m.command.client ≡ y.command.client → ⊥
    one_controller e = first (compare q.its.event rr.event)
      where
        later : rr.event < q.its.event → (q.its.event < p.its.event) ⊎ ((q.its.event ≡ p.its.event) ⊎ (p.its.event < q.its.event)) → ⊥
        later h (inl b) =
            let c = held plan s ls pr p.its.event _ p.command.chamber p.command.there in
            let u = c.moves q.its.event y.command b (q.its.issues, sym e) (λ z. read_opens-none _ _ z w.opening) in
            let v = issue_rises plan es pr.kernels rr.event q.its.event r.marked.command y.command rr.issues q.its.issues (r.by ∙ e) h in
            let f = r.fresh in
            omega arith
        later h (inr (inl b)) =
            let u = issue-one plan es p.its.event m.command y.command p.its.issues (subst (λ (z : ℕ). Issues es z (y.command ∷ [])) b q.its.issues) in
            apart s (begins-points plan s ls _ _ p.begins) o.gates (sym o.on ∙ ap (λ (z : Command). z.point) u ∙ w.on)
        later h (inr (inr b)) =
            let d = all_done plan s ls pr q.its.event y.command q.command.chamber q.its.issues q.command.there p.its.event m.command b p.its.issues e in
            let f = by_time k l q.its.event m y o.stands w.stands d q.its.issues in
            omega arith

        first : (q.its.event < rr.event) ⊎ ((q.its.event ≡ rr.event) ⊎ (rr.event < q.its.event)) → ⊥
        first (inl b) =
            let a = after-begin plan s ls pr p.start m.command.client rr.event r.marked.command p.begins (rr.issues, r.by) in
            let c = there_on plan s ls pr p.start rr.event m.command.client p.begins a in
            let g : (lock_at plan s ls rr.event).controllers r.marked.command.client ≡ some c.0 = ap (lock_at plan s ls rr.event).controllers r.by ∙ c.1 in
            let d = all_done plan s ls pr rr.event r.marked.command c.0 rr.issues g q.its.event y.command b q.its.issues (sym (r.by ∙ e)) in
            let f = by_time l r.place rr.event y r.marked w.stands r.stands d rr.issues in
            omega arith
        first (inr (inl b)) =
            not_read (issue-one plan es rr.event r.marked.command y.command rr.issues (subst (λ (z : ℕ). Issues es z (y.command ∷ [])) b q.its.issues))
        first (inr (inr b)) = later b (compare q.its.event p.its.event)

    -- Y's controller started first: it is fenced off from g' before R was issued
    fenced_before : q.start < p.start → ⊥
    fenced_before h = go (compare q.its.time rr.time)
      where
        on : y.command.point ≡ r.marked.command.point
        on = w.on ∙ sym r.on

        go : (q.its.time < rr.time) ⊎ ((q.its.time ≡ rr.time) ⊎ (rr.time < q.its.time)) → ⊥
        go (inl b) = let f = in_sequence l r.place y r.marked w.stands r.stands q.its rr b on in omega arith
        go (inr (inl b)) =
            let t = subst (λ (z : ℕ). SurvivesAt es z y) b q.its.survives in
            not_read (ap (λ (z : Marked). z.command) (executes-one plan es rr.time _ _ r.marked y rr.survives.executes t.executes))
        go (inr (inr b)) =
            let u = succeeded plan s ls pr q.start p.start _ _ q.begins p.begins h g' (gate_is w.gates) in
            let a = after-begin plan s ls pr p.start m.command.client rr.event r.marked.command p.begins (rr.issues, r.by) in
            let c = rr.soon in
            fences.fence u.0 y.command.client g' u.2 q.its.time _ y (omega (arith, u.1)) q.its.survives.executes refl w.on

    -- O's controller started first: O was executed before Y's controller read g
    fenced_after : p.start < q.start → ⊥
    fenced_after h = go (ltb p.its.time u.0) refl
      where
        u : FencedOff plan s ls q.start m.command.client g
        u = succeeded plan s ls pr p.start q.start _ _ p.begins q.begins h g (gate_is o.gates)

        go : (b : Bool) → ltb p.its.time u.0 ≡ b → ⊥
        go false e = fences.fence u.0 m.command.client g u.2 p.its.time _ m (ltb-false _ _ e) p.its.survives.executes refl o.on
        go true e =
            let t = read_of l y w q in
            let v = ran t.place t.marked t.stands in
            let a = after-begin plan s ls pr q.start y.command.client v.event t.marked.command q.begins (v.issues, t.by) in
            let b : p.its.time < u.0 = ltb-true _ _ e in
            let c = v.soon in
            let d = in_sequence k t.place m t.marked o.stands t.stands p.its v (omega (arith, u.1)) (o.on ∙ sym t.on) in
            let i = by_time t.place l q.its.event t.marked y t.stands w.stands t.done q.its.issues in
            omega arith

    between : ⊥
    between = go (eqb m.command.client y.command.client) refl
      where
        two : (m.command.client ≡ y.command.client → ⊥) → (p.start < q.start) ⊎ ((p.start ≡ q.start) ⊎ (q.start < p.start)) → ⊥
        two e (inl b) = fenced_after b
        two e (inr (inl b)) = e (same-begin plan s ls q.start _ _ (subst (λ (z : ℕ). Begins plan s ls z m.command.client) b p.begins) q.begins)
        two e (inr (inr b)) = fenced_before b

        go : (b : Bool) → eqb m.command.client y.command.client ≡ b → ⊥
        go true e = one_controller (eqb-true _ _ e)
        go false e = two (eqb-false _ _ e) (compare p.start q.start)

  -- an entry turns a gate away from 0 only by an opening
  gate_step : (k : ℕ) (m : Marked) {g g' : ℕ} → Stands order k m → Gates s g g' → value_at k g ≡ pos 0 → (value_at (suc k) g ≡ pos 0) ⊎ Opens k m g g'
  gate_step k m {g} {g'} h d z = go (gate_value (plan_of plan) (values_at k) m g (λ e. gate_ops k m h (subst (IsGate plan s ls) (sym e) (gate_is d))) z)
    where
      go : ((values_with (plan_of plan) (values_at k) (single m) g).value ≡ pos 0) ⊎ ((m.command.point ≡ g) × (is_opening m.command.op m.command.argument ≡ true))
          → (value_at (suc k) g ≡ pos 0) ⊎ Opens k m g g'
      go (inl e) = inl (ap (λ (b : Values). (b g).value) (values-step (plan_of plan) (opened (plan_of plan)) order k (single m) h) ∙ e)
      go (inr e) = inr (record { stands = h; gates = d; on = e.0; opening = e.1 })

  -- a place with no entry
  past-step : (k p : ℕ) → get_elem? order k ≡ none → value_at (suc k) p ≡ value_at k p
  past-step k p h = ap (λ (b : Values). (b p).value) (values-past (plan_of plan) (opened (plan_of plan)) order k h)

  other-closed : (k : ℕ) (m : Marked) {g g' : ℕ} → Opens k m g g' → value_at k g' ≡ pos 0
  other-closed k m {g} {g'} o = through k (omega (arith, by_time r.place k p.its.event r.marked m r.stands o.stands r.done p.its.issues)) (omega arith)
    where
      p : Opener m
      p = opener k m o

      r : Read m p g'
      r = read_of k m o p

      through : (l : ℕ) → r.place ≤ l → l ≤ k → value_at l g' ≡ pos 0
      through zero a b = let e : r.place ≡ 0 = omega arith in subst (λ (z : ℕ). value_at z g' ≡ pos 0) e r.zero
      through (suc l) a b = at (compare r.place (suc l)) (λ c. through l c (omega arith))
        where
          closed : (e : OrderEntry) → get_elem? order l ≡ some e → r.place ≤ l → value_at l g' ≡ pos 0 → value_at (suc l) g' ≡ pos 0
          closed (single y) e c z = go (gate_step l y e (flip s o.gates) z)
            where
              go : (value_at (suc l) g' ≡ pos 0) ⊎ Opens l y g' g → value_at (suc l) g' ≡ pos 0
              go (inl f) = f
              go (inr w) = absurd (between k l m y o w p (opener l y w) r c (omega arith))

          step : (e : Option OrderEntry) → get_elem? order l ≡ e → r.place ≤ l → value_at l g' ≡ pos 0 → value_at (suc l) g' ≡ pos 0
          step none e c z = past-step l g' e ∙ z
          step (some x) e c z = closed x e c z

          at : (r.place < suc l) ⊎ ((r.place ≡ suc l) ⊎ (suc l < r.place)) → (r.place ≤ l → value_at l g' ≡ pos 0) → value_at (suc l) g' ≡ pos 0
          at (inl c) ih = step (get_elem? order l) refl (omega arith) (ih (omega arith))
          at (inr (inl c)) ih = subst (λ (z : ℕ). value_at z g' ≡ pos 0) c r.zero
          at (inr (inr c)) ih = absurd (omega arith)

  -- one gate is closed at every place
  entry-safe : (k : ℕ) (e : OrderEntry) {g g' : ℕ} → get_elem? order k ≡ some e → Gates s g g' → value_at k g ≡ pos 0 → (value_at (suc k) g ≡ pos 0) ⊎ (value_at (suc k) g' ≡ pos 0)
  entry-safe k (single m) {g} {g'} h d z = go (gate_step k m h d z)
    where
      go : (value_at (suc k) g ≡ pos 0) ⊎ Opens k m g g' → (value_at (suc k) g ≡ pos 0) ⊎ (value_at (suc k) g' ≡ pos 0)
      go (inl e) = inl e
      go (inr o) =
          let n : m.command.point ≡ g' → ⊥ = λ e. apart s (begins-points plan s ls _ _ (opener k m o).begins) d (sym o.on ∙ e) in
          inr (ap (λ (b : Values). (b g').value) (values-step (plan_of plan) (opened (plan_of plan)) order k (single m) h)
          ∙ ap (λ (b : ReadingZ). b.value) (other-value (plan_of plan) (values_at k) m g' n) ∙ other-closed k m o)

  safe : (k : ℕ) → OneClosed s (values_at k)
  safe zero = inl (unfold values_after in (pr.fallback s.upper (inl refl)))
  safe (suc k) = step (get_elem? order k) refl (safe k)
    where
      swap : {A B : Type 0} → A ⊎ B → B ⊎ A
      swap (inl a) = inr a
      swap (inr b) = inl b

      step : (e : Option OrderEntry) → get_elem? order k ≡ e → OneClosed s (values_at k) → OneClosed s (values_at (suc k))
      step none h (inl z) = inl (past-step k s.upper h ∙ z)
      step none h (inr z) = inr (past-step k s.lower h ∙ z)
      step (some e) h (inl z) = entry-safe k e h up z
      step (some e) h (inr z) = swap (entry-safe k e h down z)

pub chamber_safe : ChamberSafe
unfolding ChamberSafe
chamber_safe plan s ls pr fences order explains k = safe plan s ls pr fences order explains k
