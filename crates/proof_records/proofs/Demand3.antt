-- Demand 3 over states and log records: after every schedule there is one order of all surviving commands, each once, that explains every
-- result and every final value, in real-time order.
--     holder_there             the holder of a point
--     told-there, times-here   results told, and their times
--     explains_here            what explains the run explains the schedule
--     demand3_records
-- Assumes nothing.
use Prim.Native.Nat.{ℕ, ◌<◌}
use mathlib.Core.Path.{◌≡◌, sym, ◌∙◌, ap, subst}
use mathlib.Core.Bool.{true}
use mathlib.Core.List.{List}
use mathlib.Core.Option.{some}
use native.Mathlib.Omega.{arith}
use lib.ListN.{length, take}
use lib.Seq.{take-length}
use Rattle.model.specs.Plan.{plan_of}
use Rattle.model.specs.Limits.{point_count}
use Rattle.model.specs.declared.ResultPacket.{ResultPacket}
use Rattle.model.specs.Sequential.{Marked, OrderEntry, commands, reading_meant}
use Rattle.model.specs.States.{State, point_at}
use Rattle.claim.specs.Claim.{reading_at, SurvivesBy, HolderBy}
use Rattle.proof_protocol.specs.Servers as S
use Rattle.proof_protocol.specs.World as W
use Rattle.proof_protocol.specs.Allowed.{Made}
use Rattle.proof_protocol.specs.Explains as X
use Rattle.proof_protocol.proofs.RealTime.{explained}
use Rattle.claim.specs.RecordWorld.{Event, run, after, empty_world, kept_by}
use Rattle.claim.specs.World.{packet}
use Rattle.claim.specs.RecordClaim.{Notes, Tells, final_state, Recovers, account, Explains, Demand3}
use Rattle.proof_records.specs.Likeness.{reading_of, result_of}
use Rattle.proof_records.specs.Made.{Means}
use Rattle.proof_records.specs.Worlds.{WorldLike}
use Rattle.proof_records.specs.Matched.{Follows}
use Rattle.proof_records.proofs.Calls.{packet_in_lem}
use Rattle.proof_records.proofs.Starts.{kept-recovers}
use Rattle.proof_records.proofs.Counting.{Counts, given-counts, founded-given}
use Rattle.proof_records.proofs.Runs.{followed, run_of, same_length}
use Rattle.proof_records.proofs.Clauses.{like, issues-there, completes_there, survives-there, survives-here, notes_here}

module _ (plan : List ℕ) (es : List Event) (cs : List W.Change) (F : Follows (plan_of plan) empty_world W.empty_world es cs) where
  -- ---- the end

  final-like : WorldLike (plan_of plan) (run es) (X.final cs)
  unfolding after X.after X.final
  final-like =
      let w : take (length es) es ≡ es = take-length es in
      let v : take (length es) cs ≡ cs = subst (λ (k : ℕ). take k cs ≡ cs) (sym (same_length F)) (take-length cs) in
      rw (w, v) at (like plan es cs F (length es))

  counts : (c : ℕ) (st : State) → final_state plan es c ≡ some st → Counts plan final-like c st
  unfolding final_state
  counts c st e = given-counts plan final-like c st e

  counted : (c : ℕ) → ((X.final cs).servers c).founded ≡ true → (st : State) × (final_state plan es c ≡ some st)
  unfolding final_state
  counted c f = founded-given plan final-like c f

  pub holder_there : (p c : ℕ) (st : State) → p < point_count → HolderBy plan (account plan es) p c st → X.Holder (plan_of plan) cs p c
  holder_there p c st h H =
      let C = counts c st H.founded in
      let s = C.alike.like.points p (omega arith) in
      record {
        founded = C.founded;
        greatest = λ d f. let k = counted d f in let t = (counts d k.0 k.1).alike.like.points p (omega arith) in rw (s.move, t.move) (H.greatest d k.0 k.1);
        taker =
            λ d f e.
            let k = counted d f in
            let t = (counts d k.0 k.1).alike.like.points p (omega arith) in
            rw (s.taken, t.taken) (H.taker d k.0 k.1 (sym t.move ∙ (e ∙ s.move)));
        home = λ z. H.home (sym s.move ∙ z);
      }

  value_there : (p c : ℕ) (st : State) → p < point_count → final_state plan es c ≡ some st
      → ((W.state_of (plan_of plan) (X.final cs) c).points p).value ≡ reading_meant (reading_at (point_at st p))
  unfolding reading_of reading_at
  value_there p c st h e = ((counts c st e).alike.like.points p (omega arith)).value

  recovers-end : Recovers plan es
  unfolding kept_by
  recovers-end c log k mark e = (_, kept-recovers plan ((final-like.servers c).kept log (ap kept_by e)))

  -- ---- what explains the run explains the schedule

  survivor_there : (e : OrderEntry) → SurvivesBy plan (account plan es) e → X.Survives cs e
  survivor_there e s = record { part = s.part; among = s.among; at = s.at; survives = survives-there plan es cs F s.at s.part s.survives }

  survivor_here : (e : OrderEntry) → X.Survives cs e → SurvivesBy plan (account plan es) e
  survivor_here e s = record { part = s.part; among = s.among; at = s.at; survives = survives-here plan es cs F s.at s.part s.survives }

  -- a result told is told in the run
  told-there : (r : ResultPacket) → Tells es r → Made (X.final cs) (S.answered (record { client = r.client; call = r.call }) r.point (result_of r.result))
  unfolding packet Means
  told-there r t = (subst (Means (Made (X.final cs))) t.parsed (final-like.made t.bytes (packet_in_lem (run es).made t.number t.bytes t.made)).packet).1

  times-here : (order : List OrderEntry) → X.Explains (plan_of plan) cs order → (r : ResultPacket) → Tells es r
      → (n : ℕ) × (m : Marked) × (m.command.client ≡ r.client) × (m.command.call ≡ r.call) × Notes es n m r.result.time
  times-here order E r t =
      let x = E.times (record { client = r.client; call = r.call }) r.point (result_of r.result) (told-there r t) in (
        x.0,
        x.1,
        ap (λ (i : S.Id). i.client) x.2,
        ap (λ (i : S.Id). i.call) x.2,
        subst (Notes es x.0 x.1) x.3.1 (notes_here plan es cs F x.0 x.1 x.3.0),
      )

  pub explains_here : (order : List OrderEntry) → X.Explains (plan_of plan) cs order → Explains plan es order
  explains_here order E =
      record {
        once = E.once;
        survivors = λ m. (λ s. (E.survivors m).0 (survivor_there m s), λ i. survivor_here m ((E.survivors m).1 i));
        results = λ n k r c. E.results n k r (completes_there plan es cs F n k r c);
        values = λ p c st h H. sym (value_there p c st h H.founded) ∙ E.values p c h (holder_there p c st h H);
        real_time = λ m n a b r c i h x y. E.real_time m n a b r (completes_there plan es cs F m (commands a) r c) (issues-there plan es cs F n (commands b) i) h x y;
        sequence =
            λ m n j k a b s t h e u v x y.
            E.sequence m n j k a b (survives-there plan es cs F m j s) (survives-there plan es cs F n k t) h e u v x y;
        times = times-here order E;
        recovers = recovers-end;
      }

pub demand3_records : Demand3
unfolding Demand3 X.Explained
demand3_records plan es P =
    let r = followed plan es P in
    let x = explained (plan_of plan) r.0 (run_of r.1) in
    (x.0, explains_here plan es r.0 r.1 x.0 x.1)
