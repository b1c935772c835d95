-- The fence over states and log records, from the protocol's: each event is one change, and what is fenced off over records is so in the run.
--     held-within              a held point is one of the points
--     fenced_there             a client fenced off from a point
--     fence-from_protocol, fence-records
-- Assumes nothing.
use Prim.Native.Nat.{ℕ, ◌≤◌}
use mathlib.Core.Path.{◌≡◌, refl, sym, ◌∙◌, ap, subst}
use mathlib.Core.Bool.{Bool, true, false}
use mathlib.Core.List.{List}
use native.Mathlib.Omega.{arith}
use lib.Dec.{leb}
use lib.ListN.{length, get_or, get_or-eq_default}
use borrow.Author.Tests.{eqb-true, leb-true, leb-false}
use Rattle.model.specs.declared.PlanEntry.{PlanEntry}
use Rattle.model.specs.declared.Point.{Point}
use Rattle.model.specs.Limits.{last_point, point_count}
use Rattle.model.specs.Plan.{plan_of}
use Rattle.model.specs.States.{State, point_at, no_point, is_held, held}
use Rattle.proof_protocol.specs.Servers as S
use Rattle.proof_protocol.specs.World as W
use Rattle.proof_protocol.specs.Allowed.{Made}
use Rattle.proof_protocol.specs.Fence as P
use Rattle.proof_protocol.proofs.Fence.{fenced}
use Rattle.claim.specs.World.{packet}
use Rattle.claim.specs.Fence.{NoticedIn}
use Rattle.claim.specs.RecordWorld.{World, Event, empty_world}
use Rattle.claim.specs.RecordFence as RF
use Rattle.proof_records.specs.Likeness.{Pair, holding_of}
use Rattle.proof_records.specs.Made.{Means}
use Rattle.proof_records.specs.Worlds.{WorldLike}
use Rattle.proof_records.specs.Matched.{Follows}
use Rattle.proof_records.proofs.Calls.{packet_in_lem}
use Rattle.proof_records.proofs.Runs.{followed, run_of}
use Rattle.proof_records.proofs.Clauses.{like, issues-here, executes-there}
use Rattle.proof_records.proofs.Counting.{given-counts, synced-heard}

-- past the last point there is none to hold
held-within : (st : State) (p : ℕ) → length st.points ≡ point_count → is_held (point_at st p) ≡ true → p ≤ last_point
unfolding is_held point_at
held-within st p n h = go (leb p last_point) refl
  where
    go : (b : Bool) → leb p last_point ≡ b → p ≤ last_point
    go true q = leb-true p last_point q
    go false q =
        let e : get_or st.points p no_point ≡ no_point = get_or-eq_default st.points no_point (omega (arith, n, leb-false p last_point q)) in
        let z : 0 ≡ held = ap (λ (x : Point). x.status) (sym e) ∙ eqb-true _ _ h in
        absurd (omega (arith, z))

-- a held point's holding
held-there : (zs : List Pair) (x : Point) → is_held x ≡ true → holding_of zs x ≡ S.held
unfolding is_held holding_of
held-there zs x h = rw h

-- a notice made
notice-there : {plan : List PlanEntry} {w : World} {v : W.World} → WorldLike plan w v → (x time : ℕ) → NoticedIn w x time → Made v (S.notice x time)
unfolding Means packet
notice-there {v = v} l x time n =
    let m = subst (Means (Made v)) n.parsed (l.made n.bytes (packet_in_lem _ n.number n.bytes n.made)).packet in
    rw (← n.client, ← n.at) m.1

module _ (plan : List ℕ) (es : List Event) (cs : List W.Change) (F : Follows (plan_of plan) empty_world W.empty_world es cs) where
  pub fenced_there : (n x p : ℕ) → RF.Fenced plan es n x p → P.Fenced (plan_of plan) cs n x p
  fenced_there n x p f =
      let l = like plan es cs F n in
      let c = f.server in
      let C = given-counts plan l c f.state f.counts in
      let h : p ≤ last_point = held-within f.state p C.alike.sound.points f.holds in
      record {
        server = c;
        founded = C.founded;
        holds = (C.alike.like.points p h).holding ∙ held-there C.pairs (point_at f.state p) f.holds;
        time = f.time;
        noticed = notice-there l x f.time f.noticed;
        heard = rw (synced-heard plan l c f.kept f.recovered) f.heard;
      }

  pub fences_here : P.Fences (plan_of plan) cs → RF.Fences plan es
  fences_here H =
      record {
        issued = λ n c m e. let i = H.issued n c m (executes-there plan es cs F n c m e) in (i.0, i.1, issues-here plan es cs F i.0 _ i.2);
        fence = λ n x p f i c m h e. H.fence n x p (fenced_there n x p f) i c m h (executes-there plan es cs F i c m e);
      }

pub fence-from_protocol : P.Fence → RF.Fence
unfolding P.Fence RF.Fence
fence-from_protocol H plan es ok =
    let r = followed plan es ok in
    fences_here plan es r.0 r.1 (H (plan_of plan) r.0 (run_of r.1))

pub fence-records : RF.Fence
fence-records = fence-from_protocol fenced
