-- The survivors are the order's entries, and their times are told.
--     survives-at    a surviving execution is in the timeline, at its event
--     stood          what stands in a final log survives
--     survivors      an entry survives exactly if it is in the order
--     times          a result told has the time that a surviving execution of its id noted
-- Assumes nothing.
use mathlib.Core.Path.{◌≡◌, refl, sym, ◌∙◌, ap, subst}
use mathlib.Core.List.Memᴰ
use mathlib.Core.List.{List, [], ◌∷◌, ◌++◌, Memᴰ}
use mathlib.Core.Logic.{◌⊎◌, inl, inr, ◌↔◌}
use native.Mathlib.Omega.{arith}
use Prim.Native.Nat.{ℕ, suc, ◌≤◌, ◌<◌}
use lib.ListN.{length}
use Rattle.model.specs.Limits.{point_count}
use Rattle.model.specs.Versions.{Version}
use Rattle.model.specs.Sequential.{Marked, OrderEntry, single, parts}
use Rattle.model.specs.declared.Command.{Command}
use Rattle.proof_protocol.specs.Servers.{Plan, Id, id_of, Result, Execution, LogRecord, Entry, replay, apply, apply_record, executed_point}
use Rattle.proof_protocol.specs.Servers as S
use Rattle.proof_protocol.specs.World.{World, Change, empty_world, run, step, server_after}
use Rattle.proof_protocol.specs.World as W
use Rattle.proof_protocol.specs.Allowed.{Run}
use Rattle.proof_protocol.specs.Explains.{after, final, Executes, SurvivesAt, Survives, Notes}
use Rattle.proof_protocol.proofs.Basics.{eqb_same}
use Rattle.proof_protocol.proofs.Logs as Logs
use Rattle.proof_protocol.proofs.Logs.{Tail, Tail-trans, Tail-length, Tail-mem, Legit-tail}
use Rattle.proof_protocol.proofs.Facts.{past-tail, Stands-in}
use Rattle.proof_protocol.proofs.Order.{merged, marked, entry, ordered, merged_in, merged_out}
use Rattle.proof_protocol.proofs.Trace.{after-suc, last-world, clock-is, at-is, is-at, Wrote, wrote, stands_through}
use Rattle.proof_protocol.proofs.Final.{by_event, H, timeline, order, tops, inv, executed-issued, shown_top, ordered_out}

pub ordered_in : (l : List Execution) (d : Execution) → Memᴰ d l → Memᴰ (entry d) (ordered l)
unfolding ordered
ordered_in [] d m = absurd (Memᴰ.not-nil m)
ordered_in (e ∷ es) d m = go (λ j. ordered_in es d j) (Memᴰ.cases_cons m)
  where
    go : (Memᴰ d es → Memᴰ (entry d) (ordered es)) → (d ≡ e) ⊎ Memᴰ d es → Memᴰ (entry d) (ordered es ++ (entry e ∷ []))
    go ih (inl q) = Memᴰ.append_right (ordered es) (Memᴰ.head (ap entry q))
    go ih (inr j) = Memᴰ.append_left _ (ih j)

in_parts : (d : Execution) → Memᴰ (marked d) (parts (entry d))
unfolding parts
in_parts d = Memᴰ.head refl

executed-past : (plan : Plan) (c : ℕ) (l : List Entry) (v : Version) (k : Command) (d t n : ℕ) (x : Result)
    → Memᴰ (record { version = v; cmd = k; res = x; at = t }) ((replay plan c (record { item = S.executed v k d x; at = t; bytes = n } ∷ l)).points k.point).past
unfolding replay apply apply_record executed_point
executed-past plan c l v k d t n x = rw (eqb_same k.point) (Memᴰ.head refl)

module _ (plan : Plan) (cs : List Change) (r : Run plan empty_world cs) where
  abbrev log : ℕ → ℕ → List Entry
  log n c = ((after cs n).servers c).log

  unfold_final : run cs ≡ final cs
  unfolding final
  unfold_final = refl

  -- an execution of the one timeline
  pub record Placed (m : Marked) (n : ℕ) : Type 0 where
    pub run : Execution
    pub among : Memᴰ run (timeline plan cs r)
    pub its : marked run ≡ m
    pub at : run.at ≡ n

  -- an execution that stands in a final log is in the timeline
  in_timeline : (c : ℕ) (l : List Entry) (m : Marked) (d t n : ℕ) (x : Result)
      → Tail (record { item = S.executed m.version m.command d x; at = t; bytes = n } ∷ l) ((final cs).servers c).log → Placed m t
  unfolding timeline final
  in_timeline c l m d t n x tl =
      let k = m.command in
      let j = Tail-mem (Tail-trans (past-tail k.point tl ((inv plan cs r).facts.grows c)) ((tops plan cs r k.point).all c)) (executed-past plan c l m.version k d t n x) in
      let i = executed-issued plan cs r _ (Legit-tail tl ((inv plan cs r).core.legit c)) refl in
      record {
        run = record { version = m.version; cmd = k; res = x; at = t };
        among = merged_in (by_event plan cs r) (H plan cs r) _ k.point point_count ((inv plan cs r).clients.small k i) j;
        its = refl;
        at = refl;
      }

  -- the log after an execution
  executed-log : (n c : ℕ) (m : Marked) (x : Executes cs n c m) → log (suc n) c ≡ record { item = S.executed m.version m.command x.done x.res; at = n; bytes = x.bytes } ∷ log n c
  unfolding step server_after
  executed-log n c m x =
      let i = at-is cs n _ x.event in
      let s : after cs (suc n) ≡ step (after cs n) (W.server c (W.writes (S.executed m.version m.command x.done x.res) x.bytes))
      = after-suc plan cs r n i.0 ∙ ap (step (after cs n)) i.1 in
      let k = clock-is plan cs r n (omega (arith, i.0)) in
      ap (λ (w : World). (w.servers c).log) s ∙ rw (eqb_same c, k)

  -- a surviving execution is in the timeline, at its event
  pub survives-at : (n : ℕ) (m : Marked) → SurvivesAt cs n m → Placed m n
  survives-at n m s =
      let c = s.server in
      let x = s.executes in
      let l = executed-log n c m x in
      let i = (at-is cs n _ x.event).0 in
      let t = stands_through plan cs r (suc n) (length cs) c (log (suc n) c) i (omega arith) (Logs.whole refl) (λ i j a b. s.kept i j a b) in
      in_timeline c (log n c) m x.done n x.bytes x.res
      (subst (λ (z : List Entry). Tail z ((final cs).servers c).log) l (subst (λ (z : World). Tail (log (suc n) c) (z.servers c).log) (last-world plan cs r) t))

  -- an entry is the one of its part
  part-is : (e : OrderEntry) (m : Marked) → Memᴰ m (parts e) → single m ≡ e
  unfolding parts
  part-is (single k) m i = ap single (Memᴰ.eq_of_singleton i)

  forth : (e : OrderEntry) → Survives cs e → Memᴰ e (order plan cs r)
  unfolding order
  forth e s =
      let p = survives-at s.at s.part s.survives in
      subst (λ (z : OrderEntry). Memᴰ z (ordered (timeline plan cs r))) (ap single p.its ∙ part-is e s.part s.among) (ordered_in (timeline plan cs r) p.run p.among)

  -- the event that wrote an execution was a Request of it, and its log was never shorter since: what stands in a final log survives
  pub stood : (d : Execution) → (c : ℕ) × Stands-in d (length ((run cs).servers c).log) ((run cs).servers c).log → (n : ℕ) × (s : SurvivesAt cs n (marked d)) × (s.executes.res ≡ d.res)
  stood d st = (n, record { server = c; executes = ex; kept = λ m j u v. let h = (at-is cs m _ v).0 in rw (executed-log n c (marked d) ex) (size (suc m) (omega arith) h) }, refl)
    where
      c : ℕ
      c = st.0

      e : Entry
      e = st.1.entry

      rest : List Entry
      rest = st.1.rest

      at_last : run cs ≡ after cs (length cs)
      at_last = unfold_final ∙ sym (last-world plan cs r)

      wr : Wrote plan cs r (length cs) c e rest
      wr = wrote plan cs r (length cs) (omega arith) c e rest (subst (λ (z : World). Tail (e ∷ rest) (z.servers c).log) at_last st.1.tail)

      n : ℕ
      n = e.at

      size : (m : ℕ) → n < m → m ≤ length cs → suc (length (log n c)) ≤ length (log m c)
      size m a b =
          let h = Tail-length (wr.stays m a b) in
          let q : length rest ≡ length (log n c) = ap length wr.before in omega arith

      ex : Executes cs n c (marked d)
      ex = record { done = st.1.done; res = d.res; bytes = e.bytes; event = is-at cs n _ wr.early (wr.src ∙ ap (λ (z : LogRecord). W.server c (W.writes z e.bytes)) st.1.item) }

  back : (k : OrderEntry) → Memᴰ k (order plan cs r) → Survives cs k
  unfolding order timeline
  back k m = found (ordered_out plan cs r (merged (by_event plan cs r) (H plan cs r) point_count) k m)
    where
      found : (d : Execution) × Memᴰ d (merged (by_event plan cs r) (H plan cs r) point_count) × (entry d ≡ k) → Survives cs k
      found d =
          let p = merged_out (by_event plan cs r) (H plan cs r) d.0 point_count d.1 in
          let s = stood d.0 ((tops plan cs r p.0).rooted d.0 p.1) in
          subst (Survives cs) d.2 (record { part = marked d.0; among = in_parts d.0; at = s.0; survives = s.1 })

  pub survivors : (k : OrderEntry) → Survives cs k ↔ Memᴰ k (order plan cs r)
  survivors k = (forth k, back k)

  -- a result told is that of an execution that stands in a final log
  pub times : (i : Id) (p : ℕ) (x : Result) → Memᴰ (S.answered i p x) (final cs).made → (n : ℕ) × (m : Marked) × (id_of m.command ≡ i) × Notes cs n m x.time
  unfolding final
  times i p x m =
      let h = (inv plan cs r).facts.shown i p x m in
      let d = h.1.done in
      let s = stood d ((tops plan cs r p).rooted d (shown_top plan cs r h.0 i p x h.1)) in
      (s.0, marked d, h.1.id, (s.1, ap (λ (z : Result). z.time) (s.2 ∙ h.1.res)))
