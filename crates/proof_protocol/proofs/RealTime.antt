-- A command completed before another was issued stands first; the order keeps each point's sequence; and the whole.
--     completed_then   a command completed within the first n changes was executed by one of them, and that execution is in the order
--     real_time, sequence   the last clauses
--     explained        one order explains every run
-- Assumes nothing.
use mathlib.Core.Path.{◌≡◌, refl, sym, ◌∙◌, ap, subst}
use mathlib.Core.Bool.{Bool, true, false}
use mathlib.Core.List.Memᴰ
use mathlib.Core.List.{List, [], ◌∷◌, ◌++◌, Memᴰ}
use mathlib.Core.Logic.{◌⊎◌, inl, inr}
use native.Mathlib.Omega.{arith}
use Prim.Native.Nat.{ℕ, suc, ◌≤◌, ◌<◌}
use lib.Dec.{ltb}
use lib.ListN.{length, take}
use borrow.Author.Tests.{ltb-true, ltb-false}
use Rattle.model.specs.Limits.{point_count}
use Rattle.model.specs.declared.Command.{Command}
use Rattle.model.specs.Sequential.{Marked, OrderEntry, single, parts, commands, EntryResult, one, opened, Answers}
use Rattle.proof_protocol.specs.Servers.{Plan, id_of, Result, Execution, Entry}
use Rattle.proof_protocol.specs.Servers as S
use Rattle.proof_protocol.specs.World.{World, Change, empty_world, issued, received, run, command_at, seen_by, step}
use Rattle.proof_protocol.specs.World as W
use Rattle.proof_protocol.specs.Allowed.{Allowed, Run}
use Rattle.proof_protocol.specs.Allowed as I
use Rattle.claim.specs.Claim.{Before}
use Rattle.claim.specs.Claim as Claim
use Rattle.proof_protocol.specs.Explains.{after, final, Issues, Completes, SurvivesAt, Explained}
use Rattle.proof_protocol.proofs.Memory.{on_point, Same, Past, begun, more}
use Rattle.proof_protocol.proofs.Logs.{Tail, Tail-trans, Tail-mem, Legit-tail}
use Rattle.proof_protocol.proofs.Core.{early-past}
use Rattle.proof_protocol.proofs.Facts.{past-tail, Stands-in}
use Rattle.proof_protocol.proofs.Clients.{Saw, not_yet}
use Rattle.proof_protocol.proofs.Inv.{run_inv}
use Rattle.proof_protocol.proofs.Order.{marked, entry, ordered, merged_in, merged_out, Falls, next, merged_falls}
use Rattle.proof_protocol.proofs.Trace.{run_take, after-suc, allowed_at, at-is, clock-is, last-world, wrote, seen_on, synced_on, inv_at}
use Rattle.proof_protocol.proofs.Final.{written-issued, by_event, H, timeline, order, tops, inv, shown_top, issued-past, ordered_out, once, results, values}
use Rattle.proof_protocol.proofs.Survive.{ordered_in, survivors, survives-at, times}

-- ---- an execution is one

past-single : {plan : Plan} {p : ℕ} {ds : List Execution} → Past plan p ds → (d e : Execution) → Memᴰ d ds → Memᴰ e ds → d.cmd ≡ e.cmd → d ≡ e
past-single begun d e m n s = absurd (Memᴰ.not-nil m)
past-single (more {d = x} {ds = xs} _ _ f _ rest) d e m n s = go (Memᴰ.cases_cons m) (Memᴰ.cases_cons n) (λ i j. past-single rest d e i j s)
  where
    twin : (y z : Execution) → y ≡ x → z.cmd ≡ y.cmd → Same z.cmd x.cmd
    twin y z q k = ap id_of (k ∙ ap (λ (w : Execution). w.cmd) q)

    go : (d ≡ x) ⊎ Memᴰ d xs → (e ≡ x) ⊎ Memᴰ e xs → (Memᴰ d xs → Memᴰ e xs → d ≡ e) → d ≡ e
    go (inl a) (inl b) ih = a ∙ sym b
    go (inl a) (inr j) ih = absurd (f e j (twin d e a (sym s)))
    go (inr i) (inl b) ih = absurd (f d i (twin e d b s))
    go (inr i) (inr j) ih = ih i j

-- ---- the command of an entry

same-command : {k l : Command} → k ∷ [] ≡ l ∷ [] → k ≡ l
same-command h = cc

entry-commands : (d : Execution) (a : OrderEntry) → entry d ≡ a → d.cmd ∷ [] ≡ commands a
unfolding commands parts
entry-commands d a e = ap commands e

part-commands : (d : Execution) (j : Marked) (a : OrderEntry) → marked d ≡ j → Memᴰ j (parts a) → d.cmd ∷ [] ≡ commands a
unfolding commands parts
part-commands d j (single m) e i = ap (λ (z : Marked). z.command ∷ []) (e ∙ Memᴰ.eq_of_singleton i)

module _ (plan : Plan) (cs : List Change) (run_ok : Run plan empty_world cs) where
  before_last : (k l : OrderEntry) (xs : List OrderEntry) → Memᴰ k xs → Before k l (xs ++ (l ∷ []))
  before_last k l [] m = absurd (Memᴰ.not-nil m)
  before_last k l (x ∷ xs) m = go (λ j. before_last k l xs j) (Memᴰ.cases_cons m)
    where
      end : (ys : List OrderEntry) → Memᴰ l (ys ++ (l ∷ []))
      end [] = Memᴰ.head refl
      end (y ∷ ys) = Memᴰ.tail (end ys)

      go : (Memᴰ k xs → Before k l (xs ++ (l ∷ []))) → (k ≡ x) ⊎ Memᴰ k xs → Before k l (x ∷ (xs ++ (l ∷ [])))
      go ih (inl e) = subst (λ (z : OrderEntry). Before k l (z ∷ (xs ++ (l ∷ [])))) e (Claim.first (end xs))
      go ih (inr j) = Claim.later (ih j)

  before_more : (k l : OrderEntry) (xs ys : List OrderEntry) → Before k l xs → Before k l (xs ++ ys)
  before_more k l xs ys (Claim.first m) = Claim.first (Memᴰ.append_left ys m)
  before_more k l xs ys (Claim.later b) = Claim.later (before_more k l _ ys b)

  by_time : (x y : Execution) (ls : List Execution) → Falls (by_event plan cs run_ok) ls → Memᴰ x ls → Memᴰ y ls → x.at < y.at → Before (entry x) (entry y) (ordered ls)
  unfolding ordered
  by_time x y [] f mx my h = absurd (Memᴰ.not-nil mx)
  by_time x y (z ∷ zs) (next g f) mx my h = go (λ a b. by_time x y zs f a b h) (Memᴰ.cases_cons mx) (Memᴰ.cases_cons my)
    where
      go : (Memᴰ x zs → Memᴰ y zs → Before (entry x) (entry y) (ordered zs)) → (x ≡ z) ⊎ Memᴰ x zs → (y ≡ z) ⊎ Memᴰ y zs → Before (entry x) (entry y) (ordered zs ++ (entry z ∷ []))
      go ih (inl a) (inl b) = let p : x.at ≡ z.at = ap (λ (d : Execution). d.at) a in let q : y.at ≡ z.at = ap (λ (d : Execution). d.at) b in absurd (omega arith)
      go ih (inl a) (inr j) = let p : x.at ≡ z.at = ap (λ (d : Execution). d.at) a in let q = g y j in absurd (omega arith)
      go ih (inr i) (inl b) = subst (λ (d : Execution). Before (entry x) (entry y) (ordered zs ++ (entry d ∷ []))) b (before_last (entry x) (entry y) (ordered zs) (ordered_in zs x i))
      go ih (inr i) (inr j) = before_more _ _ _ _ (ih i j)

  -- two executions of the timeline with one command are one
  one-run : (d e : Execution) → Memᴰ d (timeline plan cs run_ok) → Memᴰ e (timeline plan cs run_ok) → d.cmd ≡ e.cmd → d ≡ e
  unfolding timeline
  one-run d e m n s = go (merged_out (by_event plan cs run_ok) (H plan cs run_ok) d point_count m) (merged_out (by_event plan cs run_ok) (H plan cs run_ok) e point_count n)
    where
      go : (p : ℕ) × Memᴰ d (H plan cs run_ok p) → (q : ℕ) × Memᴰ e (H plan cs run_ok q) → d ≡ e
      go p q =
          let a = on_point (tops plan cs run_ok p.0).past d p.1 in
          let b = on_point (tops plan cs run_ok q.0).past e q.1 in
          let c : q.0 ≡ p.0 = sym b ∙ ap (λ (z : Command). z.point) (sym s) ∙ a in
          past-single (tops plan cs run_ok p.0).past d e p.1 (subst (λ (z : ℕ). Memᴰ e (H plan cs run_ok z)) c q.1) s

  -- executions of the order stand in it by their events
  in_sequence : (a b : OrderEntry) (d e : Execution) → Memᴰ d (timeline plan cs run_ok) → Memᴰ e (timeline plan cs run_ok) → d.cmd ∷ [] ≡ commands a → e.cmd ∷ [] ≡ commands b
      → d.at < e.at
      → Memᴰ a (order plan cs run_ok) → Memᴰ b (order plan cs run_ok) → Before a b (order plan cs run_ok)
  unfolding order
  in_sequence a b d e m n p q lt ma mb = subst (λ (z : OrderEntry). Before z b (ordered (timeline plan cs run_ok))) (its a d m p (ordered_out plan cs run_ok (timeline plan cs run_ok) a ma))
      (subst (λ (z : OrderEntry). Before (entry d) z (ordered (timeline plan cs run_ok))) (its b e n q (ordered_out plan cs run_ok (timeline plan cs run_ok) b mb))
      (by_time d e (timeline plan cs run_ok) falls m n lt))
    where
      falls : Falls (by_event plan cs run_ok) (timeline plan cs run_ok)
      falls = unfold timeline in (merged_falls (by_event plan cs run_ok) (H plan cs run_ok) point_count)

      its : (c : OrderEntry) (f : Execution) → Memᴰ f (timeline plan cs run_ok) → f.cmd ∷ [] ≡ commands c → (g : Execution) × Memᴰ g (timeline plan cs run_ok) × (entry g ≡ c) → entry f ≡ c
      its c f k s g = ap entry (one-run f g.0 k g.1 (same-command (s ∙ sym (entry-commands g.0 c g.2)))) ∙ g.2

  run-last : run cs ≡ after cs (length cs)
  run-last = unfold_final ∙ sym (last-world plan cs run_ok)
    where
      unfold_final : run cs ≡ final cs
      unfold_final = unfold final in refl

  -- an execution of the order was issued by the time of its event
  issued-then : (p : ℕ) (d : Execution) → Memᴰ d (H plan cs run_ok p) → (d.at < length cs) × Saw (after cs d.at).seen (issued d.cmd)
  issued-then p d m = go ((tops plan cs run_ok p).rooted d m)
    where
      go : (c : ℕ) × Stands-in d (length ((run cs).servers c).log) ((run cs).servers c).log → (d.at < length cs) × Saw (after cs d.at).seen (issued d.cmd)
      go st =
          let e = st.1.entry in
          let wr = wrote plan cs run_ok (length cs) (omega arith) st.0 e st.1.rest (subst (λ (z : World). Tail (e ∷ st.1.rest) (z.servers st.0).log) run-last st.1.tail) in
          let at-is = st.1.at in (
            subst (λ (z : ℕ). z < length cs) at-is wr.early,
            subst (λ (z : ℕ). Saw (after cs z).seen (issued d.cmd)) at-is
                (src st.0 e st.1.done st.1.item (subst (Allowed plan (after cs e.at)) wr.src (allowed_at plan cs run_ok e.at wr.early))),
          )
        where
          src : (c : ℕ) (e : Entry) (dn : ℕ) → e.item ≡ S.executed d.version d.cmd dn d.res → Allowed plan (after cs e.at) (W.server c (W.writes e.item e.bytes))
              → Saw (after cs e.at).seen (issued d.cmd)
          src c e dn q (I.writing b x y f wr) = written-issued plan (after cs e.at) (inv_at plan cs run_ok e.at) wr q

  -- a command completed within the first b changes was executed by one of them, and that execution is in the order
  completed_then : (b : ℕ) → b ≤ length cs → (k : Command) (r : Result) → Saw (after cs b).seen (received k r)
      → (d : Execution) × Memᴰ d (H plan cs run_ok k.point) × (d.cmd ≡ k) × (d.at < b)
  completed_then b le k r m = go (unfold after in m)
    where
      cs' : List Change
      cs' = take b cs

      ok' : Run plan empty_world cs'
      ok' = run_take b run_ok

      go : Saw (run cs').seen (received k r) → (d : Execution) × Memᴰ d (H plan cs run_ok k.point) × (d.cmd ≡ k) × (d.at < b)
      go m =
          let i = run_inv plan cs' ok' in
          let h = i.clients.results k r m in
          let br = h.1 in
          let s = i.facts.shown (id_of k) br.point r br.packet in
          let c = s.0 in
          let sh = s.1 in
          let top = shown_top plan cs' ok' c (id_of k) br.point r sh in
          let same : sh.done.cmd ≡ k = i.clients.single sh.done.cmd k (issued-past plan cs' ok' br.point sh.done top) h.0 sh.id in
          let on : br.point ≡ k.point = sym (on_point (tops plan cs' ok' br.point).past sh.done top) ∙ ap (λ (z : Command). z.point) same in
          let soon = early-past plan (run cs').made c (run cs').clock i.core.early br.point sh.at (Legit-tail sh.tail (i.core.legit c)) sh.done sh.among in
          let clk : (run cs').clock ≡ b = unfold_clock in
          let tl = (synced_on plan cs run_ok b (length cs) c sh.at le (omega arith) (fold_tail c sh.at sh.tail) (fold_mark c sh.at sh.short)).0 in
          let tl' : Tail sh.at ((run cs).servers c).log = subst (λ (z : World). Tail sh.at (z.servers c).log) (sym run-last) tl in
          let mem = Tail-mem (Tail-trans (past-tail br.point tl' ((inv plan cs run_ok).facts.grows c)) ((tops plan cs run_ok br.point).all c)) sh.among in
          (sh.done, subst (λ (z : ℕ). Memᴰ sh.done (H plan cs run_ok z)) on mem, same, omega arith)
        where
          unfold_clock : (run (take b cs)).clock ≡ b
          unfold_clock = unfold after in (clock-is plan cs run_ok b le)

          fold_tail : (c : ℕ) (l : List Entry) → Tail l ((run (take b cs)).servers c).log → Tail l ((after cs b).servers c).log
          fold_tail c l t = unfold after in t

          fold_mark : (c : ℕ) (l : List Entry) → length l ≤ ((run (take b cs)).servers c).mark → length l ≤ ((after cs b).servers c).mark
          fold_mark c l t = unfold after in t

  -- ---- the clauses by event numbers

  -- the command that change n completes
  abbrev done : {n : ℕ} {ks : List Command} {r : EntryResult} → Completes cs n ks r → Command
  done c = command_at c.state c.id.call

  completes_seen : (n : ℕ) (ks : List Command) (r : EntryResult) (c : Completes cs n ks r) → (n < length cs) × Saw (after cs (suc n)).seen (received (done c) c.res)
  unfolding step seen_by
  completes_seen n ks r c =
      let i = at-is cs n _ c.event in
      let s : after cs (suc n) ≡ step (after cs n) (W.client c.client (W.receives c.state c.id c.point c.res)) = after-suc plan cs run_ok n i.0 ∙ ap (step (after cs n)) i.1 in
      (i.0, subst (λ (w : World). Saw w.seen (received (done c) c.res)) (sym s) (Memᴰ.head refl))

  issues_new : (n : ℕ) (k : Command) → Issues cs n (k ∷ []) → Saw (after cs n).seen (issued k) → ⊥
  issues_new n k i s = go (subst (Allowed plan (after cs n)) (at-is cs n _ i.event).1 (allowed_at plan cs run_ok n (at-is cs n _ i.event).0))
    where
      go : Allowed plan (after cs n) (W.client i.client (W.issues i.state i.op i.point i.argument)) → ⊥
      go (I.issuing x d o p a e sm) = not_yet (after cs n).clients (after cs n).made (after cs n).seen (inv_at plan cs run_ok n).clients x d o p a e sm k s (ap id_of (sym (same-command i.its)))

  -- the execution of a completed command
  completed_at : (n : ℕ) (ks : List Command) (r : EntryResult) → Completes cs n ks r → (d : Execution) × Memᴰ d (timeline plan cs run_ok) × (d.cmd ∷ [] ≡ ks) × (d.at < suc n)
  unfolding timeline
  completed_at n ks r c =
      let k = done c in
      let s = completes_seen n ks r c in
      let d = completed_then (suc n) s.0 k c.res s.1 in
      let i = subst (λ (z : Command). Saw (run cs).seen (issued z)) d.2 (issued-past plan cs run_ok k.point d.0 d.1) in
      (d.0, merged_in (by_event plan cs run_ok) (H plan cs run_ok) d.0 k.point point_count ((inv plan cs run_ok).clients.small k i) d.1, ap (λ (z : Command). z ∷ []) d.2 ∙ c.its, d.3)

  pub results_of : (n : ℕ) (ks : List Command) (r : EntryResult) → Completes cs n ks r → Answers plan (opened plan) (order plan cs run_ok) ks r
  results_of n ks r c =
      let s = completes_seen n ks r c in
      subst (Answers plan (opened plan) (order plan cs run_ok) ks) c.result
      (subst (λ (z : List Command). Answers plan (opened plan) (order plan cs run_ok) z (one c.res.answer)) c.its
      (results plan cs run_ok (done c) c.res
      (subst (λ (z : World). Saw z.seen (received (done c) c.res)) (sym run-last) (Tail-mem (seen_on plan cs run_ok (suc n) (length cs) s.0 (omega arith)) s.1))))

  -- a command that event n issues is executed after it
  after-issue : (n : ℕ) (k : Command) → Issues cs n (k ∷ []) → (e : Execution) → Memᴰ e (timeline plan cs run_ok) → e.cmd ≡ k → n ≤ e.at
  unfolding timeline
  after-issue n k i e j q = go (merged_out (by_event plan cs run_ok) (H plan cs run_ok) e point_count j)
    where
      go : (p : ℕ) × Memᴰ e (H plan cs run_ok p) → n ≤ e.at
      go p = cases (ltb e.at n) refl
        where
          cases : (x : Bool) → ltb e.at n ≡ x → n ≤ e.at
          cases false h = ltb-false _ _ h
          cases true h =
              let s = issued-then p.0 e p.1 in
              let v = ltb-true e.at n h in
              let inside = (at-is cs n _ i.event).0 in
              let u = Tail-mem (seen_on plan cs run_ok e.at n (omega arith) (omega arith)) s.1 in
              absurd (issues_new n k i (subst (λ (z : Command). Saw (after cs n).seen (issued z)) q u))

  -- the execution of a command of the order
  order-out : (b : OrderEntry) → Memᴰ b (order plan cs run_ok) → (e : Execution) × Memᴰ e (timeline plan cs run_ok) × (entry e ≡ b)
  unfolding order
  order-out b m = ordered_out plan cs run_ok (timeline plan cs run_ok) b m

  pub real_time : (m n : ℕ) (a b : OrderEntry) (r : EntryResult) → Completes cs m (commands a) r → Issues cs n (commands b) → m < n
      → Memᴰ a (order plan cs run_ok) → Memᴰ b (order plan cs run_ok) → Before a b (order plan cs run_ok)
  real_time m n a b r c i lt ma mb =
      let d = completed_at m (commands a) r c in
      let e = order-out b mb in
      let k : e.0.cmd ∷ [] ≡ commands b = entry-commands e.0 b e.2 in
      let early = d.3 in
      let late = after-issue n e.0.cmd (subst (Issues cs n) (sym k) i) e.0 e.1 refl in
      in_sequence a b d.0 e.0 d.1 e.1 d.2 k (omega arith) ma mb

  pub sequence : (m n : ℕ) (j k : Marked) (a b : OrderEntry) → SurvivesAt cs m j → SurvivesAt cs n k → m < n
      → j.command.point ≡ k.command.point → Memᴰ j (parts a) → Memᴰ k (parts b) → Memᴰ a (order plan cs run_ok) → Memᴰ b (order plan cs run_ok) → Before a b
      (order plan cs run_ok)
  sequence m n j k a b s t lt same ja kb ma mb =
      let d = survives-at plan cs run_ok m j s in
      let e = survives-at plan cs run_ok n k t in
      let p = d.at in
      let q = e.at in
      in_sequence a b d.run e.run d.among e.among (part-commands d.run j a d.its ja) (part-commands e.run k b e.its kb) (omega arith) ma mb

-- demand 3 over the abstract world
pub explained : Explained
unfolding Explained
explained plan cs r = (
  order plan cs r,
  record {
    once = once plan cs r;
    survivors = survivors plan cs r;
    results = results_of plan cs r;
    values = values plan cs r;
    real_time = real_time plan cs r;
    sequence = sequence plan cs r;
    times = times plan cs r;
  },
)
