-- The order of a run: the points' pasts, merged by event.
--     order          the order;  timeline   its executions, the newest first;  H   each point's past
--     once           no id stands twice;  results   every result received is the order's;  values   so is every holder's value
-- Assumes nothing.
use mathlib.Core.Path.{◌≡◌, refl, sym, ◌∙◌, ap, subst}
use mathlib.Core.Bool.{Bool, true, false}
use mathlib.Core.List.Memᴰ
use mathlib.Core.List.{List, [], ◌∷◌, ◌++◌, Memᴰ}
use mathlib.Core.Logic.{◌⊎◌, inl, inr}
use native.Mathlib.Omega.{arith}
use Prim.Native.Nat.{ℕ, ◌<◌}
use lib.Dec.{eqb}
use borrow.Author.Tests.{eqb-false}
use Rattle.model.specs.Limits.{point_count}
use Rattle.model.specs.Versions.{Version}
use Rattle.model.specs.Sequential.{Marked, OrderEntry, parts, one, opened, values_after, Answers}
use Rattle.model.specs.declared.Command.{Command}
use Rattle.model.specs.Choice.{pick}
use Rattle.proof_protocol.specs.Servers.{Plan, Id, id_of, Result, Execution, Entry, LogRecord, State}
use Rattle.proof_protocol.specs.Servers as S
use Rattle.proof_protocol.specs.World.{World, Change, empty_world, run, state_of, issued, received}
use Rattle.claim.specs.Claim.{Once}
use Rattle.claim.specs.Claim as Claim
use Rattle.proof_protocol.specs.Explains.{Holder, final}
use Rattle.proof_protocol.specs.Allowed.{Written, Run}
use Rattle.proof_protocol.specs.Allowed as I
use Rattle.proof_protocol.proofs.Basics.{impossible, eqb_same}
use Rattle.proof_protocol.proofs.Memory.{Past, more, value_after, Same, on_point}
use Rattle.proof_protocol.proofs.Logs.{Tail-mem, Tail-trans, Legit, Legit-tail}
use Rattle.proof_protocol.proofs.Logs as Logs
use Rattle.proof_protocol.proofs.Core.{In}
use Rattle.proof_protocol.proofs.Facts.{Shown, past-tail}
use Rattle.proof_protocol.proofs.Clients.{Saw}
use Rattle.proof_protocol.proofs.Inv.{Inv, run_inv}
use Rattle.proof_protocol.proofs.Top.{Top, one-past}
use Rattle.proof_protocol.proofs.Order as Order
use Rattle.proof_protocol.proofs.Order.{merged, entry, ordered, only, past_rises, merged_good, merged_only, merged_in, order-values, order_answers}

-- a command that is executed was issued
pub written-issued : (plan : Plan) (w : World) → Inv plan w → {c : ℕ} {s : State} {y : LogRecord} {v : Version} {k : Command} {done : ℕ} {x : Result} → Written plan c s (In w.made) y
    → y ≡ S.executed v k done x
    → Saw w.seen (issued k)
written-issued plan w inv {k = k} (I.executing u a _ m b d f n _) h = let z : a.cmd ≡ k = cc in subst (λ (y : Command). Saw w.seen (issued y)) z (inv.clients.asked a m)
written-issued plan w inv (I.going z t m) h = let z : ◌≡◌ {A = ℕ} 0 1 = cc in absurd (omega arith)
written-issued plan w inv (I.giving p d hd) h = let z : ◌≡◌ {A = ℕ} 0 1 = cc in absurd (omega arith)
written-issued plan w inv (I.taking i m b d f) h = let z : ◌≡◌ {A = ℕ} 0 1 = cc in absurd (omega arith)
written-issued plan w inv (I.freeing p d m b f g) h = let z : ◌≡◌ {A = ℕ} 0 1 = cc in absurd (omega arith)

module _ (plan : Plan) (cs : List Change) (r : Run plan empty_world cs) where
  abbrev w : World
  w = run cs

  pub inv : Inv plan w
  inv = run_inv plan cs r

  unfoldable pub H : ℕ → List Execution
  H p = (one-past plan cs r p).0

  pub tops : (p : ℕ) → Top plan w (run_inv plan cs r) p (H p)
  unfolding H
  tops p = (one-past plan cs r p).1

  -- merged by event
  abbrev pub by_event : Execution → ℕ
  by_event d = d.at

  unfoldable pub timeline : List Execution
  timeline = merged by_event H point_count

  unfoldable pub order : List OrderEntry
  order = ordered timeline

  good : (p : ℕ) → Past plan p (only p timeline)
  unfolding timeline
  good p = merged_good by_event plan H (λ q. (tops q).past) (λ q. past_rises (H q) (tops q).past) point_count p

  -- ---- every execution in a past was issued

  pub executed-issued : {c : ℕ} {l : List Entry} {v : Version} {k : Command} {done : ℕ} {x : Result} (e : Entry) → Legit plan (In w.made) c w.clock (e ∷ l)
      → e.item ≡ S.executed v k done x → Saw w.seen (issued k)
  executed-issued e (Logs.then wr a o g) q = written-issued plan w inv wr q

  pub issued-past : (p : ℕ) (d : Execution) → Memᴰ d (H p) → Saw w.seen (issued d.cmd)
  issued-past p d m = let s = (tops p).rooted d m in executed-issued s.1.entry (Legit-tail s.1.tail (inv.core.legit s.0)) s.1.item

  -- ---- results

  pub shown_top : (c : ℕ) (j : Id) (p : ℕ) (x : Result) (s : Shown plan c (w.servers c).mark (w.servers c).log j p x) → Memᴰ s.done (H p)
  shown_top c j p x s = Tail-mem (Tail-trans (past-tail p s.tail (inv.facts.grows c)) ((tops p).all c)) s.among

  pub results : (k : Command) (x : Result) → Saw w.seen (received k x) → Answers plan (opened plan) order (k ∷ []) (one x.answer)
  unfolding order timeline
  results k x m =
      let h = inv.clients.results k x m in
      let b = h.1 in
      let s = inv.facts.shown (id_of k) b.point x b.packet in
      let d = s.1.done in
      let t = shown_top s.0 (id_of k) b.point x s.1 in
      let same : d.cmd ≡ k = inv.clients.single d.cmd k (issued-past b.point d t) h.0 s.1.id in
      let on : b.point < point_count = subst (λ (z : ℕ). z < point_count) (on_point (tops b.point).past d t) (inv.clients.small d.cmd (issued-past b.point d t)) in
      let a = order_answers plan (merged by_event H point_count) good d (merged_in by_event H d b.point point_count on t) in
      subst (λ (z : Result). Answers plan (opened plan) (ordered (merged by_event H point_count)) (k ∷ []) (one z.answer)) s.1.res
      (subst (λ (z : Command). Answers plan (opened plan) (ordered (merged by_event H point_count)) (z ∷ []) (one d.res.answer)) same a)

  -- ---- values

  pub values : (p c : ℕ) → p < point_count → Holder plan cs p c → ((state_of plan (final cs) c).points p).value ≡ values_after plan (opened plan) order p
  unfolding order timeline final state_of
  values p c lt h =
      let v = ((tops p).holder c (record {
        founded = h.founded;
        greatest = λ d f. h.greatest d f;
        taker = λ d f e. h.taker d f e;
        home = h.home;
      })).1 in
      let only-p = merged_only by_event plan H (λ q. (tops q).past) (λ q. past_rises (H q) (tops q).past) p point_count lt in
      v ∙ ap (value_after plan p) (sym only-p) ∙ sym (order-values plan (merged by_event H point_count) good p)

  -- ---- each once

  clear : (d : Execution) (ds : List Execution) → ((p : ℕ) → Past plan p (only p (d ∷ ds))) → (e : Execution) → Memᴰ e (only d.cmd.point ds) → Same e.cmd d.cmd → ⊥
  unfolding only
  clear d ds g e m s = go (eqb d.cmd.point d.cmd.point) (eqb_same d.cmd.point) (g d.cmd.point)
    where
      go : (b : Bool) → b ≡ true → Past plan d.cmd.point (pick b (d ∷ only d.cmd.point ds) (only d.cmd.point ds)) → ⊥
      go true q (more pt r f old rest) = f e m s
      go false q k = impossible (sym q)

  only_in : (e : Execution) (l : List Execution) (p : ℕ) → Memᴰ e l → e.cmd.point ≡ p → Memᴰ e (only p l)
  unfolding only
  only_in e [] p m q = absurd (Memᴰ.not-nil m)
  only_in e (d ∷ ds) p m q = go (λ j. only_in e ds p j q) (eqb d.cmd.point p) refl (Memᴰ.cases_cons m)
    where
      go : (Memᴰ e ds → Memᴰ e (only p ds)) → (b : Bool) → eqb d.cmd.point p ≡ b → (e ≡ d) ⊎ Memᴰ e ds → Memᴰ e (pick b (d ∷ only p ds) (only p ds))
      go ih true x (inl y) = Memᴰ.head y
      go ih true x (inr j) = Memᴰ.tail (ih j)
      go ih false x (inl y) = absurd (eqb-false _ _ x (ap (λ (z : Execution). z.cmd.point) (sym y) ∙ q))
      go ih false x (inr j) = ih j

  -- two entries with parts of one id
  pub record Meet (o e : OrderEntry) : Type 0 where
    pub left : Marked
    pub right : Marked
    pub in_left : Memᴰ left (parts o)
    pub in_right : Memᴰ right (parts e)
    pub client : left.command.client ≡ right.command.client
    pub call : left.command.call ≡ right.command.call

  once_last : (xs : List OrderEntry) (c : OrderEntry) → Once xs → ((d : OrderEntry) → Memᴰ d xs → Meet d c → ⊥) → Once (xs ++ (c ∷ []))
  once_last [] c Claim.none_left f = Claim.one_more (λ d k m i. absurd (Memᴰ.not-nil i)) Claim.none_left
  once_last (x ∷ xs) c (Claim.one_more g o) f =
      Claim.one_more (λ d k m i a b p q. either d (Memᴰ.append_cases xs i) (record { left = k; right = m; in_left = a; in_right = b; client = p; call = q }))
      (once_last xs c o (λ d m. f d (Memᴰ.tail m)))
    where
      turned : Meet c x → Meet x c
      turned h = record { left = h.right; right = h.left; in_left = h.in_right; in_right = h.in_left; client = sym h.client; call = sym h.call }

      either : (d : OrderEntry) → Memᴰ d xs ⊎ Memᴰ d (c ∷ []) → Meet d x → ⊥
      either d (inl m) h = g d h.left h.right m h.in_left h.in_right h.client h.call
      either d (inr m) h = f x (Memᴰ.head refl) (turned (subst (λ (z : OrderEntry). Meet z x) (Memᴰ.eq_of_singleton m) h))

  pub ordered_out : (l : List Execution) (k : OrderEntry) → Memᴰ k (ordered l) → (d : Execution) × Memᴰ d l × (entry d ≡ k)
  unfolding ordered
  ordered_out [] k m = absurd (Memᴰ.not-nil m)
  ordered_out (d ∷ ds) k m = go (λ j. ordered_out ds k j) (Memᴰ.append_cases (ordered ds) m)
    where
      go : (Memᴰ k (ordered ds) → (x : Execution) × Memᴰ x ds × (entry x ≡ k)) → Memᴰ k (ordered ds) ⊎ Memᴰ k (entry d ∷ [])
          → (x : Execution) × Memᴰ x (d ∷ ds) × (entry x ≡ k)
      go ih (inl j) = let r = ih j in (r.0, Memᴰ.tail r.1, r.2)
      go ih (inr j) = (d, Memᴰ.head refl, sym (Memᴰ.eq_of_singleton j))

  -- the executions of two entries that meet
  meet_same : (d e : Execution) → Meet (entry e) (entry d) → Same e.cmd d.cmd
  unfolding parts
  meet_same d e h =
      let a = ap (λ (z : Marked). z.command) (Memᴰ.eq_of_singleton h.in_left) in
      let b = ap (λ (z : Marked). z.command) (Memᴰ.eq_of_singleton h.in_right) in
      sym (ap id_of a) ∙ ap (λ (z : ℕ). record { client = z; call = h.left.command.call }) h.client ∙ ap (λ (z : ℕ). record { client = h.right.command.client; call = z }) h.call ∙ ap id_of b

  once_all : (l : List Execution) → ((p : ℕ) → Past plan p (only p l)) → ((d : Execution) → Memᴰ d l → Saw w.seen (issued d.cmd)) → Once (ordered l)
  unfolding ordered
  once_all [] g iss = Claim.none_left
  once_all (d ∷ ds) g iss = once_last (ordered ds) (entry d) (once_all ds (rest g) (λ e m. iss e (Memᴰ.tail m))) (λ k m h. no_twin k h (ordered_out ds k m))
    where
      rest : ((p : ℕ) → Past plan p (only p (d ∷ ds))) → (p : ℕ) → Past plan p (only p ds)
      rest g p = Order.tail-good plan d ds g p

      no_twin : (k : OrderEntry) → Meet k (entry d) → (e : Execution) × Memᴰ e ds × (entry e ≡ k) → ⊥
      no_twin k h e =
          let sm : Same e.0.cmd d.cmd = meet_same d e.0 (subst (λ (z : OrderEntry). Meet z (entry d)) (sym e.2) h) in
          let q = inv.clients.single e.0.cmd d.cmd (iss e.0 (Memᴰ.tail e.1)) (iss d (Memᴰ.head refl)) sm in
          clear d ds g e.0 (only_in e.0 ds d.cmd.point e.1 (ap (λ (z : Command). z.point) q)) sm

  pub once : Once order
  unfolding order timeline
  once = once_all (merged by_event H point_count) good (λ d m. let s = Order.merged_out by_event H d point_count m in issued-past s.0 d s.1)
