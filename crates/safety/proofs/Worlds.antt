-- Changes of one part of both worlds keep them alike.
--     alike-server, alike-client, alike-manager, alike-making     one part
--     same-packet, same-client           packets and clients by number
--     alike-outside                      calls of clients and of the lease manager
--     running-mark, running-size         the sync mark and the length of a running server's log, counted from the founding
--     alike-mark, alike-reach            of any server's
--     nothing-back                       a server that is not there
--     running-here, running-room         a server that runs
-- Assumes nothing.
use Prim.Native.Nat.{ℕ, ◌+◌}
use mathlib.Core.Path.{◌≡◌, refl, sym, ◌∙◌, ap, subst}
use mathlib.Core.Bool.{Bool, true, false}
use mathlib.Core.List.{List, [], ◌∷◌, ◌++◌}
use mathlib.Core.Option.{Option, none, some}
use native.Mathlib.Omega.{arith}
use lib.Dec.{eqb}
use lib.ListN.{length, get_elem?}
use borrow.Author.Tests.{eqb-true}
use Rattle.std.specs.Prelude.{Result, Ok, Err}
use Rattle.model.specs.declared.Refusal.{Refusal}
use Rattle.model.specs.declared.Client.{Client}
use Rattle.model.specs.declared.LeaseManager.{LeaseManager}
use Rattle.model.specs.declared.StartAnswer.{StartAnswer}
use Rattle.model.specs.declared.SendAnswer.{SendAnswer}
use Rattle.model.specs.declared.LeaseAnswer.{LeaseAnswer}
use Rattle.model.specs.Choice.{pick}
use Rattle.model.specs.States.{State, load}
use Rattle.model.specs.Checkpoints.{placed}
use Rattle.model.specs.Clients.{start_of, issue_of, resend_of, receive_of, sent_bytes}
use Rattle.model.specs.Leases.{open_of, renew_of, query_of, told_bytes}
use Rattle.model_invariants.specs.Placed.{seen_from}
use Rattle.safety.proofs.Facts.{local-from, holds-size}
use Rattle.claim.specs.World.{OutsideCall, start, issue, resend, receive, open·lease, renew, query}
use Rattle.claim.specs.World.{with_server, with_client, with_manager, making, starts_as, starts_on, sends, receives, told, packet, outside_step}
use Rattle.claim.specs.World as B
use Rattle.claim.specs.Provisos as BP
use Rattle.claim.specs.RecordWorld as R
use Rattle.claim.specs.RecordProvisos as RP
use Rattle.safety.specs.Alike.{RunningAlike, ServerAlike, nothing, running, storing, crashed, WorldAlike}
use Rattle.safety.specs.Decoded.{room_in, room_of}

module _ {plan : List ℕ} {r : R.World} {b : B.World} (l : WorldAlike plan r b) where
  pub alike-server : (c : ℕ) (s : R.Server) (t : B.Server) → ServerAlike plan c s t → WorldAlike plan (with_server c s r) (with_server c t b)
  unfolding with_server
  alike-server c s t k = record { servers = λ d. go d (eqb d c) refl; clients = l.clients; manager = l.manager; made = l.made }
    where
      go : (d : ℕ) (q : Bool) → eqb d c ≡ q → ServerAlike plan d (pick q s (r.servers d)) (pick q t (b.servers d))
      go d true e = rw (eqb-true d c e) k
      go d false e = l.servers d

  pub alike-client : (x : ℕ) (d : Client) → WorldAlike plan (with_client x d r) (with_client x d b)
  unfolding with_client
  alike-client x d =
      record {
        servers = l.servers;
        clients = ap (λ (f : ℕ → Option Client). λ y. pick (eqb y x) (some d) (f y)) l.clients;
        manager = l.manager;
        made = l.made;
      }

  pub alike-manager : (m : LeaseManager) → WorldAlike plan (with_manager m r) (with_manager m b)
  unfolding with_manager
  alike-manager m = record { servers = l.servers; clients = l.clients; manager = refl; made = l.made }

  pub alike-making : (p : List ℕ) → WorldAlike plan (making p r) (making p b)
  unfolding making
  alike-making [] = l
  alike-making (x ∷ p) =
      record {
        servers = l.servers;
        clients = l.clients;
        manager = l.manager;
        made = ap (λ (m : List (List ℕ)). m ++ ((x ∷ p) ∷ [])) l.made;
      }

  pub same-packet : (n : ℕ) → packet r n ≡ packet b n
  unfolding packet
  same-packet n = ap (λ (m : List (List ℕ)). get_elem? m n) l.made

  pub same-client : (x : ℕ) → r.clients x ≡ b.clients x
  same-client x = ap (λ (f : ℕ → Option Client). f x) l.clients

-- ---- clients and the lease manager

module _ {plan : List ℕ} {r : R.World} {b : B.World} (l : WorldAlike plan r b) where
  alike-started : (a : StartAnswer) → WorldAlike plan (starts_as a r) (starts_as a b)
  unfolding starts_as
  alike-started a = go a.answer
    where
      go : (s : Result Unit Refusal)
          → WorldAlike plan (elim s [ Err n ↦ r | Ok tt ↦ with_client a.client.client a.client r ])
          (elim s [ Err n ↦ b | Ok tt ↦ with_client a.client.client a.client b ])
      go (Err n) = l
      go (Ok tt) = alike-client l a.client.client a.client

  alike-starts : (o : Option (List ℕ)) → WorldAlike plan (starts_on o r) (starts_on o b)
  unfolding starts_on
  alike-starts none = l
  alike-starts (some p) = alike-started (start_of p)

  alike-sends : (x : ℕ) (f : Client → SendAnswer) (o : Option Client) → WorldAlike plan (sends x f o r) (sends x f o b)
  unfolding sends
  alike-sends x f none = l
  alike-sends x f (some d) = alike-making (alike-client l x (f d).client) (sent_bytes (f d).answer)

  alike-receives : (x : ℕ) (o : Option Client) (p : Option (List ℕ)) → WorldAlike plan (receives x o p r) (receives x o p b)
  unfolding receives
  alike-receives x none p = l
  alike-receives x (some d) none = l
  alike-receives x (some d) (some p) = alike-client l x (receive_of d p).client

  alike-told : (a : LeaseAnswer) → WorldAlike plan (told a r) (told a b)
  unfolding told
  alike-told a = alike-making (alike-manager l a.manager) (told_bytes a.answer)

  pub alike-outside : (e : OutsideCall) → WorldAlike plan (outside_step r e) (outside_step b e)
  unfolding outside_step told with_manager
  alike-outside (start p) = rw (same-packet l p) (alike-starts (packet b p))
  alike-outside (issue x op p a) = rw (same-client l x) (alike-sends x (λ d. issue_of d op p a) (b.clients x))
  alike-outside (resend x c) = rw (same-client l x) (alike-sends x (λ d. resend_of d c) (b.clients x))
  alike-outside (receive x p) = rw (same-client l x, same-packet l p) (alike-receives x (b.clients x) (packet b p))
  alike-outside (open·lease t span) = rw l.manager (alike-told (open_of b.manager t span))
  alike-outside (renew x t span) = rw l.manager (alike-told (renew_of b.manager x t span))
  alike-outside (query x t) = rw l.manager (alike-told (query_of b.manager x t))

-- ---- the log of a server, counted from the founding

module _ {plan : List ℕ} {c : ℕ} {st : State} {log : R.Log} {k : B.Stored} {state bytes : List ℕ} (K : RunningAlike plan c st log k state bytes) where
  pub running-mark : st.mark ≡ k.replaced + (load state).mark
  unfolding seen_from placed
  running-mark = sym (local-from k.replaced st.mark K.past) ∙ ap (λ (x : State). k.replaced + x.mark) (sym K.loads)

  pub running-size : st.size ≡ k.replaced + length bytes
  unfolding seen_from placed
  running-size =
      sym (local-from k.replaced st.size (omega (arith, K.past, K.mark))) ∙ ap (λ (x : State). k.replaced + x.size) (sym K.loads)
      ∙ ap (λ (n : ℕ). k.replaced + n) (holds-size K.holds)

pub alike-mark : {plan : List ℕ} {c : ℕ} {s : R.Server} {t : B.Server} → ServerAlike plan c s t → RP.mark_of s ≡ (B.stored_of t).replaced + BP.mark_of t
unfolding RP.mark_of BP.mark_of B.stored_of
alike-mark nothing = refl
alike-mark (running K) = running-mark K
alike-mark (storing K e L) = e ∙ running-size K
alike-mark (crashed K) = sym K.marked

pub alike-reach : {plan : List ℕ} {c : ℕ} {s : R.Server} {t : B.Server} → ServerAlike plan c s t → RP.length_of s ≡ BP.reach_of t
unfolding RP.length_of BP.length_of BP.reach_of B.stored_of
alike-reach nothing = refl
alike-reach (running K) = running-size K
alike-reach (storing K e L) = running-size K
alike-reach (crashed K) = sym K.reaches

-- ---- a server that is not there

pub nothing-back : {plan : List ℕ} {c : ℕ} {s : R.Server} {t : B.Server} → ServerAlike plan c s t → t ≡ B.nothing → s ≡ R.nothing
nothing-back nothing e = refl
nothing-back (running k) e = let z : ◌≡◌ {A = ℕ} 0 1 = cc in absurd (omega arith)
nothing-back (storing k m n) e = let z : ◌≡◌ {A = ℕ} 0 1 = cc in absurd (omega arith)
nothing-back (crashed k) e = let z : ◌≡◌ {A = ℕ} 0 1 = cc in absurd (omega arith)

-- ---- running servers

pub running-here : {plan : List ℕ} {c : ℕ} {x : R.Server} {y : B.Server} → ServerAlike plan c x y → (k : B.Stored) (state bytes : List ℕ) → y ≡ B.running k state bytes
    → (st : State) × (log : R.Log) × (x ≡ R.running st log) × RunningAlike plan c st log k state bytes
running-here nothing k state bytes e = let z : ◌≡◌ {A = ℕ} 0 1 = cc in absurd (omega arith)
running-here {plan} {c} (running {st = st} {log = log} {k = j} {state = s} {bytes = g} K) k state bytes e =
    let i : j ≡ k = cc in
    let a : s ≡ state = cc in
    let b : g ≡ bytes = cc in (
      st,
      log,
      refl,
      subst (λ (o : B.Stored). RunningAlike plan c st log o state bytes) i
          (subst (λ (o : List ℕ). RunningAlike plan c st log j o bytes) a (subst (λ (o : List ℕ). RunningAlike plan c st log j s o) b K)),
    )
running-here (storing K m L) k state bytes e = let z : ◌≡◌ {A = ℕ} 0 1 = cc in absurd (omega arith)
running-here (crashed K) k state bytes e = let z : ◌≡◌ {A = ℕ} 0 1 = cc in absurd (omega arith)

pub running-room : {y : B.Server} {k : B.Stored} {state bytes : List ℕ} → y ≡ B.running k state bytes → (t : B.Lent) (out : List ℕ) (need : State → ℕ)
    → room_of y t out need ≡ k.replaced + room_in t state bytes out need
unfolding room_of
running-room e t out need = rw e
