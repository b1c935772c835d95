-- The invariant of a run.
--     Inv            the servers' (Core, Facts), the lease manager's, the clients'
--     keeps          every change that may happen keeps it;  run_inv   it holds after every run
-- Assumes nothing.
use mathlib.Core.Path.{◌≡◌, refl, sym, ◌∙◌, ap, subst}
use mathlib.Core.Bool.{Bool, true, false}
use mathlib.Core.List.Memᴰ
use mathlib.Core.List.{List, [], ◌∷◌, Memᴰ}
use mathlib.Core.Logic.{◌⊎◌, inl, inr}
use native.Mathlib.Omega.{arith}
use Prim.Native.Nat.{ℕ, zero, suc, ◌-◌, ◌≤◌}
use lib.Dec.{eqb}
use borrow.Author.Tests.{eqb-true, eqb-false}
use lib.ListN.{length, drop, length-drop, replicate}
use Rattle.model.specs.Plan.{entry_at}
use Rattle.model.specs.Limits.{lease_count}
use Rattle.model.specs.declared.Lease.{Lease}
use Rattle.model.specs.declared.LeaseManager.{LeaseManager}
use Rattle.model.specs.Leases.{no_lease}
use Rattle.model.specs.Sequential.{opened}
use Rattle.model.specs.Choice.{pick}
use Rattle.proof_protocol.specs.Servers.{Plan, Id, Result, Completion, Execution, Image, LogRecord, Entry, Point, replay, founding, Packet, image_for}
use Rattle.proof_protocol.specs.Servers as S
use Rattle.proof_protocol.specs.World.{World, Server, Change, state_of, server_after, client_after, made_by, seen_by, step, empty_world, run, run_from}
use Rattle.proof_protocol.specs.Allowed.{Written, Told, Given, Leased, Allowed, Run}
use Rattle.proof_protocol.specs.Allowed as I
use Rattle.proof_protocol.proofs.Basics.{impossible}
use Rattle.proof_protocol.proofs.Memory.{Honest}
use Rattle.proof_protocol.proofs.Logs.{Tail, whole, within, Tail-refl, Tail-drop, oldest_length, Tail-short, Legit-tail, stands, step_at}
use Rattle.proof_protocol.proofs.Logs as Logs
use Rattle.proof_protocol.proofs.Token.{Place}
use Rattle.proof_protocol.proofs.Token as Tok
use Rattle.proof_protocol.proofs.Core.{In, Core, Leaves, Stood, plain, core_tick, core_plain, core_receipt, core_image, core_cut, core_write}
use Rattle.proof_protocol.proofs.Facts.{Facts, Shown, Rooted, Stands-in, Grows-tail, brought, new_grows, roots, deeper, facts_server, facts_told}
use Rattle.proof_protocol.proofs.Facts as F
use Rattle.proof_protocol.proofs.Leases.{ManagerOk, aside, manager_aside, regrant_ok, notice-ok, renew-ok, open_ok}
use Rattle.proof_protocol.proofs.Clients.{ClientsOk, is_request, clients-other, clients-request, clients-put, start-ok, relet_ok, clients-issue, request-issued, request_leased, resent_issued, resent_leased, clients-receive}

pub record Inv (plan : Plan) (w : World) : Type 0 where
  pub core : Core plan w.servers w.made w.clock
  pub facts : Facts plan w.servers w.made
  pub manager : ManagerOk w.manager w.made
  pub clients : ClientsOk w.clients w.made w.seen

module _ (plan : Plan) (w : World) (inv : Inv plan w) where
  abbrev made : List Packet
  made = w.made

  pub honest : Honest plan (In made)
  honest = record { images = inv.core.images; leased = inv.clients.leased; ended = inv.manager.holds }

  abbrev srv : ℕ → Server
  srv = w.servers

  abbrev now : ℕ
  now = w.clock

  tells-ok : (c : ℕ) (p : Packet) → (srv c).founded ≡ true → Told c (srv c).mark (state_of plan w c) p → Core plan srv (p ∷ made) (suc now) × (aside p ≡ true) × (is_request p ≡ false)
  unfolding state_of
  tells-ok c p f (I.repeating r m le) = (core_tick plan srv _ _ (core_plain plan srv made now inv.core _ refl), refl, refl)
  tells-ok c p f (I.imaging q g rs le out all) = (core_tick plan srv _ _ (core_image plan srv made now inv.core honest q c g rs le out all f), refl, refl)
  tells-ok c p f (I.receipting q) = (core_tick plan srv _ _ (core_receipt plan srv made now inv.core q c), refl, refl)

  -- what a told result and a told image rest on
  shown-result : (c : ℕ) (r : Completion) → Memᴰ r (replay plan c (srv c).log).records → r.place ≤ (srv c).mark → Shown plan c (srv c).mark (srv c).log r.id r.point r.res
  shown-result c r m le =
      let b = brought plan (In made) honest c now (srv c).log (inv.core.legit c) r m in
      record { at = b.at; tail = b.tail; short = let h = b.short in omega arith; done = b.done; among = b.among; id = b.id; res = b.res }

  rooted_image : (c p : ℕ) (g : Given ((replay plan c (srv c).log).points p).holding) → g.place ≤ (srv c).mark → (d : Execution) → Memᴰ d ((replay plan c (srv c).log).points p).past
      → Rooted srv d
  rooted_image c p g le d m = go (roots plan made srv c w.clock inv.facts.rooted p low (Legit-tail t (inv.core.legit c)) d (subst (λ (z : Point). Memᴰ d z.past) (sym same-there) m))
    where
      low : List Entry
      low = drop (length (srv c).log - (srv c).mark) (srv c).log

      t : Tail low (srv c).log
      t = Tail-drop (length (srv c).log - (srv c).mark) (srv c).log

      len : length low ≡ (srv c).mark
      len = oldest_length (srv c).mark (srv c).log (inv.core.marks c)

      same-there : (replay plan c low).points p ≡ (replay plan c (srv c).log).points p
      same-there = (stands plan (In made) c w.clock p g.destination g.place (srv c).log (inv.core.legit c) g.is).still low t (omega (arith, len))

      go : Stands-in d (length low) low ⊎ Rooted srv d → Rooted srv d
      go (inl s) = (c, deeper t (omega (arith, len)) s)
      go (inr r) = r

  plain_facts : (p : Packet) → plain p ≡ true → ((j : Id) (q : ℕ) (r : Result) → S.answered j q r ≡ p → ⊥) → Facts plan srv (p ∷ made)
  plain_facts p e n = facts_told plan srv made inv.facts p (λ j q r h. absurd (n j q r h)) (λ i q. impossible (sym e ∙ ap plain (sym q)))

  tells_facts : (c : ℕ) (p : Packet) → Told c (srv c).mark (state_of plan w c) p → Facts plan srv (p ∷ made)
  unfolding state_of image_for
  tells_facts c p (I.repeating r m le) = facts_told plan srv made inv.facts _
      (λ j q y e. (c, shown j q y e)) (λ i e. let z : ◌≡◌ {A = ℕ} 0 1 = cc in absurd (omega arith))
    where
      shown : (j : Id) (q : ℕ) (y : Result) → S.answered j q y ≡ S.answered r.id r.point r.res → Shown plan c (srv c).mark (srv c).log j q y
      shown j q y e =
          let a : r.id ≡ j = cc in
          let b : r.point ≡ q = cc in
          let d : r.res ≡ y = cc in
          rw (← a, ← b, ← d) (shown-result c r m le)
  tells_facts c p (I.imaging q g rs le out all) = facts_told plan srv made inv.facts _
      (λ j n y e. let z : ◌≡◌ {A = ℕ} 0 1 = cc in absurd (omega arith)) (λ i e d m. rooted_image c q g le d (subst (λ (z : Image). Memᴰ d z.past) (same-image i e) m))
    where
      same-image : (i : Image) → S.image i ≡ S.image (image_for (replay plan c (srv c).log) q g.destination rs) → i ≡ image_for (replay plan c (srv c).log) q g.destination rs
      same-image i e = cc
  tells_facts c p (I.receipting q) = facts_told plan srv made inv.facts _
      (λ j n y e. let z : ◌≡◌ {A = ℕ} 0 1 = cc in absurd (omega arith)) (λ i e. let z : ◌≡◌ {A = ℕ} 0 1 = cc in absurd (omega arith))

  write_facts : (c : ℕ) (r : LogRecord) (n : ℕ) → Written plan c (replay plan c (srv c).log) (In made) r
      → Facts plan (F.with srv c (record { founded = (srv c).founded; log = record { item = r; at = w.clock; bytes = n } ∷ (srv c).log; mark = (srv c).mark })) made
  write_facts c r n wr = facts_server plan srv made inv.facts c _
      (F.grown (λ p. let k = inv.core.chain p in new_grows plan (In made) (Leaves srv) (Stood srv) p k.0 k.1 c (srv c).log (Tail-refl _, inv.core.marks c)
      (step_at plan (In made) c _ (srv c).log p wr)) (inv.facts.grows c))
      (omega arith) (λ l t le. within t)

  cut_facts : (c : ℕ) (x : Server) → Tail x.log (srv c).log → (srv c).mark ≤ x.mark → x.mark ≤ length x.log → Facts plan (F.with srv c x) made
  cut_facts c x t up le = facts_server plan srv made inv.facts c x (Grows-tail t (inv.facts.grows c)) up (λ l u s. Tail-short u t (omega arith))

  ticked : Core plan srv made (suc now)
  ticked = core_tick plan srv made now inv.core

  plainly : (p : Packet) → plain p ≡ true → Core plan srv (p ∷ made) (suc now)
  plainly p e = core_tick plan srv _ _ (core_plain plan srv made now inv.core p e)

  -- the log of server c becomes a tail of itself, or its mark rises
  cut_keeps : (c : ℕ) (x : Server) → x.founded ≡ true → Tail x.log (srv c).log → (srv c).mark ≤ x.mark → x.mark ≤ length x.log
      → Inv plan (record { servers = F.with srv c x; clients = w.clients; manager = w.manager; made = made; seen = w.seen; clock = suc now })
  cut_keeps c x f t up le = record { core = core_tick plan _ _ _ (core_cut plan srv made now inv.core c x f t up le); facts = cut_facts c x t up le; manager = inv.manager; clients = inv.clients }

  request_facts : (q : S.Asked) → Facts plan srv (S.request q ∷ made)
  request_facts q = plain_facts (S.request q) refl (λ j n r e. let z : ◌≡◌ {A = ℕ} 0 1 = cc in omega arith)

  leased_ok : (m : LeaseManager) (p : Packet) → Leased w.manager m p → ManagerOk m (p ∷ made) × Facts plan srv (p ∷ made) × (plain p ≡ true) × (is_request p ≡ false)
  leased_ok m p (I.opens t span le f) = (open_ok w.manager made inv.manager t le span f, plain_facts _ refl (λ j n r e. let z : ◌≡◌ {A = ℕ} 0 1 = cc in omega arith), refl, refl)
  leased_ok m p (I.renews x t span le h) = (renew-ok w.manager made inv.manager t le x span h, plain_facts _ refl (λ j n r e. let z : ◌≡◌ {A = ℕ} 0 1 = cc in omega arith), refl, refl)
  leased_ok m p (I.regrants x t le h) = (regrant_ok w.manager made inv.manager t le x h, plain_facts _ refl (λ j n r e. let z : ◌≡◌ {A = ℕ} 0 1 = cc in omega arith), refl, refl)
  leased_ok m p (I.notices x t le h nz q) = (notice-ok w.manager made inv.manager t le x h nz q, plain_facts _ refl (λ j n r e. let z : ◌≡◌ {A = ℕ} 0 1 = cc in omega arith), refl, refl)

  pub keeps : {c : Change} → Allowed plan w c → Inv plan (step w c)
  unfolding step server_after client_after made_by seen_by state_of
  keeps I.nothing = record { core = ticked; facts = inv.facts; manager = inv.manager; clients = inv.clients }
  keeps (I.founding c e) = let b = inv.core.blank c e in cut_keeps c _ refl (whole (sym b.0)) (omega (arith, b.1)) (omega arith)
  keeps (I.writing c r n f wr) = record { core = core_write plan srv made now inv.core c r n f wr; facts = write_facts c r n wr; manager = inv.manager; clients = inv.clients }
  keeps (I.syncing c m f up le) = cut_keeps c _ f (Tail-refl _) up le
  keeps (I.crashing c j f le) = cut_keeps c _ f (Tail-drop j _) (omega arith) (simp length-drop (omega arith))
  keeps (I.telling c p f t) =
      let h = tells-ok c p f t in
      record { core = h.0; facts = tells_facts c p t; manager = manager_aside w.manager made inv.manager p h.1; clients = clients-other w.clients made w.seen inv.clients p h.2 }
  keeps (I.starting x t m e) = record {
    core = ticked;
    facts = inv.facts;
    manager = inv.manager;
    clients = clients-put w.clients made w.seen inv.clients x _ (start-ok w.clients made w.seen inv.clients x t m (inv.clients.silent x e));
  }
  keeps (I.issuing x d o p a e sm) = record {
    core = plainly _ refl;
    facts = request_facts _;
    manager = manager_aside w.manager made inv.manager _ refl;
    clients = clients-request _ made _ (clients-issue w.clients made w.seen inv.clients x d o p a e sm) _
        (request-issued w.clients made w.seen inv.clients x d o p a e sm) (request_leased w.clients made w.seen inv.clients x d o p a e sm);
  }
  keeps (I.resending x d k e h) = record {
    core = plainly _ refl;
    facts = request_facts _;
    manager = manager_aside w.manager made inv.manager _ refl;
    clients = clients-request _ made w.seen (clients-put w.clients made w.seen inv.clients x d (inv.clients.client x d e)) _
        (resent_issued w.clients made w.seen inv.clients x d k e h) (resent_leased w.clients made w.seen inv.clients x d k e h);
  }
  keeps (I.receiving x d i p r e m q) = record { core = ticked; facts = inv.facts; manager = inv.manager; clients = clients-receive w.clients made w.seen inv.clients x d i p r e m q }
  keeps (I.reletting x d t e m) = record {
    core = ticked;
    facts = inv.facts;
    manager = inv.manager;
    clients = clients-put w.clients made w.seen inv.clients x _
        (relet_ok w.clients made w.seen inv.clients x t d e m);
  }
  keeps (I.leasing m p l) = let h = leased_ok m p l in record { core = plainly p h.2; facts = h.1; manager = h.0; clients = clients-other w.clients made w.seen inv.clients p h.3 }

-- ---- the start

start-place : (plan : Plan) (p c : ℕ) (K : Packet → Type 0) → Place K p (record { owner = (entry_at plan p).home; move = 0; base = [] }) c ((founding plan c).points p)
unfolding founding S.founded_point
start-place plan p c K = go (eqb (entry_at plan p).home c) refl
  where
    go : (b : Bool) → eqb (entry_at plan p).home c ≡ b → Place K p (record { owner = (entry_at plan p).home; move = 0; base = [] }) c
        (record { holding = pick b S.held S.absent; move = 0; taken = 0; value = opened plan p; past = [] })
    go true e = Tok.front (sym (eqb-true _ _ e)) refl refl refl (whole refl)
    go false e = Tok.behind (λ q. let z : ◌≡◌ {A = ℕ} 0 1 = cc in omega arith) (omega arith) (inr (refl, λ q. eqb-false _ _ e (sym q))) (whole refl) (λ q. refl)
        (λ d n q. let z : ◌≡◌ {A = ℕ} 0 1 = cc in absurd (omega arith))

tail-nil : {l : List Entry} → Tail l [] → l ≡ []
tail-nil (Logs.whole e) = e

none_in : {X : Type 0} {k : Packet} → In [] k → X
none_in m = absurd (Memᴰ.not-nil m)

no_leases : (l : Lease) → Memᴰ l (replicate lease_count no_lease) → l.client ≤ 0
no_leases l m = go lease_count m
  where
    one : (n : ℕ) → (l ≡ no_lease) ⊎ Memᴰ l (replicate n no_lease) → (Memᴰ l (replicate n no_lease) → l.client ≤ 0) → l.client ≤ 0
    one n (inl e) ih = let z : l.client ≡ 0 = ap (λ (y : Lease). y.client) e in omega arith
    one n (inr j) ih = ih j

    go : (n : ℕ) → Memᴰ l (replicate n no_lease) → l.client ≤ 0
    go zero k = absurd (Memᴰ.not-nil k)
    go (suc n) k = one n (Memᴰ.cases_cons k) (λ j. go n j)

pub start_inv : (plan : Plan) → Inv plan empty_world
unfolding empty_world
start_inv plan = record {
  core = record {
    marks = λ c. omega arith;
    blank = λ c e. (refl, refl);
    legit = λ c. Logs.empty;
    early = λ i m d j. none_in m;
    images = λ i m. none_in m;
    chain = λ p. (
      record { owner = (entry_at plan p).home; move = 0; base = [] },
      record {
        places = λ c l a. start-at p c l a.0;
        images = λ i m e. none_in m;
        receipts = λ c m r. none_in r;
        giver = Tok.home refl refl refl;
      },
    );
  };
  facts = record {
    grows = λ c. F.nothing;
    shown = λ j p r m. none_in m;
    rooted = λ i m d j. none_in m;
  };
  manager = record {
    known = λ l m. no_leases l m;
    granted = λ x e m. none_in m;
    named = λ x e m. none_in m;
    covered = λ x e m. none_in m;
    noticed = λ x t m. none_in m;
    called = λ x t m. none_in m;
    ended = λ x t m l j e. none_in m;
    holds = λ x t e m j. none_in m;
  };
  clients = record {
    client = λ x d e. let z : ◌≡◌ {A = ℕ} 0 1 = cc in absurd (omega arith);
    silent = λ x e k m. absurd (Memᴰ.not-nil m);
    leased = λ q m. none_in m;
    asked = λ q m. none_in m;
    small = λ k m. absurd (Memᴰ.not-nil m);
    single = λ k l m n s. absurd (Memᴰ.not-nil m);
    results = λ k r m. absurd (Memᴰ.not-nil m);
  };
}
  where
    start-at : (p c : ℕ) (l : List Entry) → Tail l [] → Place (In []) p (record { owner = (entry_at plan p).home; move = 0; base = [] }) c ((replay plan c l).points p)
    start-at p c l t = subst (λ (k : List Entry). Place (In []) p (record { owner = (entry_at plan p).home; move = 0; base = [] }) c ((replay plan c k).points p)) (sym (tail-nil t)) (empty-log p c)
      where
        empty-log : (p c : ℕ) → Place (In []) p (record { owner = (entry_at plan p).home; move = 0; base = [] }) c ((replay plan c []).points p)
        empty-log p c = unfold replay in (start-place plan p c (In []))

pub from_inv : (plan : Plan) (w : World) (cs : List Change) → Run plan w cs → Inv plan w → Inv plan (run_from w cs)
unfolding run_from
from_inv plan w [] I.ended inv = inv
from_inv plan w (c ∷ cs) (I.then a r) inv = from_inv plan (step w c) cs r (keeps plan w inv a)

pub run_inv : (plan : Plan) (cs : List Change) → Run plan empty_world cs → Inv plan (run cs)
unfolding run
run_inv plan cs r = from_inv plan empty_world cs r (start_inv plan)
