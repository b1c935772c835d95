-- Events of a lock: which event of the kernel each is, and what it makes of a controller.
--     issue-from, receive-from      an issue or receive of the kernel's schedule is another's, or a controller's
--     lock_step                     what an event makes of a controller
--     begins-event, begins-after    a start
-- Assumes nothing.
use Prim.Native.Nat.{ℕ, suc, ◌<◌}
use mathlib.Core.Path.{◌≡◌, refl, sym, ◌∙◌, ap, subst}
use mathlib.Core.Bool.{Bool, true, false}
use mathlib.Core.List.{List}
use mathlib.Core.Logic.{◌⊎◌, inl, inr}
use mathlib.Core.Option.{Option, none, some}
use native.Mathlib.Omega.{arith}
use lib.Dec.{eqb, ltb}
use lib.ListN.{get_elem?}
use borrow.Author.Tests.{eqb-true, eqb-false, eq-eqb, ltb-true, ltb-false}
use Rattle.std.specs.Prelude.{Result, Ok, Err}
use Rattle.model.specs.declared.Refusal.{Refusal}
use Rattle.model.specs.declared.Request.{Request}
use Rattle.model.specs.Clients.{start_of}
use Rattle.model_laws.proofs.Tests.{choose, impossible}
use Rattle.claim.specs.World.{World, Event, outside, start, issue, resend, receive, packet, after}
use Rattle.claim.specs.Provisos.{At}
use Rattle.claim.specs.Above.{Site, event_at, step_site}
use Rattle.claim.proofs.Above.{site_world, event-there, event-from, site_step, site_past}
use Rattle.chamber_claim.specs.declared.LockPoints.{LockPoints}
use Rattle.chamber_claim.specs.declared.Chamber.{Chamber}
use Rattle.chamber_claim.specs.Chamber.{new_chamber, start_in, issue_in, resend_in, receive_in}
use Rattle.chamber_claim.specs.Lock.{LockEvent, kernel, begin, command, again, hear, Lock, with_controller, unless_refused, start_call, unless_not_sent, issue_call, if_there, lock_event}
use Rattle.chamber_claim.specs.Lock.{starts_as, starts_on, changes, hears, lock_after, lock_product}
use Rattle.chamber_claim.specs.Safe.{events, lock_at, AtLock, Begins}
use Rattle.chamber_claim.proofs.Commands.{started, refused-same, again-same}

-- an event before n, or n
pub last_or : (j n : ℕ) → j < suc n → (j < n) ⊎ (j ≡ n)
last_or j n h = go (ltb j n) refl
  where
    go : (b : Bool) → ltb j n ≡ b → (j < n) ⊎ (j ≡ n)
    go true e = inl (ltb-true j n e)
    go false e = let k = ltb-false j n e in inr (omega arith)

module _ (plan : List ℕ) (s : LockPoints) (ls : List LockEvent) where
  abbrev es : List Event
  es = events plan s ls

  abbrev lock : ℕ → Lock
  lock n = lock_at plan s ls n

  -- the kernel's world after n events
  abbrev pub world : ℕ → World
  world n = after es n

  abbrev pub AtKernel : ℕ → Event → Type 0
  AtKernel n e = At es n e

  -- ---- events

  pub at_lock_once : (n : ℕ) (o e : LockEvent) → AtLock plan s ls n o → AtLock plan s ls n e → o ≡ e
  unfolding AtLock
  at_lock_once n o e h k = let q : some o ≡ some e = sym h ∙ k in cc

  lock_event_lem : (n : ℕ) (e : Event) → AtKernel n e → (o : LockEvent) × AtLock plan s ls n o × (lock_event s (world n) (lock n) o ≡ e)
  unfolding At AtLock event_at
  lock_event_lem n e h = let f = event-from (lock_product s) ls n e h in (f.0, f.1, rw (site_world (lock_product s) ls n) at f.2)

  pub kernel-event : (n : ℕ) (o : LockEvent) → AtLock plan s ls n o → AtKernel n (lock_event s (world n) (lock n) o)
  unfolding At AtLock event_at
  kernel-event n o h = rw (site_world (lock_product s) ls n) at (event-there (lock_product s) ls n o h)

  pub lock_after_lem : (n : ℕ) (o : LockEvent) → AtLock plan s ls n o → lock (suc n) ≡ lock_after s (world n) (lock n) o
  unfolding AtLock step_site
  lock_after_lem n o h =
      ap (λ (z : Site (lock_product s)). z.parts) (site_step (lock_product s) ls n o h) ∙ ap (λ (w : World). lock_after s w (lock n) o) (site_world (lock_product s) ls n)

  -- a command of the controller of client x is issued
  pub record Commands (n x op p a : ℕ) : Type 0 where
    pub event : AtLock plan s ls n (command x op p a)
    pub chamber : Chamber
    pub there : (lock n).controllers x ≡ some chamber
    pub request : Request
    pub answer : (issue_in chamber op p a).answer ≡ Ok request

  -- which event of the lock an event of the kernel is; the quiet one is a resend
  data Kind (n : ℕ) : Event → Type 0 where
    by_other : {e : Event} → AtLock plan s ls n (kernel e) → Kind n e
    by_begin : {j : ℕ} → AtLock plan s ls n (begin j) → Kind n (outside (start j))
    by_command : {x op p a : ℕ} → Commands n x op p a → Kind n (outside (issue x op p a))
    by_resend : {x c : ℕ} → Kind n (outside (resend x c))
    by_hear : {x j : ℕ} → AtLock plan s ls n (hear x j) → Kind n (outside (receive x j))

  kind_of_lem : (n : ℕ) (o : LockEvent) → AtLock plan s ls n o → Kind n (lock_event s (world n) (lock n) o)
  unfolding lock_event start_call unless_refused issue_call unless_not_sent if_there
  kind_of_lem n (kernel e) h = by_other h
  kind_of_lem n (begin j) h = go (packet (world n) j)
    where
      by : (t : Result Unit Refusal) → Kind n (outside (unless_refused t (start j)))
      by (Err m) = by_resend
      by (Ok tt) = by_begin h

      go : (b : Option (List ℕ)) → Kind n (outside (start_call s b j))
      go none = by_resend
      go (some b) = by (start_in b s).answer
  kind_of_lem n (command x op p a) h = go ((lock n).controllers x) refl
    where
      by : (ch : Chamber) → (lock n).controllers x ≡ some ch → (t : Result Request Refusal) → (issue_in ch op p a).answer ≡ t → Kind n (outside (unless_not_sent t (issue x op p a)))
      by ch c (Err m) e = by_resend
      by ch c (Ok r) e = by_command (record { event = h; chamber = ch; there = c; request = r; answer = e })

      go : (c : Option Chamber) → (lock n).controllers x ≡ c → Kind n (outside (issue_call c x op p a))
      go none c = by_resend
      go (some ch) c = by ch c (issue_in ch op p a).answer refl
  kind_of_lem n (again x c) h = go ((lock n).controllers x)
    where
      go : (o : Option Chamber) → Kind n (outside (if_there o (resend x c)))
      go none = by_resend
      go (some ch) = by_resend
  kind_of_lem n (hear x j) h = go ((lock n).controllers x)
    where
      go : (o : Option Chamber) → Kind n (outside (if_there o (receive x j)))
      go none = by_resend
      go (some ch) = by_hear h

  kind : (n : ℕ) (e : Event) → AtKernel n e → Kind n e
  kind n e h = let f = lock_event_lem n e h in subst (Kind n) f.2 (kind_of_lem n f.0 f.1)

  pub issue-from : (n x op p a : ℕ) → AtKernel n (outside (issue x op p a)) → AtLock plan s ls n (kernel (outside (issue x op p a))) ⊎ Commands n x op p a
  issue-from n x op p a h = go (kind n _ h)
    where
      go : Kind n (outside (issue x op p a)) → AtLock plan s ls n (kernel (outside (issue x op p a))) ⊎ Commands n x op p a
      go (by_other k) = inl k
      go (by_command k) = inr k

  pub receive-from : (n x p : ℕ) → AtKernel n (outside (receive x p)) → AtLock plan s ls n (kernel (outside (receive x p))) ⊎ AtLock plan s ls n (hear x p)
  receive-from n x p h = go (kind n _ h)
    where
      go : Kind n (outside (receive x p)) → AtLock plan s ls n (kernel (outside (receive x p))) ⊎ AtLock plan s ls n (hear x p)
      go (by_other k) = inl k
      go (by_hear k) = inr k

  -- ---- one event more

  -- no call of the controller of x is made, or one that changes nothing
  abbrev pub Spares : ℕ → ℕ → LockEvent → Type 0
  Spares n x (kernel e) = Unit {0}
  Spares n x (begin j) = Unit {0}
  Spares n x (command y op p a) = y ≡ x → (ch : Chamber) (q : Request) → (lock n).controllers x ≡ some ch → (issue_in ch op p a).answer ≡ Ok q → ⊥
  Spares n x (again y c) = Unit {0}
  Spares n x (hear y j) = y ≡ x → (ch : Chamber) (b : List ℕ) → (lock n).controllers x ≡ some ch → packet (world n) j ≡ some b → ⊥

  -- what event n makes of the controller of x
  pub data LockStep (n x : ℕ) : Option Chamber → Type 0 where
    same : ((o : LockEvent) → AtLock plan s ls n o → Spares n x o) → LockStep n x ((lock n).controllers x)
    born : (b : Begins plan s ls n x) → LockStep n x (some (start_in b.bytes s).chamber)
    commanding : (op p a : ℕ) (c : Commands n x op p a) → LockStep n x (some (issue_in c.chamber op p a).chamber)
    hearing : (j : ℕ) (b : List ℕ) (ch : Chamber) → AtLock plan s ls n (hear x j) → (lock n).controllers x ≡ some ch → packet (world n) j ≡ some b
        → LockStep n x (some (receive_in ch b).chamber)

  module _ (n x : ℕ) where
    alone : (o : LockEvent) → AtLock plan s ls n o → Spares n x o → LockStep n x ((lock n).controllers x)
    alone o h f = same (λ e k. subst (Spares n x) (at_lock_once n o e h k) f)

    -- a controller is put where it was
    put_same : (o : LockEvent) → AtLock plan s ls n o → Spares n x o → (ch : Chamber) → (lock n).controllers x ≡ some ch → LockStep n x (some ch)
    put_same o h f ch e = subst (LockStep n x) e (alone o h f)

    not_two : {y : ℕ} {ch : Chamber} {A : Type 0} → (lock n).controllers y ≡ none → y ≡ x → (lock n).controllers x ≡ some ch → A
    not_two {y} {ch} e q f = let k : none ≡ some ch = sym e ∙ ap (lock n).controllers q ∙ f in impossible cc

    step_of : (o : LockEvent) → AtLock plan s ls n o → LockStep n x ((lock_after s (world n) (lock n) o).controllers x)
    unfolding lock_after starts_on starts_as changes hears with_controller
    step_of (kernel e) h = alone (kernel e) h tt
    step_of (begin j) h = go (packet (world n) j) refl
      where
        by : (b : List ℕ) → packet (world n) j ≡ some b → (t : Result Unit Refusal) → (start_in b s).answer ≡ t → LockStep n x ((starts_as (start_in b s) (lock n)).controllers x)
        by b e (Err m) q = rw q (alone (begin j) h tt)
        by b e (Ok tt) q =
            rw q (choose (LockStep n x) (eqb x (start_in b s).chamber.client.client)
            (λ t. born (record { number = j; event = h; bytes = b; delivered = rw (site_world (lock_product s) ls n) e; answer = q; its = sym (eqb-true _ _ t) }))
            (λ t. alone (begin j) h tt))

        go : (b : Option (List ℕ)) → packet (world n) j ≡ b → LockStep n x ((starts_on s b (lock n)).controllers x)
        go none e = alone (begin j) h tt
        go (some b) e = by b e (start_in b s).answer refl
    step_of (command y op p a) h = go ((lock n).controllers y) refl
      where
        mine : (ch : Chamber) → (lock n).controllers x ≡ some ch → AtLock plan s ls n (command x op p a) → (t : Result Request Refusal) → (issue_in ch op p a).answer ≡ t
            → LockStep n x (some (issue_in ch op p a).chamber)
        mine ch e k (Err m) q =
            rw (refused-same ch op p a m q) (put_same (command x op p a) k
            (λ _ c r f g.
            let u : some ch ≡ some c = sym e ∙ f in
            let v : ch ≡ c = cc in
            let w : Err m ≡ Ok r = sym q ∙ ap (λ (z : Chamber). (issue_in z op p a).answer) v ∙ g in
            impossible cc) ch e)
        mine ch e k (Ok r) q = commanding op p a (record { event = k; chamber = ch; there = e; request = r; answer = q })

        go : (o : Option Chamber) → (lock n).controllers y ≡ o → LockStep n x ((changes y (λ ch. (issue_in ch op p a).chamber) o (lock n)).controllers x)
        go none e = alone (command y op p a) h (λ q ch r f g. not_two e q f)
        go (some ch) e =
            choose (LockStep n x) (eqb x y)
            (λ t. let q : y ≡ x = sym (eqb-true x y t) in mine ch (rw q at e) (rw q at h) (issue_in ch op p a).answer refl)
            (λ t. alone (command y op p a) h (λ q _ _ _ _. eqb-false x y t (sym q)))
    step_of (again y c) h = go ((lock n).controllers y) refl
      where
        go : (o : Option Chamber) → (lock n).controllers y ≡ o → LockStep n x ((changes y (λ ch. (resend_in ch c).chamber) o (lock n)).controllers x)
        go none e = alone (again y c) h tt
        go (some ch) e =
            choose (LockStep n x) (eqb x y)
            (λ t. let q : y ≡ x = sym (eqb-true x y t) in rw (again-same ch c) (put_same (again y c) h tt ch (rw q at e)))
            (λ t. alone (again y c) h tt)
    step_of (hear y j) h = go (packet (world n) j) refl
      where
        to : (b : List ℕ) → packet (world n) j ≡ some b → (o : Option Chamber) → (lock n).controllers y ≡ o
            → LockStep n x ((changes y (λ ch. (receive_in ch b).chamber) o (lock n)).controllers x)
        to b f none e = alone (hear y j) h (λ q ch _ g _. not_two e q g)
        to b f (some ch) e =
            choose (LockStep n x) (eqb x y)
            (λ t. let q : y ≡ x = sym (eqb-true x y t) in hearing j b ch (rw q at h) (rw q at e) f)
            (λ t. alone (hear y j) h (λ q _ _ _ _. eqb-false x y t (sym q)))

        go : (b : Option (List ℕ)) → packet (world n) j ≡ b → LockStep n x ((hears y b (lock n)).controllers x)
        go none f = alone (hear y j) h (λ q _ b _ g. let k : none ≡ some b = sym f ∙ g in impossible cc)
        go (some b) f = to b f ((lock n).controllers y) refl

    pub lock_step : LockStep n x ((lock (suc n)).controllers x)
    unfolding AtLock
    lock_step = go (get_elem? ls n) refl
      where
        go : (o : Option LockEvent) → get_elem? ls n ≡ o → LockStep n x ((lock (suc n)).controllers x)
        go none e =
            subst (λ (z : Site (lock_product s)). LockStep n x (z.parts.controllers x)) (sym (site_past (lock_product s) ls n e))
            (same (λ o h. let k : none ≡ some o = sym e ∙ h in impossible cc))
        go (some o) e = subst (λ (z : Lock). LockStep n x (z.controllers x)) (sym (lock_after_lem n o e)) (step_of o e)

  -- ---- starts

  pub begins-event : (n x : ℕ) (b : Begins plan s ls n x) → (AtKernel n (outside (start b.number))) × (packet (world n) b.number ≡ some b.bytes)
  unfolding lock_event start_call unless_refused
  begins-event n x b =
      let d : packet (world n) b.number ≡ some b.bytes = rw (site_world (lock_product s) ls n) at b.delivered in
      (rw (d, b.answer) at (kernel-event n (begin b.number) b.event), d)

  -- the client that it starts
  pub begins-client : (n x : ℕ) (b : Begins plan s ls n x) → (start_of b.bytes).client.client ≡ x
  unfolding new_chamber
  begins-client n x b = ap (λ (z : Chamber). z.client.client) (sym (started s b.bytes b.answer).2) ∙ b.its

  pub begins-after : (n x : ℕ) (b : Begins plan s ls n x) → ((lock (suc n)).controllers x ≡ some (start_in b.bytes s).chamber) × ((lock (suc n)).latest ≡ some x)
  unfolding lock_after starts_on starts_as with_controller
  begins-after n x b =
      let d = (begins-event n x b).1 in
      let l : lock (suc n) ≡ lock_after s (world n) (lock n) (begin b.number) = lock_after_lem n _ b.event in (
        ap (λ (z : Lock). z.controllers x) l ∙ rw (d, b.answer, b.its, eq-eqb x x refl) refl,
        ap (λ (z : Lock). z.latest) l ∙ rw (d, b.answer, b.its) refl,
      )
