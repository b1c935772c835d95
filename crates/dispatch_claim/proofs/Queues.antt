-- Schedules with dispatchers.
--     serving_is       a serving is Request of the packet that came first
--     executes_by      what is executed: by such servings, and by the kernel's own requests
--     reaches-run      a packet that was taken in is Request's in one of the next 32 servings at its server
-- Assumes nothing.
use Rattle.std.specs.Prelude.{Some}
use Prim.Native.Nat.{ℕ, zero, suc, ◌+◌, ◌≤◌, ◌<◌}
use mathlib.Core.Path.{◌≡◌, refl, sym, ◌∙◌, ap, subst}
use mathlib.Core.Bool.{Bool, true, false, not}
use mathlib.Core.List.{List, [], ◌∷◌, ◌++◌}
use mathlib.Core.Logic.{◌⊎◌, inl, inr}
use mathlib.Core.Option.{Option, none, some}
use native.Mathlib.Omega.{arith}
use native.Mathlib.Nat.{zero-add, suc-add}
use lib.Dec.{eqb}
use lib.ListN.{length, take, drop, get_elem?}
use borrow.Author.Tests.{eqb-true, eqb-false, eq-eqb, ne_eqb, not-true}
use Rattle.model.specs.declared.Answer.{Answer}
use Rattle.model.specs.declared.Request.{Request}
use Rattle.model.specs.declared.Packet.TheVariants.{Requested}
use Rattle.model.specs.Choice.{pick, is_passed}
use Rattle.model.specs.Tables.{every}
use Rattle.model.specs.Refusals.{no_refusal, unknown}
use Rattle.model.specs.Versions.{Versions}
use Rattle.model.specs.Sequential.{Marked, marked_by}
use Rattle.model.specs.Packets.{parse_packet, request_bytes, packet_bytes}
use Rattle.model.specs.Operations.{After, answer_of, settle}
use Rattle.model.specs.Calls.{request}
use Rattle.model_laws.proofs.Packets.{packet-is}
use Rattle.model_laws.proofs.Tests.{and_left, and_right}
use Rattle.claim.specs.World.{World, Event, call, outside, Lent, lent_state, lent_log, packet, after, Stored, Server, nothing, running, storing, crashed}
use Rattle.claim.specs.Provisos.{At}
use Rattle.claim.specs.Claim.{Executes}
use Rattle.claim.specs.Above as Above
use Rattle.claim.specs.Above.{Site, event_at, step_site, empty_site, run_site, events_from, site_after}
use Rattle.claim.proofs.Above.{site_world, event-there, event-from, run-append, events-append, events-length}
use Rattle.dispatch_claim.specs.declared.Dispatcher.{Dispatcher}
use Rattle.dispatch_claim.specs.Dispatcher.{places, waiting, enqueue_of, serve_of}
use Rattle.dispatch_claim.specs.Queues.{QueueEvent, kernel, enqueue, serve, lose, Queue, Queues, with_queue, handed_call, served_call, queue_event, taking, enqueued_on, served_by, queues_after, queue_product}
use Rattle.dispatch_claim.specs.Queues.{is_running, serves_at, loses_at, servings_from, site_of, events, queue_at, AtQueue, MadeBytes, Hands, ServingIs, Serves, IsKernel, ExecutesBy, ReachesRun}
use Rattle.dispatch_claim.proofs.Waiting.{nothing-there, nobody_counts, first-is, somebody, entered, count-waiting}
use Rattle.dispatch_claim.proofs.Fair.{last-there}
use Rattle.dispatch_claim.proofs.Beside.{beside, First, first_beside}

-- ---- a serving is a request

module _ (os : List QueueEvent) where
  abbrev site : ℕ → Site queue_product
  site n = site_after queue_product os n

  same-world : (n : ℕ) → (site n).world ≡ after (events os) n
  same-world n = site_world queue_product os n

  -- who waits first at c after n events, and the packet beside
  first-at : (n c : ℕ) → (waiting (queue_at os n c).dispatcher ≡ [] → ⊥) → First (after (events os) n) (queue_at os n c)
  unfolding site_after
  first-at n c h = subst (λ (w : World). First w (queue_at os n c)) (same-world n) (first_beside _ _ (beside (take n os) c) h)

  -- the kernel's event at a serving of a running server
  served-event : (n c : ℕ) (v : Versions) (l : Lent) → AtQueue os n (serve c v l) → At (events os) n (served_call c v l (queue_at os n c).numbers ((after (events os) n).servers c))
  unfolding At AtQueue event_at queue_event
  served-event n c v l a = rw (same-world n) at (event-there queue_product os n (serve c v l) a)

  module _ (bytes : MadeBytes os) where
    again : (n p : ℕ) (b : List ℕ) (q : Request) → packet (after (events os) n) p ≡ some b → parse_packet b ≡ Some (Requested q) → request_bytes q ≡ b
    unfolding packet_bytes
    again n p b q e h = (packet-is b (bytes n p b e) (Requested q) h).same

    hands : (n c : ℕ) (v : Versions) (l : Lent) → AtQueue os n (serve c v l) → (k : Stored) (state log : List ℕ) → (after (events os) n).servers c ≡ running k state log
        → First (after (events os) n) (queue_at os n c) → Hands os n c v l state log
    unfolding served_call handed_call
    hands n c v l a k state log up f =
        record {
          number = f.number;
          bytes = f.bytes;
          event = rw (up, f.split) at (served-event n c v l a);
          delivered = f.made;
          same = rw (again n f.number f.bytes f.request f.made f.parsed) at
              (somebody (queue_at os n c).dispatcher f.request f.requests f.waits v (lent_state l state) (lent_log l log) l.out);
        }

  pub serving_is : MadeBytes os → ServingIs os
  serving_is bytes n c v l a k state log up h = hands bytes n c v l a k state log up (first-at n c h)

-- ---- what is executed

-- a serving that is a request of the kernel: its server runs, and the packet's number stands first
record IsServing (c : ℕ) (v : Versions) (p : ℕ) (l : Lent) (d : ℕ) (v' : Versions) (l' : Lent) (ns : List ℕ) : Type 0 where
  rest : List ℕ
  first : ns ≡ p ∷ rest
  server : d ≡ c
  versions : v' ≡ v
  lent : l' ≡ l

not_call : {A : Type 0} {o : _} {c : ℕ} {v : Versions} {p : ℕ} {l : Lent} → outside o ≡ call c (request v p) l → A
not_call e = let z : ◌≡◌ {A = ℕ} 0 1 = cc in absurd (omega arith)

served-is : (c : ℕ) (v : Versions) (p : ℕ) (l : Lent) (d : ℕ) (v' : Versions) (l' : Lent) (ns : List ℕ) (s : Server)
    → served_call d v' l' ns s ≡ call c (request v p) l → IsServing c v p l d v' l' ns
unfolding served_call handed_call
served-is c v p l d v' l' ns nothing e = not_call e
served-is c v p l d v' l' [] (running k state log) e = not_call e
served-is c v p l d v' l' (n ∷ ns) (running k state log) e =
    record {
      rest = ns;
      first = ap (λ (x : ℕ). x ∷ ns) (let z : n ≡ p = cc in z);
      server = let z : d ≡ c = cc in z;
      versions = let z : v' ≡ v = cc in z;
      lent = let z : l' ≡ l = cc in z;
    }
served-is c v p l d v' l' ns (storing k log next state tail) e = not_call e
served-is c v p l d v' l' ns (crashed k kept mark) e = not_call e

module _ (os : List QueueEvent) (bytes : MadeBytes os) (n c : ℕ) (m : Marked) where
  -- the first number stands beside who waits first
  some_wait : (p : ℕ) (rest : List ℕ) → (queue_at os n c).numbers ≡ p ∷ rest → waiting (queue_at os n c).dispatcher ≡ [] → ⊥
  unfolding site_after
  some_wait p rest e h =
      let z : suc (length rest) ≡ 0 = ap length (sym e) ∙ (beside (take n os) c).many ∙ ap length h in absurd (omega arith)

  serves : (x : Executes (events os) n c m) → AtQueue os n (serve c x.versions x.lent) → (rest : List ℕ) → (queue_at os n c).numbers ≡ x.number ∷ rest → Serves os n c m
  unfolding hands
  serves x a rest e =
      let f = first-at os n c (some_wait x.number rest e) in
      let h = hands os bytes n c x.versions x.lent a x.stored x.state x.log x.up f in
      let i : f.number ≡ x.number = (let y : f.number ∷ f.numbers ≡ x.number ∷ rest = sym f.split ∙ e in cc) in
      let b : f.bytes ≡ x.bytes = (let y : some f.bytes ≡ some x.bytes = sym f.made ∙ rw (sym i) at x.delivered in cc) in
      let r : f.request ≡ x.asked = (let y : Some (Requested f.request) ≡ Some (Requested x.asked) = sym f.parsed ∙ rw (sym b) at x.parsed in cc) in
      record {
        versions = x.versions;
        lent = x.lent;
        event = a;
        stored = x.stored;
        state = x.state;
        log = x.log;
        up = x.up;
        answer = ap (λ (y : After). y.answer) h.same ∙ rw (sym b) at x.answer;
        its = ap (λ (q : Request). marked_by x.versions q.command) (first-is _ _ _ f.waits ∙ r) ∙ x.its;
      }

  to : Executes (events os) n c m → Serves os n c m ⊎ (IsKernel os n × Executes (events os) n c m)
  unfolding At AtQueue event_at queue_event
  to x = let f = event-from queue_product os n _ x.event in go f.0 f.1 f.2
    where
      go : (o : QueueEvent) → get_elem? os n ≡ some o → event_at queue_product (site os n) o ≡ call c (request x.versions x.number) x.lent
          → Serves os n c m ⊎ (IsKernel os n × Executes (events os) n c m)
      go (kernel e) a q = inr ((e, a), x)
      go (enqueue d p) a q = not_call q
      go (lose d) a q = not_call q
      go (serve d v l) a q =
          let i = served-is c x.versions x.number x.lent d v l (queue_at os n d).numbers ((site os n).world.servers d) q in
          inl (serves x (rw (i.server, i.versions, i.lent) at a) i.rest (ap (λ (y : ℕ). (queue_at os n y).numbers) (sym i.server) ∙ i.first))

  -- with nobody waiting the answer is 17
  none-waits : (x : Serves os n c m) → waiting (queue_at os n c).dispatcher ≡ [] → ⊥
  unfolding serve_of settle site_after
  none-waits x h =
      let z : d.count ≡ 0 = nobody_counts d (beside (take n os) c).formed h in
      let y : answer_of unknown 0 ≡ answer_of no_refusal 0 = rw z at x.answer in
      let k : unknown ≡ no_refusal = ap (λ (a : Answer). a.refusal) y in
      absurd (omega arith)
    where
      d : Dispatcher
      d = (queue_at os n c).dispatcher

  from : Serves os n c m ⊎ (IsKernel os n × Executes (events os) n c m) → Executes (events os) n c m
  unfolding hands
  from (inr x) = x.1
  from (inl x) =
      let f = first-at os n c (none-waits x) in
      let h = hands os bytes n c x.versions x.lent x.event x.stored x.state x.log x.up f in
      record {
        number = h.number;
        versions = x.versions;
        lent = x.lent;
        event = h.event;
        stored = x.stored;
        state = x.state;
        log = x.log;
        up = x.up;
        bytes = h.bytes;
        delivered = h.delivered;
        answer = ap (λ (y : After). y.answer) (sym h.same) ∙ x.answer;
        asked = f.request;
        parsed = f.parsed;
        its = ap (λ (q : Request). marked_by x.versions q.command) (sym (first-is _ _ _ f.waits)) ∙ x.its;
      }

pub executes_by : (os : List QueueEvent) → MadeBytes os → ExecutesBy os
executes_by os bytes n c m = (to os bytes n c m, from os bytes n c m)

-- ---- within 32 servings

-- what an event does to the numbers that wait at c: a serving there hands the first over, any other leaves each at its place, but for a loss
data Moves (c : ℕ) (s : Site queue_product) (o : QueueEvent) : Type 0 where
  first : (v : Versions) (l : Lent) → serves_at c s.world o ≡ true
      → ((p : ℕ) (ps : List ℕ) → (s.parts c).numbers ≡ p ∷ ps → event_at queue_product s o ≡ call c (request v p) l)
      → ((step_site queue_product s o).parts c).numbers ≡ drop 1 (s.parts c).numbers → Moves c s o
  stay : serves_at c s.world o ≡ false
      → ((i p : ℕ) → get_elem? (s.parts c).numbers i ≡ some p → get_elem? ((step_site queue_product s o).parts c).numbers i ≡ some p) → Moves c s o

-- of a queue that changes, at another server than c or at c
still : (c d : ℕ) (q : Queue) (qs : Queues) (i p : ℕ) → (get_elem? (qs d).numbers i ≡ some p → get_elem? q.numbers i ≡ some p)
    → get_elem? (qs c).numbers i ≡ some p → get_elem? (with_queue d q qs c).numbers i ≡ some p
unfolding with_queue
still c d q qs i p h e = go (eqb c d) refl
  where
    go : (t : Bool) → eqb c d ≡ t → get_elem? (pick t q (qs c)).numbers i ≡ some p
    go true z = h (rw (eqb-true c d z) at e)
    go false z = e

in_front : (xs ys : List ℕ) (i p : ℕ) → get_elem? xs i ≡ some p → get_elem? (xs ++ ys) i ≡ some p
in_front [] ys i p e = nothing-there e
in_front (x ∷ xs) ys zero p e = e
in_front (x ∷ xs) ys (suc i) p e = in_front xs ys i p e

taken-stays : (o : Option (List ℕ)) (n : ℕ) (q : Queue) (i p : ℕ) → get_elem? q.numbers i ≡ some p → get_elem? (enqueued_on o n q).numbers i ≡ some p
unfolding enqueued_on taking
taken-stays none n q i p e = e
taken-stays (some b) n q i p e = go (is_passed (enqueue_of q.dispatcher b).number)
  where
    go : (t : Bool) → get_elem? (pick t (q.numbers ++ (n ∷ [])) q.numbers) i ≡ some p
    go true = in_front q.numbers (n ∷ []) i p e
    go false = e

serve-here : (c : ℕ) (v : Versions) (l : Lent) (s : Site queue_product) → Moves c s (serve c v l)
unfolding step_site queues_after serves_at event_at queue_event with_queue served_call handed_call served_by is_running
serve-here c v l s = go (s.world.servers c) refl
  where
    own : eqb c c ≡ true
    own = eq-eqb c c refl

    go : (x : Server) → s.world.servers c ≡ x → Moves c s (serve c v l)
    go nothing h = stay (rw (own, h) refl) (λ i p z. rw (own, h) z)
    go (running k state log) h = first v l (rw (own, h) refl) (λ p ps z. rw (h, z) refl) (rw (own, h) refl)
    go (storing k log next state tail) h = stay (rw (own, h) refl) (λ i p z. rw (own, h) z)
    go (crashed k kept mark) h = stay (rw (own, h) refl) (λ i p z. rw (own, h) z)

serve_moves : (c d : ℕ) (v : Versions) (l : Lent) (s : Site queue_product) → Moves c s (serve d v l)
unfolding step_site queues_after serves_at with_queue
serve_moves c d v l s = go (eqb d c) refl
  where
    go : (t : Bool) → eqb d c ≡ t → Moves c s (serve d v l)
    go true e = subst (λ (x : ℕ). Moves c s (serve x v l)) (sym (eqb-true d c e)) (serve-here c v l s)
    go false e = stay (rw e refl) (λ i p z. rw (ne_eqb c d (λ y. eqb-false d c e (sym y))) z)

moves : (c : ℕ) (s : Site queue_product) (o : QueueEvent) → loses_at c o ≡ false → Moves c s o
unfolding step_site queues_after serves_at loses_at with_queue
moves c s (kernel e) h = stay refl (λ i p z. z)
moves c s (enqueue d n) h = stay refl (λ i p z. still c d (enqueued_on (packet s.world n) n (s.parts d)) s.parts i p (taken-stays (packet s.world n) n (s.parts d) i p) z)
moves c s (serve d v l) h = serve_moves c d v l s
moves c s (lose d) h = stay refl (λ i p z. rw (ne_eqb c d (λ y. eqb-false d c h (sym y))) z)

-- the number at place i is handed over by serving number i
record HandedIn (c : ℕ) (s : Site queue_product) (os : List QueueEvent) (i p : ℕ) : Type 0 where
  j : ℕ
  versions : Versions
  lent : Lent
  event : get_elem? (events_from queue_product s os) j ≡ some (call c (request versions p) lent)
  number : servings_from c s (take j os) ≡ i

handed-later : (c : ℕ) (s : Site queue_product) (o : QueueEvent) (os : List QueueEvent) (i p k : ℕ) → pick (serves_at c s.world o) 1 0 + i ≡ k
    → HandedIn c (step_site queue_product s o) os i p → HandedIn c s (o ∷ os) k p
unfolding servings_from events_from
handed-later c s o os i p k e r =
    record { j = suc r.j; versions = r.versions; lent = r.lent; event = r.event; number = rw r.number e }

handed-from : (c : ℕ) (s : Site queue_product) (os : List QueueEvent) (i p : ℕ) → every (λ o. not (loses_at c o)) os ≡ true
    → get_elem? (s.parts c).numbers i ≡ some p → i < servings_from c s os → HandedIn c s os i p
unfolding servings_from events_from every
handed-from c s [] i p h e n = absurd (omega arith)
handed-from c s (o ∷ os) i p h e n =
    go (moves c s o (not-true (loses_at c o) (and_left _ _ h))) (s.parts c).numbers refl i e n
    (λ k. handed-from c (step_site queue_product s o) os k p (and_right (not (loses_at c o)) _ h))
  where
    next : Site queue_product
    next = step_site queue_product s o

    go : Moves c s o → (ps : List ℕ) → (s.parts c).numbers ≡ ps → (i : ℕ) → get_elem? (s.parts c).numbers i ≡ some p
        → i < pick (serves_at c s.world o) 1 0 + servings_from c next os
        → ((k : ℕ) → get_elem? (next.parts c).numbers k ≡ some p → k < servings_from c next os → HandedIn c next os k p) → HandedIn c s (o ∷ os) i p
    go (stay t f) ps w i e n ih = handed-later c s o os i p i (rw t (omega arith)) (ih i (f i p e) (let m : i < 0 + servings_from c next os = rw t at n in omega arith))
    go (first v l t f g) [] w i e n ih = nothing-there (rw w at e)
    go (first v l t f g) (x ∷ ps) w zero e n ih =
        let z : x ≡ p = (let y : some x ≡ some p = rw w at e in cc) in
        record { j = 0; versions = v; lent = l; event = ap some (f p ps (w ∙ ap (λ (y : ℕ). y ∷ ps) z)); number = refl }
    go (first v l t f g) (x ∷ ps) w (suc k) e n ih =
        handed-later c s o os k p (suc k) (rw t (omega arith)) (ih k (rw (g, w) (rw w at e)) (let m : suc k < 1 + servings_from c next os = rw t at n in omega arith))

behind_all : {A : Type 0} (xs ys : List A) (k : ℕ) → get_elem? (xs ++ ys) (length xs + k) ≡ get_elem? ys k
behind_all [] ys k = rw (zero-add k) refl
behind_all (x ∷ xs) ys k = rw (suc-add (length xs) k) (behind_all xs ys k)

module _ (os : List QueueEvent) (c n : ℕ) where
  abbrev then : Site queue_product
  then = step_site queue_product (site_of os) (enqueue c n)

  site_then : site_of (os ++ (enqueue c n ∷ [])) ≡ then
  unfolding run_site
  site_then = run-append queue_product (empty_site queue_product) os (enqueue c n ∷ [])

  event-then : (more : List QueueEvent) (j : ℕ) (e : Event) → get_elem? (events_from queue_product then more) j ≡ some e
      → At (events (os ++ (enqueue c n ∷ more))) (length os + suc j) e
  unfolding At Above.events events_from
  event-then more j e h =
      let es = events_from queue_product (empty_site queue_product) os in
      rw (events-append queue_product (empty_site queue_product) os (enqueue c n ∷ more), ← events-length queue_product (empty_site queue_product) os)
      (behind_all es (events_from queue_product (site_of os) (enqueue c n ∷ more)) (suc j) ∙ h)

  -- its number is the last
  number-then : (b : List ℕ) → packet (site_of os).world n ≡ some b → (enqueue_of ((site_of os).parts c).dispatcher b).number ≡ no_refusal
      → get_elem? (then.parts c).numbers (length ((site_of os).parts c).numbers) ≡ some n
  unfolding step_site queues_after enqueued_on taking with_queue
  number-then b m h = rw (eq-eqb c c refl, m, h) (last-there ((site_of os).parts c).numbers n)

  -- and has a place under 32
  place-then : (b : List ℕ) → (enqueue_of ((site_of os).parts c).dispatcher b).number ≡ no_refusal → length ((site_of os).parts c).numbers < places
  place-then b h =
      let B = beside os c in
      let e = entered ((site_of os).parts c).dispatcher b h in
      let r = e.room in
      let w : length (waiting ((site_of os).parts c).dispatcher) ≡ ((site_of os).parts c).dispatcher.count = count-waiting _ B.formed (omega arith) in
      omega (arith, w, B.many, r)

pub reaches-run : ReachesRun
unfolding ReachesRun
reaches-run os more c n b m h l s =
    let z = site_then os c n in
    let i = length ((site_of os).parts c).numbers in
    let u : i < places = place-then os c n b h in
    let t : places ≤ servings_from c (then os c n) more = rw z at s in
    let r = handed-from c (then os c n) more i n l (number-then os c n b m h) (omega arith) in
    record {
      j = r.j;
      versions = r.versions;
      lent = r.lent;
      event = event-then os c n more r.j _ r.event;
      soon = rw (z, r.number) u;
    }
