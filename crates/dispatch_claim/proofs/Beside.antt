-- Beside each dispatcher stand the numbers of the packets that wait in it.
--     Beside                  each number names, among the packets made, the one that waits at its place
--     beside, first_beside    so it is after every schedule; of who waits first
-- Assumes nothing.
use Rattle.std.specs.Prelude.{Some}
use Prim.Native.Nat.{ℕ, zero, suc}
use mathlib.Core.Path.{◌≡◌, refl, sym, ◌∙◌, ap}
use mathlib.Core.Bool.{Bool, true, false}
use mathlib.Core.List.{List, [], ◌∷◌, ◌++◌}
use mathlib.Core.Logic.{inl, inr}
use mathlib.Core.Option.{Option, none, some}
use native.Mathlib.Omega.{arith}
use lib.Dec.{eqb}
use lib.ListN.{length, drop, get_elem?, length-append, length-drop, length-set}
use borrow.Author.Tests.{eqb-true, ne_eqb}
use Rattle.model.specs.declared.Request.{Request}
use Rattle.model.specs.declared.Packet.TheVariants.{Requested}
use Rattle.model.specs.Refusals.{no_refusal}
use Rattle.model.specs.Versions.{Versions}
use Rattle.model.specs.Packets.{parse_packet}
use Rattle.claim.specs.World.{World, Lent, Server, nothing, running, storing, crashed, packet}
use Rattle.claim.specs.Above.{Site, event_at, step_site, empty_site, run_site}
use Rattle.model_laws.proofs.Tests.{choose}
use Rattle.claim.proofs.Packets.{Keeps, step_keeps}
use Rattle.dispatch_claim.specs.declared.Dispatcher.{Dispatcher}
use Rattle.dispatch_claim.specs.Dispatcher.{no_waiting, waiting_count, waiting, with_last, enqueue_of, shifted, serve_of}
use Rattle.dispatch_claim.specs.Fair.{Formed}
use Rattle.dispatch_claim.specs.Queues.{QueueEvent, kernel, enqueue, serve, lose, Queue, no_queue, Queues, with_queue, taking, enqueued_on, served_by, queues_after, queue_product, site_of}
use Rattle.dispatch_claim.proofs.Waiting.{nothing-there, EnqueuedAs, enters, refuses, enqueued_as, Entered, waiting-last, waiting-shifted, shifted-formed, nobody}
use Rattle.dispatch_claim.proofs.Fair.{last-there, one_of, behind}

-- packet number n, which waits at place i
pub record Names (w : World) (d : Dispatcher) (i n : ℕ) : Type 0 where
  pub bytes : List ℕ
  pub made : packet w n ≡ some bytes
  pub request : Request
  pub parsed : parse_packet bytes ≡ Some (Requested request)
  pub waits : get_elem? (waiting d) i ≡ some request

pub record Beside (w : World) (q : Queue) : Type 0 where
  pub formed : Formed q.dispatcher
  pub many : length q.numbers ≡ length (waiting q.dispatcher)
  pub each : (i n : ℕ) → get_elem? q.numbers i ≡ some n → Names w q.dispatcher i n

-- ---- what was made stays

beside_later : {w v : World} {q : Queue} → Keeps w v → Beside w q → Beside v q
beside_later {w} {v} {q} k b =
    record {
      formed = b.formed;
      many = b.many;
      each = λ i n e. let m = b.each i n e in
          record { bytes = m.bytes; made = k n m.bytes m.made; request = m.request; parsed = m.parsed; waits = m.waits };
    }

-- ---- calls

module _ (w : World) (q : Queue) (b : Beside w q) where
  front : {A : Type 0} (xs ys : List A) (i : ℕ) (a : A) → get_elem? xs i ≡ some a → get_elem? (xs ++ ys) i ≡ some a
  front [] ys i a e = nothing-there e
  front (x ∷ xs) ys zero a e = e
  front (x ∷ xs) ys (suc i) a e = front xs ys i a e

  beside_last : (n : ℕ) (p : List ℕ) → packet w n ≡ some p → (e : Entered q.dispatcher p)
      → Beside w (record { dispatcher = with_last q.dispatcher e.request; numbers = q.numbers ++ (n ∷ []) })
  beside_last n p m e =
      record {
        formed = last-formed;
        many = rw (at_last, length-append q.numbers (n ∷ []), length-append (waiting q.dispatcher) (e.request ∷ []), b.many) refl;
        each = λ i k g. elim (one_of q.numbers n k i g) [
          | inl a ↦ let z = b.each i k a in
              record { bytes = z.bytes; made = z.made; request = z.request; parsed = z.parsed; waits = rw at_last (front (waiting q.dispatcher) _ i z.request z.waits) }
          | inr z ↦ record {
            bytes = p;
            made = rw z.1 at m;
            request = e.request;
            parsed = e.parsed;
            waits = rw (z.0, b.many, at_last) (last-there (waiting q.dispatcher) e.request);
          }
        ];
      }
    where
      at_last : waiting (with_last q.dispatcher e.request) ≡ waiting q.dispatcher ++ (e.request ∷ [])
      at_last = waiting-last q.dispatcher e.request b.formed e.room

      last-formed : Formed (with_last q.dispatcher e.request)
      last-formed = unfold with_last in (length-set q.dispatcher.requests q.dispatcher.count e.request ∙ b.formed)

  beside_taken : (o : Option (List ℕ)) (n : ℕ) → packet w n ≡ o → Beside w (enqueued_on o n q)
  unfolding enqueued_on taking
  beside_taken none n m = b
  beside_taken (some p) n m = go (enqueued_as q.dispatcher p)
    where
      go : EnqueuedAs q.dispatcher p → Beside w (taking (enqueue_of q.dispatcher p) n q)
      go (enters e) = rw e.then (beside_last n p m e)
      go (refuses k z e) = rw (e, ne_eqb k no_refusal z) b

  beside_first : Beside w (record { dispatcher = shifted q.dispatcher; numbers = drop 1 q.numbers })
  beside_first =
      record {
        formed = shifted-formed q.dispatcher b.formed;
        many = rw (next, length-drop 1 q.numbers, length-drop 1 (waiting q.dispatcher), b.many) refl;
        each = λ i k g. let z = b.each (suc i) k (behind q.numbers i k g) in
            record { bytes = z.bytes; made = z.made; request = z.request; parsed = z.parsed; waits = rw next (before (waiting q.dispatcher) i z.request z.waits) };
      }
    where
      next : waiting (shifted q.dispatcher) ≡ drop 1 (waiting q.dispatcher)
      next = waiting-shifted q.dispatcher b.formed

      before : {A : Type 0} (xs : List A) (i : ℕ) (a : A) → get_elem? xs (suc i) ≡ some a → get_elem? (drop 1 xs) i ≡ some a
      before [] i a e = e
      before (x ∷ xs) i a e = e

  -- nobody waits, and no number stands beside
  none_beside : waiting q.dispatcher ≡ [] → q.numbers ≡ []
  none_beside e = go q.numbers (b.many ∙ ap length e)
    where
      go : (ns : List ℕ) → length ns ≡ 0 → ns ≡ []
      go [] z = refl
      go (n ∷ ns) z = absurd (omega arith)

  beside_served : (v : Versions) (l : Lent) (s : Server) → Beside w (served_by v l s q)
  unfolding served_by serve_of
  beside_served v l nothing = b
  beside_served v l (running k state log) = go (eqb q.dispatcher.count 0) refl
    where
      go : (t : Bool) → eqb q.dispatcher.count 0 ≡ t → Beside w (served_by v l (running k state log) q)
      go true e = let z = none_beside (nobody q.dispatcher (eqb-true _ 0 e)) in rw (e, z) (rw z at b)
      go false e = rw e beside_first
  beside_served v l (storing k log next state tail) = b
  beside_served v l (crashed k kept mark) = b

beside_none : (w : World) → Beside w no_queue
unfolding no_queue no_waiting waiting waiting_count
beside_none w = record { formed = refl; many = refl; each = λ i n e. nothing-there e }

-- ---- a run

module _ (w : World) (qs : Queues) (b : (c : ℕ) → Beside w (qs c)) where
  beside_with : (c : ℕ) (q : Queue) → Beside w q → (d : ℕ) → Beside w (with_queue c q qs d)
  unfolding with_queue
  beside_with c q h d = choose (Beside w) (eqb d c) (λ e. h) (λ e. b d)

  beside_call : (o : QueueEvent) (c : ℕ) → Beside w (queues_after w qs o c)
  unfolding queues_after
  beside_call (kernel e) c = b c
  beside_call (enqueue d n) c = beside_with d _ (beside_taken w (qs d) (b d) (packet w n) n refl) c
  beside_call (serve d v l) c = beside_with d _ (beside_served w (qs d) (b d) v l (w.servers d)) c
  beside_call (lose d) c = beside_with d _ (beside_none w) c

beside_from : (s : Site queue_product) (os : List QueueEvent) → ((c : ℕ) → Beside s.world (s.parts c))
    → (c : ℕ) → Beside (run_site queue_product s os).world ((run_site queue_product s os).parts c)
unfolding run_site step_site
beside_from s [] b = b
beside_from s (o ∷ os) b =
    beside_from (step_site queue_product s o) os (λ c. beside_later (step_keeps s.world (event_at queue_product s o)) (beside_call s.world s.parts b o c))

pub beside : (os : List QueueEvent) (c : ℕ) → Beside (site_of os).world ((site_of os).parts c)
unfolding empty_site
beside os = beside_from (empty_site queue_product) os (λ c. beside_none _)

-- ---- who waits first

pub record First (w : World) (q : Queue) : Type 0 where
  pub number : ℕ
  pub numbers : List ℕ
  pub split : q.numbers ≡ number ∷ numbers
  pub bytes : List ℕ
  pub made : packet w number ≡ some bytes
  pub request : Request
  pub parsed : parse_packet bytes ≡ Some (Requested request)
  pub requests : List Request
  pub waits : waiting q.dispatcher ≡ request ∷ requests

pub first_beside : (w : World) (q : Queue) → Beside w q → (waiting q.dispatcher ≡ [] → ⊥) → First w q
first_beside w q b h = go (waiting q.dispatcher) refl q.numbers refl
  where
    go : (rs : List Request) → waiting q.dispatcher ≡ rs → (ns : List ℕ) → q.numbers ≡ ns → First w q
    go [] e ns f = absurd (h e)
    go (r ∷ rs) e [] f = let z : ◌≡◌ {A = ℕ} 0 (suc (length rs)) = ap length (sym f) ∙ b.many ∙ ap length e in absurd (omega arith)
    go (r ∷ rs) e (n ∷ ns) f =
        let m = b.each 0 n (rw f refl) in
        let z : r ≡ m.request = (let y : some r ≡ some m.request = rw e at m.waits in cc) in
        record {
          number = n;
          numbers = ns;
          split = f;
          bytes = m.bytes;
          made = m.made;
          request = m.request;
          parsed = m.parsed;
          requests = rs;
          waits = e ∙ ap (λ (x : Request). x ∷ rs) z;
        }
