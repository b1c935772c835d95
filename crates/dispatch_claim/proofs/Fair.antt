-- The dispatcher's promise.
--     one_each      at most 32 wait, each client once
--     in_order      first come first served
--     fair          serving number i hands over the one that waited at place i
--     within        a place is under 32, of every dispatcher
--     reaches       a packet that was taken in is Request's in one of the next 32 servings
-- Assumes nothing.
use Prim.Native.Nat.{ℕ, zero, suc, ◌≤◌, ◌<◌}
use mathlib.Core.Path.{◌≡◌, refl, sym, ◌∙◌, ap}
use mathlib.Core.Bool.{Bool, true, false}
use mathlib.Core.List.{List, [], ◌∷◌, ◌++◌, append-nil, append_assoc}
use mathlib.Core.Logic.{◌⊎◌, inl, inr}
use mathlib.Core.Option.{some}
use native.Mathlib.Omega.{arith}
use lib.Dec.{eqb}
use lib.ListN.{length, drop, get_elem?, length-set}
use borrow.Author.Tests.{ltb-false, eq-eqb}
use Rattle.model.specs.declared.Request.{Request}
use Rattle.model.specs.declared.Packet.TheVariants.{Requested}
use Rattle.model.specs.Choice.{pick}
use Rattle.model.specs.Tables.{index_of}
use Rattle.model.specs.Versions.{Versions}
use Rattle.model.specs.Packets.{request_bytes, packet_bytes}
use Rattle.model.specs.Operations.{request_of}
use Rattle.model_laws.specs.Bytes.{Bytes}
use Rattle.model_laws.proofs.Packets.{packet-is}
use Rattle.dispatch_claim.specs.declared.Dispatcher.{Dispatcher}
use Rattle.dispatch_claim.specs.Dispatcher.{places, no_waiting, waiting_count, waiting, is_of, waits, with_last, enqueue_of, shifted, serve_of}
use Rattle.dispatch_claim.specs.Fair.{Call, enqueue, serve, after_call, after_calls, servings, taken, taken_in, handed, handed_over, Formed}
use Rattle.dispatch_claim.specs.Fair.{OneEach, HoldsOneEach, InOrder, Fair, Reaches}
use Rattle.dispatch_claim.proofs.Waiting.{untrue, nothing-there, within_list, most_wait, count-waiting, Entered, EnqueuedAs, enters, refuses, enqueued_as, entered}
use Rattle.dispatch_claim.proofs.Waiting.{waiting-last, waiting-shifted, shifted-formed, shifted-count, called-formed, called-waiting, somebody}

-- ---- first come first served

pub in_order : InOrder
unfolding InOrder handed_over taken_in after_calls
in_order d [] f = sym (append-nil (waiting d))
in_order d (c ∷ cs) f =
    let d' = after_call d c in
    append_assoc (handed d c) (handed_over d' cs) (waiting (after_calls d' cs))
    ∙ ap (λ (qs : List Request). handed d c ++ qs) (in_order d' cs (called-formed d c f))
    ∙ sym (append_assoc (handed d c) (waiting d') (taken_in d' cs))
    ∙ ap (λ (qs : List Request). qs ++ taken_in d' cs) (called-waiting d c f)
    ∙ append_assoc (waiting d) (taken d c) (taken_in d' cs)

-- ---- places

pub within : (d : Dispatcher) (i : ℕ) (q : Request) → get_elem? (waiting d) i ≡ some q → i < places
within d i q e = let z = within_list (waiting d) i q e in omega (arith, most_wait d)

-- an enqueue moves nobody
stays : (d : Dispatcher) (p : List ℕ) (i : ℕ) (q : Request) → Formed d → get_elem? (waiting d) i ≡ some q → get_elem? (waiting (after_call d (enqueue p))) i ≡ some q
unfolding handed
stays d p i q f e = rw (called-waiting d (enqueue p) f) (there (waiting d) (taken d (enqueue p)) i e)
  where
    there : (xs ys : List Request) (i : ℕ) → get_elem? xs i ≡ some q → get_elem? (xs ++ ys) i ≡ some q
    there [] ys i e = nothing-there e
    there (x ∷ xs) ys zero e = e
    there (x ∷ xs) ys (suc i) e = there xs ys i e

-- a serving moves everybody by one
moves : (d : Dispatcher) (v : Versions) (state log out : List ℕ) (x : Request) (xs : List Request) → Formed d → waiting d ≡ x ∷ xs
    → waiting (after_call d (serve v state log out)) ≡ xs
unfolding handed taken
moves d v state log out x xs f e =
    let z : x ∷ waiting (after_call d (serve v state log out)) ≡ x ∷ (xs ++ []) = rw e at (called-waiting d (serve v state log out) f) in
    let y : waiting (after_call d (serve v state log out)) ≡ xs ++ [] = cc in
    y ∙ append-nil xs

-- ---- fair

pub fair : Fair
unfolding Fair handed_over servings handed
fair d [] i q f e h = absurd (omega arith)
fair d (enqueue p ∷ cs) i q f e h = fair (after_call d (enqueue p)) cs i q (called-formed d (enqueue p) f) (stays d p i q f e) h
fair d (serve v state log out ∷ cs) i q f e h =
    go (waiting d) refl i e h (λ j. fair (after_call d (serve v state log out)) cs j q (called-formed d (serve v state log out) f))
  where
    d' : Dispatcher
    d' = after_call d (serve v state log out)

    go : (ws : List Request) → waiting d ≡ ws → (i : ℕ) → get_elem? (waiting d) i ≡ some q → i < suc (servings cs)
        → ((j : ℕ) → get_elem? (waiting d') j ≡ some q → j < servings cs → get_elem? (handed_over d' cs) j ≡ some q)
        → get_elem? (handed_over d (serve v state log out ∷ cs)) i ≡ some q
    go [] w i e h ih = nothing-there (rw w at e)
    go (x ∷ xs) w zero e h ih = rw w (rw w at e)
    go (x ∷ xs) w (suc j) e h ih = rw w (ih j (rw (moves d v state log out x xs f w) (rw w at e)) (omega arith))

-- ---- one of the next servings

record ServedAt (d : Dispatcher) (cs : List Call) (q : Request) (i : ℕ) : Type 0 where
  before : List Call
  versions : Versions
  state : List ℕ
  log : List ℕ
  out : List ℕ
  later : List Call
  split : cs ≡ before ++ (serve versions state log out ∷ later)
  number : servings before ≡ i
  served : (serve_of versions (after_calls d before) state log out).left ≡ request_of versions state log (request_bytes q) out

served-later : (d : Dispatcher) (c : Call) (cs : List Call) (q : Request) (i j : ℕ) → ((b : List Call) → servings b ≡ i → servings (c ∷ b) ≡ j)
    → ServedAt (after_call d c) cs q i → ServedAt d (c ∷ cs) q j
unfolding after_calls
served-later d c cs q i j n r =
    record {
      before = c ∷ r.before;
      versions = r.versions;
      state = r.state;
      log = r.log;
      out = r.out;
      later = r.later;
      split = ap (λ (x : List Call). c ∷ x) r.split;
      number = n r.before r.number;
      served = r.served;
    }

serving_at : (d : Dispatcher) (cs : List Call) (i : ℕ) (q : Request) → Formed d → get_elem? (waiting d) i ≡ some q → i < servings cs → ServedAt d cs q i
unfolding servings after_calls
serving_at d [] i q f e h = absurd (omega arith)
serving_at d (enqueue p ∷ cs) i q f e h =
    served-later d (enqueue p) cs q i i (λ b z. z) (serving_at (after_call d (enqueue p)) cs i q (called-formed d (enqueue p) f) (stays d p i q f e) h)
serving_at d (serve v state log out ∷ cs) i q f e h =
    go (waiting d) refl i e h (λ j. serving_at (after_call d (serve v state log out)) cs j q (called-formed d (serve v state log out) f))
  where
    d' : Dispatcher
    d' = after_call d (serve v state log out)

    go : (ws : List Request) → waiting d ≡ ws → (i : ℕ) → get_elem? (waiting d) i ≡ some q → i < suc (servings cs)
        → ((j : ℕ) → get_elem? (waiting d') j ≡ some q → j < servings cs → ServedAt d' cs q j)
        → ServedAt d (serve v state log out ∷ cs) q i
    go [] w i e h ih = nothing-there (rw w at e)
    go (x ∷ xs) w zero e h ih =
        let z : x ≡ q = (let y : some x ≡ some q = rw w at e in cc) in
        record {
          before = [];
          versions = v;
          state = state;
          log = log;
          out = out;
          later = cs;
          split = refl;
          number = refl;
          served = somebody d q xs (w ∙ ap (λ (y : Request). y ∷ xs) z) v state log out;
        }
    go (x ∷ xs) w (suc j) e h ih =
        served-later d (serve v state log out) cs q j (suc j) (λ b z. ap suc z) (ih j (rw (moves d v state log out x xs f w) (rw w at e)) (omega arith))

pub last-there : {A : Type 0} (xs : List A) (q : A) → get_elem? (xs ++ (q ∷ [])) (length xs) ≡ some q
last-there [] q = refl
last-there (x ∷ xs) q = last-there xs q

-- who was taken in waits last
pub entered-last : (d : Dispatcher) (p : List ℕ) → Formed d → (e : Entered d p) → get_elem? (waiting (enqueue_of d p).dispatcher) (length (waiting d)) ≡ some e.request
entered-last d p f e = rw (e.then, waiting-last d e.request f e.room) (last-there (waiting d) e.request)

pub request-again : (d : Dispatcher) (p : List ℕ) → Bytes p → (e : Entered d p) → request_bytes e.request ≡ p
unfolding packet_bytes
request-again d p b e = (packet-is p b (Requested e.request) e.parsed).same

pub reaches : Reaches
unfolding Reaches after_call
reaches d p f b h cs m =
    let e = entered d p h in
    let n : length (waiting d) ≡ d.count = count-waiting d f (let r = e.room in omega arith) in
    let r = serving_at (enqueue_of d p).dispatcher cs (length (waiting d)) e.request (called-formed d (enqueue p) f) (entered-last d p f e) (omega (arith, n, e.room)) in
    record {
      before = r.before;
      versions = r.versions;
      state = r.state;
      log = r.log;
      out = r.out;
      later = r.later;
      split = r.split;
      soon = omega (arith, r.number, n, e.room);
      served = rw (request-again d p b e) at r.served;
    }

-- ---- each client once

index_under : {A : Type 0} (t : A → Bool) (xs : List A) (i : ℕ) (a : A) → get_elem? xs i ≡ some a → t a ≡ true → index_of t xs < length xs
unfolding index_of
index_under t [] i a e h = nothing-there e
index_under t (x ∷ xs) i a e h = go (t x) refl i e (λ j z. index_under t xs j a z h)
  where
    go : (b : Bool) → t x ≡ b → (i : ℕ) → get_elem? (x ∷ xs) i ≡ some a → ((j : ℕ) → get_elem? xs j ≡ some a → index_of t xs < length xs) → pick b 0 (suc (index_of t xs)) < suc (length xs)
    go true b i e ih = omega arith
    go false b zero e ih = let z : x ≡ a = cc in untrue (sym b ∙ ap t z ∙ h)
    go false b (suc j) e ih = let z = ih j e in omega arith

-- a client that does not wait is none of those
not-waiting : (d : Dispatcher) (x i : ℕ) (q : Request) → waits d x ≡ false → get_elem? (waiting d) i ≡ some q → q.command.client ≡ x → ⊥
unfolding waits is_of
not-waiting d x i q w e h =
    let a : length (waiting d) ≤ index_of (is_of x) (waiting d) = ltb-false _ _ w in
    let b : index_of (is_of x) (waiting d) < length (waiting d) = index_under (is_of x) (waiting d) i q e (eq-eqb q.command.client x h) in
    omega arith

-- one of them, or the last
pub one_of : {A : Type 0} (xs : List A) (q r : A) (i : ℕ) → get_elem? (xs ++ (q ∷ [])) i ≡ some r → (get_elem? xs i ≡ some r) ⊎ ((i ≡ length xs) × (q ≡ r))
one_of [] q r zero e = inr (refl, let z : q ≡ r = cc in z)
one_of [] q r (suc i) e = nothing-there e
one_of (x ∷ xs) q r zero e = inl e
one_of (x ∷ xs) q r (suc i) e = elim (one_of xs q r i e) [ inl a ↦ inl a | inr b ↦ inr (ap suc b.0, b.1) ]

-- those behind the first
pub behind : {A : Type 0} (xs : List A) (i : ℕ) (q : A) → get_elem? (drop 1 xs) i ≡ some q → get_elem? xs (suc i) ≡ some q
behind [] i q e = nothing-there e
behind (x ∷ xs) i q e = e

enqueue-keeps : (d : Dispatcher) (p : List ℕ) → OneEach d → (e : Entered d p) → OneEach (with_last d e.request)
unfolding with_last
enqueue-keeps d p o e =
    record {
      formed = length-set d.requests d.count e.request ∙ o.formed;
      count = let r = e.room in omega arith;
      one = λ i j q r a b h. go i j q r (one_of (waiting d) e.request q i (rw at_last at a)) (one_of (waiting d) e.request r j (rw at_last at b)) h;
    }
  where
    at_last : waiting (with_last d e.request) ≡ waiting d ++ (e.request ∷ [])
    at_last = waiting-last d e.request o.formed e.room

    Of : ℕ → Request → Type 0
    Of i q = (get_elem? (waiting d) i ≡ some q) ⊎ ((i ≡ length (waiting d)) × (e.request ≡ q))

    go : (i j : ℕ) (q r : Request) → Of i q → Of j r → q.command.client ≡ r.command.client → i ≡ j
    go i j q r (inl a) (inl b) h = o.one i j q r a b h
    go i j q r (inl a) (inr b) h = absurd (not-waiting d e.request.command.client i q e.new a (h ∙ ap (λ (x : Request). x.command.client) (sym b.1)))
    go i j q r (inr a) (inl b) h = absurd (not-waiting d e.request.command.client j r e.new b (sym h ∙ ap (λ (x : Request). x.command.client) (sym a.1)))
    go i j q r (inr a) (inr b) h = a.0 ∙ sym b.0

serve-keeps : (d : Dispatcher) → OneEach d → OneEach (shifted d)
serve-keeps d o =
    record {
      formed = shifted-formed d o.formed;
      count = shifted-count d;
      one = λ i j q r a b h.
          let z = o.one (suc i) (suc j) q r (behind (waiting d) i q (rw next at a)) (behind (waiting d) j r (rw next at b)) h in omega arith;
    }
  where
    next : waiting (shifted d) ≡ drop 1 (waiting d)
    next = waiting-shifted d o.formed

call-keeps : (d : Dispatcher) (c : Call) → OneEach d → OneEach (after_call d c)
unfolding after_call serve_of
call-keeps d (enqueue p) o = go (enqueued_as d p)
  where
    go : EnqueuedAs d p → OneEach (enqueue_of d p).dispatcher
    go (enters e) = rw e.then (enqueue-keeps d p o e)
    go (refuses n m e) = rw e o
call-keeps d (serve v state log out) o = go (eqb d.count 0) refl
  where
    go : (t : Bool) → eqb d.count 0 ≡ t → OneEach (serve_of v d state log out).dispatcher
    go true e = rw e o
    go false e = rw e (serve-keeps d o)

at-start : OneEach no_waiting
unfolding no_waiting waiting waiting_count
at-start = record { formed = refl; count = omega arith; one = λ i j q r a b h. nothing-there a }

pub one_each : HoldsOneEach
one_each = record { at_first = at-start; kept = call-keeps }
