-- Who waits after a call.
--     untrue, nothing-there                  cases that cannot be
--     within                                 a place is under 32, of every dispatcher
--     count-waiting                          where the count is at most 32, it is the number of those that wait
--     nobody, somebody                       with a count of 0 nobody waits; who waits first is handed over
--     enqueued_as, Entered, entered          what an enqueue answers; one that answers 0
--     called-formed                          every call keeps the 32 places
--     called-waiting                         what a call hands over, and then who waits, are those who waited and the one that it takes in
-- Assumes nothing.
use Rattle.std.specs.Prelude.{Some}
use Prim.Native.Nat.{ℕ, zero, suc, min, ◌-◌, ◌≤◌, ◌<◌}
use mathlib.Core.Path.{◌≡◌, refl, sym, ◌∙◌, ap}
use mathlib.Core.Bool.{Bool, true, false}
use mathlib.Core.List.{List, [], ◌∷◌, ◌++◌, append-nil}
use mathlib.Core.Option.{Option, none, some}
use native.Mathlib.Omega.{arith}
use native.Mathlib.Numerals.{add-one}
use lib.Dec.{eqb, leb}
use lib.ListN.{length, get_or, set, take, drop, get_elem?, length-take, length-append, length-drop, length-set}
use lib.Seq.{length-take-le, take-suc-set, take-append-le}
use borrow.Author.Tests.{leb-true, leb-false, eqb-true, le-leb, ne_eqb}
use Rattle.model.specs.declared.Request.{Request}
use Rattle.model.specs.declared.Packet.TheVariants.{Requested}
use Rattle.model.specs.Choice.{pick, or_else, is_passed}
use Rattle.model.specs.Refusals.{no_refusal, malformed, clients_full, already_waiting}
use Rattle.model.specs.Versions.{Versions}
use Rattle.model.specs.Packets.{parse_packet, as_request, request_bytes}
use Rattle.model.specs.Operations.{request_of}
use Rattle.model_laws.proofs.Packets.{request_of_lem}
use Rattle.dispatch_claim.specs.declared.Dispatcher.{Dispatcher}
use Rattle.dispatch_claim.specs.declared.Enqueued.{Enqueued}
use Rattle.dispatch_claim.specs.Dispatcher.{places, no_request, waiting_count, waiting, waits, enqueue_refusal, with_last, enqueued, enqueue_request, enqueue_of}
use Rattle.dispatch_claim.specs.Dispatcher.{first_waiting, shifted, serve_of}
use Rattle.dispatch_claim.specs.Fair.{Call, enqueue, serve, after_call, taken, handed, Formed}

pub untrue : {A : Type 0} → false ≡ true → A
untrue e = let z : ◌≡◌ {A = ℕ} 0 1 = cc in absurd (omega arith)

pub nothing-there : {A B : Type 0} {a : B} → none ≡ some a → A
nothing-there e = let z : ◌≡◌ {A = ℕ} 0 1 = cc in absurd (omega arith)

-- ---- how many wait

most : (d : Dispatcher) → waiting_count d ≤ places
unfolding waiting_count
most d = go (leb d.count places) refl
  where
    go : (b : Bool) → leb d.count places ≡ b → pick b d.count places ≤ places
    go true e = leb-true _ _ e
    go false e = omega arith

counted : (d : Dispatcher) → d.count ≤ places → waiting_count d ≡ d.count
unfolding waiting_count
counted d h = rw (le-leb d.count places h)

length-waiting : (d : Dispatcher) → Formed d → length (waiting d) ≡ waiting_count d
unfolding waiting
length-waiting d f = length-take-le (waiting_count d) d.requests (omega (arith, most d, f))

pub most_wait : (d : Dispatcher) → length (waiting d) ≤ places
unfolding waiting
most_wait d = let z : length (take (waiting_count d) d.requests) ≡ min (waiting_count d) (length d.requests) = length-take (waiting_count d) d.requests in omega (arith, z, most d)

pub count-waiting : (d : Dispatcher) → Formed d → d.count ≤ places → length (waiting d) ≡ d.count
count-waiting d f h = length-waiting d f ∙ counted d h

pub within_list : {A : Type 0} (xs : List A) (i : ℕ) (a : A) → get_elem? xs i ≡ some a → i < length xs
within_list [] i a e = nothing-there e
within_list (x ∷ xs) zero a e = omega arith
within_list (x ∷ xs) (suc i) a e = let z = within_list xs i a e in omega arith

-- ---- the requests after a call

pub waiting-last : (d : Dispatcher) (q : Request) → Formed d → d.count < places → waiting (with_last d q) ≡ waiting d ++ (q ∷ [])
unfolding waiting with_last
waiting-last d q f h =
    ap (λ (n : ℕ). take n (set d.requests d.count q)) (counted (with_last d q) (omega arith) ∙ add-one d.count)
    ∙ take-suc-set d.requests d.count q (omega (arith, f))
    ∙ ap (λ (n : ℕ). take n d.requests ++ (q ∷ [])) (sym (counted d (omega arith)))

front-moved : (n : ℕ) (xs : List Request) → n ≤ length xs → take (n - 1) (drop 1 xs ++ (no_request ∷ [])) ≡ drop 1 (take n xs)
front-moved zero xs h = refl
front-moved (suc n) [] h = absurd (omega arith)
front-moved (suc n) (x ∷ xs) h = let e : suc n - 1 ≡ n = omega arith in rw e (take-append-le n xs (no_request ∷ []) (omega arith))

pub waiting-shifted : (d : Dispatcher) → Formed d → waiting (shifted d) ≡ drop 1 (waiting d)
unfolding waiting shifted
waiting-shifted d f =
    ap (λ (n : ℕ). take n (drop 1 d.requests ++ (no_request ∷ []))) (counted (shifted d) (omega (arith, most d)))
    ∙ front-moved (waiting_count d) d.requests (omega (arith, most d, f))

pub shifted-formed : (d : Dispatcher) → Formed d → Formed (shifted d)
unfolding shifted
shifted-formed d f = rw (length-append (drop 1 d.requests) (no_request ∷ []), length-drop 1 d.requests, f)

pub shifted-count : (d : Dispatcher) → (shifted d).count ≤ places
unfolding shifted
shifted-count d = omega (arith, most d)

-- ---- what an enqueue answers

-- one that is taken in: its request, which waits nowhere else, and there was a place
pub record Entered (d : Dispatcher) (p : List ℕ) : Type 0 where
  pub request : Request
  pub parsed : parse_packet p ≡ Some (Requested request)
  pub new : waits d request.command.client ≡ false
  pub room : d.count < places
  pub then : enqueue_of d p ≡ enqueued (with_last d request) no_refusal

-- either that, or a refusal that leaves the dispatcher as it was
pub data EnqueuedAs (d : Dispatcher) (p : List ℕ) : Type 0 where
  enters : Entered d p → EnqueuedAs d p
  refuses : (n : ℕ) → (n ≡ no_refusal → ⊥) → enqueue_of d p ≡ enqueued d n → EnqueuedAs d p

pub enqueued_as : (d : Dispatcher) (p : List ℕ) → EnqueuedAs d p
unfolding enqueue_of enqueue_request enqueue_refusal
enqueued_as d p = go (as_request (parse_packet p)) refl
  where
    go : (o : Option Request) → as_request (parse_packet p) ≡ o → EnqueuedAs d p
    go none e = refuses malformed (λ z. absurd (omega arith)) (rw e refl)
    go (some q) e = by (waits d q.command.client) refl (leb places d.count) refl
      where
        by : (t : Bool) → waits d q.command.client ≡ t → (u : Bool) → leb places d.count ≡ u → EnqueuedAs d p
        by true a u b = refuses already_waiting (λ z. absurd (omega arith)) (rw (e, a) refl)
        by false a true b = refuses clients_full (λ z. absurd (omega arith)) (rw (e, a, b) refl)
        by false a false b =
            enters (record { request = q; parsed = request_of_lem (parse_packet p) q e; new = a; room = leb-false places d.count b; then = rw (e, a, b) refl })

pub entered : (d : Dispatcher) (p : List ℕ) → (enqueue_of d p).number ≡ no_refusal → Entered d p
entered d p h = go (enqueued_as d p)
  where
    go : EnqueuedAs d p → Entered d p
    go (enters e) = e
    go (refuses n m e) = absurd (m (ap (λ (a : Enqueued). a.number) (sym e) ∙ h))

-- ---- one call

pub called-formed : (d : Dispatcher) (c : Call) → Formed d → Formed (after_call d c)
unfolding after_call serve_of with_last
called-formed d (enqueue p) f = go (enqueued_as d p)
  where
    go : EnqueuedAs d p → Formed (enqueue_of d p).dispatcher
    go (enters e) = rw e.then (length-set d.requests d.count e.request ∙ f)
    go (refuses n m e) = rw e f
called-formed d (serve v state log out) f = go (eqb d.count 0) refl
  where
    go : (t : Bool) → eqb d.count 0 ≡ t → Formed (serve_of v d state log out).dispatcher
    go true e = rw e f
    go false e = rw e (shifted-formed d f)

pub nobody : (d : Dispatcher) → d.count ≡ 0 → waiting d ≡ []
unfolding waiting waiting_count
nobody d e = rw e refl

pub nobody_counts : (d : Dispatcher) → Formed d → waiting d ≡ [] → d.count ≡ 0
unfolding waiting_count
nobody_counts d f e = go (leb d.count places) refl (sym (length-waiting d f) ∙ ap length e)
  where
    go : (t : Bool) → leb d.count places ≡ t → pick t d.count places ≡ 0 → d.count ≡ 0
    go true a b = b
    go false a b = absurd (omega arith)

one-and-rest : {A : Type 0} (xs : List A) → take 1 xs ++ drop 1 xs ≡ xs ++ []
one-and-rest [] = refl
one-and-rest (x ∷ xs) = ap (λ (ys : List _). x ∷ ys) (sym (append-nil xs))

none-taken : (o : Option Request) (t : Bool) → t ≡ false → or_else o [] (λ (q : Request). pick t (q ∷ []) []) ≡ []
none-taken none t e = refl
none-taken (some q) t e = rw e refl

pub called-waiting : (d : Dispatcher) (c : Call) → Formed d → handed d c ++ waiting (after_call d c) ≡ waiting d ++ taken d c
unfolding after_call handed taken as_request serve_of
called-waiting d (enqueue p) f = go (enqueued_as d p)
  where
    go : EnqueuedAs d p → waiting (enqueue_of d p).dispatcher ≡ waiting d ++ taken d (enqueue p)
    go (enters e) = rw (e.then, e.parsed) (waiting-last d e.request f e.room)
    go (refuses n m e) = rw (e, none-taken (as_request (parse_packet p)) (is_passed n) (ne_eqb n no_refusal m)) (sym (append-nil (waiting d)))
called-waiting d (serve v state log out) f = go (eqb d.count 0) refl
  where
    go : (t : Bool) → eqb d.count 0 ≡ t → take 1 (waiting d) ++ waiting (serve_of v d state log out).dispatcher ≡ waiting d ++ []
    go true e = rw (e, nobody d (eqb-true d.count 0 e)) refl
    go false e = rw (e, waiting-shifted d f) (one-and-rest (waiting d))

-- ---- who waits first is handed over

head_of : (n : ℕ) (xs : List Request) (q : Request) (qs : List Request) → take n xs ≡ q ∷ qs → get_or xs 0 no_request ≡ q
head_of zero xs q qs e = let z : ◌≡◌ {A = ℕ} 0 1 = cc in absurd (omega arith)
head_of (suc n) [] q qs e = let z : ◌≡◌ {A = ℕ} 0 1 = cc in absurd (omega arith)
head_of (suc n) (x ∷ xs) q qs e = cc

pub first-is : (d : Dispatcher) (q : Request) (qs : List Request) → waiting d ≡ q ∷ qs → first_waiting d ≡ q
unfolding waiting first_waiting
first-is d q qs e = head_of (waiting_count d) d.requests q qs e

pub somebody : (d : Dispatcher) (q : Request) (qs : List Request) → waiting d ≡ q ∷ qs → (v : Versions) (state log out : List ℕ)
    → (serve_of v d state log out).left ≡ request_of v state log (request_bytes q) out
unfolding serve_of
somebody d q qs e v state log out =
    rw (ne_eqb d.count 0 (λ z. absurd (let y : [] ≡ q ∷ qs = sym (nobody d z) ∙ e in let x : ◌≡◌ {A = ℕ} 0 1 = cc in omega arith)), first-is d q qs e) refl
