-- An event over bytes and its event over records leave both worlds alike.
--     step-alike
-- Assumes nothing.
use Prim.Native.Nat.{ℕ}
use mathlib.Core.Path.{◌≡◌, refl, sym, ◌∙◌, ap, subst}
use mathlib.Core.Bool.{Bool}
use mathlib.Core.List.{List, []}
use mathlib.Core.Option.{Option, none, some}
use lib.ListN.{get_elem?}
use Rattle.model.specs.Choice.{pick, or_else}
use Rattle.model.specs.States.{State, load}
use Rattle.model.specs.Decisions.{Decided}
use Rattle.model_laws.specs.Bytes.{Bytes}
use Rattle.model.specs.Calls.{OperationOf, Operation, handed, request, fetch, sync, notice, give, image, take_in, receipt, release, decision, operated}
use Rattle.model_invariants.specs.Calls.{output_size, has_output, output, LentBytes}
use Rattle.model_invariants.proofs.Calls.{handed-over}
use Rattle.claim.specs.World.{Lent, lent_state, packet}
use Rattle.claim.specs.World as B
use Rattle.claim.specs.Provisos.{Counted, Typed}
use Rattle.claim.specs.Provisos as BP
use Rattle.claim.specs.RecordWorld as R
use Rattle.safety.specs.Alike.{Both, whole}
use Rattle.safety.specs.Allowed.{Allowed}
use Rattle.safety.specs.Decoded.{room_in, room_of, place_of, decoded}
use Rattle.safety.proofs.Worlds.{same-packet, alike-outside}
use Rattle.safety.proofs.Parties.{packet-made, parties-outside}
use Rattle.safety.proofs.Called.{call-alike}
use Rattle.safety.proofs.Restarts.{crash-alike, found_alike, recover-alike, recover-tail-alike}
use Rattle.safety.proofs.Stores.{checkpoint-alike, store-alike, look_alike}

-- counted from the founding, an operation is handed the same
module _ {P Q : Type 0} (f : P → Option Q) (b : ℕ) where
  packet-whole : (k : Q → OperationOf Q) → ((x : Q) → whole b (k x) ≡ k x) → (u : Option Q)
      → or_else u none (λ (x : Q). some (k x)) ≡ or_else (or_else u none (λ (x : Q). some (k x))) none (λ (o : OperationOf Q). some (whole b o))
  packet-whole k h none = refl
  packet-whole k h (some x) = ap some (sym (h x))

  handed-whole : (o : OperationOf P) → handed f (whole b o) ≡ or_else (handed f o) none (λ (x : OperationOf Q). some (whole b x))
  unfolding handed whole
  handed-whole (request v p) = packet-whole (request v) (λ x. refl) (f p)
  handed-whole (fetch v x c) = refl
  handed-whole (sync m) = refl
  handed-whole (notice p) = packet-whole notice (λ x. refl) (f p)
  handed-whole (give p d) = refl
  handed-whole (image v p) = refl
  handed-whole (take_in p) = packet-whole take_in (λ x. refl) (f p)
  handed-whole (receipt p) = refl
  handed-whole (release p) = packet-whole release (λ x. refl) (f p)

-- what asks the same of the output has the same room
same-room : (s : B.Server) (u : Lent) (out : List ℕ) (f g : State → ℕ) → ((st : State) → f st ≡ g st) → room_of s u out f ≡ room_of s u out g
unfolding room_of room_in
same-room B.nothing u out f g h = refl
same-room (B.running k state log) u out f g h = rw (h (load (lent_state u state))) refl
same-room (B.storing k log next state tail) u out f g h = refl
same-room (B.crashed k kept mark) u out f g h = refl

module _ (plan : List ℕ) {r : R.World} {b : B.World} (l : Both plan r b) where
  same-handed : (o : OperationOf ℕ) → handed (packet r) o ≡ handed (packet b) o
  unfolding packet
  same-handed o = ap (λ (m : List (List ℕ)). handed (λ n. get_elem? m n) o) l.alike.made

  -- an operation: what was made is bytes
  operation-alike : (c : ℕ) (o : OperationOf ℕ) (u : Lent) → Counted u
      → Both plan (R.calls_on c (room_of (b.servers c) u (output o u.out) (λ st. output_size st o)) (handed (packet r) (whole (B.stored_of (b.servers c)).replaced o)) r)
      (B.calls_on c u (handed (packet b) o) b)
  unfolding R.calls_on B.calls_on output
  operation-alike c o u ok = rw (handed-whole (packet r) (B.stored_of (b.servers c)).replaced o, same-handed o) (go (handed (packet b) o) refl)
    where
      go : (x : Option Operation) → handed (packet b) o ≡ x
          → Both plan
          (R.calls_on c (room_of (b.servers c) u (pick (has_output o) u.out []) (λ st. output_size st o)) (or_else x none (λ (y : Operation). some (whole (B.stored_of (b.servers c)).replaced y))) r)
          (B.calls_on c u x b)
      go none z = l
      go (some x) z =
          let H = handed-over (packet b) o x z in
          let bytes : LentBytes x = H.named Bytes (λ p bs e. packet-made l.parties p bs (same-packet l.alike p ∙ e)) in
          let d : State → ℕ → Decided = decision (whole (B.stored_of (b.servers c)).replaced x) in
          let same : room_of (b.servers c) u (output x u.out) (λ st. output_size st x) ≡ room_of (b.servers c) u (pick (has_output o) u.out []) (λ st. output_size st o)
          = ap (λ (t : Bool). room_of (b.servers c) u (pick t u.out []) (λ st. output_size st x)) H.has ∙ same-room (b.servers c) u _ _ _ H.size in
          subst (λ (n : ℕ). Both plan (R.calls c n d (r.servers c) r) (B.calls c u (λ s g. operated x s g u.out) (b.servers c) b)) same (call-alike x bytes u ok l c)

  pub step-alike : (y : B.Event) → Allowed plan b y → Both plan (R.step r (decoded plan b y)) (B.step b y)
  unfolding decoded place_of Typed BP.Bytes R.step B.step
  step-alike (B.found c state log p n) a = found_alike plan l c state log p n a.typed.0 a.typed.1 (a.founds c state log p n refl)
  step-alike (B.call c o u) a = operation-alike c o u a.typed
  step-alike (B.inquire c i u) a = unfold R.calls_on handed in look_alike l c _ u _
  step-alike (B.recover c state log p) a = recover-alike plan l c state a.typed log p (a.recovers c state log p refl)
  step-alike (B.checkpoint c v tail u) a = unfold R.calls_on handed in checkpoint-alike l c _ v u tail
  step-alike (B.store c) a = unfold R.calls_on handed in store-alike l c _
  step-alike (B.recover·tail c state k tail) a = recover-tail-alike plan l c state a.typed k tail (a.recovers·tail c state k tail refl)
  step-alike (B.crash c k) a = let x = a.crashes c k refl in crash-alike l c k x.0 x.1
  step-alike (B.outside e) a = record { alike = alike-outside l.alike e; parties = parties-outside l.parties e a.typed }
