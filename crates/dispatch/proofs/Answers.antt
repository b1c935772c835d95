-- Every exit of a call: what the calls before it found, and that it is the definition's answer.
--     room, not-taken_in, taken_in_lem   an enqueued request, by its refusal's number
--     not-request, is-request        an enqueued packet
--     serve-none, serve-first        a serving
-- Assumes nothing.
use Rattle.std.specs.Prelude.{Option, Some, None}
use Prim.Native.Nat.{ℕ, ◌<◌}
use mathlib.Core.Path.{◌≡◌, refl, sym}
use mathlib.Core.List.{List, [], ◌∷◌}
use mathlib.Core.Option.{none}
use borrow.Author.Tests.{eq-eqb, ne_eqb}
use denote.Enum.Declared.{tag_of}
use types.Run.{OneOf, miss}
use Rattle.model.specs.declared.Answer.{Answer}
use Rattle.model.specs.declared.Request.{Request}
use Rattle.model.specs.declared.Packet.{Packet}
use Rattle.model.specs.declared.Packet.TheVariants.{Requested, Resulted, Refused, Receipted, Noticed, Granted}
use Rattle.model.specs.contracts.Packet.{the_type}
use Rattle.model.specs.Refusals.{no_refusal, malformed, unknown}
use Rattle.model.specs.Versions.{today}
use Rattle.model.specs.Packets.{parse_packet, as_request, request_bytes}
use Rattle.model.specs.Operations.{answer_of, after, settle, request_of}
use Rattle.model.specs.declared.Refusal.{Refusal}
use Rattle.refusals.specs.Numbers.{number_of}
use Rattle.refusals.proofs.Numbers.{number-some}
use Rattle.model_laws.proofs.Refused.{passing}
use Rattle.dispatch_claim.specs.declared.Dispatcher.{Dispatcher}
use Rattle.dispatch_claim.specs.declared.Enqueued.{Enqueued}
use Rattle.dispatch_claim.specs.Dispatcher.{places, enqueue_refusal, with_last, enqueued, enqueue_request, enqueue_of, first_waiting, shifted, serve_of, after_serve}

-- ---- enqueue

module _ (d : Dispatcher) (q : Request) where
  pub room : no_refusal ≡ enqueue_refusal d q → d.count < places
  unfolding enqueue_refusal
  room e = let p = sym e in search passing depth 12

  pub not-taken_in : (y : Refusal) → number_of y ≡ enqueue_refusal d q → {n : ℕ} → n ≡ number_of y → enqueued d n ≡ enqueue_request d q
  unfolding enqueue_request
  not-taken_in y e k = rw (k, ← e, ne_eqb (number_of y) no_refusal (number-some y)) refl

  pub taken_in_lem : no_refusal ≡ enqueue_refusal d q → {next : Dispatcher} → next ≡ with_last d q → enqueued next no_refusal ≡ enqueue_request d q
  unfolding enqueue_request
  taken_in_lem e k = rw (← e, k) refl

none_other : (p : Packet) → OneOf (1 ∷ 2 ∷ 3 ∷ 4 ∷ 5 ∷ []) (tag_of the_type p) → as_request (Some p) ≡ none
unfolding as_request
none_other (Requested q) h = absurd (miss (1 ∷ 2 ∷ 3 ∷ 4 ∷ 5 ∷ []) 0 tt h)
none_other (Resulted q) h = refl
none_other (Refused q) h = refl
none_other (Receipted q) h = refl
none_other (Noticed n) h = refl
none_other (Granted q) h = refl

module _ (d : Dispatcher) (packet : List ℕ) {o : Option Packet} (e : o ≡ parse_packet packet) where
  pub not-packet : o ≡ None → enqueued d malformed ≡ enqueue_of d packet
  unfolding enqueue_of as_request
  not-packet is = rw (← e, is) refl

  pub not-request : {p : Packet} → o ≡ Some p → OneOf (1 ∷ 2 ∷ 3 ∷ 4 ∷ 5 ∷ []) (tag_of the_type p) → enqueued d malformed ≡ enqueue_of d packet
  unfolding enqueue_of
  not-request {p} is h = rw (← e, is, none_other p h) refl

  pub is-request : (q : Request) {p : Packet} → o ≡ Some p → p ≡ Requested q → {r : Enqueued} → r ≡ enqueue_request d q → r ≡ enqueue_of d packet
  unfolding enqueue_of as_request
  is-request q is h k = rw (← e, is, h) k

-- ---- serve

module _ (d : Dispatcher) (s log out : List ℕ) {a : Answer} where
  pub serve-none : d.count ≡ 0 → a ≡ answer_of unknown 0 → after_serve (record { dispatcher = d; answer = a }) s log out ≡ serve_of today d s log out
  unfolding serve_of settle
  serve-none h k = rw (eq-eqb _ _ h, k) refl

  pub serve-first : (d.count ≡ 0 → ⊥) → {q : Request} {packet t l o : List ℕ} {next : Dispatcher} → q ≡ first_waiting d → packet ≡ request_bytes q
      → after a t l o ≡ request_of today s log packet out → next ≡ shifted d
      → after_serve (record { dispatcher = next; answer = a }) t l o ≡ serve_of today d s log out
  unfolding serve_of
  serve-first h {q} first bytes left moved = rw (ne_eqb _ _ h, ← first, ← bytes, ← left, moved) refl
