-- A packet that arrives at a server, and every call of a server, as its definition says.
--     served_by_lem                                          a call, and the packet that it wrote
--     told-served                                        a line that left all as it was
--     by_request_lem, by_release_lem, by_take_lem, by_none           a packet by its kind
--     deliver-made, deliver_nowhere                      and by its number
-- Assumes nothing.
use Prim.Native.Nat.{ℕ, ◌≤◌}
use mathlib.Core.Path.{◌≡◌, refl, sym, ap, ◌∙◌}
use mathlib.Core.List.{List, [], ◌∷◌}
use mathlib.Core.Option.{some}
use Rattle.std.specs.Prelude as std
use Rattle.std.specs.Prelude.{Some, None}
use native.Mathlib.Omega.{arith}
use lib.ListN.{length}
use borrow.Author.Tests.{eq-eqb, ne_eqb}
use Rattle.model.specs.declared.Answer.{Answer}
use Rattle.model.specs.Numbers.{byte_at}
use Rattle.model.specs.Refusals.{malformed, unknown}
use Rattle.model.specs.Limits.{request_kind, receipt_kind, result_size}
use Rattle.model.specs.Versions.{today}
use Rattle.model.specs.Operations.{After, after, request_of, release_of, take_of}
use Rattle.model.specs.Simulator.{plain, room, delivered}
use Rattle.simulator_text.specs.Values.{reply_is}
use Rattle.simulator_memory.specs.declared.Made.{Made}
use Rattle.simulator_memory.specs.Store.{packet_in, packet_for, packets_in, numbered, Outcome, outcome, outcome_is, outcome_by, Next}
use Rattle.simulator_memory.proofs.Rows.{numbered_row, numbered_nowhere}
use Rattle.simulator.specs.Served.{image_byte, Served, served, served_by, deliver_by, delivering}

pub byte-none : (b : List ℕ) → length b ≤ 0 → 0 ≡ byte_at b 0
byte-none [] h = refl
byte-none (x ∷ b) h = absurd (omega arith)

-- a call that answered a, and the packet that it wrote put into the store
pub served_by_lem : {a : Answer} {s l o : List ℕ} {x : After} {r : Outcome} {P : Type 0} (ps : List (List ℕ)) → after a s l o ≡ x → (r ≡ outcome_by ps a o) × P →
    (served s l r ≡ served_by ps x) × P
unfolding served_by
served_by_lem ps p q = (rw q.0 (ap (served_by ps) p), q.1)

-- a line that left all as it was
pub told-served : (m : Made) (s l store : List ℕ) (n : ℕ) {k : ℕ} → m.count ≡ n → reply_is m.reply ≡ plain k
    → (served s l (outcome_is m store) ≡ served s l (outcome (packets_in store n) (plain k))) × Next n m.count
unfolding outcome_is
told-served m s l store n p q = (rw (p, q) refl, record { least = omega arith; most = omega arith })

-- ---- delivery by kind

module _ (s l b : List ℕ) (ps : List (List ℕ)) {k : ℕ} (e : k ≡ byte_at b 0) where
  pub by_request_lem : k ≡ request_kind → served_by ps (request_of today s l b (room result_size)) ≡ delivering s l ps (some b)
  unfolding delivering deliver_by delivered
  by_request_lem h = rw (eq-eqb (byte_at b 0) request_kind (sym e ∙ h)) refl

  pub by_release_lem : k ≡ receipt_kind → served_by ps (release_of s l b) ≡ delivering s l ps (some b)
  unfolding delivering deliver_by delivered
  by_release_lem h =
      let f : byte_at b 0 ≡ receipt_kind = sym e ∙ h in
      rw (ne_eqb (byte_at b 0) request_kind (λ g. omega arith), eq-eqb (byte_at b 0) receipt_kind f) refl

  pub by_take_lem : k ≡ image_byte → served_by ps (take_of s l b) ≡ delivering s l ps (some b)
  unfolding delivering deliver_by delivered
  by_take_lem h =
      let f : byte_at b 0 ≡ image_byte = sym e ∙ h in
      rw (ne_eqb (byte_at b 0) request_kind (λ g. omega arith), ne_eqb (byte_at b 0) receipt_kind (λ g. omega arith), eq-eqb (byte_at b 0) image_byte f) refl

  pub by_none : (k ≡ request_kind → ⊥) → (k ≡ receipt_kind → ⊥) → (k ≡ image_byte → ⊥) → served s l (outcome ps (plain malformed)) ≡ delivering s l ps (some b)
  unfolding delivering deliver_by delivered
  by_none f g h =
      let i = ne_eqb (byte_at b 0) request_kind (λ q. f (e ∙ q)) in
      let j = ne_eqb (byte_at b 0) receipt_kind (λ q. g (e ∙ q)) in
      rw (i, j, ne_eqb (byte_at b 0) image_byte (λ q. h (e ∙ q))) refl

-- ---- packets by number

module _ (store : List ℕ) (n k : ℕ) {p : std.Option ℕ} (e : packet_for store p ≡ numbered (packets_in store n) k) where
  pub deliver_nowhere : (s l : List ℕ) → p ≡ None
      → served s l (outcome (packets_in store n) (plain unknown)) ≡ delivering s l (packets_in store n) (numbered (packets_in store n) k)
  unfolding delivering
  deliver_nowhere s l f = rw (numbered_nowhere store n k e f) refl

  pub deliver-made : {v : Served} {i : ℕ} (s l : List ℕ) → p ≡ Some i → v ≡ delivering s l (packets_in store n) (some (packet_in store i))
      → v ≡ delivering s l (packets_in store n) (numbered (packets_in store n) k)
  deliver-made s l f q = rw (numbered_row store n k e f) q
