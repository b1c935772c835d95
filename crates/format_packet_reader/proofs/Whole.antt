-- A packet of one kind: by its length, then by its zero bytes and fields.
--     other_length     of another length it is malformed
--     by_fields        else its zero bytes and fields decide
--     result-size      a result of its length has the bytes of its form
-- Assumes nothing.
use Prim.Native.Nat.{ℕ, ◌≤◌}
use mathlib.Core.Path.{◌≡◌, refl}
use mathlib.Core.Bool.{Bool, true, false}
use mathlib.Core.List.{List}
use native.Mathlib.Omega.{arith}
use lib.ListN.{length}
use borrow.Author.Tests.{eq-eqb, ne_eqb}
use Rattle.std.specs.Prelude.{Option, Some, None}
use Rattle.std.specs.Bool.{then_some}
use Rattle.model.specs.declared.Packet.{Packet}
use Rattle.model.specs.Choice.{pick}
use Rattle.model.specs.Packets.{packet_length, result_kind_of, result_size_of, whole}

module _ (p : List ℕ) (kind : ℕ) (ok : Bool) (found : Packet) where
  then-pick : (t : Bool) → then_some t found ≡ pick t (Some found) None
  then-pick true = refl
  then-pick false = refl

  pub other_length : (length p ≡ packet_length kind → ⊥) → None ≡ whole p kind ok found
  unfolding whole
  other_length h = rw (ne_eqb (length p) (packet_length kind) h)

  pub by_fields : length p ≡ packet_length kind → {r : Option Packet} → r ≡ then_some ok found → r ≡ whole p kind ok found
  unfolding whole
  by_fields h e = rw (eq-eqb (length p) (packet_length kind) h, e) (then-pick ok)

pub result-size : (timed : Bool) {n m : ℕ} → n ≡ m → m ≡ packet_length (result_kind_of timed) → result_size_of timed ≤ n
unfolding packet_length result_kind_of result_size_of
result-size true e l = omega (arith, e, l)
result-size false e l = omega (arith, e, l)
