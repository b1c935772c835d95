-- Completion records of an image, at their places.
--     entry-drop     the fields of a row at a place
--     time-room      the time's bytes
-- Assumes nothing.
use Prim.Native.Nat.{ℕ, ◌+◌, ◌≤◌}
use mathlib.Core.Path.{◌≡◌, refl}
use mathlib.Core.Bool.{Bool, true, false, false≢true}
use mathlib.Core.List.{List}
use native.Mathlib.Omega.{arith}
use native.Mathlib.Nat.{add-zero}
use lib.ListN.{drop, get_or}
use lib.Seq.{get_or-drop}
use Rattle.model.specs.declared.ImageEntry.{ImageEntry}
use Rattle.model.specs.Numbers.{le32_at, signed_at}
use Rattle.model.specs.Packets.{time_at}
use Rattle.model.specs.Images.{image_entry_of, entry_row_of}
use Rattle.model_laws.proofs.Numbers.{le32-drop, signed-drop}

abbrev pub entry_from : Bool → List ℕ → ℕ → ImageEntry
entry_from timed s k =
    record {
      client = le32_at s k;
      call = le32_at s (k + 4);
      op = get_or s (k + 16) 0;
      argument = signed_at s (k + 8);
      result = record { outcome = get_or s (k + 17) 0; value = signed_at s (k + 12); quality = get_or s (k + 18) 0; time = time_at timed s (k + 20) };
    }

time-drop : (timed : Bool) (k : ℕ) (s : List ℕ) (at : ℕ) → time_at timed (drop k s) at ≡ time_at timed s (k + at)
unfolding time_at
time-drop true k s at = le32-drop k s at
time-drop false k s at = refl

pub entry-drop : (timed : Bool) (s : List ℕ) (k : ℕ) → image_entry_of timed (drop k s) ≡ entry_from timed s k
unfolding image_entry_of
entry-drop timed s k =
    rw (
      le32-drop k s 0,
      le32-drop k s 4,
      signed-drop k s 8,
      signed-drop k s 12,
      get_or-drop k s 16 0,
      get_or-drop k s 17 0,
      get_or-drop k s 18 0,
      time-drop timed k s 20,
      add-zero,
    )

-- the time lies within the row, in the form that has one
pub time-room : (timed : Bool) (k : ℕ) {n : ℕ} → k + entry_row_of timed ≤ n → timed ≡ true → k + 20 + 4 ≤ n
unfolding entry_row_of
time-room true k h e = omega (arith, h)
time-room false k h e = absurd (false≢true e)
