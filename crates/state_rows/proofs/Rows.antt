-- Rows of a state's tables, at their places.
--     point-drop, completion-drop     the fields of a row at a place
--     point-runs, completion-runs     the stores of a row's fields, one after the other
-- Assumes nothing.
use Prim.Native.Nat.{ℕ, ◌+◌}
use mathlib.Core.Path.{◌≡◌, refl}
use mathlib.Core.List.{List}
use native.Mathlib.Omega.{arith}
use native.Mathlib.Nat.{add-zero}
use lib.ListN.{drop, get_or}
use lib.Seq.{get_or-drop}
use Rattle.model.specs.declared.Point.{Point}
use Rattle.model.specs.declared.Completion.{Completion}
use Rattle.model.specs.Numbers.{le32_at, le64_at, le32, le64, signed_at, signed32, quad}
use Rattle.model.specs.Tables.{written}
use Rattle.model.specs.States.{point_of, point_bytes, completion_of, completion_bytes}
use Rattle.model_laws.specs.Runs.{last, run, stored_by, bytes_by}
use Rattle.model_laws.proofs.Numbers.{le32-drop, le64-drop, signed-drop}
use Rattle.model_laws.proofs.Written.{runs-stored}

-- ---- reads

abbrev pub point_at_place : List ℕ → ℕ → Point
point_at_place s k =
    record {
      status = get_or s k 0;
      quality = get_or s (k + 1) 0;
      destination = get_or s (k + 2) 0;
      value = signed_at s (k + 4);
      move_number = le32_at s (k + 8);
      taken_move = le32_at s (k + 12);
      give_end = le64_at s (k + 16);
      take_end = le64_at s (k + 24);
    }

pub point-drop : (s : List ℕ) (k : ℕ) → point_of (drop k s) ≡ point_at_place s k
unfolding point_of
point-drop s k =
    rw (get_or-drop k s 0 0, get_or-drop k s 1 0, get_or-drop k s 2 0, signed-drop k s 4, le32-drop k s 8, le32-drop k s 12, le64-drop k s 16, le64-drop k s 24, add-zero)

abbrev pub completion_at_place : List ℕ → ℕ → Completion
completion_at_place s k =
    record {
      command = record { client = le32_at s k; call = le32_at s (k + 4); op = get_or s (k + 16) 0; point = get_or s (k + 19) 0; argument = signed_at s (k + 8) };
      result = record { outcome = get_or s (k + 17) 0; value = signed_at s (k + 12); quality = get_or s (k + 18) 0; time = le32_at s (k + 20) };
      end = le64_at s (k + 24);
    }

pub completion-drop : (s : List ℕ) (k : ℕ) → completion_of (drop k s) ≡ completion_at_place s k
unfolding completion_of
completion-drop s k =
    rw (
      le32-drop k s 0,
      le32-drop k s 4,
      signed-drop k s 8,
      signed-drop k s 12,
      get_or-drop k s 16 0,
      get_or-drop k s 17 0,
      get_or-drop k s 18 0,
      get_or-drop k s 19 0,
      le32-drop k s 20,
      le64-drop k s 24,
      add-zero,
    )

-- ---- stores

pub point-runs : (s : List ℕ) (k : ℕ) (x : Point)
    → written (written (written (written (written (written s k (quad x.status x.quality x.destination 0)) (k + 4) (signed32 x.value)) (k + 8) (le32 x.move_number)) (k + 12)
    (le32 x.taken_move)) (k + 16) (le64 x.give_end)) (k + 24) (le64 x.take_end)
    ≡ written s k (point_bytes x)
unfolding point_bytes le64 stored_by bytes_by
point-runs s k x =
    runs-stored s k
    (run (quad x.status x.quality x.destination 0) (k + 4) refl
    (run (signed32 x.value) (k + 8) (omega arith)
    (run (le32 x.move_number) (k + 12) (omega arith)
    (run (le32 x.taken_move) (k + 16) (omega arith)
    (run (le64 x.give_end) (k + 24) (omega arith)
    (last (le64 x.take_end)))))))

pub completion-runs : (s : List ℕ) (k : ℕ) (r : Completion)
    → written (written (written (written (written (written (written s k (le32 r.command.client)) (k + 4) (le32 r.command.call)) (k + 8) (signed32 r.command.argument)) (k + 12)
    (signed32 r.result.value)) (k + 16) (quad r.command.op r.result.outcome r.result.quality r.command.point)) (k + 20) (le32 r.result.time)) (k + 24)
    (le64 r.end)
    ≡ written s k (completion_bytes r)
unfolding completion_bytes le64 stored_by bytes_by
completion-runs s k r =
    runs-stored s k
    (run (le32 r.command.client) (k + 4) refl
    (run (le32 r.command.call) (k + 8) (omega arith)
    (run (signed32 r.command.argument) (k + 12) (omega arith)
    (run (signed32 r.result.value) (k + 16) (omega arith)
    (run (quad r.command.op r.result.outcome r.result.quality r.command.point) (k + 20) (omega arith)
    (run (le32 r.result.time) (k + 24) (omega arith)
    (last (le64 r.end))))))))
