-- A checkpoint that was taken.
--     taken_framed     what is written is a checkpoint by its layout
--     taken            the state restored from it is the state, its places before the tail
-- Assumes nothing.
use Prim.Native.Nat.{ℕ, ◌≤◌}
use mathlib.Core.Path.{◌≡◌}
use mathlib.Core.Bool.{true}
use mathlib.Core.List.{List}
use native.Mathlib.Omega.{arith}
use lib.ListN.{length, drop}
use Rattle.std.specs.Prelude.{Ok}
use Rattle.model.specs.Limits.{checkpoint_size}
use Rattle.model.specs.Tables.{written}
use Rattle.model.specs.Logs.{head_bytes}
use Rattle.model.specs.States.{load}
use Rattle.model.specs.Versions.{today}
use Rattle.model.specs.Decisions.{timed_by}
use Rattle.model.specs.Operations.{stored}
use Rattle.model.specs.Checkpoints.{rebased, checkpoint_bytes, restored_bytes, checkpoint_framed}
use Rattle.refusals.specs.Numbers.{answered}
use Rattle.model_laws.specs.Bytes.{Bytes}
use Rattle.model_laws.specs.Fits.{Sound}
use Rattle.model_laws.proofs.Written.{written-front}
use Rattle.model_laws.proofs.States.{is-sound}
use Rattle.model_invariants.proofs.Loaded.{loaded_sound}
use Rattle.model_invariants.proofs.Checkpoints.{framed_back, checkpoint-fits}
use Rattle.model_invariants.proofs.Restored.{state-checkpoint}
use Rattle.server_checkpoint.specs.Taken.{after_checkpoint, checkpoint_taken}

module _ (s c : List ℕ) (h : Bytes s) (d : Sound s) (l : checkpoint_size ≤ length c) {c' : List ℕ} (q : c' ≡ written c 0 (checkpoint_bytes true (load s))) where
  pub taken_framed : checkpoint_framed c' ≡ true
  taken_framed =
      let S = loaded_sound s h (is-sound s d) in
      rw (q, written-front c (checkpoint_bytes true (load s)) (omega (arith, checkpoint-fits true (load s) S))) (framed_back true (load s) S (drop (length (checkpoint_bytes true (load s))) c))

  -- this program writes the form with times
  back : written s 0 (restored_bytes (written c 0 (checkpoint_bytes true (load s)))) ≡ stored s (rebased (load s))
  unfolding timed_by
  back = state-checkpoint today s c h (is-sound s d) l

  pub taken : (t g : List ℕ) {n m : ℕ} {s' t' : List ℕ} → n ≡ length (checkpoint_bytes true (load s)) → s' ≡ written s 0 (restored_bytes c')
      → m ≡ (load s).server
      → t' ≡ written t 0 (head_bytes m) → after_checkpoint (answered (Ok n)) s' g c' t' ≡ checkpoint_taken s g c t
  unfolding checkpoint_taken
  taken t g size state server tail = rw (size, state, tail, server, q, back)
