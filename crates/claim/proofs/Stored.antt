-- What a stored checkpoint means for survival and for recovery.
--     checkpoint-reach         a checkpoint that is stored leaves the log as long as it was, counted from the founding
--     storing-crash            a crash while it is stored keeps what was in force
--     survives-reach           what survives is kept by every later crash, what a checkpoint replaced included
--     tail_needs_checkpoint    recovery from checkpoint and tail needs a stored checkpoint
-- Assumes nothing.
use Prim.Native.Nat.{ℕ, suc, ◌+◌, ◌≤◌, ◌<◌}
use mathlib.Core.Path.{◌≡◌, refl, subst}
use mathlib.Core.List.{List, []}
use native.Mathlib.Omega.{arith}
use lib.ListN.{length, take, length-take}
use borrow.Author.Tests.{eq-eqb}
use Rattle.model.specs.Limits.{head_size}
use Rattle.model.specs.Refusals.{no_refusal}
use Rattle.model.specs.Versions.{Versions}
use Rattle.model.specs.Checkpoints.{AfterCheckpoint, checkpoint_of, recover_tail_of}
use Rattle.model.specs.Sequential.{Marked}
use Rattle.claim.specs.World.{World, Stored, Server, running, storing, crashed, stored_of, with_server, Lent, lent_state, lent_log, Event, crash, recover·tail, checkpoints, stores, crash_at, after}
use Rattle.claim.specs.Provisos.{Provisos, At, Begins, length_of, reach_of}
use Rattle.claim.specs.Claim.{SurvivesAt}

module _ (c : ℕ) (w : World) where
  same-server : (s : Server) → (with_server c s w).servers c ≡ s
  unfolding with_server
  same-server s = rw (eq-eqb c c refl)

  -- made, then stored: nothing is shorter than before
  pub checkpoint-reach : (v : Versions) (tail : List ℕ) (l : Lent) (k : Stored) (state log : List ℕ)
      → (checkpoint_of v (lent_state l state) (lent_log l log) l.out tail).answer.refusal ≡ no_refusal → head_size ≤ length log
      → head_size ≤ length (checkpoint_of v (lent_state l state) (lent_log l log) l.out tail).tail
      → reach_of ((stores c ((checkpoints c v tail l (running k state log) w).servers c) w).servers c) ≡ k.replaced + length log
  unfolding checkpoints stores reach_of length_of stored_of
  checkpoint-reach v tail l k state log e h t =
      let a : AfterCheckpoint = checkpoint_of v (lent_state l state) (lent_log l log) l.out tail in
      rw (eq-eqb a.answer.refusal no_refusal e, same-server, same-server) (omega (arith, h, t, length-take head_size a.tail))

  pub storing-crash : (n : ℕ) (k next : Stored) (log state tail : List ℕ) → (crash_at c n (storing k log next state tail) w).servers c ≡ crashed k (take n log) (length log)
  unfolding crash_at
  storing-crash n k next log state tail = same-server (crashed k (take n log) (length log))

module _ (plan : List ℕ) (es : List Event) where
  pub survives-reach : (n : ℕ) (m : Marked) (s : SurvivesAt es n m) (j kept : ℕ) → n < j → At es j (crash s.server kept)
      → reach_of ((after es (suc n)).servers s.server) ≤ (stored_of ((after es j).servers s.server)).replaced + kept
  survives-reach n m s j kept h a = s.kept j _ h (record { kept = kept; event = a; reaches = refl })

  pub tail_needs_checkpoint : Provisos plan es → (n c : ℕ) (state k tail : List ℕ) → At es n (recover·tail c state k tail) → (recover_tail_of state k tail).answer.refusal ≡ no_refusal
      → (stored_of ((after es n).servers c)).checkpoint ≡ [] → ⊥
  tail_needs_checkpoint P n c state k tail a e z =
      let B = subst (λ (x : List ℕ). Begins x k) z (P.recovery_uses-both n c state k tail a e).1 in
      omega (arith, B.some·bytes)
