-- Checkpoint, and recovery from checkpoint and tail, leave the state sound where they are not refused, as the calls of Calls do.
--     checkpoint_elim                              what a checkpoint comes to, case by case
--     checkpoint-call-sound, recover-tail-sound    number 0: the buffer passes the test of soundness
--     checkpoint-call-kept, recover-tail-kept      a call on a sound buffer, refused or not, leaves a sound buffer
-- Assumes nothing.
use Prim.Native.Nat.{ℕ, ◌*◌, ◌≤◌, ◌<◌}
use mathlib.Core.Path.{◌≡◌, refl, sym, ◌∙◌}
use mathlib.Core.Bool.{Bool, true, false, ◌||◌, not}
use mathlib.Core.List.{List}
use mathlib.Core.Logic.{inl, inr}
use mathlib.Core.Option.{Option, none, some}
use native.Mathlib.Omega.{arith}
use lib.ListN.{length}
use lib.Dec.{eqb, ltb}
use borrow.Author.Tests.{ltb-false, not-false}
use Rattle.model.specs.Versions.{Versions}
use Rattle.model.specs.Choice.{pick, or_else, is_passed}
use Rattle.model.specs.Refusals
use Rattle.model.specs.Numbers.{word}
use Rattle.model.specs.Limits.{state_size, head_size, checkpoint_size}
use Rattle.model.specs.Logs.{head_server, head_ok, head_bytes}
use Rattle.model.specs.Tables.{written}
use Rattle.model.specs.States.{State, load, sound}
use Rattle.model.specs.Apply.{with_mark}
use Rattle.model.specs.Decisions.{timed_by}
use Rattle.model.specs.Operations.{After, answer_of, short, unfit, stored, settle, left_unless, settle_recovered, recovered_on}
use Rattle.model.specs.Checkpoints.{rebased, checkpoint_bytes, checkpoint_state, AfterCheckpoint, checkpoint_refusal, checkpoint_of, recovered_tail, recover_tail_refusal, recover_tail_of}
use Rattle.model_laws.specs.Bytes.{Bytes}
use Rattle.model_laws.proofs.Tests.{choose, impossible, or_left, or_right}
use Rattle.model_laws.proofs.Logs.{head-length}
use Rattle.model_laws.proofs.TwoWalks.{recovered_on_lem, recovered-off}
use Rattle.model_invariants.specs.History.{RecoveredSound}
use Rattle.model_invariants.specs.Passed.{PassedCheckpoint}
use Rattle.model_invariants.proofs.Crash.{recovered-from}
use Rattle.model_invariants.proofs.Loaded.{loaded_sound, stored-sound}
use Rattle.model_invariants.proofs.Checkpoints.{rebased_sound64}
use Rattle.model_invariants.proofs.Restored.{checkpoint-sound}
use Rattle.model_invariants.proofs.Calls.{Begun, refused}

-- ---- Checkpoint

module _ (v : Versions) (state log k tail : List ℕ) where
  -- where the tests are passed
  abbrev pub checkpointed : AfterCheckpoint
  checkpointed =
      record {
        answer = answer_of Refusals.no_refusal (length (checkpoint_bytes (timed_by v (load state)) (load state)));
        state = stored state (rebased (load state));
        log = log;
        checkpoint = written k 0 (checkpoint_bytes (timed_by v (load state)) (load state));
        tail = written tail 0 (head_bytes (load state).server);
      }

  -- where n refuses
  abbrev pub not_checkpointed : ℕ → AfterCheckpoint
  not_checkpointed n = record { answer = answer_of n 0; state = state; log = log; checkpoint = k; tail = tail }

  pub checkpoint_elim : (P : AfterCheckpoint → Type 0) → ((n : ℕ) → 1 ≤ n → P (not_checkpointed n)) → (PassedCheckpoint state k tail → P checkpointed) → P (checkpoint_of v state log k tail)
  unfolding checkpoint_of checkpoint_refusal short unfit
  checkpoint_elim P out on =
      let left : ℕ → AfterCheckpoint = λ (n : ℕ). pick (is_passed n) checkpointed (not_checkpointed n) in
      let s : Bool = ltb (length state) state_size in
      let b : Bool = ltb (length k) checkpoint_size in
      let t : Bool = ltb (length tail) head_size in
      choose (λ (n : ℕ). P (left n)) (s || (b || t)) (λ e. out Refusals.too_short (omega arith))
      (λ e.
      choose (λ (n : ℕ). P (left n)) (unfit state log) (λ f. out Refusals.unsound (omega arith))
      (λ f.
      choose (λ (n : ℕ). P (left n)) (ltb (load state).mark (load state).size) (λ g. out Refusals.not_synced (omega arith))
      (λ g.
      let i = or_right s (b || t) e in
      on (record {
        whole = ltb-false _ _ (or_left s (b || t) e);
        room = ltb-false _ _ (or_left b t i);
        head = ltb-false _ _ (or_right b t i);
        sound = not-false _ (or_left (not (sound state)) (ltb (length log) (load state).size) f);
        synced = ltb-false _ _ g;
      }))))

  checkpoint-begun : Bytes state → Begun (checkpoint_of v state log k tail).answer.refusal state → sound (checkpoint_of v state log k tail).state ≡ true
  checkpoint-begun b =
      checkpoint_elim (λ a. Begun a.answer.refusal state → sound a.state ≡ true) (λ n h. refused state n (λ z. omega (arith, h, z)))
      (λ p e. stored-sound state (rebased (load state)) (rebased_sound64 (load state) (loaded_sound state b p.sound)) (omega (arith, p.whole)))

  pub checkpoint-call-sound : Bytes state → (checkpoint_of v state log k tail).answer.refusal ≡ Refusals.no_refusal → sound (checkpoint_of v state log k tail).state ≡ true
  checkpoint-call-sound b e = checkpoint-begun b (inl e)

  pub checkpoint-call-kept : Bytes state → sound state ≡ true → sound (checkpoint_of v state log k tail).state ≡ true
  checkpoint-call-kept b e = checkpoint-begun b (inr e)

-- ---- Recover from checkpoint and tail

-- the state that any bytes give
pub tail-sound : (checkpoint tail : List ℕ) → Bytes checkpoint → Bytes tail → length tail < word * word → (now : State) → recovered_tail checkpoint tail ≡ some now → RecoveredSound tail now
unfolding recovered_tail
tail-sound checkpoint tail b c z now e = go (checkpoint_state checkpoint) refl e
  where
    on : (st : State) → checkpoint_state checkpoint ≡ some st → recovered_on st tail ≡ some now → (a : Bool) → head_ok tail ≡ a → RecoveredSound tail now
    on st k r true a = recovered-from (checkpoint-sound checkpoint b st k) tail now (head-length tail a) c z (sym (recovered_on_lem tail st a) ∙ r)
    on st k r false a = let n : none ≡ some now = sym (recovered-off tail st a) ∙ r in impossible cc

    go : (o : Option State) → checkpoint_state checkpoint ≡ o
        → or_else o none (λ (st : State). pick (eqb (head_server tail) st.server) (recovered_on st tail) none) ≡ some now → RecoveredSound tail now
    go none k r = impossible cc
    go (some st) k r =
        choose (λ (x : Option State). x ≡ some now → RecoveredSound tail now) (eqb (head_server tail) st.server) (λ q h. on st k h (head_ok tail) refl) (λ q h. impossible cc) r

module _ (state checkpoint tail : List ℕ) where
  recover-tail-begun : Bytes checkpoint → Bytes tail → length tail < word * word → Begun (recover_tail_of state checkpoint tail).answer.refusal state
      → sound (recover_tail_of state checkpoint tail).state ≡ true
  unfolding recover_tail_of recover_tail_refusal left_unless settle settle_recovered
  recover-tail-begun b c z =
      let left : ℕ → After = λ (n : ℕ). left_unless n state tail (settle_recovered state tail (recovered_tail checkpoint tail)) in
      choose (λ (n : ℕ). Begun (left n).answer.refusal state → sound (left n).state ≡ true) (ltb (length state) state_size) (λ e. refused state Refusals.too_short (λ q. omega arith))
      (λ e. go (recovered_tail checkpoint tail) refl (ltb-false _ _ e))
    where
      go : (o : Option State) → recovered_tail checkpoint tail ≡ o → state_size ≤ length state
          → Begun (settle_recovered state tail o).answer.refusal state → sound (settle_recovered state tail o).state ≡ true
      go none r l = refused state Refusals.bad_log (λ q. omega arith)
      go (some st) r l = λ f. stored-sound state (with_mark st.size st) (tail-sound checkpoint tail b c z st r).marked (omega (arith, l))

  pub recover-tail-sound : Bytes checkpoint → Bytes tail → length tail < word * word → (recover_tail_of state checkpoint tail).answer.refusal ≡ Refusals.no_refusal
      → sound (recover_tail_of state checkpoint tail).state ≡ true
  recover-tail-sound b c z e = recover-tail-begun b c z (inl e)

  pub recover-tail-kept : Bytes checkpoint → Bytes tail → length tail < word * word → sound state ≡ true → sound (recover_tail_of state checkpoint tail).state ≡ true
  recover-tail-kept b c z e = recover-tail-begun b c z (inr e)
