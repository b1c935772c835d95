-- The refusals of a checkpoint.
--     tail-short, lent-refused, last-test              the tests in code
--     passed-known                                     what they leave known
--     by_refused, by_passed, passed-done               the call, by the arms of its `?`
-- Assumes nothing.
use Prim.Native.Nat.{ℕ, ◌≤◌, ◌<◌}
use mathlib.Core.Path.{◌≡◌, refl, sym, ◌∙◌}
use mathlib.Core.Bool.{Bool, true, false, ◌||◌}
use mathlib.Core.List.{List}
use native.Mathlib.Omega.{arith}
use lib.ListN.{length}
use lib.Dec.{eqb, ltb}
use borrow.Author.Tests.{lt-ltb, le-ltb, ltb-true, ltb-false, eqb-true, ne_eqb}
use Rattle.std.specs.Prelude.{Result}
use Rattle.std.specs.Result.{IsErrAnd}
use Rattle.model.specs.Choice.{pick}
use Rattle.model.specs.Limits.{state_size, head_size, checkpoint_size}
use Rattle.model.specs.Refusals.{too_short, unsound, not_synced, no_refusal}
use Rattle.model.specs.States.{load}
use Rattle.model.specs.Versions.{today}
use Rattle.model.specs.Decisions.{timed_by}
use Rattle.model.specs.Operations.{short, unfit, lent_refusal}
use Rattle.model.specs.Checkpoints.{AfterCheckpoint, checkpoint_refusal, checkpoint_of}
use Rattle.model.specs.declared.Refusal.{Refusal}
use Rattle.refusals.specs.Numbers.{number_of, refusal_of, answered}
use Rattle.refusals.proofs.Numbers.{number-some, exit}
use Rattle.model_laws.specs.Fits.{Sound}
use Rattle.model_laws.proofs.States.{sound-is}
use Rattle.server_decide.specs.Lists.{checkpoint_tests}
use Rattle.server_decide.proofs.Lists.{checkpoint_list}
use Rattle.server_memory.specs.Memory.{Fit}
use Rattle.server_memory.proofs.Settled.{lent-fit}
use Rattle.server_checkpoint.specs.Taken.{after_checkpoint, checkpoint_taken}

-- the tests one behind the other: a, b, c lengths, u, v the others
short-tail : (a b u v : Bool) → too_short ≡ pick (a || (b || true)) too_short (pick u unsound (pick v not_synced no_refusal))
short-tail true b u v = refl
short-tail false true u v = refl
short-tail false false u v = refl

-- the tail is long enough: those of lent memory come first, then the last
in_turn : (a b u : Bool) (m : ℕ)
    → pick (a || (b || false)) too_short (pick u unsound m)
    ≡ pick (eqb (pick (a || b) too_short (pick u unsound no_refusal)) no_refusal) m (pick (a || b) too_short (pick u unsound no_refusal))
in_turn true b u m = refl
in_turn false true u m = refl
in_turn false false true m = refl
in_turn false false false m = refl

module _ (s log : List ℕ) (n t : ℕ) where
  pub tail-short : t < head_size → too_short ≡ checkpoint_refusal s log n t
  unfolding checkpoint_refusal
  tail-short h = rw (lt-ltb t head_size h) (short-tail (short s state_size) (ltb n checkpoint_size) (unfit s log) (ltb (load s).mark (load s).size))

  in_order : head_size ≤ t
      → checkpoint_refusal s log n t
      ≡ pick (eqb (lent_refusal s log n checkpoint_size) no_refusal) (checkpoint_tests (load s).mark (load s).size) (lent_refusal s log n checkpoint_size)
  unfolding lent_refusal
  in_order h =
      checkpoint_list s log n t ∙ rw (le-ltb t head_size h) (in_turn (short s state_size) (ltb n checkpoint_size) (unfit s log) (checkpoint_tests (load s).mark (load s).size))

  module _ (h : head_size ≤ t) where
    pub lent-refused : (e : Refusal) → number_of e ≡ lent_refusal s log n checkpoint_size → {A : Type 0} (r : Result A Refusal) → IsErrAnd r (λ x. x ≡ e)
        → refusal_of r ≡ checkpoint_refusal s log n t
    lent-refused e p r z = rw (exit r z, in_order h, ← p, ne_eqb (number_of e) no_refusal (number-some e))

    pub last-test : no_refusal ≡ lent_refusal s log n checkpoint_size → {mark size r : ℕ} → mark ≡ (load s).mark → size ≡ (load s).size
        → r ≡ checkpoint_tests mark size → r ≡ checkpoint_refusal s log n t
    last-test p e f q = rw (in_order h, ← p, ← e, ← f) q

  -- what a call that passes knows
  pub passed-known : checkpoint_refusal s log n t ≡ no_refusal → Fit s log n checkpoint_size × (head_size ≤ t)
  passed-known e = go (ltb t head_size) refl
    where
      zero : (a m : ℕ) → pick (eqb a no_refusal) m a ≡ no_refusal → a ≡ no_refusal
      zero a m e = decide (eqb a no_refusal) refl
        where
          decide : (b : Bool) → eqb a no_refusal ≡ b → a ≡ no_refusal
          decide true k = eqb-true a no_refusal k
          decide false k = rw k at e

      go : (b : Bool) → ltb t head_size ≡ b → Fit s log n checkpoint_size × (head_size ≤ t)
      go true k = absurd (omega (arith, tail-short (ltb-true t head_size k) ∙ e))
      go false k =
          let h : head_size ≤ t = ltb-false t head_size k in
          (lent-fit s log n checkpoint_size (zero (lent_refusal s log n checkpoint_size) (checkpoint_tests (load s).mark (load s).size) (sym (in_order h) ∙ e)), h)

-- ---- the call

module _ (s log c t : List ℕ) where
  pub by_refused : (e : Refusal) → number_of e ≡ checkpoint_refusal s log (length c) (length t) → (r : Result ℕ Refusal) → IsErrAnd r (λ x. x ≡ e)
      → after_checkpoint (answered r) s log c t ≡ checkpoint_of today s log c t
  unfolding checkpoint_of
  by_refused e p r z = rw (exit r z, ← p, ne_eqb (number_of e) no_refusal (number-some e))

  module _ (p : no_refusal ≡ checkpoint_refusal s log (length c) (length t)) where
    pub by_passed : {a : AfterCheckpoint} → a ≡ checkpoint_taken s log c t → a ≡ checkpoint_of today s log c t
    unfolding checkpoint_of checkpoint_taken timed_by
    by_passed e = rw (e, ← p)

    pub passed-done : Sound s × (checkpoint_size ≤ length c) × (head_size ≤ length t)
    passed-done = let f = passed-known s log (length c) (length t) (sym p) in (sound-is s f.0.sound, f.0.room, f.1)
