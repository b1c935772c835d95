-- What lies in a buffer that passes the test of soundness is a sound state, and a sound state stored in a buffer is read back from
-- one that passes it; what a tested plan's bytes hold is a good plan.
--     plan-good                      plan_ok
--     loaded_sound                   sound
--     stored-sound, stored-load      a sound state in a buffer
-- Assumes nothing.
use Prim.Native.Nat.{ℕ, ◌≤◌}
use mathlib.Core.Path.{◌≡◌}
use mathlib.Core.Bool.{true}
use mathlib.Core.List.{List}
use lib.ListN.{length}
use Rattle.model.specs.declared.PlanEntry.{PlanEntry}
use Rattle.model.specs.Limits.{plan_row, point_count}
use Rattle.model.specs.Plan.{plan_entry_of, plan_ok, plan_of}
use Rattle.model.specs.States.{State, load, sound, state_end}
use Rattle.model.specs.Operations.{stored}
use Rattle.model_laws.specs.Bytes.{Bytes}
use Rattle.model_laws.specs.Fits.{PlanEntryFits}
use Rattle.model_laws.proofs.Tables.{length-rows}
use Rattle.model_laws.proofs.Plans.{plan-fits}
use Rattle.model_laws.proofs.States.{load_fits, load-back, sound_back, sound-is}
use Rattle.model_invariants.specs.Sound.{Sound}
use Rattle.model_invariants.specs.History.{GoodPlan}
use Rattle.model_invariants.proofs.Lists.{all_to}
use Rattle.model_invariants.proofs.Tests.{entry_says, sound_of, state_of_lem, fits_of}

pub plan-good : (s : List ℕ) → Bytes s → plan_ok s ≡ true → GoodPlan (plan_of s)
unfolding plan_of
plan-good s h e =
    record {
      length = length-rows plan_entry_of plan_row point_count s;
      entries = all_to (plan_of s) (λ (x : PlanEntry) (f : PlanEntryFits x). (entry_says x).holds f.high f.ok) (plan-fits s h e);
    }

pub loaded_sound : (s : List ℕ) → Bytes s → sound s ≡ true → Sound (load s)
loaded_sound s h e = let d = sound-is s e in sound_of (load s) d.state (load_fits s h d)

pub stored-sound : (s : List ℕ) (st : State) → Sound st → state_end ≤ length s → sound (stored s st) ≡ true
unfolding stored
stored-sound s st S l = sound_back st (fits_of st S) s l (state_of_lem st S)

pub stored-load : (s : List ℕ) (st : State) → Sound st → state_end ≤ length s → load (stored s st) ≡ st
unfolding stored
stored-load s st S l = load-back st (fits_of st S) s l
