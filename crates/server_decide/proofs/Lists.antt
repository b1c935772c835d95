-- The whole lists of checkpoint and of inspect: lent memory, then these.
--     checkpoint_list, inspect_list
-- Assumes nothing.
use Prim.Native.Nat.{ℕ}
use mathlib.Core.Path.{◌≡◌, refl}
use mathlib.Core.Bool.{true, false, ◌||◌}
use mathlib.Core.List.{List}
use lib.Dec.{ltb}
use Rattle.model.specs.Choice.{or_else, ◌if◌else◌}
use Rattle.model.specs.Refusals.{too_short, unsound}
use Rattle.model.specs.Limits.{state_size, head_size, checkpoint_size}
use Rattle.model.specs.Logs.{ends_of}
use Rattle.model.specs.States.{load}
use Rattle.model.specs.Decisions.{find, is_none}
use Rattle.model.specs.Operations.{short, unfit}
use Rattle.model.specs.Checkpoints.{checkpoint_refusal, checkpoint_bad, tail_of, inspect_refusal}
use Rattle.server_decide.specs.Lists.{checkpoint_tests, inspect_tests}

pub checkpoint_list : (state log : List ℕ) (checkpoints tails : ℕ)
    → checkpoint_refusal state log checkpoints tails
    ≡ (too_short if (short state state_size || (ltb checkpoints checkpoint_size || ltb tails head_size))
    else unsound if unfit state log
    else checkpoint_tests (load state).mark (load state).size)
unfolding checkpoint_refusal checkpoint_tests
checkpoint_list state log checkpoints tails = refl

pub inspect_list : (state checkpoint tail : List ℕ) (client call : ℕ)
    → inspect_refusal state checkpoint tail client call
    ≡ (too_short if short state state_size
    else unsound if unfit state tail
    else inspect_tests (checkpoint_bad checkpoint tail) (or_else (ends_of (tail_of state tail)) true (λ es. false)) (is_none (find client call (load state).records)))
unfolding inspect_refusal inspect_tests
inspect_list state checkpoint tail client call = refl
