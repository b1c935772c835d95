-- What is left to show of `state_sound_rows::held_rest`.
use Rattle.state_sound_rows.proofs.Chains.{chain}
use Rattle.state_sound_rows.specs.Parts.{held_rest}
use Rattle.state_sound_rows.proofs.held_rest.Goals as goal

pub returns-then-not-value-held : goal.returns-then-not-value-held
unfolding held_rest
returns-then-not-value-held c = rw (← c.still_held-held.ensures, ← c.in_range-value.ensures) (search chain depth 24)

pub returns : goal.returns
unfolding held_rest
returns c = rw (← c.still_held-held.ensures, ← c.in_range-value.ensures) (search chain depth 24)
