-- What is left to show of `state_sound_rows::not_given`.
use borrow.Author.Rules.{rules}
use Rattle.model.specs.States.{not_given}
use Rattle.state_sound_rows.proofs.not_given.Goals as goal

pub returns : goal.returns
unfolding not_given
returns c = search rules
