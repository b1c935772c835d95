-- What is left to show of `state_sound_rows::in_order`.
use borrow.Author.Rules.{rules}
use Rattle.model.specs.States.{ends_in_order}
use Rattle.state_sound_rows.proofs.in_order.Goals as goal

pub returns : goal.returns
unfolding ends_in_order
returns c = search rules
