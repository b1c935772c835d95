-- What is left to show of `state_sound_rows::keeps_records`.
use Rattle.model.specs.States.{is_held, is_given, keeps_records}
use borrow.Author.Rules.{rules}
use Rattle.state_sound_rows.proofs.keeps_records.Goals as goal

pub returns : goal.returns
unfolding keeps_records is_held is_given
returns c = search rules
