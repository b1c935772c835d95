-- What is left to show of `state_records::taken_record`.
use borrow.Author.Rules.{rules}
use Rattle.model.specs.Apply.{taken_record}
use Rattle.state_records.proofs.taken_record.Goals as goal

pub returns : goal.returns
unfolding taken_record
returns c = search rules
