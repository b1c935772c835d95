-- What is left to show of `chamber::reads_by`.
use borrow.Author.Rules.{rules}
use Rattle.chamber_claim.specs.Chamber.{reads_by}
use Rattle.chamber.proofs.reads_by.Goals as goal

pub returns-in-Ok-Completed : goal.returns-in-Ok-Completed
unfolding reads_by
returns-in-Ok-Completed c = search rules

pub returns-in-Ok-Denied : goal.returns-in-Ok-Denied
unfolding reads_by
returns-in-Ok-Denied c = search rules

pub returns-in-Ok-Extended : goal.returns-in-Ok-Extended
unfolding reads_by
returns-in-Ok-Extended c = search rules

pub returns-in-Err : goal.returns-in-Err
unfolding reads_by
returns-in-Err c = search rules
