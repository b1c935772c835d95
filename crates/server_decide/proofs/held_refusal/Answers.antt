-- What is left to show of `server_decide::held_refusal`.
use Rattle.server_decide.proofs.Nots.{yes_not, no_not}
use Rattle.format_numbers.proofs.Picks.{picks}
use Rattle.model.specs.Decisions.{held_refusal}
use Rattle.server_decide.proofs.held_refusal.Goals as goal

pub returns-then-not-same_command : goal.returns-then-not-same_command
unfolding held_refusal
returns-then-not-same_command c = search (picks, yes_not, no_not) depth 24

pub returns-then-not-is_synced : goal.returns-then-not-is_synced
unfolding held_refusal
returns-then-not-is_synced c = search (picks, yes_not, no_not) depth 24

pub returns : goal.returns
unfolding held_refusal
returns c = search (picks, yes_not, no_not) depth 24
