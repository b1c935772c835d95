-- What is left to show of `server_decide::release_refusal`.
use Rattle.server_decide.proofs.Nots.{yes_not, no_not}
use Rattle.format_numbers.proofs.Picks.{picks}
use Rattle.model.specs.Decisions.{release_refusal}
use Rattle.server_decide.proofs.release_refusal.Goals as goal

pub returns-then-not-is_given : goal.returns-then-not-is_given
unfolding release_refusal
returns-then-not-is_given c = search (picks, yes_not, no_not) depth 24

pub returns-then-moved-x : goal.returns-then-moved-x
unfolding release_refusal
returns-then-moved-x c = search (picks, yes_not, no_not) depth 24

pub returns-then-free-lt-RELEASE_SIZE : goal.returns-then-free-lt-RELEASE_SIZE
unfolding release_refusal
returns-then-free-lt-RELEASE_SIZE c = search (picks, yes_not, no_not) depth 24

pub returns : goal.returns
unfolding release_refusal
returns c = search (picks, yes_not, no_not) depth 24
