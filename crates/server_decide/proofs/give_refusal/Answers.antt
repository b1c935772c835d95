-- What is left to show of `server_decide::give_refusal`.
use Rattle.server_decide.proofs.Nots.{yes_not, no_not}
use Rattle.format_numbers.proofs.Picks.{picks}
use Rattle.model.specs.Decisions.{give_refusal}
use Rattle.server_decide.proofs.give_refusal.Goals as goal

pub returns-then-not-is_held : goal.returns-then-not-is_held
unfolding give_refusal
returns-then-not-is_held c = search (picks, yes_not, no_not) depth 24

pub returns-then-destination-server : goal.returns-then-destination-server
unfolding give_refusal
returns-then-destination-server c = search (picks, yes_not, no_not) depth 24

pub returns-then-x-ge-LAST_32 : goal.returns-then-x-ge-LAST_32
unfolding give_refusal
returns-then-x-ge-LAST_32 c = search (picks, yes_not, no_not) depth 24

pub returns-then-free-lt-GIVE_SIZE : goal.returns-then-free-lt-GIVE_SIZE
unfolding give_refusal
returns-then-free-lt-GIVE_SIZE c = search (picks, yes_not, no_not) depth 24

pub returns : goal.returns
unfolding give_refusal
returns c = search (picks, yes_not, no_not) depth 24
