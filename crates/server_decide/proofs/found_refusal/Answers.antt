-- What is left to show of `server_decide::found_refusal`.
use Rattle.format_numbers.proofs.Picks.{picks}
use Rattle.model.specs.Operations.{found_refusal}
use Rattle.server_decide.proofs.found_refusal.Goals as goal

pub returns-then-states-logs : goal.returns-then-states-logs
unfolding found_refusal
returns-then-states-logs c = search picks depth 24

pub returns-then-good-server : goal.returns-then-good-server
unfolding found_refusal
returns-then-good-server c = search picks depth 24

pub returns : goal.returns
unfolding found_refusal
returns c = search picks depth 24
