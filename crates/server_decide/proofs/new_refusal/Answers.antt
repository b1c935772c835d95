-- What is left to show of `server_decide::new_refusal`.
use Rattle.format_numbers.proofs.Picks.{picks}
use Rattle.model.specs.Decisions.{new_refusal}
use Rattle.server_decide.proofs.new_refusal.Goals as goal

pub returns-then-no_place : goal.returns-then-no_place
unfolding new_refusal
returns-then-no_place c = search picks depth 24

pub returns-then-free-lt-EXECUTED_SIZE : goal.returns-then-free-lt-EXECUTED_SIZE
unfolding new_refusal
returns-then-free-lt-EXECUTED_SIZE c = search picks depth 24

pub returns : goal.returns
unfolding new_refusal
returns c = search picks depth 24
