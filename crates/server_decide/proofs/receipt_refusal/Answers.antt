-- What is left to show of `server_decide::receipt_refusal`.
use Rattle.server_decide.proofs.Nots.{yes_not, no_not}
use Rattle.format_numbers.proofs.Picks.{picks}
use Rattle.model.specs.Decisions.{receipt_refusal}
use Rattle.server_decide.proofs.receipt_refusal.Goals as goal

pub returns-then-x-eq0 : goal.returns-then-x-eq0
unfolding receipt_refusal
returns-then-x-eq0 c = search picks depth 24

pub returns-then-not-is_synced : goal.returns-then-not-is_synced
unfolding receipt_refusal
returns-then-not-is_synced c = search (picks, yes_not) depth 24

pub returns : goal.returns
unfolding receipt_refusal
returns c = search (picks, yes_not, no_not) depth 24
