-- What is left to show of `server_decide::fetch_refusal`.
use Rattle.server_decide.proofs.Nots.{yes_not, no_not}
use Rattle.format_numbers.proofs.Picks.{picks}
use Rattle.model.specs.Decisions.{fetch_refusal}
use Rattle.server_decide.proofs.fetch_refusal.Goals as goal

pub returns-then-not-is_synced : goal.returns-then-not-is_synced
unfolding fetch_refusal
returns-then-not-is_synced c = search (picks, yes_not, no_not) depth 24

pub returns : goal.returns
unfolding fetch_refusal
returns c = search (picks, yes_not, no_not) depth 24
