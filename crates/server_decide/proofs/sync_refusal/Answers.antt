-- What is left to show of `server_decide::sync_refusal`.
use Rattle.format_numbers.proofs.Picks.{picks}
use Rattle.model.specs.Decisions.{sync_refusal}
use Rattle.server_decide.proofs.sync_refusal.Goals as goal

pub returns-then-mark-present : goal.returns-then-mark-present
unfolding sync_refusal
returns-then-mark-present c = search picks depth 24

pub returns : goal.returns
unfolding sync_refusal
returns c = search picks depth 24
