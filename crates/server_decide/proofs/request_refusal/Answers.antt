-- What is left to show of `server_decide::request_refusal`.
use Rattle.server_decide.proofs.Nots.{yes_not, no_not}
use Rattle.format_numbers.proofs.Picks.{picks}
use Rattle.model.specs.Decisions.{request_refusal}
use Rattle.server_decide.proofs.request_refusal.Goals as goal

pub returns-then-not-is_held : goal.returns-then-not-is_held
unfolding request_refusal
returns-then-not-is_held c = search (picks, yes_not, no_not) depth 24

pub returns-then-over : goal.returns-then-over
unfolding request_refusal
returns-then-over c = search (picks, yes_not, no_not) depth 24

pub returns-then-call-floor : goal.returns-then-call-floor
unfolding request_refusal
returns-then-call-floor c = search (picks, yes_not, no_not) depth 24

pub returns : goal.returns
unfolding request_refusal
returns c = search (picks, yes_not, no_not) depth 24
