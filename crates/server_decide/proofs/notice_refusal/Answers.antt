-- What is left to show of `server_decide::notice_refusal`.
use Rattle.format_numbers.proofs.Picks.{picks}
use Rattle.model.specs.Decisions.{notice_refusal}
use Rattle.server_decide.proofs.notice_refusal.Goals as goal

pub returns-then-not_known : goal.returns-then-not_known
unfolding notice_refusal
returns-then-not_known c = search picks depth 24

pub returns-then-free-lt-GONE_SIZE : goal.returns-then-free-lt-GONE_SIZE
unfolding notice_refusal
returns-then-free-lt-GONE_SIZE c = search picks depth 24

pub returns : goal.returns
unfolding notice_refusal
returns c = search picks depth 24
