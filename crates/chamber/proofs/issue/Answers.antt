-- What is left to show of `chamber::issue`.
use Rattle.chamber.proofs.Answers.{role_some, issue-none, issue_bad, issue_open, issue_unsafe, issue-passed}
use Rattle.chamber.proofs.issue.Goals as goal

pub returns-in_default : goal.returns-in_default
returns-in_default c = issue-none _ _ _ _ c.in_default.ensures c.not_sent.ensures

pub returns-then-not-command_ok-op_ok : goal.returns-then-not-command_ok-op_ok
returns-then-not-command_ok-op_ok c = let role = (role_some _ _ c.in-Some.ensures).0 in search issue_bad depth 8

pub returns-then-first-d : goal.returns-then-first-d
returns-then-first-d c = let role = (role_some _ _ c.in-Some.ensures).0 in search issue_open depth 8

pub returns-then-is_opening-may_open : goal.returns-then-is_opening-may_open
returns-then-is_opening-may_open c = let role = (role_some _ _ c.in-Some.ensures).0 in search issue_unsafe depth 8

pub returns : goal.returns
returns c = let role = (role_some _ _ c.in-Some.ensures).0 in search issue-passed depth 8
