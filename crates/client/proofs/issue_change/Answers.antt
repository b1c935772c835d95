-- What is left to show of `client::issue_change`.
use Rattle.client.proofs.Answers.{issue_bad, issue_full, issue-out, issue-done}
use Rattle.client.proofs.issue_change.Goals as goal

pub returns-then-not-command_ok : goal.returns-then-not-command_ok
returns-then-not-command_ok c = search issue_bad depth 8

pub returns-then-first-d : goal.returns-then-first-d
returns-then-first-d c = search issue_full depth 12

pub returns-then-d-ge-LAST_32 : goal.returns-then-d-ge-LAST_32
returns-then-d-ge-LAST_32 c = search issue-out depth 12

pub returns : goal.returns
returns c = search issue-done depth 16
