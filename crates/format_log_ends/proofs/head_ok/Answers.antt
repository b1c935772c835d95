-- What is left to show of `format_log_ends::head_ok`.
use borrow.Author.Tests.{le-leb}
use Rattle.model_laws.proofs.Ands.{ands, go_test}
use Rattle.model.specs.Logs.{head_ok, head_server}
use Rattle.format_log_ends.proofs.head_ok.Goals as goal

pub returns-then-log-lt-HEAD_SIZE : goal.returns-then-log-lt-HEAD_SIZE
unfolding head_ok
returns-then-log-lt-HEAD_SIZE c = search ands depth 8

pub returns : goal.returns
unfolding head_ok head_server
returns c = go_test (le-leb _ _ c.if-log-lt-HEAD_SIZE.false) (cc)
