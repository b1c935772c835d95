-- What is left to show of `format_log_ends::log_end`.
use mathlib.Core.Path.{sym, ◌∙◌}
use Rattle.format_log_ends.proofs.Walked.{log-end-off, log-end-from}
use Rattle.format_log_ends.proofs.log_end.Goals as goal

pub returns-then-not-head_ok : goal.returns-then-not-head_ok
returns-then-not-head_ok c = log-end-off _ (sym c.head_ok.ensures ∙ c.if-not-head_ok.true) c.answered.ensures

pub returns : goal.returns
returns c = log-end-from _ (sym c.head_ok.ensures ∙ c.if-not-head_ok.false) c.records_end.ensures
