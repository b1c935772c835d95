-- What is left to show of `format_log_ends::extent_at`.
use borrow.Author.Tests.{lt-leb}
use Rattle.model_laws.proofs.Written.{tail-part}
use mathlib.Core.Path.{ap, ◌∙◌}
use Rattle.model.specs.Logs.{cut, extent_of}
use Rattle.format_numbers.proofs.Picks.{picks, no}
use Rattle.format_log_ends.specs.Answers.{extent_means, extent_from}
use Rattle.format_log_ends.proofs.extent_at.Goals as goal

pub returns-then-log-at : goal.returns-then-log-at
unfolding extent_means extent_from
returns-then-log-at c = search picks depth 8

pub returns : goal.returns
unfolding extent_from
returns c =
    let start = c.args in
    no cut (lt-leb _ _ c.if-log-at.false) (c.extent_of.ensures ∙ ap extent_of (tail-part start.at start.log.now))
