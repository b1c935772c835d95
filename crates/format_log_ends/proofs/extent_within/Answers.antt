-- What is left to show of `format_log_ends::extent_within`.
use Rattle.format_numbers.proofs.Picks.{picks}
use Rattle.format_log_ends.specs.Answers.{extent_means}
use Rattle.model.specs.Logs.{within}
use Rattle.format_log_ends.proofs.extent_within.Goals as goal

pub returns-then-s-n : goal.returns-then-s-n
unfolding extent_means within
returns-then-s-n c = search picks depth 8

pub returns : goal.returns
unfolding extent_means within
returns c = search picks depth 8
