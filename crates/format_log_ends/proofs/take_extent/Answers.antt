-- What is left to show of `format_log_ends::take_extent`.
use Rattle.format_log_ends.proofs.Ends.{take-off, take_rest}
use Rattle.format_numbers.proofs.Picks.{picks}
use Rattle.format_log_ends.specs.Answers.{extent_means}
use Rattle.model.specs.Logs.{take_extent}
use Rattle.format_log_ends.proofs.take_extent.Goals as goal

pub returns-then-s-lt-TAKE_HEAD : goal.returns-then-s-lt-TAKE_HEAD
unfolding extent_means take_extent
returns-then-s-lt-TAKE_HEAD c = search picks depth 24

pub returns-then-n : goal.returns-then-n
unfolding extent_means
returns-then-n c = take-off _ c.read_u32-n.ensures c.if-s-lt-TAKE_HEAD.false c.if-n.true

pub returns : goal.returns
returns c = take_rest _ c.read_u32-n.ensures c.if-s-lt-TAKE_HEAD.false c.if-n.false c.extent_within.ensures
