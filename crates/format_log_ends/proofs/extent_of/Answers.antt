-- What is left to show of `format_log_ends::extent_of`.
use Rattle.format_numbers.proofs.Picks.{picks}
use Rattle.format_log_ends.specs.Answers.{extent_means}
use Rattle.model.specs.Logs.{extent_of}
use Rattle.format_log_ends.proofs.extent_of.Goals as goal

pub returns-in-1 : goal.returns-in-1
unfolding extent_of
returns-in-1 c = rw c.in-1.is c.extent_within.ensures

pub returns-in-2 : goal.returns-in-2
unfolding extent_of
returns-in-2 c = rw c.in-2.is c.extent_within-in-2.ensures

pub returns-in-3 : goal.returns-in-3
unfolding extent_of
returns-in-3 c = rw c.in-3.is c.extent_within-in-3.ensures

pub returns-in-4 : goal.returns-in-4
unfolding extent_of
returns-in-4 c = rw c.in-4.is c.take_extent.ensures

pub returns-in-5 : goal.returns-in-5
unfolding extent_of
returns-in-5 c = rw c.in-5.is c.extent_within-in-5.ensures

pub returns-in-6 : goal.returns-in-6
unfolding extent_of
returns-in-6 c = rw c.in-6.is c.extent_within-in-6.ensures

pub returns-in-0 : goal.returns-in-0
unfolding extent_means extent_of
returns-in-0 c = rw c.in-0.in-0-own.keys7

pub returns-in-0-2 : goal.returns-in-0-2
unfolding extent_means extent_of
returns-in-0-2 c = search picks depth 24
