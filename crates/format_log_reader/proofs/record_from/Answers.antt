-- What is left to show of `format_log_reader::record_from`.
use Rattle.format_numbers.proofs.Picks.{picks}
use Rattle.format_log_reader.specs.Answers.{record_from}
use Rattle.model.specs.Logs.{executed_size_of, extent_of}
use Rattle.model_laws.proofs.Logs.{within-spans, take-spans}
use native.Mathlib.Omega.{arith}
use Rattle.model.specs.Limits.{first_executed_size, gone_size, give_size, release_size, executed_size}
use Rattle.format_log_ends.proofs.Ends.{spans-some}
use Rattle.format_log_reader.proofs.record_from.Goals as goal

pub bounds-s-0 : goal.bounds-s-0
bounds-s-0 c = omega (arith, spans-some _ _ c.requires.0)

pub executed_from-requires : goal.executed_from-requires
unfolding extent_of executed_size_of
executed_from-requires c = (within-spans _ first_executed_size _ (rw c.in-1.is at c.requires.0)).1

pub gone_from-requires : goal.gone_from-requires
unfolding extent_of
gone_from-requires c = (within-spans _ gone_size _ (rw c.in-2.is at c.requires.0)).1

pub give_from-requires : goal.give_from-requires
unfolding extent_of
give_from-requires c = (within-spans _ give_size _ (rw c.in-3.is at c.requires.0)).1

pub take_from-requires : goal.take_from-requires
unfolding extent_of
take_from-requires c =
    let pre = c.requires in
    let w = take-spans _ _ (rw c.in-4.is at pre.0) in
    (omega arith, omega arith, pre.1)

pub release_from-requires : goal.release_from-requires
unfolding extent_of
release_from-requires c = (within-spans _ release_size _ (rw c.in-5.is at c.requires.0)).1

pub executed_from-requires-in-6 : goal.executed_from-requires-in-6
unfolding extent_of executed_size_of
executed_from-requires-in-6 c = (within-spans _ executed_size _ (rw c.in-6.is at c.requires.0)).1

pub returns-in-1 : goal.returns-in-1
unfolding record_from
returns-in-1 c = rw c.in-1.is c.executed_from.ensures

pub returns-in-2 : goal.returns-in-2
unfolding record_from
returns-in-2 c = rw c.in-2.is c.gone_from.ensures

pub returns-in-3 : goal.returns-in-3
unfolding record_from
returns-in-3 c = rw c.in-3.is c.give_from.ensures

pub returns-in-4 : goal.returns-in-4
unfolding record_from
returns-in-4 c = rw c.in-4.is c.take_from.ensures

pub returns-in-5 : goal.returns-in-5
unfolding record_from
returns-in-5 c = rw c.in-5.is c.release_from.ensures

pub returns-in-6 : goal.returns-in-6
unfolding record_from
returns-in-6 c = rw c.in-6.is c.executed_from-in-6.ensures

pub returns-in-0 : goal.returns-in-0
unfolding record_from
returns-in-0 c = rw c.in-0.in-0-own.keys7

pub returns-in-0-2 : goal.returns-in-0-2
unfolding record_from
returns-in-0-2 c = search picks depth 24
