-- What is left to show of `format_log_ends::records_end`.
use mathlib.Core.Path.{refl}
use native.Mathlib.Omega.{arith}
use Rattle.format_log_ends.proofs.Ends.{from-spans, from_inside}
use Rattle.model_laws.proofs.Ends.{spans-least}
use Rattle.format_log_ends.proofs.Walked.{means-spans, walked-off, walked-cut, walked_next}
use Rattle.format_log_ends.proofs.records_end.Goals as goal

pub loop-n-init : goal.loop-n-init
loop-n-init c = refl

pub returns-in-Off : goal.returns-in-Off
returns-in-Off c =
    walked-off _ c.loop-n.at c.extent_at-extent.ensures c.loop-n.invariant c.in-Off.is c.answered.ensures

pub returns-in-Cut : goal.returns-in-Cut
returns-in-Cut c =
    walked-cut _ c.loop-n.at c.extent_at-extent.ensures c.loop-n.invariant c.in-Cut.is c.answered-in-Cut.ensures

pub overflow_add-at : goal.overflow_add-at
overflow_add-at c =
    let log = c.args.log.now in
    let e = means-spans log c.loop-n.at c.extent_at-extent.ensures c.in-Spans.is in
    omega (arith, from_inside _ _ _ e)

pub loop-n-smaller : goal.loop-n-smaller
loop-n-smaller c =
    let log = c.args.log.now in
    let e = means-spans log c.loop-n.at c.extent_at-extent.ensures c.in-Spans.is in
    omega (arith, from_inside _ _ _ e, spans-least _ _ (from-spans _ _ _ e))

pub loop-n-preserved : goal.loop-n-preserved
loop-n-preserved c =
    walked_next _ c.loop-n.at c.extent_at-extent.ensures c.loop-n.invariant c.in-Spans.is
