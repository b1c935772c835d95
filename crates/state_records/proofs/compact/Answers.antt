-- What is left to show of `state_records::compact`.
use Rattle.state_records.proofs.Loops.{compact_start, compact_stays, compact_room, compact_next, compact_end}
use Rattle.state_records.proofs.compact.Goals as goal

pub loop-i-init : goal.loop-i-init
loop-i-init c =
    compact_start _ (λ i. (c.slice_known-1.given i).fits) c.requires.0 c.requires.1 c.front-first.ensures

pub stays-stay-requires : goal.stays-stay-requires
stays-stay-requires c = compact_stays c.loop-i.invariant

pub put_kept-j-requires : goal.put_kept-j-requires
put_kept-j-requires c =
    compact_room c.loop-i.invariant c.loop-i-test.true

pub loop-i-preserved : goal.loop-i-preserved
loop-i-preserved c =
    compact_next c.loop-i.invariant c.loop-i-test.true c.completion_from-r.ensures c.stays-stay.ensures c.put_kept-j.ensures.0 c.put_kept-j.ensures.1

pub returns : goal.returns
returns c = compact_end c.loop-i.invariant c.loop-i-test.false
