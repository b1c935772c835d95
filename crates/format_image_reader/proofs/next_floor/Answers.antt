-- What is left to show of `format_image_reader::next_floor`.
use Rattle.format_image_reader.proofs.Tables.{seek_start, seek_next, seek_stop, seek_end}
use Rattle.format_image_reader.proofs.next_floor.Goals as goal

pub loop-j-init : goal.loop-j-init
loop-j-init c = seek_start _ _ _ _ c.requires.1

pub returns-then-client-f : goal.returns-then-client-f
returns-then-client-f c =
    seek_stop c.loop-j.invariant c.loop-j-test.true c.floor_from-f.ensures c.if-client-f.true

pub loop-j-preserved : goal.loop-j-preserved
loop-j-preserved c =
    seek_next c.loop-j.invariant c.loop-j-test.true c.floor_from-f.ensures c.if-client-f.false

pub returns : goal.returns
returns c = seek_end c.loop-j.invariant c.loop-j-test.false
