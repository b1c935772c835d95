-- What is left to show of `format_image_reader::floor_step`.
use Rattle.format_image_reader.proofs.Tables.{floor-last, floor-before}
use Rattle.format_image_reader.proofs.floor_step.Goals as goal

pub returns-then-left-eq0 : goal.returns-then-left-eq0
returns-then-left-eq0 c =
    let start = c.args in
    floor-last start.s.now start.k _ c.if-left-eq0.true c.floor_ok-ok.ensures

pub returns : goal.returns
returns c =
    let start = c.args in
    floor-before start.s.now start.k _ c.if-left-eq0.false c.floor_ok-ok.ensures c.client_before-next.ensures
