-- What is left to show of `server_recover::rebuild::settle`.
use native.Mathlib.Omega.{arith}
use Rattle.server_recover.proofs.Rebuilding.{settled_no, settled_done}
use Rattle.server_recover.proofs.rebuild.settle.Goals as goal

pub returns-then-not-done : goal.returns-then-not-done
returns-then-not-done c =
    let start = c.args in
    settled_no start.state.now start.work.now start.done c.if-not-done.true

pub overflow_mul-end : goal.overflow_mul-end
overflow_mul-end c = omega (arith, c.records_of.ensures, (c.requires.2 c.if-not-done.false).fits.records-count)

pub overflow_add-end : goal.overflow_add-end
overflow_add-end c = omega (arith, c.records_of.ensures, (c.requires.2 c.if-not-done.false).fits.records-count)

pub copy_part-requires : goal.copy_part-requires
copy_part-requires c = (
  omega (arith, c.records_of.ensures, (c.requires.2 c.if-not-done.false).fits.records-count, c.requires.1),
  omega (arith, c.records_of.ensures, (c.requires.2 c.if-not-done.false).fits.records-count, c.requires.0),
)

pub returns : goal.returns
returns c =
    let start = c.args in
    settled_done start.state.now start.work.now start.done c.if-not-done.false (c.requires.2 c.if-not-done.false) c.records_of.ensures c.copy_part.ensures
