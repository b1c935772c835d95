-- What is left to show of `state_records::append_image`.
use mathlib.Core.Path.{◌∙◌}
use Rattle.model.specs.States.{load}
use Rattle.state_records.specs.Rules.{brought}
use Rattle.state_records.proofs.Whole.{records_added}
use native.Mathlib.Omega.{arith}
use Rattle.state_records.proofs.append_image.Goals as goal

pub returns : goal.returns
returns c =
    c.put_records.ensures
    ∙ rw c.put_entries-j.ensures.0
    (records_added c.args.s.now c.requires.0 (brought (load c.args.s.now) c.args.h c.args.end c.args.image.now) c.records_of-n.ensures
    c.put_entries-j.ensures.1 (omega (arith, c.records_of-n.ensures, c.requires.2)))
