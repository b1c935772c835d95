-- What is left to show of `state_records::append`.
use mathlib.Core.Path.{◌∙◌}
use Rattle.state_records.proofs.Whole.{record_added}
use Rattle.state_records.proofs.append.Goals as goal

pub returns : goal.returns
returns c =
    c.put_records.ensures
    ∙ rw c.put_completion.ensures (record_added c.args.s.now c.requires.0 c.args.r c.records_of-n.ensures c.requires.1)
