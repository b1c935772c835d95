-- What is left to show of `state_records::keep_records`.
use mathlib.Core.Path.{◌∙◌}
use Rattle.model.specs.States.{load}
use Rattle.state_records.specs.Rules.{kept_by}
use Rattle.state_records.proofs.Whole.{records-kept}
use Rattle.state_records.proofs.keep_records.Goals as goal

pub returns : goal.returns
returns c =
    c.put_records.ensures
    ∙ rw c.compact-j.ensures.0
    (records-kept c.args.s.now c.requires (kept_by c.args.rule (load c.args.s.now)) c.records_of-n.ensures c.compact-j.ensures.1 c.compact-j.ensures.2)
