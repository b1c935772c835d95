-- What is left to show of `state_records::keep_over`.
use Rattle.state_records.specs.Rules.{stays_by}
use Rattle.state_records.proofs.Kept.{over-kept}
use Rattle.state_records.proofs.keep_over.Goals as goal

pub returns-then-floor-old : goal.returns-then-floor-old
returns-then-floor-old c = over-kept c.requires.0 c.args.client c.requires.1 c.if-floor-old.true

pub returns : goal.returns
unfolding stays_by
returns c = c.keep_records.ensures
