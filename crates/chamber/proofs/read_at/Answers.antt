-- What is left to show of `chamber::read_at`.
use native.Mathlib.Omega.{arith}
use Rattle.chamber.proofs.Answers.{at_inside}
use Rattle.chamber_claim.specs.Chamber.{no_read, read_at}
use Rattle.chamber.proofs.read_at.Goals as goal

pub returns : goal.returns
unfolding read_at
returns c = at_inside c.args.ch.reads c.args.i _ no_read (omega arith)
