-- What is left to show of `state_rows::clear`.
use Rattle.std.proofs.Common.{rules}
use Rattle.state_rows.proofs.Cleared.{cleared}
use Rattle.state_rows.proofs.clear.Goals as goal

pub returns : goal.returns
returns c = cleared c.args.s.now c.requires (c.fill.ensures.after (λ y h. search rules))
