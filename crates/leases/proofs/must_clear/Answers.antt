-- What is left to show of `leases::must_clear`.
use Rattle.leases.proofs.Places.{clear-not}
use Rattle.leases.proofs.must_clear.Goals as goal

pub returns : goal.returns
returns c = clear-not _ c.args.lease c.has_ended.ensures
