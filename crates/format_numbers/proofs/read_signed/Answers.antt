-- What is left to show of `format_numbers::read_signed`.
use Rattle.model.specs.Numbers.{signed_at}
use Rattle.format_numbers.proofs.read_signed.Goals as goal

pub returns : goal.returns
unfolding signed_at
returns c = cc
