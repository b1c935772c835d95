-- What is left to show of `format_numbers::read_u64`.
use Rattle.model.specs.Numbers.{le64_at}
use Rattle.format_numbers.proofs.read_u64.Goals as goal

pub returns : goal.returns
unfolding le64_at
returns c = cc
