-- What is left to show of `format_log_reader::record_at`.
use Rattle.model_laws.proofs.Written.{tail-part}
use native.Mathlib.Omega.{arith}
use Rattle.format_log_ends.proofs.Ends.{from_inside, from-spans}
use Rattle.format_log_reader.proofs.Reading.{parsed}
use Rattle.format_log_reader.proofs.record_at.Goals as goal

pub slice_bounds-record_from-count : goal.slice_bounds-record_from-count
slice_bounds-record_from-count c = omega (arith, from_inside _ _ _ c.requires)

pub slice_bounds-record_from-start : goal.slice_bounds-record_from-start
slice_bounds-record_from-start c = omega (arith, from_inside _ _ _ c.requires)

pub record_from-requires : goal.record_from-requires
record_from-requires c =
    (rw (tail-part c.args.at c.args.log.now) (from-spans _ _ _ c.requires), omega (arith, from_inside _ _ _ c.requires))

pub returns : goal.returns
returns c = parsed _ _ _ c.requires c.record_from.ensures
