-- What holds of the result of a command.
-- Assumes nothing.
use Rattle.std.specs.Prelude.{◌<◌, ◌≡◌, true}
use Rattle.model.specs.declared.PlanEntry.{PlanEntry}
use Rattle.model.specs.declared.CommandResult.{CommandResult}
use Rattle.model.specs.Numbers.{word}
use Rattle.model.specs.Plan.{in_range}
use Rattle.model.specs.Packets.{outcome_ok}

-- the value is in the entry's range, and fits 32 bits as the range does; outcome 0 to 4, quality 0 or 1
pub record ResultOk (e : PlanEntry) (x : CommandResult) : Type 0 where
  pub range : in_range e x.value ≡ true
  pub fits : e.high < word → x.value < word
  pub outcome : outcome_ok x.outcome x.quality ≡ true
