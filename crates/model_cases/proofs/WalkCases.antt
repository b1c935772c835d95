-- Every case of the first walk and of recovery holds: one theorem over the table; and the logs that have no head.
-- Assumes nothing.
use mathlib.Core.Path.{◌≡◌, refl}
use mathlib.Core.List.{map}
use mathlib.Core.Option.{none}
use lib.ListN.{take}
use Rattle.model.specs.Logs.{head_bytes, whole_end}
use Rattle.model_laws.specs.Opened.{open_servers}
use Rattle.model_cases.specs.Walks.{walks, walked_again, is_some}

pub walk-cases : map walked_again walks ≡ walks
unfolding open_servers walks walked_again is_some
walk-cases = refl

-- under 8 bytes; and the number of no server
pub short-head : whole_end (take 7 (head_bytes 0)) ≡ none
unfolding open_servers
short-head = refl

pub no_server : whole_end (head_bytes 16) ≡ none
unfolding open_servers
no_server = refl
