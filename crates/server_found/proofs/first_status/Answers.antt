-- What is left to show of `server_found::first_status`.
use Rattle.format_numbers.proofs.Picks.{picks}
use Rattle.server_found.proofs.first_status.Goals as goal

pub returns-then-home-server : goal.returns-then-home-server
returns-then-home-server c = search picks depth 24

pub returns-else-home-server : goal.returns-else-home-server
returns-else-home-server c = search picks depth 24
