-- What is left to show of `state_records::ids::is_free`.
use Rattle.std.proofs.Common.{rules}
use Rattle.state_records.proofs.Unheld.{free_found}
use Rattle.state_records.proofs.ids.is_free.Goals as goal

pub returns : goal.returns
returns c =
    free_found c.args.point c.args.entry _ c.requires.1 _ c.find.ensures (λ r h. search rules) c.is_none_or.ensures
