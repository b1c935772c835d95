-- What is left to show of `state_records::ids::is_missing`.
use Rattle.model.specs.Decisions.{find}
use Rattle.model.specs.States.{load}
use Rattle.state_records.proofs.Search.{missing}
use Rattle.state_records.proofs.ids.is_missing.Goals as goal

pub returns : goal.returns
returns c = let a = c.args in missing (find a.client a.call (load a.s.now).records) _ c.find.ensures c.is_none.ensures
