-- What is left to show of `state_clients::remove`.
use Rattle.model.specs.Apply.{is_not_client}
use Rattle.state_clients.proofs.Loops.{removed_cut, removed_end}
use Rattle.state_clients.proofs.remove.Goals as goal

pub cut-requires : goal.cut-requires
cut-requires c =
    removed_cut c.requires (is_not_client c.args.client) c.pack-k.ensures.0 c.pack-k.ensures.1

pub returns : goal.returns
returns c =
    removed_end c.requires (is_not_client c.args.client) c.pack-k.ensures.0 c.pack-k.ensures.1 c.cut.ensures
