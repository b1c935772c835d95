-- What is left to show of `server_moves::release::release_on`.
use mathlib.Core.Path.{subst}
use Rattle.model.specs.Packets.{as_receipt}
use Rattle.model.specs.Decisions.{or_malformed, on_release}
use Rattle.server_moves.specs.Numbers.{Placed}
use Rattle.server_moves.proofs.Chains.{release_other}
use Rattle.server_moves.proofs.release.release_on.Goals as goal

pub release_by-requires : goal.release_by-requires
release_by-requires c =
    (c.requires.0, c.requires.1, subst Placed c.in-Receipted.is c.requires.2)

pub returns-in_default : goal.returns-in_default
returns-in_default c = release_other _ _ _ c.in_default.not-Receipted

pub returns : goal.returns
unfolding on_release or_malformed as_receipt
returns c = rw c.in-Receipted.is c.release_by.ensures
