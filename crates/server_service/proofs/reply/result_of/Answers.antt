-- What is left to show of `server_service::reply::result_of`.
use mathlib.Core.Path.{refl}
use Rattle.model.specs.Decisions.{result_of_record}
use Rattle.server_service.proofs.reply.result_of.Goals as goal

pub returns : goal.returns
unfolding result_of_record
returns c = refl
