-- What is left to show of `server_service::reply::reply`.
use Rattle.model.specs.Decisions.{result_of_record}
use Rattle.server_service.proofs.reply.reply.Goals as goal

pub write_result-requires : goal.write_result-requires
unfolding result_of_record
write_result-requires c = (c.requires, rw c.result_of.ensures)
