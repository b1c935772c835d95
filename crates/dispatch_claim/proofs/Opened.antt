-- The dispatcher's definitions, for theorems that are computed, as `model_laws` (Opened) has `model`'s.
--     open_dispatcher, open_queues
-- Assumes nothing.
use Rattle.model_laws.specs.Opened.{Opens, open_parties}
use Rattle.model.specs.Tables.{index_of}
use Rattle.dispatch_claim.specs.Dispatcher.{no_waiting, waiting_count, waiting, is_of, waits, enqueue_refusal, with_last, enqueue_request, enqueue_of, first_waiting, shifted, serve_of}
use Rattle.dispatch_claim.specs.Queues.{no_queue, with_queue, handed_call, served_call, queue_event, taking, enqueued_on, served_by, queues_after}

unfoldable open_enqueue : Opens
unfolding index_of no_waiting waiting_count waiting is_of waits enqueue_refusal with_last enqueue_request enqueue_of
open_enqueue = tt

unfoldable pub open_dispatcher : Opens
unfolding open_parties open_enqueue first_waiting shifted serve_of
open_dispatcher = tt

unfoldable pub open_queues : Opens
unfolding open_dispatcher no_queue with_queue handed_call served_call queue_event taking enqueued_on served_by queues_after
open_queues = tt
