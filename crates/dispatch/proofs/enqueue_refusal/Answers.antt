-- What is left to show of `dispatch::enqueue_refusal`.
use Rattle.format_numbers.proofs.Picks.{picks}
use Rattle.dispatch_claim.specs.Dispatcher.{enqueue_refusal}
use Rattle.dispatch.proofs.enqueue_refusal.Goals as goal

pub returns-then-client_waits : goal.returns-then-client_waits
unfolding enqueue_refusal
returns-then-client_waits c = search picks depth 24

pub returns-then-dispatcher-ge-WAITING_PLACES_U32 : goal.returns-then-dispatcher-ge-WAITING_PLACES_U32
unfolding enqueue_refusal
returns-then-dispatcher-ge-WAITING_PLACES_U32 c = search picks depth 24

pub returns : goal.returns
unfolding enqueue_refusal
returns c = search picks depth 24
