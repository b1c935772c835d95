-- What is left to show of `dispatch::client_waits`.
use Rattle.std.proofs.Common.{rules, tests, ◌∙◌}
use Rattle.std.proofs.lemmas.Iterator.{YieldsList-from_slice}
use Rattle.std.proofs.lemmas.Iterator.Search.{any_from_yields_List}
use Rattle.dispatch_claim.specs.Dispatcher.{waiting, is_of}
use Rattle.dispatch.proofs.Places.{count_most, waits-any}
use Rattle.dispatch.proofs.client_waits.Goals as goal

pub shared_ref_as_front-iter : goal.shared_ref_as_front-iter
shared_ref_as_front-iter c = rw c.waiting_count-count.ensures (count_most _)

pub returns : goal.returns
unfolding waiting is_of
returns c =
    let d = c.args.dispatcher in
    any_from_yields_List (is_of c.args.client) _ _ c.any.result c.any.ensures.ran (YieldsList-from_slice (waiting d) cc) (λ x b q k. search (rules, tests))
    ∙ waits-any d c.args.client
