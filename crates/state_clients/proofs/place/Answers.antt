-- What is left to show of `state_clients::place`.
use mathlib.Core.Path.{◌≡◌, ◌∙◌}
use native.Mathlib.Omega.{arith}
use borrow.Author.Tests.{eq-eqb, ne_eqb}
use Rattle.model.specs.States.{load}
use Rattle.model_laws.proofs.Searches.{sought_hit, sought_next, sought_none}
use Rattle.state_clients.specs.Places.{no_floor}
use Rattle.state_clients.specs.Ordered.{ordered_place}
use Rattle.state_clients.proofs.Loops.{not-below, is_below, is-behind, is-there, placed_here, placed_new}
use Rattle.state_clients.proofs.place.Goals as goal
use Rattle.state_clients.proofs.place.Goals.{Then-client-f}

-- the first client that is not below
here : (c : Then-client-f) → c.loop-i.i ≡ ordered_place c.args.client (load c.args.s.now).floors
unfolding ordered_place
here c = sought_hit c.loop-i.invariant no_floor (omega arith) (not-below c.row-f.ensures (omega (arith, c.if-client-f.true)))

pub returns-then-f-client : goal.returns-then-f-client
returns-then-f-client c =
    let a = c.args in
    let fs = (load a.s.now).floors in
    placed_here a.client fs (here (goal.at.returns-then-f-client c).Then-client-f)
    (is-there a.client c.loop-i.i fs (omega arith) c.row-f.ensures ∙ eq-eqb c.row-f.result.client a.client c.if-f-client.true)

pub returns-else-f-client : goal.returns-else-f-client
returns-else-f-client c =
    let a = c.args in
    let fs = (load a.s.now).floors in
    placed_new a.client fs (here (goal.at.returns-else-f-client c).Then-client-f)
    (is-there a.client c.loop-i.i fs (omega arith) c.row-f.ensures ∙ ne_eqb c.row-f.result.client a.client c.if-f-client.false)

pub loop-i-preserved : goal.loop-i-preserved
loop-i-preserved c =
    sought_next c.loop-i.invariant no_floor (omega arith) (is_below c.row-f.ensures (omega (arith, c.if-client-f.false)))

pub returns : goal.returns
unfolding ordered_place
returns c =
    let fs = (load c.args.s.now).floors in
    let all : c.clients_of-n.result ≡ c.loop-i.i = omega (arith, c.loop-i.invariant.below) in
    rw all (placed_new c.args.client fs (sought_none c.loop-i.invariant (omega arith)) (is-behind c.args.client c.loop-i.i fs (omega arith)))
