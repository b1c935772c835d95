-- What is left to show of `client::first_with`.
use mathlib.Core.Path.{refl}
use native.Mathlib.Numerals.{add-one}
use Rattle.model.specs.Clients.{first_open, with_call, with_calls}
use Rattle.client.proofs.Answers.{first-opened}
use Rattle.client.proofs.first_with.Goals as goal

pub returns-then-old-opened : goal.returns-then-old-opened
returns-then-old-opened c =
    let given = c.requires in
    first-opened c.args.d c.args.opened given.3 given.0 given.1 given.2 c.if-old-opened.true

pub returns : goal.returns
unfolding first_open with_call with_calls
returns c = rw (c.least_open.ensures.0, c.placed.ensures, add-one) refl
