-- What is left to show of `leases::place_in`.
use mathlib.Core.Path.{◌∙◌}
use lib.Dec.{eqb}
use borrow.Author.Rules.{rules}
use Rattle.std.proofs.Common.{tests}
use Rattle.std.proofs.lemmas.Iterator.{YieldsList-from_slice}
use Rattle.std.proofs.lemmas.Iterator.Search.{position_from_yields_List}
use Rattle.leases.proofs.Places.{place_by}
use Rattle.leases.proofs.place_in.Goals as goal

pub returns : goal.returns
returns c =
    let found = position_from_yields_List (λ l. eqb l.client c.args.client) _ _ _ c.position.ensures.ran (YieldsList-from_slice c.args.ls cc) (λ x b q k. search (rules, tests)) in
    found ∙ place_by c.args.client c.args.ls
