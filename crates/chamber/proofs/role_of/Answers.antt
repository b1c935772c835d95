-- What is left to show of `chamber::role_of`.
use mathlib.Core.Path.{ap, ◌∙◌}
use lib.Dec.{eqb}
use borrow.Author.Rules.{rules}
use Rattle.std.proofs.Common.{tests}
use Rattle.std.specs.List.{position}
use Rattle.std.proofs.lemmas.Iterator.{YieldsList-from_slice}
use Rattle.std.proofs.lemmas.Iterator.Search.{position_from_yields_List}
use Rattle.chamber.proofs.Answers.{role_by}
use Rattle.chamber.proofs.role_of.Goals as goal

pub returns : goal.returns
returns c =
    let found =
    position_from_yields_List (λ q. eqb c.args.p q) _ _ _ c.position.ensures.ran (YieldsList-from_slice c.point_list-ps.result cc)
    (λ x b q k. search (rules, tests)) in
    found ∙ ap (position (λ q. eqb c.args.p q)) c.point_list-ps.ensures ∙ role_by c.args.points c.args.p
