-- What is left to show of `chamber::all_points`.
use mathlib.Core.Path.{ap, ◌∙◌}
use lib.Dec.{leb}
use borrow.Author.Rules.{rules}
use Rattle.std.proofs.Common.{tests}
use Rattle.std.specs.List.{list_all}
use Rattle.std.proofs.lemmas.Iterator.{YieldsList-from_slice}
use Rattle.std.proofs.lemmas.Iterator.Search.{all_from_yields_List}
use Rattle.model.specs.Limits.{last_point}
use Rattle.model.specs.Tables.{every}
use Rattle.chamber_claim.specs.Chamber.{is_point}
use Rattle.chamber.proofs.all_points.Goals as goal

pub returns : goal.returns
unfolding every is_point
returns c =
    let all =
    all_from_yields_List (λ p. leb p last_point) _ _ _ c.all.ensures.ran (YieldsList-from_slice c.point_list-ps.result cc)
    (λ x b q k. search (rules, tests)) in
    all ∙ ap (list_all (λ p. leb p last_point)) c.point_list-ps.ensures
