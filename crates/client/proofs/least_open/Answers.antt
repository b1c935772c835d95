-- What is left to show of `client::least_open`.
use mathlib.Core.Path.{◌∙◌}
use mathlib.Core.Bool.{◌&&◌}
use lib.Dec.{leb, ltb}
use borrow.Author.Rules.{rules}
use Rattle.std.proofs.Common.{tests}
use Rattle.std.proofs.lemmas.Iterator.{YieldsList-from_slice}
use Rattle.std.proofs.lemmas.Iterator.Consumers.{fold_from_yields_List}
use Rattle.model.specs.Choice.{pick}
use Rattle.client.proofs.Places.{least_folded}
use Rattle.client.proofs.least_open.Goals as goal

pub returns : goal.returns
returns c =
    let folded =
    fold_from_yields_List _ (λ least k. pick (leb 1 k.call && ltb k.call least) k.call least) c.args.next _ c.fold.ensures.ran (YieldsList-from_slice c.args.ks cc)
    (λ a x b q k. search (rules, tests)) in
    (folded ∙ least_folded c.args.next c.args.ks, search rules)
