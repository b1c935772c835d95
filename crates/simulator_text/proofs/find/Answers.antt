-- What is left to show of `simulator_text::find`.
use Rattle.std.proofs.Common.{eqb, rules, tests}
use Rattle.std.proofs.lemmas.Iterator.{YieldsList-from_slice}
use Rattle.std.proofs.lemmas.Iterator.Search.{position_from_yields_List}
use Rattle.simulator_text.proofs.Fields.{first-found}
use Rattle.simulator_text.proofs.find.Goals as goal

pub returns : goal.returns
returns c =
    first-found c.args.b c.args.s.now c.unwrap_or.ensures
    (position_from_yields_List (λ x. eqb x c.args.b) _ _ _ c.position.ensures.ran (YieldsList-from_slice c.args.s.now cc) (λ x b q k. search (rules, tests)))
