-- What is left to show of `server_recover::recover::begin`.
use Prim.Native.Nat.{ℕ}
use mathlib.Core.Path.{sym, ap, ◌∙◌}
use Rattle.model.specs.Plan.{plan_of}
use Rattle.model.specs.Apply.{founded}
use Rattle.model.specs.Operations.{stored}
use Rattle.model_laws.proofs.Logs.{head-length}
use Rattle.server_recover.proofs.Rebuilding.{begun-off, begun-founded}
use borrow.Author.Rules.{rules}
use Rattle.server_recover.proofs.recover.begin.Goals as goal

pub returns-then-not-head_ok : goal.returns-then-not-head_ok
returns-then-not-head_ok c =
    let start = c.args in
    begun-off start.log.now start.plan.now _ (sym c.head_ok.ensures ∙ c.if-not-head_ok.true)

pub head_server-server-requires : goal.head_server-server-requires
head_server-server-requires c = head-length _ (sym c.head_ok.ensures ∙ c.if-not-head_ok.false)

pub returns : goal.returns
returns c =
    begun-founded c.args.log.now c.args.plan.now c.args.work.now c.requires.0 (search rules) c.requires.1
    (sym c.head_ok.ensures ∙ c.if-not-head_ok.false)
    (c.found_state.ensures ∙ ap (λ (n : ℕ). stored c.args.work.now (founded (plan_of c.args.plan.now) n)) c.head_server-server.ensures)
