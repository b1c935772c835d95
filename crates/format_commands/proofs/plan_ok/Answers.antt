-- What is left to show of `format_commands::plan_ok`.
use native.Mathlib.Omega.{arith}
use borrow.Author.Rules.{rules}
use borrow.Author.Tests.{tests}
use Rattle.format_numbers.proofs.Chains.{all_walked}
use Rattle.format_commands.proofs.Plan.{plan-long, plan_steps}
use Rattle.format_commands.proofs.plan_ok.Goals as goal

pub returns-then-s : goal.returns-then-s
returns-then-s c = plan-long c.args.s.now c.if-s.true

pub returns : goal.returns
returns c =
    all_walked (plan_steps c.args.s.now (omega (arith, c.if-s.false))) _ _ _ c.all.ensures.ran (cc) (λ i q k. search (rules, tests)) (λ i q k. search (rules, tests))
