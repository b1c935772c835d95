-- What is left to show of `leases::renew_change`.
use Prim.Native.Nat.{◌≤◌}
use native.Mathlib.Omega.{arith}
use borrow.Author.Rules.{rules}
use Rattle.model.specs.Limits.{last32}
use Rattle.leases.proofs.Answers.{renew-done}
use Rattle.leases.proofs.renew_change.Goals as goal

pub returns : goal.returns
returns c =
    let issued : c.args.m.issued ≤ last32 = omega arith in
    let known : c.args.client ≤ last32 = omega arith in
    search (rules, renew-done)
