-- What is left to show of `chamber::reads_with`.
use mathlib.Core.Path.{◌≡◌, refl, sym}
use native.Mathlib.Omega.{arith}
use lib.ListN.{length}
use lib.Seq.{set_out}
use borrow.Author.Rules.{rules}
use borrow.Author.Tests.{ne_eqb}
use Rattle.chamber.proofs.Answers.{role_some, role-none}
use Rattle.chamber_claim.specs.Chamber.{reads_with}
use Rattle.chamber.proofs.reads_with.Goals as goal

pub offset_bounds-reads-i : goal.offset_bounds-reads-i
offset_bounds-reads-i c = let role = role_some _ _ c.in-Some.ensures in omega (arith, role.1)

pub bounds-reads-i : goal.bounds-reads-i
bounds-reads-i c = let role = role_some _ _ c.in-Some.ensures in omega (arith, role.1)

pub returns-in-Some : goal.returns-in-Some
unfolding reads_with
returns-in-Some c =
    let role = role_some _ _ c.in-Some.ensures in
    rw (← c.call_at-opened.ensures, c.if-opened-eq-READ_OP.true, ← role.0, c.read_by.ensures) refl

pub returns-in_default : goal.returns-in_default
unfolding reads_with
returns-in_default c =
    let long : length c.args.ch.reads ≡ 5 = search rules in
    rw (← c.call_at-opened.ensures, c.if-opened-eq-READ_OP.true) (sym (set_out _ _ _ (omega (arith, role-none _ _ c.in_default.ensures))))

pub returns-else-opened-eq-READ_OP : goal.returns-else-opened-eq-READ_OP
unfolding reads_with
returns-else-opened-eq-READ_OP c = rw (← c.call_at-opened.ensures, ne_eqb _ _ c.if-opened-eq-READ_OP.false) refl
