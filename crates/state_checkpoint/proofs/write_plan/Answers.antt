-- What is left to show of `state_checkpoint::write_plan`.
use Rattle.state_checkpoint.proofs.Parts.{plan-part}
use Rattle.state_checkpoint.proofs.write_plan.Goals as goal

pub returns : goal.returns
returns c =
    rw (c.copy_part.ensures, plan-part c.args.s.now (λ i. (c.type_inv.s i).fits) c.requires.0)
