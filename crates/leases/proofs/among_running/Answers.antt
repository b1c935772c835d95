-- What is left to show of `leases::among_running`.
use Rattle.leases.specs.Changes.{RunningAt}
use Rattle.leases.proofs.Answers.{running_in, running_all}
use Rattle.leases.proofs.among_running.Goals as goal
use Rattle.leases.proofs.among_running.Goals.{then-ended, else-ended}

pub returns : goal.returns
returns g c =
    let e = c.some_ended-ended in
    let run : RunningAt c.args.m c.args.now c.if-ended.held e.result =
    elim c.if-ended.branch [
      | then-ended w ↦ rw (w.if-ended.true, w.held-is) (running_in _ _ w.clear_ended.ensures e.ensures.1)
      | else-ended w ↦ rw (w.if-ended.false, w.held-is) (running_all _ _ (e.ensures.0 w.if-ended.false) e.ensures.1)
    ]
    in (c.if-ended.held, e.result, run, c.make.ensures)
