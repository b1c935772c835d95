-- What is left to show of `chamber_c::mantelorris_chamber_issue`.
use Rattle.model.specs.Numbers.{flip}
use Rattle.std.proofs.lemmas.Result.{OkIff-at_ok, OkIff-at_err}
use Rattle.chamber_c.proofs.Past.{issue-past}
use Rattle.chamber_c.proofs.mantelorris_chamber_issue.Goals.{in_default-via-in-Ok+in_default, in_default-via-in_default}
use Rattle.chamber_c.proofs.mantelorris_chamber_issue.Goals as goal

pub returns-in_default : goal.returns-in_default
returns-in_default c =
    let a = c.args in
    let past =
    issue-past a.chamber a.op a.point (flip a.argument) (λ op point. elim c.in_default.branch [
      | in_default-via-in-Ok+in_default w ↦ OkIff-at_err _ _ _ _ c.try_from-2.ensures w.in_default.is-1 point
      | in_default-via-in_default w ↦ OkIff-at_err _ _ _ _ c.try_from.ensures w.in_default.is-0 op
    ]) in
    rw (← past, ← c.not_sent.ensures) c.send_reply.ensures

pub returns : goal.returns
returns c =
    let bytes = c.in-Ok-Ok in
    let op = (OkIff-at_ok _ _ _ _ c.try_from.ensures bytes.is-0).1 in
    let point = (OkIff-at_ok _ _ _ _ c.try_from-2.ensures bytes.is-1).1 in
    rw (← op, ← point) cc
