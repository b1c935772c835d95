-- What is left to show of `client_c::issue_change`.
use Rattle.std.proofs.lemmas.Result.{OkIff-at_err}
use Rattle.client_c.proofs.Cases.{issued-past}
use Rattle.client_c.proofs.issue_change.Goals.{in_default-via-in-Ok+in_default, in_default-via-in_default}
use Rattle.client_c.proofs.issue_change.Goals as goal

pub returns-in_default : goal.returns-in_default
returns-in_default c =
    issued-past _ _ _ _ _ (λ op point. elim c.in_default.branch [
      | in_default-via-in-Ok+in_default w ↦ OkIff-at_err _ _ _ _ c.try_from-2.ensures w.in_default.is-1 point
      | in_default-via-in_default w ↦ OkIff-at_err _ _ _ _ c.try_from.ensures w.in_default.is-0 op
    ]) c.not_issued.ensures
