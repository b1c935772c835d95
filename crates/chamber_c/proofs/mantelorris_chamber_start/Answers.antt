-- What is left to show of `chamber_c::mantelorris_chamber_start`.
use mathlib.Core.Path.{ap, ◌∙◌}
use Rattle.std.proofs.lemmas.Result.{OkIff-at_ok, OkIff-at_err}
use Rattle.chamber_c.specs.Replies.{start_reply_in}
use Rattle.chamber_c.proofs.Past.{five, points-past}
use Rattle.chamber_c.proofs.mantelorris_chamber_start.Goals.{in_default-via-in-Ok+in-Ok+in-Ok+in-Ok+in_default, in_default-via-in-Ok+in-Ok+in-Ok+in_default, in_default-via-in-Ok+in-Ok+in_default, in_default-via-in-Ok+in_default, in_default-via-in_default}
use Rattle.chamber_c.proofs.mantelorris_chamber_start.Goals as goal

pub returns-in_default : goal.returns-in_default
returns-in_default c =
    let a = c.args in
    let past =
    points-past a.packet.now (five a.upper a.lower a.level1 a.level2 a.level3) (λ fits. elim c.in_default.branch [
      | in_default-via-in-Ok+in-Ok+in-Ok+in-Ok+in_default w ↦ OkIff-at_err _ _ _ _ c.try_from-5.ensures w.in_default.is-4 fits.level3
      | in_default-via-in-Ok+in-Ok+in-Ok+in_default w ↦ OkIff-at_err _ _ _ _ c.try_from-4.ensures w.in_default.is-3 fits.level2
      | in_default-via-in-Ok+in-Ok+in_default w ↦ OkIff-at_err _ _ _ _ c.try_from-3.ensures w.in_default.is-2 fits.level1
      | in_default-via-in-Ok+in_default w ↦ OkIff-at_err _ _ _ _ c.try_from-2.ensures w.in_default.is-1 fits.lower
      | in_default-via-in_default w ↦ OkIff-at_err _ _ _ _ c.try_from.ensures w.in_default.is-0 fits.upper
    ]) in
    rw (← past, ← c.not_started.ensures) c.start_reply.ensures

pub returns : goal.returns
returns c =
    let bytes = c.in-Ok-Ok-Ok-Ok-Ok in
    let upper = (OkIff-at_ok _ _ _ _ c.try_from.ensures bytes.is-0).1 in
    let lower = (OkIff-at_ok _ _ _ _ c.try_from-2.ensures bytes.is-1).1 in
    let level1 = (OkIff-at_ok _ _ _ _ c.try_from-3.ensures bytes.is-2).1 in
    let level2 = (OkIff-at_ok _ _ _ _ c.try_from-4.ensures bytes.is-3).1 in
    let level3 = (OkIff-at_ok _ _ _ _ c.try_from-5.ensures bytes.is-4).1 in
    rw (← upper, ← lower, ← level1, ← level2, ← level3) (c.start_reply-2.ensures ∙ ap start_reply_in c.start.ensures)
