-- What is left to show of `format_commands::part_rule`.
use Rattle.model_laws.proofs.Bounds.{part_scaled, nearest-most}
use native.Mathlib.Omega.{arith}
use Rattle.model.specs.Rules.{part_rule}
use Rattle.format_commands.proofs.part_rule.Goals as goal

pub overflow_cast-value : goal.overflow_cast-value
overflow_cast-value c =
    let most = nearest-most _ c.saturating_sub-span.result (part_scaled c.saturating_sub-span.result _ c.saturating_sub-parts.ensures c.requires) in
    omega (arith, most, c.saturating_sub-span.ensures)

pub returns : goal.returns
unfolding part_rule
returns c = cc
