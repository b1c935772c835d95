-- What is left to show of `server_apply::apply_gone`.
use Prim.Native.Nat.{ℕ, max}
use mathlib.Core.Path.{ap, ◌∙◌}
use native.Mathlib.Omega.{arith}
use Rattle.server_apply.proofs.Stages.{stage_canonical}
use Rattle.server_apply.proofs.Gone.{gone-client, gone-records, gone-heard, gone-done}
use Rattle.server_apply.proofs.apply_gone.Goals as goal

pub keep_records-requires : goal.keep_records-requires
keep_records-requires c =
    stage_canonical (gone-client c.requires c.args.notice c.remove.ensures)

pub set_heard-requires : goal.set_heard-requires
set_heard-requires c =
    stage_canonical (gone-records c.requires c.args.notice (gone-client c.requires c.args.notice c.remove.ensures) c.keep_records.ensures)

pub set_size-requires : goal.set_size-requires
set_size-requires c =
    stage_canonical (gone-heard c.requires c.args.notice (gone-records c.requires c.args.notice (gone-client c.requires c.args.notice c.remove.ensures)
    c.keep_records.ensures) (omega arith) (c.greater-heard.ensures ∙ ap (λ (h : ℕ). max h c.args.notice.time) c.heard_of.ensures) c.set_heard.ensures)

pub returns : goal.returns
returns c =
    gone-done c.requires c.args.notice c.args.end (omega arith) (gone-heard c.requires c.args.notice
    (gone-records c.requires c.args.notice (gone-client c.requires c.args.notice c.remove.ensures) c.keep_records.ensures) (omega arith)
    (c.greater-heard.ensures ∙ ap (λ (h : ℕ). max h c.args.notice.time) c.heard_of.ensures) c.set_heard.ensures) c.set_size.ensures
