-- What is left to show of `server_recover::replay::replay_record`.
use Prim.Native.Nat.{ℕ, ◌+◌}
use mathlib.Core.Path.{◌≡◌, ap}
use mathlib.Core.Bool.{Bool}
use mathlib.Core.List.{List}
use mathlib.Core.Option.{some}
use native.Mathlib.Omega.{arith}
use lib.ListN.{drop}
use Rattle.std.specs.Prelude.{Some}
use Rattle.model.specs.Logs.{LogRecord, record_at}
use Rattle.format_log_reader.specs.declared.Span.{Span}
use Rattle.format_log_reader.specs.declared.Record.{Record}
use Rattle.format_log_reader.specs.declared.Record.TheVariants.{Took}
use Rattle.format_log_reader.specs.Answers.{record_means}
use Rattle.format_log_ends.proofs.Ends.{from_inside}
use Rattle.server_replay.specs.Standing.{Ready, ReplayedBy}
use Rattle.server_recover.specs.Remaining.{RecordReplayedBy}
use Rattle.server_recover.proofs.Steps.{ImagePart, said, ready, image-part, broken_by, replayed_by}
use borrow.Author.Rules.{rules}
use Rattle.server_recover.proofs.replay.replay_record.Goals as goal
use Rattle.server_recover.proofs.replay.replay_record.Goals.{In-Some}

says : (c : In-Some) {r : Record} → c.in-Some.found ≡ r → record_at (drop c.args.at c.args.log.now) ≡ record_means c.args.log.now (Some r)
says c e = let a = c.args in said a.log.now a.at a.n c.in-Some.ensures (ap Some e)

ready_at : (c : In-Some) (r : LogRecord) → record_at (drop c.args.at c.args.log.now) ≡ some r → Ready c.args.s.now r (c.args.at + c.args.n)
ready_at c r q =
    ready c.args.s.now c.args.log.now c.args.at c.args.n r c.requires.0 (search rules) c.requires.1 q

image-at : (c : In-Some) {p : Span} → c.in-Some.found ≡ Took p → ImagePart c.args.log.now c.args.at c.args.n p
image-at c e =
    image-part c.args.log.now c.args.at c.args.n c.in-Some.ensures (ap Some e) (from_inside _ _ _ c.requires.1)

replayed-at : (c : In-Some) (r : LogRecord) {t : Bool} {s' : List ℕ} → record_at (drop c.args.at c.args.log.now) ≡ some r → ReplayedBy r (c.args.at + c.args.n) c.args.s.now s' t
    → RecordReplayedBy (record_at (drop c.args.at c.args.log.now)) (c.args.at + c.args.n) c.args.s.now s' t
replayed-at c r q e = let a = c.args in replayed_by a.s.now a.log.now a.at (c.args.at + c.args.n) r q e

-- ---- the needs

pub overflow_add-end : goal.overflow_add-end
overflow_add-end c = omega (arith, from_inside _ _ _ c.requires.1)

pub replay-requires : goal.replay-requires
unfolding record_means
replay-requires c = ready_at (goal.at.replay-requires c).In-Some _ (says (goal.at.replay-requires c).In-Some c.in-Executed.is)

pub replay-requires-in-Gone : goal.replay-requires-in-Gone
unfolding record_means
replay-requires-in-Gone c = ready_at (goal.at.replay-requires-in-Gone c).In-Some _ (says (goal.at.replay-requires-in-Gone c).In-Some c.in-Gone.is)

pub replay-requires-in-Gave : goal.replay-requires-in-Gave
unfolding record_means
replay-requires-in-Gave c = ready_at (goal.at.replay-requires-in-Gave c).In-Some _ (says (goal.at.replay-requires-in-Gave c).In-Some c.in-Gave.is)

pub overflow_add-span : goal.overflow_add-span
overflow_add-span c = omega (arith, (image-at (goal.at.overflow_add-span c).In-Some c.in-Took.is).to)

pub replay_image-requires : goal.replay_image-requires
replay_image-requires c =
    let i = image-at (goal.at.replay_image-requires c).In-Some c.in-Took.is in
    (i.from, i.to, ready_at (goal.at.replay_image-requires c).In-Some _ i.says, i.ok)

pub replay-requires-in-Released : goal.replay-requires-in-Released
unfolding record_means
replay-requires-in-Released c = ready_at (goal.at.replay-requires-in-Released c).In-Some _ (says (goal.at.replay-requires-in-Released c).In-Some c.in-Released.is)

pub returns-in_default : goal.returns-in_default
unfolding record_means
returns-in_default c =
    let a = c.args in broken_by a.s.now a.log.now a.at (a.at + a.n) (said a.log.now a.at a.n c.record_at.ensures c.in_default.is)

pub returns-in-Executed : goal.returns-in-Executed
unfolding record_means
returns-in-Executed c =
    replayed-at (goal.at.returns-in-Executed c).In-Some _ (says (goal.at.returns-in-Executed c).In-Some c.in-Executed.is) c.replay.ensures

pub returns-in-Gone : goal.returns-in-Gone
unfolding record_means
returns-in-Gone c =
    replayed-at (goal.at.returns-in-Gone c).In-Some _ (says (goal.at.returns-in-Gone c).In-Some c.in-Gone.is) c.replay-in-Gone.ensures

pub returns-in-Gave : goal.returns-in-Gave
unfolding record_means
returns-in-Gave c =
    replayed-at (goal.at.returns-in-Gave c).In-Some _ (says (goal.at.returns-in-Gave c).In-Some c.in-Gave.is) c.replay-in-Gave.ensures

pub returns-in-Took : goal.returns-in-Took
returns-in-Took c =
    replayed-at (goal.at.returns-in-Took c).In-Some _ (image-at (goal.at.returns-in-Took c).In-Some c.in-Took.is).says c.replay_image.ensures

pub returns-in-Released : goal.returns-in-Released
unfolding record_means
returns-in-Released c =
    replayed-at (goal.at.returns-in-Released c).In-Some _ (says (goal.at.returns-in-Released c).In-Some c.in-Released.is) c.replay-in-Released.ensures
