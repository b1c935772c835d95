-- What is left to show of `state_soundness::state_ok`.
use mathlib.Core.Bool.{not}
use mathlib.Core.Path.{ap}
use Rattle.state_sound_rows.proofs.Framing.{framed_counts}
use Rattle.state_sound_rows.proofs.Chains.{chain}
use Rattle.state_soundness.proofs.Whole.{sound-parts}
use Rattle.state_soundness.proofs.state_ok.Goals as goal

pub returns-then-s-lt-STATE_END : goal.returns-then-s-lt-STATE_END
returns-then-s-lt-STATE_END c = rw sound-parts (search chain depth 24)

pub returns-then-not-framed : goal.returns-then-not-framed
returns-then-not-framed c = rw sound-parts (search chain depth 24)

pub returns-then-not-head_ok : goal.returns-then-not-head_ok
returns-then-not-head_ok c = rw sound-parts (search chain depth 24)

pub tables_ok-requires : goal.tables_ok-requires
tables_ok-requires c =
    let counts = framed_counts c.args.s.now c.framed.ensures (ap not c.if-not-framed.false) in (c.if-s-lt-STATE_END.false, counts.0, counts.1)

pub returns : goal.returns
returns c = rw sound-parts (search chain depth 24)
