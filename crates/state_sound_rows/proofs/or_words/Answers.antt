-- What is left to show of `state_sound_rows::or_words`.
use Rattle.state_sound_rows.proofs.Zeros.{run-start, run-next, run_end, zero_word}
use Rattle.state_sound_rows.proofs.or_words.Goals as goal

pub loop-i-init : goal.loop-i-init
loop-i-init c = run-start 4 _ _ _

pub loop-i-preserved : goal.loop-i-preserved
loop-i-preserved c = run-next c.loop-i.invariant c.read_u32-acc.result c.loop-i-test.true (zero_word _ _ c.read_u32-acc.ensures)

pub returns : goal.returns
returns c = run_end c.loop-i.invariant c.loop-i-test.false
