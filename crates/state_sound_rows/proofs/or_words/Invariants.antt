-- The invariants of `state_sound_rows::or_words`.
use Rattle.state_sound_rows.proofs.Zeros.{Run}
use Rattle.state_sound_rows.proofs.or_words.Given as goal

abbrev pub invariant-loop-i : goal.invariant-loop-i
invariant-loop-i l = Run 4 l.at l.s l.n l.acc l.i
