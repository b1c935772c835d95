-- The measure of `simulator_text::write_reply::put_digits`: the digits still allowed.
use Rattle.simulator_text.proofs.write_reply.+put_digits.Given as goal

abbrev pub decreases-put_digits : goal.decreases-put_digits
decreases-put_digits l = l.room
