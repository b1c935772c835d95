-- What is left to show of `state_sound_rows::head_framed`.
use Rattle.state_sound_rows.specs.Parts.{head_framed}
use Rattle.state_sound_rows.proofs.head_framed.Goals as goal

pub returns : goal.returns
unfolding head_framed
returns c =
    rw (c.starts_with-magic.ensures, c.zeros3_at-zeros.ensures, c.read_u32-word.ensures, c.clients_in-clients.ensures, c.records_in-records.ensures)
