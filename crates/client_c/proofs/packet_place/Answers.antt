-- What is left to show of `client_c::packet_place`.
use Rattle.client_c.proofs.packet_place.Goals as goal

pub returns : goal.returns
returns c = (rw (← c.packet_call.ensures) c.place_of.ensures.0, c.place_of.ensures.1)
