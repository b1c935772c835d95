-- What is left to show of `chamber_c::mantelorris_chamber_receive`.
use Rattle.chamber_c.proofs.mantelorris_chamber_receive.Goals as goal

pub returns : goal.returns
returns c = cc
