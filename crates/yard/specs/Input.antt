-- The input that the program `yard` holds.
-- Assumes nothing.
use Rattle.std.specs.Prelude.{ℕ, Bool, ◌||◌, List, leb, length}
use Rattle.simulator_text.specs.Values.{closed}

-- bytes of an input that is read whole
abbrev pub longest : ℕ
longest = 65536

-- what was read holds all that is answered: the whole input, or, by `rest_unread` of `simulator`, all lines that are read
abbrev pub holds_all : List ℕ → Bool
holds_all s = leb (length s) longest || closed s
