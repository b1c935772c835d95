-- What the simulator leaves in C: its answer in one word of 64 bits, and the output.
-- Assumes nothing.
use Rattle.std.specs.Prelude.{ℕ, List}
use Rattle.model.specs.Operations.{word_of}
use Rattle.simulator.specs.Run.{Simulated}

pub record Returned : Type 0 where
  pub answer : ℕ
  pub out : List ℕ

abbrev pub returned : ℕ → List ℕ → Returned
returned r o = record { answer = r; out = o }

-- what the simulator leaves, in C's terms
unfoldable pub in_c : Simulated → Returned
in_c a = returned (word_of a.answer) a.out
