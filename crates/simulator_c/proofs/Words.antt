-- The simulator's answer in one word.
--     returned_in
-- Assumes nothing.
use Prim.Native.Nat.{ℕ}
use mathlib.Core.Path.{◌≡◌, ap, ◌∙◌}
use mathlib.Core.List.{List}
use Rattle.model.specs.declared.Answer.{Answer}
use Rattle.model.specs.Operations.{word_of}
use Rattle.simulator.specs.Run.{Simulated, simulated}
use Rattle.simulator_c.specs.Interface.{returned, in_c}

pub returned_in : {r : ℕ} {a : Answer} {o : List ℕ} {x : Simulated} → r ≡ word_of a → simulated a o ≡ x → returned r o ≡ in_c x
unfolding in_c
returned_in {r} {a} {o} {x} p q = ap (λ (n : ℕ). returned n o) p ∙ ap in_c q
