-- The lent slices as one value: the simulator in them, and what a function that takes them keeps.
-- Assumes nothing.
use Rattle.std.specs.Prelude.{ℕ, ◌≡◌, List, length}
use Rattle.std.specs.Borrow.{MutBor}
use Rattle.model.specs.Simulator.{Simulator, Line}
use Rattle.simulator_memory.specs.declared.Memory.{Memory}
use Rattle.simulator_memory.specs.declared.Stepped.{Stepped}
use Rattle.simulator.specs.declared.Lent.{Lent}
use Rattle.simulator.specs.Whole.{simulator_in, Ready, RanTo}
use Rattle.simulator.specs.Run.{Space, Fresh}

abbrev pub lent_simulator : Lent → Memory → Simulator
lent_simulator x m = simulator_in x.s0.now x.log0.now x.s1.now x.log1.now x.store.now m

-- a slice is still the one that was lent
abbrev pub SameSlice : MutBor (List ℕ) → MutBor (List ℕ) → Type 0
SameSlice x y = (y.ghost_name ≡ x.ghost_name) × (length y.now ≡ length x.now)

abbrev pub SameSlices : Lent → Lent → Type 0
SameSlices x y = SameSlice x.s0 y.s0 × SameSlice x.log0 y.log0 × SameSlice x.s1 y.s1 × SameSlice x.log1 y.log1 × SameSlice x.store y.store

-- the line l, run with the memory m and the slices x, leaves r and the slices y
abbrev pub LentRan : Lent → Memory → Line → Stepped → Lent → Type 0
LentRan x m l r y = RanTo x.s0.now x.log0.now x.s1.now x.log1.now x.store.now m l r y.s0.now y.log0.now y.s1.now y.log1.now y.store.now

-- what a step, a run and a new simulator ask of them
abbrev pub LentReady : Lent → ℕ → Type 0
LentReady x n = Ready x.s0.now x.s1.now x.store.now n

abbrev pub LentSpace : List ℕ → Lent → ℕ → Type 0
LentSpace page x n = Space page x.s0.now x.s1.now x.store.now n

abbrev pub LentFresh : List ℕ → Lent → Type 0
LentFresh page x = Fresh page x.s0.now x.log0.now x.s1.now x.log1.now x.store.now
