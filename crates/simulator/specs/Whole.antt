-- The lent slices and the memory as the simulator of the definitions, and what a line's work at one party makes of it.
-- Assumes nothing.
use Rattle.std.specs.Prelude.{ℕ, ◌≤◌, ◌≡◌, List, eqb, length}
use Rattle.model.specs.Choice.{pick}
use Rattle.model.specs.States.{state_end}
use Rattle.model.specs.Simulator.{Simulator, Line, Step, step, ran}
use Rattle.simulator_text.specs.Values.{reply_is}
use Rattle.simulator_memory.specs.Store.{packets_in, Room, Next}
use Rattle.simulator.specs.Served.{Served}
use Rattle.simulator.specs.Attended.{Attended}
use Rattle.simulator_memory.specs.declared.Memory.{Memory}
use Rattle.simulator_memory.specs.declared.Stepped.{Stepped}

unfoldable pub join_server : Simulator → ℕ → Served → Step
join_server y n v =
    step (record {
      server0 = pick (eqb n 0) (record { state = v.state; log = v.log }) y.server0;
      server1 = pick (eqb n 0) y.server1 (record { state = v.state; log = v.log });
      client0 = y.client0;
      client1 = y.client1;
      packets = v.outcome.packets;
    }) v.outcome.reply

unfoldable pub join_client : Simulator → ℕ → Attended → Step
join_client y n v =
    step (record {
      server0 = y.server0;
      server1 = y.server1;
      client0 = pick (eqb n 0) v.client y.client0;
      client1 = pick (eqb n 0) y.client1 v.client;
      packets = v.outcome.packets;
    }) v.outcome.reply

abbrev pub simulator_in : List ℕ → List ℕ → List ℕ → List ℕ → List ℕ → Memory → Simulator
simulator_in s0 l0 s1 l1 store m =
    record {
      server0 = record { state = s0; log = l0 };
      server1 = record { state = s1; log = l1 };
      client0 = m.client0;
      client1 = m.client1;
      packets = packets_in store m.count;
    }

abbrev pub step_is : Stepped → List ℕ → List ℕ → List ℕ → List ℕ → List ℕ → Step
step_is r s0 l0 s1 l1 store = step (simulator_in s0 l0 s1 l1 store r.memory) (reply_is r.reply)

-- the line l, run with the memory before it, leaves r and the memory after it, with one packet more at the most
abbrev pub RanTo : List ℕ → List ℕ → List ℕ → List ℕ → List ℕ → Memory → Line → Stepped → List ℕ → List ℕ → List ℕ → List ℕ → List ℕ → Type 0
RanTo s0 l0 s1 l1 store m l r t0 k0 t1 k1 after =
    (step_is r t0 k0 t1 k1 after ≡ ran (simulator_in s0 l0 s1 l1 store m) l) × Next m.count r.memory.count

-- what a step asks of the lent memory: two whole states, and room for one packet more
pub record Ready (s0 s1 store : List ℕ) (count : ℕ) : Type 0 where
  pub first : state_end ≤ length s0
  pub second : state_end ≤ length s1
  pub room : Room store count
