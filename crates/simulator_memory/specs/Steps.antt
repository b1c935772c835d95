-- The memory after a line.
-- Assumes nothing.
use Rattle.std.specs.Prelude.{ℕ, Option, Some, None, eqb}
use Rattle.model.specs.declared.Client.{Client}
use Rattle.model.specs.Choice.{pick}
use Rattle.simulator_memory.specs.declared.Made.{Made}
use Rattle.simulator_memory.specs.declared.ClientMade.{ClientMade}
use Rattle.simulator_memory.specs.declared.Memory.{Memory}
use Rattle.simulator_memory.specs.declared.Stepped.{Stepped}

-- the memory after a line at a server
abbrev pub server_stepped : Memory → Made → Stepped
server_stepped m a = record { memory = record { client0 = m.client0; client1 = m.client1; count = a.count }; reply = a.reply }

-- client 0 or 1
abbrev pub client_in : Memory → ℕ → Option Client
client_in m n = pick (eqb n 0) (Some m.client0) (pick (eqb n 1) (Some m.client1) None)

-- and after a line at client 0, else at client 1
abbrev pub client_stepped : Memory → ℕ → ClientMade → Stepped
client_stepped m n a =
    record {
      memory = record {
        client0 = pick (eqb n 0) a.client m.client0;
        client1 = pick (eqb n 0) m.client1 a.client;
        count = a.made.count;
      };
      reply = a.made.reply;
    }
