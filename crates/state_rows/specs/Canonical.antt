-- A buffer that is the bytes of its state, and any bytes past them. Every sound buffer is; so is what a change of a state stores,
-- also between two changes of one operation, when a limit may not hold yet.
-- Assumes nothing.
use Rattle.std.specs.Prelude.{ℕ, ◌≤◌, ◌≡◌, List, length}
use Rattle.model.specs.Limits.{client_count, record_count}
use Rattle.model.specs.States.{load, state_bytes, state_end, clients_in, records_in}
use Rattle.model.specs.Tables.{written}
use Rattle.model_laws.specs.Fits.{StateFits}

pub record Canonical (s : List ℕ) : Type 0 where
  pub long : state_end ≤ length s
  pub same : written s 0 (state_bytes (load s)) ≡ s
  pub fits : StateFits (load s)
  pub few_clients : clients_in s ≤ client_count
  pub few_records : records_in s ≤ record_count
