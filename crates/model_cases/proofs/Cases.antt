-- Every P case holds: one theorem over the table.
-- Assumes nothing.
use mathlib.Core.Path.{◌≡◌, refl}
use mathlib.Core.List.{map}
use Rattle.model_laws.specs.Opened.{open_servers, open_sequential}
use Rattle.model_cases.specs.Table.{cases, got, wanted, asked, noted, time_of, time_in, heard_at, refusal_of}

pub p_cases : map got cases ≡ map wanted cases
unfolding open_servers open_sequential cases got wanted asked noted time_of time_in heard_at refusal_of
p_cases = refl
