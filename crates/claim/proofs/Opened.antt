-- The two worlds' definitions, for theorems that are computed, as `model_laws` (Opened) has `model`'s.
--     open_world, open_record_world
-- Assumes nothing.
use Rattle.model_laws.specs.Opened.{Opens, open_parties}
use Rattle.model.specs.Simulator.{simulator_plan}
use Rattle.model.specs.Calls.{handed, operated, decision, inquired}
use Rattle.claim.specs.World.{with_server, with_client, with_manager, making, starts_as, starts_on, sends, receives, told, packet, outside_step}
use Rattle.claim.specs.World as World
use Rattle.claim.specs.Provisos as Provisos
use Rattle.claim.specs.RecordWorld.{longer, settle, call_of, calls, calls_on, found_of, recovered_from, recover_of, kept_by, founds, recovers_to, recovers_from, cut_at, crash_at, step, empty_world, run_from, run}
use Rattle.claim.specs.RecordProvisos.{mark_of, length_of}

-- what both worlds share
unfoldable pub open_shared : Opens
unfolding open_parties simulator_plan with_server with_client with_manager making starts_as starts_on sends receives told packet outside_step handed
open_shared = tt

-- servers as they are lent their bytes
unfoldable open_lent : Opens
unfolding World.lent_state World.lent_log World.state_back World.log_back World.calls World.calls_on operated World.looked inquired World.found_as World.crash_at
open_lent = tt

unfoldable pub open_world : Opens
unfolding open_shared open_lent World.step World.empty_world World.run_from World.run World.after Provisos.kept_by Provisos.mark_of Provisos.length_of
open_world = tt

-- as a state and log records
unfoldable open_record_servers : Opens
unfolding longer settle call_of decision calls calls_on found_of recovered_from recover_of kept_by founds recovers_to recovers_from cut_at crash_at mark_of length_of
open_record_servers = tt

unfoldable pub open_record_world : Opens
unfolding open_shared open_record_servers step empty_world run_from run
open_record_world = tt
