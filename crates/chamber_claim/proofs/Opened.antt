-- The controller's definitions, for theorems that are computed, as `model_laws` (Opened) has `model`'s.
--     open_chamber
-- Assumes nothing.
use Rattle.model_laws.specs.Opened.{Opens, open_numbers, open_tables, open_rules, open_packets, open_clients}
use Rattle.chamber_claim.specs.Chamber.{role_in, is_other, all_different, is_point, points_ok, op_ok, read_at, is_opening, valid_gate, valid_level, near}
use Rattle.chamber_claim.specs.Chamber.{closed_seen, levels_seen, clear, may_open, new_chamber, no_chamber, not_started_in, started_in, start_in}
use Rattle.chamber_claim.specs.Chamber.{not_sent_in, moved_by, sent_in, issue_in, resend_in, read_by, reads_with, reads_by, receive_in}

-- what the calls rest on
unfoldable open_below : Opens
unfolding open_numbers open_tables open_rules open_packets open_clients
open_below = tt

-- points and starts
unfoldable open_starts : Opens
unfolding role_in is_other all_different is_point points_ok new_chamber no_chamber not_started_in started_in start_in
open_starts = tt

-- when a gate may be opened
unfoldable open_reads : Opens
unfolding op_ok read_at is_opening valid_gate valid_level near closed_seen levels_seen clear may_open
open_reads = tt

unfoldable pub open_chamber : Opens
unfolding open_below open_starts open_reads not_sent_in moved_by sent_in issue_in resend_in read_by reads_with reads_by receive_in
open_chamber = tt
