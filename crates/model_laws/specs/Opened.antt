-- The definitions of `model`, by module, for theorems that are computed: `unfolding open_packets` opens all that Packets defines, since to
-- unfold a name is to unfold what its own line names. `open_parties` opens servers, clients and lease manager, with all that they rest on.
-- Assumes nothing.
use Rattle.model.specs.Choice.{unless_refused}
use Rattle.model.specs.Numbers.{signed, nearest, flip, le32_at, le64_at, le64, signed_at, zeros3_at}
use Rattle.model.specs.Tables.{rows, every_row, bytes_of, every, keep, zeros, written}
use Rattle.model.specs.Plan.{plan_entry_of, plan_entry_bytes, plan_entry_ok, plan_row_ok, plan_ok, plan_of, plan_bytes, entry_at, in_range}
use Rattle.model.specs.Rules.{argument_range, in_arguments, argument_ok, sum_in_range, set_rule, step_rule, report_rule, fault_rule, part_rule, rule_of}
use Rattle.model.specs.Packets.{packet_length, result_kind_of, result_size_of, time_bytes, id_ok, done_ok, command_ok, outcome_ok, request_at, request_ok, request_bytes, result_at, result_ok, result_bytes, refusal_at, refusal_ok, refusal_bytes, receipt_at, receipt_ok, receipt_bytes, notice_at, notice_ok, notice_bytes, grant_at, grant_ok, grant_bytes, whole, parse_request, parse_result, parse_refusal, parse_receipt, parse_notice, parse_grant, parse_packet, packet_bytes, as_request, as_receipt, as_notice}
use Rattle.model.specs.Packets as Packets
use Rattle.model.specs.Images.{entry_row_of, greatest_of, image_magic_of, floor_of_bytes, floor_bytes, image_entry_of, image_entry_bytes, floor_of, in_window, clients_ascend, id_before, ids_ascend, floor_ok, image_entry_ok, entry_width, image_head, image_head_of, image_at, image_framed, image_parts, image_head_ok, entry_row_ok, image_tables_ok, image_ok, parse_image, entry_in_range, image_in_range, image_length, image_head_bytes, image_bytes}
use Rattle.model.specs.Logs.{head_bytes, head_server, head_ok, executed_kind_of, executed_parsed, executed_size_of, executed_at, executed_ok, executed_bytes, give_at, give_ok, give_bytes, take_bytes, release_at, release_ok, release_bytes, record_bytes, record_size, within, take_extent, extent_of, take_parsed, record_at, walk_ends, ends_of, last_of, whole_end, entries_to, entries_bytes}
use Rattle.model.specs.States.{point_at, is_held, is_given, is_synced, point_of, point_bytes, completion_of, completion_bytes, clients_in, records_in, load, state_head_bytes, padded, state_bytes, end_ok, ends_in_order, not_given, origin_ok, absent_ok, held_ok, given_ok, status_ok, point_ok, points_ok, keeps_records, completion_ok, is_id, ids_differ, ends_from, state_framed, point_row_ok, state_ok, sound}
use Rattle.model.specs.Apply.{raise, merge_floors, is_not_client, stays_over, stays_over_floors, is_of_other, is_on_other, executed_point, completion, apply_executed, apply_gone, gave_point, apply_gave, took_point, taken_record, apply_took, released_point, apply_released, apply_record, apply, founded_point, founded, replay_from, replay, with_mark}
use Rattle.model.specs.Decisions.{or_malformed, find, time_for, timed_by, with_time, request_refusal, result_of_record, same_command, held_refusal, on_held, result_for, executed_for, new_refusal, on_new, on_id, decide_request, denying, on_request, fetch_refusal, on_fetched, on_fetch, sync_refusal, on_sync, notice_refusal, decide_notice, on_notice, places_bad, give_refusal, on_give, is_on_point, entry_of_record, insert_entry, sort_entries, image_for, image_refusal, on_image, free_for, take_refusal, take_tests, decide_take, on_take, receipt_refusal, on_receipt, release_refusal, decide_release, on_release, is_none, follows}
use Rattle.model.specs.Operations.{short, unfit, free_in, stored, settle, lent_refusal, lent, left_unless, found_refusal, found_of, request_of, fetch_of, sync_of, notice_of, give_of, image_of, take_of, receipt_of, release_of, recovered, recovered_all, recovered_on, recovered_state, settle_recovered, recover_refusal, recover_of, log_end_of}
use Rattle.model.specs.Clients.{place_of, call_at, is_open, least_open, first_open, with_calls, with_lease, closed, request_for, start_with, start_of, new_call, with_call, not_sent, sent, issue_of, resend_of, is_own, not_received, receive_result, receive_refusal, receive_grant, receive_with, receive_of, start_number, send_number, receive_number, brought, sent_bytes}
use Rattle.model.specs.Leases.{time_at, ended_at, running_at, lease_end, is_taken, with_new_lease, extended, span_ok, manager, not_told, granted, open_of, renew_of, query_of, told_number, told_bytes}
use Rattle.model.specs.Sequential.{entry_z, reading_meant, result_meant, after_z, in_range_z, quotient_down, quotient_nearest, read_z, set_z, past_end_z, step_z, report_z, fault_z, rounded_z, part_z, rule_z, opened, answer_z, entered, values_with, values_after}
use Rattle.model.specs.Simulator.{simulator_plan, simulator_server, simulator_client, new_simulator, server_of, client_of, with_server, with_client, with_packet, called, room, delivered, deliver_to, cut_at, cut_server, issued, received_at, deliver_at, receive_at, packet_at, known, ran, run_lines, is_digit, digits_from, at_most, number_in, negative, positive, argument_in, fields_from, letter_in, letter_line, line_by, field_in, and_then, numbers_from, line_with, line_of_fields, line_of, end_line, lines_from, lines_of, digits_of, shown, shown_signed, reply_text, replies_text, answers_of}

-- a name that opens others
abbrev pub Opens : Type 0
Opens = Unit

-- Choice and Numbers
unfoldable pub open_numbers : Opens
unfolding unless_refused signed nearest flip le32_at le64_at le64 signed_at zeros3_at
open_numbers = tt

-- Tables
unfoldable pub open_tables : Opens
unfolding rows every_row bytes_of every keep zeros written
open_tables = tt

-- Plan
unfoldable pub open_plan : Opens
unfolding plan_entry_of plan_entry_bytes plan_entry_ok plan_row_ok plan_ok plan_of plan_bytes entry_at in_range
open_plan = tt

-- Rules
unfoldable pub open_rules : Opens
unfolding argument_range in_arguments argument_ok sum_in_range set_rule step_rule report_rule fault_rule part_rule rule_of
open_rules = tt

-- Packets: the result's forms, fields, parsers
unfoldable pub open_forms : Opens
unfolding Packets.time_at time_bytes result_kind_of result_size_of
open_forms = tt

unfoldable pub open_packet_fields : Opens
unfolding open_forms packet_length id_ok done_ok command_ok outcome_ok request_at request_ok request_bytes result_at result_ok result_bytes
    refusal_at refusal_ok refusal_bytes receipt_at receipt_ok receipt_bytes
open_packet_fields = tt

unfoldable pub open_packet_parsers : Opens
unfolding notice_at notice_ok notice_bytes grant_at grant_ok grant_bytes whole parse_request parse_result parse_refusal parse_receipt parse_notice parse_grant parse_packet packet_bytes
open_packet_parsers = tt

unfoldable pub open_packets : Opens
unfolding open_packet_fields open_packet_parsers as_request as_receipt as_notice
open_packets = tt

-- Images: rows, whole ones
unfoldable pub open_image_rows : Opens
unfolding entry_row_of greatest_of image_magic_of floor_of_bytes floor_bytes image_entry_of image_entry_bytes floor_of in_window clients_ascend id_before ids_ascend floor_ok image_entry_ok entry_width
open_image_rows = tt

unfoldable pub open_images : Opens
unfolding open_image_rows image_head image_head_of image_at image_framed image_parts image_head_ok entry_row_ok image_tables_ok image_ok parse_image
    entry_in_range image_in_range image_length image_head_bytes image_bytes
open_images = tt

-- Logs: records, a log
unfoldable pub open_records : Opens
unfolding executed_kind_of executed_parsed executed_size_of executed_at executed_ok executed_bytes give_at give_ok give_bytes take_bytes release_at release_ok release_bytes record_bytes record_size
open_records = tt

unfoldable pub open_logs : Opens
unfolding open_records head_bytes head_server head_ok within take_extent extent_of take_parsed record_at walk_ends ends_of last_of whole_end entries_to entries_bytes
open_logs = tt

-- States: layout, soundness
unfoldable pub open_layout : Opens
unfolding point_at is_held is_given is_synced is_id point_of point_bytes completion_of completion_bytes clients_in records_in load state_head_bytes padded state_bytes
open_layout = tt

unfoldable pub open_states : Opens
unfolding open_layout end_ok ends_in_order not_given origin_ok absent_ok held_ok given_ok status_ok point_ok points_ok keeps_records completion_ok
    ids_differ ends_from state_framed point_row_ok state_ok sound
open_states = tt

-- Apply: parts, whole records
unfoldable pub open_changes : Opens
unfolding raise merge_floors is_not_client stays_over stays_over_floors is_of_other is_on_other executed_point completion gave_point took_point taken_record released_point founded_point
open_changes = tt

unfoldable pub open_apply : Opens
unfolding open_changes apply_executed apply_gone apply_gave apply_took apply_released apply_record apply founded replay_from replay with_mark
open_apply = tt

-- Decisions: of requests, of the other calls
unfoldable pub open_requests : Opens
unfolding or_malformed find time_for timed_by with_time request_refusal result_of_record same_command held_refusal on_held result_for executed_for
    new_refusal on_new on_id decide_request denying on_request
open_requests = tt

unfoldable pub open_moves : Opens
unfolding places_bad give_refusal on_give is_on_point entry_of_record insert_entry sort_entries image_for image_refusal on_image free_for take_refusal take_tests decide_take on_take
open_moves = tt

unfoldable pub open_decisions : Opens
unfolding open_requests open_moves fetch_refusal on_fetched on_fetch sync_refusal on_sync notice_refusal decide_notice on_notice receipt_refusal
    on_receipt release_refusal decide_release on_release is_none follows
open_decisions = tt

-- Operations: what they share, the calls
unfoldable pub open_settling : Opens
unfolding short unfit free_in stored settle lent_refusal lent left_unless recovered recovered_all recovered_on recovered_state settle_recovered
open_settling = tt

unfoldable pub open_operations : Opens
unfolding open_settling found_refusal found_of request_of fetch_of sync_of notice_of give_of image_of take_of receipt_of release_of recover_refusal recover_of log_end_of
open_operations = tt

-- Clients: what they share, the calls
unfoldable pub open_calls : Opens
unfolding place_of call_at is_open least_open first_open with_calls with_lease closed request_for new_call with_call is_own start_number send_number receive_number brought sent_bytes
open_calls = tt

unfoldable pub open_clients : Opens
unfolding open_calls start_with start_of not_sent sent issue_of resend_of not_received receive_result receive_refusal receive_grant receive_with receive_of
open_clients = tt

-- Leases
unfoldable pub open_leases : Opens
unfolding time_at ended_at running_at lease_end is_taken with_new_lease extended span_ok manager not_told granted open_of renew_of query_of told_number told_bytes
open_leases = tt

-- Sequential
unfoldable pub open_sequential : Opens
unfolding entry_z reading_meant result_meant after_z in_range_z quotient_down quotient_nearest read_z set_z past_end_z step_z report_z fault_z
    rounded_z part_z rule_z opened answer_z entered values_with values_after
open_sequential = tt

-- Simulator: its parts and steps, lines, answers
unfoldable pub open_simulator_steps : Opens
unfolding simulator_plan simulator_server simulator_client new_simulator server_of client_of with_server with_client with_packet called room delivered deliver_to cut_at cut_server issued received_at
open_simulator_steps = tt

unfoldable pub open_simulator_lines : Opens
unfolding is_digit digits_from at_most number_in negative positive argument_in fields_from letter_in letter_line line_by field_in and_then
    numbers_from line_with line_of_fields line_of end_line lines_from lines_of
open_simulator_lines = tt

unfoldable pub open_simulator : Opens
unfolding open_simulator_steps open_simulator_lines deliver_at receive_at packet_at known ran run_lines digits_of shown shown_signed reply_text replies_text answers_of
open_simulator = tt

-- packets, images, logs and the plan
unfoldable pub open_formats : Opens
unfolding open_numbers open_tables open_plan open_rules open_packets open_images open_logs
open_formats = tt

unfoldable pub open_servers : Opens
unfolding open_formats open_states open_apply open_decisions open_operations
open_servers = tt

unfoldable pub open_parties : Opens
unfolding open_servers open_clients open_leases
open_parties = tt
