-- Every limit, size, kind and code of docs/REFERENCE.md, each once; derived ones are computed. A later change of a format changes it here.
-- crates/model/src/constants.rt has the same numbers for the code.
-- Assumes nothing.
use Rattle.std.specs.Prelude.{ℕ, suc, ◌+◌, ◌-◌, ◌*◌}

-- ---- ops

abbrev pub read_op : ℕ
read_op = 0

abbrev pub set_op : ℕ
set_op = 1

abbrev pub step_op : ℕ
step_op = 2

abbrev pub report_op : ℕ
report_op = 3

abbrev pub fault_op : ℕ
fault_op = 4

abbrev pub part_op : ℕ
part_op = 5

-- the argument of part that means the whole range
abbrev pub whole_part : ℕ
whole_part = 1000

-- ---- outcomes: carried out; the value would be out of range; the value is invalid; the fallback was put; a step stopped at the range's end

abbrev pub carried_out : ℕ
carried_out = 0

abbrev pub out_of_range : ℕ
out_of_range = 1

abbrev pub on_invalid : ℕ
on_invalid = 2

abbrev pub fell_back : ℕ
fell_back = 3

abbrev pub stopped : ℕ
stopped = 4

-- ---- qualities: valid, invalid, entered by hand

abbrev pub valid : ℕ
valid = 0

abbrev pub invalid : ℕ
invalid = 1

abbrev pub by_hand : ℕ
by_hand = 2

-- ---- greatest values of the fields with a range

abbrev pub last_point : ℕ
last_point = 63

abbrev pub last_server : ℕ
last_server = 15

abbrev pub last_op : ℕ
last_op = part_op

abbrev pub last_outcome : ℕ
last_outcome = stopped

abbrev pub last_quality : ℕ
last_quality = by_hand

-- the greatest number of 32 bits
abbrev pub last32 : ℕ
last32 = 4294967295

-- ---- counts: points of a plan, clients of a server, completion records of one client and of a server

abbrev pub point_count : ℕ
point_count = suc last_point

abbrev pub client_count : ℕ
client_count = 32

abbrev pub call_window : ℕ
call_window = 16

abbrev pub record_count : ℕ
record_count = client_count * call_window

-- a call is at most this far above its request's done, or above its client's floor
abbrev pub last_in_window : ℕ
last_in_window = call_window - 1

-- leases of a lease manager, and the longest span in seconds
abbrev pub lease_count : ℕ
lease_count = 32

abbrev pub longest_span : ℕ
longest_span = 86400

-- ---- packets: kinds, and bytes by kind; a result and a receipt are also what an output must hold. A result has a second form, with a time; so
-- have executed records, images and checkpoints: `first..` names what the first form has

abbrev pub request_kind : ℕ
request_kind = 1

abbrev pub first_result_kind : ℕ
first_result_kind = 2

abbrev pub refusal_kind : ℕ
refusal_kind = 3

abbrev pub receipt_kind : ℕ
receipt_kind = 4

abbrev pub notice_kind : ℕ
notice_kind = 5

abbrev pub grant_kind : ℕ
grant_kind = 6

abbrev pub result_kind : ℕ
result_kind = 7

abbrev pub request_size : ℕ
request_size = 24

abbrev pub first_result_size : ℕ
first_result_size = 16

abbrev pub result_size : ℕ
result_size = 20

abbrev pub refusal_size : ℕ
refusal_size = 12

abbrev pub receipt_size : ℕ
receipt_size = 8

abbrev pub notice_size : ℕ
notice_size = 12

abbrev pub grant_size : ℕ
grant_size = 12

-- ---- the plan: bytes of an entry, and of all

abbrev pub plan_row : ℕ
plan_row = 16

abbrev pub plan_size : ℕ
plan_size = plan_row * point_count

-- ---- a pair of offset and length

abbrev pub pair_size : ℕ
pair_size = 8

-- ---- the log: bytes of its head, its records' kinds and bytes; a take has 8 and its image

abbrev pub head_size : ℕ
head_size = 8

abbrev pub first_executed_kind : ℕ
first_executed_kind = 1

abbrev pub gone_kind : ℕ
gone_kind = 2

abbrev pub give_kind : ℕ
give_kind = 3

abbrev pub take_kind : ℕ
take_kind = 4

abbrev pub release_kind : ℕ
release_kind = 5

abbrev pub executed_kind : ℕ
executed_kind = 6

abbrev pub first_executed_size : ℕ
first_executed_size = 28

abbrev pub executed_size : ℕ
executed_size = 32

abbrev pub gone_size : ℕ
gone_size = 12

abbrev pub give_size : ℕ
give_size = 8

abbrev pub take_head : ℕ
take_head = 8

abbrev pub release_size : ℕ
release_size = 8

-- ---- images: where the pairs and the parts start, the bytes of the point's, the rows of the two tables, the least and the greatest length

abbrev pub image_pairs : ℕ
image_pairs = 16

abbrev pub parts_start : ℕ
parts_start = image_pairs + pair_size * 3

abbrev pub point_part : ℕ
point_part = 8

abbrev pub floor_row : ℕ
floor_row = 8

abbrev pub first_entry_row : ℕ
first_entry_row = 20

abbrev pub entry_row : ℕ
entry_row = 24

abbrev pub least_image : ℕ
least_image = parts_start + point_part

abbrev pub first_greatest_image : ℕ
first_greatest_image = least_image + floor_row * client_count + first_entry_row * record_count

abbrev pub greatest_image : ℕ
greatest_image = least_image + floor_row * client_count + entry_row * record_count

-- ---- the lent buffer of a server's state

abbrev pub state_size : ℕ
state_size = 32768

-- the end of a log record, in a row of the state
abbrev pub end_size : ℕ
end_size = 8

-- ---- the checkpoint: the lent buffer, where its pairs start, the bytes of its head with them, of a point's and of a completion record's row

abbrev pub checkpoint_size : ℕ
checkpoint_size = 32768

abbrev pub checkpoint_pairs : ℕ
checkpoint_pairs = 12

abbrev pub checkpoint_head : ℕ
checkpoint_head = checkpoint_pairs + pair_size * 4

abbrev pub checkpoint_point : ℕ
checkpoint_point = 16

abbrev pub first_checkpoint_record : ℕ
first_checkpoint_record = 20

abbrev pub checkpoint_record : ℕ
checkpoint_record = 24
