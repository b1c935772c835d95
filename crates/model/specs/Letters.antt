-- The bytes of a schedule's text, and the lengths of what is written, each once. The code (crates/simulator_text/src) has the bytes as b'i',
-- b'0' ..
-- Assumes nothing.
use Rattle.std.specs.Prelude.{ℕ, ◌+◌, ◌*◌}

-- ---- between fields and lines, before a negative argument

abbrev pub space : ℕ
space = 32

abbrev pub line_feed : ℕ
line_feed = 10

abbrev pub minus : ℕ
minus = 45

-- ---- digits

abbrev pub first_digit : ℕ
first_digit = 48

abbrev pub last_digit : ℕ
last_digit = 57

-- ---- the letter of a line

abbrev pub issue_letter : ℕ
issue_letter = 105

abbrev pub resend_letter : ℕ
resend_letter = 115

abbrev pub deliver_letter : ℕ
deliver_letter = 100

abbrev pub receive_letter : ℕ
receive_letter = 114

abbrev pub sync_letter : ℕ
sync_letter = 121

abbrev pub cut_letter : ℕ
cut_letter = 107

abbrev pub give_letter : ℕ
give_letter = 103

abbrev pub image_letter : ℕ
image_letter = 120

abbrev pub receipt_letter : ℕ
receipt_letter = 102

-- ---- bytes at the most: a number of 32 bits, a signed one, a number and the byte behind it, an answer (three numbers with a space each, a
-- signed one, a line feed)

abbrev pub most_digits : ℕ
most_digits = 10

abbrev pub signed_room : ℕ
signed_room = 1 + most_digits

abbrev pub field_room : ℕ
field_room = most_digits + 1

abbrev pub reply_room : ℕ
reply_room = 3 * field_room + signed_room + 1
