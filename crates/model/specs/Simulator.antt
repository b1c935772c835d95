-- The simulator (paper: the yard): servers 0 and 1, clients 1 and 2 at desks 0 and 1 with lease end 1000, each point −100 to 1000,
-- fallback 0, home 0, logs of 16,384 bytes. It runs up to 60 lines. One numbering from 1 for packets and images, in the order
-- made.
-- Assumes nothing.
use Rattle.std.specs.Prelude.{ℕ, zero, suc, ◌+◌, ◌-◌, ◌*◌, ◌/◌, ◌%◌, Bool, true, false, ◌&&◌, ◌||◌, List, [], ◌∷◌, ◌++◌, length, take, replicate, eqb, leb, ltb}
use Rattle.std.proofs.Math.Option.{Option, none, some}
use Rattle.std.proofs.Math.ListN.{get_elem?}
use Rattle.model.specs.declared.Client.{Client}
use Rattle.model.specs.declared.SendAnswer.{SendAnswer}
use Rattle.model.specs.declared.ReceiveAnswer.{ReceiveAnswer}
use Rattle.model.specs.Choice.{pick}
use Rattle.model.specs.Numbers.{half, byte_at}
use Rattle.model.specs.Refusals.{malformed, bad_mark, unknown, no_refusal}
use Rattle.model.specs.Limits.{last32, request_kind, receipt_kind, state_size, result_size, receipt_size, greatest_image, point_count, call_window}
use Rattle.model.specs.Plan.{plan_bytes}
use Rattle.model.specs.Images.{image_magic}
use Rattle.model.specs.States.{load}
use Rattle.model.specs.Versions.{today}
use Rattle.model.specs.Operations.{After, found_of, request_of, sync_of, give_of, image_of, take_of, receipt_of, release_of, recover_of}
use Rattle.model.specs.Clients.{issue_of, resend_of, receive_of, send_number, receive_number, brought, sent_bytes, no_call}
use Rattle.model.specs.Letters.{space, line_feed, minus, first_digit, last_digit, issue_letter, resend_letter, deliver_letter, receive_letter, sync_letter, cut_letter, give_letter, image_letter, receipt_letter, most_digits}

-- lines read at the most, and the bytes of a log
abbrev pub most_lines : ℕ
most_lines = 60

abbrev pub simulator_log : ℕ
simulator_log = 16384

-- ---- lines

pub data Line : Type 0 where
  unreadable : Line
  issue : ℕ → ℕ → ℕ → ℕ → Line  -- i desk op point arg
  resend : ℕ → ℕ → Line  -- s desk call
  deliver : ℕ → ℕ → Line  -- d packet server
  receive : ℕ → ℕ → Line  -- r packet desk
  sync : ℕ → Line  -- y server
  cut : ℕ → ℕ → Line  -- k server bytes
  give : ℕ → ℕ → ℕ → Line  -- g server point destination
  image : ℕ → ℕ → Line  -- x server point
  receipt : ℕ → ℕ → Line  -- f server point

-- what a line answers: number or 0, packet made or 0, value received by a desk (as x + 2 ^ 31) or 0
pub record Reply : Type 0 where
  pub number : ℕ
  pub made : ℕ
  pub value : ℕ

abbrev pub answered : ℕ → ℕ → ℕ → Reply
answered n p v = record { number = n; made = p; value = v }

-- a refusal, or 0 with nothing made
abbrev pub plain : ℕ → Reply
plain n = answered n 0 half

-- ---- the world of the simulator

pub record Server : Type 0 where
  pub state : List ℕ
  pub log : List ℕ

pub record Simulator : Type 0 where
  pub server0 : Server
  pub server1 : Server
  pub client0 : Client
  pub client1 : Client
  pub packets : List (List ℕ)

pub record Step : Type 0 where
  pub simulator : Simulator
  pub reply : Reply

abbrev pub step : Simulator → Reply → Step
step y r = record { simulator = y; reply = r }

unfoldable pub simulator_plan : List ℕ
simulator_plan = plan_bytes (replicate point_count (record { low = half - 100; high = half + 1000; fallback = half; home = 0 }))

unfoldable pub simulator_server : ℕ → Server
simulator_server n =
    let a = found_of (replicate state_size 0) (replicate simulator_log 0) simulator_plan n in
    record { state = a.state; log = a.log }

unfoldable pub simulator_client : ℕ → Client
simulator_client n = record { client = n; lease = 1000; next = 1; calls = replicate call_window no_call }

unfoldable pub new_simulator : Simulator
new_simulator =
    record { server0 = simulator_server 0; server1 = simulator_server 1; client0 = simulator_client 1; client1 = simulator_client 2; packets = [] }

unfoldable pub server_of : Simulator → ℕ → Server
server_of y n = pick (eqb n 0) y.server0 y.server1

unfoldable pub client_of : Simulator → ℕ → Client
client_of y n = pick (eqb n 0) y.client0 y.client1

unfoldable pub with_server : Simulator → ℕ → Server → Simulator
with_server y n s =
    record {
      server0 = pick (eqb n 0) s y.server0;
      server1 = pick (eqb n 0) y.server1 s;
      client0 = y.client0;
      client1 = y.client1;
      packets = y.packets;
    }

unfoldable pub with_client : Simulator → ℕ → Client → Simulator
with_client y n d =
    record {
      server0 = y.server0;
      server1 = y.server1;
      client0 = pick (eqb n 0) d y.client0;
      client1 = pick (eqb n 0) y.client1 d;
      packets = y.packets;
    }

unfoldable pub with_packet : Simulator → List ℕ → Simulator
with_packet y b =
    record {
      server0 = y.server0;
      server1 = y.server1;
      client0 = y.client0;
      client1 = y.client1;
      packets = y.packets ++ (b ∷ []);
    }

-- ---- a line's work

-- a server's call: its slices, its number, and the packet that it wrote
unfoldable pub called : Simulator → ℕ → After → Step
called y n a =
    let z = with_server y n (record { state = a.state; log = a.log }) in
    pick (eqb a.answer.wrote 0) (step z (plain a.answer.refusal))
    (step (with_packet z (take a.answer.wrote a.out)) (answered a.answer.refusal (suc (length y.packets)) half))

unfoldable pub room : ℕ → List ℕ
room n = replicate n 0

-- delivery is request, take or release by kind
unfoldable pub delivered : Server → List ℕ → Option After
delivered s b =
    pick (eqb (byte_at b 0) request_kind) (some (request_of today s.state s.log b (room result_size)))
    (pick (eqb (byte_at b 0) receipt_kind) (some (release_of s.state s.log b))
    (pick (eqb (byte_at b 0) (byte_at image_magic 0)) (some (take_of s.state s.log b)) none))

unfoldable pub deliver_to : Simulator → ℕ → Option After → Step
deliver_to y n none = step y (plain malformed)
deliver_to y n (some a) = called y n a

-- cut, recover; 10 outside mark to length
unfoldable pub cut_at : Server → ℕ → After
cut_at s k = recover_of s.state (take k s.log) simulator_plan

unfoldable pub cut_server : Simulator → ℕ → ℕ → Step
cut_server y n k =
    let s = server_of y n in
    let a = cut_at s k in
    pick (ltb k (load s.state).mark || ltb (load s.state).size k) (step y (plain bad_mark))
    (step (with_server y n (record { state = a.state; log = s.log })) (plain a.answer.refusal))

unfoldable pub issued : Simulator → ℕ → SendAnswer → Step
issued y n a =
    let z = with_client y n a.client in
    pick (eqb (send_number a.answer) no_refusal) (step (with_packet z (sent_bytes a.answer)) (answered no_refusal (suc (length y.packets)) half))
    (step z (plain (send_number a.answer)))

unfoldable pub received_at : Simulator → ℕ → ReceiveAnswer → Step
received_at y n a = step (with_client y n a.client) (answered (receive_number a.answer) 0 (brought a.answer).result.value)

unfoldable pub deliver_at : Simulator → ℕ → Option (List ℕ) → Step
deliver_at y n none = step y (plain unknown)
deliver_at y n (some b) = deliver_to y n (delivered (server_of y n) b)

unfoldable pub receive_at : Simulator → ℕ → Option (List ℕ) → Step
receive_at y n none = step y (plain unknown)
receive_at y n (some b) = received_at y n (receive_of (client_of y n) b)

-- packet k, none for 0 and for one not made
unfoldable pub packet_at : Simulator → ℕ → Option (List ℕ)
packet_at y zero = none
packet_at y (suc k) = get_elem? y.packets k

-- desks and servers are 0 and 1; else 1
unfoldable pub known : ℕ → Simulator → Step → Step
known n y s = elim (ltb n 2) [ true ↦ s | false ↦ step y (plain malformed) ]

unfoldable pub ran : Simulator → Line → Step
ran y unreadable = step y (plain malformed)
ran y (issue n op p a) = known n y (issued y n (issue_of (client_of y n) op p a))
ran y (resend n c) = known n y (issued y n (resend_of (client_of y n) c))
ran y (deliver k n) = known n y (deliver_at y n (packet_at y k))
ran y (receive k n) = known n y (receive_at y n (packet_at y k))
ran y (sync n) = known n y (called y n (sync_of (server_of y n).state (server_of y n).log (load (server_of y n).state).size))
ran y (cut n k) = known n y (cut_server y n k)
ran y (give n p d) = known n y (called y n (give_of (server_of y n).state (server_of y n).log p d))
ran y (image n p) = known n y (called y n (image_of today (server_of y n).state (server_of y n).log p (room greatest_image)))
ran y (receipt n p) = known n y (called y n (receipt_of (server_of y n).state (server_of y n).log p (room receipt_size)))

unfoldable pub run_lines : Simulator → List Line → List Reply
run_lines y [] = []
run_lines y (l ∷ ls) = let s = ran y l in s.reply ∷ run_lines s.simulator ls

-- ---- text: fields with one space between, decimal digits, '-' only before the argument of `i`; a number that does not fit its 32
-- bits is unreadable

unfoldable pub is_digit : ℕ → Bool
is_digit b = leb first_digit b && leb b last_digit

-- the number of a run of digits, none where a byte is no digit
unfoldable pub digits_from : ℕ → List ℕ → Option ℕ
digits_from n [] = some n
digits_from n (b ∷ s) = pick (is_digit b) (digits_from (10 * n + (b - first_digit)) s) none

unfoldable pub at_most : ℕ → Option ℕ → Option ℕ
at_most m none = none
at_most m (some n) = pick (leb n m) (some n) none

unfoldable pub number_in : List ℕ → Option ℕ
number_in [] = none
number_in (b ∷ s) = at_most last32 (digits_from 0 (b ∷ s))

unfoldable pub negative : Option ℕ → Option ℕ
negative none = none
negative (some n) = pick (leb n half) (some (half - n)) none

unfoldable pub positive : Option ℕ → Option ℕ
positive none = none
positive (some n) = pick (ltb n half) (some (half + n)) none

-- a signed number, as x + 2 ^ 31
unfoldable pub argument_in : List ℕ → Option ℕ
argument_in [] = none
argument_in (b ∷ s) = pick (eqb b minus) (negative (number_in s)) (positive (number_in (b ∷ s)))

-- the fields of a line
unfoldable pub fields_from : List ℕ → List ℕ → List (List ℕ)
fields_from f [] = f ∷ []
fields_from f (b ∷ s) = pick (eqb b space) (f ∷ fields_from [] s) (fields_from (f ++ (b ∷ [])) s)

-- the letter of a line's first field, 0 where it is not one byte
unfoldable pub letter_in : List ℕ → ℕ
letter_in [] = 0
letter_in (b ∷ s) = pick (eqb (length s) 0) b 0

-- the lines of two numbers, by letter
unfoldable pub letter_line : ℕ → ℕ → ℕ → Line
letter_line c a b =
    pick (eqb c resend_letter) (resend a b)
    (pick (eqb c deliver_letter) (deliver a b)
    (pick (eqb c receive_letter) (receive a b)
    (pick (eqb c cut_letter) (cut a b)
    (pick (eqb c image_letter) (image a b)
    (pick (eqb c receipt_letter) (receipt a b) unreadable)))))

-- the line of a letter and the numbers behind it
unfoldable pub line_by : ℕ → List ℕ → Line
line_by c [] = unreadable
line_by c (a ∷ []) = pick (eqb c sync_letter) (sync a) unreadable
line_by c (a ∷ b ∷ []) = letter_line c a b
line_by c (a ∷ b ∷ d ∷ []) = pick (eqb c give_letter) (give a b d) unreadable
line_by c (a ∷ b ∷ d ∷ e ∷ []) = pick (eqb c issue_letter) (issue a b d e) unreadable
line_by c (a ∷ b ∷ d ∷ e ∷ f ∷ ns) = unreadable

-- field k of those behind the letter, from 0: three numbers, and an argument behind them
unfoldable pub field_in : ℕ → List ℕ → Option ℕ
field_in k s = pick (ltb k 3) (number_in s) (pick (eqb k 3) (argument_in s) none)

unfoldable pub and_then : Option ℕ → Option (List ℕ) → Option (List ℕ)
and_then none ns = none
and_then (some n) none = none
and_then (some n) (some ns) = some (n ∷ ns)

-- the numbers of the fields from k on, none where one cannot be read
unfoldable pub numbers_from : ℕ → List (List ℕ) → Option (List ℕ)
numbers_from k [] = some []
numbers_from k (s ∷ fs) = and_then (field_in k s) (numbers_from (suc k) fs)

unfoldable pub line_with : ℕ → Option (List ℕ) → Line
line_with c none = unreadable
line_with c (some ns) = line_by c ns

unfoldable pub line_of_fields : List (List ℕ) → Line
line_of_fields [] = unreadable
line_of_fields (c ∷ fs) = line_with (letter_in c) (numbers_from 0 fs)

unfoldable pub line_of : List ℕ → Line
line_of s = line_of_fields (fields_from [] s)

-- the lines of a text; a last line without a line feed counts
unfoldable pub end_line : List ℕ → List Line
end_line [] = []
end_line (b ∷ s) = line_of (b ∷ s) ∷ []

unfoldable pub lines_from : List ℕ → List ℕ → List Line
lines_from f [] = end_line f
lines_from f (b ∷ s) = pick (eqb b line_feed) (line_of f ∷ lines_from [] s) (lines_from (f ++ (b ∷ [])) s)

-- up to 60 lines; later ones are not read
unfoldable pub lines_of : List ℕ → List Line
lines_of s = take most_lines (lines_from [] s)

-- a number's decimal digits; a number of 32 bits has at most 10
unfoldable pub digits_of : ℕ → ℕ → List ℕ
digits_of zero n = []
digits_of (suc k) n = pick (ltb n 10) ((first_digit + n) ∷ []) (digits_of k (n / 10) ++ ((first_digit + n % 10) ∷ []))

unfoldable pub shown : ℕ → List ℕ
shown n = digits_of most_digits n

unfoldable pub shown_signed : ℕ → List ℕ
shown_signed x = pick (ltb x half) (minus ∷ shown (half - x)) (shown (x - half))

-- line, number, packet made, value received
unfoldable pub reply_text : ℕ → Reply → List ℕ
reply_text k r = shown k ++ (space ∷ (shown r.number ++ (space ∷ (shown r.made ++ (space ∷ (shown_signed r.value ++ (line_feed ∷ [])))))))

unfoldable pub replies_text : ℕ → List Reply → List ℕ
replies_text k [] = []
replies_text k (r ∷ rs) = reply_text k r ++ replies_text (suc k) rs

-- a schedule in, answers out
unfoldable pub answers_of : List ℕ → List ℕ
answers_of s = replies_text 1 (run_lines new_simulator (lines_of s))
