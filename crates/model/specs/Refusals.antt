-- The numbered refusals, each with its meaning: 1 to 19 are the kernel's, 20 the lock chamber controller's, 21 the dispatcher's.
-- Assumes nothing.
use Rattle.std.specs.Prelude.{ℕ, Result, Ok, Err}
use Rattle.model.specs.declared.Refusal.{Refusal}
use Rattle.model.specs.declared.Refusal.TheVariants.{Malformed, TooShort, NotHeld, LeaseOver, UnderFloor, OtherCommand, NotSynced, ClientsFull, LogFull, BadMark, WrongDestination, OldMove, AlreadyHeld, BadLog, WindowFull, NumbersOut, Unknown, LeasesFull, Unsound, NotSafe, AlreadyWaiting}

-- 0: not refused
abbrev pub no_refusal : ℕ
no_refusal = 0

-- 1 malformed, a field outside its range, a bad plan or server number, not a packet of the kind asked for
abbrev pub malformed : ℕ
malformed = 1

-- 2 a lent slice is too short
abbrev pub too_short : ℕ
too_short = 2

-- 3 the point is not held (request, give); not given, or released (image, release); never taken (receipt)
abbrev pub not_held : ℕ
not_held = 3

-- 4 the request's lease end is not above heard time. The command may have been carried out
abbrev pub lease_over : ℕ
lease_over = 4

-- 5 the call is under the client's floor
abbrev pub under_floor : ℕ
under_floor = 5

-- 6 the id is held with another op, point or argument
abbrev pub other_command : ℕ
other_command = 6

-- 7 what is asked for is not synced; a checkpoint is asked for, and a log record is not synced
abbrev pub not_synced : ℕ
not_synced = 7

-- 8 no place for another client; of a dispatcher: 32 requests wait
abbrev pub clients_full : ℕ
clients_full = 8

-- 9 the log lacks space for the record
abbrev pub log_full : ℕ
log_full = 9

-- 10 the mark lies below the present one or above the log's length
abbrev pub bad_mark : ℕ
bad_mark = 10

-- 11 the destination is this server (give), or is not (take)
abbrev pub wrong_destination : ℕ
wrong_destination = 11

-- 12 the move number is not above the own one (take), or is below the given one (release)
abbrev pub old_move : ℕ
old_move = 12

-- 13 the point is held here, or an id is held for another point
abbrev pub already_held : ℕ
already_held = 13

-- 14 a log or a checkpoint breaks its layout, a record cannot follow the state, a checkpoint's state is not sound, or checkpoint and tail are of
-- different servers
abbrev pub bad_log : ℕ
bad_log = 14

-- 15 too many calls since the first open one
abbrev pub window_full : ℕ
window_full = 15

-- 16 a number would pass its greatest
abbrev pub numbers_out : ℕ
numbers_out = 16

-- 17 not known: no such record, client, open call or lease; of a dispatcher: nobody waits
abbrev pub unknown : ℕ
unknown = 17

-- 18 no place for another lease
abbrev pub leases_full : ℕ
leases_full = 18

-- 19 the state is not sound, or the log slice is shorter than its recorded length
abbrev pub unsound : ℕ
unsound = 19

-- 20 a gate must not be opened: the reads that this needs are missing, or do not allow it (lock chamber controller)
abbrev pub not_safe : ℕ
not_safe = 20

-- 21 a request of this client waits already (dispatcher)
abbrev pub already_waiting : ℕ
already_waiting = 21

-- the refusals that make a packet
abbrev pub first_denied : ℕ
first_denied = not_held

abbrev pub last_denied : ℕ
last_denied = log_full

-- a refusal's number
abbrev pub number_of : Refusal → ℕ
number_of Malformed = malformed
number_of TooShort = too_short
number_of NotHeld = not_held
number_of LeaseOver = lease_over
number_of UnderFloor = under_floor
number_of OtherCommand = other_command
number_of NotSynced = not_synced
number_of ClientsFull = clients_full
number_of LogFull = log_full
number_of BadMark = bad_mark
number_of WrongDestination = wrong_destination
number_of OldMove = old_move
number_of AlreadyHeld = already_held
number_of BadLog = bad_log
number_of WindowFull = window_full
number_of NumbersOut = numbers_out
number_of Unknown = unknown
number_of LeasesFull = leases_full
number_of Unsound = unsound
number_of NotSafe = not_safe
number_of AlreadyWaiting = already_waiting

-- the number of what tests came to: 0 where they are passed
abbrev pub refusal_of : {A : Type 0} → Result A Refusal → ℕ
refusal_of (Ok x) = no_refusal
refusal_of (Err e) = number_of e
