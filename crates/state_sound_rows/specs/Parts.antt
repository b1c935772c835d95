-- Parts of the rule of soundness that have a function of their own.
-- Assumes nothing.
use Rattle.std.specs.Prelude.{ℕ, suc, ◌*◌, Bool, ◌&&◌, not, List, eqb, leb, ltb}
use Rattle.model.specs.declared.PlanEntry.{PlanEntry}
use Rattle.model.specs.declared.Point.{Point}
use Rattle.model.specs.Choice.{pick}
use Rattle.model.specs.Numbers.{byte_at, le32_at, zeros3_at, starts_with}
use Rattle.model.specs.Tables.{rows, every_row}
use Rattle.model.specs.Plan.{plan_entry_of, plan_row_ok, in_range}
use Rattle.model.specs.States.{clients_in, records_in, state_magic, absent, held, released_status, point_row, point_of, ends_in_order, not_given, absent_ok, point_ok, points_ok, point_row_ok}
use Rattle.model.specs.Limits.{client_count, record_count, head_size, last_quality, last_server, plan_row, point_count}

-- the magic, the zero bytes and the counts of the head
unfoldable pub head_framed : List ℕ → Bool
head_framed s =
    starts_with s state_magic && (zeros3_at s 5 && (eqb (le32_at s 20) 0 && (leb (clients_in s) client_count && leb (records_in s) record_count)))

-- ---- a point: the tests of its ends stand with those that its status asks for

-- an end of a log record, or a place before this log; not 0
abbrev pub is_end : ℕ → ℕ → Bool
is_end size end = leb head_size end && leb end size

-- the latest move of a point that is held
unfoldable pub held_move : Point → Bool
held_move x = eqb x.move_number x.taken_move && not_given x

-- of one that was given
unfoldable pub given_move : ℕ → ℕ → Point → Bool
given_move server size x =
    eqb x.move_number (suc x.taken_move) && (not (eqb x.destination server) && (ends_in_order x.take_end x.give_end && is_end size x.give_end))

unfoldable pub origin : ℕ → ℕ → PlanEntry → Point → Bool
origin server size e x = pick (eqb x.taken_move 0) (eqb x.take_end 0 && eqb e.home server) (is_end size x.take_end)

unfoldable pub status_and_ends : ℕ → ℕ → PlanEntry → Point → Bool
status_and_ends server size e x =
    pick (eqb x.status absent) (absent_ok server e x) (pick (eqb x.status held) (held_move x) (given_move server size x) && origin server size e x)

-- the fields that are tested alone
unfoldable pub fields_in : PlanEntry → Point → Bool
fields_in e x = leb x.status released_status && (leb x.quality last_quality && (leb x.destination last_server && in_range e x.value))

-- the first four bytes of a held point are a number below this: behind the status comes a quality, destination and zero byte are 0
abbrev pub held_heads : ℕ
held_heads = 256 * suc last_quality

-- a row begins as that of a held point
unfoldable pub held_head : List ℕ → Bool
held_head q = ltb (le32_at q 0) held_heads && eqb (byte_at q 0) held

-- the latest move of a held point whose destination is 0
unfoldable pub still_held : Point → Bool
still_held x = eqb x.move_number x.taken_move && eqb x.give_end 0

-- what is left to test of a point that begins so
unfoldable pub held_rest : ℕ → ℕ → PlanEntry → Point → Bool
held_rest server size e x = (in_range e x.value && still_held x) && origin server size e x

-- ---- the rows of plan and points

unfoldable pub row_ok : ℕ → ℕ → List ℕ → List ℕ → Bool
row_ok server size p q = plan_row_ok p && (point_row_ok q && point_ok server size (plan_entry_of p) (point_of q))

-- the plan at the front of p, the points at the front of q
unfoldable pub rows_ok : ℕ → ℕ → List ℕ → List ℕ → Bool
rows_ok server size p q =
    every_row plan_row_ok plan_row point_count p
    && (every_row point_row_ok point_row point_count q
    && points_ok server size (rows plan_entry_of plan_row point_count p) (rows point_of point_row point_count q))
