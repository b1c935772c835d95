-- Logs, with the first walk's answer and recovery's: both look for the same ends, and recovery alone reads what stands between them.
-- Assumes nothing.
use Rattle.std.specs.Prelude.{ℕ, Bool, true, false, List, [], ◌∷◌, ◌++◌, replicate, take}
use Rattle.std.proofs.Math.Option.{Option, none, some}
use Rattle.model.specs.Numbers.{half, le32, quad}
use Rattle.model.specs.Limits.{point_count, set_op, carried_out, valid, give_kind, take_kind, least_image, greatest_image}
use Rattle.model.specs.Logs.{head_bytes, executed_bytes, whole_end}
use Rattle.model.specs.States.{State}
use Rattle.model.specs.Operations.{recovered_state}
use Rattle.model_cases.specs.Table.{entry}

-- the log of server 0, its head aside; what the first walk gives; whether it is recovered
pub record WalkCase : Type 0 where
  pub records : List ℕ
  pub end : Option ℕ
  pub whole : Bool

unfoldable pub is_some : Option State → Bool
is_some none = false
is_some (some st) = true

-- a case again, with what the two give
unfoldable pub walked_again : WalkCase → WalkCase
walked_again c =
    let log = head_bytes 0 ++ c.records in
    record { records = c.records; end = whole_end log; whole = is_some (recovered_state (replicate point_count entry) log) }

abbrev pub walked : List ℕ → ℕ → Bool → WalkCase
walked s k b = record { records = s; end = some k; whole = b }

abbrev pub refused : List ℕ → WalkCase
refused s = record { records = s; end = none; whole = false }

-- client 1 commands 0 on point 0, in a form, by call and op
abbrev pub setting : Bool → ℕ → ℕ → List ℕ
setting timed call op =
    executed_bytes (
    record {
      command = record { client = 1; call = call; op = op; point = 0; argument = half };
      done = 1;
      result = record { outcome = carried_out; value = half; quality = valid; time = 5 };
      timed = timed;
    })

-- the first bytes of a take
abbrev pub taking : ℕ → List ℕ
taking n = quad take_kind 0 0 0 ++ le32 n

abbrev pub giving : List ℕ
giving = quad give_kind 0 1 0 ++ le32 1

unfoldable pub walks : List WalkCase
walks =
    walked [] 8 true  -- a head alone
    ∷ walked (setting true 1 set_op ++ take 31 (setting true 2 set_op)) 40 true  -- an incomplete last record is dropped
    ∷ walked (setting false 1 set_op ++ take 27 (setting false 2 set_op)) 36 true  -- in the first form too
    ∷ walked (setting true 1 set_op ++ giving) 48 true  -- to the end of the last record
    ∷ walked (setting false 1 set_op ++ (setting true 2 set_op ++ giving)) 76 true  -- a record of the first form, and one of the second behind it
    ∷ walked (setting true 1 set_op ++ (setting false 2 set_op ++ giving)) 76 true  -- the other way round
    ∷ walked (setting true 1 9 ++ giving) 48 false  -- bad in content: the first walk does not see it
    ∷ walked (setting false 1 9 ++ giving) 44 false
    ∷ refused (setting true 1 9 ++ (7 ∷ []))  -- and behind it a bad kind
    ∷ refused (setting true 1 set_op ++ (0 ∷ []))  -- kind 0
    ∷ walked (6 ∷ []) 8 true  -- kind 6, incomplete
    ∷ refused (7 ∷ [])  -- kind 7
    ∷ walked (take 7 (taking 47)) 8 true  -- a take whose length is not all there
    ∷ refused (taking 47)  -- bad length, image not there
    ∷ walked (taking least_image) 8 true  -- the least length, image not there
    ∷ walked (taking greatest_image) 8 true  -- the greatest
    ∷ refused (taking 12593)
    ∷ []
