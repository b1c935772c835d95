-- The world of records runs. Each of these schedules comes out otherwise if a part of the world is left out (must-fail/).
--     lost-seen, moved-seen
-- Assumes nothing.
use Prim.Native.Nat.{ℕ}
use mathlib.Core.Path.{◌≡◌, refl}
use mathlib.Core.List.{List, [], ◌∷◌}
use Rattle.claim.proofs.Opened.{open_record_world}
use Rattle.claim.specs.Samples.{lost, moved, records_of, seen_from, seen}

-- what is seen of server 0 along `lost`
abbrev lost_rows : List (List ℕ)
lost_rows =
    (8 ∷ 8 ∷ 0 ∷ 0 ∷ [])
    ∷ (8 ∷ 8 ∷ 0 ∷ 1 ∷ [])
    ∷ (8 ∷ 8 ∷ 0 ∷ 1 ∷ [])
    ∷ (8 ∷ 8 ∷ 0 ∷ 2 ∷ [])
    ∷ (40 ∷ 8 ∷ 1 ∷ 2 ∷ [])
    ∷ (40 ∷ 8 ∷ 1 ∷ 3 ∷ [])
    ∷ (39 ∷ 8 ∷ 0 ∷ 3 ∷ [])
    ∷ (8 ∷ 8 ∷ 0 ∷ 3 ∷ [])
    ∷ (40 ∷ 8 ∷ 1 ∷ 3 ∷ [])
    ∷ (40 ∷ 8 ∷ 1 ∷ 3 ∷ [])
    ∷ (40 ∷ 40 ∷ 1 ∷ 3 ∷ [])
    ∷ (40 ∷ 40 ∷ 1 ∷ 4 ∷ [])
    ∷ (40 ∷ 40 ∷ 1 ∷ 4 ∷ [])
    ∷ (40 ∷ 40 ∷ 1 ∷ 5 ∷ [])
    ∷ (40 ∷ 40 ∷ 1 ∷ 5 ∷ [])
    ∷ (40 ∷ 40 ∷ 1 ∷ 6 ∷ [])
    ∷ (72 ∷ 40 ∷ 2 ∷ 6 ∷ [])
    ∷ []

-- of servers 0 and 1 along `moved`
abbrev giver_rows : List (List ℕ)
giver_rows =
    (8 ∷ 8 ∷ 0 ∷ 0 ∷ [])
    ∷ (8 ∷ 8 ∷ 0 ∷ 0 ∷ [])
    ∷ (8 ∷ 8 ∷ 0 ∷ 1 ∷ [])
    ∷ (8 ∷ 8 ∷ 0 ∷ 1 ∷ [])
    ∷ (8 ∷ 8 ∷ 0 ∷ 2 ∷ [])
    ∷ (40 ∷ 8 ∷ 1 ∷ 2 ∷ [])
    ∷ (48 ∷ 8 ∷ 2 ∷ 2 ∷ [])
    ∷ (48 ∷ 48 ∷ 2 ∷ 2 ∷ [])
    ∷ (48 ∷ 48 ∷ 2 ∷ 3 ∷ [])
    ∷ (48 ∷ 48 ∷ 2 ∷ 3 ∷ [])
    ∷ (48 ∷ 48 ∷ 2 ∷ 3 ∷ [])
    ∷ (48 ∷ 48 ∷ 2 ∷ 4 ∷ [])
    ∷ (48 ∷ 48 ∷ 2 ∷ 4 ∷ [])
    ∷ (48 ∷ 48 ∷ 2 ∷ 5 ∷ [])
    ∷ (48 ∷ 48 ∷ 2 ∷ 6 ∷ [])
    ∷ (56 ∷ 48 ∷ 3 ∷ 6 ∷ [])
    ∷ []

abbrev taker_rows : List (List ℕ)
taker_rows =
    (0 ∷ 0 ∷ 0 ∷ 0 ∷ [])
    ∷ (8 ∷ 8 ∷ 0 ∷ 0 ∷ [])
    ∷ (8 ∷ 8 ∷ 0 ∷ 1 ∷ [])
    ∷ (8 ∷ 8 ∷ 0 ∷ 1 ∷ [])
    ∷ (8 ∷ 8 ∷ 0 ∷ 2 ∷ [])
    ∷ (8 ∷ 8 ∷ 0 ∷ 2 ∷ [])
    ∷ (8 ∷ 8 ∷ 0 ∷ 2 ∷ [])
    ∷ (8 ∷ 8 ∷ 0 ∷ 2 ∷ [])
    ∷ (8 ∷ 8 ∷ 0 ∷ 3 ∷ [])
    ∷ (96 ∷ 8 ∷ 1 ∷ 3 ∷ [])
    ∷ (96 ∷ 8 ∷ 1 ∷ 3 ∷ [])
    ∷ (96 ∷ 8 ∷ 1 ∷ 4 ∷ [])
    ∷ (96 ∷ 96 ∷ 1 ∷ 4 ∷ [])
    ∷ (96 ∷ 96 ∷ 1 ∷ 5 ∷ [])
    ∷ (96 ∷ 96 ∷ 1 ∷ 6 ∷ [])
    ∷ (96 ∷ 96 ∷ 1 ∷ 6 ∷ [])
    ∷ []

pub lost-seen : seen 0 lost ≡ lost_rows
unfolding open_record_world lost records_of seen_from seen
lost-seen = refl

pub moved-seen : (seen 0 moved ≡ giver_rows) × (seen 1 moved ≡ taker_rows)
unfolding open_record_world moved records_of seen_from seen
moved-seen = (refl, refl)
