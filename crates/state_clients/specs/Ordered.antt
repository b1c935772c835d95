-- Where a client stands among floors, or would; and floors with rows moved.
-- Assumes nothing.
use Rattle.std.specs.Prelude.{ℕ, zero, suc, max, ◌≡◌, Bool, ◌&&◌, not, List, [], ◌∷◌, ◌++◌, length, get_or, set, take, drop, eqb, ltb, Result, Ok, Err}
use Rattle.model.specs.declared.Floor.{Floor}
use Rattle.model.specs.Choice.{pick}
use Rattle.model.specs.Limits.{least_image, floor_row}
use Rattle.model.specs.Tables.{rows, keep, index_of}
use Rattle.model.specs.Images.{floor_of_bytes}
use Rattle.model.specs.States.{load}
use Rattle.model.specs.Apply.{merge_floors, is_not_client}
use Rattle.model.specs.Operations.{stored}
use Rattle.model_laws.specs.Layout.{with_floors}
use Rattle.state_clients.specs.Places.{no_floor}

-- the index of the first client that is not below x, the number of clients where there is none
unfoldable pub ordered_place : ℕ → List Floor → ℕ
ordered_place x fs = index_of (λ f. not (ltb f.client x)) fs

-- the client of index i is x
unfoldable pub is_at : ℕ → ℕ → List Floor → Bool
is_at x i fs = ltb i (length fs) && eqb (get_or fs i no_floor).client x

-- where the client x stands, or would
unfoldable pub placed : ℕ → List Floor → Result ℕ ℕ
placed x fs = let i = ordered_place x fs in pick (is_at x i fs) (Ok i) (Err i)

-- the client x stands in its place
unfoldable pub is_known : ℕ → List Floor → Bool
is_known x fs = is_at x (ordered_place x fs) fs

-- the floors with f as the row of index i, those from i on behind it
unfoldable pub inserted : ℕ → Floor → List Floor → List Floor
inserted zero f fs = f ∷ fs
inserted (suc i) f [] = f ∷ []
inserted (suc i) f (g ∷ fs) = g ∷ inserted i f fs

-- of n + 1 rows, those from i on moved up by one, over the last
unfoldable pub moved_up : ℕ → ℕ → List Floor → List Floor
moved_up i n fs = inserted i (get_or fs i no_floor) (take n fs)

-- those that a test keeps moved to the front, over what stood there
unfoldable pub packed : (Floor → Bool) → List Floor → List Floor
packed t fs = keep t fs ++ drop (length (keep t fs)) fs

-- the floors with the client x at index i, its floor the greater of the one there and n
unfoldable pub raised_at : ℕ → ℕ → ℕ → List Floor → List Floor
raised_at i x n fs = set fs i (record { client = x; floor = max (get_or fs i no_floor).floor n })

-- the rows of all clients but x moved to the front of the table of s, which left t; n of them
abbrev pub PackedBut : ℕ → List ℕ → List ℕ → ℕ → Type 0
PackedBut x s t n =
    (n ≡ length (keep (is_not_client x) (load s).floors)) × (t ≡ stored s (with_floors (packed (is_not_client x) (load s).floors) (load s)))

-- the clients of s with the n floors of an image merged
abbrev pub merged_by : List ℕ → ℕ → List ℕ → List Floor
merged_by image n s = merge_floors (rows floor_of_bytes floor_row n (drop least_image image)) (load s).floors
