-- A point's completion records by slot: the order of slots is that of an image.
-- Assumes nothing.
use Rattle.std.specs.Prelude.{ℕ, suc, ◌-◌, ◌≡◌, true, List, [], ◌∷◌, length, get_or, set, replicate, eqb}
use Rattle.model.specs.declared.Floor.{Floor}
use Rattle.model.specs.declared.Completion.{Completion}
use Rattle.model.specs.declared.ImageEntry.{ImageEntry}
use Rattle.model.specs.Choice.{pick}
use Rattle.model.specs.Limits.{record_count}
use Rattle.model.specs.Tables.{bytes_of, written}
use Rattle.model.specs.Images.{image_entry_bytes}
use Rattle.model.specs.States.{State, load}
use Rattle.model.specs.Versions.{today}
use Rattle.model.specs.Decisions.{is_on_point, entry_of_record, image_for}
use Rattle.state_clients.specs.Places.{slot_of}

-- what a lookup past the records' end gives
abbrev pub no_record : Completion
no_record =
    record {
      command = record { client = 0; call = 0; op = 0; point = 0; argument = 0 };
      result = record { outcome = 0; value = 0; quality = 0; time = 0 };
      end = 0;
    }

-- 512 slots; at the slot of each record on the point p its index and 1. The first of the records has the index i
unfoldable pub slots_from : ℕ → List Floor → ℕ → List Completion → List ℕ
slots_from p fs i [] = replicate record_count 0
slots_from p fs i (r ∷ rs) =
    pick (is_on_point p r) (set (slots_from p fs (suc i) rs) (slot_of fs r.command.client r.command.call) (suc i)) (slots_from p fs (suc i) rs)

unfoldable pub point_slots : State → ℕ → List ℕ
point_slots st p = slots_from p st.floors 0 st.records

-- the entry of the record whose index and 1 a slot holds
unfoldable pub entry_in : List Completion → ℕ → ImageEntry
entry_in rs v = entry_of_record (get_or rs (v - 1) no_record)

-- the entries of slots, one after the other; a slot with 0 has none
unfoldable pub entries_in : List Completion → List ℕ → List ImageEntry
entries_in rs [] = []
entries_in rs (v ∷ vs) = pick (eqb v 0) (entries_in rs vs) (entry_in rs v ∷ entries_in rs vs)

-- the entries of the point's image stored in out from at on, which left t; n of them
abbrev pub EntriesPut : ℕ → List ℕ → ℕ → List ℕ → List ℕ → ℕ → Type 0
EntriesPut point s at out t n =
    (t ≡ written out at (bytes_of (image_entry_bytes true) (image_for today (load s) point).entries))
    × (n ≡ length (image_for today (load s) point).entries)
