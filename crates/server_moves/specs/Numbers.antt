-- The refusal's number of each call that moves a point, on its lent slices; 0 if it is not refused. Tests as in Operations and
-- Decisions, in the same order. And the records that a give and a release append.
-- Assumes nothing.
use Rattle.std.specs.Prelude.{ℕ, suc, ◌≤◌, List, eqb, ltb}
use Rattle.model.specs.declared.Give.{Give}
use Rattle.model.specs.declared.Release.{Release}
use Rattle.model.specs.declared.Packet.{Packet}
use Rattle.model.specs.declared.Packet.TheVariants.{Requested, Resulted, Refused, Receipted, Noticed, Granted}
use Rattle.model.specs.Choice.{pick, reply, unless_refused}
use Rattle.model.specs.Refusals.{malformed, no_refusal}
use Rattle.model.specs.Limits.{last_point}
use Rattle.model.specs.Packets.{receipt_bytes}
use Rattle.model.specs.Images.{image_bytes}
use Rattle.model.specs.States.{State, load, point_at}
use Rattle.model.specs.Versions.{today}
use Rattle.model.specs.Decisions.{Decided, places_bad, give_refusal, image_for, image_refusal, receipt_refusal}
use Rattle.model.specs.Operations.{lent_refusal, free_in}

-- the number n, or what comes behind it where n is 0
unfoldable pub first : ℕ → ℕ → ℕ
first n m = pick (eqb n no_refusal) m n

-- ---- give

unfoldable pub give_for : State → ℕ → ℕ → Give
give_for st p d = record { point = p; destination = d; move_number = suc (point_at st p).move_number }

unfoldable pub give_number : List ℕ → List ℕ → ℕ → ℕ → ℕ
give_number s log p d =
    first (lent_refusal s log 0 0) (pick (places_bad p d) malformed (give_refusal (point_at (load s) p) (load s).server (free_in s log) d))

-- ---- receipt and image: what they test before the point's own state

unfoldable pub place_number : List ℕ → List ℕ → ℕ → ℕ → ℕ → ℕ
place_number s log n need p = first (lent_refusal s log n need) (pick (ltb last_point p) malformed no_refusal)

-- and what they decide then
abbrev pub image_decided : State → ℕ → Decided
image_decided st p = unless_refused (image_refusal (point_at st p) st.mark) (reply (image_bytes (image_for today st p)))

abbrev pub receipt_decided : State → ℕ → Decided
receipt_decided st p =
    unless_refused (receipt_refusal (point_at st p) st.mark)
    (reply (receipt_bytes (record { point = p; server = st.server; move_number = (point_at st p).taken_move })))

-- ---- release

unfoldable pub release_for : State → ℕ → Release
release_for st p = record { point = p; move_number = (point_at st p).move_number }

-- a packet's point, where a release reads it, is in range
abbrev pub Placed : Packet → Type 0
Placed (Requested q) = Unit
Placed (Resulted r) = Unit
Placed (Refused r) = Unit
Placed (Receipted r) = r.point ≤ last_point
Placed (Noticed n) = Unit
Placed (Granted g) = Unit
