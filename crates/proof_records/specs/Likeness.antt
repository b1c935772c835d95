-- When a log, a state, an image and a record of the protocol are those of `model`; a log in both worlds, each record decided on the replay of
-- those before it, and what a crash keeps of it.
-- Assumes nothing.
use Rattle.std.specs.Prelude.{ℕ, suc, ◌≤◌, ◌+◌, ◌-◌, ◌<◌, ◌≡◌, eqb, leb, length, drop}
use mathlib.Core.List.{List, [], ◌∷◌, ◌++◌, map, Memᴰ}
use Rattle.model.specs.Versions.{Version}
use Rattle.model.specs.declared.CommandResult.{CommandResult}
use Rattle.model.specs.declared.Executed.{Executed}
use Rattle.model.specs.declared.Notice.{Notice}
use Rattle.model.specs.declared.Give.{Give}
use Rattle.model.specs.declared.Release.{Release}
use Rattle.model.specs.declared.ImageEntry.{ImageEntry}
use Rattle.model.specs.declared.Point.{Point}
use Rattle.model.specs.declared.Completion.{Completion}
use Rattle.model.specs.Choice.{pick}
use Rattle.model.specs.Limits.{last_point}
use Rattle.model.specs.Sequential.{ReadingZ, reading_meant, result_meant}
use Rattle.model.specs.Images.{Image}
use Rattle.model.specs.Logs.{LogRecord, Entry, record_size}
use Rattle.model.specs.Logs as Logs
use Rattle.model.specs.States.{State, point_at, held, given, released_status}
use Rattle.proof_protocol.specs.Servers as S
use Rattle.model.specs.declared.PlanEntry.{PlanEntry}
use Rattle.model.specs.Apply.{replay}
use Rattle.model_laws.specs.Bytes.{All}
use Rattle.model_invariants.specs.Sound.{SoundBy}
use Rattle.model_invariants.specs.History.{Decides}

unfoldable pub reading_of : Point → ReadingZ
reading_of x = reading_meant (record { value = x.value; quality = x.quality })

-- a result in the protocol
abbrev pub result_of : CommandResult → S.Result
result_of r = record { answer = result_meant r; time = r.time }

-- ys has just what f makes of the elements of xs, in any order
pub record Mapped {A B : Type 0} (f : A → B) (xs : List A) (ys : List B) : Type 0 where
  pub to : (x : A) → Memᴰ x xs → Memᴰ (f x) ys
  pub back : (y : B) → Memᴰ y ys → (x : A) × Memᴰ x xs × (y ≡ f x)

-- ---- images; the places of an image's records are its giver's, and no taker reads them

-- a record of an image of point p, at place n of the taker's log
unfoldable pub taken_as : ℕ → ℕ → ImageEntry → S.Completion
taken_as n p e = record { id = record { client = e.client; call = e.call }; point = p; res = result_of e.result; place = n }

pub record ImageLike (i : Image) (a : S.Image) : Type 0 where
  pub point : a.point ≡ i.point
  pub destination : a.destination ≡ i.destination
  pub move : a.move ≡ i.move_number
  pub heard : a.heard ≡ i.heard
  pub value : a.value ≡ reading_meant (record { value = i.value; quality = i.quality })
  pub floors : a.floors ≡ i.floors
  pub records : (n : ℕ) → Mapped (taken_as n i.point) i.entries (map (S.taken_record n) a.records)
  pub count : length a.records ≡ length i.entries

-- ---- log records and logs

pub data RecordLike : LogRecord → S.LogRecord → Type 0 where
  executed : (v : Version) (x : Executed) → RecordLike (Logs.executed x) (S.executed v x.command x.done (result_of x.result))
  gone : (n : Notice) → RecordLike (Logs.gone n) (S.gone n.client n.time)
  gave : (g : Give) → RecordLike (Logs.gave g) (S.gave g.point g.destination g.move_number)
  took : (i : Image) (a : S.Image) → ImageLike i a → RecordLike (Logs.took i) (S.took a)
  released : (r : Release) → RecordLike (Logs.released r) (S.freed r.point r.move_number)

-- a log record of both worlds
pub record Pair : Type 0 where
  pub entry : Entry
  pub abstract : S.Entry
  pub like : RecordLike entry.item abstract.item

-- a log of pairs is written newest first: its entries in `model`'s order, oldest first, and the protocol's log
unfoldable pub entries_in : List Pair → List Entry
entries_in [] = []
entries_in (z ∷ zs) = entries_in zs ++ (z.entry ∷ [])

unfoldable pub abstract_in : List Pair → List S.Entry
abstract_in [] = []
abstract_in (z ∷ zs) = z.abstract ∷ abstract_in zs

-- the place of a log end: how many entries end at or under it
unfoldable pub place_of : List Pair → ℕ → ℕ
place_of [] k = 0
place_of (z ∷ zs) k = pick (leb z.entry.end k) (suc (place_of zs k)) (place_of zs k)

-- ---- states

unfoldable pub completion_of : List Pair → Completion → S.Completion
completion_of zs r =
    record { id = S.id_of r.command; point = r.command.point; res = result_of r.result; place = place_of zs r.end }

-- by the status: 1 held, 2 given, 3 released, else absent
unfoldable pub holding_of : List Pair → Point → S.Holding
holding_of zs x =
    pick (eqb x.status held) S.held
    (pick (eqb x.status given) (S.given x.destination (place_of zs x.give_end))
    (pick (eqb x.status released_status) S.released S.absent))

pub record PointLike (zs : List Pair) (x : Point) (y : S.Point) : Type 0 where
  pub holding : y.holding ≡ holding_of zs x
  pub move : y.move ≡ x.move_number
  pub taken : y.taken ≡ x.taken_move
  pub value : y.value ≡ reading_of x

-- all but the count of records
pub record StateLike (zs : List Pair) (st : State) (s : S.State) : Type 0 where
  pub points : (p : ℕ) → p ≤ last_point → PointLike zs (point_at st p) (s.points p)
  pub floors : s.floors ≡ st.floors
  pub records : Mapped (completion_of zs) st.records s.records
  pub heard : s.heard ≡ st.heard

-- a log since the founding may have any length
abbrev pub AnyLength : ℕ → Type 0
AnyLength n = Unit

-- the newest record of server c's log
pub record Link (plan : List PlanEntry) (c : ℕ) (z : Pair) (zs : List Pair) : Type 0 where
  pub free : ℕ
  pub decides : Decides (replay plan c (entries_in zs)) free z.entry.item
  pub end : z.entry.end ≡ (replay plan c (entries_in zs)).size + record_size z.entry.item
  pub bytes : z.abstract.bytes ≡ record_size z.entry.item

abbrev pub Chain : List PlanEntry → ℕ → List Pair → Type 0
Chain plan c [] = Unit
Chain plan c (z ∷ zs) = Link plan c z zs × Chain plan c zs

-- every end is at or under n
abbrev pub Within : ℕ → List Pair → Type 0
Within n zs = All (λ (z : Pair). z.entry.end ≤ n) zs

-- ends strictly rise along the log, which is written newest first
abbrev pub Rising : List Pair → Type 0
Rising [] = Unit
Rising (z ∷ zs) = All (λ (y : Pair). y.entry.end < z.entry.end) zs × Rising zs

-- how many entries end past k, and the log of the others
unfoldable pub lost : List Pair → ℕ → ℕ
lost zs k = length zs - place_of zs k

unfoldable pub cut_at : List Pair → ℕ → List Pair
cut_at zs k = drop (lost zs k) zs

-- the states of server c's log zs
pub record Alike (plan : List PlanEntry) (c : ℕ) (zs : List Pair) (st : State) (s : S.State) : Type 0 where
  pub like : StateLike zs st s
  pub count : s.count ≡ length zs
  pub rising : Rising zs
  pub within : Within st.size zs
  pub sound : SoundBy AnyLength st
  pub planned : st.plan ≡ plan
  pub server : st.server ≡ c
