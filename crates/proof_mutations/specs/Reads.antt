-- The calls of a server, and the applying of a record, as `model` has them, with the parts that they read named: heard time, sync mark, floors
-- and completion records of a state, time of a notice, heard time and floors of an image, move numbers. As it stands each part is read as it
-- is, and all is `model`'s (proofs/Same.antt). Each edit of must-fail/ puts something else for one part, so that a test, or a part of a
-- record or of an image, is left out.
-- Assumes nothing.
use Rattle.std.specs.Prelude.{ℕ, List}
use Rattle.std.specs.Prelude.{Option}
use Rattle.std.proofs.Math.Option.{Option as Maybe}
use Rattle.model.specs.declared.Floor.{Floor}
use Rattle.model.specs.declared.Notice.{Notice}
use Rattle.model.specs.declared.Completion.{Completion}
use Rattle.model.specs.declared.Packet.{Packet}
use Rattle.model.specs.Choice.{append, unless_refused}
use Rattle.model.specs.Versions.{Versions}
use Rattle.model.specs.Packets.{as_receipt}
use Rattle.model.specs.Images.{Image}
use Rattle.model.specs.Logs.{LogRecord, executed, gone, gave, took, released, Entry}
use Rattle.model.specs.States.{State}
use Rattle.model.specs.Apply.{apply}
use Rattle.model.specs.Decisions.{Decided, or_malformed, on_request, on_fetch, on_image, take_tests, decide_release}
use Rattle.claim.specs.RecordWorld.{Log, recover_of}

-- a state with this heard time, mark, floors and completion records
unfoldable pub reading : State → ℕ → ℕ → List Floor → List Completion → State
reading st heard mark floors records =
    record {
      server = st.server;
      heard = heard;
      size = st.size;
      mark = mark;
      plan = st.plan;
      points = st.points;
      floors = floors;
      records = records;
    }

-- an image with this move number, heard time and floors
unfoldable pub imaged : Image → ℕ → ℕ → List Floor → Image
imaged i number heard floors =
    record {
      point = i.point;
      destination = i.destination;
      source = i.source;
      move_number = number;
      heard = heard;
      value = i.value;
      quality = i.quality;
      floors = floors;
      entries = i.entries;
      timed = i.timed;
    }

-- ---- what each call reads

unfoldable pub for_request : State → State
for_request st = reading st st.heard st.mark st.floors st.records

unfoldable pub for_fetch : State → State
for_fetch st = reading st st.heard st.mark st.floors st.records

unfoldable pub for_image : State → State
for_image st = reading st st.heard st.mark st.floors st.records

unfoldable pub requests : Versions → State → ℕ → Option Packet → Decided
requests v st free p = on_request v (for_request st) free p

unfoldable pub fetches : Versions → State → ℕ → ℕ → Decided
fetches v st x c = on_fetch v (for_fetch st) x c

unfoldable pub images : Versions → State → ℕ → Decided
images v st p = on_image v (for_image st) p

unfoldable pub takes : State → ℕ → Maybe Image → Decided
takes st free o =
    or_malformed o (λ i. unless_refused (take_tests st free (imaged i i.move_number i.heard i.floors)) (append (took i)))

unfoldable pub releases : State → ℕ → Option Packet → Decided
releases st free p = or_malformed (as_receipt p) (λ r. decide_release st free r.point r.move_number)

-- ---- what is applied, and to what

unfoldable pub for_gone : State → State
for_gone st = reading st st.heard st.mark st.floors st.records

unfoldable pub for_took : State → State
for_took st = reading st st.heard st.mark st.floors st.records

unfoldable pub noticed : Notice → Notice
noticed n = record { client = n.client; time = n.time }

unfoldable pub taken : Image → Image
taken i = imaged i i.move_number i.heard i.floors

unfoldable pub applies_record : LogRecord → ℕ → State → State
applies_record (executed x) end st = apply st (record { item = executed x; end = end })
applies_record (gone n) end st = apply (for_gone st) (record { item = gone (noticed n); end = end })
applies_record (gave g) end st = apply st (record { item = gave g; end = end })
applies_record (took i) end st = apply (for_took st) (record { item = took (taken i); end = end })
applies_record (released r) end st = apply st (record { item = released r; end = end })

unfoldable pub applies : State → Entry → State
applies st e = applies_record e.item e.end st

-- what Recover gives from a log
unfoldable pub regains : List ℕ → Log → Maybe State
regains plan log = recover_of plan log
