-- The calls of a running server (paper: cabinet) as types: operations, which decide on its state, and inquiries, which only read. What a call leaves
-- is the definition that its contract cites.
-- Assumes nothing.
use Rattle.std.specs.Prelude.{ℕ, List}
use Rattle.std.proofs.Math.Option.{Option, none, some}
use Rattle.model.specs.Choice.{or_else}
use Rattle.model.specs.Versions.{Versions}
use Rattle.model.specs.Packets.{parse_packet}
use Rattle.model.specs.Images.{parse_image}
use Rattle.model.specs.States.{State}
use Rattle.model.specs.Decisions.{Decided, on_request, on_fetch, on_sync, on_notice, on_give, on_image, on_take, on_receipt, on_release}
use Rattle.model.specs.Operations.{After, request_of, fetch_of, sync_of, notice_of, give_of, image_of, take_of, receipt_of, release_of}
use Rattle.model.specs.Checkpoints.{inspect_of}

-- ---- operations. P says how a packet or image is named: by its bytes, in a schedule by its number among those made

pub data OperationOf (P : Type 0) : Type 0 where
  request : Versions → P → OperationOf P  -- the versions that its program executes and writes by, packet
  fetch : Versions → ℕ → ℕ → OperationOf P  -- the same, client, call
  sync : ℕ → OperationOf P  -- mark
  notice : P → OperationOf P  -- packet
  give : ℕ → ℕ → OperationOf P  -- point, destination
  image : Versions → ℕ → OperationOf P  -- the same, point
  take_in : P → OperationOf P  -- image
  receipt : ℕ → OperationOf P  -- point
  release : P → OperationOf P  -- packet

abbrev pub Operation : Type 0
Operation = OperationOf (List ℕ)

-- with what is handed over for the packet or image that it names; none where nothing is
unfoldable pub handed : {P Q : Type 0} → (P → Option Q) → OperationOf P → Option (OperationOf Q)
handed f (request v packet) = or_else (f packet) none (λ b. some (request v b))
handed f (fetch v client call) = some (fetch v client call)
handed f (sync mark) = some (sync mark)
handed f (notice packet) = or_else (f packet) none (λ b. some (notice b))
handed f (give point destination) = some (give point destination)
handed f (image v point) = some (image v point)
handed f (take_in img) = or_else (f img) none (λ b. some (take_in b))
handed f (receipt point) = some (receipt point)
handed f (release packet) = or_else (f packet) none (λ b. some (release b))

-- what it leaves of state, log and output
unfoldable pub operated : Operation → List ℕ → List ℕ → List ℕ → After
operated (request v packet) state log out = request_of v state log packet out
operated (fetch v client call) state log out = fetch_of v state log client call out
operated (sync mark) state log out = sync_of state log mark
operated (notice packet) state log out = notice_of state log packet
operated (give point destination) state log out = give_of state log point destination
operated (image v point) state log out = image_of v state log point out
operated (take_in img) state log out = take_of state log img
operated (receipt point) state log out = receipt_of state log point out
operated (release packet) state log out = release_of state log packet

-- what it decides on a state, with free bytes left in the log
unfoldable pub decision : Operation → State → ℕ → Decided
decision (request v packet) st free = on_request v st free (parse_packet packet)
decision (fetch v client call) st free = on_fetch v st client call
decision (sync mark) st free = on_sync st mark
decision (notice packet) st free = on_notice st free (parse_packet packet)
decision (give point destination) st free = on_give st free point destination
decision (image v point) st free = on_image v st point
decision (take_in img) st free = on_take st free (parse_image img)
decision (receipt point) st free = on_receipt st point
decision (release packet) st free = on_release st free (parse_packet packet)

-- ---- inquiries: whatever they are lent stays as it is, an output aside, and they make no packet

pub data Inquiry : Type 0 where
  inspect : List ℕ → ℕ → ℕ → Inquiry  -- checkpoint slice, client, call

-- the number that it answers, by state, log and output
unfoldable pub inquired : Inquiry → List ℕ → List ℕ → List ℕ → ℕ
inquired (inspect checkpoint client call) state log out = (inspect_of state checkpoint log client call).refusal
