-- A schedule over bytes as one over states and log records: there a server keeps its whole log, and places are counted from its founding.
-- Assumes nothing.
use Rattle.std.specs.Prelude.{ℕ, ◌+◌, ◌||◌, List, [], ◌∷◌, eqb, length}
use Rattle.model.specs.Choice.{pick}
use Rattle.model.specs.Limits.{state_size}
use Rattle.model.specs.Operations.{After, short, found_of, recover_of}
use Rattle.model.specs.Checkpoints.{recover_tail_of}
use Rattle.model.specs.Calls.{fetch}
use Rattle.model.specs.Versions.{Versions, today}
use Rattle.model.specs.Packets.{result_size_of}
use Rattle.model.specs.States.{State, load}
use Rattle.model.specs.Decisions.{timed_by}
use Rattle.model.specs.Refusals.{no_refusal}
use Rattle.model_invariants.specs.Calls.{output_size, output}
use Rattle.claim.specs.World.{Lent, lent_state, lent_log}
use Rattle.claim.specs.World as B
use Rattle.claim.specs.RecordWorld as R
use Rattle.safety.specs.Alike.{whole}

-- the length of the log slice; 0 where state or output are too short, so that the call is refused. `need`: what is asked of the output, by the state
unfoldable pub room_in : Lent → List ℕ → List ℕ → List ℕ → (State → ℕ) → ℕ
room_in t state log out need = pick (short (lent_state t state) state_size || short out (need (load (lent_state t state)))) 0 (length (lent_log t log))

-- at a server, counted from the founding; one that does not run takes no call. Where checkpoints replaced as many bytes, that is still too short
unfoldable pub room_of : B.Server → Lent → List ℕ → (State → ℕ) → ℕ
room_of B.nothing t out need = 0
room_of (B.running k state log) t out need = k.replaced + room_in t state log out need
room_of (B.storing k log next state tail) t out need = 0
room_of (B.crashed k kept mark) t out need = 0

-- what a request asks of its output
abbrev pub told_size : Versions → State → ℕ
told_size v st = result_size_of (timed_by v st)

-- a place of the server's log, counted from the founding
unfoldable pub place_of : B.Server → ℕ → ℕ
place_of s n = (B.stored_of s).replaced + n

-- a call that is refused: the event over records of what leaves a whole log as it is
abbrev pub idle : ℕ → R.Event
idle c = R.call c (fetch today 0 0) 0

-- the plan; none where found or recover is refused, so that it is refused
unfoldable pub plan_if : After → List ℕ → List ℕ
plan_if a p = pick (eqb a.answer.refusal no_refusal) p []

-- the event of the byte world w. A server that stores a checkpoint takes no call
unfoldable pub decoded : List ℕ → B.World → B.Event → R.Event
decoded plan w (B.found c state log p n) = R.found c (plan_if (found_of state log p n) p) n
decoded plan w (B.call c o t) = R.call c (whole (B.stored_of (w.servers c)).replaced o) (room_of (w.servers c) t (output o t.out) (λ st. output_size st o))
decoded plan w (B.inquire c i t) = idle c
decoded plan w (B.recover c state log p) = R.recover c (plan_if (recover_of state log p) p)
decoded plan w (B.checkpoint c v tail t) = idle c
decoded plan w (B.store c) = idle c
decoded plan w (B.recover·tail c state k tail) = R.recover c (plan_if (recover_tail_of state k tail) plan)
decoded plan w (B.crash c k) = R.crash c (place_of (w.servers c) k)
decoded plan w (B.outside e) = R.outside e

-- a schedule from the byte world w on
unfoldable pub decoded_from : List ℕ → B.World → List B.Event → List R.Event
decoded_from plan w [] = []
decoded_from plan w (y ∷ ys) = decoded plan w y ∷ decoded_from plan (B.step w y) ys

-- a whole schedule
abbrev pub schedule : List ℕ → List B.Event → List R.Event
schedule plan ys = decoded_from plan B.empty_world ys
