-- The world of this crate is that of `claim` over records, event by event.
--     same_step, same-run
-- Assumes nothing.
use Rattle.std.specs.Prelude.{Option}
use Prim.Native.Nat.{ℕ, ◌+◌, ◌-◌}
use mathlib.Core.Path.{◌≡◌, refl, ◌∙◌, ap}
use mathlib.Core.List.{List, [], ◌∷◌}
use mathlib.Core.Option.{Option as Maybe, none, some}
use lib.Dec.{ltb}
use Rattle.model.specs.declared.Packet.{Packet}
use Rattle.model.specs.Choice.{pick, refuse, deny, reply, append, marks}
use Rattle.model.specs.Refusals.{unsound}
use Rattle.model.specs.Logs.{LogRecord, executed, gone, gave, took, released, Entry, record_size}
use Rattle.model.specs.Images.{Image}
use Rattle.model.specs.States.{State}
use Rattle.model.specs.Apply.{apply, apply_record}
use Rattle.model.specs.Decisions.{Decided, or_malformed, on_take, decide_take, on_release}
use Rattle.model.specs.Calls.{Operation, request, fetch, sync, notice, give, image, take_in, receipt, release, handed, decision}
use Rattle.claim.specs.World.{with_server, making, packet}
use Rattle.claim.specs.RecordWorld.{Event, found, call, recover, crash, outside}
use Rattle.claim.specs.RecordWorld.{Log, Server, nothing, running, crashed, World, Left, kept_by, empty_world}
use Rattle.claim.specs.RecordWorld as Records
use Rattle.proof_mutations.specs.Reads.{reading, imaged, for_request, for_fetch, for_image, for_gone, for_took, noticed, taken, requests, fetches, images, takes, releases, applies_record, applies, regains}
use Rattle.proof_mutations.specs.World.{settle, call_of, calls, decides, calls_on, recovers_from, step, run_from, run}

applied_same : (r : LogRecord) (end : ℕ) (st : State) → applies_record r end st ≡ apply_record r end st
unfolding applies_record apply for_gone for_took noticed taken reading imaged
applied_same (executed x) end st = refl
applied_same (gone x) end st = refl
applied_same (gave x) end st = refl
applied_same (took x) end st = refl
applied_same (released x) end st = refl

settle-same : (st : State) (log : Log) (d : Decided) → settle st log d ≡ Records.settle st log d
unfolding settle Records.settle applies apply
settle-same st log (refuse n) = refl
settle-same st log (deny n b) = refl
settle-same st log (reply b) = refl
settle-same st log (append r) =
    let e : Entry = record { item = r; end = st.size + record_size r } in
    ap (λ (s : State). record { number = 0; made = []; state = s; log = Records.longer log e }) (applied_same r (st.size + record_size r) st)
settle-same st log (marks m) = refl

module _ (c room : ℕ) where
  calls_same : (d e : State → ℕ → Decided) → ((st : State) (free : ℕ) → d st free ≡ e st free) → (s : Server) (w : World) → calls c room d s w ≡ Records.calls c room e s w
  unfolding calls call_of Records.calls Records.call_of
  calls_same d e h nothing w = refl
  calls_same d e h (running st log) w =
      ap (λ (a : Left). making a.made (with_server c (running a.state a.log) w))
      (settle-same st log _ ∙ ap (λ (x : Decided). Records.settle st log (pick (ltb room st.size) (refuse unsound) x)) (h st (room - st.size)))
  calls_same d e h (crashed log k mark) w = refl

takes_same : (st : State) (free : ℕ) (o : Maybe Image) → takes st free o ≡ on_take st free o
unfolding takes on_take or_malformed decide_take imaged
takes_same st free none = refl
takes_same st free (some i) = refl

releases-same : (st : State) (free : ℕ) (p : Option Packet) → releases st free p ≡ on_release st free p
unfolding releases on_release
releases-same st free p = refl

recovers-same : (c : ℕ) (plan : List ℕ) (o : Maybe Log) (w : World) → recovers_from c plan o w ≡ Records.recovers_from c plan o w
unfolding recovers_from regains Records.recovers_from
recovers-same c plan none w = refl
recovers-same c plan (some log) w = refl

decides-same : (o : Operation) (st : State) (free : ℕ) → decides o st free ≡ decision o st free
unfolding decides decision requests fetches images for_request for_fetch for_image reading
decides-same (request v b) st free = refl
decides-same (fetch v x c) st free = refl
decides-same (sync m) st free = refl
decides-same (notice b) st free = refl
decides-same (give p d) st free = refl
decides-same (image v p) st free = refl
decides-same (take_in b) st free = takes_same st free _
decides-same (receipt p) st free = refl
decides-same (release b) st free = releases-same st free _

calls_on_same : (c room : ℕ) (o : Maybe Operation) (w : World) → calls_on c room o w ≡ Records.calls_on c room o w
unfolding calls_on Records.calls_on
calls_on_same c room none w = refl
calls_on_same c room (some o) w = calls_same c room (decides o) (decision o) (decides-same o) (w.servers c) w

pub same_step : (w : World) (e : Event) → step w e ≡ Records.step w e
unfolding step Records.step
same_step w (found c plan n) = refl
same_step w (call c o room) = calls_on_same c room (handed (packet w) o) w
same_step w (recover c plan) = recovers-same c plan (kept_by (w.servers c)) w
same_step w (crash c k) = refl
same_step w (outside e) = refl

run-from : (w : World) (es : List Event) → run_from w es ≡ Records.run_from w es
unfolding run_from Records.run_from
run-from w [] = refl
run-from w (e ∷ es) = run-from (step w e) es ∙ ap (λ (v : World). Records.run_from v es) (same_step w e)

pub same-run : (es : List Event) → run es ≡ Records.run es
unfolding run Records.run
same-run es = run-from empty_world es
