-- What is left to show of `state_soundness::record_slot`.
use mathlib.Core.Bool.{not}
use mathlib.Core.Path.{ap}
use Rattle.state_soundness.proofs.Records.{above_few, slot_point, slot_window, slot_all}
use Rattle.state_clients.proofs.Search.{place-within}
use native.Mathlib.Omega.{arith}
use Rattle.model.specs.States.{floors_start}
use Rattle.state_soundness.proofs.record_slot.Goals as goal

pub returns-then-not-at_point_ok : goal.returns-then-not-at_point_ok
returns-then-not-at_point_ok c =
    slot_point c.args.s.now c.args.k c.requires.3 c.requires.4 c.completion_from-r.ensures c.at_point_ok.ensures (ap not c.if-not-at_point_ok.true)

pub returns-then-not-in_window : goal.returns-then-not-in_window
returns-then-not-in_window c =
    slot_window c.args.s.now c.args.k c.requires.3 c.requires.4 c.completion_from-r.ensures c.at_point_ok.ensures (ap not c.if-not-at_point_ok.false)
    c.place_by-i.ensures c.floor_at-floor.ensures c.in_window.ensures (ap not c.if-not-in_window.true)

pub overflow_mul-result : goal.overflow_mul-result
overflow_mul-result c =
    omega (arith, place-within c.completion_from-r.result.command.client floors_start c.args.s.now c.args.n c.place_by-i.ensures)

pub overflow_add-result : goal.overflow_add-result
overflow_add-result c =
    omega (
      arith,
      place-within c.completion_from-r.result.command.client floors_start c.args.s.now c.args.n c.place_by-i.ensures,
      c.call_above.ensures,
      above_few _ _ c.in_window.ensures (ap not c.if-not-in_window.false),
    )

pub returns : goal.returns
returns c =
    slot_all c.args.s.now c.args.k c.requires.3 c.requires.4 c.completion_from-r.ensures c.at_point_ok.ensures (ap not c.if-not-at_point_ok.false)
    c.place_by-i.ensures c.floor_at-floor.ensures c.in_window.ensures (ap not c.if-not-in_window.false) c.call_above.ensures
