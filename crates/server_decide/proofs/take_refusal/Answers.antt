-- What is left to show of `server_decide::take_refusal`.
use mathlib.Core.Path.{refl, ap}
use mathlib.Core.Bool.{not}
use borrow.Author.Tests.{lt-leb, lt-ltb, le-ltb, eq-eqb, ne_eqb, le-leb}
use Rattle.format_numbers.proofs.Picks.{yes, no, yes_call, no_call_lem, picks}
use Rattle.server_decide.proofs.Nots.{yes_not, no_not}
use Rattle.model.specs.Decisions.{take_refusal}
use Rattle.model.specs.Refusals.{wrong_destination, old_move, already_held, clients_full, log_full, malformed}
use Rattle.server_decide.proofs.take_refusal.Goals as goal

pub returns-then-not-ranged : goal.returns-then-not-ranged
unfolding take_refusal
returns-then-not-ranged c = search (picks, yes_not, no_not) depth 24

pub returns-then-destination-server : goal.returns-then-destination-server
unfolding take_refusal
returns-then-destination-server c =
    no malformed (ap not c.if-not-ranged.false) (yes _ (ap not (ne_eqb _ _ c.if-destination-server.true)) refl)

pub returns-then-number-x : goal.returns-then-number-x
unfolding take_refusal
returns-then-number-x c =
    no malformed (ap not c.if-not-ranged.false)
    (no wrong_destination (ap not (eq-eqb _ _ c.if-destination-server.false)) (yes _ (le-leb _ _ c.if-number-x.true) refl))

pub returns-then-is_kept : goal.returns-then-is_kept
unfolding take_refusal
returns-then-is_kept c =
    no malformed (ap not c.if-not-ranged.false)
    (no wrong_destination (ap not (eq-eqb _ _ c.if-destination-server.false))
    (no old_move (lt-leb _ _ c.if-number-x.false)
    (yes_call _ c.is_kept.ensures c.if-is_kept.true refl)))

pub returns-then-merged-gt-CLIENT_COUNT : goal.returns-then-merged-gt-CLIENT_COUNT
unfolding take_refusal
returns-then-merged-gt-CLIENT_COUNT c =
    no malformed (ap not c.if-not-ranged.false)
    (no wrong_destination (ap not (eq-eqb _ _ c.if-destination-server.false))
    (no old_move (lt-leb _ _ c.if-number-x.false)
    (no_call_lem already_held c.is_kept.ensures c.if-is_kept.false (yes _ (lt-ltb _ _ c.if-merged-gt-CLIENT_COUNT.true) refl))))

pub returns-then-free-need : goal.returns-then-free-need
unfolding take_refusal
returns-then-free-need c =
    no malformed (ap not c.if-not-ranged.false)
    (no wrong_destination (ap not (eq-eqb _ _ c.if-destination-server.false))
    (no old_move (lt-leb _ _ c.if-number-x.false)
    (no_call_lem already_held c.is_kept.ensures c.if-is_kept.false (no clients_full (le-ltb _ _ c.if-merged-gt-CLIENT_COUNT.false) (yes _ (lt-ltb _ _ c.if-free-need.true) refl)))))

pub returns : goal.returns
unfolding take_refusal
returns c =
    no malformed (ap not c.if-not-ranged.false)
    (no wrong_destination (ap not (eq-eqb _ _ c.if-destination-server.false))
    (no old_move (lt-leb _ _ c.if-number-x.false)
    (no_call_lem already_held c.is_kept.ensures c.if-is_kept.false (no clients_full (le-ltb _ _ c.if-merged-gt-CLIENT_COUNT.false) (no log_full (le-ltb _ _ c.if-free-need.false) refl)))))
