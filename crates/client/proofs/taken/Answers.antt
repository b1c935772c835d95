-- What is left to show of `client::taken`.
use Rattle.std.specs.Prelude.{Some}
use mathlib.Core.Path.{◌≡◌, sym, ◌∙◌}
use native.Mathlib.Omega.{arith}
use Rattle.model.specs.declared.Refusal.TheVariants.{Unknown}
use Rattle.model.specs.Clients.{not_received, receive_with}
use Rattle.client.proofs.Others.{not_taken}
use Rattle.client.proofs.Answers.{result_own, refusal-own, grant-later, result-unknown, refusal-unknown, grant-unknown}
use Rattle.client.proofs.taken.Goals.{in-Resulted, in-Refused, in-Granted}
use Rattle.client.proofs.taken.Goals as goal

pub returns-in_default : goal.returns-in_default
returns-in_default c = let start = c.args in c.not_received.ensures ∙ sym (not_taken start.d start.packet c.in_default.not-Resulted c.in_default.not-Refused c.in_default.not-Granted)

pub returns-in-Resulted-2 : goal.returns-in-Resulted-2
returns-in-Resulted-2 c =
    let start = c.args in
    let unknown : not_received start.d Unknown ≡ receive_with start.d (Some start.packet) = grind (arith, result-unknown, refusal-unknown, grant-unknown) in
    c.not_received-in-Resulted-2.ensures ∙ unknown

pub returns : goal.returns
returns c =
    let start = c.args in
    elim c.match-packet.branch [
      | in-Resulted w ↦ rw w.lease-is (result_own start.d start.c c.requires.1 c.requires.0 _ w.in-Resulted.is w.if-is_own.ensures w.no_call.ensures)
      | in-Refused w ↦ rw w.lease-is (refusal-own start.d start.c c.requires.1 c.requires.0 _ w.in-Refused.is w.if-is_own-2.ensures)
      | in-Granted w ↦ rw w.lease-is (grant-later start.d start.c c.requires.1 c.requires.0 _ w.in-Granted.is w.if-grant-d.true)
    ]
