-- What is left to show of `format_log_ends::whole::RecordsIterator::next`.
use native.Mathlib.Omega.{arith}
use Rattle.model_laws.proofs.Ends.{spans-least}
use Rattle.format_log_ends.proofs.Ends.{from-spans, from_inside}
use Rattle.format_log_ends.proofs.Walked.{whole_before, end_after}
use Rattle.format_log_ends.proofs.whole.RecordsIterator.next.Goals as goal

pub size_at-n-requires : goal.size_at-n-requires
size_at-n-requires c = whole_before _ _ _ c.requires c.if-self.false

pub overflow_add-self : goal.overflow_add-self
overflow_add-self c = omega (arith, from_inside _ _ _ c.size_at-n.ensures)

pub returns-clause-goes : goal.returns-clause-goes
returns-clause-goes c =
    let old = c.args.self.now in
    let after = end_after old.log.now old.at old.end c.requires c.size_at-n.result c.size_at-n.ensures in
    record {
      on = λ _. (after, tt, omega (arith, spans-least _ _ (from-spans _ _ _ c.size_at-n.ensures)));
      keeps = after;
      rests = λ _. tt;
    }
