-- What a call of checkpoint leaves, and what one that is not refused leaves.
-- Assumes nothing.
use Rattle.std.specs.Prelude.{true, List, ℕ, length}
use Rattle.model.specs.declared.Answer.{Answer}
use Rattle.model.specs.Refusals.{no_refusal}
use Rattle.model.specs.Tables.{written}
use Rattle.model.specs.Logs.{head_bytes}
use Rattle.model.specs.States.{load}
use Rattle.model.specs.Operations.{answer_of, stored}
use Rattle.model.specs.Checkpoints.{AfterCheckpoint, rebased, checkpoint_bytes}

abbrev pub after_checkpoint : Answer → List ℕ → List ℕ → List ℕ → List ℕ → AfterCheckpoint
after_checkpoint a s l c t = record { answer = a; state = s; log = l; checkpoint = c; tail = t }

unfoldable pub checkpoint_taken : List ℕ → List ℕ → List ℕ → List ℕ → AfterCheckpoint
checkpoint_taken s l c t =
    after_checkpoint (answer_of no_refusal (length (checkpoint_bytes true (load s)))) (stored s (rebased (load s))) l (written c 0 (checkpoint_bytes true (load s)))
    (written t 0 (head_bytes (load s).server))
