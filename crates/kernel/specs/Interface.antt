-- What a call of the C interface leaves: its answer in one word of 64 bits, and the lent slices.
-- Assumes nothing.
use Rattle.std.specs.Prelude.{ℕ, List}
use Rattle.model.specs.Operations.{After, word_of}
use Rattle.model.specs.Checkpoints.{AfterCheckpoint}
use Rattle.dispatch_claim.specs.declared.Dispatcher.{Dispatcher}
use Rattle.dispatch_claim.specs.Dispatcher.{AfterServe}

-- the interface's version, major × 65,536 + minor: 1.7
abbrev pub version : ℕ
version = 65543

pub record Returned : Type 0 where
  pub answer : ℕ
  pub state : List ℕ
  pub log : List ℕ
  pub out : List ℕ

abbrev pub returned : ℕ → List ℕ → List ℕ → List ℕ → Returned
returned r s l o = record { answer = r; state = s; log = l; out = o }

-- an operation, in C's terms
unfoldable pub in_c : After → Returned
in_c a = returned (word_of a.answer) a.state a.log a.out

-- checkpoint, which is lent other slices beside
pub record CheckpointReturned : Type 0 where
  pub answer : ℕ
  pub state : List ℕ
  pub log : List ℕ
  pub checkpoint : List ℕ
  pub tail : List ℕ

abbrev pub checkpoint_returned : ℕ → List ℕ → List ℕ → List ℕ → List ℕ → CheckpointReturned
checkpoint_returned r s l c t = record { answer = r; state = s; log = l; checkpoint = c; tail = t }

unfoldable pub checkpoint_in_c : AfterCheckpoint → CheckpointReturned
checkpoint_in_c a = checkpoint_returned (word_of a.answer) a.state a.log a.checkpoint a.tail

-- a serving: the dispatcher after it, and what request leaves
pub record ServeReturned : Type 0 where
  pub dispatcher : Dispatcher
  pub left : Returned

abbrev pub serve_returned : Dispatcher → ℕ → List ℕ → List ℕ → List ℕ → ServeReturned
serve_returned d r s l o = record { dispatcher = d; left = returned r s l o }

unfoldable pub serve_in_c : AfterServe → ServeReturned
serve_in_c a = record { dispatcher = a.dispatcher; left = in_c a.left }
