-- What a call answers by its outcome; the refusals and their numbers are `model`'s.
-- Assumes nothing.
use Rattle.std.specs.Prelude.{ℕ, Result, Ok, Err}
use Rattle.model.specs.declared.Answer.{Answer}
use Rattle.model.specs.declared.Refusal.{Refusal}
use Rattle.model.specs.Refusals.{no_refusal}
use Rattle.model.specs.Operations.{answer_of}
use Rattle.refusals.specs.declared.Denied.{Denied}
pub use Rattle.model.specs.Refusals.{number_of, refusal_of}

-- the answer of a call: the bytes written, or the refusal's number and none
abbrev pub answered : Result ℕ Refusal → Answer
answered (Ok n) = answer_of no_refusal n
answered (Err e) = answer_of (number_of e) 0

-- a refusal with a packet of so many bytes
abbrev pub denied : Refusal → ℕ → Denied
denied e n = record { refusal = e; wrote = n }

-- the answer of a request: of a refusal the packet's bytes too
abbrev pub request_answered : Result ℕ Denied → Answer
request_answered (Ok n) = answer_of no_refusal n
request_answered (Err d) = answer_of (number_of d.refusal) d.wrote
