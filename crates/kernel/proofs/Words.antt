-- An operation's answer in one word.
--     returned_in, checkpoint_in, served_in
-- Assumes nothing.
use Prim.Native.Nat.{ℕ}
use mathlib.Core.Path.{◌≡◌, ap, ◌∙◌}
use mathlib.Core.List.{List}
use Rattle.model.specs.declared.Answer.{Answer}
use Rattle.model.specs.Operations.{After, after, word_of}
use Rattle.model.specs.Checkpoints.{AfterCheckpoint}
use Rattle.server_checkpoint.specs.Taken.{after_checkpoint}
use Rattle.dispatch_claim.specs.declared.Served.{Served}
use Rattle.dispatch_claim.specs.Dispatcher.{AfterServe, after_serve}
use Rattle.kernel.specs.Interface.{returned, in_c, checkpoint_returned, checkpoint_in_c, serve_returned, serve_in_c}

pub returned_in : {r : ℕ} {a : Answer} {s l o : List ℕ} {x : After} → r ≡ word_of a → after a s l o ≡ x → returned r s l o ≡ in_c x
unfolding in_c
returned_in {r} {a} {s} {l} {o} {x} p q = ap (λ (n : ℕ). returned n s l o) p ∙ ap in_c q

pub checkpoint_in : {r : ℕ} {a : Answer} {s l c t : List ℕ} {x : AfterCheckpoint} → r ≡ word_of a → after_checkpoint a s l c t ≡ x → checkpoint_returned r s l c t ≡ checkpoint_in_c x
unfolding checkpoint_in_c
checkpoint_in {r} {a} {s} {l} {c} {t} {x} p q = ap (λ (n : ℕ). checkpoint_returned n s l c t) p ∙ ap checkpoint_in_c q

pub served_in : {r : ℕ} (a : Served) {s l o : List ℕ} {x : AfterServe} → r ≡ word_of a.answer → after_serve a s l o ≡ x
    → serve_returned a.dispatcher r s l o ≡ serve_in_c x
unfolding serve_in_c in_c
served_in {r} a {s} {l} {o} {x} p q = ap (λ (n : ℕ). serve_returned a.dispatcher n s l o) p ∙ ap serve_in_c q
