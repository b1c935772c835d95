-- What is left to show of `server_recover::recover_checkpoint::begin_checkpoint`.
use mathlib.Core.Path.{sym, ◌∙◌}
use native.Mathlib.Omega.{arith}
use Rattle.model_laws.proofs.Logs.{head-length}
use Rattle.server_recover.proofs.Rebuilding.{tail-off, tail_none, tail-other, begun-tail}
use borrow.Author.Rules.{rules}
use Rattle.server_recover.proofs.recover_checkpoint.begin_checkpoint.Goals as goal

pub returns-then-not-head_ok : goal.returns-then-not-head_ok
returns-then-not-head_ok c =
    let start = c.args in
    tail-off start.checkpoint.now start.tail.now _ (sym c.head_ok.ensures ∙ c.if-not-head_ok.true)

pub returns-then-not-restore_sound : goal.returns-then-not-restore_sound
returns-then-not-restore_sound c =
    let start = c.args in
    tail_none start.checkpoint.now start.tail.now c.restore_sound.ensures c.if-not-restore_sound.true

pub head_server-requires : goal.head_server-requires
head_server-requires c =
    head-length _ (sym c.head_ok.ensures ∙ c.if-not-head_ok.false)

pub returns-then-head_server-server_of : goal.returns-then-head_server-server_of
returns-then-head_server-server_of c =
    let start = c.args in
    tail-other start.checkpoint.now start.tail.now c.restore_sound.ensures c.if-not-restore_sound.false
    (λ same. omega (arith, same, c.head_server.ensures, c.server_of.ensures))

pub returns : goal.returns
returns c =
    let start = c.args in
    begun-tail start.checkpoint.now start.tail.now c.restore_sound.ensures c.if-not-restore_sound.false (search rules)
    (sym c.head_server.ensures ∙ c.if-head_server-server_of.false ∙ c.server_of.ensures)
