-- What is left to show of `server_recover::rebuild::rebuild`.
use Rattle.server_recover.proofs.Rebuilding.{rebuilt-canonical, settled-rebuilt}
use borrow.Author.Rules.{rules}
use Rattle.server_recover.proofs.rebuild.rebuild.Goals as goal

pub settle-requires : goal.settle-requires
settle-requires c = (search rules, c.requires.0, rebuilt-canonical _ c.is_ok.ensures.value c.rebuild_on-rebuilt.ensures)

pub returns : goal.returns
returns c = settled-rebuilt c.args.state.now c.args.log.now _ c.is_ok.ensures.value c.rebuild_on-rebuilt.ensures c.settle.ensures
