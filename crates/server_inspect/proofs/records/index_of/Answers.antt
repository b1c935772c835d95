-- What is left to show of `server_inspect::records::index_of`.
use mathlib.Core.Path.{◌≡◌}
use mathlib.Core.Bool.{true, false}
use Prim.Native.Nat.{◌+◌, ◌*◌}
use lib.ListN.{drop}
use borrow.Author.Rules.{rules}
use Rattle.std.proofs.lemmas.Iterator.{first_from_Range}
use Rattle.server_inspect.specs.Places.{is_row_id}
use Rattle.server_inspect.proofs.Rows.{first_row}
use Rattle.server_inspect.proofs.records.index_of.Goals as goal

pub returns : goal.returns
returns c =
    let a = c.args in
    first_row (is_row_id a.client a.call) a.width a.at a.n a.s.now _
    (first_from_Range _ _ _ _ (λ i. is_row_id a.client a.call (drop (a.at + a.width * i) a.s.now) ≡ true)
    (λ i. is_row_id a.client a.call (drop (a.at + a.width * i) a.s.now) ≡ false) c.find.ensures.ran
    (λ x q k. search rules) (λ x q k. (search rules, search rules)))
