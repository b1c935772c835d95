-- What is left to show of `leases::some_ended`.
use mathlib.Core.Path.{◌≡◌, refl}
use mathlib.Core.Bool.{false}
use borrow.Author.Rules.{rules}
use Rattle.std.proofs.lemmas.Fn.{fold_over, slice_gives, fronts}
use Rattle.model.specs.Leases.{running_at}
use Rattle.leases.proofs.Places.{none-more}
use Rattle.leases.proofs.some_ended.Goals as goal

pub returns : goal.returns
unfolding running_at
returns c =
    let now = c.args.now in
    let run =
    fold_over fronts (λ y. y.now) _ (λ ys found. found ≡ false → running_at now ys ≡ ys) _ (λ ys b x r f' before called. search (rules, none-more) depth 10)
    c.iter.result c.iter.result.rest.now false _ (slice_gives _) (λ e. refl) c.fold.ensures.ran in
    (rw c.iter.ensures.rest at run, search rules)
