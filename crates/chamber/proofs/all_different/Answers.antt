-- What is left to show of `chamber::all_different`.
use mathlib.Core.Path.{◌≡◌, refl}
use mathlib.Core.Bool.{true, ◌&&◌}
use Prim.Native.Nat.{ℕ}
use Rattle.model.specs.Tables.{every}
use Rattle.chamber.proofs.Answers.{and-true}
use Rattle.chamber_claim.specs.Chamber.{all_different, is_other}
use Rattle.chamber.proofs.all_different.Goals as goal

pub returns : goal.returns
unfolding every is_other all_different
returns c =
    let s = c.args.points in
    let last : (p : ℕ) → (is_other p s.level3 && true) ≡ is_other p s.level3 = λ p. and-true (is_other p s.level3) in
    rw (last s.upper, last s.lower, last s.level1, last s.level2, last s.level2) refl
