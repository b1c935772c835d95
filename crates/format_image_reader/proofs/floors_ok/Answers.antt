-- What is left to show of `format_image_reader::floors_ok`.
use Prim.Native.Nat.{ℕ, ◌+◌, ◌-◌, ◌*◌}
use mathlib.Core.Path.{refl, ap}
use mathlib.Core.Bool.{not}
use mathlib.Core.List.{List}
use native.Mathlib.Omega.{arith}
use lib.ListN.{drop}
use borrow.Author.Rules.{rules}
use borrow.Author.Tests.{tests}
use Rattle.model.specs.Images.{floor_of_bytes, floor_ok, clients_ascend}
use Rattle.model.specs.Limits.{floor_row, least_image}
use Rattle.model_laws.proofs.Loops.{Walk, row_test, walk-next, walk-false, walk-true}
use Rattle.format_numbers.proofs.Chains.{Steps, all_walked}
use Rattle.format_image_reader.specs.Walks.{floor_step, floors_ok, floors_in}
use Rattle.format_image_reader.proofs.Tables.{floors_ordered, floors-start}
use Rattle.format_image_reader.proofs.floors_ok.Goals as goal

steps : (s : List ℕ) (n : ℕ) → Steps n (floors_ok (floors_in s n)) (λ i. floor_step (n - (i + 1)) (drop (least_image + floor_row * i) s))
    (Walk floor_of_bytes clients_ascend (row_test floor_of_bytes floor_ok) floor_row least_image (floors_ok (floors_in s n)) s n)
unfolding floor_step
steps s n =
    record {
      start = floors-start s n;
      next = λ i o h e. walk-next o floors_ordered h refl (ap not e);
      stop = λ i o h e. walk-false o floors_ordered h refl (ap not e);
      end = λ o. walk-true o floors_ordered (omega arith);
    }

pub returns : goal.returns
returns c =
    all_walked (steps c.args.s.now c.args.n) _ _ _ c.all.ensures.ran (cc) (λ i q k. search (rules, tests)) (λ i q k. search (rules, tests))
