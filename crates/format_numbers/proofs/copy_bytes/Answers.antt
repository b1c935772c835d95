-- What is left to show of `format_numbers::copy_bytes`.
use Prim.Native.Nat.{ℕ}
use mathlib.Core.Path.{sym, ap, ◌∙◌}
use mathlib.Core.List.{List}
use native.Mathlib.Omega.{arith}
use lib.ListN.{length, take}
use lib.Seq.{take_all}
use Rattle.model.specs.Tables.{written}
use Rattle.model_laws.proofs.Written.{written_none, length-written}
use Rattle.format_numbers.proofs.Copies.{copy_step}
use Rattle.format_numbers.proofs.copy_bytes.Goals as goal

pub loop-i-init : goal.loop-i-init
loop-i-init c = (omega arith, sym (written_none c.args.out.now 0))

pub bounds-out-i : goal.bounds-out-i
bounds-out-i c =
    let start = c.args in
    let at = c.loop-i in
    omega (arith, ap length at.invariant.1, length-written start.out.now 0 (take at.i start.src.now))

pub loop-i-preserved : goal.loop-i-preserved
loop-i-preserved c =
    let start = c.args in
    let at = c.loop-i in
    (omega arith, rw at.invariant.1 (copy_step start.out.now start.src.now at.i (omega arith)))

pub returns : goal.returns
returns c =
    let start = c.args in
    let at = c.loop-i in
    at.invariant.1 ∙ ap (λ (x : List ℕ). written start.out.now 0 x) (take_all at.i start.src.now (omega arith))
