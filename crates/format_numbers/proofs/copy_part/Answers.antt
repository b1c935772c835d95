-- What is left to show of `format_numbers::copy_part`.
use Prim.Native.Nat.{◌+◌, ◌-◌}
use mathlib.Core.Path.{◌≡◌}
use native.Mathlib.Omega.{arith}
use Rattle.model_laws.proofs.Written.{tail-back}
use Rattle.model_laws.specs.Bytes.{part}
use Rattle.format_numbers.proofs.copy_part.Goals as goal

pub returns : goal.returns
returns c =
    let start = c.args in
    let size : start.from + start.n - start.from ≡ start.n = omega arith in
    rw (c.copy_bytes.ensures, size) (tail-back start.to start.out.now (part start.from start.n start.src.now))
