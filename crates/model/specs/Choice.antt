-- Choice by a test, and what a call decides. The number of ordered refusals reads as in docs/REFERENCE.md:
--     3 if not-held else 4 if lease-over else .. else passed
-- Assumes nothing.
use Rattle.std.specs.Prelude.{ℕ, Bool, true, false, List, eqb}
use Rattle.std.proofs.Math.Option.{Option, none, some}
use Rattle.model.specs.Refusals.{no_refusal}

-- a where t holds, else b
abbrev pub pick : {A : Type 0} → Bool → A → A → A
pick true a b = a
pick false a b = b

-- what is made of what was found, or b where nothing was
abbrev pub or_else : {A B : Type 0} → Option A → B → (A → B) → B
or_else none b f = b
or_else (some x) b f = f x

-- What a server's call decides; `R` is the type of log records.
--     refuse n     the refusal's number, and nothing changes
--     deny n b     the refusal's number, and the packet b is made
--     reply b      0, and the packet or image b is made
--     append r     0, the record r is logged and applied
--     marks m      0, and the sync mark becomes m
pub data Decision (R : Type 0) : Type 0 where
  refuse : ℕ → Decision R
  deny : ℕ → List ℕ → Decision R
  reply : List ℕ → Decision R
  append : R → Decision R
  marks : ℕ → Decision R

-- the number n where the test holds, else that of the tests that follow; 0 where all are passed
infixr 5 ◌if◌else◌
abbrev pub ◌if◌else◌ : ℕ → Bool → ℕ → ℕ
◌if◌else◌ n t m = pick t n m

abbrev pub passed : ℕ
passed = no_refusal

abbrev pub is_passed : ℕ → Bool
is_passed n = eqb n passed

-- the refusal n, or what the call does where the tests are passed
unfoldable pub unless_refused : {R : Type 0} → ℕ → Decision R → Decision R
unless_refused n d = pick (is_passed n) d (refuse n)
