-- How a row stands in bytes, with the laws that the laws of tables rest on.
-- Assumes nothing.
use Rattle.std.specs.Prelude.{ℕ, ◌≤◌, ◌≡◌, Bool, true, List, ◌++◌, length, take}
use Rattle.model_laws.specs.Bytes.{Bytes}

-- `test` is what a row's bytes must pass (its zero bytes, at least); `Fit` what a row must keep to be read back
pub record Codec (A : Type 0) : Type 1 where
  pub dec : List ℕ → A
  pub enc : A → List ℕ
  pub width : ℕ
  pub test : List ℕ → Bool
  pub Fit : A → Type 0
  pub enc-width : (r : A) → length (enc r) ≡ width
  pub enc-bytes : (r : A) → Fit r → Bytes (enc r)
  pub dec-take : (s : List ℕ) → dec (take width s) ≡ dec s
  pub test-take : (s : List ℕ) → test (take width s) ≡ test s
  pub dec-enc : (r : A) (rest : List ℕ) → Fit r → dec (enc r ++ rest) ≡ r
  pub test-enc : (r : A) (rest : List ℕ) → Fit r → test (enc r ++ rest) ≡ true
  pub enc-dec : (s : List ℕ) → Bytes s → width ≤ length s → test s ≡ true → enc (dec s) ≡ take width s
  pub dec-fit : (s : List ℕ) → Bytes s → test s ≡ true → Fit (dec s)
