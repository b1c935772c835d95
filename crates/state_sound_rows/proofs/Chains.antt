-- A chain of tests joined by &&, walked test by test; `search chain depth N` walks it all.
--     ends, goes_on              a test did not hold, and the chain is false; it held, and the others decide
--     ends_call, goes_on_call    the same, where the test is what a call answered
-- Assumes nothing.
use mathlib.Core.Path.{◌≡◌, sym, ◌∙◌}
use mathlib.Core.Bool.{Bool, true, false, ◌&&◌, not}
use borrow.Author.Tests.{not-true, not-false, lt-leb, le-leb}

pub ends : {a : Bool} (b : Bool) → a ≡ false → false ≡ (a && b)
ends b p = rw p

pub goes_on : {a b r : Bool} → a ≡ true → r ≡ b → r ≡ (a && b)
goes_on p e = rw p e

pub ends_call : {u a : Bool} (b : Bool) → u ≡ a → not u ≡ true → false ≡ (a && b)
ends_call {u} b p q = ends b (sym p ∙ not-true u q)

pub goes_on_call : {u a b r : Bool} → u ≡ a → not u ≡ false → r ≡ b → r ≡ (a && b)
goes_on_call {u} p q e = goes_on (sym p ∙ not-false u q) e

pub ruleset chain = (ends, goes_on, ends_call, goes_on_call, lt-leb, le-leb)
