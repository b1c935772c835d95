-- What follows the 60th line feed of a text is not read.
--     rest_unread    a text with 60 line feeds has the answers of every longer one
--     cut_unread     a text cut anywhere behind its 60th line feed keeps its answers
-- The program `yard` rests on it for inputs that it does not hold whole.
-- Assumes nothing.
use Prim.Native.Nat.{ℕ, zero, suc, ◌≤◌}
use mathlib.Core.Path.{◌≡◌, refl, sym, ap, ◌∙◌}
use mathlib.Core.Bool.{Bool, true, false}
use mathlib.Core.List.{List, [], ◌∷◌, ◌++◌}
use native.Mathlib.Nat.{le_of_suc-le-suc, not-suc-le-zero}
use lib.Dec.{eqb}
use lib.ListN.{take, drop, take-append-drop}
use borrow.Author.Tests.{leb-true}
use Rattle.model.specs.Choice.{pick}
use Rattle.model.specs.Simulator.{Line, new_simulator, most_lines, run_lines, line_of, lines_from, lines_of, replies_text, answers_of}
use Rattle.model.specs.Letters.{line_feed}
use Rattle.simulator_text.specs.Values.{line_feeds, closed}

lines_front : (n : ℕ) (f a b : List ℕ) → n ≤ line_feeds a → take n (lines_from f (a ++ b)) ≡ take n (lines_from f a)
unfolding lines_from line_feeds
lines_front zero f a b h = refl
lines_front (suc n) f [] b h = absurd (not-suc-le-zero h)
lines_front (suc n) f (x ∷ a) b h = go (eqb x line_feed) h (λ l. lines_front n [] a b l) (λ l. lines_front (suc n) (f ++ (x ∷ [])) a b l)
  where
    go : (t : Bool) → suc n ≤ pick t (suc (line_feeds a)) (line_feeds a)
        → (n ≤ line_feeds a → take n (lines_from [] (a ++ b)) ≡ take n (lines_from [] a))
        → (suc n ≤ line_feeds a → take (suc n) (lines_from (f ++ (x ∷ [])) (a ++ b)) ≡ take (suc n) (lines_from (f ++ (x ∷ [])) a))
        → take (suc n) (pick t (line_of f ∷ lines_from [] (a ++ b)) (lines_from (f ++ (x ∷ [])) (a ++ b)))
        ≡ take (suc n) (pick t (line_of f ∷ lines_from [] a) (lines_from (f ++ (x ∷ [])) a))
    go true l p q = ap (λ (ls : List Line). line_of f ∷ ls) (p (le_of_suc-le-suc l))
    go false l p q = q l

pub rest_unread : (a b : List ℕ) → closed a ≡ true → answers_of (a ++ b) ≡ answers_of a
unfolding answers_of lines_of closed
rest_unread a b h =
    ap (λ (ls : List Line). replies_text 1 (run_lines new_simulator ls)) (lines_front most_lines [] a b (leb-true most_lines (line_feeds a) h))

pub cut_unread : (n : ℕ) (t : List ℕ) → closed (take n t) ≡ true → answers_of (take n t) ≡ answers_of t
cut_unread n t h = sym (rest_unread (take n t) (drop n t) h) ∙ ap answers_of (take-append-drop n t)
