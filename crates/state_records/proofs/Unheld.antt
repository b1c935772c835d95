-- An id held for no other point, by a search: in a table where no id stands twice, the record that is found decides.
--     free_found
-- Assumes nothing.
use Prim.Native.Nat.{ℕ}
use mathlib.Core.Path.{◌≡◌, refl, sym, subst, ◌∙◌}
use mathlib.Core.Bool.{Bool, true, false, ◌&&◌, ◌||◌, not, and-true}
use mathlib.Core.List.{List, [], ◌∷◌}
use mathlib.Core.Option.{Option as Maybe, none, some}
use lib.Dec.{eqb}
use borrow.Author.Tests.{eqb-true}
use Rattle.std.specs.Prelude.{Option, MatchOption, IsTrue}
use Rattle.model.specs.declared.Completion.{Completion}
use Rattle.model.specs.declared.ImageEntry.{ImageEntry}
use Rattle.model.specs.Choice.{pick}
use Rattle.model.specs.Tables.{every}
use Rattle.model.specs.States.{is_id}
use Rattle.model.specs.Decisions.{find, free_for}
use Rattle.model_laws.specs.Bytes.{All}
use Rattle.model_laws.proofs.Tests.{and_left, and_right}
use Rattle.model_invariants.specs.Sound.{Other, Distinct}
use Rattle.state_records.specs.Rules.{found_of}

-- what a search says of the point p
unfoldable free_by : ℕ → Maybe Completion → Bool
free_by p none = true
free_by p (some r) = eqb r.command.point p

module _ (p : ℕ) (e : ImageEntry) where
  abbrev free : Completion → Bool
  free r = not (is_id e.client e.call r) || eqb r.command.point p

  -- a record with another id
  other-free : (r q : Completion) → is_id e.client e.call r ≡ true → Other r q → is_id e.client e.call q ≡ false
  unfolding is_id
  other-free r q h o = go (is_id e.client e.call q) refl
    where
      go : (t : Bool) → is_id e.client e.call q ≡ t → t ≡ false
      go false k = refl
      go true k =
          let a = eqb-true _ _ (and_left (eqb r.command.client e.client) (eqb r.command.call e.call) h) in
          let b = eqb-true _ _ (and_right (eqb r.command.client e.client) (eqb r.command.call e.call) h) in
          let c = eqb-true _ _ (and_left (eqb q.command.client e.client) (eqb q.command.call e.call) k) in
          let d = eqb-true _ _ (and_right (eqb q.command.client e.client) (eqb q.command.call e.call) k) in
          absurd (o (a ∙ sym c) (b ∙ sym d))

  others_free : (r : Completion) (rs : List Completion) → is_id e.client e.call r ≡ true → All (Other r) rs → every free rs ≡ true
  unfolding every
  others_free r [] h a = refl
  others_free r (q ∷ rs) h a = rw (other-free r q h a.0) (others_free r rs h a.1)

  free_by_lem : (rs : List Completion) → Distinct rs → every free rs ≡ free_by p (find e.client e.call rs)
  unfolding every find free_by
  free_by_lem [] d = refl
  free_by_lem (r ∷ rs) d = go (is_id e.client e.call r) refl (free_by_lem rs d.1)
    where
      go : (t : Bool) → is_id e.client e.call r ≡ t → every free rs ≡ free_by p (find e.client e.call rs)
          → ((not t || eqb r.command.point p) && every free rs) ≡ free_by p (pick t (some r) (find e.client e.call rs))
      go true k ih = rw (others_free r rs k d.0) (and-true (eqb r.command.point p))
      go false k ih = ih

  -- by what a test P says of the record that is found
  free_at : (o : Maybe Completion) {f : Option Completion} {b : Bool} (P : Completion → Type 0) → f ≡ found_of o
      → ((r : Completion) → P r → b ≡ eqb r.command.point p) → MatchOption f (IsTrue b) P → b ≡ free_by p o
  unfolding found_of free_by
  free_at none {b = b} P q w m = let at : Option Completion → Type 0 = λ o. MatchOption o (IsTrue b) P in subst at q m
  free_at (some r) {b = b} P q w m = let at : Option Completion → Type 0 = λ o. MatchOption o (IsTrue b) P in w r (subst at q m)

  pub free_found : (rs : List Completion) → Distinct rs → {f : Option Completion} {b : Bool} (P : Completion → Type 0) → f ≡ found_of (find e.client e.call rs)
      → ((r : Completion) → P r → b ≡ eqb r.command.point p) → MatchOption f (IsTrue b) P → b ≡ free_for p rs e
  unfolding free_for
  free_found rs d P q w m = free_at (find e.client e.call rs) P q w m ∙ sym (free_by_lem rs d)
