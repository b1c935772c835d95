-- A buffer through a chain of changes of the clients' table.
--     Holds                         it is the state of the first buffer, with the table fs
--     holds-start, holds-next       the first buffer; a change
--     holds-set, holds-add, holds-drop     what the calls of `client_rows` leave
--     holds-canonical, holds-floors     what a call needs
--     all_take, all_drop             a property of all rows
-- Assumes nothing.
use Prim.Native.Nat.{ℕ, zero, suc, ◌≤◌, ◌<◌}
use mathlib.Core.Path.{◌≡◌, refl, sym, ap, ◌∙◌}
use mathlib.Core.List.{List, [], ◌∷◌, ◌++◌}
use native.Mathlib.Omega.{arith}
use lib.ListN.{length, set, take, drop, length-set, length-append, length-take}
use Rattle.model.specs.declared.Floor.{Floor}
use Rattle.model.specs.Limits.{client_count}
use Rattle.model.specs.States.{State, load}
use Rattle.model.specs.Operations.{stored}
use Rattle.model_laws.specs.Bytes.{All}
use Rattle.model_laws.specs.Fits.{FloorFits, StateFits}
use Rattle.model_laws.specs.Layout.{with_floors}
use Rattle.model_laws.proofs.Tables.{all_append}
use Rattle.state_rows.specs.Canonical.{Canonical}
use Rattle.state_rows.proofs.Chains.{stored_same, stored-stored, load_stored, canonical-stored, all_set, fits-floors}

module _ {A : Type 0} (P : A → Type 0) where
  pub all_take : (k : ℕ) (xs : List A) → All P xs → All P (take k xs)
  all_take zero xs a = tt
  all_take (suc k) [] a = tt
  all_take (suc k) (x ∷ xs) a = (a.0, all_take k xs a.1)

  pub all_drop : (k : ℕ) (xs : List A) → All P xs → All P (drop k xs)
  all_drop zero xs a = a
  all_drop (suc k) [] a = tt
  all_drop (suc k) (x ∷ xs) a = all_drop k xs a.1

pub record Holds (s₀ s : List ℕ) (fs : List Floor) : Type 0 where
  pub same : s ≡ stored s₀ (with_floors fs (load s₀))
  pub fit : All FloorFits fs
  pub few : length fs ≤ client_count

own-floors : (st : State) → with_floors st.floors st ≡ st
unfolding with_floors
own-floors st = refl

last-floors : (st : State) (fs gs : List Floor) → with_floors gs (with_floors fs st) ≡ with_floors gs st
unfolding with_floors
last-floors st fs gs = refl

its-floors : (st : State) (fs : List Floor) → (with_floors fs st).floors ≡ fs
unfolding with_floors
its-floors st fs = refl

module _ {s₀ : List ℕ} (w : Canonical s₀) where
  pub holds-start : Holds s₀ s₀ (load s₀).floors
  holds-start = record { same = sym (rw (own-floors (load s₀)) (stored_same s₀ w)); fit = w.fits.floors; few = w.fits.floors-count }

  module _ {s : List ℕ} {fs : List Floor} (o : Holds s₀ s fs) where
    fits : StateFits (with_floors fs (load s₀))
    fits = fits-floors (load s₀) w.fits fs o.fit o.few

    pub holds-canonical : Canonical s
    holds-canonical = rw o.same (canonical-stored s₀ w.long (with_floors fs (load s₀)) fits)

    pub holds-load : load s ≡ with_floors fs (load s₀)
    holds-load = ap load o.same ∙ load_stored s₀ w.long (with_floors fs (load s₀)) fits

    pub holds-floors : (load s).floors ≡ fs
    holds-floors = ap (λ (x : State). x.floors) holds-load ∙ its-floors (load s₀) fs

    pub holds-next : {s' : List ℕ} (gs : List Floor) → s' ≡ stored s (with_floors gs (load s)) → All FloorFits gs → length gs ≤ client_count → Holds s₀ s' gs
    holds-next {s'} gs e a h =
        record {
          same =
              e
              ∙ ap (λ (x : State). stored s (with_floors gs x)) holds-load
              ∙ ap (λ (x : State). stored s x) (last-floors (load s₀) fs gs)
              ∙ ap (λ (x : List ℕ). stored x (with_floors gs (load s₀))) o.same
              ∙ stored-stored s₀ (with_floors fs (load s₀)) (with_floors gs (load s₀)) fits (fits-floors (load s₀) w.fits gs a h) (unfold with_floors in omega arith);
          fit = a;
          few = h;
        }

    pub holds-set : {s' : List ℕ} (i : ℕ) {f : Floor} → s' ≡ stored s (with_floors (set (load s).floors i f) (load s)) → FloorFits f → Holds s₀ s' (set fs i f)
    holds-set {s'} i {f} e h =
        holds-next (set fs i f) (e ∙ ap (λ (x : List Floor). stored s (with_floors (set x i f) (load s))) holds-floors) (all_set FloorFits fs i f o.fit h) (rw (length-set fs i f) o.few)

    pub holds-add : {s' : List ℕ} {f : Floor} → s' ≡ stored s (with_floors ((load s).floors ++ (f ∷ [])) (load s)) → FloorFits f → length fs < client_count → Holds s₀ s' (fs ++ (f ∷ []))
    holds-add {s'} {f} e h l =
        holds-next (fs ++ (f ∷ [])) (e ∙ ap (λ (x : List Floor). stored s (with_floors (x ++ (f ∷ [])) (load s))) holds-floors) (all_append FloorFits fs (f ∷ []) o.fit (h, tt))
        (omega (arith, length-append fs (f ∷ [])))

    pub holds-drop : {s' : List ℕ} (k : ℕ) → s' ≡ stored s (with_floors (take k (load s).floors) (load s)) → Holds s₀ s' (take k fs)
    holds-drop {s'} k e =
        holds-next (take k fs) (e ∙ ap (λ (x : List Floor). stored s (with_floors (take k x) (load s))) holds-floors) (all_take FloorFits k fs o.fit) (omega (arith, length-take k fs, o.few))
