-- Floors under the changes of replay.
--     Ascends                 floors are ascending by client: raise, merge_floors and keep leave them so
--     raise-up, merge_up      no floor falls;  raise-to, merge_to   floors reach what is raised or merged
-- Assumes nothing.
use mathlib.Core.Path.{◌≡◌, refl, sym, ◌∙◌, ap, subst}
use mathlib.Core.Bool.{Bool, true, false, not}
use mathlib.Core.List.Memᴰ
use mathlib.Core.List.{List, [], ◌∷◌, Memᴰ}
use mathlib.Core.Logic.{◌⊎◌, inl, inr}
use native.Mathlib.Omega.{arith}
use Prim.Native.Nat.{ℕ, ◌≤◌, ◌<◌, max}
use lib.Dec.{ltb, eqb}
use borrow.Author.Tests.{ltb-true, ltb-false, eqb-true}
use Rattle.model.specs.declared.Floor.{Floor}
use Rattle.model.specs.Choice.{pick}
use Rattle.model.specs.Tables.{keep}
use Rattle.model.specs.Images.{floor_of}
use Rattle.model.specs.Apply.{raise, merge_floors, is_not_client}
use Rattle.proof_protocol.proofs.Basics.{eqb_no, eqb_same, tests, keep_out}

-- ---- floors ascend

pub data Ascends : List Floor → Type 0 where
  no_floors : Ascends []
  next-floor : {f : Floor} {fs : List Floor} → ((g : Floor) → Memᴰ g fs → f.client < g.client) → Ascends fs → Ascends (f ∷ fs)

raise-out : (y n : ℕ) (g : Floor) (fs : List Floor) → Memᴰ g (raise y n fs) → (g.client ≡ y) ⊎ Memᴰ g fs
unfolding raise
raise-out y n g [] m = go (Memᴰ.cases_cons m)
  where
    go : (g ≡ record { client = y; floor = n }) ⊎ Memᴰ g [] → (g.client ≡ y) ⊎ Memᴰ g []
    go (inl e) = inl (ap (λ (z : Floor). z.client) e)
    go (inr k) = inr k
raise-out y n g (f ∷ fs) m = go (eqb f.client y) (ltb y f.client) m (λ k. raise-out y n g fs k)
  where
    new : {k : ℕ} {gs : List Floor} → ((h : Memᴰ g gs) → Memᴰ g (f ∷ fs)) → (g ≡ record { client = y; floor = k }) ⊎ Memᴰ g gs → (g.client ≡ y) ⊎ Memᴰ g (f ∷ fs)
    new up (inl e) = inl (ap (λ (z : Floor). z.client) e)
    new up (inr k) = inr (up k)

    up : (g.client ≡ y) ⊎ Memᴰ g fs → (g.client ≡ y) ⊎ Memᴰ g (f ∷ fs)
    up (inl e) = inl e
    up (inr k) = inr (Memᴰ.tail k)

    old : (g ≡ f) ⊎ Memᴰ g (raise y n fs) → (Memᴰ g (raise y n fs) → (g.client ≡ y) ⊎ Memᴰ g fs) → (g.client ≡ y) ⊎ Memᴰ g (f ∷ fs)
    old (inl e) ih = inr (Memᴰ.head e)
    old (inr k) ih = up (ih k)

    go : (b d : Bool) → Memᴰ g (pick b (record { client = y; floor = max f.floor n } ∷ fs) (pick d (record { client = y; floor = n } ∷ (f ∷ fs)) (f ∷ raise y n fs)))
        → (Memᴰ g (raise y n fs) → (g.client ≡ y) ⊎ Memᴰ g fs) → (g.client ≡ y) ⊎ Memᴰ g (f ∷ fs)
    go true d k ih = new (λ h. Memᴰ.tail h) (Memᴰ.cases_cons k)
    go false true k ih = new (λ h. h) (Memᴰ.cases_cons k)
    go false false k ih = old (Memᴰ.cases_cons k) ih

pub raise_ascends : (y n : ℕ) (fs : List Floor) → Ascends fs → Ascends (raise y n fs)
unfolding raise
raise_ascends y n [] a = next-floor (λ g m. absurd (Memᴰ.not-nil m)) no_floors
raise_ascends y n (f ∷ fs) (next-floor up a) = go (eqb f.client y) refl (ltb y f.client) refl (raise_ascends y n fs a)
  where
    behind : y < f.client → (g : Floor) → (g ≡ f) ⊎ Memᴰ g fs → y < g.client
    behind h g (inl e) = subst (λ (z : Floor). y < z.client) (sym e) h
    behind h g (inr k) = let u = up g k in omega arith

    over : f.client < y → (g : Floor) → (g.client ≡ y) ⊎ Memᴰ g fs → f.client < g.client
    over h g (inl e) = omega arith
    over h g (inr k) = up g k

    go : (b : Bool) → eqb f.client y ≡ b → (d : Bool) → ltb y f.client ≡ d → Ascends (raise y n fs)
        → Ascends (pick b (record { client = y; floor = max f.floor n } ∷ fs) (pick d (record { client = y; floor = n } ∷ (f ∷ fs)) (f ∷ raise y n fs)))
    go true q d r ih = let e = eqb-true f.client y q in next-floor {f = record { client = y; floor = max f.floor n }} (λ g k. let u = up g k in omega arith) a
    go false q true r ih = next-floor (λ g k. behind (ltb-true _ _ r) g (Memᴰ.cases_cons k)) (next-floor up a)
    go false q false r ih = next-floor (λ g k. over below g (raise-out y n g fs k)) ih
      where
        below : f.client < y
        below = omega (arith, eqb_no f.client y q, ltb-false y f.client r)

pub merge_ascends : (gs fs : List Floor) → Ascends fs → Ascends (merge_floors gs fs)
unfolding merge_floors
merge_ascends [] fs a = a
merge_ascends (g ∷ gs) fs a = merge_ascends gs (raise g.client g.floor fs) (raise_ascends g.client g.floor fs a)

pub keep_ascends : (t : Floor → Bool) (fs : List Floor) → Ascends fs → Ascends (keep t fs)
unfolding keep
keep_ascends t [] a = a
keep_ascends t (f ∷ fs) (next-floor up a) = go (t f) (keep_ascends t fs a)
  where
    go : (b : Bool) → Ascends (keep t fs) → Ascends (pick b (f ∷ keep t fs) (keep t fs))
    go true ih = next-floor (λ g m. up g (keep_out t g fs m).0) ih
    go false ih = ih

-- a client under all others has no floor
floor-zero : (x : ℕ) (fs : List Floor) → ((g : Floor) → Memᴰ g fs → x < g.client) → floor_of x fs ≡ 0
unfolding floor_of
floor-zero x [] up = refl
floor-zero x (f ∷ fs) up = go (eqb f.client x) refl (floor-zero x fs (λ g m. up g (Memᴰ.tail m)))
  where
    go : (b : Bool) → eqb f.client x ≡ b → floor_of x fs ≡ 0 → pick b f.floor (floor_of x fs) ≡ 0
    go true q ih = let e = eqb-true f.client x q in let u = up f (Memᴰ.head refl) in absurd (omega arith)
    go false q ih = ih

-- ---- floors rise

pub raise-up : (x y n : ℕ) (fs : List Floor) → Ascends fs → floor_of x fs ≤ floor_of x (raise y n fs)
unfolding floor_of raise
raise-up x y n [] a = omega arith
raise-up x y n (f ∷ fs) (next-floor up a) = go (eqb f.client y) refl (ltb y f.client) refl (eqb f.client x) refl (eqb y x) refl (raise-up x y n fs a)
  where
    nothing : y < f.client → y ≡ x → floor_of x fs ≡ 0
    nothing h e = floor-zero x fs (λ g m. let u = up g m in omega arith)

    go : (b : Bool) → eqb f.client y ≡ b → (c : Bool) → ltb y f.client ≡ c → (d : Bool) → eqb f.client x ≡ d → (e : Bool) → eqb y x ≡ e → floor_of x fs ≤ floor_of x (raise y n fs)
        → pick d f.floor (floor_of x fs) ≤ floor_of x (pick b (record { client = y; floor = max f.floor n } ∷ fs) (pick c (record { client = y; floor = n } ∷ (f ∷ fs)) (f ∷ raise y n fs)))
    go true q c s true r true t ih = rw t (omega arith)
    go true q c s true r false t ih = omega (arith, tests)
    go true q c s false r true t ih = omega (arith, tests)
    go true q c s false r false t ih = rw t (omega arith)
    go false q true s true r true t ih = absurd (omega (arith, tests))
    go false q true s false r true t ih = rw t (let z = nothing (ltb-true _ _ s) (eqb-true _ _ t) in omega arith)
    go false q true s true r false t ih = rw (t, r) (omega arith)
    go false q true s false r false t ih = rw (t, r) (omega arith)
    go false q false s true r e t ih = rw r (omega arith)
    go false q false s false r e t ih = rw r ih

pub raise-to : (x n : ℕ) (fs : List Floor) → n ≤ floor_of x (raise x n fs)
unfolding floor_of raise
raise-to x n [] = rw (eqb_same x) (omega arith)
raise-to x n (f ∷ fs) = go (eqb f.client x) refl (ltb x f.client) (raise-to x n fs)
  where
    go : (b : Bool) → eqb f.client x ≡ b → (c : Bool) → n ≤ floor_of x (raise x n fs)
        → n ≤ floor_of x (pick b (record { client = x; floor = max f.floor n } ∷ fs) (pick c (record { client = x; floor = n } ∷ (f ∷ fs)) (f ∷ raise x n fs)))
    go true q c ih = rw (eqb_same x) (omega arith)
    go false q true ih = rw (eqb_same x) (omega arith)
    go false q false ih = rw q ih

pub merge_up : (x : ℕ) (gs fs : List Floor) → Ascends fs → floor_of x fs ≤ floor_of x (merge_floors gs fs)
unfolding merge_floors
merge_up x [] fs a = omega arith
merge_up x (g ∷ gs) fs a = omega (arith, raise-up x g.client g.floor fs a, merge_up x gs (raise g.client g.floor fs) (raise_ascends g.client g.floor fs a))

pub merge_to : (x : ℕ) (gs fs : List Floor) → Ascends fs → floor_of x gs ≤ floor_of x (merge_floors gs fs)
unfolding merge_floors floor_of
merge_to x [] fs a = omega arith
merge_to x (g ∷ gs) fs a = go (eqb g.client x) refl (merge_to x gs (raise g.client g.floor fs) (raise_ascends g.client g.floor fs a))
  where
    go : (b : Bool) → eqb g.client x ≡ b → floor_of x gs ≤ floor_of x (merge_floors gs (raise g.client g.floor fs))
        → pick b g.floor (floor_of x gs) ≤ floor_of x (merge_floors gs (raise g.client g.floor fs))
    go true q ih =
        let e = eqb-true g.client x q in
        let h : g.floor ≤ floor_of x (raise g.client g.floor fs) = subst (λ (y : ℕ). g.floor ≤ floor_of y (raise g.client g.floor fs)) e (raise-to g.client g.floor fs) in
        omega (arith, merge_up x gs (raise g.client g.floor fs) (raise_ascends g.client g.floor fs a))
    go false q ih = ih

pub without_other : (x y : ℕ) (fs : List Floor) → (x ≡ y → ⊥) → floor_of x (keep (is_not_client y) fs) ≡ floor_of x fs
unfolding keep is_not_client floor_of
without_other x y [] d = refl
without_other x y (f ∷ fs) d = go (eqb f.client y) refl (eqb f.client x) refl (without_other x y fs d)
  where
    go : (b : Bool) → eqb f.client y ≡ b → (e : Bool) → eqb f.client x ≡ e → floor_of x (keep (is_not_client y) fs) ≡ floor_of x fs
        → floor_of x (pick (not b) (f ∷ keep (is_not_client y) fs) (keep (is_not_client y) fs)) ≡ pick e f.floor (floor_of x fs)
    go true q true r ih = absurd (d (sym (eqb-true _ _ r) ∙ eqb-true _ _ q))
    go true q false r ih = ih
    go false q true r ih = rw r
    go false q false r ih = rw r ih
