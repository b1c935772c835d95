-- Completion records with distinct ids, each in its client's window: at most 16 a client, and 16 for each floor in all.
--     pairs-keep, pairs-append           what every record is to every later one stays; distinct-keep, distinct_append: ids stay distinct
--     client_few                         records of one client with calls in a window of n: at most n
--     windows_few                        at most 16 for each floor
--     client_sixteen, sound_sixteen      at most 16 a client
-- Assumes nothing.
use Prim.Native.Nat.{ℕ, zero, suc, ◌+◌, ◌*◌, ◌≤◌}
use mathlib.Core.Path.{◌≡◌, refl, sym, ap, ◌∙◌, subst}
use mathlib.Core.Bool.{Bool, true, false, not}
use mathlib.Core.List.{List, [], ◌∷◌, ◌++◌}
use mathlib.Core.Logic.{◌≢◌}
use native.Mathlib.Omega.{arith}
use lib.ListN.{length}
use lib.Dec.{eqb}
use borrow.Author.Tests.{eqb-true, eqb-false, ne_eqb, not-true}
use Rattle.model.specs.declared.Floor.{Floor}
use Rattle.model.specs.declared.Completion.{Completion}
use Rattle.model.specs.Choice.{pick}
use Rattle.model.specs.Tables.{keep}
use Rattle.model.specs.Images.{floor_of}
use Rattle.model.specs.Limits.{call_window}
use Rattle.model.specs.States.{State}
use Rattle.model_laws.specs.Bytes.{All}
use Rattle.model_invariants.specs.Sound.{InWindow, Windowed, Pairs, Other, Distinct, CallIn, is_of, SoundBy}
use Rattle.model_laws.proofs.Tables.{all_keep, all_append}
use Rattle.model_invariants.proofs.Lists.{all_to, all_with, keep-passes, keep_halves, keep-none}

module _ (R : Completion → Completion → Type 0) where
  pub pairs-keep : (t : Completion → Bool) (rs : List Completion) → Pairs R rs → Pairs R (keep t rs)
  unfolding keep
  pairs-keep t [] d = tt
  pairs-keep t (r ∷ rs) d = go (t r) (pairs-keep t rs d.1)
    where
      go : (b : Bool) → Pairs R (keep t rs) → Pairs R (pick b (r ∷ keep t rs) (keep t rs))
      go true k = (all_keep _ t rs d.0, k)
      go false k = k

  pub pairs-append : (rs qs : List Completion) → Pairs R rs → Pairs R qs → All (λ (r : Completion). All (R r) qs) rs → Pairs R (rs ++ qs)
  pairs-append [] qs d e c = e
  pairs-append (r ∷ rs) qs d e c = (all_append _ rs qs d.0 c.0, pairs-append rs qs d.1 e c.1)

pub distinct-keep : (t : Completion → Bool) (rs : List Completion) → Distinct rs → Distinct (keep t rs)
distinct-keep = pairs-keep Other

pub distinct_append : (rs qs : List Completion) → Distinct rs → Distinct qs → All (λ (r : Completion). All (Other r) qs) rs → Distinct (rs ++ qs)
distinct_append = pairs-append Other

-- of one client, at most one record has a given call
same-call : (x c : ℕ) (rs : List Completion) → All (λ (r : Completion). r.command.client ≡ x) rs → Distinct rs
    → length (keep (λ (r : Completion). eqb r.command.call c) rs) ≤ 1
unfolding keep
same-call x c [] h d = omega arith
same-call x c (r ∷ rs) h d = go (eqb r.command.call c) refl (same-call x c rs h.1 d.1)
  where
    is_c : Completion → Bool
    is_c q = eqb q.command.call c

    none_left : r.command.call ≡ c → keep is_c rs ≡ []
    none_left e =
        keep-none is_c rs
        (all_with rs (λ (q : Completion) (o : Other r q) (k : q.command.client ≡ x). ne_eqb q.command.call c (λ (l : q.command.call ≡ c). o (h.0 ∙ sym k) (e ∙ sym l))) d.0 h.1)

    go : (b : Bool) → eqb r.command.call c ≡ b → length (keep is_c rs) ≤ 1 → length (pick b (r ∷ keep is_c rs) (keep is_c rs)) ≤ 1
    go true e ih = omega (arith, ap length (none_left (eqb-true _ _ e)))
    go false e ih = ih

pub client_few : (n x floor : ℕ) (rs : List Completion) → All (λ (r : Completion). r.command.client ≡ x) rs → All (CallIn floor n) rs → Distinct rs
    → length rs ≤ n
client_few zero x floor [] h w d = omega arith
client_few zero x floor (r ∷ rs) h w d = let k : CallIn floor zero r = w.0 in absurd (omega (arith, k.low, k.high))
client_few (suc n) x floor rs h w d =
    let t : Completion → Bool = λ (r : Completion). eqb r.command.call (floor + n) in
    let u : Completion → Bool = λ (r : Completion). not (t r) in
    let inside : All (CallIn floor n) (keep u rs)
    = all_with (keep u rs)
    (λ (r : Completion) (k : CallIn floor (suc n) r) (e : u r ≡ true).
    let m : r.command.call ≢ floor + n = eqb-false r.command.call (floor + n) (not-true (t r) e) in
    record { low = k.low; high = omega (arith, k.high) })
    (all_keep _ u rs w) (keep-passes u rs) in
    let rest : length (keep u rs) ≤ n = client_few n x floor (keep u rs) (all_keep _ u rs h) inside (distinct-keep u rs d) in
    omega (arith, keep_halves t rs, same-call x (floor + n) rs h d)

pub client_sixteen : (x : ℕ) (fs : List Floor) (rs : List Completion) → All (Windowed fs) rs → Distinct rs
    → length (keep (is_of x) rs) ≤ call_window
unfolding is_of
client_sixteen x fs rs w d =
    let mine : All (λ (r : Completion). r.command.client ≡ x) (keep (is_of x) rs)
    = all_to (keep (is_of x) rs) (λ (r : Completion) (e : is_of x r ≡ true). eqb-true r.command.client x e) (keep-passes (is_of x) rs) in
    let near : All (CallIn (floor_of x fs) 16) (keep (is_of x) rs)
    = all_with (keep (is_of x) rs)
    (λ (r : Completion) (e : r.command.client ≡ x) (k : Windowed fs r).
    let i : InWindow (floor_of x fs) r.command.call = subst (λ (y : ℕ). InWindow (floor_of y fs) r.command.call) e k in
    record { low = i.low; high = omega (arith, i.high) })
    mine (all_keep _ (is_of x) rs w) in
    client_few 16 x (floor_of x fs) (keep (is_of x) rs) mine near (distinct-keep (is_of x) rs d)

pub windows_few : (fs : List Floor) (rs : List Completion) → All (Windowed fs) rs → Distinct rs → length rs ≤ 16 * length fs
unfolding floor_of is_of
windows_few [] [] w d = omega arith
windows_few [] (r ∷ rs) w d = let k : InWindow 0 r.command.call = w.0 in absurd (omega (arith, k.known))
windows_few (f ∷ fs) rs w d =
    let t : Completion → Bool = is_of f.client in
    let u : Completion → Bool = λ (r : Completion). not (t r) in
    let rest : All (Windowed fs) (keep u rs)
    = all_with (keep u rs)
    (λ (r : Completion) (k : Windowed (f ∷ fs) r) (e : u r ≡ true).
    let m : eqb f.client r.command.client ≡ false
    = ne_eqb f.client r.command.client (λ (q : f.client ≡ r.command.client). eqb-false r.command.client f.client (not-true (t r) e) (sym q)) in
    rw m at k)
    (all_keep _ u rs w) (keep-passes u rs) in
    omega (arith, keep_halves t rs, client_sixteen f.client (f ∷ fs) rs w d, windows_few fs (keep u rs) rest (distinct-keep u rs d))

-- a sound state keeps at most 16 records of a client
pub sound_sixteen : {P : ℕ → Type 0} (st : State) → SoundBy P st → (x : ℕ) → length (keep (is_of x) st.records) ≤ call_window
sound_sixteen st S x = client_sixteen x st.floors st.records S.windows S.ids
