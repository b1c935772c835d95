-- How many calls lie in the windows of some clients: at most 16 for each.
--     entries-count     strictly ascending ids, each from its client's floor to floor + 15
--     records-count     different ids in any order
--     image-entries     so an image has at most 16 entries for each floor
-- Assumes nothing.
use Prim.Native.Nat.{ℕ, zero, suc, ◌+◌, ◌-◌, ◌*◌, ◌≤◌, ◌<◌}
use mathlib.Core.Path.{◌≡◌, refl, sym, ap, ◌∙◌, subst}
use mathlib.Core.Bool.{Bool, true, false, ◌&&◌, ◌||◌, not, false≢true}
use mathlib.Core.List.{List, [], ◌∷◌, map}
use native.Mathlib.Omega.{arith}
use lib.ListN.{length, length-map}
use lib.Dec.{eqb, ltb}
use borrow.Author.Tests.{eqb-true, eqb-false, ltb-true, ltb-false, ne_eqb, eq-eqb}
use Rattle.model.specs.declared.Floor.{Floor}
use Rattle.model.specs.declared.ImageEntry.{ImageEntry}
use Rattle.model.specs.declared.Completion.{Completion}
use Rattle.model.specs.Choice.{pick}
use Rattle.model.specs.Tables.{every, keep}
use Rattle.model.specs.Images.{Image, floor_of, in_window, clients_ascend, id_before, ids_ascend, floor_ok, image_entry_ok, image_tables_ok}
use Rattle.model.specs.Packets.{command_ok, outcome_ok, id_ok}
use Rattle.model.specs.States.{is_id, ids_differ}
use Rattle.model.specs.Limits.{call_window, last_in_window}
use Rattle.model_laws.specs.Bytes.{All}
use Rattle.model_laws.proofs.Tests.{and_left, and_right}
use Rattle.model_laws.proofs.Reflects.{le, flag, facts}
use Rattle.model_laws.proofs.Tables.{every_all, every_imp, all_map, all_keep, keep_all, all_every}

-- the call c lies in the window from the floor k
record In (k c : ℕ) : Type 0 where
  known : 1 ≤ k
  low : k ≤ c
  high : c ≤ k + last_in_window

in_window_lem : (k c : ℕ) → in_window k c ≡ true → In k c
unfolding in_window
in_window_lem k c e =
    let t = facts (le 1 k ∷ le k c ∷ le c (k + last_in_window) ∷ []) e in
    record { known = t 0; low = t 1; high = t 2 }

-- the place of a call among the windows of the clients, 16 places each
rank : ℕ → ℕ → List Floor → ℕ
rank x c [] = 0
rank x c (f ∷ fs) = pick (eqb f.client x) (c - f.floor) (call_window + rank x c fs)

-- a client among the later floors is greater
later : (x : ℕ) (f : Floor) (fs : List Floor) → clients_ascend (f ∷ fs) ≡ true → 1 ≤ floor_of x fs → f.client < x
unfolding clients_ascend floor_of
later x f [] e h = absurd (omega arith)
later x f (g ∷ gs) e h =
    let a : f.client < g.client = ltb-true f.client g.client (and_left (ltb f.client g.client) (clients_ascend (g ∷ gs)) e) in
    step (eqb g.client x) refl h a (λ q. later x g gs (and_right (ltb f.client g.client) (clients_ascend (g ∷ gs)) e) q)
  where
    step : (b : Bool) → eqb g.client x ≡ b → 1 ≤ pick b g.floor (floor_of x gs) → f.client < g.client → (1 ≤ floor_of x gs → g.client < x) → f.client < x
    step true q k a r = let q' : g.client ≡ x = eqb-true g.client x q in omega arith
    step false q k a r = omega (arith, r k)

tail_ascends : (f : Floor) (fs : List Floor) → clients_ascend (f ∷ fs) ≡ true → clients_ascend fs ≡ true
unfolding clients_ascend
tail_ascends f [] e = refl
tail_ascends f (g ∷ gs) e = and_right (ltb f.client g.client) (clients_ascend (g ∷ gs)) e

rank_below : (x c : ℕ) (fs : List Floor) → In (floor_of x fs) c → rank x c fs < call_window * length fs
unfolding rank floor_of
rank_below x c [] h = absurd (omega arith)
rank_below x c (f ∷ fs) h = step (eqb f.client x) h (λ q. rank_below x c fs q)
  where
    step : (b : Bool) → In (pick b f.floor (floor_of x fs)) c → (In (floor_of x fs) c → rank x c fs < call_window * length fs)
        → pick b (c - f.floor) (call_window + rank x c fs) < call_window * suc (length fs)
    step true k r = omega arith
    step false k r = omega (arith, r k)

-- a later call of one client has a later place
rank_call : (x c d : ℕ) (fs : List Floor) → c < d → In (floor_of x fs) c → rank x c fs < rank x d fs
unfolding rank floor_of
rank_call x c d [] l h = absurd (omega arith)
rank_call x c d (f ∷ fs) l h = step (eqb f.client x) h (λ q. rank_call x c d fs l q)
  where
    step : (b : Bool) → In (pick b f.floor (floor_of x fs)) c → (In (floor_of x fs) c → rank x c fs < rank x d fs)
        → pick b (c - f.floor) (call_window + rank x c fs) < pick b (d - f.floor) (call_window + rank x d fs)
    step true k r = omega arith
    step false k r = omega (arith, r k)

-- a call of a later client has a later place
rank_client : (x c y d : ℕ) (fs : List Floor) → clients_ascend fs ≡ true → x < y → In (floor_of x fs) c → In (floor_of y fs) d → rank x c fs < rank y d fs
unfolding rank floor_of
rank_client x c y d [] e l h k = absurd (omega arith)
rank_client x c y d (f ∷ fs) e l h k =
    step (eqb f.client x) (eqb f.client y) refl refl h k (λ p q. rank_client x c y d fs (tail_ascends f fs e) l p q) (λ p. later x f fs e p)
  where
    step : (a b : Bool) → eqb f.client x ≡ a → eqb f.client y ≡ b → In (pick a f.floor (floor_of x fs)) c → In (pick b f.floor (floor_of y fs)) d
        → (In (floor_of x fs) c → In (floor_of y fs) d → rank x c fs < rank y d fs) → (1 ≤ floor_of x fs → f.client < x)
        → pick a (c - f.floor) (call_window + rank x c fs) < pick b (d - f.floor) (call_window + rank y d fs)
    step true true p q i j r s = absurd (omega (arith, eqb-true f.client x p, eqb-true f.client y q))
    step true false p q i j r s = omega arith
    step false true p q i j r s = absurd (omega (arith, eqb-true f.client y q, s i.known))
    step false false p q i j r s = omega (arith, r i j)

-- ---- strictly ascending ids

before : (fs : List Floor) → clients_ascend fs ≡ true → (x c y d : ℕ) → In (floor_of x fs) c → In (floor_of y fs) d → id_before x c y d ≡ true
    → rank x c fs < rank y d fs
unfolding id_before
before fs a x c y d i j e = step (ltb x y) refl e
  where
    step : (b : Bool) → ltb x y ≡ b → (b || (eqb x y && ltb c d)) ≡ true → rank x c fs < rank y d fs
    step true p q = rank_client x c y d fs a (ltb-true x y p) i j
    step false p q =
        let same : x ≡ y = eqb-true x y (and_left (eqb x y) (ltb c d) q) in
        subst (λ (z : ℕ). rank x c fs < rank z d fs) same (rank_call x c d fs (ltb-true c d (and_right (eqb x y) (ltb c d) q)) i)

InFloors : List Floor → ImageEntry → Type 0
InFloors fs e = In (floor_of e.client fs) e.call

from_first : (fs : List Floor) → clients_ascend fs ≡ true → (e : ImageEntry) (es : List ImageEntry) → All (InFloors fs) (e ∷ es) → ids_ascend (e ∷ es) ≡ true
    → rank e.client e.call fs + suc (length es) ≤ call_window * length fs
unfolding ids_ascend InFloors
from_first fs a e [] w t = omega (arith, rank_below e.client e.call fs w.0)
from_first fs a e (g ∷ gs) w t =
    let b : Bool = id_before e.client e.call g.client g.call in
    omega (
      arith,
      from_first fs a g gs w.1 (and_right b (ids_ascend (g ∷ gs)) t),
      before fs a e.client e.call g.client g.call w.0 w.1.0 (and_left b (ids_ascend (g ∷ gs)) t),
    )

pub entries-count : (fs : List Floor) (es : List ImageEntry) → clients_ascend fs ≡ true → every (λ e. in_window (floor_of e.client fs) e.call) es ≡ true
    → ids_ascend es ≡ true → length es ≤ call_window * length fs
unfolding InFloors
entries-count fs [] a w t = omega arith
entries-count fs (e ∷ es) a w t =
    let i : All (InFloors fs) (e ∷ es) =
    all_map (λ q. in_window (floor_of q.client fs) q.call ≡ true) (InFloors fs) (λ q h. in_window_lem (floor_of q.client fs) q.call h) (e ∷ es)
    (every_all (λ q. in_window (floor_of q.client fs) q.call) (e ∷ es) w) in
    omega (arith, from_first fs a e es i t)

-- ---- an image

entry-window : (p : ℕ) (fs : List Floor) (e : ImageEntry) → image_entry_ok p fs e ≡ true → in_window (floor_of e.client fs) e.call ≡ true
unfolding image_entry_ok
entry-window p fs e t =
    facts
    (flag (command_ok e.op p e.argument) ∷ flag (outcome_ok e.result.outcome e.result.quality) ∷ flag (id_ok e.client e.call)
    ∷ flag (in_window (floor_of e.client fs) e.call) ∷ []) t 3

pub image-entries : (i : Image) → image_tables_ok i ≡ true → length i.entries ≤ call_window * length i.floors
unfolding image_tables_ok
image-entries i e =
    let t = facts
    (flag (every floor_ok i.floors) ∷ flag (clients_ascend i.floors) ∷ flag (every (image_entry_ok i.point i.floors) i.entries) ∷ flag (ids_ascend i.entries) ∷ []) e in
    entries-count i.floors i.entries (t 1)
    (every_imp (image_entry_ok i.point i.floors) (λ q. in_window (floor_of q.client i.floors) q.call) (λ q h. entry-window i.point i.floors q h) i.entries (t 2))
    (t 3)

-- ---- different numbers below n are at most n

abbrev Apart : List ℕ → Type 0
Apart [] = Unit
Apart (a ∷ ns) = All (λ b. b ≡ a → ⊥) ns × Apart ns

is_not : ℕ → ℕ → Bool
is_not n a = not (eqb a n)

apart_keep : (t : ℕ → Bool) (ns : List ℕ) → Apart ns → Apart (keep t ns)
unfolding keep
apart_keep t [] p = tt
apart_keep t (a ∷ ns) p = step (t a) (apart_keep t ns p.1)
  where
    step : (b : Bool) → Apart (keep t ns) → Apart (pick b (a ∷ keep t ns) (keep t ns))
    step true q = (all_keep (λ b. b ≡ a → ⊥) t ns p.0, q)
    step false q = q

keep_others : (n : ℕ) (ns : List ℕ) → Apart ns → length ns ≤ suc (length (keep (is_not n) ns))
unfolding keep is_not
keep_others n [] p = omega arith
keep_others n (a ∷ ns) p = step (eqb a n) refl (keep_others n ns p.1)
  where
    step : (b : Bool) → eqb a n ≡ b → length ns ≤ suc (length (keep (is_not n) ns)) → suc (length ns) ≤ suc (length (pick (not b) (a ∷ keep (is_not n) ns) (keep (is_not n) ns)))
    step true e h =
        let same : a ≡ n = eqb-true a n e in
        let others : All (λ b. is_not n b ≡ true) ns = all_map (λ b. b ≡ a → ⊥) (λ b. is_not n b ≡ true) (λ b f. ap not (ne_eqb b n (λ q. f (q ∙ sym same)))) ns p.0 in
        omega (arith, ap length (keep_all (is_not n) ns (all_every (is_not n) ns others)))
    step false e h = omega arith

keep_less : (n : ℕ) (ns : List ℕ) → All (λ a. a < suc n) ns → All (λ a. a < n) (keep (is_not n) ns)
unfolding keep is_not
keep_less n [] p = tt
keep_less n (a ∷ ns) p = step (eqb a n) refl (keep_less n ns p.1)
  where
    step : (b : Bool) → eqb a n ≡ b → All (λ x. x < n) (keep (is_not n) ns) → All (λ x. x < n) (pick (not b) (a ∷ keep (is_not n) ns) (keep (is_not n) ns))
    step true e h = h
    step false e h = (omega (arith, p.0, eqb-false a n e), h)

none_below : (ns : List ℕ) → All (λ a. a < 0) ns → length ns ≤ 0
none_below [] p = omega arith
none_below (a ∷ ns) p = absurd (omega (arith, p.0))

apart_count : (n : ℕ) (ns : List ℕ) → All (λ a. a < n) ns → Apart ns → length ns ≤ n
apart_count zero ns p q = none_below ns p
apart_count (suc n) ns p q =
    omega (arith, keep_others n ns q, apart_count n (keep (is_not n) ns) (keep_less n ns p) (apart_keep (is_not n) ns q))

-- ---- different ids in any order

-- different ids have different places
ranks_differ : (fs : List Floor) → clients_ascend fs ≡ true → (x c y d : ℕ) → In (floor_of x fs) c → In (floor_of y fs) d → (eqb y x && eqb d c) ≡ false
    → rank y d fs ≡ rank x c fs → ⊥
ranks_differ fs a x c y d i j e r = clients (ltb x y) (ltb y x) refl refl
  where
    calls : (p q : Bool) → ltb c d ≡ p → ltb d c ≡ q → x ≡ y → ⊥
    calls true q m n s =
        omega (arith, subst (λ (z : ℕ). rank x c fs < rank z d fs) s (rank_call x c d fs (ltb-true c d m) i))
    calls false true m n s =
        omega (arith, subst (λ (z : ℕ). rank y d fs < rank z c fs) (sym s) (rank_call y d c fs (ltb-true d c n) j))
    calls false false m n s =
        let k : c ≡ d = omega (arith, ltb-false c d m, ltb-false d c n) in
        false≢true (sym e ∙ rw (eq-eqb y x (sym s), eq-eqb d c (sym k)))

    clients : (p q : Bool) → ltb x y ≡ p → ltb y x ≡ q → ⊥
    clients true q m n = omega (arith, rank_client x c y d fs a (ltb-true x y m) i j)
    clients false true m n = omega (arith, rank_client y d x c fs a (ltb-true y x n) j i)
    clients false false m n = calls (ltb c d) (ltb d c) refl refl (omega (arith, ltb-false x y m, ltb-false y x n))

place : List Floor → Completion → ℕ
place fs r = rank r.command.client r.command.call fs

not-true : (b : Bool) → not b ≡ true → b ≡ false
not-true true e = absurd (false≢true e)
not-true false e = refl

InPlace : List Floor → Completion → Type 0
InPlace fs r = In (floor_of r.command.client fs) r.command.call

places-below : (fs : List Floor) (rs : List Completion) → All (InPlace fs) rs → All (λ a. a < call_window * length fs) (map (place fs) rs)
unfolding InPlace place
places-below fs [] w = tt
places-below fs (r ∷ rs) w = (rank_below r.command.client r.command.call fs w.0, places-below fs rs w.1)

places_differ : (fs : List Floor) → clients_ascend fs ≡ true → (r : Completion) (rs : List Completion) → InPlace fs r → All (InPlace fs) rs
    → every (λ q. not (is_id r.command.client r.command.call q)) rs ≡ true → All (λ a. a ≡ place fs r → ⊥) (map (place fs) rs)
unfolding InPlace place every is_id
places_differ fs a r [] w v e = tt
places_differ fs a r (q ∷ rs) w v e =
    let b : Bool = eqb q.command.client r.command.client && eqb q.command.call r.command.call in
    let n : not b ≡ true = and_left (not b) (every (λ p. not (is_id r.command.client r.command.call p)) rs) e in (
      ranks_differ fs a r.command.client r.command.call q.command.client q.command.call w v.0 (not-true b n),
      places_differ fs a r rs w v.1 (and_right (not b) (every (λ p. not (is_id r.command.client r.command.call p)) rs) e),
    )

places_apart : (fs : List Floor) → clients_ascend fs ≡ true → (rs : List Completion) → All (InPlace fs) rs → ids_differ rs ≡ true → Apart (map (place fs) rs)
unfolding ids_differ
places_apart fs a [] w e = tt
places_apart fs a (r ∷ rs) w e =
    let b : Bool = every (λ q. not (is_id r.command.client r.command.call q)) rs in
    (places_differ fs a r rs w.0 w.1 (and_left b (ids_differ rs) e), places_apart fs a rs w.1 (and_right b (ids_differ rs) e))

pub records-count : (fs : List Floor) (rs : List Completion) → clients_ascend fs ≡ true → every (λ r. in_window (floor_of r.command.client fs) r.command.call) rs ≡ true
    → ids_differ rs ≡ true → length rs ≤ call_window * length fs
unfolding InPlace
records-count fs rs a w e =
    let i : All (InPlace fs) rs =
    all_map (λ r. in_window (floor_of r.command.client fs) r.command.call ≡ true) (InPlace fs) (λ r h. in_window_lem (floor_of r.command.client fs) r.command.call h) rs
    (every_all (λ r. in_window (floor_of r.command.client fs) r.command.call) rs w) in
    omega (arith, apart_count (call_window * length fs) (map (place fs) rs) (places-below fs rs i) (places_apart fs a rs i e), length-map rs (place fs))
