-- Exactly once: a state that holds a point, or has given it and not released it, remembers each execution of the point's past.
--     Past         a point's past: each execution gave what the rule gives on the value before it, and its id stands once
--     Remembers    an execution is in the completion records, or under its client's floor, or a notice of its client was heard
--     StateOk      at every point: its past is one, its value is the past's, all of it is remembered, its records tell of it
--     keeps        replay keeps StateOk;  image-ok   an image of a given point carries it
-- Assumes nothing.
use mathlib.Core.Path.{◌≡◌, refl, sym, ◌∙◌, ap, subst}
use mathlib.Core.Bool.{Bool, true, false, not}
use mathlib.Core.List.Memᴰ
use mathlib.Core.List.{List, [], ◌∷◌, ◌++◌, map, Memᴰ}
use mathlib.Core.Logic.{◌⊎◌, inl, inr}
use native.Mathlib.Omega.{arith}
use Prim.Native.Nat.{ℕ, suc, ◌≤◌, ◌<◌, max}
use lib.Dec.{eqb}
use borrow.Author.Tests.{leb-false, eqb-true, eqb-false, not-false}
use Rattle.model.specs.Versions.{Version}
use Rattle.model.specs.declared.Command.{Command}
use Rattle.model.specs.declared.Floor.{Floor}
use Rattle.model.specs.Tables.{keep}
use Rattle.model.specs.Images.{floor_of}
use Rattle.model.specs.Apply.{raise, merge_floors, is_not_client}
use Rattle.model.specs.Sequential.{ReadingZ, after_z, opened}
use Rattle.proof_protocol.specs.Servers.{Plan, rule_at, Id, id_of, Result, Completion, Execution, Image, LogRecord, Point, State, Holding, stays_over, stays_over_floors, is_of_other, is_on_other, taken_record, executed_point, gave_point, took_point, freed_point, apply_record, founding, founded_point, Packet, Asked, image_for}
use Rattle.proof_protocol.specs.Servers as S
use Rattle.proof_protocol.specs.Allowed.{Written}
use Rattle.proof_protocol.specs.Allowed as I
use Rattle.proof_protocol.proofs.Basics.{impossible, or-false, eqb_same, keep_in, keep_out, last-cases, last_in, map_in, map-out, changed-cases}
use Rattle.proof_protocol.proofs.Floors.{Ascends, raise-up, merge_up, merge_to, without_other}

-- ---- the past of a point

-- the value that a past leaves at point p
unfoldable pub value_after : Plan → ℕ → List Execution → ReadingZ
value_after plan p [] = opened plan p
value_after plan p (d ∷ ds) = after_z d.res.answer

-- one id
abbrev pub Same : Command → Command → Type 0
Same k l = id_of k ≡ id_of l

-- each execution gave what its version of the rule gives on the value before it, on this point, and its id stands once
pub data Past (plan : Plan) (p : ℕ) : List Execution → Type 0 where
  begun : Past plan p []
  more : {d : Execution} {ds : List Execution} → d.cmd.point ≡ p → d.res.answer ≡ rule_at plan d.version d.cmd (value_after plan p ds)
      → ((e : Execution) → Memᴰ e ds → Same e.cmd d.cmd → ⊥) → ((e : Execution) → Memᴰ e ds → e.at < d.at) → Past plan p ds → Past plan p (d ∷ ds)

-- it is of its point
pub on_point : {plan : Plan} {p : ℕ} {ds : List Execution} → Past plan p ds → (d : Execution) → Memᴰ d ds → d.cmd.point ≡ p
on_point begun d m = absurd (Memᴰ.not-nil m)
on_point {p = p} (more {d = e} {ds = es} pt _ _ _ rest) d m = go (Memᴰ.cases_cons m) (λ k. on_point rest d k)
  where
    go : (d ≡ e) ⊎ Memᴰ d es → (Memᴰ d es → d.cmd.point ≡ p) → d.cmd.point ≡ p
    go (inl q) ih = ap (λ (z : Execution). z.cmd.point) q ∙ pt
    go (inr k) ih = ih k

-- ---- memory

-- the id i, at point p
pub data Remembers (Made : Packet → Type 0) (rs : List Completion) (fs : List Floor) (heard p : ℕ) (i : Id) : Type 0 where
  recorded : (r : Completion) → Memᴰ r rs → r.point ≡ p → r.id ≡ i → Remembers Made rs fs heard p i
  floored : i.call < floor_of i.client fs → Remembers Made rs fs heard p i
  heard_of : (t : ℕ) → Made (S.notice i.client t) → t ≤ heard → Remembers Made rs fs heard p i

abbrev pub live : Holding → Bool
live S.absent = false
live S.held = true
live S.released = false
live (S.given d n) = true

-- a completion record tells an execution of the past
pub record Tells (ds : List Execution) (r : Completion) : Type 0 where
  pub done : Execution
  pub among : Memᴰ done ds
  pub id : id_of done.cmd ≡ r.id
  pub res : done.res ≡ r.res

pub record PointOk (plan : Plan) (Made : Packet → Type 0) (rs : List Completion) (fs : List Floor) (heard : ℕ) (p : ℕ) (ds : List Execution) (v : ReadingZ) : Type 0 where
  pub past : Past plan p ds
  pub value : v ≡ value_after plan p ds
  pub memory : (d : Execution) → Memᴰ d ds → Remembers Made rs fs heard p (id_of d.cmd)

-- a point and the records of a state, at point q
pub record At (plan : Plan) (Made : Packet → Type 0) (rs : List Completion) (fs : List Floor) (heard q : ℕ) (x : Point) : Type 0 where
  pub ok : live x.holding ≡ true → PointOk plan Made rs fs heard q x.past x.value
  pub alive : (r : Completion) → Memᴰ r rs → r.point ≡ q → live x.holding ≡ true
  pub tells : (r : Completion) → Memᴰ r rs → r.point ≡ q → Tells x.past r

abbrev pub StateOk : Plan → (Packet → Type 0) → State → Type 0
StateOk plan Made s = (q : ℕ) → At plan Made s.records s.floors s.heard q (s.points q)

pub record ImageOk (plan : Plan) (Made : Packet → Type 0) (i : Image) : Type 0 where
  pub point : PointOk plan Made i.records i.floors i.heard i.point i.past i.value
  pub on : (r : Completion) → Memᴰ r i.records → r.point ≡ i.point
  pub tells : (r : Completion) → Memᴰ r i.records → Tells i.past r

-- the packets' promises that memory rests on
pub record Honest (plan : Plan) (Made : Packet → Type 0) : Type 0 where
  pub images : (i : Image) → Made (S.image i) → ImageOk plan Made i
  pub leased : (q : Asked) → Made (S.request q) → Made (S.grant q.cmd.client q.lease)
  pub ended : (x t e : ℕ) → Made (S.notice x t) → Made (S.grant x e) → e ≤ t

module _ (plan : Plan) (Made : Packet → Type 0) (hon : Honest plan Made) where
  -- ---- memory under the changes

  -- dropping by a test what lies under floors that are not lower
  sink : (t : Completion → Bool) (rs : List Completion) (fs gs : List Floor) (h p : ℕ) (i : Id) → ((r : Completion) → t r ≡ false → r.id.call < floor_of r.id.client gs)
      → ((x : ℕ) → floor_of x fs ≤ floor_of x gs) → Remembers Made rs fs h p i → Remembers Made (keep t rs) gs h p i
  sink t rs fs gs h p i low up (recorded r m o e) = go (t r) refl
    where
      go : (b : Bool) → t r ≡ b → Remembers Made (keep t rs) gs h p i
      go true q = recorded r (keep_in t r rs m q) o e
      go false q = floored (subst (λ (j : Id). j.call < floor_of j.client gs) e (low r q))
  sink t rs fs gs h p i low up (floored c) = floored (omega (arith, up i.client))
  sink t rs fs gs h p i low up (heard_of u m l) = heard_of u m l

  under_floors : (gs : List Floor) (r : Completion) → stays_over_floors gs r ≡ false → r.id.call < floor_of r.id.client gs
  unfolding stays_over_floors
  under_floors gs r q = leb-false _ _ q

  under_floor_lem : (x : ℕ) (gs : List Floor) (r : Completion) → stays_over x (floor_of x gs) r ≡ false → r.id.call < floor_of r.id.client gs
  unfolding stays_over
  under_floor_lem x gs r q =
      let h = or-false {a = not (eqb r.id.client x)} q in
      let e = eqb-true r.id.client x (not-false _ h.0) in
      subst (λ (y : ℕ). r.id.call < floor_of y gs) (sym e) (leb-false _ _ h.1)

  -- the point's records are there, later heard
  widen : (rs ss : List Completion) (fs : List Floor) (h g p : ℕ) (i : Id)
      → ((r : Completion) → Memᴰ r rs → r.point ≡ p → (s : Completion) × Memᴰ s ss × (s.point ≡ p) × (s.id ≡ r.id)) → h ≤ g
      → Remembers Made rs fs h p i → Remembers Made ss fs g p i
  widen rs ss fs h g p i sub le (recorded r m o e) = let s = sub r m o in recorded s.0 s.1 s.2 (s.3 ∙ e)
  widen rs ss fs h g p i sub le (floored c) = floored c
  widen rs ss fs h g p i sub le (heard_of t m l) = heard_of t m (omega arith)

  -- a client goes
  goes : (rs : List Completion) (fs : List Floor) (h x t p : ℕ) (i : Id) → Made (S.notice x t) → Remembers Made rs fs h p i
      → Remembers Made (keep (is_of_other x) rs) (keep (is_not_client x) fs) (max h t) p i
  unfolding is_of_other
  goes rs fs h x t p i n m = go (eqb i.client x) refl m
    where
      go : (b : Bool) → eqb i.client x ≡ b → Remembers Made rs fs h p i → Remembers Made (keep (is_of_other x) rs) (keep (is_not_client x) fs) (max h t) p i
      go true q m = heard_of t (subst (λ (y : ℕ). Made (S.notice y t)) (sym (eqb-true _ _ q)) n) (omega arith)
      go false q (recorded r j o e) = recorded r (keep_in (is_of_other x) r rs j (ap (λ (z : Id). not (eqb z.client x)) e ∙ ap not q)) o e
      go false q (floored c) = floored (rw (without_other i.client x fs (eqb-false _ _ q)) c)
      go false q (heard_of u j l) = heard_of u j (omega arith)

  -- ---- a state that remembers executes nothing twice

  fresh : (s : State) (q : Asked) (p : ℕ) (i : Id) → Made (S.request q) → s.heard < q.lease → floor_of q.cmd.client s.floors ≤ q.cmd.call
      → ((r : Completion) → Memᴰ r s.records → r.id ≡ id_of q.cmd → ⊥) → Remembers Made s.records s.floors s.heard p i → i ≡ id_of q.cmd → ⊥
  fresh s q p i made lease floor nil (recorded r m o e) same = nil r m (e ∙ same)
  fresh s q p i made lease floor nil (floored c) same = let c' = subst (λ (j : Id). j.call < floor_of j.client s.floors) same c in omega arith
  fresh s q p i made lease floor nil (heard_of t m l) same = let le = hon.ended q.cmd.client t q.lease (subst (λ (j : Id). Made (S.notice j.client t)) same m)
      (hon.leased q made) in omega arith

  -- ---- replay keeps StateOk

  remap : (rs ss : List Completion) (fs gs : List Floor) (h g p : ℕ) (ds : List Execution) (v : ReadingZ) → ((i : Id) → Remembers Made rs fs h p i → Remembers Made ss gs g p i)
      → PointOk plan Made rs fs h p ds v → PointOk plan Made ss gs g p ds v
  remap rs ss fs gs h g p ds v f o = record { past = o.past; value = o.value; memory = λ d m. f (id_of d.cmd) (o.memory d m) }

  -- the same point over other records, of which it had those that concern it
  at_map : (rs ss : List Completion) (fs gs : List Floor) (h g q : ℕ) (x : Point) → ((i : Id) → Remembers Made rs fs h q i → Remembers Made ss gs g q i)
      → ((r : Completion) → Memᴰ r ss → r.point ≡ q → Memᴰ r rs) → At plan Made rs fs h q x → At plan Made ss gs g q x
  at_map rs ss fs gs h g q x f back a = record {
    ok = λ l. remap rs ss fs gs h g q x.past x.value f (a.ok l);
    alive = λ r m e. a.alive r (back r m e) e;
    tells = λ r m e. a.tells r (back r m e) e;
  }

  -- ---- executed

  module _ (s : State) (v : Version) (q : Asked) (t : ℕ) (res : Result) (sok : StateOk plan Made s) (made : Made (S.request q)) (isheld : (s.points q.cmd.point).holding ≡ S.held)
      (lease : s.heard < q.lease) (floor : floor_of q.cmd.client s.floors ≤ q.cmd.call) (nil : (r : Completion) → Memᴰ r s.records → r.id ≡ id_of q.cmd → ⊥)
      (is : res.answer ≡ rule_at plan v q.cmd (s.points q.cmd.point).value) (asc : Ascends s.floors) (older : (p : ℕ) (d : Execution) → Memᴰ d (s.points p).past → d.at < t) where
    abbrev new : Completion
    new = record { id = id_of q.cmd; point = q.cmd.point; res = res; place = suc s.count }

    abbrev event : Execution
    event = record { version = v; cmd = q.cmd; res = res; at = t }

    abbrev fs' : List Floor
    fs' = raise q.cmd.client q.done s.floors

    abbrev stays : Completion → Bool
    stays = stays_over q.cmd.client (floor_of q.cmd.client fs')

    abbrev all' : List Completion
    all' = s.records ++ (new ∷ [])

    abbrev rs' : List Completion
    rs' = keep stays all'

    abbrev p : ℕ
    p = q.cmd.point

    is_live : live (s.points p).holding ≡ true
    is_live = ap live isheld

    old : PointOk plan Made s.records s.floors s.heard p (s.points p).past (s.points p).value
    old = (sok p).ok is_live

    grow : (n : ℕ) (i : Id) → Remembers Made s.records s.floors s.heard n i → Remembers Made rs' fs' s.heard n i
    grow n i m = sink stays all' s.floors fs' s.heard n i (under_floor_lem q.cmd.client fs') (λ x. raise-up x q.cmd.client q.done s.floors asc)
        (widen s.records all' s.floors s.heard s.heard n i (λ r j o. (r, Memᴰ.append_left _ j, o, refl)) (omega arith) m)

    memory' : (d : Execution) → Memᴰ d (event ∷ (s.points p).past) → Remembers Made rs' fs' s.heard p (id_of d.cmd)
    memory' d m = go (Memᴰ.cases_cons m)
      where
        go : (d ≡ event) ⊎ Memᴰ d (s.points p).past → Remembers Made rs' fs' s.heard p (id_of d.cmd)
        go (inl e) = sink stays all' s.floors fs' s.heard p (id_of d.cmd) (under_floor_lem q.cmd.client fs') (λ x. raise-up x q.cmd.client q.done s.floors asc)
            (recorded new (last_in new s.records) refl (ap (λ (z : Execution). id_of z.cmd) (sym e)))
        go (inr i) = grow p (id_of d.cmd) (old.memory d i)

    executed-here : At plan Made rs' fs' s.heard p (executed_point v q.cmd res t (s.points p))
    unfolding executed_point value_after
    executed-here = record {
      ok = λ l. record {
        past = more refl (is ∙ ap (rule_at plan v q.cmd) old.value) (λ d m. fresh s q p (id_of d.cmd) made lease floor nil (old.memory d m)) (older p) old.past;
        value = refl;
        memory = memory';
      };
      alive = λ r m e. is_live;
      tells = λ r m e. tell r e (last-cases s.records (keep_out stays r all' m).0);
    }
      where
        tell : (r : Completion) → r.point ≡ p → (r ≡ new) ⊎ Memᴰ r s.records → Tells (event ∷ (s.points p).past) r
        tell r e (inl x) = record { done = event; among = Memᴰ.head refl; id = ap (λ (z : Completion). z.id) (sym x); res = ap (λ (z : Completion). z.res) (sym x) }
        tell r e (inr i) = let k = (sok p).tells r i e in record { done = k.done; among = Memᴰ.tail k.among; id = k.id; res = k.res }

    executed-ok : StateOk plan Made (apply_record s (S.executed v q.cmd q.done res) t)
    unfolding apply_record
    executed-ok = changed-cases (λ n x. At plan Made rs' fs' s.heard n x) s.points p _ executed-here
        (λ n d. at_map s.records rs' s.floors fs' s.heard s.heard n (s.points n) (grow n)
        (λ r m e. other r n d e (last-cases s.records (keep_out stays r all' m).0)) (sok n))
      where
        other : (r : Completion) (n : ℕ) → (n ≡ p → ⊥) → r.point ≡ n → (r ≡ new) ⊎ Memᴰ r s.records → Memᴰ r s.records
        other r n d e (inl x) = absurd (d (sym e ∙ ap (λ (z : Completion). z.point) x))
        other r n d e (inr i) = i

  -- ---- gone, gave, freed

  off : (p : ℕ) (c : Completion) (n : ℕ) → (n ≡ p → ⊥) → c.point ≡ n → is_on_other p c ≡ true
  unfolding is_on_other
  off p c n ne e = go (eqb c.point p) refl
    where
      go : (b : Bool) → eqb c.point p ≡ b → not b ≡ true
      go true x = absurd (ne (sym e ∙ eqb-true _ _ x))
      go false x = refl

  -- a record of point p is not of another
  on_other : (p : ℕ) (r : Completion) → r.point ≡ p → is_on_other p r ≡ true → false ≡ true
  unfolding is_on_other
  on_other p r e k = sym (ap not (eqb_same p)) ∙ ap (λ (z : ℕ). not (eqb z p)) (sym e) ∙ k

  gone-ok : (s : State) (x t u : ℕ) → Made (S.notice x t) → StateOk plan Made s → StateOk plan Made (apply_record s (S.gone x t) u)
  unfolding apply_record
  gone-ok s x t u m sok n = at_map s.records (keep (is_of_other x) s.records) s.floors (keep (is_not_client x) s.floors) s.heard (max s.heard t) n (s.points n)
      (λ j r. goes s.records s.floors s.heard x t n j m r) (λ r i e. (keep_out (is_of_other x) r s.records i).0) (sok n)

  gave-ok : (s : State) (p d m u : ℕ) → (s.points p).holding ≡ S.held → StateOk plan Made s → StateOk plan Made (apply_record s (S.gave p d m) u)
  unfolding apply_record gave_point
  gave-ok s p d m u isheld sok = changed-cases (λ n x. At plan Made s.records s.floors s.heard n x) s.points p _
      (record { ok = λ l. (sok p).ok (ap live isheld); alive = λ r i e. refl; tells = (sok p).tells }) (λ n ne. sok n)

  freed-ok : (s : State) (p m u : ℕ) → StateOk plan Made s → StateOk plan Made (apply_record s (S.freed p m) u)
  unfolding apply_record freed_point
  freed-ok s p m u sok = changed-cases (λ n x. At plan Made (keep (is_on_other p) s.records) s.floors s.heard n x) s.points p _
      (record { ok = λ l. impossible (sym l); alive = λ r i e. none_left r e i; tells = λ r i e. absurd (impossible (sym (none_left r e i))) })
      (λ n ne. at_map s.records (keep (is_on_other p) s.records) s.floors s.floors s.heard s.heard n (s.points n)
      (λ j r. widen s.records (keep (is_on_other p) s.records) s.floors s.heard s.heard n j (λ c i o. (c, keep_in (is_on_other p) c s.records i (off p c n ne o), o, refl))
      (omega arith) r)
      (λ r i e. (keep_out (is_on_other p) r s.records i).0) (sok n))
    where
      none_left : (r : Completion) → r.point ≡ p → Memᴰ r (keep (is_on_other p) s.records) → false ≡ true
      none_left r e i = on_other p r e (keep_out (is_on_other p) r s.records i).1

  -- ---- took

  module _ (s : State) (i : Image) (t : ℕ) (sok : StateOk plan Made s) (made : Made (S.image i)) (asc : Ascends s.floors) where
    abbrev n' : ℕ
    n' = suc s.count

    abbrev gs : List Floor
    gs = merge_floors i.floors s.floors

    abbrev own : List Completion
    own = keep (is_on_other i.point) s.records

    abbrev all : List Completion
    all = own ++ map (taken_record n') i.records

    abbrev ts : List Completion
    ts = keep (stays_over_floors gs) all

    abbrev h' : ℕ
    h' = max s.heard i.heard

    iok : ImageOk plan Made i
    iok = hon.images i made

    from-image : (j : Id) → Remembers Made i.records i.floors i.heard i.point j → Remembers Made ts gs h' i.point j
    from-image j m = sink (stays_over_floors gs) all i.floors gs h' i.point j (under_floors gs) (λ x. merge_to x i.floors s.floors asc)
        (widen i.records all i.floors i.heard h' i.point j
        (λ r k o. (taken_record n' r, Memᴰ.append_right own (map_in (taken_record n') r i.records k), unfold taken_record in o, unfold taken_record in refl)) (omega arith) m)

    from-own : (n : ℕ) → (n ≡ i.point → ⊥) → (j : Id) → Remembers Made s.records s.floors s.heard n j → Remembers Made ts gs h' n j
    from-own n ne j m = sink (stays_over_floors gs) all s.floors gs h' n j (under_floors gs) (λ x. merge_up x i.floors s.floors asc)
        (widen s.records all s.floors s.heard h' n j (λ r k o. (r, Memᴰ.append_left _ (keep_in (is_on_other i.point) r s.records k (off i.point r n ne o)), o, refl)) (omega arith) m)

    -- a record came with the image, or was there
    abbrev Origin : Completion → Type 0
    Origin r = ((k : Completion) × Memᴰ k i.records × (r ≡ taken_record n' k)) ⊎ (Memᴰ r s.records × (is_on_other i.point r ≡ true))

    origin : (r : Completion) → Memᴰ r ts → Origin r
    origin r m = go (Memᴰ.append_cases own (keep_out (stays_over_floors gs) r all m).0)
      where
        go : Memᴰ r own ⊎ Memᴰ r (map (taken_record n') i.records) → Origin r
        go (inl j) = inr (keep_out (is_on_other i.point) r s.records j)
        go (inr j) = inl (map-out (taken_record n') r i.records j)

    took-here : At plan Made ts gs h' i.point (took_point i)
    unfolding took_point taken_record
    took-here = record {
      ok = λ l. remap i.records ts i.floors gs i.heard h' i.point i.past i.value from-image iok.point;
      alive = λ r m e. refl;
      tells = λ r m e. tell r e (origin r m);
    }
      where
        tell : (r : Completion) → r.point ≡ i.point → Origin r → Tells i.past r
        tell r e (inl w) =
            let k = iok.tells w.0 w.1 in
            record { done = k.done; among = k.among; id = k.id ∙ sym (ap (λ (z : Completion). z.id) w.2); res = k.res ∙ sym (ap (λ (z : Completion). z.res) w.2) }
        tell r e (inr j) = impossible (sym (on_other i.point r e j.1))

    took-ok : StateOk plan Made (apply_record s (S.took i) t)
    unfolding apply_record taken_record
    took-ok = changed-cases (λ n x. At plan Made ts gs h' n x) s.points i.point _ took-here
        (λ n ne. at_map s.records ts s.floors gs s.heard h' n (s.points n) (from-own n ne) (λ r m e. back r n ne e (origin r m)) (sok n))
      where
        back : (r : Completion) (n : ℕ) → (n ≡ i.point → ⊥) → r.point ≡ n → Origin r → Memᴰ r s.records
        back r n ne e (inl w) = absurd (ne (sym e ∙ ap (λ (z : Completion). z.point) w.2 ∙ iok.on w.0 w.1))
        back r n ne e (inr j) = j.0

  -- ---- all

  pub keeps : (c : ℕ) (s : State) (r : LogRecord) (t : ℕ) → ((p : ℕ) (d : Execution) → Memᴰ d (s.points p).past → d.at < t) → Ascends s.floors → Written plan c s Made r
      → StateOk plan Made s → StateOk plan Made (apply_record s r t)
  keeps c s r t earlier asc (I.executing v q x made isheld lease floor nil is) sok = executed-ok s v q t x sok made isheld lease floor nil is asc earlier
  keeps c s r t earlier asc (I.going x time made) sok = gone-ok s x time t made sok
  keeps c s r t earlier asc (I.giving p d isheld) sok = gave-ok s p d _ t isheld sok
  keeps c s r t earlier asc (I.taking i made _ _ _) sok = took-ok s i t sok made asc
  keeps c s r t earlier asc (I.freeing p d m made g le) sok = freed-ok s p _ t sok

  pub founding-ok : (c : ℕ) → StateOk plan Made (founding plan c)
  unfolding founding founded_point value_after
  founding-ok c q = record {
    ok = λ l. record { past = begun; value = refl; memory = λ d m. absurd (Memᴰ.not-nil m) };
    alive = λ r m e. absurd (Memᴰ.not-nil m);
    tells = λ r m e. absurd (Memᴰ.not-nil m);
  }

  -- what an image of a given point holds
  pub image-ok : (s : State) (p d : ℕ) (rs : List Completion) → ((r : Completion) → Memᴰ r rs → Memᴰ r s.records × (r.point ≡ p))
      → ((r : Completion) → Memᴰ r s.records → r.point ≡ p → Memᴰ r rs) → live (s.points p).holding ≡ true → StateOk plan Made s → ImageOk plan Made (image_for s p d rs)
  unfolding image_for
  image-ok s p d rs out all l sok = record {
    point = remap s.records rs s.floors s.floors s.heard s.heard p (s.points p).past (s.points p).value
        (λ i m. widen s.records rs s.floors s.heard s.heard p i (λ r j o. (r, all r j o, o, refl)) (omega arith) m) ((sok p).ok l);
    on = λ r m. (out r m).1;
    tells = λ r m. (sok p).tells r (out r m).0 (out r m).1;
  }
