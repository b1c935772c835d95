-- A state with its log places through f: what is decided there, and what records leave.
--     placed-placed, placed-id, placed_any, placed-good, placed_same     f after g; f and g that agree
--     point-placed, find-placed       points and completion records
--     follows-placed                  the same records follow it
--     apply-placed                    a record applied
--     request-placed, fetch-placed, image-placed, receipt-placed     decisions, where f keeps what is synced
--     notice-placed, give-placed, take-placed, release-placed        for every f
-- Assumes nothing.
use Rattle.std.specs.Prelude.{Option}
use Prim.Native.Nat.{ℕ, zero, suc, ◌+◌, ◌≤◌, ◌<◌}
use mathlib.Core.Path.{◌≡◌, refl, sym, ap, ◌∙◌, fun_ext}
use mathlib.Core.Bool.{Bool, true, false, ◌&&◌, ◌||◌, not}
use mathlib.Core.List.{List, [], ◌∷◌, ◌++◌, map, map-map, map-id, map-append}
use mathlib.Core.Option
use mathlib.Core.Option.{Option as Maybe, none, some}
use native.Mathlib.Omega.{arith}
use lib.ListN.{length, get_or, set, get_or-map}
use lib.Dec.{eqb, leb}
use Rattle.model.specs.declared.Point.{Point}
use Rattle.model.specs.declared.Completion.{Completion}
use Rattle.model.specs.declared.ImageEntry.{ImageEntry}
use Rattle.model.specs.declared.Request.{Request}
use Rattle.model.specs.declared.Notice.{Notice}
use Rattle.model.specs.declared.Receipt.{Receipt}
use Rattle.model.specs.declared.Executed.{Executed}
use Rattle.model.specs.declared.Give.{Give}
use Rattle.model.specs.declared.Release.{Release}
use Rattle.model.specs.declared.Packet.{Packet}
use Rattle.model.specs.Versions.{Versions}
use Rattle.model.specs.Choice.{pick, append, is_passed, unless_refused, ◌if◌else◌}
use Rattle.model.specs.Refusals.{malformed}
use Rattle.model.specs.Limits.{last_point, give_size, take_head, release_size, head_size}
use Rattle.model.specs.Tables.{every, keep}
use Rattle.model.specs.Plan.{entry_at}
use Rattle.model.specs.Rules.{rule_of}
use Rattle.model.specs.Packets.{as_request, as_receipt}
use Rattle.model.specs.Images.{Image, image_length, image_in_range, floor_of}
use Rattle.model.specs.Logs.{LogRecord, executed, gone, gave, took, released, executed_size_of}
use Rattle.model.specs.States.{State, point_at, no_point, is_held, is_given, is_id}
use Rattle.model.specs.Apply.{raise, merge_floors, executed_point, completion, gave_point, took_point, taken_record, released_point, stays_over, stays_over_floors, is_of_other, is_on_other}
use Rattle.model.specs.Apply.{apply_executed, apply_gone, apply_gave, apply_took, apply_released, apply_record}
use Rattle.model.specs.Decisions.{Decided, timed_by, or_malformed, find, request_refusal, result_of_record, same_command, held_refusal, on_held, result_for, time_for, with_time, executed_for, new_refusal, on_new, on_id, decide_request, denying, on_request}
use Rattle.model.specs.Decisions.{fetch_refusal, on_fetched, on_fetch, decide_notice, on_notice, places_bad, give_refusal, on_give, is_on_point, entry_of_record, image_for, image_refusal, on_image}
use Rattle.model.specs.Decisions.{free_for, take_refusal, take_tests, decide_take, on_take, receipt_refusal, on_receipt, release_refusal, decide_release, on_release, is_none, follows}
use Rattle.model.specs.Checkpoints.{placed_point, placed_record, placed}
use Rattle.model_laws.specs.Bytes.{All}
use Rattle.model_laws.proofs.Tables.{every-same}
use Rattle.model_invariants.specs.Sound.{GoodEnd, GoodCompletion, SoundBy}
use Rattle.model_invariants.specs.Placed.{KeepsSynced}
use Rattle.model_invariants.proofs.Lists.{all_to, get_or_all}

-- ---- mapped lists

module _ {A B : Type 0} (f : A → B) where
  pub map_with : (g : A → B) (xs : List A) → All (λ (x : A). f x ≡ g x) xs → map f xs ≡ map g xs
  map_with g [] h = refl
  map_with g (x ∷ xs) h = rw (h.0, map_with g xs h.1)

  pub map-set : (xs : List A) (i : ℕ) (x : A) → map f (set xs i x) ≡ set (map f xs) i (f x)
  map-set [] i x = refl
  map-set (y ∷ xs) zero x = refl
  map-set (y ∷ xs) (suc i) x = ap (λ (zs : List B). f y ∷ zs) (map-set xs i x)

  -- tests that see no change
  pub keep-map : (t : B → Bool) (u : A → Bool) → ((x : A) → t (f x) ≡ u x) → (xs : List A) → keep t (map f xs) ≡ map f (keep u xs)
  unfolding keep
  keep-map t u h [] = refl
  keep-map t u h (x ∷ xs) = rw (h x) (go (u x) (keep-map t u h xs))
    where
      go : (b : Bool) → keep t (map f xs) ≡ map f (keep u xs)
          → pick b (f x ∷ keep t (map f xs)) (keep t (map f xs)) ≡ map f (pick b (x ∷ keep u xs) (keep u xs))
      go true e = ap (λ (zs : List B). f x ∷ zs) e
      go false e = e

  pub every_map : (t : B → Bool) (u : A → Bool) → ((x : A) → t (f x) ≡ u x) → (xs : List A) → every t (map f xs) ≡ every u xs
  unfolding every
  every_map t u h [] = refl
  every_map t u h (x ∷ xs) = rw (h x, every_map t u h xs)

-- ---- f after g, f and g that agree

pub placed-placed : (f g : ℕ → ℕ) (st : State) → placed f (placed g st) ≡ placed (λ (e : ℕ). f (g e)) st
unfolding placed placed_point placed_record
placed-placed f g st =
    let h : ℕ → ℕ = λ (e : ℕ). f (g e) in
    let xs : map (placed_point f) (map (placed_point g) st.points) ≡ map (placed_point h) st.points = map-map (placed_point f) (placed_point g) st.points in
    let rs : map (placed_record f) (map (placed_record g) st.records) ≡ map (placed_record h) st.records = map-map (placed_record f) (placed_record g) st.records in
    rw (xs, rs)

pub placed_any : (f g : ℕ → ℕ) → ((e : ℕ) → f e ≡ g e) → (st : State) → placed f st ≡ placed g st
placed_any f g h st = ap (λ (k : ℕ → ℕ). placed k st) (fun_ext h)

-- f and g agree on the places of the state
placed_with : (f g : ℕ → ℕ) (st : State) → f st.size ≡ g st.size → f st.mark ≡ g st.mark
    → All (λ (x : Point). placed_point f x ≡ placed_point g x) st.points → All (λ (r : Completion). placed_record f r ≡ placed_record g r) st.records
    → placed f st ≡ placed g st
unfolding placed
placed_with f g st s m ps rs =
    let xs = map_with (placed_point f) (placed_point g) st.points ps in
    let ys = map_with (placed_record f) (placed_record g) st.records rs in
    rw (s, m, xs, ys)

module _ (f g : ℕ → ℕ) (size : ℕ) (h : (e : ℕ) → GoodEnd size e → f e ≡ g e) where
  point_agrees : (x : Point) → GoodEnd size x.give_end → GoodEnd size x.take_end → placed_point f x ≡ placed_point g x
  unfolding placed_point
  point_agrees x k l = rw (h x.give_end k, h x.take_end l)

  record_agrees : (r : Completion) → head_size ≤ r.end → r.end ≤ size → placed_record f r ≡ placed_record g r
  unfolding placed_record
  record_agrees r k l = rw (h r.end (record { past = λ (z : r.end ≡ 0 → ⊥). k; within = l }))

-- on every place that a sound state may have
pub placed-good : {P : ℕ → Type 0} (f g : ℕ → ℕ) (st : State) → SoundBy P st → ((e : ℕ) → GoodEnd st.size e → f e ≡ g e) → placed f st ≡ placed g st
unfolding point_at
placed-good f g st S h =
    let size : f st.size ≡ g st.size = h st.size (record { past = λ (z : st.size ≡ 0 → ⊥). omega (arith, S.head, S.mark); within = omega arith }) in
    let mark : f st.mark ≡ g st.mark = h st.mark (record { past = λ (z : st.mark ≡ 0 → ⊥). S.head; within = S.mark }) in
    placed_with f g st size mark
    (get_or_all (λ (x : Point). placed_point f x ≡ placed_point g x) no_point st.points
    (λ (i : ℕ) (l : i < length st.points).
    let k : i ≤ last_point = omega (arith, S.points) in
    let G = S.point i k in
    point_agrees f g st.size h (get_or st.points i no_point) G.give_end G.take_end))
    (all_to st.records (λ (r : Completion) (G : GoodCompletion st.plan st.size r). record_agrees f g st.size h r G.past G.within) S.records)

pub placed_same : {P : ℕ → Type 0} (f g : ℕ → ℕ) (st : State) → SoundBy P st → ((e : ℕ) → e ≤ st.size → f e ≡ g e) → placed f st ≡ placed g st
placed_same f g st S h = placed-good f g st S (λ (e : ℕ) (k : GoodEnd st.size e). h e k.within)

pub placed-id : (st : State) → placed (λ (e : ℕ). e) st ≡ st
unfolding placed placed_point placed_record
placed-id st =
    let xs : map (placed_point (λ (e : ℕ). e)) st.points ≡ st.points = map-id st.points in
    let rs : map (placed_record (λ (e : ℕ). e)) st.records ≡ st.records = map-id st.records in
    rw (xs, rs)

-- ---- points and completion records

-- what does not read the ends of a point
of_point : {X : Type 0} (h : Point → X) (f : ℕ → ℕ) → ((x : Point) → h (placed_point f x) ≡ h x) → (xs : List Point) (p : ℕ)
    → h (get_or (map (placed_point f) xs) p no_point) ≡ h (get_or xs p no_point)
of_point h f e [] p = refl
of_point h f e (x ∷ xs) zero = e x
of_point h f e (x ∷ xs) (suc p) = of_point h f e xs p

module _ {X : Type 0} (h : Point → X) (f : ℕ → ℕ) (e : (x : Point) → h (placed_point f x) ≡ h x) where
  at-point : (st : State) (p : ℕ) → h (point_at (placed f st) p) ≡ h (point_at st p)
  unfolding point_at placed
  at-point st p = of_point h f e st.points p

no_point_lem : (f : ℕ → ℕ) → f 0 ≡ 0 → placed_point f no_point ≡ no_point
unfolding placed_point
no_point_lem f z = rw z

pub point-placed : (f : ℕ → ℕ) → f 0 ≡ 0 → (st : State) (p : ℕ) → point_at (placed f st) p ≡ placed_point f (point_at st p)
unfolding point_at placed
point-placed f z st p =
    ap (get_or (map (placed_point f) st.points) p) (sym (no_point_lem f z)) ∙ get_or-map (placed_point f) st.points p no_point

pub find-placed : (f : ℕ → ℕ) (x c : ℕ) (rs : List Completion) → find x c (map (placed_record f) rs) ≡ Option.map (placed_record f) (find x c rs)
unfolding find placed_record is_id
find-placed f x c [] = refl
find-placed f x c (r ∷ rs) = go (is_id x c r) (find-placed f x c rs)
  where
    go : (b : Bool) → find x c (map (placed_record f) rs) ≡ Option.map (placed_record f) (find x c rs)
        → pick b (some (placed_record f r)) (find x c (map (placed_record f) rs)) ≡ Option.map (placed_record f) (pick b (some r) (find x c rs))
    go true e = refl
    go false e = e

-- ---- the same records follow

none-placed : (f : ℕ → ℕ) (o : Maybe Completion) → is_none (Option.map (placed_record f) o) ≡ is_none o
unfolding is_none
none-placed f none = refl
none-placed f (some r) = refl

free-placed : (f : ℕ → ℕ) (p : ℕ) (rs : List Completion) (e : ImageEntry) → free_for p (map (placed_record f) rs) e ≡ free_for p rs e
unfolding free_for placed_record is_id
free-placed f p rs e =
    let t : Completion → Bool = λ (r : Completion). not (is_id e.client e.call r) || eqb r.command.point p in
    every_map (placed_record f) t t (λ (r : Completion). refl) rs

tests-placed : (f : ℕ → ℕ) (st : State) (free : ℕ) (i : Image) → take_tests (placed f st) free i ≡ take_tests st free i
unfolding take_tests placed
tests-placed f st free i =
    let ranged : Bool = image_in_range (entry_at st.plan i.point) i in
    let merged : ℕ = length (merge_floors i.floors st.floors) in
    let need : ℕ = take_head + image_length i in
    let h : Bool → Point → ℕ = λ (ids : Bool) (x : Point). take_refusal x st.server i.destination i.move_number ranged ids merged free need in
    let ids : Bool = every (free_for i.point st.records) i.entries in
    ap (λ (b : Bool). h b (point_at (placed f st) i.point))
    (every-same (free_for i.point (map (placed_record f) st.records)) (free_for i.point st.records) (free-placed f i.point st.records) i.entries)
    ∙ at-point (h ids) f (λ (x : Point). unfold take_refusal placed_point is_held in refl) st i.point

executed-placed : (f : ℕ → ℕ) (st : State) (x : Executed) → follows (placed f st) (executed x) ≡ follows st (executed x)
unfolding follows placed
executed-placed f st x =
    let c = x.command in
    let asks : Point → Bool = λ (y : Point). is_passed (request_refusal y false (floor_of c.client st.floors) c.call) in
    let a : asks (point_at (placed f st) c.point) ≡ asks (point_at st c.point)
    = at-point asks f (λ (y : Point). unfold request_refusal placed_point is_held in refl) st c.point in
    let b : is_none (find c.client c.call (map (placed_record f) st.records)) ≡ is_none (find c.client c.call st.records)
    = ap is_none (find-placed f c.client c.call st.records) ∙ none-placed f (find c.client c.call st.records) in
    rw (a, b)

gave-placed : (f : ℕ → ℕ) (st : State) (g : Give) → follows (placed f st) (gave g) ≡ follows st (gave g)
unfolding follows placed give_refusal placed_point is_held
gave-placed f st g =
    let h : Point → Bool = λ (y : Point). is_passed (give_refusal y st.server give_size g.destination) && eqb g.move_number (suc y.move_number) in
    ap (λ (b : Bool). not (places_bad g.point g.destination) && b) (at-point h f (λ (y : Point). refl) st g.point)

released-placed : (f : ℕ → ℕ) (st : State) (r : Release) → follows (placed f st) (released r) ≡ follows st (released r)
unfolding follows release_refusal placed_point is_given
released-placed f st r =
    let h : Point → Bool = λ (y : Point). is_passed (release_refusal y release_size r.move_number) && eqb r.move_number y.move_number in
    at-point h f (λ (y : Point). refl) st r.point

pub follows-placed : (f : ℕ → ℕ) (st : State) (r : LogRecord) → follows (placed f st) r ≡ follows st r
unfolding follows placed
follows-placed f st (executed x) = executed-placed f st x
follows-placed f st (gone n) = refl
follows-placed f st (gave g) = gave-placed f st g
follows-placed f st (took i) = ap is_passed (tests-placed f st (take_head + image_length i) i)
follows-placed f st (released r) = released-placed f st r

-- ---- a record applied

module _ (f : ℕ → ℕ) (z : f 0 ≡ 0) (st : State) where
  -- a point is set to what h makes of it
  set-placed : (h k : Point → Point) → ((x : Point) → h (placed_point f x) ≡ placed_point f (k x)) → (p : ℕ)
      → set (map (placed_point f) st.points) p (h (point_at (placed f st) p)) ≡ map (placed_point f) (set st.points p (k (point_at st p)))
  set-placed h k e p =
      ap (λ (x : Point). set (map (placed_point f) st.points) p (h x)) (point-placed f z st p)
      ∙ ap (set (map (placed_point f) st.points) p) (e (point_at st p))
      ∙ sym (map-set (placed_point f) st.points p (k (point_at st p)))

  -- a test that does not read the ends of records
  kept-placed : (t : Completion → Bool) → ((r : Completion) → t (placed_record f r) ≡ t r) → (rs : List Completion)
      → keep t (map (placed_record f) rs) ≡ map (placed_record f) (keep t rs)
  kept-placed t h rs = keep-map (placed_record f) t t h rs

  apply-executed : (x : Executed) (end : ℕ) → apply_executed x (f end) (placed f st) ≡ placed f (apply_executed x end st)
  unfolding apply_executed placed
  apply-executed x end =
      let c = x.command in
      let fs = raise c.client x.done st.floors in
      let t : Completion → Bool = stays_over c.client (floor_of c.client fs) in
      let xs = set-placed (executed_point x) (executed_point x) (λ (y : Point). unfold executed_point placed_point in refl) c.point in
      let ns : map (placed_record f) st.records ++ (completion x (f end) ∷ []) ≡ map (placed_record f) (st.records ++ (completion x end ∷ []))
      = unfold completion placed_record in sym (map-append (placed_record f) st.records (completion x end ∷ [])) in
      let rs : keep t (map (placed_record f) st.records ++ (completion x (f end) ∷ [])) ≡ map (placed_record f) (keep t (st.records ++ (completion x end ∷ [])))
      = ap (keep t) ns
      ∙ kept-placed t (λ (r : Completion). unfold stays_over placed_record in refl) (st.records ++ (completion x end ∷ [])) in
      rw (xs, rs)

  apply-gone : (n : Notice) (end : ℕ) → apply_gone n (f end) (placed f st) ≡ placed f (apply_gone n end st)
  unfolding apply_gone placed
  apply-gone n end =
      let rs = kept-placed (is_of_other n.client) (λ (r : Completion). unfold is_of_other placed_record in refl) st.records in
      rw rs

  apply-gave : (g : Give) (end : ℕ) → apply_gave g (f end) (placed f st) ≡ placed f (apply_gave g end st)
  unfolding apply_gave placed
  apply-gave g end =
      let xs = set-placed (gave_point g (f end)) (gave_point g end) (λ (y : Point). unfold gave_point placed_point in refl) g.point in
      rw xs

  took-point : (i : Image) (end : ℕ) → took_point i (f end) ≡ placed_point f (took_point i end)
  unfolding took_point placed_point
  took-point i end = rw z

  apply-took : (i : Image) (end : ℕ) → apply_took i (f end) (placed f st) ≡ placed f (apply_took i end st)
  unfolding apply_took placed
  apply-took i end =
      let fs = merge_floors i.floors st.floors in
      let t : Completion → Bool = is_on_other i.point in
      let u : Completion → Bool = stays_over_floors fs in
      let news = map (taken_record i.point end) i.entries in
      let xs : set (map (placed_point f) st.points) i.point (took_point i (f end)) ≡ map (placed_point f) (set st.points i.point (took_point i end))
      = ap (set (map (placed_point f) st.points) i.point) (took-point i end) ∙ sym (map-set (placed_point f) st.points i.point (took_point i end)) in
      let ns : map (taken_record i.point (f end)) i.entries ≡ map (placed_record f) news
      = unfold taken_record placed_record in sym (map-map (placed_record f) (taken_record i.point end) i.entries) in
      let os : keep t (map (placed_record f) st.records) ≡ map (placed_record f) (keep t st.records)
      = kept-placed t (λ (r : Completion). unfold is_on_other placed_record in refl) st.records in
      let rs : keep u (keep t (map (placed_record f) st.records) ++ map (taken_record i.point (f end)) i.entries) ≡ map (placed_record f) (keep u (keep t st.records ++ news))
      = ap (λ (ys : List Completion). keep u (ys ++ map (taken_record i.point (f end)) i.entries)) os
      ∙ ap (λ (ys : List Completion). keep u (map (placed_record f) (keep t st.records) ++ ys)) ns
      ∙ ap (keep u) (sym (map-append (placed_record f) (keep t st.records) news))
      ∙ kept-placed u (λ (r : Completion). unfold stays_over_floors placed_record in refl) (keep t st.records ++ news) in
      rw (xs, rs)

  apply-released : (r : Release) (end : ℕ) → apply_released r (f end) (placed f st) ≡ placed f (apply_released r end st)
  unfolding apply_released placed
  apply-released r end =
      let xs = set-placed released_point released_point (λ (y : Point). unfold released_point placed_point in refl) r.point in
      let rs = kept-placed (is_on_other r.point) (λ (q : Completion). unfold is_on_other placed_record in refl) st.records in
      rw (xs, rs)

pub apply-placed : (f : ℕ → ℕ) → f 0 ≡ 0 → (r : LogRecord) (end : ℕ) (st : State) → apply_record r (f end) (placed f st) ≡ placed f (apply_record r end st)
unfolding apply_record
apply-placed f z (executed x) end st = apply-executed f z st x end
apply-placed f z (gone n) end st = apply-gone f z st n end
apply-placed f z (gave g) end st = apply-gave f z st g end
apply-placed f z (took i) end st = apply-took f z st i end
apply-placed f z (released r) end st = apply-released f z st r end

-- ---- decisions

-- decided alike on every packet of the kind asked for
decided-alike : {A : Type 0} (o : Maybe A) (h k : A → Decided) → ((x : A) → h x ≡ k x) → or_malformed o h ≡ or_malformed o k
unfolding or_malformed
decided-alike none h k e = refl
decided-alike (some x) h k e = e x

-- a refusal that reads a point's end against the mark
synced-point : (f : ℕ → ℕ) (st : State) → f 0 ≡ 0 → (h k : Point → ℕ) → ((x : Point) → h (placed_point f x) ≡ k x) → (p : ℕ) → h (point_at (placed f st) p) ≡ k (point_at st p)
synced-point f st z h k e p = ap h (point-placed f z st p) ∙ e (point_at st p)

module _ (f : ℕ → ℕ) (st : State) where
  -- the form that a program writes it in
  pub timed-placed : (v : Versions) → timed_by v (placed f st) ≡ timed_by v st
  unfolding timed_by placed
  timed-placed v =
      let t : every (λ (r : Completion). eqb r.result.time 0) (map (placed_record f) st.records) ≡ every (λ (r : Completion). eqb r.result.time 0) st.records
      = every_map (placed_record f) (λ (r : Completion). eqb r.result.time 0) (λ (r : Completion). eqb r.result.time 0) (λ (r : Completion). unfold placed_record in refl) st.records in
      rw t

  executed_for_lem : (v : Versions) (q : Request) → executed_for v (placed f st) q ≡ executed_for v st q
  unfolding executed_for result_for time_for placed placed_point
  executed_for_lem v q =
      let c = q.command in
      at-point
      (λ (x : Point).
      record {
        command = c;
        done = q.done;
        result =
            with_time (pick v.timed st.heard 0)
            (rule_of (v.rule c.op) (entry_at st.plan c.point) c.op c.argument (record { value = x.value; quality = x.quality }));
        timed = v.timed;
      })
      f (λ (x : Point). refl) st c.point

  new_placed : (v : Versions) (free : ℕ) (q : Request) → on_new v (placed f st) free q ≡ on_new v st free q
  unfolding on_new placed
  new_placed v free q =
      ap (λ (x : Executed). unless_refused (new_refusal (floor_of q.command.client st.floors) (length st.floors) free (executed_size_of v.timed)) (append (executed x)))
      (executed_for_lem v q)

  module _ (s : KeepsSynced f st.mark) where
    held-placed : (v : Versions) (q : Request) (r : Completion) → on_held v (placed f st) q (placed_record f r) ≡ on_held v st q r
    unfolding on_held held_refusal same_command result_of_record placed placed_record
    held-placed v q r = rw (s r.end, timed-placed v)

    id-placed : (v : Versions) (free : ℕ) (q : Request) (o : Maybe Completion) → on_id v (placed f st) free q (Option.map (placed_record f) o) ≡ on_id v st free q o
    unfolding on_id
    id-placed v free q none = new_placed v free q
    id-placed v free q (some r) = held-placed v q r

    decide_placed : (v : Versions) (free : ℕ) (q : Request) → decide_request v (placed f st) free q ≡ decide_request v st free q
    unfolding decide_request placed
    decide_placed v free q =
        let c = q.command in
        let asks : Point → ℕ = λ (x : Point). request_refusal x (leb q.lease st.heard) (floor_of c.client st.floors) c.call in
        let a : asks (point_at (placed f st) c.point) ≡ asks (point_at st c.point)
        = at-point asks f (λ (x : Point). unfold request_refusal placed_point is_held in refl) st c.point in
        let b : on_id v (placed f st) free q (find c.client c.call (map (placed_record f) st.records)) ≡ on_id v st free q (find c.client c.call st.records)
        = ap (on_id v (placed f st) free q) (find-placed f c.client c.call st.records) ∙ id-placed v free q (find c.client c.call st.records) in
        rw (a, b)

    pub request-placed : (v : Versions) (free : ℕ) (p : Option Packet) → on_request v (placed f st) free p ≡ on_request v st free p
    unfolding on_request
    request-placed v free p =
        decided-alike (as_request p) (λ (q : Request). denying q (decide_request v (placed f st) free q)) (λ (q : Request). denying q (decide_request v st free q))
        (λ (q : Request). ap (denying q) (decide_placed v free q))

    fetched_placed : (v : Versions) (o : Maybe Completion) → on_fetched v (placed f st) (Option.map (placed_record f) o) ≡ on_fetched v st o
    unfolding on_fetched fetch_refusal result_of_record placed placed_record
    fetched_placed v none = refl
    fetched_placed v (some r) = rw (s r.end, timed-placed v)

    pub fetch-placed : (v : Versions) (x c : ℕ) → on_fetch v (placed f st) x c ≡ on_fetch v st x c
    unfolding on_fetch placed
    fetch-placed v x c = ap (on_fetched v (placed f st)) (find-placed f x c st.records) ∙ fetched_placed v (find x c st.records)

    module _ (z : f 0 ≡ 0) where
      image_for_lem : (v : Versions) (p : ℕ) → image_for v (placed f st) p ≡ image_for v st p
      unfolding image_for placed placed_point
      image_for_lem v p =
          let es : map entry_of_record (keep (is_on_point p) (map (placed_record f) st.records)) ≡ map entry_of_record (keep (is_on_point p) st.records)
          = ap (map entry_of_record) (keep-map (placed_record f) (is_on_point p) (is_on_point p) (λ (r : Completion). unfold is_on_point placed_record in refl) st.records)
          ∙ unfold entry_of_record placed_record in map-map entry_of_record (placed_record f) (keep (is_on_point p) st.records) in
          rw (es, point-placed f z st p, timed-placed v)

      pub image-placed : (v : Versions) (p : ℕ) → on_image v (placed f st) p ≡ on_image v st p
      unfolding on_image placed
      image-placed v p =
          let a : image_refusal (point_at (placed f st) p) (placed f st).mark ≡ image_refusal (point_at st p) st.mark
          = synced-point f st z (λ (x : Point). image_refusal x (f st.mark)) (λ (x : Point). image_refusal x st.mark)
          (λ (x : Point). unfold image_refusal placed_point is_given in rw (s x.give_end)) p in
          rw (a, image_for_lem v p)

      pub receipt-placed : (p : ℕ) → on_receipt (placed f st) p ≡ on_receipt st p
      unfolding on_receipt placed
      receipt-placed p =
          let a : receipt_refusal (point_at (placed f st) p) (placed f st).mark ≡ receipt_refusal (point_at st p) st.mark
          = synced-point f st z (λ (x : Point). receipt_refusal x (f st.mark)) (λ (x : Point). receipt_refusal x st.mark)
          (λ (x : Point). unfold receipt_refusal placed_point in rw (s x.take_end)) p in
          let m : (point_at (placed f st) p).taken_move ≡ (point_at st p).taken_move = at-point (λ (x : Point). x.taken_move) f (λ (x : Point). unfold placed_point in refl) st p in
          rw (a, m)

  pub notice-placed : (free : ℕ) (p : Option Packet) → on_notice (placed f st) free p ≡ on_notice st free p
  unfolding on_notice decide_notice placed
  notice-placed free p = refl

  pub give-placed : (free p d : ℕ) → on_give (placed f st) free p d ≡ on_give st free p d
  unfolding on_give placed
  give-placed free p d =
      let h : Point → Decided
      = λ (x : Point). unless_refused (malformed if places_bad p d else give_refusal x st.server free d) (append (gave (record { point = p; destination = d; move_number = suc x.move_number }))) in
      at-point h f (λ (x : Point). unfold give_refusal placed_point is_held in refl) st p

  pub take-placed : (free : ℕ) (o : Maybe Image) → on_take (placed f st) free o ≡ on_take st free o
  unfolding on_take decide_take
  take-placed free o =
      decided-alike o (decide_take (placed f st) free) (decide_take st free) (λ (i : Image). ap (λ (n : ℕ). unless_refused n (append (took i))) (tests-placed f st free i))

  pub release-placed : (free : ℕ) (p : Option Packet) → on_release (placed f st) free p ≡ on_release st free p
  unfolding on_release decide_release
  release-placed free p =
      decided-alike (as_receipt p) (λ (r : Receipt). decide_release (placed f st) free r.point r.move_number) (λ (r : Receipt). decide_release st free r.point r.move_number)
      (λ (r : Receipt).
      at-point
      (λ (x : Point). unless_refused (release_refusal x free r.move_number) (append (released (record { point = r.point; move_number = x.move_number }))))
      f (λ (x : Point). unfold release_refusal placed_point is_given in refl) st r.point)
