-- Replay in both worlds: the states of a log are alike; what recovery makes of it.
--     chain-alike              the replay of a log
--     alike-mark               with another mark
--     replay-mark              its mark
--     chain-recovers           recovery gives the replay
--     chain-drop               an earlier log
-- Assumes nothing.
use Prim.Native.Nat.{ℕ, zero, suc, ◌+◌, ◌≤◌, ◌<◌}
use mathlib.Core.Path.{◌≡◌, refl, sym, ap, ◌∙◌, subst}
use mathlib.Core.Bool.{Bool, true, false}
use mathlib.Core.List.{List, [], ◌∷◌, ◌++◌, map}
use mathlib.Core.Option.{some}
use native.Mathlib.Omega.{arith}
use lib.ListN.{length, get_or, drop}
use lib.Dec.{eqb}
use Rattle.model.specs.declared.PlanEntry.{PlanEntry}
use Rattle.model.specs.declared.Point.{Point}
use Rattle.model.specs.declared.Completion.{Completion}
use Rattle.model.specs.Choice.{pick}
use Rattle.model.specs.Limits.{last_point, last_server, head_size}
use Rattle.model.specs.Plan.{entry_at, no_entry}
use Rattle.model.specs.Sequential.{reading_meant, entry_z, opened}
use Rattle.model.specs.Logs.{LogRecord, executed, gone, gave, took, released, record_size}
use Rattle.model.specs.States.{State, point_at, no_point, absent, held, given, released_status}
use Rattle.model.specs.Apply.{apply_record, apply_executed, apply_gone, apply_gave, apply_took, apply_released, apply, founded_point, founded, replay_from, replay, with_mark}
use Rattle.model.specs.Operations.{recovered}
use Rattle.model_laws.proofs.Tables.{all_member}
use Rattle.model_laws.proofs.Logs.{record-least}
use Rattle.model_invariants.specs.Sound.{SoundBy, GoodCompletion, GoodRecord}
use Rattle.model_invariants.specs.History.{GoodPlan}
use Rattle.model_invariants.proofs.Lists.{all_to}
use Rattle.model_invariants.proofs.Kept.{founded_by, decided-good, decided-follows, decided-sound}
use Rattle.model_invariants.proofs.Recovery.{replay-next, recovered-next, apply-size}
use Rattle.proof_protocol.specs.Servers as S
use Rattle.proof_records.specs.Likeness.{Pair, place_of, entries_in, abstract_in, reading_of, completion_of, holding_of, PointLike, StateLike, AnyLength, Chain, Alike}
use Rattle.proof_records.proofs.Mapped.{mapped_map, mapped_with}
use Rattle.proof_records.proofs.Places.{place_old, place_new}
use Rattle.proof_records.proofs.Applied.{record-like}

-- ---- what no record changes

pub apply-fixed : (r : LogRecord) (end : ℕ) (st : State) → ((apply_record r end st).plan ≡ st.plan) × ((apply_record r end st).server ≡ st.server) × ((apply_record r end st).mark ≡ st.mark)
unfolding apply_record apply_executed apply_gone apply_gave apply_took apply_released
apply-fixed (executed x) end st = (refl, refl, refl)
apply-fixed (gone n) end st = (refl, refl, refl)
apply-fixed (gave g) end st = (refl, refl, refl)
apply-fixed (took i) end st = (refl, refl, refl)
apply-fixed (released r) end st = (refl, refl, refl)

count_next : (s : S.State) (a : S.LogRecord) (t : ℕ) → (S.apply_record s a t).count ≡ suc s.count
unfolding S.apply_record
count_next s (S.executed v k d r) t = refl
count_next s (S.gone x y) t = refl
count_next s (S.gave p d m) t = refl
count_next s (S.took i) t = refl
count_next s (S.freed p m) t = refl

-- ---- founding

get_d_map : {A B : Type 0} (f : A → B) (xs : List A) (p : ℕ) (d : B) (e : A) → p < length xs → get_or (map f xs) p d ≡ f (get_or xs p e)
get_d_map f [] p d e h = absurd (omega arith)
get_d_map f (x ∷ xs) zero d e h = refl
get_d_map f (x ∷ xs) (suc p) d e h = get_d_map f xs p d e (omega arith)

founded-point : (plan : List PlanEntry) (c p : ℕ) → PointLike [] (founded_point c (entry_at plan p)) (S.founded_point plan c p)
unfolding founded_point S.founded_point holding_of place_of reading_of reading_meant opened entry_z
founded-point plan c p = record { holding = holding (eqb (entry_at plan p).home c); move = refl; taken = refl; value = refl }
  where
    holding : (b : Bool) → pick b S.held S.absent
        ≡ pick (eqb (pick b held absent) held) S.held (pick (eqb (pick b held absent) given) (S.given 0 0) (pick (eqb (pick b held absent) released_status) S.released S.absent))
    holding true = refl
    holding false = refl

alike-founded : (plan : List PlanEntry) (c : ℕ) → GoodPlan plan → c ≤ last_server → Alike plan c [] (founded plan c) (S.founding plan c)
unfolding founded S.founding point_at entry_at
alike-founded plan c g h =
    record {
      like =
          record {
            points = λ (p : ℕ) (l : p ≤ last_point). rw (get_d_map (founded_point c) plan p no_point no_entry (omega (arith, g.length))) (founded-point plan c p);
            floors = refl;
            records = mapped_map (completion_of []) [];
            heard = refl;
          };
      count = refl;
      rising = tt;
      within = tt;
      sound = (founded_by tt plan c g h).sound;
      planned = refl;
      server = refl;
    }

-- ---- a log grown by one entry

module _ (z : Pair) (zs : List Pair) where
  point_grow : (x : Point) (y : S.Point) → x.give_end < z.entry.end → PointLike zs x y → PointLike (z ∷ zs) x y
  unfolding holding_of
  point_grow x y g P = record { holding = rw (place_old z zs x.give_end g) P.holding; move = P.move; taken = P.taken; value = P.value }

  completion_grow : (r : Completion) → r.end < z.entry.end → completion_of zs r ≡ completion_of (z ∷ zs) r
  unfolding completion_of
  completion_grow r h = rw (place_old z zs r.end h)

  like_grow : (st : State) (s : S.State) → SoundBy AnyLength st → st.size < z.entry.end → StateLike zs st s → StateLike (z ∷ zs) st s
  like_grow st s G h T =
      record {
        points = λ (p : ℕ) (l : p ≤ last_point). point_grow (point_at st p) (s.points p) (omega (arith, (G.point p l).give_end.within)) (T.points p l);
        floors = T.floors;
        records =
            mapped_with (completion_of zs) (completion_of (z ∷ zs))
            (λ r m. completion_grow r (let g = all_member (GoodCompletion st.plan st.size) G.records m in omega (arith, g.within))) T.records;
        heard = T.heard;
      }

-- one more record
alike_next : (plan : List PlanEntry) (c : ℕ) (z : Pair) (zs : List Pair) (st : State) (s : S.State) → Alike plan c zs st s → GoodRecord z.entry.item
    → z.entry.end ≡ st.size + record_size z.entry.item → SoundBy AnyLength (apply st z.entry) → Alike plan c (z ∷ zs) (apply st z.entry) (S.apply s z.abstract)
unfolding apply S.apply
alike_next plan c z zs st s A G e N =
    let r = z.entry.item in
    let end = z.entry.end in
    let l : st.size < end = omega (arith, record-least r) in
    let placed : place_of (z ∷ zs) end ≡ suc s.count = place_new z zs st.size A.within l ∙ ap suc (sym A.count) in
    let size : (apply_record r end st).size ≡ end = apply-size r end st in
    let fixed = apply-fixed r end st in
    record {
      like = record-like (z ∷ zs) st s end z.abstract.at (like_grow z zs st s A.sound l A.like) A.sound.points placed r z.abstract.item z.like G;
      count = count_next s z.abstract.item z.abstract.at ∙ ap suc A.count;
      rising = (all_to zs (λ (y : Pair) (h : y.entry.end ≤ st.size). omega arith) A.within, A.rising);
      within = rw size (omega arith, all_to zs (λ (y : Pair) (h : y.entry.end ≤ st.size). omega arith) A.within);
      sound = N;
      planned = fixed.0 ∙ A.planned;
      server = fixed.1 ∙ A.server;
    }

-- ---- replay and recovery

-- replay leaves the founding's mark
pub replay-mark : (plan : List PlanEntry) (c : ℕ) (zs : List Pair) → (replay plan c (entries_in zs)).mark ≡ head_size
unfolding entries_in replay replay_from founded apply
replay-mark plan c [] = refl
replay-mark plan c (z ∷ zs) =
    ap (λ (x : State). x.mark) (replay-next plan c (entries_in zs) z.entry) ∙ ((apply-fixed z.entry.item z.entry.end (replay plan c (entries_in zs))).2 ∙ replay-mark plan c zs)

module _ (plan : List PlanEntry) (c : ℕ) (g : GoodPlan plan) (h : c ≤ last_server) where
  pub chain-alike : (zs : List Pair) → Chain plan c zs → Alike plan c zs (replay plan c (entries_in zs)) (S.replay plan c (abstract_in zs))
  unfolding entries_in abstract_in replay replay_from S.replay
  chain-alike [] d = alike-founded plan c g h
  chain-alike (z ∷ zs) d =
      let st = replay plan c (entries_in zs) in
      let L = d.0 in
      let A = chain-alike zs d.1 in
      let k : replay plan c (entries_in zs ++ (z.entry ∷ [])) ≡ apply st z.entry = replay-next plan c (entries_in zs) z.entry in
      let N : SoundBy AnyLength (apply st z.entry) = next st z.entry.item z.entry.end L.end (decided-sound st L.free z.entry.item A.sound L.decides tt) in
      subst (λ (x : State). Alike plan c (z ∷ zs) x (S.apply (S.replay plan c (abstract_in zs)) z.abstract)) (sym k)
      (alike_next plan c z zs st (S.replay plan c (abstract_in zs)) A (decided-good st L.free z.entry.item A.sound L.decides) L.end N)
    where
      next : (st : State) (r : LogRecord) (end : ℕ) → end ≡ st.size + record_size r → SoundBy AnyLength (apply_record r (st.size + record_size r) st)
          → SoundBy AnyLength (apply st (record { item = r; end = end }))
      next st r end e s = unfold apply in rw e s

  pub chain-recovers : (zs : List Pair) → Chain plan c zs → recovered (founded plan c) (entries_in zs) ≡ some (replay plan c (entries_in zs))
  unfolding entries_in recovered replay replay_from
  chain-recovers [] d = refl
  chain-recovers (z ∷ zs) d =
      let st = replay plan c (entries_in zs) in
      let A = chain-alike zs d.1 in
      recovered-next (founded plan c) st (entries_in zs) z.entry (chain-recovers zs d.1) (decided-follows st d.0.free z.entry.item A.sound d.0.decides)
      ∙ ap some (sym (replay-next plan c (entries_in zs) z.entry))

pub chain-drop : (plan : List PlanEntry) (c j : ℕ) (zs : List Pair) → Chain plan c zs → Chain plan c (drop j zs)
chain-drop plan c zero zs d = d
chain-drop plan c (suc j) [] d = d
chain-drop plan c (suc j) (z ∷ zs) d = chain-drop plan c j zs d.1

-- with any mark that leaves the state sound
pub alike-mark : (plan : List PlanEntry) (c m : ℕ) (zs : List Pair) (st : State) (s : S.State) → Alike plan c zs st s → SoundBy AnyLength (with_mark m st) → Alike plan c zs (with_mark m st) s
unfolding with_mark point_at
alike-mark plan c m zs st s A N =
    record {
      like = record { points = A.like.points; floors = A.like.floors; records = A.like.records; heard = A.like.heard };
      count = A.count;
      rising = A.rising;
      within = A.within;
      sound = N;
      planned = A.planned;
      server = A.server;
    }
