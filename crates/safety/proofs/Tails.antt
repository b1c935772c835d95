-- The tail of a checkpoint, and the whole log.
--     whole-recovers           recovery over records from the whole log gives the state that the tail's replay is, places aside
--     in_force, in_force_slice recovery by what is in force gives the tail's replay; also from a slice that begins with the checkpoint
--     cut-continues            a crash cuts the tail and the whole log alike
--     recovered-shown, recovered-some, synced-shown     what a crashed server, and the synced part of a log, come to
-- Assumes nothing.
use Prim.Native.Nat.{ℕ, ◌+◌, ◌≤◌}
use mathlib.Core.Path.{◌≡◌, refl, sym, ◌∙◌, ap}
use mathlib.Core.Bool.{Bool, true, false}
use mathlib.Core.List.{List, [], ◌∷◌, ◌++◌, append-nil}
use mathlib.Core.Option.{Option, none, some, map}
use native.Mathlib.Omega.{arith}
use lib.Dec.{leb}
use lib.ListN.{length, take, drop, take-append-drop}
use borrow.Author.Tests.{leb-true, leb-false, le-leb, lt-leb, eq-eqb}
use Rattle.model.specs.Limits.{head_size}
use Rattle.model.specs.Plan.{plan_of}
use Rattle.model.specs.Tables.{keep}
use Rattle.model.specs.Logs.{Entry, head_bytes, head_server, entries_bytes}
use Rattle.model.specs.States.{State}
use Rattle.model.specs.Apply.{founded, replay_from}
use Rattle.model.specs.Operations.{recovered, recovered_on, recovered_state}
use Rattle.model.specs.Checkpoints.{rebased, checkpoint_bytes, checkpoint_framed, checkpoint_state, recovered_tail}
use Rattle.model_laws.specs.Bytes.{All}
use Rattle.model_laws.specs.Fits.{EntriesFrom, last_end}
use Rattle.model_laws.proofs.Tables.{keep_append}
use Rattle.model_laws.proofs.Logs.{head-server, head-back}
use Rattle.model_laws.proofs.TwoWalks.{recovered_on_lem}
use Rattle.model_invariants.specs.Sound.{Sound}
use Rattle.model_invariants.specs.Placed.{seen_from, later_entry, later, PastHead}
use Rattle.model_invariants.proofs.Recovery.{recovers, recovered-replay}
use Rattle.model_invariants.proofs.Crash.{from_end, replay-end, decided-from, log-recovers}
use Rattle.model_invariants.proofs.Placed.{keep-map}
use Rattle.model_invariants.proofs.Seen.{recovered-seen}
use Rattle.model_invariants.proofs.TailEquals.{recovered-append}
use Rattle.model_laws.proofs.Checkpoints.{Timely}
use Rattle.model_invariants.proofs.Checkpoints.{checkpoint-back}
use Rattle.claim.specs.World as B
use Rattle.claim.specs.Provisos.{Begins}
use Rattle.claim.specs.Claim.{recovered_by}
use Rattle.claim.specs.RecordWorld as R
use Rattle.safety.specs.Holds.{Kept, kept_entries}
use Rattle.safety.specs.Alike.{InForce, first, stored, Continues, CrashedAlike, Shown, both}
use Rattle.safety.proofs.Crashes.{crash-again}

-- ---- the whole log

from_past : (k : ℕ) (es : List Entry) → head_size ≤ k → EntriesFrom k es → All PastHead es
from_past k [] h f = tt
from_past k (e ∷ es) h f = let l : head_size ≤ e.end = omega (arith, f.0.end) in (l, from_past e.end es l f.1)

last-later : (b k : ℕ) (es : List Entry) → last_end (b + k) (later b es) ≡ b + last_end k es
unfolding last_end later
last-later b k [] = refl
last-later b k (e ∷ es) = last-later b e.end es

-- what the whole log gives over records
pub record Whole (plan : List ℕ) (b : ℕ) (log : R.Log) (now : State) : Type 0 where
  pub state : State
  pub recovers : R.recovered_from plan log ≡ some state
  pub seen : now ≡ seen_from b state
  pub size : state.size ≡ b + now.size

module _ {plan : List ℕ} {c : ℕ} {k : B.Stored} {log : R.Log} {start : State} {es : List Entry} (C : Continues plan c k log start es) where
  abbrev b : ℕ
  b = k.replaced

  pub whole-recovers : {kept : List ℕ} {mark : ℕ} → Kept start es kept mark → Whole plan b log (replay_from start es)
  unfolding R.recovered_from
  whole-recovers K =
      let past : All PastHead es = from_past head_size es (omega arith) (decided-from K.from es K.decided) in
      let tail : recovered start es ≡ some (replay_from start es) = (recovers K.from es K.decided).same in
      let seen : map (seen_from b) (recovered C.base (later b es)) ≡ some (replay_from start es)
      = sym (recovered-seen b C.base es past) ∙ ap (λ (x : State). recovered x es) (sym C.begins) ∙ tail in
      let all : recovered (founded (plan_of plan) log.number) log.entries ≡ recovered C.base (later b es)
      = rw (C.number, C.entries) (recovered-append (founded (plan_of plan) c) C.base C.before (later b es) C.replays) in
      go (recovered C.base (later b es)) refl seen all
    where
      go : (o : Option State) → recovered C.base (later b es) ≡ o → map (seen_from b) o ≡ some (replay_from start es)
          → R.recovered_from plan log ≡ recovered C.base (later b es) → Whole plan b log (replay_from start es)
      go none e s a = let z : ◌≡◌ {A = ℕ} 0 1 = cc in absurd (omega arith)
      go (some st) e s a =
          let same : seen_from b st ≡ replay_from start es = cc in
          let long : st.size ≡ last_end (b + head_size) (later b es)
          = ap (λ (x : State). x.size) (recovered-replay C.base st (later b es) e) ∙ from_end C.base (later b es) ∙ ap (λ (n : ℕ). last_end n (later b es)) C.size in
          record {
            state = st;
            recovers = a ∙ e;
            seen = sym same;
            size = long ∙ last-later b head_size es ∙ ap (λ (n : ℕ). b + n) (sym (replay-end K.from es));
          }

  -- ---- a crash

  leb_more : (x y : ℕ) → leb (b + x) (b + y) ≡ leb x y
  leb_more x y = go (leb x y) refl
    where
      go : (p : Bool) → leb x y ≡ p → leb (b + x) (b + y) ≡ p
      go true e = le-leb (b + x) (b + y) (omega (arith, leb-true x y e))
      go false e = lt-leb (b + x) (b + y) (omega (arith, leb-false x y e))

  keep-early : (n : ℕ) → head_size ≤ n → (fs : List Entry) → All (λ (e : Entry). e.end ≤ b + head_size) fs → keep (λ (e : Entry). leb e.end (b + n)) fs ≡ fs
  unfolding keep
  keep-early n h [] a = refl
  keep-early n h (f ∷ fs) a = rw (le-leb f.end (b + n) (omega (arith, h, a.0)), keep-early n h fs a.1)

  pub cut-continues : (n : ℕ) → head_size ≤ n → Continues plan c k (R.cut_at (b + n) log) start (kept_entries n es)
  unfolding R.cut_at later
  cut-continues n h =
      let t : Entry → Bool = λ (e : Entry). leb e.end (b + n) in
      record {
        planned = C.planned;
        number = C.number;
        before = C.before;
        entries =
            ap (keep t) C.entries ∙ keep_append t C.before (later b es) ∙ ap (λ (x : List Entry). x ++ keep t (later b es)) (keep-early n h C.before C.early)
            ∙ ap (λ (x : List Entry). C.before ++ x) (keep-map (later_entry b) t (λ (e : Entry). leb e.end n) (λ e. leb_more e.end n) es);
        early = C.early;
        base = C.base;
        replays = C.replays;
        size = C.size;
        begins = C.begins;
        gives = C.gives;
      }

-- ---- what is in force

-- a log with the head of a start's server
on_start : {start : State} {es : List Entry} {kept : List ℕ} {mark : ℕ} → Kept start es kept mark → (recovered_on start kept ≡ some (replay_from start es)) × (head_server kept ≡ start.server)
on_start {start} {es} {kept} K =
    let n : ℕ = start.server in
    let rest : List ℕ = entries_bytes es ++ K.rest in (
      ap (recovered_on start) K.logged ∙ recovered_on_lem (head_bytes n ++ rest) start (head-back n rest K.from.sound.server)
          ∙ log-recovers K.from n es K.rest K.decided K.incomplete,
      ap head_server K.logged ∙ head-server n rest,
    )

-- a checkpoint of a sound state, and a tail
by_tail : (timed : Bool) {start made : State} {es : List Entry} {kept : List ℕ} {mark : ℕ} → Sound made → Timely timed made → start ≡ rebased made → Kept start es kept mark → (rest : List ℕ)
    → recovered_tail (checkpoint_bytes timed made ++ rest) kept ≡ some (replay_from start es)
unfolding recovered_tail
by_tail timed {start} {made} {es} {kept} S T e K rest =
    let x = on_start K in
    rw (checkpoint-back timed made S T rest, ← e, x.1, eq-eqb start.server start.server refl) x.0

module _ (plan : List ℕ) {start : State} {es : List Entry} {kept : List ℕ} {mark : ℕ} (K : Kept start es kept mark) where
  -- by the founding
  by_plan : (c : ℕ) → start ≡ founded (plan_of plan) c → recovered_state (plan_of plan) kept ≡ some (replay_from start es)
  unfolding recovered_state founded
  by_plan c e =
      let x = on_start K in
      let n : head_server kept ≡ c = x.1 ∙ ap (λ (z : State). z.server) e in
      rw (n, ← e) x.0

  -- a checkpoint is not empty
  by_checkpoint_lem : (s : List ℕ) → recovered_tail s kept ≡ some (replay_from start es) → recovered_by plan s kept ≡ some (replay_from start es)
  unfolding recovered_by recovered_tail checkpoint_state checkpoint_framed
  by_checkpoint_lem [] e = let z : ◌≡◌ {A = ℕ} 0 1 = cc in absurd (omega arith)
  by_checkpoint_lem (x ∷ s) e = e

  pub in_force : {c : ℕ} {checkpoint : List ℕ} → InForce plan c start checkpoint → recovered_by plan checkpoint kept ≡ some (replay_from start es)
  in_force {c} (first e) = unfold recovered_by in by_plan c e
  in_force (stored timed {made = made} S T e) =
      by_checkpoint_lem (checkpoint_bytes timed made) (ap (λ (s : List ℕ). recovered_tail s kept) (sym (append-nil (checkpoint_bytes timed made))) ∙ by_tail timed S T e K [])

  -- from a slice that begins with the stored checkpoint
  pub in_force_slice : {c : ℕ} {checkpoint : List ℕ} → InForce plan c start checkpoint → (slice : List ℕ) → Begins checkpoint slice → recovered_tail slice kept ≡ some (replay_from start es)
  in_force_slice (first e) slice B = absurd (omega (arith, B.some·bytes))
  in_force_slice (stored timed {made = made} S T e) slice B =
      let n : ℕ = length (checkpoint_bytes timed made) in
      let split : checkpoint_bytes timed made ++ drop n slice ≡ slice = ap (λ (x : List ℕ). x ++ drop n slice) (sym B.front) ∙ take-append-drop n slice in
      ap (λ (x : List ℕ). recovered_tail x kept) (sym split) ∙ by_tail timed S T e K (drop n slice)

-- ---- what servers come to

module _ {plan : List ℕ} {c : ℕ} {k : B.Stored} {log : R.Log} {start : State} {es : List Entry} (C : Continues plan c k log start es) where
  pub kept-shown : {kept : List ℕ} {mark : ℕ} → Kept start es kept mark → Shown (recovered_by plan k.checkpoint kept) (R.recovered_from plan log)
  kept-shown K =
      let W = whole-recovers C K in
      rw (in_force plan K C.gives, W.recovers, W.seen) (both k.replaced W.state)

  -- the synced part is what a crash at the mark would keep
  pub synced-shown : {kept : List ℕ} {mark : ℕ} → Kept start es kept mark
      → Shown (recovered_by plan k.checkpoint (take mark kept)) (R.recovered_from plan (R.cut_at (k.replaced + mark) log))
  synced-shown {kept} {mark} K = kept-shown-cut (crash-again K mark (omega arith) K.within)
    where
      kept-shown-cut : Kept start (kept_entries mark es) (take mark kept) mark
          → Shown (recovered_by plan k.checkpoint (take mark kept)) (R.recovered_from plan (R.cut_at (k.replaced + mark) log))
      kept-shown-cut L =
          let D = cut-continues C mark K.head in
          let W = whole-recovers D L in
          rw (in_force plan L C.gives, W.recovers, W.seen) (both k.replaced W.state)

module _ {plan : List ℕ} {c : ℕ} {log : R.Log} {size mark : ℕ} {k : B.Stored} {kept : List ℕ} {keptMark : ℕ}
    (K : CrashedAlike plan c log size mark k kept keptMark) where
  pub recovered-shown : Shown (recovered_by plan k.checkpoint kept) (R.recovered_from plan log)
  recovered-shown = kept-shown K.continues K.keeps

  pub recovered-some : (st : State) × (recovered_by plan k.checkpoint kept ≡ some st) × Sound st
  recovered-some =
      (replay_from K.start K.tail, in_force plan K.keeps K.continues.gives, (recovers K.keeps.from K.tail K.keeps.decided).sound)
