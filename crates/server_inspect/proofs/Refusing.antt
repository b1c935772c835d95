-- The refusals of inspect, and its answer by them.
--     foreign-none, foreign-some, bad_empty, bad_other     the tests of the checkpoint in code
--     usable                        what is known where they are passed
--     logged, logged-head           the tail up to its recorded length
--     lent-refused, logged-front    the answer where lent memory is refused; of the tail and of its front
--     Passed, passed-tests, ends_some     where nothing is refused
--     later-refused, later-found    the answer past that
-- Assumes nothing.
use Prim.Native.Nat.{ℕ, ◌≤◌}
use mathlib.Core.Path.{◌≡◌, refl, sym, ap, ◌∙◌}
use mathlib.Core.Bool.{Bool, true, false, ◌&&◌, ◌||◌, not, false≢true}
use mathlib.Core.List.{List}
use mathlib.Core.Option.{Option, none, some}
use native.Mathlib.Omega.{arith}
use lib.ListN.{length, take}
use lib.Seq.{take-length, take-take, get_or-take, length-take-le}
use lib.Dec.{eqb, ltb}
use borrow.Author.Tests.{not-true, not-false, le-leb, le-ltb, eqb-true, ne_eqb}
use Rattle.std.specs.Prelude.{Result}
use Rattle.std.specs.Result.{IsErrAnd}
use Rattle.model.specs.declared.LogEnd.{LogEnd}
use Rattle.model.specs.declared.Place.{Place}
use Rattle.model.specs.Choice.{pick, or_else}
use Rattle.model.specs.Refusals.{too_short, unsound, bad_log, unknown, no_refusal}
use Rattle.model.specs.Limits.{head_size, state_size}
use Rattle.model.specs.Logs.{head_server, head_ok, ends_of, whole_end}
use Rattle.model.specs.States.{load, sound}
use Rattle.model.specs.Decisions.{find, is_none}
use Rattle.model.specs.Operations.{short, unfit, lent_refusal, log_end_of}
use Rattle.model.specs.Checkpoints.{restored, checkpoint_framed, checkpoint_state, place_in_checkpoint, checkpoint_bad, tail_of, inspect_refusal, inspect_of}
use Rattle.model.specs.declared.Refusal.{Refusal}
use Rattle.refusals.specs.Numbers.{number_of}
use Rattle.refusals.proofs.Numbers.{number-some, exit}
use Rattle.model_laws.specs.Bytes.{Bytes}
use Rattle.model_laws.proofs.Tests.{or_left, or_right, impossible}
use Rattle.model_laws.proofs.Refused.{if-passed}
use Rattle.model_invariants.specs.Sound.{Sound}
use Rattle.model_invariants.proofs.Loaded.{loaded_sound}
use Rattle.format_log_ends.specs.Walked.{ends_from}
use Rattle.format_log_ends.proofs.Walked.{log-end-head}
use Rattle.state_restore.specs.Restored.{RestoredBy}
use Rattle.state_restore.proofs.Answers.{restored-none, restored-some}
use Rattle.server_decide.specs.Lists.{inspect_tests}
use Rattle.server_decide.proofs.Lists.{inspect_list}
use Rattle.server_memory.specs.Memory.{Fit}
use Rattle.server_memory.proofs.Settled.{lent-fit}
use Rattle.server_inspect.specs.Places.{latest_from}
use Rattle.server_inspect.specs.Inspected.{foreign, Logged, placed_by}

-- ---- tests in code

module _ {checkpoint work : List ℕ} (log : List ℕ) {t : Bool} (w : RestoredBy checkpoint work t) where
  pub foreign-none : not t ≡ true → true ≡ foreign (checkpoint_state checkpoint) log
  unfolding foreign
  foreign-none e = rw (restored-none w (not-true t e))

  pub foreign-some : {h n : ℕ} → not t ≡ false → h ≡ head_server log → n ≡ (load work).server → not (eqb h n) ≡ foreign (checkpoint_state checkpoint) log
  unfolding foreign
  foreign-some e p q = rw (restored-some w (not-false t e), p, q)

pub bad_empty : (checkpoint log : List ℕ) → length checkpoint ≡ 0 → false ≡ checkpoint_bad checkpoint log
unfolding checkpoint_bad
bad_empty checkpoint log e = rw e

pub bad_other : (checkpoint log : List ℕ) {r : Bool} → (length checkpoint ≡ 0 → ⊥) → r ≡ foreign (checkpoint_state checkpoint) log → r ≡ checkpoint_bad checkpoint log
unfolding checkpoint_bad foreign
bad_other checkpoint log h e = e ∙ rw (le-leb 1 (length checkpoint) (omega arith))

-- ---- what is known where they are passed

pub usable : (checkpoint log : List ℕ) → checkpoint_bad checkpoint log ≡ false → 1 ≤ length checkpoint → checkpoint_framed checkpoint ≡ true
unfolding checkpoint_bad checkpoint_state
usable checkpoint log e h = go (checkpoint_framed checkpoint) refl (rw (le-leb 1 (length checkpoint) h) at e)
  where
    go : (b : Bool) → checkpoint_framed checkpoint ≡ b
        → or_else (pick (b && sound (restored checkpoint)) (some (load (restored checkpoint))) none) true (λ st. not (eqb (head_server log) st.server)) ≡ false → b ≡ true
    go true p q = refl
    go false p q = absurd (false≢true (sym q))

module _ (state : List ℕ) (b : Bytes state) (s : sound state ≡ true) where
  size-least : head_size ≤ (load state).size
  size-least = let g : Sound (load state) = loaded_sound state b s in omega (arith, g.head, g.mark)

-- ---- the tail up to its recorded length

module _ (state tail : List ℕ) (f : Fit state tail 0 0) where
  abbrev front : List ℕ
  front = take (load state).size tail

  front_length : length front ≡ (load state).size
  front_length = length-take-le (load state).size tail f.logged

  pub logged : Logged state front
  logged = record { fit = record { long = f.long; room = f.room; sound = f.sound; logged = omega (arith, front_length) }; whole = front_length }

pub logged-head : {state log : List ℕ} → Bytes state → Logged state log → head_size ≤ length log
logged-head {state} b l = omega (arith, size-least state b l.fit.sound, l.whole)

-- ---- the answer where lent memory is refused

lent_same : (state checkpoint tail : List ℕ) (x c : ℕ) → (lent_refusal state tail 0 0 ≡ no_refusal → ⊥) → inspect_refusal state checkpoint tail x c ≡ lent_refusal state tail 0 0
unfolding inspect_refusal lent_refusal
lent_same state checkpoint tail x c h = go (short state state_size) (unfit state tail) _ h
  where
    go : (a b : Bool) (n : ℕ) → (pick (a || ltb 0 0) too_short (pick b unsound no_refusal) ≡ no_refusal → ⊥)
        → pick a too_short (pick b unsound n) ≡ pick (a || ltb 0 0) too_short (pick b unsound no_refusal)
    go true b n h = refl
    go false true n h = refl
    go false false n h = absurd (h refl)

pub lent-refused : (state checkpoint tail : List ℕ) (x c : ℕ) (e : Refusal) → number_of e ≡ lent_refusal state tail 0 0 → (r : Result Place Refusal)
    → IsErrAnd r (λ y. y ≡ e) → placed_by r ≡ inspect_of state checkpoint tail x c
unfolding inspect_of
lent-refused state checkpoint tail x c e p r h =
    let k : inspect_refusal state checkpoint tail x c ≡ number_of e =
    lent_same state checkpoint tail x c (λ (z : lent_refusal state tail 0 0 ≡ no_refusal). number-some e (p ∙ z)) ∙ sym p in
    rw (exit r h, k, ne_eqb (number_of e) no_refusal (number-some e))

-- ---- past that

-- the first walk over what the state records
abbrev off_by : List ℕ → Bool
off_by log = or_else (ends_of log) true (λ es. false)

module _ (state log : List ℕ) (f : Fit state log 0 0) where
  later_same : (checkpoint : List ℕ) (x c : ℕ)
      → inspect_refusal state checkpoint log x c ≡ inspect_tests (checkpoint_bad checkpoint log) (off_by (tail_of state log)) (is_none (find x c (load state).records))
  unfolding short unfit
  later_same checkpoint x c = inspect_list state checkpoint log x c ∙ rw (le-ltb (length state) state_size f.long, f.sound, le-ltb (length log) (load state).size f.logged)

bad_front : (state checkpoint tail : List ℕ) → Bytes state → Fit state tail 0 0 → checkpoint_bad checkpoint (take (load state).size tail) ≡ checkpoint_bad checkpoint tail
unfolding checkpoint_bad head_server
bad_front state checkpoint tail b f = rw (get_or-take (load state).size tail 4 0 (omega (arith, size-least state b f.sound)))

-- where the answer is a place, or 17 for want of one
pub record Passed (state checkpoint tail : List ℕ) (x c : ℕ) : Type 0 where
  pub fit : Fit state tail 0 0
  pub good : checkpoint_bad checkpoint tail ≡ false
  pub there : is_none (find x c (load state).records) ≡ false

pub passed-tests : (state checkpoint tail : List ℕ) (x c : ℕ) → inspect_refusal state checkpoint tail x c ≡ no_refusal → Passed state checkpoint tail x c
unfolding inspect_refusal lent_refusal
passed-tests state checkpoint tail x c e =
    let d = if-passed too_short refl (short state state_size) _ e in
    let f = if-passed unsound refl (unfit state tail) _ d.1 in
    let g = if-passed bad_log refl (checkpoint_bad checkpoint tail || off_by (tail_of state tail)) _ f.1 in
    let h = if-passed unknown refl (is_none (find x c (load state).records)) no_refusal g.1 in
    record { fit = lent-fit state tail 0 0 (rw (d.0, f.0)); good = or_left (checkpoint_bad checkpoint tail) (off_by (tail_of state tail)) g.0; there = h.0 }

pub ends_some : (log es : List ℕ) → ends_of log ≡ some es → ends_from log head_size ≡ some es
unfolding ends_of
ends_some log es e = go (head_ok log) refl
  where
    go : (b : Bool) → head_ok log ≡ b → ends_from log head_size ≡ some es
    go true h = sym (rw (h, ends_of)) ∙ e
    go false h = impossible (cc)

-- the tail and its front get the same answer
pub logged-front : (state checkpoint tail : List ℕ) (x c : ℕ) → Bytes state → Fit state tail 0 0
    → inspect_of state checkpoint (take (load state).size tail) x c ≡ inspect_of state checkpoint tail x c
unfolding inspect_of tail_of
logged-front state checkpoint tail x c b f =
    let size : ℕ = (load state).size in
    let same : tail_of state (take size tail) ≡ tail_of state tail = take-take size size tail (omega arith) in
    let bad : checkpoint_bad checkpoint (take size tail) ≡ checkpoint_bad checkpoint tail = bad_front state checkpoint tail b f in
    let k : inspect_refusal state checkpoint (take size tail) x c ≡ inspect_refusal state checkpoint tail x c =
    later_same state (take size tail) (logged state tail f).fit checkpoint x c ∙ rw (bad, same) (sym (later_same state tail f checkpoint x c)) in
    rw (k, same)

-- by the length that the code reads
pub logged_by : (state tail : List ℕ) → Fit state tail 0 0 → {n : ℕ} → n ≡ (load state).size → Logged state (take n tail)
logged_by state tail f e = rw e (logged state tail f)

pub front_by : (state checkpoint tail : List ℕ) (x c : ℕ) → Bytes state → Fit state tail 0 0 → {n : ℕ} {r : Place} → n ≡ (load state).size
    → r ≡ inspect_of state checkpoint (take n tail) x c → r ≡ inspect_of state checkpoint tail x c
front_by state checkpoint tail x c b f e q = (rw e at q) ∙ logged-front state checkpoint tail x c b f

walk-off : (log : List ℕ) {w : LogEnd} → w ≡ log_end_of log → not (eqb w.refusal no_refusal) ≡ off_by log
unfolding log_end_of whole_end
walk-off log {w} e = ap (λ (r : LogEnd). not (eqb r.refusal no_refusal)) e ∙ go (ends_of log) refl
  where
    go : (o : Option (List ℕ)) → ends_of log ≡ o → not (eqb (log_end_of log).refusal no_refusal) ≡ or_else o true (λ es. false)
    go none q = rw (q, log_end_of, whole_end)
    go (some es) q = rw (q, log_end_of, whole_end)

module _ (state checkpoint log : List ℕ) (x c : ℕ) (l : Logged state log) {w : LogEnd} (e : w ≡ log_end_of log) {bad lacks : Bool} (p : bad ≡ checkpoint_bad checkpoint log)
    (q : lacks ≡ is_none (find x c (load state).records)) where
  tail-whole : tail_of state log ≡ log
  unfolding tail_of
  tail-whole = rw (← l.whole) (take-length log)

  by_number : inspect_refusal state checkpoint log x c ≡ inspect_tests bad (not (eqb w.refusal no_refusal)) lacks
  by_number = later_same state log l.fit checkpoint x c ∙ rw (tail-whole, ← p, ← q, ← walk-off log e)

  pub later-refused : (y : Refusal) → number_of y ≡ inspect_tests bad (not (eqb w.refusal no_refusal)) lacks → (r : Result Place Refusal) → IsErrAnd r (λ z. z ≡ y)
      → placed_by r ≡ inspect_of state checkpoint log x c
  unfolding inspect_of
  later-refused y k r h = rw (exit r h, by_number, ← k, ne_eqb (number_of y) no_refusal (number-some y))

  module _ (k : no_refusal ≡ inspect_tests bad (not (eqb w.refusal no_refusal)) lacks) where
    tests : ((bad || not (eqb w.refusal no_refusal)) ≡ false) × (lacks ≡ false)
    unfolding inspect_tests
    tests =
        let a = if-passed bad_log refl (bad || not (eqb w.refusal no_refusal)) _ (sym k) in
        (a.0, (if-passed unknown refl lacks no_refusal a.1).0)

    pub walk-passed : w.refusal ≡ no_refusal
    walk-passed = eqb-true w.refusal no_refusal (not-false (eqb w.refusal no_refusal) (or_right bad (not (eqb w.refusal no_refusal)) tests.0))

    bad_passed : checkpoint_bad checkpoint log ≡ false
    bad_passed = sym p ∙ or_left bad (not (eqb w.refusal no_refusal)) tests.0

    -- what the place in the checkpoint asks
    pub place_ready : 1 ≤ length checkpoint → checkpoint_framed checkpoint ≡ true
    place_ready = usable checkpoint log bad_passed

    pub later-found : {first r : Place} → first ≡ place_in_checkpoint x c checkpoint → r ≡ latest_from x c log head_size first → r ≡ inspect_of state checkpoint log x c
    unfolding inspect_of latest_from
    later-found {first} {r} a b =
        let ends : ends_of log ≡ ends_from log head_size = unfold ends_of in rw (log-end-head log e walk-passed, ends_of) in
        rw (by_number ∙ sym k, tail-whole, ends, ← a) b
