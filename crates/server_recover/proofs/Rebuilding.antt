-- The whole recovery: the state before the log, all records, the mark; and the operations.
--     begun-off, begun-founded      founding for the server of the log's head
--     tail-off, tail_none, tail-other, begun-tail     the state of a checkpoint, of the same server
--     ended-standing, no_ends, no_replay, rebuilt_done     what the log gives on it
--     settled_no, settled_done, rebuilt-canonical, no_state, settled-rebuilt     what is left of the lent state
--     recover-refused, long-passed, plan-passed, recover-done     the answers of the operation on a log
--     tail-refused, tail-long, tail-done     and on a checkpoint and its tail
-- Assumes nothing.
use Prim.Native.Nat.{ℕ, ◌+◌, ◌≤◌}
use mathlib.Core.Path.{◌≡◌, refl, sym, ap, ◌∙◌}
use mathlib.Core.Bool.{Bool, true, false, not, false≢true}
use mathlib.Core.List.{List, []}
use mathlib.Core.Option.{Option, none, some}
use native.Mathlib.Omega.{arith}
use lib.ListN.{length, take}
use lib.Dec.{eqb, ltb}
use borrow.Author.Tests.{ltb-false, eq-eqb, ne_eqb, not-false}
use Rattle.std.specs.Prelude.{Result, Ok, Err}
use Rattle.std.specs.Result.{IsErrAnd, is_ok}
use Rattle.model.specs.declared.Answer.{Answer}
use Rattle.model.specs.Choice.{pick}
use Rattle.model.specs.Limits.{state_size, head_size}
use Rattle.model.specs.Refusals.{malformed, too_short, bad_log, no_refusal}
use Rattle.model.specs.Tables.{written}
use Rattle.model.specs.Plan.{plan_ok, plan_of}
use Rattle.model.specs.Logs.{head_ok, head_server, ends_of}
use Rattle.model.specs.States.{State, load, state_bytes, state_end, records_end}
use Rattle.model.specs.Apply.{founded, with_mark}
use Rattle.model.specs.Operations.{After, after, answer_of, settle, stored, left_unless, recovered_on, recovered_state, settle_recovered, recover_refusal, recover_of}
use Rattle.model.specs.Checkpoints.{checkpoint_state, recovered_tail, recover_tail_refusal, recover_tail_of}
use Rattle.model.specs.declared.Refusal.{Refusal}
use Rattle.model.specs.declared.Refusal.TheVariants.{BadLog}
use Rattle.refusals.specs.Numbers.{number_of, answered}
use Rattle.refusals.proofs.Numbers.{number-some, exit}
use Rattle.model_laws.specs.Bytes.{Bytes, part}
use Rattle.model_laws.specs.Fits.{StateFits}
use Rattle.model_laws.proofs.Refused.{if-passed}
use Rattle.model_laws.proofs.TwoWalks.{recovered-off}
use Rattle.model_laws.proofs.Written.{take-written-run}
use Rattle.model_laws.proofs.States.{state-length, state-within}
use Rattle.model_invariants.specs.Sound.{Sound}
use Rattle.model_invariants.proofs.Tests.{fits_of}
use Rattle.model_invariants.proofs.Kept.{founded-sound}
use Rattle.model_invariants.proofs.Crash.{head-limit}
use Rattle.model_invariants.proofs.Loaded.{plan-good, loaded_sound}
use Rattle.model_invariants.proofs.Restored.{checkpoint-size}
use Rattle.state_rows.proofs.Chains.{canonical-sound, canonical-stored, load_stored, fits-mark}
use Rattle.state_rows.specs.Canonical.{Canonical}
use Rattle.state_restore.specs.Restored.{state_in, RestoredBy}
use Rattle.state_restore.proofs.Answers.{restored-none, restored-some}
use Rattle.format_log_ends.specs.Walked.{ends_from}
use Rattle.server_replay.specs.Standing.{Standing}
use Rattle.server_recover.specs.Remaining.{remaining_to, remaining, Ended}
use Rattle.server_recover.specs.Rebuilt.{Begun, marked, Rebuilt, settled_state}

-- ---- founding

module _ (log plan : List ℕ) where
  abbrev first : State
  first = founded (plan_of plan) (head_server log)

  pub begun-off : {A : Type 0} (s : List ℕ) → head_ok log ≡ false → Begun {A = A} (recovered_state (plan_of plan) log) log s (Err BadLog)
  unfolding recovered_state
  begun-off s k = record { begun = (refl, recovered-off log first k) }

  module _ (s : List ℕ) (long : length s ≡ state_end) (b : Bytes plan) (ok : plan_ok plan ≡ true) (k : head_ok log ≡ true) {s1 : List ℕ} (e : s1 ≡ stored s first) where
    first-sound : Sound first
    first-sound = founded-sound (plan_of plan) (head_server log) (plan-good plan b ok) (head-limit log k)

    first_load : load s1 ≡ first
    first_load = ap load e ∙ load_stored s (omega arith) first (fits_of first first-sound)

    pub begun-founded : {A : Type 0} {x : A} → Begun (recovered_state (plan_of plan) log) log s1 (Ok x)
    unfolding founded recovered_state
    begun-founded =
        record {
          begun = (
            record {
              standing = record { canonical = rw e (canonical-stored s (omega arith) first (fits_of first first-sound)); sound = rw first_load first-sound };
              place = ap (λ (x : State). x.size) first_load;
            },
            ap (λ (x : State). recovered_on x log) (sym first_load),
          );
        }

-- ---- a checkpoint

module _ (checkpoint tail : List ℕ) where
  by_state : (o : Option State) → checkpoint_state checkpoint ≡ o
      → recovered_tail checkpoint tail ≡ elim o [ none ↦ none | some st ↦ pick (eqb (head_server tail) st.server) (recovered_on st tail) none ]
  unfolding recovered_tail
  by_state none e = rw e
  by_state (some st) e = rw e

  pub tail-off : {A : Type 0} (s : List ℕ) → head_ok tail ≡ false → Begun {A = A} (recovered_tail checkpoint tail) tail s (Err BadLog)
  tail-off s k = record { begun = (refl, go (checkpoint_state checkpoint) refl) }
    where
      on : (st : State) (b : Bool) → pick b (recovered_on st tail) none ≡ none
      on st true = recovered-off tail st k
      on st false = refl

      go : (o : Option State) → checkpoint_state checkpoint ≡ o → recovered_tail checkpoint tail ≡ none
      go none e = by_state none e
      go (some st) e = by_state (some st) e ∙ on st (eqb (head_server tail) st.server)

  module _ {s : List ℕ} {t : Bool} (w : RestoredBy checkpoint s t) where
    pub tail_none : {A : Type 0} → t ≡ false → Begun {A = A} (recovered_tail checkpoint tail) tail s (Err BadLog)
    tail_none f = record { begun = (refl, by_state none (restored-none w f)) }

    by_server : t ≡ true → recovered_tail checkpoint tail ≡ pick (eqb (head_server tail) (load s).server) (recovered_on (load s) tail) none
    by_server f = by_state (some (load s)) (restored-some w f)

    pub tail-other : {A : Type 0} → t ≡ true → (head_server tail ≡ (load s).server → ⊥) → Begun {A = A} (recovered_tail checkpoint tail) tail s (Err BadLog)
    tail-other f h =
        record { begun = (refl, by_server f ∙ ap (λ (x : Bool). pick x (recovered_on (load s) tail) none) (ne_eqb (head_server tail) (load s).server h)) }

    pub begun-tail : {A : Type 0} {x : A} → t ≡ true → Bytes s → head_server tail ≡ (load s).server → Begun (recovered_tail checkpoint tail) tail s (Ok x)
    begun-tail f b h =
        record {
          begun = (
            record {
              standing = record { canonical = canonical-sound s b (w.sound f); sound = loaded_sound s b (w.sound f) };
              place = checkpoint-size checkpoint (load s) (restored-some w f);
            },
            by_server f ∙ ap (λ (x : Bool). pick x (recovered_on (load s) tail) none) (eq-eqb (head_server tail) (load s).server h),
          );
        }

-- ---- the log

rebuilt_no : {A : Type 0} {o : Option State} (s : List ℕ) → o ≡ none → Rebuilt {A = A} o s (Err BadLog)
rebuilt_no s e = record { rebuilt = (refl, e) }

pub ended-standing : (log : List ℕ) (at : ℕ) (st : State) (s : List ℕ) {t : Bool} → Ended log at st s t → t ≡ true → Standing s
ended-standing log at st s d f = let g : Standing s × (remaining log at st ≡ some (load s)) = rw f at d.found in g.0

module _ (log : List ℕ) (st : State) where
  by_ends : (w : Option (List ℕ)) → ends_of log ≡ w → recovered_on st log ≡ remaining_to log head_size st w
  unfolding recovered_on remaining_to
  by_ends none e = rw (e, recovered_on)
  by_ends (some es) e = rw (e, recovered_on)

  from-head : head_ok log ≡ true → recovered_on st log ≡ remaining log head_size st
  unfolding remaining ends_of
  from-head k = by_ends (ends_from log head_size) (rw (k, ends_of))

  pub no_ends : {A : Type 0} (s : List ℕ) → ends_of log ≡ none → Rebuilt {A = A} (recovered_on st log) s (Err BadLog)
  unfolding remaining_to
  no_ends s e = rebuilt_no s (by_ends none e)

module _ {log : List ℕ} (s1 : List ℕ) {s2 : List ℕ} {t : Bool} (k : head_ok log ≡ true) (d : Ended log head_size (load s1) s2 t) where
  pub no_replay : {A : Type 0} (s : List ℕ) → t ≡ false → Rebuilt {A = A} (recovered_on (load s1) log) s (Err BadLog)
  no_replay s f = let g : remaining log head_size (load s1) ≡ none = rw f at d.found in rebuilt_no s (from-head log (load s1) k ∙ g)

  pub rebuilt_done : {A : Type 0} {x : A} {n : ℕ} {s3 : List ℕ} → t ≡ true → n ≡ (load s2).size → s3 ≡ stored s2 (with_mark n (load s2))
      → Rebuilt (recovered_on (load s1) log) s3 (Ok x)
  unfolding marked
  rebuilt_done {n} {s3} f q c =
      let g : Standing s2 × (remaining log head_size (load s1) ≡ some (load s2)) = rw f at d.found in
      let st : State = with_mark (load s2).size (load s2) in
      let w = g.0.canonical in
      let fits : StateFits st = fits-mark (load s2) w.fits (load s2).size w.fits.size in
      let b : s3 ≡ stored s2 st = c ∙ ap (λ (x : ℕ). stored s2 (with_mark x (load s2))) q in
      record {
        rebuilt = (
          rw (from-head log (load s1) k ∙ g.1) (ap some (ap load b ∙ load_stored s2 w.long st fits)),
          rw b (canonical-stored s2 w.long st fits),
        );
      }

-- ---- what is left of the lent state

-- up to the last completion record a buffer is the bytes of its state
state-bytes_of : (s : List ℕ) → Canonical s → part 0 (records_end (length (load s).records)) s ≡ state_bytes (load s)
state-bytes_of s w =
    let n : records_end (length (load s).records) ≡ 0 + length (state_bytes (load s)) = omega (arith, state-length (load s) w.fits) in
    ap (λ (k : ℕ). take k s) n
    ∙ ap (λ (x : List ℕ). take (0 + length (state_bytes (load s))) x) (sym w.same)
    ∙ take-written-run s 0 (state_bytes (load s)) (omega (arith, state-within (load s) w.fits, w.long))

module _ (state work : List ℕ) (t : Bool) where
  pub settled_no : t ≡ false → after (answer_of bad_log 0) state [] [] ≡ settled_state state [] (state_in t work)
  unfolding settled_state state_in settle
  settled_no q = rw q refl

  pub settled_done : {state' : List ℕ} {n : ℕ} → t ≡ true → Canonical work → n ≡ length (load work).records → state' ≡ written state 0 (part 0 (records_end n) work)
      → after (answer_of no_refusal 0) state' [] [] ≡ settled_state state [] (state_in t work)
  unfolding settled_state state_in stored
  settled_done q w e c = rw (q, c, e, state-bytes_of work w)

-- by whether there is one
pub rebuilt-canonical : {A : Type 0} {o : Option State} {s : List ℕ} {t : Bool} (r : Result A Refusal) → t ≡ is_ok r → Rebuilt o s r → t ≡ true → Canonical s
rebuilt-canonical (Ok x) e p q = p.rebuilt.1
rebuilt-canonical (Err x) e p q = absurd (false≢true (sym e ∙ q))

-- with the log as it was
beside : List ℕ → After → After
beside log x = after x.answer x.state log x.out

module _ (state log : List ℕ) {o : Option State} where
  -- 14, where a step found no state
  pub no_state : {e : Refusal} → (e ≡ BadLog) × (o ≡ none) → (r : Result ℕ Refusal) → IsErrAnd r (λ x. x ≡ e) → after (answered r) state log [] ≡ settle_recovered state log o
  unfolding settle_recovered settle
  no_state p r h = rw (exit r h, p.0, p.1)

  pub settled-rebuilt : {A : Type 0} {t : Bool} (r : Result A Refusal) {s state' : List ℕ} {a : Answer} → t ≡ is_ok r → Rebuilt o s r
      → after a state' [] [] ≡ settled_state state [] (state_in t s) → after a state' log [] ≡ settle_recovered state log o
  unfolding settled_state state_in settle_recovered settle marked beside
  settled-rebuilt (Err x) e p q = rw p.rebuilt.1 (ap (beside log) (rw e at q))
  settled-rebuilt (Ok x) {s = s} e p q = ap (beside log) (rw e at q) ∙ on o p.rebuilt.0
    where
      on : (u : Option State) → some (load s) ≡ marked u → after (answer_of no_refusal 0) (stored state (load s)) log [] ≡ settle_recovered state log u
      on none q = cc
      on (some st) q = let k : load s ≡ with_mark st.size st = cc in rw k

-- ---- the operations

-- with the plan's test as a call gave it
module _ (state log plan : List ℕ) {g : Bool} (p : g ≡ plan_ok plan) where
  pub recover-refused : (e : Refusal) → number_of e ≡ recover_refusal (length state) g → (r : Result ℕ Refusal) → IsErrAnd r (λ x. x ≡ e)
      → after (answered r) state log [] ≡ recover_of state log plan
  unfolding recover_of left_unless settle
  recover-refused e q r h = rw (exit r h, ← p, ← q, ne_eqb (number_of e) no_refusal (number-some e))

  module _ (q : no_refusal ≡ recover_refusal (length state) g) where
    tests : (ltb (length state) state_size ≡ false) × (not g ≡ false)
    unfolding recover_refusal
    tests = let a = if-passed too_short refl (ltb (length state) state_size) _ (sym q) in (a.0, (if-passed malformed refl (not g) 0 a.1).0)

    pub long-passed : state_size ≤ length state
    long-passed = ltb-false (length state) state_size tests.0

    pub plan-passed : plan_ok plan ≡ true
    plan-passed = sym p ∙ not-false g tests.1

    pub recover-done : {a : After} → a ≡ settle_recovered state log (recovered_state (plan_of plan) log) → a ≡ recover_of state log plan
    unfolding recover_of left_unless
    recover-done e = rw (← p, ← q) e

module _ (state checkpoint tail : List ℕ) where
  pub tail-refused : (e : Refusal) → number_of e ≡ recover_tail_refusal (length state) → (r : Result ℕ Refusal) → IsErrAnd r (λ x. x ≡ e)
      → after (answered r) state tail [] ≡ recover_tail_of state checkpoint tail
  unfolding recover_tail_of left_unless settle
  tail-refused e q r h = rw (exit r h, ← q, ne_eqb (number_of e) no_refusal (number-some e))

  module _ (q : no_refusal ≡ recover_tail_refusal (length state)) where
    pub tail-long : state_size ≤ length state
    unfolding recover_tail_refusal
    tail-long = ltb-false (length state) state_size (if-passed too_short refl (ltb (length state) state_size) no_refusal (sym q)).0

    pub tail-done : {a : After} → a ≡ settle_recovered state tail (recovered_tail checkpoint tail) → a ≡ recover_tail_of state checkpoint tail
    unfolding recover_tail_of left_unless
    tail-done e = rw (← q) e
