-- Every call answers alike on buffers that differ behind their last completion record alone, and leaves them so.
--     call-alike            found, an operation, recover
--     checkpoint-alike, inspect-alike
-- Assumes nothing.
use Prim.Native.Nat.{ℕ, ◌+◌, ◌-◌, ◌*◌, ◌≤◌, ◌<◌}
use mathlib.Core.Path.{◌≡◌, refl, sym, ap, ◌∙◌}
use mathlib.Core.Bool.{Bool, true, false, ◌||◌, not}
use mathlib.Core.List.{List, []}
use mathlib.Core.Option.{Option, none, some}
use native.Mathlib.Omega.{arith}
use lib.ListN.{length, take, drop}
use lib.Dec.{ltb}
use borrow.Author.Tests.{eqb-true, ltb-false}
use Rattle.model.specs.Choice.{refuse, deny, reply, append, marks, passed, is_passed, unless_refused}
use Rattle.model.specs.Numbers.{word}
use Rattle.model.specs.Refusals
use Rattle.model.specs.Limits.{state_size, head_size, checkpoint_size}
use Rattle.model.specs.Plan.{plan_ok, plan_of}
use Rattle.model.specs.Logs.{record_size, head_bytes}
use Rattle.model.specs.Versions.{Versions}
use Rattle.model.specs.Tables.{rows, written}
use Rattle.model.specs.States.{State, record_row, records_start, records_in, completion_of, load, sound}
use Rattle.model.specs.Apply.{apply_record, founded, with_mark}
use Rattle.model.specs.Decisions.{Decided, timed_by}
use Rattle.model.specs.Operations.{After, answer_of, after, short, unfit, free_in, stored, settle, lent_refusal, lent, left_unless, found_of, recover_of, recovered_state, settle_recovered}
use Rattle.model.specs.Checkpoints.{rebased, checkpoint_refusal, checkpoint_of, tail_of, inspect_refusal, inspect_of}
use Rattle.model_laws.specs.Bytes.{Bytes}
use Rattle.model_laws.specs.Alike.{Alike}
use Rattle.model_laws.proofs.Tests.{or_left}
use Rattle.model_laws.proofs.Refused.{if-passed}
use Rattle.model_laws.proofs.Tables.{rows_take}
use Rattle.model_laws.proofs.States.{completion_codec}
use Rattle.model_laws.proofs.Alike.{count-alike, load-alike, sound-alike, stored-alike}
use Rattle.model_invariants.specs.Sound.{Sound}
use Rattle.model.specs.Calls.{Operation, decision, operated}
use Rattle.model_invariants.specs.Calls.{appends, sets, Allowed, output, output_size, decided_on, LentBytes, Call, found, operate, recover, left, CallBytes, AlikeAfter, AlikeCheckpoint}
use Rattle.model_invariants.proofs.Lists.{drop-take}
use Rattle.model_invariants.proofs.Tests.{fits_of}
use Rattle.model_invariants.proofs.Steps.{sound-mark}
use Rattle.model_invariants.proofs.Kept.{founded-sound, decided-sound, decided-space}
use Rattle.model_invariants.proofs.Crash.{recovered-bytes}
use Rattle.model_invariants.proofs.Loaded.{plan-good, loaded_sound}
use Rattle.model_invariants.proofs.Checkpoints.{rebased_sound64}
use Rattle.model_invariants.proofs.Calls.{fit_parts, lent-number, found_number, recover-number, operated-is, output-same, decision-allowed}

module _ (s t : List ℕ) (a : Alike s t) where
  -- one sound state in both
  stored-both : (st : State) → Sound st → state_size ≤ length s → Alike (stored s st) (stored t st)
  stored-both st S l = stored-alike s t st (fits_of st S) (omega arith) a.long

  refused-both : (n : ℕ) (log out : List ℕ) → AlikeAfter (settle s log out (refuse n)) (settle t log out (refuse n))
  unfolding settle
  refused-both n log out = record { answer = refl; state = a; log = refl; out = refl }

  found_alike : (log plan : List ℕ) (n : ℕ) → Bytes plan → AlikeAfter (found_of s log plan n) (found_of t log plan n)
  unfolding found_of left_unless
  found_alike log plan n b =
      let st : State = founded (plan_of plan) n in
      let x : After = after (answer_of Refusals.no_refusal 0) (stored s st) (written log 0 (head_bytes n)) [] in
      let y : After = after (answer_of Refusals.no_refusal 0) (stored t st) (written log 0 (head_bytes n)) [] in
      rw a.long
      (found_number (λ (m : ℕ). AlikeAfter (left_unless m s log x) (left_unless m t log y)) (length s) (length log) plan n b (refused-both Refusals.too_short log [])
      (refused-both Refusals.malformed log [])
      (λ l k g p h. record { answer = refl; state = stored-both st (founded-sound (plan_of plan) n g h) l; log = refl; out = refl }))

  recover-alike : (log plan : List ℕ) → Bytes log → length log < word * word → Bytes plan → AlikeAfter (recover_of s log plan) (recover_of t log plan)
  unfolding recover_of left_unless settle_recovered
  recover-alike log plan c z b =
      rw a.long
      (recover-number
      (λ (m : ℕ). AlikeAfter (left_unless m s log (settle_recovered s log (recovered_state (plan_of plan) log))) (left_unless m t log (settle_recovered t log (recovered_state (plan_of plan) log))))
      (length s) plan (refused-both Refusals.too_short log []) (refused-both Refusals.malformed log []) (λ l g. go (recovered_state (plan_of plan) log) refl l g))
    where
      go : (o : Option State) → recovered_state (plan_of plan) log ≡ o → state_size ≤ length s → plan_ok plan ≡ true → AlikeAfter (settle_recovered s log o) (settle_recovered t log o)
      go none r l g = refused-both Refusals.bad_log log []
      go (some st) r l g =
          record { answer = refl; state = stored-both (with_mark st.size st) (recovered-bytes (plan_of plan) log st (plan-good plan b g) c z r).marked l; log = refl; out = refl }

  -- the completion records of both, sound or not, and what an operation asks of its output by them
  records-alike : (load t).records ≡ (load s).records
  unfolding load
  records-alike =
      let n : ℕ = records_in s in
      let part : take (record_row * n) (drop records_start t) ≡ take (record_row * n) (drop records_start s) =
      sym (drop-take records_start (record_row * n) t) ∙ ap (drop records_start) a.front ∙ drop-take records_start (record_row * n) s in
      ap (λ (k : ℕ). rows completion_of record_row k (drop records_start t)) (count-alike s t a)
      ∙ sym (rows_take completion_codec n (record_row * n) (drop records_start t) (omega arith)) ∙ ap (rows completion_of record_row n) part
      ∙ rows_take completion_codec n (record_row * n) (drop records_start s) (omega arith)

  timed-alike : (v : Versions) → timed_by v (load t) ≡ timed_by v (load s)
  unfolding timed_by
  timed-alike v = rw records-alike

  size-alike : (o : Operation) → output_size (load t) o ≡ output_size (load s) o
  size-alike o = output-same (load t) (load s) timed-alike o

  module _ (b : Bytes s) (c : Bytes t) where
    -- 19 alike: where the state is not sound, its length is not asked
    unfit-alike : (log : List ℕ) → unfit t log ≡ unfit s log
    unfolding unfit
    unfit-alike log = go (sound s) refl
      where
        go : (x : Bool) → sound s ≡ x → (not (sound t) || ltb (length log) (load t).size) ≡ (not (sound s) || ltb (length log) (load s).size)
        go true e = rw (sound-alike s t a b c, load-alike s t a b e)
        go false e = rw (sound-alike s t a b c, e)

    lent_alike : (log : List ℕ) (n need : ℕ) → lent_refusal t log n need ≡ lent_refusal s log n need
    unfolding lent_refusal short
    lent_alike log n need = rw (a.long, unfit-alike log)

    free-alike : (log : List ℕ) → sound s ≡ true → free_in t log ≡ free_in s log
    unfolding free_in
    free-alike log e = rw (load-alike s t a b e)

    settled_alike : (log out : List ℕ) (d : Decided) → state_size ≤ length s → sound s ≡ true → (load s).size ≤ length log → length log < word * word → Allowed s log d
        → AlikeAfter (settle s log out d) (settle t log out d)
    unfolding settle Allowed free_in
    settled_alike log out (refuse n) l e f z k = refused-both n log out
    settled_alike log out (deny n x) l e f z k = record { answer = refl; state = a; log = refl; out = refl }
    settled_alike log out (reply x) l e f z k = record { answer = refl; state = a; log = refl; out = refl }
    settled_alike log out (append r) l e f z (appends D) =
        let st = load s in
        let same : load t ≡ load s = load-alike s t a b e in
        let room : record_size r ≤ length log - st.size = decided-space st (length log - st.size) r D in
        let new = apply_record r (st.size + record_size r) st in
        let N : Sound new = decided-sound st (length log - st.size) r (loaded_sound s b e) D (omega arith) in
        rw same (record { answer = refl; state = stored-both new N l; log = refl; out = refl })
    settled_alike log out (marks m) l e f z (sets k) =
        let N : Sound (with_mark m (load s)) = sound-mark (load s) m (loaded_sound s b e) k.0 k.1 in
        rw (load-alike s t a b e) (record { answer = refl; state = stored-both (with_mark m (load s)) N l; log = refl; out = refl })

    operated-alike : (o : Operation) (log out : List ℕ) → length log < word * word → LentBytes o → AlikeAfter (operated o s log out) (operated o t log out)
    unfolding decided_on lent unless_refused
    operated-alike o log out z h =
        rw (operated-is o s log out, operated-is o t log out, size-alike o, lent_alike log (length (output o out)) (output_size (load s) o))
        (lent-number
        (λ (n : ℕ).
        AlikeAfter (settle s log (output o out) (unless_refused n (decision o (load s) (free_in s log)))) (settle t log (output o out) (unless_refused n (decision o (load t) (free_in t log)))))
        s log (length (output o out)) (output_size (load s) o) (refused-both Refusals.too_short log (output o out)) (refused-both Refusals.unsound log (output o out))
        (λ l e f.
        let same : load t ≡ load s = load-alike s t a b e in
        rw (same, free-alike log e) (settled_alike log (output o out) (decision o (load s) (free_in s log)) l e f z (decision-allowed o s log h))))

    pub call-alike : (k : Call) (log out : List ℕ) → Bytes log → length log < word * word → CallBytes k → AlikeAfter (left k s log out) (left k t log out)
    unfolding left
    call-alike (found plan n) log out d z h = found_alike log plan n h
    call-alike (operate o) log out d z h = operated-alike o log out z h
    call-alike (recover plan) log out d z h = recover-alike log plan d z h

    -- ---- checkpoint and inspect

    -- on a state that is fit; a test that comes before that is not asked
    load-fit : (log : List ℕ) → unfit s log ≡ false → load t ≡ load s
    load-fit log e = load-alike s t a b (fit_parts s log e).0

    number-alike : (log : List ℕ) (cs ts : ℕ) → checkpoint_refusal t log cs ts ≡ checkpoint_refusal s log cs ts
    unfolding checkpoint_refusal short
    number-alike log cs ts = go (unfit s log) refl
      where
        go : (x : Bool) → unfit s log ≡ x → checkpoint_refusal t log cs ts ≡ checkpoint_refusal s log cs ts
        go true e = rw (a.long, unfit-alike log, e)
        go false e = rw (a.long, unfit-alike log, load-fit log e)

    checkpoint-fit : (log : List ℕ) (cs ts : ℕ) → is_passed (checkpoint_refusal s log cs ts) ≡ true → (state_size ≤ length s) × (unfit s log ≡ false)
    unfolding checkpoint_refusal short
    checkpoint-fit log cs ts e =
        let d = if-passed Refusals.too_short refl (ltb (length s) state_size || (ltb cs checkpoint_size || ltb ts head_size)) _ (eqb-true _ passed e) in
        (ltb-false _ _ (or_left (ltb (length s) state_size) (ltb cs checkpoint_size || ltb ts head_size) d.0), (if-passed Refusals.unsound refl (unfit s log) _ d.1).0)

    pub checkpoint-alike : (v : Versions) (log checkpoint tail : List ℕ) → AlikeCheckpoint (checkpoint_of v s log checkpoint tail) (checkpoint_of v t log checkpoint tail)
    unfolding checkpoint_of
    checkpoint-alike v log checkpoint tail = go (is_passed (checkpoint_refusal s log (length checkpoint) (length tail))) refl (number-alike log (length checkpoint) (length tail))
      where
        go : (x : Bool) → is_passed (checkpoint_refusal s log (length checkpoint) (length tail)) ≡ x
            → checkpoint_refusal t log (length checkpoint) (length tail) ≡ checkpoint_refusal s log (length checkpoint) (length tail)
            → AlikeCheckpoint (checkpoint_of v s log checkpoint tail) (checkpoint_of v t log checkpoint tail)
        go true e same =
            let d = checkpoint-fit log (length checkpoint) (length tail) e in
            let S : Sound (rebased (load s)) = rebased_sound64 (load s) (loaded_sound s b (fit_parts s log d.1).0) in
            rw (same, e, load-fit log d.1) (record { answer = refl; state = stored-both (rebased (load s)) S d.0; log = refl; checkpoint = refl; tail = refl })
        go false e same = rw (same, e) (record { answer = refl; state = a; log = refl; checkpoint = refl; tail = refl })

    pub inspect-alike : (checkpoint tail : List ℕ) (x c : ℕ) → inspect_of t checkpoint tail x c ≡ inspect_of s checkpoint tail x c
    unfolding inspect_of inspect_refusal tail_of short
    inspect-alike checkpoint tail x c = go (ltb (length s) state_size) (unfit s tail) refl refl
      where
        go : (y z : Bool) → ltb (length s) state_size ≡ y → unfit s tail ≡ z → inspect_of t checkpoint tail x c ≡ inspect_of s checkpoint tail x c
        go true z d e = rw (a.long, d)
        go false true d e = rw (a.long, unfit-alike tail, d, e)
        go false false d e = rw (a.long, unfit-alike tail, load-fit tail e)
