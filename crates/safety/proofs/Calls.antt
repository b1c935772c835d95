-- A call of a running server, over bytes and over records, by the server's own log.
--     same-state, same_log     buffers that come back as they were lent
--     settled                  every decision, carried out in both, by the server's own log
--     call-left                a call of a running server: what was answered, what was made, and the server
--     made_bytes               what a call makes is bytes
-- Assumes nothing.
use Prim.Native.Nat.{ℕ, ◌+◌, ◌-◌, ◌*◌, ◌≤◌, ◌<◌}
use mathlib.Core.Path.{◌≡◌, refl, sym, ◌∙◌, ap, subst}
use mathlib.Core.Bool.{Bool, true, false, ◌||◌}
use mathlib.Core.List.{List, [], ◌∷◌, ◌++◌}
use mathlib.Core.Logic.{◌↔◌}
use native.Mathlib.Omega.{arith}
use lib.Dec.{ltb}
use borrow.Author.Tests.{ltb-false, lt-ltb}
use lib.ListN.{length, take, drop, length-take, take-append-drop}
use lib.Seq.{take-take, take-append-le, take-append_seam, length_front}
use Rattle.model.specs.declared.Answer.{Answer}
use Rattle.model.specs.Choice.{pick, refuse, deny, reply, append, marks, unless_refused}
use Rattle.model.specs.Refusals.{too_short, unsound, no_refusal}
use Rattle.model.specs.Numbers.{word}
use Rattle.model.specs.Limits.{state_size, head_size}
use Rattle.model.specs.Tables.{written}
use Rattle.model.specs.Logs.{LogRecord, Entry, record_size}
use Rattle.model.specs.States.{State, load, sound, state_bytes, state_end}
use Rattle.model.specs.Apply.{apply, replay_from, with_mark}
use Rattle.model.specs.Decisions.{Decided}
use Rattle.model.specs.Operations.{After, answer_of, after, short, unfit, stored, settle, lent_refusal, lent, free_in}
use Rattle.model_laws.specs.Bytes.{Bytes}
use Rattle.model_laws.specs.Fits.{last_end}
use Rattle.model_laws.proofs.Numbers.{bytes-nil, bytes_take, bytes_drop}
use Rattle.model_laws.proofs.Written.{length-written, bytes-written, written-front}
use Rattle.model_laws.proofs.States.{state-bytes}
use Rattle.model_invariants.specs.Sound.{Sound}
use Rattle.model_invariants.specs.History.{Decides}
use Rattle.model.specs.Calls.{Operation, decision, operated}
use Rattle.model_invariants.specs.Calls.{refuses, denies, replies, appends, sets, Allowed, output, output_size, decided_on, LentBytes}
use Rattle.model_invariants.specs.Calls as Limits
use Rattle.model_invariants.proofs.Tests.{fits_of}
use Rattle.model_invariants.proofs.Steps.{sound-mark}
use Rattle.model_invariants.proofs.Kept.{decided-sound, decided-space}
use Rattle.model_invariants.proofs.Loaded.{loaded_sound, stored-load}
use Rattle.model_invariants.proofs.Calls.{operated-is, decision-allowed}
use Rattle.model_invariants.proofs.Running.{part-load, holds-part, settled_holds}
use Rattle.model_invariants.proofs.Running as Running
use Rattle.claim.specs.World.{lent_state, lent_log, state_back, log_back}
use Rattle.claim.specs.World as B
use Rattle.claim.specs.Provisos.{Counted}
use Rattle.claim.specs.RecordWorld as R
use Rattle.safety.specs.Alike.{LocalAlike, LeftAlike, Made}
use Rattle.safety.specs.Decoded.{room_in}
use Rattle.safety.proofs.Facts.{holds-sound, holds-mark, holds-size, held}
use Rattle.safety.proofs.Made.{operation-made}

-- ---- answers

no_bytes : (b : List ℕ) → length b ≡ 0 → b ≡ []
no_bytes [] e = refl
no_bytes (x ∷ b) e = absurd (omega arith)

-- the same number, and as many bytes
same_answer : {a : Answer} {n : ℕ} {b : List ℕ} → a ≡ answer_of n (length b) → (a ≡ answer_of no_refusal 0) ↔ ((n ≡ 0) × (b ≡ []))
same_answer {a} {n} {b} e = (
  λ z. (ap (λ (x : Answer). x.refusal) (sym e ∙ z), no_bytes b (ap (λ (x : Answer). x.wrote) (sym e ∙ z))),
  λ z. e ∙ ap (λ (k : ℕ). answer_of k (length b)) z.0 ∙ ap (λ (x : List ℕ). answer_of no_refusal (length x)) z.1,
)

-- two numbers that refuse
refused-answer : {a : Answer} {m n : ℕ} {b : List ℕ} → a ≡ answer_of m 0 → 1 ≤ m → 1 ≤ n → (a ≡ answer_of no_refusal 0) ↔ ((n ≡ 0) × (b ≡ []))
refused-answer {a} {m} {n} e h l = (λ z. absurd (omega (arith, ap (λ (x : Answer). x.refusal) (sym e ∙ z))), λ z. absurd (omega (arith, z.0)))

-- ---- a call of a running server

pub length-stored : (s : List ℕ) (st : State) → length (stored s st) ≡ length s
unfolding stored
length-stored s st = length-written s 0 (state_bytes st)

pub stored_bytes_lem : (s : List ℕ) (st : State) → Sound st → Bytes s → Bytes (stored s st)
unfolding stored
stored_bytes_lem s st S h = bytes-written s 0 (state_bytes st) h (state-bytes st (fits_of st S))

module _ {start : State} {log : R.Log} {state bytes : List ℕ} (K : LocalAlike start (load state) log state bytes) (t : B.Lent) where
  abbrev es : List Entry
  es = log.entries

  abbrev s : List ℕ
  s = lent_state t state

  abbrev g : List ℕ
  g = lent_log t bytes

  -- what comes back as it was lent
  pub same-state : (a : After) → a.state ≡ s → state_back t state a ≡ state
  unfolding state_back lent_state
  same-state a e = rw e (take-append-drop t.state state)

  pub same_log : (a : After) → a.state ≡ s → a.log ≡ g → log_back t state bytes a ≡ bytes
  unfolding log_back lent_log
  same_log a e f =
      let b : (load (state_back t state a)).size ≡ length bytes = ap (λ (x : List ℕ). (load x).size) (same-state a e) ∙ holds-size K.holds in
      rw (b, f, take-append-drop t.log (bytes ++ t.spare)) (take-append_seam bytes t.spare)

  -- a decision that changes nothing
  quiet : (n : ℕ) (b out : List ℕ) → take (length b) out ≡ b
      → LeftAlike start t state bytes (after (answer_of n (length b)) s g out) (record { number = n; made = b; state = load state; log = log })
  quiet n b out e =
      let a : After = after (answer_of n (length b)) s g out in
      record { answer = same_answer refl; made = e; server = rw (same-state a refl, same_log a refl refl) K }

  module _ (whole : state_size ≤ length s) where
    lent-part : take state_end s ≡ take state_end state
    unfolding lent_state
    lent-part = take-take state_end t.state state (omega (arith, whole, length-take t.state state))

    pub lent-load : load s ≡ load state
    lent-load = (part-load state s K.holds.bytes K.holds.opens.sound lent-part).0

    lent-sound : sound s ≡ true
    lent-sound = (part-load state s K.holds.bytes K.holds.opens.sound lent-part).1

    pub lent-bytes : Bytes s
    unfolding lent_state
    lent-bytes = bytes_take t.state state K.holds.bytes

    -- a state stored in the lent part, and a log slice that opens with the entries
    changed : (fs : List Entry) (st : State) (h out : List ℕ) → Sound st → Limits.Holds start fs (stored s st) h
        → LeftAlike start t state bytes (after (answer_of no_refusal 0) (stored s st) h out)
        (record { number = 0; made = []; state = st; log = record { number = log.number; entries = fs } })
    unfolding state_back log_back lent_state
    changed fs st h out S H =
        let enough : state_end ≤ length s = omega (arith, whole) in
        let k = held K.holds.from (stored s st) (drop t.state state) h (drop t.log (bytes ++ t.spare)) H (stored_bytes_lem s st S lent-bytes)
        (bytes_drop t.state state K.holds.bytes) (rw (length-stored s st) enough)
        (rw (length_front state (stored s st) t.state (length-stored s st)) K.holds.long) in
        record { answer = same_answer {b = []} refl; made = refl; server = record { holds = k.0; loads = k.1 ∙ stored-load s st S enough } }

    module _ (ok : Counted t) (holding : length bytes ≤ length g) where
      counted : length g < word * word
      unfolding lent_log
      counted = omega (arith, ok, length-take t.log (bytes ++ t.spare))

      -- the lent parts hold what the whole buffers do
      part : Limits.Holds start es s g
      unfolding lent_log
      part =
          let n : ℕ = last_end head_size es in
          let end = K.holds.end in
          holds-part start es state bytes s g K.holds.bytes K.holds.opens lent-part
          (take-take n t.log (bytes ++ t.spare) (omega (arith, end, holding, length-take t.log (bytes ++ t.spare))) ∙ take-append-le n bytes t.spare (omega (arith, end)))

      fits : (load s).size ≤ length g
      fits = omega (arith, ap (λ (x : State). x.size) lent-load, holds-size K.holds)

      room : (r : LogRecord) → Decides (load s) (free_in s g) r → (load s).size + record_size r ≤ length g
      unfolding free_in
      room r D = omega (arith, decided-space (load s) (free_in s g) r D, fits)

      -- every decision
      pub settled : (out : List ℕ) (need : ℕ) → need ≤ length out → (d : Decided) → Allowed s g d → Made need d
          → LeftAlike start t state bytes (settle s g out d) (R.settle (load state) log d)
      unfolding settle Allowed R.settle R.longer apply
      settled out need h d refuses m = quiet _ [] out refl
      settled out need h d (denies {n = n} {b = b}) m =
          quiet n b (written out 0 b) (rw (written-front out b (omega (arith, m.1))) (take-append_seam b (drop (length b) out)))
      settled out need h d (replies {b = b}) m =
          quiet 0 b (written out 0 b) (rw (written-front out b (omega (arith, m.1))) (take-append_seam b (drop (length b) out)))
      settled out need h d (appends {r = r} D) m =
          let S = loaded_sound s lent-bytes lent-sound in
          let T = decided-sound (load s) (free_in s g) r S D (omega (arith, room r D, counted)) in
          let H = settled_holds K.holds.from es s g out (append r) part lent-bytes whole fits counted (appends D) in
          let size : (replay_from start es).size ≡ (load s).size = sym (Running.holds-size K.holds.from es s g part) in
          let L = changed _ _ _ out T H in
          rw (← lent-load) (rw size at L)
      settled out need h d (sets {m = k} i) m =
          let S = loaded_sound s lent-bytes lent-sound in
          let H = settled_holds K.holds.from es s g out (marks k) part lent-bytes whole fits counted (sets i) in
          rw (← lent-load) (changed es (with_mark k (load s)) g out (sound-mark (load s) k S i.0 i.1) H)

-- an operation, with the room that its event over records gets
module _ (o : Operation) (k : LentBytes o) (t : B.Lent) (ok : Counted t) where
  abbrev out : List ℕ
  out = output o t.out

  -- what it asks of its output, by the state
  abbrev need : State → ℕ
  need st = output_size st o

  module _ {start : State} {log : R.Log} {state bytes : List ℕ} (K : LocalAlike start (load state) log state bytes) where
    abbrev front : List ℕ
    front = lent_state t state

    abbrev slice : List ℕ
    slice = lent_log t bytes

    -- what the tests of lent memory leave of a decision, beside the call over records with that room
    Left : Decided → ℕ → Type 0
    Left d room = LeftAlike start t state bytes (settle front slice out d) (R.call_of (load state) log room (decision o))

    left-short : Left (refuse too_short) 0
    unfolding Left R.call_of R.settle settle
    left-short =
        let m = holds-mark K.holds in
        let e : ltb 0 (load state).size ≡ true = lt-ltb 0 (load state).size (omega (arith, m.0, m.1, holds-size K.holds)) in
        let L = quiet K t too_short [] out refl in
        rw e (record { answer = refused-answer refl (omega arith) (omega arith); made = refl; server = L.server })

    left-whole : state_size ≤ length front → need (load front) ≤ length out → Left (unless_refused (pick (unfit front slice) unsound 0) (decision o (load front) (free_in front slice))) (length slice)
    unfolding Left R.call_of unless_refused unfit free_in settle R.settle
    left-whole whole enough =
        rw (lent-sound K t whole, ← lent-load K t whole) (go (ltb (length slice) (load front).size) refl)
      where
        go : (p : Bool) → ltb (length slice) (load front).size ≡ p
            → LeftAlike start t state bytes (settle front slice out (unless_refused (pick p unsound 0) (decision o (load front) (free_in front slice))))
            (R.settle (load front) log (pick p (refuse unsound) (decision o (load front) (length slice - (load front).size))))
        go true e = rw (lent-load K t whole) (quiet K t unsound [] out refl)
        go false e =
            let same : load front ≡ load state = lent-load K t whole in
            let holding : length bytes ≤ length slice
            = omega (arith, ltb-false (length slice) (load front).size e, ap (λ (x : State). x.size) same, holds-size K.holds) in
            let S : Sound (load front) = subst Sound (sym same) (holds-sound K.holds) in
            let d : Decided = decision o (load front) (free_in front slice) in
            subst (λ (x : State). LeftAlike start t state bytes (settle front slice out d) (R.settle x log d)) (sym same)
            (settled K t whole ok holding out (need (load front)) enough d (decision-allowed o front slice k) (operation-made (load front) S o (free_in front slice) k))

    left_either : Left (decided_on o front slice t.out) (room_in t state bytes out need)
    unfolding room_in decided_on lent lent_refusal short
    left_either = go (ltb (length front) state_size) refl (ltb (length out) (need (load front))) refl
      where
        go : (p : Bool) → ltb (length front) state_size ≡ p → (q : Bool) → ltb (length out) (need (load front)) ≡ q
            → Left (unless_refused (pick (p || q) too_short (pick (unfit front slice) unsound 0)) (decision o (load front) (free_in front slice))) (pick (p || q) 0 (length slice))
        go true x q y = unfold unless_refused in left-short
        go false x true y = unfold unless_refused in left-short
        go false x false y = left-whole (ltb-false _ _ x) (ltb-false _ _ y)

  pub call-left : {start st : State} {log : R.Log} {state bytes : List ℕ} → LocalAlike start st log state bytes
      → LeftAlike start t state bytes (operated o (lent_state t state) (lent_log t bytes) t.out) (R.call_of st log (room_in t state bytes out need) (decision o))
  unfolding Left
  call-left {st = st} {log = log} {state = state} {bytes = bytes} K =
      let L = left_either {log = log} (record { holds = K.holds; loads = refl }) in
      rw (operated-is o (lent_state t state) (lent_log t bytes) t.out) (rw K.loads at L)

  -- what is made is bytes
  pub made_bytes : (st : State) → Sound st → (log : R.Log) (room : ℕ) → Bytes (R.call_of st log room (decision o)).made
  unfolding R.call_of R.settle
  made_bytes st S log room = go (ltb room st.size)
    where
      made : (x : Decided) → Made (need st) x → Bytes (R.settle st log x).made
      made (refuse n) a = bytes-nil
      made (deny n b) a = a.0
      made (reply b) a = a.0
      made (append r) a = bytes-nil
      made (marks m) a = bytes-nil

      go : (p : Bool) → Bytes (R.settle st log (pick p (refuse unsound) (decision o st (room - st.size)))).made
      go true = bytes-nil
      go false = made (decision o st (room - st.size)) (operation-made st S o (room - st.size) k)
