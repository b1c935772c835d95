-- Between calls a server's state is the replay of its log, with a sync mark.
--     founded-holds, found-holds     founding: no records
--     operation-holds      an operation: one record more where it decided to append one, else the same
--     recover-holds        recovery from the first c bytes of the log: the records that end at or under c. It is not refused
--     part-load, holds-part     what holds depends on the state's bytes and on the log up to its recorded length alone
-- Assumes nothing.
use Prim.Native.Nat.{ℕ, ◌+◌, ◌*◌, ◌≤◌, ◌<◌}
use mathlib.Core.Path.{◌≡◌, refl, sym, ap, ◌∙◌, subst}
use mathlib.Core.Bool.{true}
use mathlib.Core.List.{List, [], ◌∷◌, ◌++◌, append-nil, append_assoc}
use mathlib.Core.Option.{some}
use native.Mathlib.Omega.{arith}
use lib.ListN.{length, take, length-take}
use lib.Seq.{take_at, take-take}
use lib.Dec.{leb, ltb}
use borrow.Author.Tests.{le-ltb}
use Rattle.model.specs.declared.PlanEntry.{PlanEntry}
use Rattle.model.specs.Numbers.{word}
use Rattle.model.specs.Limits.{last_server, state_size, head_size}
use Rattle.model.specs.Tables.{keep, written}
use Rattle.model.specs.Plan.{plan_ok, plan_of}
use Rattle.model.specs.Logs.{LogRecord, Entry, record_size, record_bytes, head_bytes, entries_bytes}
use Rattle.model.specs.States.{State, load, sound, state_end, records_end, records_in}
use Rattle.model.specs.Apply.{apply_record, apply, founded, replay_from, with_mark}
use Rattle.model.specs.Decisions.{Decided}
use Rattle.model.specs.Operations.{After, answer_of, after, free_in, stored, settle, lent, found_of, left_unless, recover_refusal, recover_of, settle_recovered, recovered_state}
use Rattle.model.specs.Refusals.{no_refusal}
use Rattle.model.specs.Calls.{Operation, decision, operated}
use Rattle.model_laws.specs.Bytes.{Bytes}
use Rattle.model_laws.specs.Fits.{EntriesFrom, last_end}
use Rattle.model_laws.proofs.Written.{take-written-run}
use Rattle.model_laws.proofs.States.{sound-is}
use Rattle.model_laws.proofs.Alike.{front-load, front-sound}
use Rattle.model_laws.proofs.Logs.{log-length, entries-append, log_appended, cut-split, cut-end, cut-from}
use Rattle.model_invariants.specs.Sound.{Sound}
use Rattle.model_invariants.specs.History
use Rattle.model_invariants.specs.History.{GoodPlan, Start, Decides, entry_for, next}
use Rattle.model_invariants.specs.Calls.{refuses, denies, replies, appends, sets, Allowed, output, output_size, decided_on, LentBytes, Holds, entries_after, Recovered}
use Rattle.model_invariants.proofs.Steps.{sound-mark}
use Rattle.model_invariants.proofs.Kept.{founded-start, founded-sound, decided-sound, decided-space, decides-mark, apply-mark}
use Rattle.model_invariants.proofs.Recovery.{from_next, recovers}
use Rattle.model_invariants.proofs.Crash.{last-append, replay-end, decided-from, decided-cut, crash-state}
use Rattle.model_invariants.proofs.Loaded.{loaded_sound, stored-sound, stored-load}
use Rattle.model_invariants.proofs.Calls.{lent_elim, found_elim, operated-is, decision-allowed}

-- the mark that a state has is its own
own-mark : (st rp : State) (m : ℕ) → st ≡ with_mark m rp → st ≡ with_mark st.mark rp
unfolding with_mark
own-mark st rp m e = e ∙ ap (λ (k : ℕ). with_mark k rp) (sym (ap (λ (x : State). x.mark) e))

founded-mark : (plan : List PlanEntry) (n : ℕ) → founded plan n ≡ with_mark head_size (replay_from (founded plan n) [])
unfolding founded with_mark replay_from
founded-mark plan n = refl

founded-log : (log : List ℕ) (n : ℕ) → head_size ≤ length log → take (last_end head_size []) (written log 0 (head_bytes n)) ≡ head_bytes n ++ entries_bytes []
unfolding head_bytes last_end entries_bytes
founded-log log n l = take-written-run log 0 (head_bytes n) l ∙ sym (append-nil (head_bytes n))

module _ {start : State} (s : Start start) where
  -- the recorded length
  pub holds-size : (es : List Entry) (state log : List ℕ) → Holds start es state log → (load state).size ≡ (replay_from start es).size
  unfolding with_mark
  holds-size es state log H = ap (λ (x : State). x.size) H.same

  -- ---- a record appended

  module _ (es : List Entry) (state log : List ℕ) (H : Holds start es state log) (b : Bytes state) (l : state_size ≤ length state)
      (f : (load state).size ≤ length log) (z : length log < word * word) (r : LogRecord) (D : Decides (load state) (free_in state log) r) where
    st : State
    st = load state

    rp : State
    rp = replay_from start es

    room : st.size + record_size r ≤ length log
    unfolding free_in st
    room = omega (arith, decided-space st (free_in state log) r D)

    sized : st.size ≡ rp.size
    unfolding st rp
    sized = holds-size es state log H

    D-replay : Decides rp (free_in state log) r
    unfolding st rp
    D-replay = decides-mark rp (free_in state log) st.mark r (subst (λ (x : State). Decides x (free_in state log) r) H.same D)

    fs : List Entry
    fs = es ++ (entry_for rp r ∷ [])

    new : State
    new = apply_record r (st.size + record_size r) st

    new_sound : Sound new
    unfolding new st
    new_sound = decided-sound st (free_in state log) r (loaded_sound state b H.sound) D (omega (arith, room))

    new_same : new ≡ with_mark st.mark (replay_from start fs)
    unfolding new st rp fs apply with_mark
    new_same =
        ap (λ (x : State). apply_record r (x.size + record_size r) x) H.same
        ∙ apply-mark r (rp.size + record_size r) st.mark rp
        ∙ ap (with_mark st.mark) (sym (from_next start es (entry_for rp r)))

    logged : take (last_end head_size fs) (written log st.size (record_bytes r)) ≡ head_bytes start.server ++ entries_bytes fs
    unfolding st rp fs
    logged =
        let k : rp.size ≡ last_end head_size es = replay-end s es in
        let w : take (rp.size + record_size r) (written log rp.size (record_bytes r)) ≡ head_bytes start.server ++ entries_bytes fs
        = subst
        (λ (x : ℕ). take (x + record_size r) (written log x (record_bytes r)) ≡ head_bytes start.server ++ entries_bytes (es ++ (record { item = r; end = x + record_size r } ∷ [])))
        (sym k) (log_appended log start.server es r (decided-from s es H.decided) H.logged (omega (arith, room, sized))) in
        rw (last-append head_size es (entry_for rp r), sized) w

    appended_holds : Holds start fs (stored state new) (written log st.size (record_bytes r))
    unfolding rp fs
    appended_holds =
        let q : load (stored state new) ≡ with_mark st.mark (replay_from start fs) = stored-load state new new_sound (omega arith) ∙ new_same in
        record {
          decided = next es (free_in state log) r H.decided D-replay (omega (arith, room, sized));
          sound = stored-sound state new new_sound (omega arith);
          same = own-mark (load (stored state new)) (replay_from start fs) st.mark q;
          logged = logged;
        }

  -- ---- an operation

  pub settled_holds : (es : List Entry) (state log out : List ℕ) (d : Decided) → Holds start es state log → Bytes state → state_size ≤ length state
      → (load state).size ≤ length log → length log < word * word → Allowed state log d
      → Holds start (entries_after start es d) (settle state log out d).state (settle state log out d).log
  unfolding settle Allowed rp st new fs with_mark
  settled_holds es state log out d H b l f z refuses = H
  settled_holds es state log out d H b l f z denies = H
  settled_holds es state log out d H b l f z replies = H
  settled_holds es state log out d H b l f z (appends {r = r} D) = appended_holds es state log H b l f z r D
  settled_holds es state log out d H b l f z (sets {m = m} k) =
      let S = sound-mark (load state) m (loaded_sound state b H.sound) k.0 k.1 in
      let q : load (stored state (with_mark m (load state))) ≡ with_mark m (replay_from start es)
      = stored-load state (with_mark m (load state)) S (omega arith) ∙ ap (with_mark m) H.same in
      record {
        decided = H.decided;
        sound = stored-sound state (with_mark m (load state)) S (omega arith);
        same = own-mark (load (stored state (with_mark m (load state)))) (replay_from start es) m q;
        logged = H.logged;
      }

  pub operation-holds : (o : Operation) (es : List Entry) (state log out : List ℕ) → Holds start es state log → Bytes state → length log < word * word
      → LentBytes o
      → Holds start (entries_after start es (decided_on o state log out)) (operated o state log out).state (operated o state log out).log
  unfolding decided_on lent settle
  operation-holds o es state log out H b z k =
      subst (λ (a : After). Holds start (entries_after start es (decided_on o state log out)) a.state a.log) (sym (operated-is o state log out))
      (lent_elim (λ d. Holds start (entries_after start es d) (settle state log (output o out) d).state (settle state log (output o out) d).log) state log (output o out)
      (output_size (load state) o) (decision o (load state) (free_in state log)) H H
      (λ l s f. settled_holds es state log (output o out) (decision o (load state) (free_in state log)) H b l f z (decision-allowed o state log k)))

  -- ---- recovery

  cut-logged : (es : List Entry) (log : List ℕ) (c : ℕ) → EntriesFrom head_size es → take (last_end head_size es) log ≡ head_bytes start.server ++ entries_bytes es
      → head_size ≤ c → c ≤ last_end head_size es
      → take (last_end head_size (keep (λ (e : Entry). leb e.end c) es)) log ≡ head_bytes start.server ++ entries_bytes (keep (λ (e : Entry). leb e.end c) es)
  cut-logged es log c f e low high =
      let a : List Entry = keep (λ (x : Entry). leb x.end c) es in
      let b : List Entry = keep (λ (x : Entry). ltb c x.end) es in
      let j : ℕ = last_end head_size a in
      let l : j ≤ last_end head_size es = omega (arith, cut-end c head_size es low f) in
      let w : head_bytes start.server ++ entries_bytes es ≡ (head_bytes start.server ++ entries_bytes a) ++ entries_bytes b
      = ap (λ (x : List Entry). head_bytes start.server ++ entries_bytes x) (sym (cut-split c head_size es f))
      ∙ rw (entries-append a b, append_assoc (head_bytes start.server) (entries_bytes a) (entries_bytes b)) in
      sym (take-take j (last_end head_size es) log l)
      ∙ ap (λ (x : List ℕ). take j x) (e ∙ w)
      ∙ take_at (head_bytes start.server ++ entries_bytes a) (entries_bytes b) j (log-length start.server a (cut-from c head_size es f))

-- since the founding
module _ (plan : List PlanEntry) (n : ℕ) (g : GoodPlan plan) (h : n ≤ last_server) where
  abbrev start : Start (founded plan n)
  start = founded-start plan n g h

  pub recover-holds : (es : List Entry) (state log fresh bytes : List ℕ) (c : ℕ) → Holds (founded plan n) es state log → head_size ≤ c → c ≤ last_end head_size es
      → state_size ≤ length fresh → plan_ok bytes ≡ true → plan_of bytes ≡ plan → Recovered (founded plan n) es c (recover_of fresh (take c log) bytes) log
  unfolding recover_of recover_refusal left_unless settle_recovered founded
  recover-holds es state log fresh bytes c H low high l ok same =
      let a : List Entry = keep (λ (x : Entry). leb x.end c) es in
      let f = decided-from start es H.decided in
      let k : take c log ≡ take c (head_bytes n ++ entries_bytes es)
      = sym (take-take c (last_end head_size es) log high) ∙ ap (λ (x : List ℕ). take c x) H.logged in
      let rp = replay_from (founded plan n) a in
      let r : recovered_state (plan_of bytes) (take c log) ≡ some rp
      = ap (λ (x : List PlanEntry). recovered_state x (take c log)) same ∙ ap (recovered_state plan) k ∙ crash-state plan n start h es c H.decided low in
      let d = decided-cut start c es H.decided in
      let S = (recovers start a d).sound in
      let M = sound-mark rp rp.size S S.mark (omega arith) in
      let e : recover_of fresh (take c log) bytes ≡ after (answer_of no_refusal 0) (stored fresh (with_mark rp.size rp)) (take c log) []
      = rw (le-ltb (length fresh) state_size l, ok, r) in
      let x : Holds (founded plan n) a (stored fresh (with_mark rp.size rp)) log
      = record {
        decided = d;
        sound = stored-sound fresh (with_mark rp.size rp) M (omega arith);
        same = own-mark _ rp rp.size (stored-load fresh (with_mark rp.size rp) M (omega arith));
        logged = cut-logged start es log c f H.logged low high;
      } in
      subst (λ (y : After). Recovered (founded plan n) es c y log) (sym e) (record { refusal = refl; holds = x })

-- ---- founding

pub founded-holds : (plan : List PlanEntry) (n : ℕ) → GoodPlan plan → n ≤ last_server → (state log : List ℕ) → state_size ≤ length state → head_size ≤ length log
    → Holds (founded plan n) [] (stored state (founded plan n)) (written log 0 (head_bytes n))
unfolding founded
founded-holds plan n g h state log l k =
    let st = founded plan n in
    let S = founded-sound plan n g h in
    record {
      decided = History.none;
      sound = stored-sound state st S (omega arith);
      same = own-mark (load (stored state st)) (replay_from st []) head_size (stored-load state st S (omega arith) ∙ founded-mark plan n);
      logged = founded-log log n k;
    }

pub found-holds : (state log plan : List ℕ) (n : ℕ) → Bytes plan → (found_of state log plan n).answer.refusal ≡ no_refusal
    → GoodPlan (plan_of plan) × (n ≤ last_server) × Holds (founded (plan_of plan) n) [] (found_of state log plan n).state (found_of state log plan n).log
found-holds state log plan n b =
    found_elim (λ a. a.answer.refusal ≡ no_refusal → GoodPlan (plan_of plan) × (n ≤ last_server) × Holds (founded (plan_of plan) n) [] a.state a.log) state log plan n b
    (λ e. absurd (omega (arith, e))) (λ e. absurd (omega (arith, e))) (λ l k g p h e. (g, h, founded-holds (plan_of plan) n g h state log l k))

-- ---- parts of the buffers

-- buffers that open alike hold the same state
pub part-load : (state state' : List ℕ) → Bytes state → sound state ≡ true → take state_end state' ≡ take state_end state → (load state' ≡ load state) × (sound state' ≡ true)
part-load state state' b h p =
    let d = sound-is state h in
    let n : ℕ = records_end (records_in state) in
    let few : n ≤ state_end = omega (arith, d.few_records) in
    let same : take n state' ≡ take n state = sym (take-take n state_end state' few) ∙ ap (λ (x : List ℕ). take n x) p ∙ take-take n state_end state few in
    let long : state_end ≤ length state' = omega (arith, ap length p, length-take state_end state', length-take state_end state, d.long) in
    (front-load state state' b h same, front-sound state state' b h same long)

pub holds-part : (start : State) (es : List Entry) (state log state' log' : List ℕ) → Bytes state → Holds start es state log
    → take state_end state' ≡ take state_end state → take (last_end head_size es) log' ≡ take (last_end head_size es) log → Holds start es state' log'
holds-part start es state log state' log' b H p q =
    let k = part-load state state' b H.sound p in
    record { decided = H.decided; sound = k.1; same = own-mark (load state') (replay_from start es) (load state).mark (k.0 ∙ H.same); logged = q ∙ H.logged }
