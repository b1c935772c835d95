-- Recovery from a checkpoint and a tail is recovery from the whole log; states are equal up to length, mark and record places (rebased).
--     follows-alike, apply-alike, recovered-alike     states that are equal so, through the same records
--     tail-entries                  the state itself, and what its checkpoint keeps
--     tail_equals                   over the bytes of an old log and of the tail that follows it
--     tail-recovers                 with the checkpoint's bytes, where these give back what the checkpoint keeps
-- Assumes nothing.
use Prim.Native.Nat.{ℕ, ◌+◌, ◌-◌, ◌≤◌}
use mathlib.Core.Path.{◌≡◌, refl, sym, ap, ◌∙◌}
use mathlib.Core.Bool.{Bool, true, false}
use mathlib.Core.List.{List, [], ◌∷◌, ◌++◌, append_assoc}
use mathlib.Core.Option.{Option, none, some, map}
use native.Mathlib.Omega.{arith}
use lib.ListN.{length, drop, length-append, length-drop, take-append-drop}
use lib.Seq.{drop-append-le}
use lib.Dec.{eqb}
use borrow.Author.Tests.{eq-eqb}
use Rattle.model.specs.declared.PlanEntry.{PlanEntry}
use Rattle.model.specs.Limits.{head_size}
use Rattle.model.specs.Logs.{LogRecord, executed, gone, gave, took, released, Entry, head_bytes, head_server, head_ok}
use Rattle.model.specs.States.{State}
use Rattle.model.specs.Apply.{apply_executed, apply_gone, apply_gave, apply_took, apply_released, apply_record, apply, founded, replay_from, with_mark}
use Rattle.model.specs.Decisions.{follows}
use Rattle.model.specs.Operations.{recovered, recovered_all, recovered_on, recovered_state}
use Rattle.model.specs.Checkpoints.{placed, end_before, rebased, checkpoint_state, recovered_tail}
use Rattle.model_laws.specs.Bytes.{All}
use Rattle.model_laws.specs.Fits.{last_end}
use Rattle.model_laws.specs.OneWalk.{walk, entries_of}
use Rattle.model_laws.proofs.Tests.{impossible}
use Rattle.model_laws.proofs.Logs.{head-again, head-length}
use Rattle.model_laws.proofs.TwoWalks.{recovered_on_lem, recovered-off}
use Rattle.model_invariants.specs.Placed.{later, PastHead}
use Rattle.model_invariants.proofs.Recovery.{recovered-replay}
use Rattle.model_invariants.proofs.Crash.{from_end, head-limit, head-recovers}
use Rattle.model_invariants.proofs.Placed.{follows-placed, apply-placed}
use Rattle.model_invariants.proofs.Seen.{before-some, rebase_rebase}
use Rattle.model_invariants.proofs.Fronts.{walk-moved, walk-past, walk-joined}

-- ---- states that are equal, length, mark and record places aside

pub follows-alike : (s t : State) → rebased s ≡ rebased t → (r : LogRecord) → follows s r ≡ follows t r
unfolding rebased
follows-alike s t e r = sym (follows-placed end_before s r) ∙ ap (λ (x : State). follows x r) e ∙ follows-placed end_before t r

-- a record that is applied to both, wherever it ends
pub apply-alike : (s t : State) → rebased s ≡ rebased t → (r : LogRecord) (k l : ℕ) → 1 ≤ k → 1 ≤ l → rebased (apply_record r k s) ≡ rebased (apply_record r l t)
unfolding rebased
apply-alike s t e r k l p q =
    let z : end_before 0 ≡ 0 = unfold end_before in refl in
    sym (apply-placed end_before z r k s)
    ∙ ap (λ (x : ℕ). apply_record r x (placed end_before s)) (before-some k p ∙ sym (before-some l q))
    ∙ ap (apply_record r (end_before l)) e ∙ apply-placed end_before z r l t

pub recovered-alike : (b : ℕ) (s t : State) → rebased s ≡ rebased t → (es : List Entry) → All PastHead es
    → map rebased (recovered s es) ≡ map rebased (recovered t (later b es))
unfolding recovered later apply
recovered-alike b s t e [] h = ap some e
recovered-alike b s t e (x ∷ es) h =
    go (follows t x.item) (follows-alike s t e x.item)
    (recovered-alike b (apply_record x.item x.end s) (apply_record x.item (b + x.end) t)
    (apply-alike s t e x.item x.end (b + x.end) (omega (arith, h.0)) (omega (arith, h.0))) es h.1)
  where
    go : (a : Bool) → follows s x.item ≡ a
        → map rebased (recovered (apply_record x.item x.end s) es) ≡ map rebased (recovered (apply_record x.item (b + x.end) t) (later b es))
        → map rebased (elim (follows s x.item) [ true ↦ recovered (apply_record x.item x.end s) es | false ↦ none ])
        ≡ map rebased (elim a [ true ↦ recovered (apply_record x.item (b + x.end) t) (later b es) | false ↦ none ])
    go true q ih = rw q ih
    go false q ih = rw q

-- the records of a tail, on what the checkpoint keeps, and on the state itself behind its log: refused both, or the same
pub tail-entries : (b : ℕ) (st : State) (es : List Entry) → All PastHead es → map rebased (recovered (rebased st) es) ≡ map rebased (recovered st (later b es))
tail-entries b st es h = recovered-alike b (rebased st) st (rebase_rebase st) es h

-- ---- over bytes

apply-marked : (r : LogRecord) (end : ℕ) (st : State) → (apply_record r end st).mark ≡ st.mark
unfolding apply_record apply_executed apply_gone apply_gave apply_took apply_released
apply-marked (executed x) end st = refl
apply-marked (gone n) end st = refl
apply-marked (gave g) end st = refl
apply-marked (took i) end st = refl
apply-marked (released r) end st = refl

replay-marked : (st : State) (es : List Entry) → (replay_from st es).mark ≡ st.mark
unfolding replay_from apply
replay-marked st [] = refl
replay-marked st (e ∷ es) = replay-marked (apply st e) es ∙ apply-marked e.item e.end st

apply-server : (r : LogRecord) (end : ℕ) (st : State) → (apply_record r end st).server ≡ st.server
unfolding apply_record apply_executed apply_gone apply_gave apply_took apply_released
apply-server (executed x) end st = refl
apply-server (gone n) end st = refl
apply-server (gave g) end st = refl
apply-server (took i) end st = refl
apply-server (released r) end st = refl

replay-server : (st : State) (es : List Entry) → (replay_from st es).server ≡ st.server
unfolding replay_from apply
replay-server st [] = refl
replay-server st (e ∷ es) = replay-server (apply st e) es ∙ apply-server e.item e.end st

-- recovery keeps the server
on_server : (st now : State) (log : List ℕ) → recovered_on st log ≡ some now → now.server ≡ st.server
unfolding recovered_all
on_server st now log e = go (head_ok log) refl
  where
    read : (o : Option (List Entry)) → recovered_all st o ≡ some now → now.server ≡ st.server
    read none r = impossible (cc)
    read (some es) r = ap (λ (x : State). x.server) (recovered-replay st now es r) ∙ replay-server st es

    go : (a : Bool) → head_ok log ≡ a → now.server ≡ st.server
    go true g = read (entries_of log) (sym (recovered_on_lem log st g) ∙ e)
    go false g = let n : none ≡ some now = sym (recovered-off log st g) ∙ e in impossible (cc)

-- the place of the mark is not seen
pub rebase_mark : (m : ℕ) (st : State) → 1 ≤ m → 1 ≤ st.mark → rebased (with_mark m st) ≡ rebased st
unfolding rebased placed with_mark
rebase_mark m st h l = rw (before-some m h, before-some st.mark l)

pub recovered-append : (st s : State) (es fs : List Entry) → recovered st es ≡ some s → recovered st (es ++ fs) ≡ recovered s fs
unfolding recovered
recovered-append st s [] fs h = let k : st ≡ s = cc in ap (λ (x : State). recovered x fs) k
recovered-append st s (e ∷ es) fs h = go (follows st e.item) h (recovered-append (apply st e) s es fs)
  where
    go : (b : Bool) → elim b [ true ↦ recovered (apply st e) es | false ↦ none ] ≡ some s
        → (recovered (apply st e) es ≡ some s → recovered (apply st e) (es ++ fs) ≡ recovered s fs)
        → elim b [ true ↦ recovered (apply st e) (es ++ fs) | false ↦ none ] ≡ recovered s fs
    go true q ih = ih q
    go false q ih = impossible (cc)

module _ (old tail : List ℕ) (good : head_ok old ≡ true) where
  long : head_size ≤ length old
  long = head-length old good

  rest : List ℕ
  rest = drop head_size old ++ drop head_size tail

  -- the head stays in front
  split-log : old ++ drop head_size tail ≡ head_bytes (head_server old) ++ rest
  unfolding rest
  split-log =
      ap (λ (x : List ℕ). x ++ drop head_size tail) (sym (take-append-drop head_size old) ∙ ap (λ (x : List ℕ). x ++ drop head_size old) (sym (head-again old good)))
      ∙ append_assoc (head_bytes (head_server old)) (drop head_size old) (drop head_size tail)

  joined-state : (plan : List PlanEntry) → recovered_state plan (old ++ drop head_size tail) ≡ recovered_all (founded plan (head_server old)) (entries_of (old ++ drop head_size tail))
  joined-state plan =
      ap (recovered_state plan) split-log ∙ head-recovers plan (head_server old) rest (head-limit old good)
      ∙ ap (λ (x : List ℕ). recovered_all (founded plan (head_server old)) (entries_of x)) (sym split-log)

  -- all records of the old log, then those of the tail
  joined-entries : (es : List Entry) → entries_of old ≡ some es → last_end head_size es ≡ length old
      → entries_of (old ++ drop head_size tail) ≡ map (λ (fs : List Entry). es ++ later (length old - head_size) fs) (entries_of tail)
  unfolding entries_of
  joined-entries es e l =
      let b : ℕ = length old - head_size in
      let t : List ℕ = drop head_size tail in
      let n : length (drop head_size old) + head_size ≡ length old = omega (arith, length-drop head_size old, long) in
      let H : (m : ℕ) → length t ≤ m → walk m (b + head_size) t ≡ map (later b) (walk (length tail) head_size t)
      = λ (m : ℕ) (h : length t ≤ m). walk-moved b (length tail) m head_size t (omega (arith, length-drop head_size tail)) h in
      ap (walk (length (old ++ t)) head_size) (drop-append-le head_size old t long)
      ∙ walk-joined t b (walk (length tail) head_size t) H (length old) (length (old ++ t)) head_size (drop head_size old) es e (omega arith) (omega arith)
      (omega (arith, length-append (drop head_size old) t, length-append old t))

-- the first state of a log, and what a log left of it
record Left (plan : List PlanEntry) (old : List ℕ) (st : State) (es : List Entry) : Type 0 where
  entries : entries_of old ≡ some es
  same : recovered (founded plan (head_server old)) es ≡ some st
  end : st.size ≡ last_end head_size es
  mark : st.mark ≡ head_size

left_of : (plan : List PlanEntry) (old : List ℕ) (st : State) (es : List Entry) → entries_of old ≡ some es → recovered (founded plan (head_server old)) es ≡ some st → Left plan old st es
unfolding founded
left_of plan old st es e r =
    let k : st ≡ replay_from (founded plan (head_server old)) es = recovered-replay (founded plan (head_server old)) st es r in
    record {
      entries = e;
      same = r;
      end = ap (λ (x : State). x.size) k ∙ from_end (founded plan (head_server old)) es;
      mark = ap (λ (x : State). x.mark) k ∙ replay-marked (founded plan (head_server old)) es;
    }

module _ (plan : List PlanEntry) (old tail : List ℕ) (st : State) (full : st.size ≡ length old) (good : head_ok old ≡ true) (tails : head_ok tail ≡ true) where
  kept : State
  kept = rebased (with_mark st.size st)

  kept-alike : (es : List Entry) → Left plan old st es → rebased kept ≡ rebased st
  unfolding kept
  kept-alike es L =
      rebase_rebase (with_mark st.size st) ∙ rebase_mark st.size st (omega (arith, head-length old good)) (omega (arith, L.mark))

  replayed-alike : (es : List Entry) → Left plan old st es → (o : Option (List Entry)) → entries_of tail ≡ o
      → map rebased (recovered_all (founded plan (head_server old)) (map (λ (fs : List Entry). es ++ later (length old - head_size) fs) o))
      ≡ map rebased (recovered_all kept o)
  unfolding recovered_all entries_of
  replayed-alike es L none e = refl
  replayed-alike es L (some fs) e =
      ap (map rebased) (recovered-append (founded plan (head_server old)) st es (later (length old - head_size) fs) L.same)
      ∙ sym (recovered-alike (length old - head_size) kept st (kept-alike es L) fs (walk-past (length tail) head_size (drop head_size tail) fs e))

  by_entries : (es : List Entry) → Left plan old st es
      → map rebased (recovered_state plan (old ++ drop head_size tail)) ≡ map rebased (recovered_on kept tail)
  by_entries es L =
      ap (map rebased)
      (joined-state old tail good plan ∙ ap (recovered_all (founded plan (head_server old))) (joined-entries old tail good es L.entries (sym L.end ∙ full)))
      ∙ replayed-alike es L (entries_of tail) refl ∙ sym (ap (map rebased) (recovered_on_lem tail kept tails))

-- an old log that ends with a whole record, and the tail that follows the checkpoint of its recovered state
pub tail_equals : (plan : List PlanEntry) (old tail : List ℕ) (st : State) → recovered_state plan old ≡ some st → st.size ≡ length old → head_ok tail ≡ true
    → map rebased (recovered_state plan (old ++ drop head_size tail)) ≡ map rebased (recovered_on (rebased (with_mark st.size st)) tail)
unfolding recovered_state recovered_all kept
tail_equals plan old tail st e full tails = go (head_ok old) refl
  where
    F : State
    F = founded plan (head_server old)

    read : head_ok old ≡ true → (o : Option (List Entry)) → entries_of old ≡ o → recovered_all F o ≡ some st
        → map rebased (recovered_state plan (old ++ drop head_size tail)) ≡ map rebased (recovered_on (rebased (with_mark st.size st)) tail)
    read g none q r = impossible (cc)
    read g (some es) q r = by_entries plan old tail st full g tails es (left_of plan old st es q r)

    go : (a : Bool) → head_ok old ≡ a
        → map rebased (recovered_state plan (old ++ drop head_size tail)) ≡ map rebased (recovered_on (rebased (with_mark st.size st)) tail)
    go true g = read g (entries_of old) refl (sym (recovered_on_lem old F g) ∙ e)
    go false g = let n : none ≡ some st = sym (recovered-off old F g) ∙ e in impossible (cc)

-- the checkpoint that was written then, and a tail of the same server
pub tail-recovers : (plan : List PlanEntry) (old checkpoint tail : List ℕ) (st : State) → recovered_state plan old ≡ some st → st.size ≡ length old
    → checkpoint_state checkpoint ≡ some (rebased (with_mark st.size st)) → head_ok tail ≡ true → head_server tail ≡ head_server old
    → map rebased (recovered_state plan (old ++ drop head_size tail)) ≡ map rebased (recovered_tail checkpoint tail)
unfolding recovered_state recovered_tail rebased placed with_mark founded
tail-recovers plan old checkpoint tail st e full c tails same =
    let n : st.server ≡ head_server old = on_server (founded plan (head_server old)) st old e in
    let k : eqb (head_server tail) st.server ≡ true = eq-eqb (head_server tail) st.server (same ∙ sym n) in
    tail_equals plan old tail st e full tails ∙ sym (rw (c, k))
