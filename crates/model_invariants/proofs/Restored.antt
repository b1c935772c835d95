-- The state that a checkpoint gives, for any bytes: sound, at the start of a log; its own checkpoint are the bytes that were read.
--     Gives, gives                       what checkpoint_state asks
--     restored-length, restored-bytes    the bytes of the state that a framed checkpoint gives
--     checkpoint-size, checkpoint-mark, checkpoint-sound, checkpoint-rebased     the state
--     checkpoint_timely, checkpoint-again     its times fit the form of the checkpoint; written again in that form: the same bytes
--     state-checkpoint                   a sound buffer's state through a checkpoint's buffer and back: the state, places aside
-- Assumes nothing.
use Prim.Native.Nat.{ℕ, ◌+◌, ◌-◌, ◌*◌, ◌≤◌}
use mathlib.Core.Path.{◌≡◌, refl, sym, ap, ◌∙◌, subst}
use mathlib.Core.Bool.{Bool, true, false, ◌&&◌}
use mathlib.Core.List.{List, [], ◌∷◌, ◌++◌, append_assoc}
use mathlib.Core.Option.{some}
use native.Mathlib.Omega.{arith}
use lib.ListN.{length, take, drop, replicate, length-drop}
use lib.Seq.{length-take-le, drop_at}
use Rattle.model.specs.Versions.{Versions}
use Rattle.model.specs.declared.Completion.{Completion}
use Rattle.model.specs.Numbers.{le32_at, le64, starts_with}
use Rattle.model.specs.Limits.{head_size, record_count, checkpoint_size, first_checkpoint_record, checkpoint_record}
use Rattle.model.specs.Tables.{rows, bytes_of, written}
use Rattle.model.specs.States.{State, record_row, state_end, completion_of, padded, load, sound}
use Rattle.model.specs.Decisions.{timed_by}
use Rattle.model.specs.Operations.{stored}
use Rattle.model.specs.Checkpoints.{rebased, checkpoint_magic, checkpoint_record_of, records_part, checkpoint_bytes, record_width, clients_of, records_of, record_whole, fronts, restored_bytes, restored, checkpoint_framed, checkpoint_state}
use Rattle.model_laws.specs.Bytes.{Bytes, All}
use Rattle.model_laws.specs.Fits.{TimeFits}
use Rattle.model_laws.proofs.Tests.{choose}
use Rattle.model_laws.proofs.Written.{written-front}
use Rattle.model_laws.proofs.States.{sound-is}
use Rattle.model_laws.proofs.Numbers.{le32-past}
use Rattle.model_laws.proofs.Fronts.{fronts-long, length-fronts, record-whole-width}
use Rattle.model_laws.proofs.Checkpoints.{Framed, framed_is, Timely}
use Rattle.model_laws.proofs.Restored.{restored-fit, restored-long, restored-size, restored-mark, restored-records, drop-floors, restored-again}
use Rattle.model_invariants.specs.Sound.{GoodCompletion, Sound}
use Rattle.model_invariants.specs.History.{Start}
use Rattle.model_invariants.proofs.Lists.{all_to}
use Rattle.model_invariants.proofs.Tests.{split, times-fit}
use Rattle.model_invariants.proofs.Loaded.{loaded_sound}
use Rattle.model_invariants.proofs.Checkpoints.{start-rebased, restored-back, checkpoint-fits}

pub restored-length : (s : List ℕ) → checkpoint_framed s ≡ true → length (restored s) ≡ state_end
restored-length s e = restored-long s (framed_is s e)

pub restored-bytes : (s : List ℕ) → Bytes s → Bytes (restored s)
restored-bytes s h = restored-fit s h

-- the checkpoint s gives the state st
pub record Gives (s : List ℕ) (st : State) : Type 0 where
  pub framed : checkpoint_framed s ≡ true
  pub sound : sound (restored s) ≡ true
  pub same : load (restored s) ≡ st

pub gives : (s : List ℕ) (st : State) → checkpoint_state s ≡ some st → Gives s st
unfolding checkpoint_state
gives s st =
    choose (λ o. o ≡ some st → Gives s st) (checkpoint_framed s && sound (restored s))
    (λ ok e.
    let q : load (restored s) ≡ st = cc in
    let k = split (checkpoint_framed s) (sound (restored s)) ok in
    record { framed = k.0; sound = k.1; same = q })
    (λ no e. let z : ◌≡◌ {A = ℕ} 0 1 = cc in absurd (omega arith))

module _ (s : List ℕ) (st : State) (e : checkpoint_state s ≡ some st) where
  pub checkpoint-size : st.size ≡ head_size
  unfolding load
  checkpoint-size = let g = gives s st e in rw (← g.same) (restored-size s (framed_is s g.framed))

  pub checkpoint-mark : st.mark ≡ head_size
  unfolding load
  checkpoint-mark = let g = gives s st e in rw (← g.same) (restored-mark s (framed_is s g.framed))

pub checkpoint-sound : (s : List ℕ) → Bytes s → (st : State) → checkpoint_state s ≡ some st → Start st
checkpoint-sound s h st e =
    let g = gives s st e in
    record { sound = subst Sound g.same (loaded_sound (restored s) (restored-fit s h) g.sound); empty = checkpoint-size s st e }

pub checkpoint-rebased : (s : List ℕ) → Bytes s → (st : State) → checkpoint_state s ≡ some st → rebased st ≡ st
checkpoint-rebased s h st e = start-rebased st (checkpoint-sound s h st e)

-- ---- by form

-- a completion record of the first form has time 0
time-none : (w : ℕ) → w ≡ first_checkpoint_record → (row rest : List ℕ) → w ≤ length row → (completion_of (record_whole w row ++ rest)).result.time ≡ 0
unfolding completion_of record_whole le32_at
time-none w e row rest l =
    rw (e, append_assoc (take first_checkpoint_record row) (replicate (checkpoint_record - first_checkpoint_record) 0 ++ le64 head_size) rest)
    (le32-past (take first_checkpoint_record row) ((replicate (checkpoint_record - first_checkpoint_record) 0 ++ le64 head_size) ++ rest) first_checkpoint_record 0
    (length-take-le first_checkpoint_record row (omega (arith, e))))

times_none : (w : ℕ) → w ≡ first_checkpoint_record → (fronts : List (List ℕ)) (rest : List ℕ) → All (λ (row : List ℕ). w ≤ length row) fronts
    → All (λ (r : Completion). r.result.time ≡ 0) (rows completion_of record_row (length fronts) (bytes_of (record_whole w) fronts ++ rest))
unfolding rows bytes_of
times_none w e [] rest h = tt
times_none w e (row ∷ fronts) rest h =
    let more : List ℕ = bytes_of (record_whole w) fronts ++ rest in
    rw (append_assoc (record_whole w row) (bytes_of (record_whole w) fronts) rest, drop_at (record_whole w row) more record_row (record-whole-width w (omega arith) row h.0))
    (time-none w e row more h.0, times_none w e fronts rest h.1)

restored-times : (s : List ℕ) → Framed s → starts_with s checkpoint_magic ≡ false → All (λ (r : Completion). r.result.time ≡ 0) (load (restored s)).records
unfolding load padded
restored-times s d q =
    let w : ℕ = record_width s in
    let z : w ≡ first_checkpoint_record = unfold record_width checkpoint_record_of in rw q in
    let from : List ℕ = drop (records_part (clients_of s)) s in
    let long : All (λ (row : List ℕ). w ≤ length row) (fronts w (records_of s) from)
    = fronts-long w (records_of s) from (omega (arith, d.whole, length-drop (records_part (clients_of s)) s)) in
    let rest : List ℕ = replicate (record_row * (record_count - length (fronts w (records_of s) from))) 0 in
    rw (restored-records s d, drop-floors s d)
    (subst (λ (n : ℕ). All (λ (r : Completion). r.result.time ≡ 0) (rows completion_of record_row n (bytes_of (record_whole w) (fronts w (records_of s) from) ++ rest)))
    (length-fronts w (records_of s) from) (times_none w z (fronts w (records_of s) from) rest long))

-- the times that a checkpoint gives fit its form
pub checkpoint_timely : (s : List ℕ) → Bytes s → (st : State) → checkpoint_state s ≡ some st → Timely (starts_with s checkpoint_magic) st
unfolding Timely
checkpoint_timely s h st e = go (starts_with s checkpoint_magic) refl
  where
    go : (timed : Bool) → starts_with s checkpoint_magic ≡ timed → All (λ (r : Completion). TimeFits timed r.result.time) st.records
    go true q = all_to st.records (λ (r : Completion) (g : GoodCompletion st.plan st.size r). g.time) (checkpoint-sound s h st e).sound.records
    go false q =
        let g = gives s st e in
        subst (λ (j : State). All (λ (r : Completion). r.result.time ≡ 0) j.records) g.same (restored-times s (framed_is s g.framed) q)

-- written again in the form that was read: the same bytes
pub checkpoint-again : (s : List ℕ) → Bytes s → (st : State) → checkpoint_state s ≡ some st
    → take (length (checkpoint_bytes (starts_with s checkpoint_magic) st)) s ≡ checkpoint_bytes (starts_with s checkpoint_magic) st
checkpoint-again s h st e =
    let g = gives s st e in
    let d = framed_is s g.framed in
    let b : List ℕ = checkpoint_bytes (starts_with s checkpoint_magic) st in
    let n : ℕ = records_part (clients_of s) + record_width s * records_of s in
    let same : b ≡ take n s = ap (checkpoint_bytes (starts_with s checkpoint_magic)) (sym g.same) ∙ restored-again s d h (sound-is (restored s) g.sound) in
    let l : length b ≡ n = ap length same ∙ length-take-le n s d.whole in
    ap (λ (k : ℕ). take k s) l ∙ sym same

-- whatever program writes it
pub state-checkpoint : (v : Versions) (s cp : List ℕ) → Bytes s → sound s ≡ true → checkpoint_size ≤ length cp
    → written s 0 (restored_bytes (written cp 0 (checkpoint_bytes (timed_by v (load s)) (load s)))) ≡ stored s (rebased (load s))
unfolding stored
state-checkpoint v s cp h ok l =
    let S : Sound (load s) = loaded_sound s h ok in
    let timed : Bool = timed_by v (load s) in
    let b : List ℕ = checkpoint_bytes timed (load s) in
    rw (written-front cp b (omega (arith, checkpoint-fits timed (load s) S)), restored-back timed (load s) S (times-fit v (load s) S) (drop (length b) cp))
