-- The frame of a checkpoint, and lengths of what is stored of it.
--     framed_by                     the test of the frame, with the pairs tested apart
--     records-within                the table of completion records lies in the checkpoint
--     length_part                   n bytes of a slice
--     rows-length, padded-length, head-length     rows, a table with the zeros past its rows, the head
-- Assumes nothing.
use Prim.Native.Nat.{ℕ, zero, suc, ◌+◌, ◌-◌, ◌*◌, ◌/◌, ◌≤◌}
use mathlib.Core.Path.{◌≡◌, sym, ◌∙◌}
use mathlib.Core.Bool.{Bool, ◌&&◌, ◌||◌}
use mathlib.Core.List.{List}
use native.Mathlib.Omega.{arith}
use native.Mathlib.Nat.{mul-zero, mul-suc}
use lib.ListN.{length, drop, replicate, length-append, length-drop, length-replicate}
use lib.Seq.{length-take-le}
use borrow.Author.Tests.{le-leb}
use Rattle.model.specs.Numbers.{le64, starts_with}
use Rattle.model.specs.Limits.{record_count, checkpoint_head, checkpoint_record}
use Rattle.model.specs.Tables.{rows, bytes_of}
use Rattle.model.specs.States.{state_head, padded}
use Rattle.model.specs.Checkpoints.{first_checkpoint_magic, checkpoint_magic, records_part, record_width, clients_of, records_size_in, records_of, fronts, checkpoint_framed}
use Rattle.model_laws.specs.Bytes.{part}
use Rattle.model_laws.proofs.Tables.{places}
use Rattle.model_laws.proofs.Fronts.{length-fronts, record-width}
use Rattle.model_laws.proofs.Checkpoints.{Framed}
use Rattle.state_restore.specs.Parts.{fixed_pairs, table_pairs, head_restored}

-- the test of the frame, with the pairs tested apart
pub framed_by : (s : List ℕ) {m o b : Bool} {w : ℕ} → checkpoint_head ≤ length s → m ≡ starts_with s checkpoint_magic → o ≡ starts_with s first_checkpoint_magic → w ≡ record_width s
    → b ≡ fixed_pairs w s → ((m || o) && b) ≡ checkpoint_framed s
unfolding checkpoint_framed fixed_pairs table_pairs records_of
framed_by s h q u v p = rw (p, q, u, v, le-leb checkpoint_head (length s) h)

-- the table of completion records lies in the checkpoint, with the width and the counts that were read
pub records-within : (s : List ℕ) → Framed s → {n w k : ℕ} → n ≡ clients_of s → w ≡ record_width s → k ≡ records_size_in s / w
    → (records_part n + w * k ≤ length s) × (k ≤ record_count) × (w ≤ checkpoint_record)
unfolding records_of
records-within s d p v q = rw (q, v, p) (d.whole, d.few_records, (record-width s).1)

-- ---- lengths

pub length_part : (i n : ℕ) (s : List ℕ) → i + n ≤ length s → length (part i n s) ≡ n
length_part i n s h = length-take-le n (drop i s) (rw length-drop (omega arith))

-- rows of v bytes, each of which becomes w bytes
module _ (enc : List ℕ → List ℕ) (v w : ℕ) (long : (s : List ℕ) → v ≤ length s → length (enc s) ≡ w) where
  pub rows-length : (n : ℕ) (s : List ℕ) → v * n ≤ length s → length (bytes_of enc (fronts v n s)) ≡ w * n
  unfolding fronts rows bytes_of
  rows-length zero s h = sym (mul-zero w)
  rows-length (suc n) s h =
      let m : v * suc n ≡ v + v * n = omega (arith, mul-suc v n) in
      let k : w * suc n ≡ w + w * n = omega (arith, mul-suc w n) in
      let d : v * n ≤ length (drop v s) = omega (arith, length-drop v s) in
      length-append (enc s) (bytes_of enc (fronts v n (drop v s))) ∙ rw (long s (omega arith), rows-length n (drop v s) d, k)

  pub padded-length : (n c : ℕ) (s : List ℕ) → n ≤ c → v * n ≤ length s → length (padded enc w c (fronts v n s)) ≡ w * c
  unfolding padded
  padded-length n c s f h =
      length-append (bytes_of enc (fronts v n s)) (replicate (w * (c - length (fronts v n s))) 0)
      ∙ rw (length-fronts v n s, length-replicate, rows-length n s h, places w n c f)

pub head-length : (n m : ℕ) (s : List ℕ) → checkpoint_head ≤ length s → length (head_restored n m s) ≡ state_head
unfolding head_restored le64
head-length n m s h = rw (length-append, length-append, length_part 4 8 s (omega arith))
