-- What inspect answers lies within the slice that it names.
--     placed-none, placed-among     no place; a row of a table
--     placed-record                 in one record of a log
--     placed-log                    in all of them
--     placed-entry                  in the checkpoint
--     inspect_inside                the answer
-- Assumes nothing.
use Prim.Native.Nat.{ℕ, ◌+◌, ◌*◌, ◌≤◌}
use mathlib.Core.Path.{◌≡◌, refl, sym, ap, ◌∙◌}
use mathlib.Core.Bool.{Bool, true, ◌&&◌}
use mathlib.Core.List.{List, [], ◌∷◌}
use mathlib.Core.Option.{Option, none, some}
use native.Mathlib.Omega.{arith}
use lib.ListN.{length, drop}
use lib.Seq.{length-take-le}
use lib.Dec.{eqb, leb, ltb}
use borrow.Author.Tests.{eqb-true, leb-true, ltb-true}
use Rattle.model.specs.declared.Place.{Place}
use Rattle.model.specs.Choice.{pick, or_else, is_passed}
use Rattle.model.specs.Refusals.{unknown, no_refusal}
use Rattle.model.specs.Limits.{head_size, take_head}
use Rattle.model.specs.Tables.{index_of}
use Rattle.model.specs.Images.{entry_width, entries_start, image_head, image_length}
use Rattle.model.specs.Logs.{LogRecord, executed, gone, gave, took, released, spans, off, cut, record_at, record_size, ends_of}
use Rattle.model.specs.Logs.{Extent as LogExtent}
use Rattle.model.specs.Checkpoints.{in_image, in_checkpoint, no_place, place_among, is_entry_id, latest_of, latest_in}
use Rattle.model.specs.States.{load, is_id}
use Rattle.model.specs.Checkpoints.{records_part, record_width, clients_of, restored, checkpoint_framed, place_in_checkpoint, tail_of, inspect_refusal, inspect_of}
use Rattle.model_laws.specs.Bytes.{Bytes}
use Rattle.model_laws.specs.Fits.{IsRecord}
use Rattle.model_laws.proofs.Tests.{choose, impossible}
use Rattle.model_laws.proofs.Numbers.{bytes_drop, bytes_take}
use Rattle.model_laws.proofs.Tables.{row_in}
use Rattle.model_laws.proofs.Logs.{record_is}
use Rattle.model_laws.proofs.Ends.{join_end}
use Rattle.format_log_ends.specs.Answers.{extent_from}
use Rattle.format_log_ends.specs.Walked.{ends_from}
use Rattle.format_log_ends.proofs.Ends.{from-spans, from_inside}
use Rattle.format_log_ends.proofs.Walked.{ends_from-off, ends_from-cut, ends_from-spans}
use Rattle.model_laws.proofs.Checkpoints.{Framed, framed_is}
use Rattle.server_inspect.specs.Inspected.{Inside}
use Rattle.server_inspect.proofs.Kept.{kept-count}
use Rattle.server_inspect.proofs.Refusing.{usable, Passed, passed-tests, ends_some}

module _ (checkpoint tail : List ℕ) where
  pub placed-none : (n : ℕ) → Inside checkpoint tail (no_place n)
  placed-none n = record { order = omega arith; within = omega arith }

  -- rows of the tail or, from another source, of the checkpoint
  pub placed-among : {A : Type 0} (t : A → Bool) (rs : List A) (source k w : ℕ) (found : Place) → k + w * length rs ≤ length (pick (eqb source in_checkpoint) checkpoint tail)
      → Inside checkpoint tail found → Inside checkpoint tail (place_among source k w t rs found)
  unfolding place_among
  placed-among t rs source k w found h o =
      choose (Inside checkpoint tail) (ltb (index_of t rs) (length rs))
      (λ e.
      let l : w * index_of t rs + w ≤ w * length rs = row_in w (index_of t rs) (length rs) (ltb-true (index_of t rs) (length rs) e) in
      record { order = omega arith; within = omega arith }) (λ e. o)

  -- ---- the records of a log in front of the tail

  module _ (log : List ℕ) (b : Bytes log) (front : length log ≤ length tail) (x c : ℕ) where
    pub placed-record : (at n : ℕ) (found : Place) → extent_from log at ≡ spans n → Inside checkpoint tail found → Inside checkpoint tail (latest_of x c at (record_at (drop at log)) found)
    unfolding latest_of record_size image_length
    placed-record at n found e o = go (record_at (drop at log)) refl
      where
        size : (r : LogRecord) → record_at (drop at log) ≡ some r → at + record_size r ≤ length tail
        size r q =
            let i : IsRecord (drop at log) n r = record_is (drop at log) (bytes_drop at log b) n (from-spans log at n e) r q in
            omega (arith, i.size, from_inside log at n e, front)

        go : (r : Option LogRecord) → record_at (drop at log) ≡ r → Inside checkpoint tail (latest_of x c at r found)
        go none q = o
        go (some (executed r)) q =
            choose (Inside checkpoint tail) (eqb r.command.client x && eqb r.command.call c)
            (λ (t : (eqb r.command.client x && eqb r.command.call c) ≡ true). record { order = omega arith; within = omega (arith, size (executed r) q) }) (λ t. o)
        go (some (took i)) q =
            placed-among (is_entry_id x c) i.entries in_image (at + take_head + entries_start (length i.floors)) (entry_width (image_head i)) found (omega (arith, size (took i) q)) o
        go (some (gone r)) q = o
        go (some (gave r)) q = o
        go (some (released r)) q = o

    pub placed-log : (es : List ℕ) (at : ℕ) (found : Place) → ends_from log at ≡ some es → Inside checkpoint tail found → Inside checkpoint tail (latest_in x c log at es found)
    unfolding latest_in join_end
    placed-log [] at found w o = o
    placed-log (e ∷ es) at found w o = go (placed-log es) (extent_from log at) refl
      where
        Rest : Type 0
        Rest = (k : ℕ) (f : Place) → ends_from log k ≡ some es → Inside checkpoint tail f → Inside checkpoint tail (latest_in x c log k es f)

        on : Rest → (n : ℕ) → extent_from log at ≡ spans n → (v : Option (List ℕ)) → ends_from log (at + n) ≡ v → join_end (at + n) v ≡ some (e ∷ es)
            → Inside checkpoint tail (latest_in x c log e es (latest_of x c at (record_at (drop at log)) found))
        on rest n p none q r = impossible (cc)
        on rest n p (some fs) q r =
            let i : at + n ≡ e = cc in
            let j : fs ≡ es = cc in
            rest e (latest_of x c at (record_at (drop at log)) found) (ap (ends_from log) (sym i) ∙ q ∙ ap some j) (placed-record at n found p o)

        go : Rest → (y : LogExtent) → extent_from log at ≡ y → Inside checkpoint tail (latest_in x c log e es (latest_of x c at (record_at (drop at log)) found))
        go rest off p = impossible (let z = sym (ends_from-off log at p) ∙ w in cc)
        go rest cut p = impossible (let z = sym (ends_from-cut log at p) ∙ w in cc)
        go rest (spans n) p = on rest n p (ends_from log (at + n)) refl (sym (ends_from-spans log at n p) ∙ w)

  -- ---- the checkpoint

  pub placed-entry : (x c : ℕ) → (1 ≤ length checkpoint → checkpoint_framed checkpoint ≡ true) → Inside checkpoint tail (place_in_checkpoint x c checkpoint)
  unfolding place_in_checkpoint
  placed-entry x c u =
      choose (Inside checkpoint tail) (leb 1 (length checkpoint))
      (λ e.
      let w : Framed checkpoint = framed_is checkpoint (u (leb-true 1 (length checkpoint) e)) in
      placed-among (is_id x c) (load (restored checkpoint)).records in_checkpoint (records_part (clients_of checkpoint)) (record_width checkpoint) (no_place unknown)
      (rw (kept-count checkpoint w) w.whole) (placed-none unknown)) (λ e. placed-none unknown)

-- ---- the answer

module _ (state checkpoint tail : List ℕ) (x c : ℕ) where
  answer_inside : Bytes state → Bytes tail → inspect_refusal state checkpoint tail x c ≡ no_refusal → (o : Option (List ℕ)) → ends_of (tail_of state tail) ≡ o
      → Inside checkpoint tail (or_else o (no_place unknown) (λ es. latest_in x c (tail_of state tail) head_size es (place_in_checkpoint x c checkpoint)))
  answer_inside b d e none q = placed-none checkpoint tail unknown
  answer_inside b d e (some es) q =
      let p : Passed state checkpoint tail x c = passed-tests state checkpoint tail x c e in
      let log : List ℕ = tail_of state tail in
      let front : length log ≡ (load state).size = unfold tail_of in length-take-le (load state).size tail p.fit.logged in
      let bytes : Bytes log = unfold tail_of in bytes_take (load state).size tail d in
      placed-log checkpoint tail log bytes (omega (arith, front, p.fit.logged)) x c es head_size (place_in_checkpoint x c checkpoint) (ends_some log es q)
      (placed-entry checkpoint tail x c (usable checkpoint tail p.good))

  pub inspect_inside : Bytes state → Bytes tail → Inside checkpoint tail (inspect_of state checkpoint tail x c)
  unfolding inspect_of
  inspect_inside b d =
      choose (Inside checkpoint tail) (is_passed (inspect_refusal state checkpoint tail x c))
      (λ e. answer_inside b d (eqb-true (inspect_refusal state checkpoint tail x c) no_refusal e) (ends_of (tail_of state tail)) refl)
      (λ e. placed-none checkpoint tail (inspect_refusal state checkpoint tail x c))
