-- Take as a chain of refusals, and what it does at the chain's end.
--     take-is, take-malformed, take_read     by what the image's reader answers
--     taking                                 what is known then
--     take-chain, take_ready                 the other refusals, by their number
--     take_sized, take-room, take_bounds, take_settled     the record appended and applied
-- Assumes nothing.
use Prim.Native.Nat.{ℕ, ◌+◌, ◌*◌, ◌≤◌, ◌<◌}
use mathlib.Core.Path.{◌≡◌, refl, sym, ap, ◌∙◌}
use mathlib.Core.Bool.{true, ◌&&◌}
use mathlib.Core.List.{List, []}
use mathlib.Core.Option.{some}
use native.Mathlib.Omega.{arith}
use lib.ListN.{length}
use Rattle.std.specs.Prelude.{Some, None, Result, Ok, Err}
use Rattle.std.specs.Result.{IsErrAnd}
use Rattle.model.specs.declared.ImageHead.{ImageHead}
use Rattle.model.specs.Choice.{append, unless_refused}
use Rattle.model.specs.Numbers.{word}
use Rattle.model.specs.Limits.{client_count, record_count, take_head}
use Rattle.model.specs.Tables.{written, every}
use Rattle.model.specs.Images.{Image, length_by, image_head_of, image_at, image_length, parse_image, image_tables_ok, floor_ok, clients_ascend, image_entry_ok, ids_ascend}
use Rattle.model.specs.Logs.{took, record_bytes, record_size}
use Rattle.model.specs.States.{load}
use Rattle.model.specs.Apply.{apply_record, apply_took}
use Rattle.model.specs.Decisions.{or_malformed, take_tests, decide_take, on_take}
use Rattle.model.specs.Operations.{after, settle, stored, lent_refusal, lent, free_in, take_of}
use Rattle.model.specs.Refusals.{no_refusal}
use Rattle.model.specs.declared.Refusal.{Refusal}
use Rattle.model.specs.declared.Refusal.TheVariants.{Malformed}
use Rattle.refusals.proofs.Numbers.{exit}
use Rattle.refusals.specs.Numbers.{answered}
use Rattle.model_laws.specs.Bytes.{Bytes}
use Rattle.model_laws.proofs.Tests.{and_left, and_right}
use Rattle.model_laws.proofs.Images.{tested, placed, head-same}
use Rattle.model_invariants.specs.Sound.{Sound, GoodImage}
use Rattle.model_invariants.specs.History.{by_take}
use Rattle.model_laws.proofs.Refused.{unless_passed}
use Rattle.model_invariants.proofs.Decided.{take-passed}
use Rattle.model_invariants.proofs.Kept.{decided-sound}
use Rattle.model_invariants.proofs.Loaded.{loaded_sound}
use Rattle.model_invariants.proofs.Formats.{parsed-image}
use Rattle.state_rows.proofs.Chains.{canonical-sound}
use Rattle.server_memory.specs.Memory.{Fit}
use Rattle.format_image_reader.specs.Answers.{read_of}
use Rattle.format_image_reader.proofs.Whole.{read_ok, read_none}
use Rattle.server_moves.specs.Taking.{Taking}

module _ (s log b : List ℕ) where
  pub take-is : take_of s log b ≡ settle s log [] (unless_refused (lent_refusal s log 0 0) (on_take (load s) (free_in s log) (parse_image b)))
  unfolding take_of lent
  take-is = refl

  pub take-malformed : None ≡ read_of (parse_image b) → {e : Refusal} → ◌≡◌ {A = Result ImageHead Refusal} (Err e) (Err Malformed) → (r : Result ℕ Refusal) → IsErrAnd r (λ x. x ≡ e)
      → after (answered r) s log [] ≡ settle s log [] (on_take (load s) (free_in s log) (parse_image b))
  unfolding parse_image on_take or_malformed settle
  take-malformed q {e} k r h = let same : e ≡ Malformed = cc in rw (exit r h, same, read_none b q)

  module _ (h : ImageHead) where
    parsed : Some h ≡ read_of (parse_image b) → parse_image b ≡ some (image_at h b)
    unfolding parse_image
    parsed e = let k = read_ok b h e in rw (k.ok, k.head)

    pub take_read : Some h ≡ read_of (parse_image b) → on_take (load s) (free_in s log) (parse_image b) ≡ decide_take (load s) (free_in s log) (image_at h b)
    unfolding on_take or_malformed
    take_read e = rw (parsed e)

    ascending : (i : Image) → image_tables_ok i ≡ true → clients_ascend i.floors ≡ true
    unfolding image_tables_ok
    ascending i e =
        let a = every floor_ok i.floors in
        let c = every (image_entry_ok i.point i.floors) i.entries && ids_ascend i.entries in
        and_left (clients_ascend i.floors) c (and_right a (clients_ascend i.floors && c) e)

    pub taking : Fit s log 0 0 → Bytes s → Bytes b → Some h ≡ read_of (parse_image b) → Taking s log b h
    unfolding image_at
    taking F w v e =
        let k = read_ok b h e in
        let t = tested b k.ok in
        let G : GoodImage (image_at h b) = parsed-image b (image_at h b) v (parsed e) in
        record {
          canonical = canonical-sound s w F.sound;
          state = loaded_sound s w F.sound;
          logged = F.logged;
          ok = k.ok;
          head = k.head;
          good = G;
          point = G.point;
          size = rw k.head (placed (image_head_of b) b t.parts).size;
          most = k.most;
          ascending = ascending (image_at h b) (rw k.head t.tables);
        }

    -- ---- the other refusals

    abbrev brought : Image
    brought = image_at h b

    pub take-chain : settle s log [] (decide_take (load s) (free_in s log) brought) ≡ settle s log [] (unless_refused (take_tests (load s) (free_in s log) brought) (append (took brought)))
    unfolding decide_take
    take-chain = refl

    pub take_ready : no_refusal ≡ take_tests (load s) (free_in s log) brought → decide_take (load s) (free_in s log) brought ≡ append (took brought)
    unfolding decide_take
    take_ready q = unless_passed _ (append (took brought)) (sym q)

    -- ---- the record

    module _ (T : Taking s log b h) where
      pub take_sized : image_length brought ≡ length b
      unfolding image_length
      take_sized = ap length_by (head-same h b) ∙ sym T.size

      module _ (e : decide_take (load s) (free_in s log) brought ≡ append (took brought)) where
        pub take-room : (load s).size + take_head + length b ≤ length log
        unfolding free_in
        take-room = omega (arith, T.logged, take_sized, (take-passed (load s) (free_in s log) brought (took brought) e).1)

        left : {k : ℕ} → k ≡ (load s).size → k + take_head + length b < word * word → Sound (apply_took brought (k + take_head + length b) (load s))
        unfolding apply_record record_size
        left {k} p l =
            let q : (load s).size + (take_head + image_length brought) ≡ k + take_head + length b = omega (arith, p, take_sized) in
            rw q at (decided-sound (load s) (free_in s log) (took brought) T.state (by_take brought T.good e) (omega (arith, l, q)))

        pub take_bounds : {k : ℕ} → k ≡ (load s).size → k + take_head + length b < word * word
            → (length (apply_took brought (k + take_head + length b) (load s)).floors ≤ client_count) × (length (apply_took brought (k + take_head + length b) (load s)).records ≤ record_count)
        take_bounds p l = let S = left p l in (S.clients, S.count)

      pub take_settled : {k : ℕ} {t l : List ℕ} → k ≡ (load s).size → t ≡ stored s (apply_took brought (k + take_head + length b) (load s))
          → l ≡ written log k (record_bytes (took (image_at (image_head_of b) b))) → after (answered (Ok 0)) t l [] ≡ settle s log [] (append (took brought))
      unfolding settle record_size apply_record
      take_settled {k} a x y =
          let q : k + take_head + length b ≡ (load s).size + (take_head + image_length brought) = omega (arith, a, take_sized) in
          rw (x, y, q, a, T.head)
