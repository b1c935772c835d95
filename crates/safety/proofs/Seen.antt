-- A call by the server's own log, and by its whole log since the founding.
--     decision-seen            what an operation decides
--     left-seen                what a call leaves
-- Assumes nothing.
use Prim.Native.Nat.{ℕ, ◌+◌, ◌-◌, ◌≤◌}
use mathlib.Core.Path.{◌≡◌, refl, sym, ◌∙◌, ap}
use mathlib.Core.Bool.{Bool, true, false}
use mathlib.Core.List.{List, [], ◌∷◌, ◌++◌, append_assoc, map, map-append}
use native.Mathlib.Omega.{arith}
use lib.Dec.{ltb}
use borrow.Author.Tests.{ltb-true, ltb-false, lt-ltb, le-ltb}
use Rattle.model.specs.Choice.{pick, refuse, deny, reply, append, marks}
use Rattle.model.specs.Refusals.{unsound}
use Rattle.model.specs.Limits.{head_size}
use Rattle.model.specs.Packets.{parse_packet}
use Rattle.model.specs.Images.{parse_image}
use Rattle.model.specs.Logs.{LogRecord, executed, gone, gave, took, released, Entry, record_size}
use Rattle.model.specs.States.{State}
use Rattle.model.specs.Apply.{apply, apply_record, apply_executed, apply_gone, apply_gave, apply_took, apply_released, with_mark}
use Rattle.model.specs.Decisions.{Decided, on_sync}
use Rattle.model.specs.Checkpoints.{placed}
use Rattle.model.specs.Calls.{Operation, request, fetch, sync, notice, give, image, take_in, receipt, release, decision}
use Rattle.model_invariants.specs.Placed.{seen_from, later_entry, later, marks_from}
use Rattle.model_invariants.proofs.Calls.{sets-mark}
use Rattle.model_invariants.proofs.Decided.{sync-passed}
use Rattle.model_invariants.proofs.Recovery.{apply-size}
use Rattle.model_invariants.proofs.Seen as Seen
use Rattle.claim.specs.RecordWorld as R
use Rattle.safety.specs.Alike.{whole, LeftSeen}
use Rattle.safety.proofs.Facts.{local-from}

-- a decision that sets no mark
same_from : (b : ℕ) (d : Decided) → ((m : ℕ) → d ≡ marks m → ⊥) → marks_from b d ≡ d
unfolding marks_from
same_from b (refuse n) h = refl
same_from b (deny n p) h = refl
same_from b (reply p) h = refl
same_from b (append r) h = refl
same_from b (marks m) h = absurd (h m refl)

ltb_more : (b x y : ℕ) → ltb (b + x) (b + y) ≡ ltb x y
ltb_more b x y = go (ltb x y) refl
  where
    go : (p : Bool) → ltb x y ≡ p → ltb (b + x) (b + y) ≡ p
    go true e = lt-ltb (b + x) (b + y) (omega (arith, ltb-true x y e))
    go false e = le-ltb (b + x) (b + y) (omega (arith, ltb-false x y e))

apply-mark : (r : LogRecord) (end : ℕ) (st : State) → (apply_record r end st).mark ≡ st.mark
unfolding apply_record apply_executed apply_gone apply_gave apply_took apply_released
apply-mark (executed x) end st = refl
apply-mark (gone n) end st = refl
apply-mark (gave g) end st = refl
apply-mark (took i) end st = refl
apply-mark (released r) end st = refl

module _ (b : ℕ) (st : State) (past : b + head_size ≤ st.mark) (up : st.mark ≤ st.size) where
  abbrev seen : State
  seen = seen_from b st

  -- the recorded length and the mark, counted from the founding
  seen_size : b + seen.size ≡ st.size
  unfolding seen_from placed
  seen_size = local-from b st.size (omega (arith, past, up))

  seen-mark : b + seen.mark ≡ st.mark
  unfolding seen_from placed
  seen-mark = local-from b st.mark past

  plain : (o : Operation) (free : ℕ) {d : Decided} → decision o seen free ≡ d → ((k : ℕ) → o ≡ sync k → ⊥) → marks_from b (decision o seen free) ≡ d
  plain o free e h = same_from b (decision o seen free) (λ m q. let s = sets-mark o seen free m q in h s.0 s.1) ∙ e

  pub decision-seen : (o : Operation) (free : ℕ) → decision (whole b o) st free ≡ marks_from b (decision o seen free)
  unfolding decision whole
  decision-seen (request v p) free = sym (plain (request v p) free (Seen.request-seen b v st free (parse_packet p) past) (λ k q. let z : ◌≡◌ {A = ℕ} 0 1 = cc in omega arith))
  decision-seen (fetch v x c) free = sym (plain (fetch v x c) free (Seen.fetch-seen b v st x c past) (λ k q. let z : ◌≡◌ {A = ℕ} 0 1 = cc in omega arith))
  decision-seen (sync m) free = sym (Seen.sync-seen b st past up m)
  decision-seen (notice p) free = sym (plain (notice p) free (Seen.notice-seen b st free (parse_packet p)) (λ k q. let z : ◌≡◌ {A = ℕ} 0 1 = cc in omega arith))
  decision-seen (give p d) free = sym (plain (give p d) free (Seen.give-seen b st free p d) (λ k q. let z : ◌≡◌ {A = ℕ} 0 1 = cc in omega arith))
  decision-seen (image v p) free = sym (plain (image v p) free (Seen.image-seen b v st p past) (λ k q. let z : ◌≡◌ {A = ℕ} 0 1 = cc in omega arith))
  decision-seen (take_in i) free = sym (plain (take_in i) free (Seen.take-seen b st free (parse_image i)) (λ k q. let z : ◌≡◌ {A = ℕ} 0 1 = cc in omega arith))
  decision-seen (receipt p) free = sym (plain (receipt p) free (Seen.receipt-seen b st p past) (λ k q. let z : ◌≡◌ {A = ℕ} 0 1 = cc in omega arith))
  decision-seen (release p) free = sym (plain (release p) free (Seen.release-seen b st free (parse_packet p)) (λ k q. let z : ◌≡◌ {A = ℕ} 0 1 = cc in omega arith))

  module _ (before : List Entry) (own log : R.Log) (entries : log.entries ≡ before ++ later b own.entries) where
    -- the entries with one more
    longer : (r : LogRecord) → log.entries ++ (record { item = r; end = st.size + record_size r } ∷ [])
        ≡ before ++ later b (own.entries ++ (record { item = r; end = seen.size + record_size r } ∷ []))
    unfolding later
    longer r =
        let end : b + (seen.size + record_size r) ≡ st.size + record_size r = omega (arith, seen_size) in
        rw (entries, map-append (later_entry b) own.entries (record { item = r; end = seen.size + record_size r } ∷ []), append_assoc before)
        (ap (λ (n : ℕ). before ++ (map (later_entry b) own.entries ++ (record { item = r; end = n } ∷ []))) (sym end))

    -- a decision carried out
    settle-seen : (d : Decided) → ((m : ℕ) → d ≡ marks m → (seen.mark ≤ m) × (m ≤ seen.size)) → LeftSeen b before log.number (R.settle seen own d) (R.settle st log (marks_from b d))
    unfolding R.settle R.longer marks_from apply with_mark
    settle-seen (refuse n) h = record { number = refl; made = refl; state = refl; log = refl; entries = entries; past = past; mark = up }
    settle-seen (deny n p) h = record { number = refl; made = refl; state = refl; log = refl; entries = entries; past = past; mark = up }
    settle-seen (reply p) h = record { number = refl; made = refl; state = refl; log = refl; entries = entries; past = past; mark = up }
    settle-seen (append r) h =
        let end : b + (seen.size + record_size r) ≡ st.size + record_size r = omega (arith, seen_size) in
        let low : head_size ≤ seen.size + record_size r = omega (arith, seen_size, past, up) in
        let next : State = apply_record r (st.size + record_size r) st in
        let m : next.mark ≡ st.mark = apply-mark r (st.size + record_size r) st in
        let n : next.size ≡ st.size + record_size r = apply-size r (st.size + record_size r) st in
        record {
          number = refl;
          made = refl;
          state = Seen.apply-seen b r (seen.size + record_size r) st low ∙ ap (λ (k : ℕ). seen_from b (apply_record r k st)) end;
          log = refl;
          entries = longer r;
          past = omega (arith, past, m);
          mark = omega (arith, up, m, n);
        }
    settle-seen (marks m) h =
        let k = h m refl in
        let low : head_size ≤ m = omega (arith, k.0, seen-mark, past) in
        let high : b + m ≤ st.size = omega (arith, k.1, seen_size) in
        record { number = refl; made = refl; state = Seen.mark-seen b m st low; log = refl; entries = entries; past = omega (arith, low); mark = high }

    -- a mark that is set lies between the present one and the end
    mark_between : (o : Operation) (free m : ℕ) → decision o seen free ≡ marks m → (seen.mark ≤ m) × (m ≤ seen.size)
    unfolding decision
    mark_between o free m e =
        let s = sets-mark o seen free m e in
        let k : ℕ = s.0 in
        let q : on_sync seen k ≡ marks m = sym (ap (λ (x : Operation). decision x seen free) s.1) ∙ e in
        let p = sync-passed seen k m q in
        (omega (arith, p.0, p.1), omega (arith, p.0, p.2))

    pub left-seen : (o : Operation) (room : ℕ) → LeftSeen b before log.number (R.call_of seen own room (decision o)) (R.call_of st log (b + room) (decision (whole b o)))
    unfolding R.call_of marks_from
    left-seen o room = rw test (go (ltb room seen.size) refl)
      where
        test : ltb (b + room) st.size ≡ ltb room seen.size
        test = ap (ltb (b + room)) (sym seen_size) ∙ ltb_more b room seen.size

        free : b + room - st.size ≡ room - seen.size
        free = omega (arith, seen_size)

        go : (p : Bool) → ltb room seen.size ≡ p
            → LeftSeen b before log.number (R.settle seen own (pick p (refuse unsound) (decision o seen (room - seen.size))))
            (R.settle st log (pick p (refuse unsound) (decision (whole b o) st (b + room - st.size))))
        go true e = settle-seen (refuse unsound) (λ m q. let z : ◌≡◌ {A = ℕ} 0 1 = cc in absurd (omega arith))
        go false e =
            rw (free, decision-seen o (room - seen.size)) (settle-seen (decision o seen (room - seen.size)) (mark_between o (room - seen.size)))
