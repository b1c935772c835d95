-- Each call as a chain of refusals, and what it does at the chain's end.
--     sync-is, sync-done
--     fetch-is, fetch-none, fetch-at
--     notice-is, notice-other, notice-one, notice_by, notice-room
-- Assumes nothing.
use Prim.Native.Nat.{ℕ, ◌≤◌}
use mathlib.Core.Path.{◌≡◌, refl, sym, ap, ◌∙◌}
use mathlib.Core.Bool.{Bool, true, false}
use mathlib.Core.List.{List, [], ◌∷◌}
use native.Mathlib.Omega.{arith}
use lib.ListN.{length}
use lib.Dec.{eqb, ltb}
use borrow.Author.Tests.{ltb-false}
use denote.Enum.Declared.{tag_of}
use types.Run.{OneOf, miss}
use Rattle.std.specs.Prelude.{Option, None, Some}
use Rattle.model.specs.declared.Notice.{Notice}
use Rattle.model.specs.declared.Completion.{Completion}
use Rattle.model.specs.declared.Packet.{Packet}
use Rattle.model.specs.declared.Packet.TheVariants.{Requested, Resulted, Refused, Receipted, Noticed, Granted}
use Rattle.model.specs.contracts.Packet.{the_type}
use Rattle.model.specs.Choice.{pick, refuse, reply, append, marks, unless_refused}
use Rattle.model.specs.Versions.{today}
use Rattle.model.specs.Packets.{result_size_of, result_bytes, parse_packet, as_notice}
use Rattle.model.specs.Images.{floor_of}
use Rattle.model.specs.Logs.{gone}
use Rattle.model.specs.States.{State, load}
use Rattle.model.specs.Apply.{with_mark}
use Rattle.model.specs.Decisions.{timed_by, or_malformed, find, result_of_record, fetch_refusal, on_fetched, on_fetch, on_sync, notice_refusal, decide_notice, on_notice}
use Rattle.model.specs.Operations.{After, answer_of, after, settle, stored, free_in, lent_refusal, lent, sync_of, fetch_of, notice_of}
use Rattle.model.specs.Limits.{result_size, gone_size}
use Rattle.model.specs.Refusals.{unknown, log_full, malformed, no_refusal}
use Rattle.state_records.specs.Rules.{found_of}
use Rattle.state_records.proofs.Search.{found_none, found_at}

module _ (s log : List ℕ) where
  pub sync-is : (m : ℕ) → sync_of s log m ≡ settle s log [] (unless_refused (lent_refusal s log 0 0) (on_sync (load s) m))
  unfolding sync_of lent
  sync-is m = refl

  pub sync-done : (m : ℕ) {t : List ℕ} → t ≡ stored s (with_mark m (load s)) → after (answer_of no_refusal 0) t log [] ≡ settle s log [] (marks m)
  unfolding settle
  sync-done m p = rw p

-- ---- fetch

module _ (s log out : List ℕ) where
  pub fetch-is : (client call : ℕ) → fetch_of today s log client call out ≡ settle s log out (unless_refused (lent_refusal s log (length out) result_size) (on_fetch today (load s) client call))
  unfolding fetch_of lent result_size_of timed_by
  fetch-is client call = refl

  pub fetch-none : (client call : ℕ) {f : Option Completion} → f ≡ found_of (find client call (load s).records) → f ≡ None
      → after (answer_of unknown 0) s log out ≡ settle s log out (on_fetch today (load s) client call)
  unfolding settle on_fetch on_fetched
  fetch-none client call p q = rw (found_none (find client call (load s).records) (sym q ∙ p))

  pub fetch-at : (client call : ℕ) {f : Option Completion} (x : Completion) → f ≡ found_of (find client call (load s).records) → f ≡ Some x
      → {a : After} → a ≡ settle s log out (unless_refused (fetch_refusal (load s).mark x) (reply (result_bytes (result_of_record true x))))
      → a ≡ settle s log out (on_fetch today (load s) client call)
  unfolding on_fetch on_fetched timed_by
  fetch-at client call x p q e = e ∙ ap (settle s log out) (sym (ap (on_fetched today (load s)) (found_at (find client call (load s).records) x (sym q ∙ p))))

-- ---- notice

other-packet : (st : State) (free : ℕ) (p : Packet) → OneOf (0 ∷ 1 ∷ 2 ∷ 3 ∷ 5 ∷ []) (tag_of the_type p) → on_notice st free (Some p) ≡ refuse malformed
unfolding on_notice or_malformed as_notice
other-packet st free (Requested q) h = refl
other-packet st free (Resulted q) h = refl
other-packet st free (Refused q) h = refl
other-packet st free (Receipted q) h = refl
other-packet st free (Noticed n) h = absurd (miss (0 ∷ 1 ∷ 2 ∷ 3 ∷ 5 ∷ []) 4 tt h)
other-packet st free (Granted q) h = refl

-- 0 where the log has space for a gone record
pub notice-room : (floor free : ℕ) → no_refusal ≡ notice_refusal floor free → gone_size ≤ free
unfolding notice_refusal
notice-room floor free p = go (eqb floor 0) (ltb free gone_size) refl (sym p)
  where
    go : (a b : Bool) → ltb free gone_size ≡ b → pick {A = ℕ} a unknown (pick b log_full no_refusal) ≡ no_refusal → gone_size ≤ free
    go true b q e = absurd (omega (arith, e))
    go false true q e = absurd (omega (arith, e))
    go false false q e = ltb-false free gone_size q

module _ (s log : List ℕ) where
  pub notice_by : (n : Notice) {a : After}
      → a ≡ settle s log [] (unless_refused (notice_refusal (floor_of n.client (load s).floors) (free_in s log)) (append (gone n)))
      → a ≡ settle s log [] (decide_notice (load s) (free_in s log) n)
  unfolding decide_notice
  notice_by n e = e

  module _ (packet : List ℕ) where
    pub notice-is : notice_of s log packet ≡ settle s log [] (unless_refused (lent_refusal s log 0 0) (on_notice (load s) (free_in s log) (parse_packet packet)))
    unfolding notice_of lent
    notice-is = refl

    pub notice-none : {o : Option Packet} → o ≡ parse_packet packet → o ≡ None
        → after (answer_of malformed 0) s log [] ≡ settle s log [] (on_notice (load s) (free_in s log) (parse_packet packet))
    unfolding settle on_notice or_malformed as_notice
    notice-none e is = rw (← e, is) refl

    pub notice-other : {o : Option Packet} {p : Packet} → o ≡ parse_packet packet → o ≡ Some p → OneOf (0 ∷ 1 ∷ 2 ∷ 3 ∷ 5 ∷ []) (tag_of the_type p)
        → after (answer_of malformed 0) s log [] ≡ settle s log [] (on_notice (load s) (free_in s log) (parse_packet packet))
    unfolding settle
    notice-other {p = p} e is h = rw (← e, is, other-packet (load s) (free_in s log) p h)

    pub notice-one : (n : Notice) {o : Option Packet} {p : Packet} {a : After} → o ≡ parse_packet packet → o ≡ Some p → p ≡ Noticed n → a ≡ settle s log [] (decide_notice (load s) (free_in s log) n)
        → a ≡ settle s log [] (on_notice (load s) (free_in s log) (parse_packet packet))
    unfolding on_notice or_malformed as_notice
    notice-one n e is h q = rw (← e, is, h) q
