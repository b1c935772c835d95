-- A call's refusals, carried out.
--     lent-fit                          what holds where neither is given
--     settle-refused, settle-passed     a decision by a number; by_refused, by_passed: in the arms of a call's `?`
--     unfit_yes, unfit_no, long_enough     the tests in code
--     passed-fit, passed-long, passed-canonical     what they leave known
--     replied, appended                 what a call answers that is not refused
-- Assumes nothing.
use Prim.Native.Nat.{ℕ, ◌+◌, ◌≤◌}
use mathlib.Core.Path.{◌≡◌, refl, sym, ◌∙◌}
use mathlib.Core.Bool.{Bool, true, false, ◌||◌, not}
use mathlib.Core.List.{List}
use native.Mathlib.Omega.{arith}
use lib.ListN.{length}
use lib.Dec.{ltb}
use borrow.Author.Tests.{ne_eqb, ltb-false}
use Rattle.std.specs.Prelude.{Result}
use Rattle.std.specs.Result.{IsErrAnd}
use Rattle.model.specs.declared.ResultPacket.{ResultPacket}
use Rattle.model.specs.Choice.{pick, reply, append, unless_refused}
use Rattle.model.specs.Tables.{written}
use Rattle.model.specs.Packets.{result_bytes, time_bytes}
use Rattle.model.specs.Logs.{LogRecord, record_bytes, record_size}
use Rattle.model.specs.Apply.{apply_record}
use Rattle.model.specs.Limits.{state_size, result_size}
use Rattle.model.specs.States.{load, sound, state_end}
use Rattle.model.specs.Decisions.{Decided}
use Rattle.model.specs.Operations.{After, after, answer_of, short, unfit, settle, stored, lent_refusal}
use Rattle.model.specs.Refusals.{too_short, unsound, no_refusal}
use Rattle.model.specs.declared.Refusal.{Refusal}
use Rattle.refusals.specs.Numbers.{number_of, answered}
use Rattle.refusals.proofs.Numbers.{number-some, exit}
use Rattle.model_laws.specs.Bytes.{Bytes}
use Rattle.state_rows.specs.Canonical.{Canonical}
use Rattle.state_rows.proofs.Chains.{canonical-sound}
use Rattle.server_memory.specs.Memory.{Fit}

pub lent-fit : (state log : List ℕ) (n need : ℕ) → lent_refusal state log n need ≡ no_refusal → Fit state log n need
unfolding lent_refusal short unfit
lent-fit state log n need e = go (ltb (length state) state_size) (ltb n need) (sound state) (ltb (length log) (load state).size) refl refl refl refl e
  where
    go : (a b c d : Bool) → ltb (length state) state_size ≡ a → ltb n need ≡ b → sound state ≡ c → ltb (length log) (load state).size ≡ d
        → pick {A = ℕ} (a || b) too_short (pick (not c || d) unsound no_refusal) ≡ no_refusal → Fit state log n need
    go true b c d p q r t e = absurd (omega (arith, e))
    go false true c d p q r t e = absurd (omega (arith, e))
    go false false false d p q r t e = absurd (omega (arith, e))
    go false false true true p q r t e = absurd (omega (arith, e))
    go false false true false p q r t e = record { long = ltb-false (length state) state_size p; room = ltb-false n need q; sound = r; logged = ltb-false (length log) (load state).size t }

module _ (state log out : List ℕ) (d : Decided) where
  pub settle-refused : (n : ℕ) → (n ≡ no_refusal → ⊥) → settle state log out (unless_refused n d) ≡ after (answer_of n 0) state log out
  unfolding unless_refused settle
  settle-refused n h = rw (ne_eqb n no_refusal h)

  pub settle-passed : (n : ℕ) → n ≡ no_refusal → settle state log out (unless_refused n d) ≡ settle state log out d
  unfolding unless_refused
  settle-passed n h = rw h

-- ---- the tests in code

module _ (s log : List ℕ) {u : Bool} (p : u ≡ sound s) where
  pub unfit_yes : not u ≡ true → true ≡ unfit s log
  unfolding unfit
  unfit_yes e = rw (← p, e)

  pub unfit_no : not u ≡ false → {k : ℕ} → k ≡ (load s).size → ltb (length log) k ≡ unfit s log
  unfolding unfit
  unfit_no e q = rw (← p, e, q)

pub long_enough : (s : List ℕ) (n need : ℕ) → (ltb (length s) state_size || ltb n need) ≡ false → state_end ≤ length s
long_enough s n need e = omega (arith, ltb-false (length s) state_size (or_left (ltb (length s) state_size) (ltb n need) e))
  where
    or_left : (a b : Bool) → (a || b) ≡ false → a ≡ false
    or_left true b e = e
    or_left false b e = refl

-- ---- the arms of the `?` on a call that promises the number m

module _ (state log out : List ℕ) (d : Decided) {m : ℕ} where
  -- it gave the refusal e, and so does r
  pub by_refused : (e : Refusal) → number_of e ≡ m → (r : Result ℕ Refusal) → IsErrAnd r (λ x. x ≡ e) → after (answered r) state log out ≡ settle state log out (unless_refused m d)
  by_refused e p r h = rw (exit r h, ← p) (sym (settle-refused state log out d (number_of e) (number-some e)))

  pub by_passed : no_refusal ≡ m → {a : After} → a ≡ settle state log out d → a ≡ settle state log out (unless_refused m d)
  by_passed p h = h ∙ sym (settle-passed state log out d m (sym p))

-- ---- once the tests of lent memory are passed

module _ (s log : List ℕ) (k need : ℕ) (p : no_refusal ≡ lent_refusal s log k need) where
  pub passed-fit : Fit s log k need
  passed-fit = lent-fit s log k need (sym p)

  pub passed-long : state_end ≤ length s
  passed-long = omega (arith, passed-fit.long)

  pub passed-canonical : Bytes s → Canonical s
  passed-canonical h = canonical-sound s h passed-fit.sound

-- ---- what a call answers that is not refused

module _ (s log out : List ℕ) where
  pub replied : (p : ResultPacket) → p.timed ≡ true → {n : ℕ} {o : List ℕ} → n ≡ result_size → o ≡ written out 0 (result_bytes p)
      → after (answer_of no_refusal n) s log o ≡ settle s log out (reply (result_bytes p))
  unfolding settle result_bytes time_bytes
  replied p z e q = rw (e, q, z)

  pub appended : (x : LogRecord) {t l : List ℕ} → t ≡ stored s (apply_record x ((load s).size + record_size x) (load s))
      → l ≡ written log (load s).size (record_bytes x) → after (answer_of no_refusal 0) t l out ≡ settle s log out (append x)
  unfolding settle
  appended x p q = rw (p, q)
