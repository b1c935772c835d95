-- Power cuts, as their definition says.
--     cut_off, cut-done      a cut outside mark to length, and one within
--     cut-served             either as a line
--     recovered-parts        what recovery leaves
-- Assumes nothing.
use Prim.Native.Nat.{ℕ, ◌-◌}
use mathlib.Core.Path.{◌≡◌, refl, ap, ◌∙◌}
use mathlib.Core.Bool.{Bool, true, false}
use mathlib.Core.List.{List, []}
use native.Mathlib.Omega.{arith}
use lib.ListN.{length, take}
use borrow.Rule.Slice.PartMut.{mid_of}
use Rattle.model.specs.declared.Answer.{Answer}
use Rattle.model.specs.Refusals.{bad_mark}
use Rattle.model.specs.States.{load}
use Rattle.model.specs.Operations.{After, after, recover_of}
use Rattle.model.specs.Simulator.{plain, simulator_plan, cut_at}
use Rattle.simulator_text.specs.Values.{reply_is}
use Rattle.simulator_text.specs.declared.ServerLine.TheVariants.{Cut}
use Rattle.simulator_memory.specs.declared.Made.{Made}
use Rattle.simulator_memory.specs.Store.{lesser_of, outside, packets_in, outcome_is, Next}
use Rattle.simulator_memory.proofs.Rows.{front-part}
use Rattle.simulator.specs.Served.{served}
use Rattle.simulator.specs.Server.{cut_is, cut_by, cutting, server_ran}

module _ (m : Made) (s l : List ℕ) (k : ℕ) {mark size : ℕ} {t : Bool} (p : mark ≡ (load s).mark) (q : size ≡ (load s).size) (o : t ≡ outside mark size k) where
  here : t ≡ outside (load s).mark (load s).size k
  here = rw (← p, ← q) o

  pub cut_off : t ≡ true → reply_is m.reply ≡ plain bad_mark → cut_is m s ≡ cut_by s l k
  unfolding cut_by
  cut_off e r = rw (← here, e, r) refl

  pub cut-done : (n x : ℕ) {u : List ℕ} → t ≡ false → n ≡ lesser_of k (length l) → x ≡ (recover_of s (mid_of 0 (n - 0) l) simulator_plan).answer.refusal
      → u ≡ (recover_of s (mid_of 0 (n - 0) l) simulator_plan).state → reply_is m.reply ≡ plain x → cut_is m u ≡ cut_by s l k
  unfolding cut_by cut_at
  cut-done n x e i a b r =
      let h : mid_of 0 (n - 0) l ≡ take k l = rw i (front-part k l) in
      rw (← here, e, b, r, a, h) refl

pub cut-served : (m : Made) (s l t store : List ℕ) (n k : ℕ) → cut_is m t ≡ cut_by s l k → m.count ≡ n
    → (served t l (outcome_is m store) ≡ server_ran s l (packets_in store n) (Cut k)) × Next n m.count
unfolding server_ran cutting outcome_is
cut-served m s l t store n k p q = (rw (q, ← p) refl, record { least = omega arith; most = omega arith })

pub recovered-parts : {a b : Answer} {s l : List ℕ} {x : After} → a ≡ b → after b s l [] ≡ x → (a.refusal ≡ x.answer.refusal) × (s ≡ x.state)
recovered-parts p e = (ap (λ (y : Answer). y.refusal) p ∙ ap (λ (y : After). y.answer.refusal) e, ap (λ (y : After). y.state) e)
