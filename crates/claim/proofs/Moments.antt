-- A moment of a schedule: its first k events are a schedule, with the worlds of the whole one, and keep the provisos that the whole one keeps.
--     there-first        what stands among the first k stands in the whole list, under k
--     after_first        the world after n of the first k events
--     provisos_first     the provisos
--     issues-first       an issue among the first k
--     fenced_first       a client that is fenced off after n events is so after n of the first k
-- Assumes nothing.
use Prim.Native.Nat.{ℕ, zero, suc, ◌<◌, ◌≤◌}
use mathlib.Core.Path.{◌≡◌, sym, ◌∙◌, ap, subst}
use mathlib.Core.List.{List, [], ◌∷◌}
use mathlib.Core.Option.{some}
use native.Mathlib.Omega.{arith}
use lib.ListN.{take, get_elem?}
use lib.Seq.{take-take}
use Rattle.model.specs.declared.Command.{Command}
use Rattle.claim.specs.World.{World, Event, nothing, stored_of, run, after}
use Rattle.claim.specs.Provisos.{Provisos, At, mark_of, length_of, kept_by, Begins, StartedOnce}
use Rattle.claim.specs.Claim.{Issues, state_given}
use Rattle.claim.specs.Fence.{FencedIn, Fenced, synced_state}

module _ {A : Type 0} where
  pub there-first : (l : List A) (k n : ℕ) (a : A) → get_elem? (take k l) n ≡ some a → (n < k) × (get_elem? l n ≡ some a)
  there-first l zero n a e = let z : ◌≡◌ {A = ℕ} 0 1 = cc in absurd (omega arith)
  there-first [] (suc k) n a e = let z : ◌≡◌ {A = ℕ} 0 1 = cc in absurd (omega arith)
  there-first (x ∷ l) (suc k) zero a e = (omega arith, e)
  there-first (x ∷ l) (suc k) (suc n) a e = let z = there-first l k n a e in (omega (arith, z.0), z.1)

pub after_first : (es : List Event) (k n : ℕ) → n ≤ k → after (take k es) n ≡ after es n
unfolding after
after_first es k n h = ap run (take-take n k es h)

module _ (plan : List ℕ) (es : List Event) (k : ℕ) where
  abbrev firsts : List Event
  firsts = take k es

  at_first : (n : ℕ) (e : Event) → At firsts n e → (n < k) × At es n e
  unfolding At
  at_first n e h = there-first es k n e h

  same : (n : ℕ) (e : Event) → At firsts n e → after es n ≡ after firsts n
  same n e h = sym (after_first es k n (let z = (at_first n e h).0 in omega arith))

  pub provisos_first : Provisos plan es → Provisos plan firsts
  provisos_first P =
      record {
        typed = λ n e h. P.typed n e (at_first n e h).1;
        one-plan = λ n c state log p j h. P.one-plan n c state log p j (at_first n _ h).1;
        plan-again = λ n c state log p h. P.plan-again n c state log p (at_first n _ h).1;
        own-number = λ n c state log p j h. P.own-number n c state log p j (at_first n _ h).1;
        founded-once = λ n c state log p j h r. subst (λ (w : World). w.servers c ≡ nothing) (same n _ h) (P.founded-once n c state log p j (at_first n _ h).1 r);
        crash-keeps = λ n c b h. subst (λ (w : World). (mark_of (w.servers c) ≤ b) × (b ≤ length_of (w.servers c))) (same n _ h) (P.crash-keeps n c b (at_first n _ h).1);
        recovery_uses = λ n c state log p h r. subst (λ (w : World). (kept_by (w.servers c) ≡ some log) × ((stored_of (w.servers c)).checkpoint ≡ [])) (same n _ h)
            (P.recovery_uses n c state log p (at_first n _ h).1 r);
        recovery_uses-both = λ n c state b tail h r. subst (λ (w : World). (kept_by (w.servers c) ≡ some tail) × Begins (stored_of (w.servers c)).checkpoint b) (same n _ h)
            (P.recovery_uses-both n c state b tail (at_first n _ h).1 r);
        started-once = λ n p h. subst (λ (w : World). StartedOnce w p) (same n _ h) (P.started-once n p (at_first n _ h).1);
      }

  pub issues-first : (n : ℕ) (ks : List Command) → Issues firsts n ks → Issues es n ks
  issues-first n ks i =
      record {
        client = i.client;
        op = i.op;
        point = i.point;
        argument = i.argument;
        event = (at_first n _ i.event).1;
        state = i.state;
        started = ap (λ (w : World). w.clients i.client) (same n _ i.event) ∙ i.started;
        asked = i.asked;
        answer = i.answer;
        its = i.its;
      }

  pub fenced_first : (n x p : ℕ) → n ≤ k → Fenced plan es n x p → Fenced plan firsts n x p
  fenced_first n x p h f = subst (λ (w : World). FencedIn (state_given plan) (synced_state plan) w x p) (sym (after_first es k n h)) f
