-- A moment of a lock's schedule: its first k events keep the lock's provisos where the whole one does.
--     lock_provisos_first
-- Assumes nothing.
use Prim.Native.Nat.{ℕ, ◌<◌}
use mathlib.Core.Path.{◌≡◌, sym, ◌∙◌, ap, subst}
use mathlib.Core.List.{List, [], ◌∷◌}
use native.Mathlib.Omega.{arith}
use lib.ListN.{take}
use Rattle.model.specs.declared.Command.{Command}
use Rattle.claim.specs.World.{Event, packet}
use Rattle.claim.specs.Provisos.{Provisos}
use Rattle.claim.specs.Claim.{Issues}
use Rattle.claim.specs.Fence.{Fenced}
use Rattle.claim.specs.Above.{Site}
use Rattle.claim.proofs.Above.{events-first, site_first}
use Rattle.claim.proofs.Moments.{there-first, provisos_first, issues-first, fenced_first}
use Rattle.chamber_claim.specs.declared.LockPoints.{LockPoints}
use Rattle.chamber_claim.specs.Lock.{LockEvent, Lock, lock_product}
use Rattle.chamber_claim.specs.Safe.{events, lock_at, AtLock, Begins, FencedOff, LockProvisos}

module _ (plan : List ℕ) (s : LockPoints) (ls : List LockEvent) (k : ℕ) where
  abbrev firsts : List LockEvent
  firsts = take k ls

  same-events : events plan s firsts ≡ take k (events plan s ls)
  same-events = events-first (lock_product s) ls k

  at_first : (n : ℕ) (e : LockEvent) → AtLock plan s firsts n e → (n < k) × AtLock plan s ls n e
  unfolding AtLock
  at_first n e h = there-first ls k n e h

  same_lock : (n : ℕ) → n < k → lock_at plan s ls n ≡ lock_at plan s firsts n
  same_lock n h = sym (ap (λ (z : Site (lock_product s)). z.parts) (site_first (lock_product s) ls k n (omega arith)))

  issues : (n : ℕ) (ks : List Command) → Issues (events plan s firsts) n ks → Issues (events plan s ls) n ks
  issues n ks i = issues-first plan (events plan s ls) k n ks (subst (λ (es : List Event). Issues es n ks) same-events i)

  begins : (n x : ℕ) → Begins plan s firsts n x → Begins plan s ls n x
  begins n x b =
      let h = at_first n _ b.event in
      record {
        number = b.number;
        event = h.1;
        bytes = b.bytes;
        delivered = ap (λ (z : Site (lock_product s)). packet z.world b.number) (sym (site_first (lock_product s) ls k n (let l = h.0 in omega arith))) ∙ b.delivered;
        answer = b.answer;
        its = b.its;
      }

  fenced : (n x p : ℕ) → n < k → FencedOff plan s ls n x p → FencedOff plan s firsts n x p
  fenced n x p h f =
      let l = f.1 in
      (f.0, l, subst (λ (es : List Event). Fenced plan es f.0 x p) (sym same-events) (fenced_first plan (events plan s ls) k f.0 x p (omega arith) f.2))

  pub lock_provisos_first : LockProvisos plan s ls → LockProvisos plan s firsts
  lock_provisos_first P =
      record {
        kernels = subst (Provisos plan) (sym same-events) (provisos_first plan (events plan s ls) k P.kernels);
        fallback = λ p g. P.fallback p g;
        only = λ n e c h i g. P.only n e c (at_first n _ h).1 (issues n (c ∷ []) i) g;
        own-issue = λ n x op p a ch h e. let z = at_first n _ h in P.own-issue n x op p a ch z.1 (ap (λ (l : Lock). l.controllers x) (same_lock n z.0) ∙ e);
        own-receive = λ n x p ch h e. let z = at_first n _ h in P.own-receive n x p ch z.1 (ap (λ (l : Lock). l.controllers x) (same_lock n z.0) ∙ e);
        successor = λ n x y p b e g. let z = at_first n _ b.event in
            fenced n x p z.0 (P.successor n x y p (begins n y b) (ap (λ (l : Lock). l.latest) (same_lock n z.0) ∙ e) g);
      }
