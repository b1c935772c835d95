-- Controllers of one lock one after another.
--     begins-points     a controller's points passed the test of start
--     same-begin        an event starts one controller
--     fenced_at-start   a successor who starts as the customer says starts as the proviso does
--     succeeded         who started earlier is fenced off from both gates when the later one starts
--     issue_by          an issue is another's, or a command of the controller of its client
--     all_done          when a controller's command is issued, those before it are completed
-- Assumes nothing.
use Prim.Native.Nat.{ℕ, zero, suc, ◌<◌}
use mathlib.Core.Path.{◌≡◌, refl, sym, ◌∙◌, ap, subst}
use mathlib.Core.Bool.{true}
use mathlib.Core.List.{List, [], ◌∷◌}
use mathlib.Core.Logic.{◌⊎◌, inl, inr}
use mathlib.Core.Option.{Option, none, some}
use native.Mathlib.Omega.{arith}
use lib.ListN.{get_elem?}
use Rattle.std.specs.Prelude.{Result, Ok, Err}
use Rattle.model.specs.declared.Refusal.{Refusal}
use Rattle.model.specs.declared.Command.{Command}
use Rattle.claim.specs.World.{Event, outside, issue, packet}
use Rattle.claim.specs.Claim.{Issues}
use Rattle.claim.specs.Above.{Site}
use Rattle.claim.proofs.Above.{site_world, site_past}
use Rattle.claim.proofs.Clients.{issue-is, issuer}
use Rattle.chamber_claim.specs.declared.LockPoints.{LockPoints}
use Rattle.chamber_claim.specs.declared.Chamber.{Chamber}
use Rattle.chamber_claim.specs.Chamber.{points_ok, start_in}
use Rattle.chamber_claim.specs.Lock.{LockEvent, kernel, begin, command, again, hear, Lock, with_controller, starts_as, starts_on, changes, hears, lock_after, lock_product}
use Rattle.chamber_claim.specs.Safe.{events, lock_at, AtLock, Begins, IsGate, FencedOff, FencedAtStart, LockProvisos}
use Rattle.chamber_claim.proofs.Commands.{started}
use Rattle.chamber_claim.proofs.Frame.{last_or, world, at_lock_once, lock_after_lem, Commands, issue-from, begins-after}
use Rattle.chamber_claim.proofs.Controllers.{Done, held, none_open}

module _ (plan : List ℕ) (s : LockPoints) (ls : List LockEvent) where
  abbrev es : List Event
  es = events plan s ls

  abbrev lock : ℕ → Lock
  lock n = lock_at plan s ls n

  pub begins-points : (n x : ℕ) → Begins plan s ls n x → points_ok s ≡ true
  begins-points n x b = (started s b.bytes b.answer).0

  pub same-begin : (n x y : ℕ) → Begins plan s ls n x → Begins plan s ls n y → x ≡ y
  same-begin n x y b c =
      let e = at_lock_once plan s ls n _ _ b.event c.event in
      let f : b.number ≡ c.number = cc in
      let g : some b.bytes ≡ some c.bytes = sym b.delivered ∙ ap (packet _) f ∙ c.delivered in
      let h : b.bytes ≡ c.bytes = cc in
      sym b.its ∙ ap (λ (z : List ℕ). (start_in z s).chamber.client.client) h ∙ c.its

  -- the controller that started last is another only by a start
  latest-step : (n : ℕ) → ((y : ℕ) × Begins plan s ls n y) ⊎ ((lock (suc n)).latest ≡ (lock n).latest)
  unfolding AtLock
  latest-step n = at (get_elem? ls n) refl
    where
      change : (x : ℕ) (f : Chamber → Chamber) (o : Option Chamber) (l : Lock) → (changes x f o l).latest ≡ l.latest
      change x f none l = unfold changes in refl
      change x f (some ch) l = unfold changes with_controller in refl

      heard : (x : ℕ) (o : Option (List ℕ)) (l : Lock) → (hears x o l).latest ≡ l.latest
      heard x none l = unfold hears in refl
      heard x (some b) l = unfold hears in (change x _ _ l)

      starts : (j : ℕ) → AtLock plan s ls n (begin j) → (o : Option (List ℕ)) → packet (world plan s ls n) j ≡ o
          → ((y : ℕ) × Begins plan s ls n y) ⊎ ((starts_on s o (lock n)).latest ≡ (lock n).latest)
      starts j h none e = inr (unfold starts_on in refl)
      starts j h (some b) e = by (start_in b s).answer refl
        where
          by : (t : Result Unit Refusal) → (start_in b s).answer ≡ t → ((y : ℕ) × Begins plan s ls n y) ⊎ ((starts_on s (some b) (lock n)).latest ≡ (lock n).latest)
          by (Err m) q = inr (unfold starts_on starts_as in (rw q refl))
          by (Ok tt) q = inl (_, record { number = j; event = h; bytes = b; delivered = rw (site_world (lock_product s) ls n) e; answer = q; its = refl })

      of : (o : LockEvent) → AtLock plan s ls n o → ((y : ℕ) × Begins plan s ls n y) ⊎ ((lock_after s (world plan s ls n) (lock n) o).latest ≡ (lock n).latest)
      of (kernel e) h = inr (unfold lock_after in refl)
      of (begin j) h = unfold lock_after in (starts j h (packet (world plan s ls n) j) refl)
      of (command x op p a) h = inr (unfold lock_after in (change x _ _ _))
      of (again x c) h = inr (unfold lock_after in (change x _ _ _))
      of (hear x j) h = inr (unfold lock_after in (heard x _ _))

      at : (o : Option LockEvent) → get_elem? ls n ≡ o → ((y : ℕ) × Begins plan s ls n y) ⊎ ((lock (suc n)).latest ≡ (lock n).latest)
      at none e = inr (ap (λ (z : Site (lock_product s)). z.parts.latest) (site_past (lock_product s) ls n e))
      at (some o) e = go (of o e)
        where
          go : ((y : ℕ) × Begins plan s ls n y) ⊎ ((lock_after s (world plan s ls n) (lock n) o).latest ≡ (lock n).latest)
              → ((y : ℕ) × Begins plan s ls n y) ⊎ ((lock (suc n)).latest ≡ (lock n).latest)
          go (inl b) = inl b
          go (inr q) = inr (ap (λ (z : Lock). z.latest) (lock_after_lem plan s ls n o e) ∙ q)

  -- the customer's proviso is the case of equality
  pub fenced_at-start : FencedAtStart plan s ls → (n x y p : ℕ) → Begins plan s ls n y → (lock n).latest ≡ some x → IsGate plan s ls p → FencedOff plan s ls n x p
  fenced_at-start f n x y p b e g = (n, omega arith, f n x y p b e g)

  -- by then x was fenced off from both gates
  abbrev FromBoth : ℕ → ℕ → Type 0
  FromBoth n x = (p : ℕ) → IsGate plan s ls p → FencedOff plan s ls n x p

  still : (n x : ℕ) → FromBoth n x → FromBoth (suc n) x
  still n x f p g = let u = f p g in (u.0, omega (arith, u.1), u.2)

  module _ (pr : LockProvisos plan s ls) where
    latest-or : (b x : ℕ) → Begins plan s ls b x → (n : ℕ) → b < n → ((lock n).latest ≡ some x) ⊎ FromBoth n x
    latest-or b x h zero l = absurd (omega arith)
    latest-or b x h (suc n) l = go (last_or b n l) (λ k. latest-or b x h n k)
      where
        more : ((lock n).latest ≡ some x) ⊎ FromBoth n x → ((lock (suc n)).latest ≡ some x) ⊎ FromBoth (suc n) x
        more (inr f) = inr (still n x f)
        more (inl e) = next (latest-step n)
          where
            next : ((y : ℕ) × Begins plan s ls n y) ⊎ ((lock (suc n)).latest ≡ (lock n).latest) → ((lock (suc n)).latest ≡ some x) ⊎ FromBoth (suc n) x
            next (inl y) = inr (still n x (λ p g. pr.successor n x y.0 p y.1 e g))
            next (inr q) = inl (q ∙ e)

        go : (b < n) ⊎ (b ≡ n) → (b < n → ((lock n).latest ≡ some x) ⊎ FromBoth n x) → ((lock (suc n)).latest ≡ some x) ⊎ FromBoth (suc n) x
        go (inl k) ih = more (ih k)
        go (inr k) ih = inl (subst (λ (z : ℕ). (lock (suc z)).latest ≡ some x) k (begins-after plan s ls b x h).1)

    pub succeeded : (a b x y : ℕ) → Begins plan s ls a x → Begins plan s ls b y → a < b → FromBoth b x
    succeeded a b x y h k l = go (latest-or a x h b l)
      where
        go : ((lock b).latest ≡ some x) ⊎ FromBoth b x → FromBoth b x
        go (inl e) = λ p g. pr.successor b x y p k e g
        go (inr f) = f

    -- an issue is another's, or a command of the controller of its client
    pub issue_by : (n : ℕ) (k : Command) → Issues es n (k ∷ [])
        → AtLock plan s ls n (kernel (outside (issue k.client k.op k.point k.argument))) ⊎ Commands plan s ls n k.client k.op k.point k.argument
    issue_by n k i =
        let e = issue-is plan es n k i in
        let x : i.client ≡ k.client = issuer plan es n k i in
        let o : i.op ≡ k.op = ap (λ (z : Command). z.op) (sym e) in
        let p : i.point ≡ k.point = ap (λ (z : Command). z.point) (sym e) in
        let a : i.argument ≡ k.argument = ap (λ (z : Command). z.argument) (sym e) in
        issue-from plan s ls n _ _ _ _ (rw (x, o, p, a) at i.event)

    pub all_done : (n : ℕ) (k : Command) (ch : Chamber) → Issues es n (k ∷ []) → (lock n).controllers k.client ≡ some ch
        → (j : ℕ) (l : Command) → j < n → Issues es j (l ∷ []) → l.client ≡ k.client → Done plan s ls n l
    all_done n k ch i e j l h m q = go (issue_by n k i)
      where
        go : AtLock plan s ls n (kernel (outside (issue k.client k.op k.point k.argument))) ⊎ Commands plan s ls n k.client k.op k.point k.argument → Done plan s ls n l
        go (inl o) = absurd (pr.own-issue n _ _ _ _ ch o e)
        go (inr c) = none_open plan s ls pr n _ _ _ _ c (held plan s ls pr n _ c.chamber c.there) j l h (m, q)
