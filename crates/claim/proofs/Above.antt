-- Schedules of a product above the kernel, for every product.
--     site_world                  the site's world after n events is the kernel's after n events of its schedule
--     event-there, event-from     event n of the kernel's schedule is the one that the product's event n is, and comes from one
--     site_step, site_past        a site after one event more, and past the schedule's end
--     events-first, site_first    of the first k events
--     run-append, events-append, events-length     of two lists one behind the other; as many events as the product's
--     seen-events                 a schedule of a whole has the kernel's events of the one that a part of it sees
--     in_left, in_right           of two products side by side, each is a part, where it takes the kernel's events
--     quiet-clients               the quiet call changes no client
-- Assumes nothing.
use Prim.Native.Nat.{ℕ, zero, suc, ◌≤◌}
use mathlib.Core.Path.{◌≡◌, refl, sym, ◌∙◌, ap}
use mathlib.Core.Bool.{Bool, true, false}
use mathlib.Core.List.{List, [], ◌∷◌, ◌++◌}
use mathlib.Core.Logic.{◌⊎◌, inl, inr}
use mathlib.Core.Option.{Option, none, some}
use native.Mathlib.Omega.{arith}
use lib.ListN.{length, take, get_elem?}
use lib.Seq.{take-take}
use lib.Dec.{eqb}
use borrow.Author.Tests.{eqb-true}
use Rattle.model.specs.declared.Client.{Client}
use Rattle.model.specs.Clients.{is_open, not_sent, resend_of, sent_bytes}
use Rattle.claim.specs.World.{WorldOf, Event, with_client, making, sends, outside_step, step, empty_world, run_from, run, after}
use Rattle.claim.specs.Above.{quiet, Product, both, Site, event_at, step_site, empty_site, run_site, events_from, events, site_after, Open, Within, seen_from, seen_in}

module _ (made : Product) where
  world-from : (s : Site made) (os : List made.Outer) (n : ℕ) → (run_site made s (take n os)).world ≡ run_from s.world (take n (events_from made s os))
  unfolding run_site events_from run_from step_site
  world-from s os zero = refl
  world-from s [] (suc n) = refl
  world-from s (o ∷ os) (suc n) = world-from (step_site made s o) os n

  there-from : (s : Site made) (os : List made.Outer) (n : ℕ) (o : made.Outer) → get_elem? os n ≡ some o
      → get_elem? (events_from made s os) n ≡ some (event_at made (run_site made s (take n os)) o)
  unfolding run_site events_from
  there-from s [] n o e = let z : ◌≡◌ {A = ℕ} 0 1 = cc in absurd (omega arith)
  there-from s (x ∷ os) zero o e = ap some (ap (event_at made s) (let q : x ≡ o = cc in q))
  there-from s (x ∷ os) (suc n) o e = there-from (step_site made s x) os n o e

  event_of_lem : (s : Site made) (os : List made.Outer) (n : ℕ) (e : Event) → get_elem? (events_from made s os) n ≡ some e
      → (o : made.Outer) × (get_elem? os n ≡ some o) × (event_at made (run_site made s (take n os)) o ≡ e)
  unfolding run_site events_from
  event_of_lem s [] n e h = let z : ◌≡◌ {A = ℕ} 0 1 = cc in absurd (omega arith)
  event_of_lem s (x ∷ os) zero e h = (x, refl, let q : event_at made s x ≡ e = cc in q)
  event_of_lem s (x ∷ os) (suc n) e h = event_of_lem (step_site made s x) os n e h

  step_from : (s : Site made) (os : List made.Outer) (n : ℕ) (o : made.Outer) → get_elem? os n ≡ some o
      → run_site made s (take (suc n) os) ≡ step_site made (run_site made s (take n os)) o
  unfolding run_site
  step_from s [] n o e = let z : ◌≡◌ {A = ℕ} 0 1 = cc in absurd (omega arith)
  step_from s (x ∷ os) zero o e = ap (step_site made s) (let q : x ≡ o = cc in q)
  step_from s (x ∷ os) (suc n) o e = step_from (step_site made s x) os n o e

  past-from : (s : Site made) (os : List made.Outer) (n : ℕ) → get_elem? os n ≡ none → run_site made s (take (suc n) os) ≡ run_site made s (take n os)
  unfolding run_site
  past-from s [] zero e = refl
  past-from s [] (suc n) e = refl
  past-from s (x ∷ os) zero e = let z : ◌≡◌ {A = ℕ} 0 1 = cc in absurd (omega arith)
  past-from s (x ∷ os) (suc n) e = past-from (step_site made s x) os n e

  cut-from : (s : Site made) (os : List made.Outer) (k : ℕ) → events_from made s (take k os) ≡ take k (events_from made s os)
  unfolding events_from
  cut-from s os zero = refl
  cut-from s [] (suc k) = refl
  cut-from s (o ∷ os) (suc k) = ap (λ (es : List Event). event_at made s o ∷ es) (cut-from (step_site made s o) os k)

  pub run-append : (s : Site made) (os ps : List made.Outer) → run_site made s (os ++ ps) ≡ run_site made (run_site made s os) ps
  unfolding run_site
  run-append s [] ps = refl
  run-append s (o ∷ os) ps = run-append (step_site made s o) os ps

  pub events-append : (s : Site made) (os ps : List made.Outer) → events_from made s (os ++ ps) ≡ events_from made s os ++ events_from made (run_site made s os) ps
  unfolding run_site events_from
  events-append s [] ps = refl
  events-append s (o ∷ os) ps = ap (λ (es : List Event). event_at made s o ∷ es) (events-append (step_site made s o) os ps)

  pub events-length : (s : Site made) (os : List made.Outer) → length (events_from made s os) ≡ length os
  unfolding events_from
  events-length s [] = refl
  events-length s (o ∷ os) = ap suc (events-length (step_site made s o) os)

  pub events-first : (os : List made.Outer) (k : ℕ) → events made (take k os) ≡ take k (events made os)
  unfolding events
  events-first = cut-from (empty_site made)

  pub site_first : (os : List made.Outer) (k n : ℕ) → n ≤ k → site_after made (take k os) n ≡ site_after made os n
  unfolding site_after
  site_first os k n h = ap (run_site made (empty_site made)) (take-take n k os h)

  module _ (os : List made.Outer) (n : ℕ) where
    pub site_world : (site_after made os n).world ≡ after (events made os) n
    unfolding site_after events after run empty_site
    site_world = world-from (empty_site made) os n

    pub event-there : (o : made.Outer) → get_elem? os n ≡ some o → get_elem? (events made os) n ≡ some (event_at made (site_after made os n) o)
    unfolding site_after events
    event-there = there-from (empty_site made) os n

    pub event-from : (e : Event) → get_elem? (events made os) n ≡ some e → (o : made.Outer) × (get_elem? os n ≡ some o) × (event_at made (site_after made os n) o ≡ e)
    unfolding site_after events
    event-from = event_of_lem (empty_site made) os n

    pub site_step : (o : made.Outer) → get_elem? os n ≡ some o → site_after made os (suc n) ≡ step_site made (site_after made os n) o
    unfolding site_after
    site_step = step_from (empty_site made) os n

    pub site_past : get_elem? os n ≡ none → site_after made os (suc n) ≡ site_after made os n
    unfolding site_after
    site_past = past-from (empty_site made) os n

-- ---- one product in another

module _ (whole part : Product) (W : Within whole part) where
  -- the part's site
  abbrev site_in : Site whole → Site part
  site_in s = record { world = s.world; parts = W.part_of s.parts }

  step_in : (s : Site whole) (o : whole.Outer) → step_site part (site_in s) (W.seen s.world s.parts o) ≡ site_in (step_site whole s o)
  unfolding step_site event_at
  step_in s o =
      ap (λ (e : Event). record { world = step s.world e; parts = part.parts_after s.world (W.part_of s.parts) (W.seen s.world s.parts o) })
      (W.same-event s.world s.parts o)
      ∙ ap (λ (p : part.Parts). record { world = step s.world (whole.event_of s.world s.parts o); parts = p }) (W.same_parts s.world s.parts o)

  seen-from : (s : Site whole) (os : List whole.Outer) → events_from part (site_in s) (seen_from whole part W s os) ≡ events_from whole s os
  unfolding events_from seen_from event_at
  seen-from s [] = refl
  seen-from s (o ∷ os) =
      ap (λ (e : Event). e ∷ events_from part (step_site part (site_in s) (W.seen s.world s.parts o)) (seen_from whole part W (step_site whole s o) os))
      (W.same-event s.world s.parts o)
      ∙ ap (λ (es : List Event). whole.event_of s.world s.parts o ∷ es)
      (ap (λ (t : Site part). events_from part t (seen_from whole part W (step_site whole s o) os)) (step_in s o) ∙ seen-from (step_site whole s o) os)

  pub seen-events : (os : List whole.Outer) → events part (seen_in whole part W os) ≡ events whole os
  unfolding events seen_in empty_site
  seen-events os =
      ap (λ (p : part.Parts). events_from part (record { world = empty_world; parts = p }) (seen_from whole part W (empty_site whole) os)) (sym W.begins)
      ∙ seen-from (empty_site whole) os

-- to either, an event of the other is the kernel's
pub in_left : (A B : Product) → Open A → Within (both A B) A
in_left A B K =
    record {
      part_of = λ p. p.0;
      seen = λ w p o. elim o [ inl a ↦ a | inr b ↦ K.kernel (B.event_of w p.1 b) ];
      begins = refl;
      same-event = λ w p o. elim o as (λ (x : A.Outer ⊎ B.Outer). A.event_of w p.0 (elim x [ inl a ↦ a | inr b ↦ K.kernel (B.event_of w p.1 b) ]) ≡ (both A B).event_of w p x) [
        | inl a ↦ refl
        | inr b ↦ K.is w p.0 (B.event_of w p.1 b)
      ];
      same_parts = λ w p o. elim o as (λ (x : A.Outer ⊎ B.Outer). A.parts_after w p.0 (elim x [ inl a ↦ a | inr b ↦ K.kernel (B.event_of w p.1 b) ]) ≡
          ((both A B).parts_after w p x).0) [ inl a ↦ refl | inr b ↦ K.leaves w p.0 (B.event_of w p.1 b) ];
    }

pub in_right : (A B : Product) → Open B → Within (both A B) B
in_right A B K =
    record {
      part_of = λ p. p.1;
      seen = λ w p o. elim o [ inl a ↦ K.kernel (A.event_of w p.0 a) | inr b ↦ b ];
      begins = refl;
      same-event = λ w p o. elim o as (λ (x : A.Outer ⊎ B.Outer). B.event_of w p.1 (elim x [ inl a ↦ K.kernel (A.event_of w p.0 a) | inr b ↦ b ]) ≡ (both A B).event_of w p x) [
        | inl a ↦ K.is w p.1 (A.event_of w p.0 a)
        | inr b ↦ refl
      ];
      same_parts = λ w p o. elim o as (λ (x : A.Outer ⊎ B.Outer). B.parts_after w p.1 (elim x [ inl a ↦ K.kernel (A.event_of w p.0 a) | inr b ↦ b ]) ≡
          ((both A B).parts_after w p x).1) [ inl a ↦ K.leaves w p.1 (A.event_of w p.0 a) | inr b ↦ refl ];
    }

-- call 0 is never open
pub quiet-clients : {S : Type 0} (w : WorldOf S) (x : ℕ) → (outside_step w quiet).clients x ≡ w.clients x
unfolding outside_step sends resend_of is_open not_sent sent_bytes making with_client
quiet-clients w x = go (w.clients 0) refl (eqb x 0) refl
  where
    go : (o : Option Client) → w.clients 0 ≡ o → (b : Bool) → eqb x 0 ≡ b → (sends 0 (λ d. resend_of d 0) o w).clients x ≡ w.clients x
    go none e b q = refl
    go (some d) e true q = rw q (sym e ∙ ap w.clients (sym (eqb-true x 0 q)))
    go (some d) e false q = rw q refl
