-- A product above the kernel: parts of its own beside the world, and events of its own, each of which is one event of the kernel. So demand 3
-- and the fence speak of its schedules as they stand.
-- Assumes nothing.
use Rattle.std.specs.Prelude.{ℕ, ◌≡◌, List, [], ◌∷◌, ◌⊎◌, take}
use Rattle.std.proofs.Common.{inl, inr}
use Rattle.claim.specs.World.{World, Event, OutsideCall, resend, step, empty_world}

-- a product's call that does nothing at the kernel: call 0 is never open, so this resend is refused and changes nothing
abbrev pub quiet : OutsideCall
quiet = resend 0 0

-- by the world and the parts before an event: the kernel's event that it is, and the parts after it
pub record Product : Type 1 where
  pub Parts : Type 0
  pub Outer : Type 0
  pub initial : Parts
  pub event_of : World → Parts → Outer → Event
  pub parts_after : World → Parts → Outer → Parts

-- two products side by side: an event of either, the parts of both
abbrev pub both : Product → Product → Product
both A B =
    record {
      Parts = A.Parts × B.Parts;
      Outer = A.Outer ⊎ B.Outer;
      initial = (A.initial, B.initial);
      event_of = λ w p o. elim o [ inl a ↦ A.event_of w p.0 a | inr b ↦ B.event_of w p.1 b ];
      parts_after = λ w p o. elim o [ inl a ↦ (A.parts_after w p.0 a, p.1) | inr b ↦ (p.0, B.parts_after w p.1 b) ];
    }

module _ (made : Product) where
  pub record Site : Type 0 where
    pub world : World
    pub parts : made.Parts

  -- the kernel's event that an event is
  unfoldable pub event_at : Site → made.Outer → Event
  event_at s o = made.event_of s.world s.parts o

  unfoldable pub step_site : Site → made.Outer → Site
  step_site s o = record { world = step s.world (event_at s o); parts = made.parts_after s.world s.parts o }

  unfoldable pub empty_site : Site
  empty_site = record { world = empty_world; parts = made.initial }

  unfoldable pub run_site : Site → List made.Outer → Site
  run_site s [] = s
  run_site s (o ∷ os) = run_site (step_site s o) os

  unfoldable pub events_from : Site → List made.Outer → List Event
  events_from s [] = []
  events_from s (o ∷ os) = event_at s o ∷ events_from (step_site s o) os

  -- the kernel's schedule
  unfoldable pub events : List made.Outer → List Event
  events os = events_from empty_site os

  -- the site after the first n events
  unfoldable pub site_after : List made.Outer → ℕ → Site
  site_after os n = run_site empty_site (take n os)

-- ---- one product in another

-- a product that takes the kernel's own events beside its own, and is not changed by them
pub record Open (made : Product) : Type 0 where
  pub kernel : Event → made.Outer
  pub is : (w : World) (p : made.Parts) (e : Event) → made.event_of w p (kernel e) ≡ e
  pub leaves : (w : World) (p : made.Parts) (e : Event) → made.parts_after w p (kernel e) ≡ p

-- `part` of whole: what it is of the whole's parts, and which event of its own each event of the whole is to it; the kernel's event is the same
pub record Within (whole part : Product) : Type 0 where
  pub part_of : whole.Parts → part.Parts
  pub seen : World → whole.Parts → whole.Outer → part.Outer
  pub begins : part_of whole.initial ≡ part.initial
  pub same-event : (w : World) (p : whole.Parts) (o : whole.Outer) → part.event_of w (part_of p) (seen w p o) ≡ whole.event_of w p o
  pub same_parts : (w : World) (p : whole.Parts) (o : whole.Outer) → part.parts_after w (part_of p) (seen w p o) ≡ part_of (whole.parts_after w p o)

module _ (whole part : Product) (within : Within whole part) where
  -- a schedule of the whole as the part sees it
  unfoldable pub seen_from : Site whole → List whole.Outer → List part.Outer
  seen_from s [] = []
  seen_from s (o ∷ os) = within.seen s.world s.parts o ∷ seen_from (step_site whole s o) os

  unfoldable pub seen_in : List whole.Outer → List part.Outer
  seen_in os = seen_from (empty_site whole) os
