-- The lease managers that the operations keep, and what is said of a client's leases.
-- Assumes nothing.
use Rattle.std.specs.Prelude.{ℕ, ◌≤◌, ◌<◌, ◌≡◌, List, [], ◌∷◌, ◌⊎◌, length}
use Rattle.model_laws.specs.Bytes.{All}
use Rattle.model.specs.declared.Lease.{Lease}
use Rattle.model.specs.declared.LeaseManager.{LeaseManager}
use Rattle.model.specs.declared.LeaseAnswer.{LeaseAnswer}
use Rattle.model.specs.Limits.{last32, lease_count}
use Rattle.model.specs.Leases.{open_of, renew_of, query_of}

-- no lease of the client x
abbrev pub Fresh : ℕ → List Lease → Type 0
Fresh x ls = All (λ (l : Lease). l.client ≡ x → ⊥) ls

-- no client has two leases
abbrev pub Distinct : List Lease → Type 0
Distinct [] = Unit
Distinct (l ∷ ls) = (1 ≤ l.client → Fresh l.client ls) × Distinct ls

-- one place: its client was issued; its lease runs, and ends within 32 bits; a free place is zero
pub record Placed (time issued : ℕ) (l : Lease) : Type 0 where
  pub known : l.client ≤ issued
  pub running : 1 ≤ l.client → time < l.lease
  pub within : l.lease ≤ last32
  pub free : l.client ≡ 0 → l.lease ≡ 0

pub record WellFormed (m : LeaseManager) : Type 0 where
  pub timed : m.time ≤ last32
  pub numbered : m.issued ≤ last32
  pub places : length m.leases ≡ lease_count
  pub each : All (Placed m.time m.issued) m.leases
  pub distinct : Distinct m.leases

-- a lease of the client x that ends at e or later
abbrev pub Lasts : ℕ → ℕ → List Lease → Type 0
Lasts x e [] = ⊥
Lasts x e (l ∷ ls) = ((l.client ≡ x) × (e ≤ l.lease)) ⊎ Lasts x e ls

-- the manager answers for a grant to x until e: e has passed, or the lease that it keeps for x lasts so long
abbrev pub Covers : LeaseManager → ℕ → ℕ → Type 0
Covers m x e = (e ≤ m.time) ⊎ Lasts x e m.leases

-- x was issued, and has no lease any more
pub record Gone (m : LeaseManager) (x : ℕ) : Type 0 where
  pub from : 1 ≤ x
  pub issued : x ≤ m.issued
  pub fresh : Fresh x m.leases

-- the calls of a lease manager, and their answers
pub data LeaseCall : Type 0 where
  opens : ℕ → ℕ → LeaseCall
  renews : ℕ → ℕ → ℕ → LeaseCall
  queries : ℕ → ℕ → LeaseCall

-- the time that is given
unfoldable pub given_time : LeaseCall → ℕ
given_time (opens t span) = t
given_time (renews x t span) = t
given_time (queries x t) = t

unfoldable pub answer_of : LeaseManager → LeaseCall → LeaseAnswer
answer_of m (opens t span) = open_of m t span
answer_of m (renews x t span) = renew_of m x t span
answer_of m (queries x t) = query_of m x t
