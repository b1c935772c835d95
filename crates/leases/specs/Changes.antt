-- What a call changes of a lease manager, and the answer that it makes: time, the latest client number, what stands at one place, and
-- whether the leases that have ended are cleared before.
-- Assumes nothing.
use Rattle.std.specs.Prelude.{ℕ, ◌+◌, ◌<◌, max, ◌≡◌, Bool, false, ◌||◌, List, Option, Some, None, Result, Ok, Err, eqb, ltb, length, get_or, set}
use Rattle.model.specs.declared.Lease.{Lease}
use Rattle.model.specs.declared.LeaseManager.{LeaseManager}
use Rattle.model.specs.declared.LeaseAnswer.{LeaseAnswer}
use Rattle.model.specs.declared.Told.{Told}
use Rattle.model.specs.declared.Told.TheVariants.{ByGrant, ByNotice}
use Rattle.model.specs.Choice.{pick}
use Rattle.model.specs.Tables.{index_of}
use Rattle.model.specs.Leases.{no_lease, time_at, running_at, span_ok, manager}
use Rattle.model.specs.Limits.{last32, lease_count}
use Rattle.model.specs.declared.Refusal.{Refusal}
use Rattle.model.specs.declared.Refusal.TheVariants.{Malformed, NumbersOut, Unknown, LeasesFull}
use Rattle.leases.specs.declared.LeaseChange.{LeaseChange}
use Rattle.leases.specs.declared.Holder.{Holder}
use Rattle.leases.specs.declared.Found.{Found}

-- the place of the client's lease, past the last where it has none; of client 0, the first free place
unfoldable pub lease_place : ℕ → List Lease → ℕ
lease_place x ls = index_of (λ l. eqb l.client x) ls

-- the same place, none past the last
unfoldable pub place_in : ℕ → List Lease → Option ℕ
place_in x ls = pick (ltb (lease_place x ls) (length ls)) (Some (lease_place x ls)) None

-- the end of the client's lease, 0 where none runs
unfoldable pub end_at : ℕ → List Lease → ℕ
end_at x ls = (get_or ls (lease_place x ls) no_lease).lease

-- the client's running lease
unfoldable pub lease_at : ℕ → List Lease → Option Found
lease_at x ls = pick (eqb (end_at x ls) 0) None (Some (record { place = lease_place x ls; end = end_at x ls }))

-- ---- what is changed

-- the leases that are left before one is stored
unfoldable pub kept_at : LeaseManager → Bool → ℕ → List Lease
kept_at m ended now = pick ended (running_at now m.leases) m.leases

-- ls are the leases that run at a time; ended: they are not the manager's
pub record RunningAt (m : LeaseManager) (now : ℕ) (ls : List Lease) (ended : Bool) : Type 0 where
  pub running : ls ≡ running_at now m.leases
  pub kept : kept_at m ended now ≡ ls
  pub long : length ls ≡ lease_count

unfoldable pub stored : LeaseManager → Bool → ℕ → ℕ → ℕ → Lease → LeaseManager
stored m ended time issued i l = manager time issued (set (kept_at m ended time) i l)

unfoldable pub answered : LeaseManager → LeaseChange → LeaseAnswer
answered m c = record { manager = stored m c.ended c.time c.issued c.place c.lease; answer = c.answer }

-- the change makes this answer
abbrev pub Changes : LeaseManager → LeaseChange → LeaseAnswer → Type 0
Changes m c a = (c.place < lease_count) × (answered m c ≡ a)

-- ---- the changes of the calls

unfoldable pub no_change : LeaseManager → Refusal → LeaseChange
no_change m e = record { ended = false; time = m.time; issued = m.issued; place = 0; lease = get_or m.leases 0 no_lease; answer = Err e }

-- a new client, at the first free place; 18 where all are taken
abbrev pub holder_at : LeaseManager → Option ℕ → Result Holder Refusal
holder_at m None = Err LeasesFull
holder_at m (Some i) = Ok (record { place = i; issued = m.issued + 1; client = m.issued + 1; end = 0 })

unfoldable pub new_holder : LeaseManager → List Lease → Result Holder Refusal
new_holder m ls = holder_at m (place_in 0 ls)

-- the client x, at the place of its lease; 17 where none runs
abbrev pub holder_by : LeaseManager → ℕ → Option Found → Result Holder Refusal
holder_by m x None = Err Unknown
holder_by m x (Some f) = Ok (record { place = f.place; issued = m.issued; client = x; end = f.end })

unfoldable pub holder_of : LeaseManager → ℕ → List Lease → Result Holder Refusal
holder_of m x ls = holder_by m x (lease_at x ls)

-- the lease of a holder, with the later end
unfoldable pub grant_to : LeaseManager → Holder → Bool → ℕ → ℕ → Result LeaseChange Refusal
grant_to m h ended t span =
    let now = time_at m t in
    let e = max h.end (now + span) in
    pick (ltb last32 h.issued || (ltb last32 h.client || ltb last32 (now + span))) (Err NumbersOut)
    (Ok (record {
      ended = ended;
      time = now;
      issued = h.issued;
      place = h.place;
      lease = record { client = h.client; lease = e };
      answer = Ok (ByGrant (record { client = h.client; lease = e }));
    }))

abbrev pub granted_with : LeaseManager → Result Holder Refusal → Bool → ℕ → ℕ → Result LeaseChange Refusal
granted_with m (Ok h) ended t span = grant_to m h ended t span
granted_with m (Err e) ended t span = Err e

unfoldable pub granted_to : LeaseManager → Result Holder Refusal → Bool → ℕ → ℕ → Result LeaseChange Refusal
granted_to m h ended t span = pick (span_ok span) (granted_with m h ended t span) (Err Malformed)

-- the change, or none where it is refused
abbrev pub or_refused : LeaseManager → Result LeaseChange Refusal → LeaseChange
or_refused m (Ok c) = c
or_refused m (Err e) = no_change m e

abbrev pub told_end : ℕ → ℕ → Option Found → Told
told_end x now None = ByNotice (record { client = x; time = now })
told_end x now (Some f) = ByGrant (record { client = x; lease = f.end })

unfoldable pub query_among : LeaseManager → List Lease → Bool → ℕ → ℕ → LeaseChange
query_among m ls ended x now =
    record { ended = ended; time = now; issued = m.issued; place = 0; lease = get_or ls 0 no_lease; answer = Ok (told_end x now (lease_at x ls)) }
