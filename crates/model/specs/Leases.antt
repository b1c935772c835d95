-- The lease manager (paper: lease office), values in and values out. Client numbers rise from 1 and never return. A refused call
-- leaves time and leases as they were.
-- Assumes nothing.
use Rattle.std.specs.Prelude.{ℕ, suc, ◌+◌, max, Bool, ◌&&◌, ◌||◌, not, List, [], ◌∷◌, map, replicate, eqb, leb, ltb, Result, Ok, Err}
use Rattle.model.specs.declared.Lease.{Lease}
use Rattle.model.specs.declared.LeaseManager.{LeaseManager}
use Rattle.model.specs.declared.Refusal.{Refusal}
use Rattle.model.specs.declared.Refusal.TheVariants.{Malformed, NumbersOut, Unknown, LeasesFull}
use Rattle.model.specs.declared.Told.{Told}
use Rattle.model.specs.declared.Told.TheVariants.{ByGrant, ByNotice}
use Rattle.model.specs.declared.LeaseAnswer.{LeaseAnswer}
use Rattle.model.specs.Choice.{pick}
use Rattle.model.specs.Refusals.{refusal_of}
use Rattle.model.specs.Limits.{last32, notice_kind, lease_count, longest_span}
use Rattle.model.specs.Tables.{every}
use Rattle.model.specs.Packets.{grant_bytes, notice_bytes}

abbrev pub no_lease : Lease
no_lease = record { client = 0; lease = 0 }

-- time 0, no leases
abbrev pub new_manager : LeaseManager
new_manager = record { time = 0; issued = 0; leases = replicate lease_count no_lease }

-- the greater of the manager's time and the given one
unfoldable pub time_at : LeaseManager → ℕ → ℕ
time_at m t = max m.time t

-- a lease with end ≤ time has ended
unfoldable pub ended_at : ℕ → Lease → Lease
ended_at now l = pick (leb l.lease now || eqb l.client 0) no_lease l

unfoldable pub running_at : ℕ → List Lease → List Lease
running_at now ls = map (ended_at now) ls

-- the end of a client's lease among running ones, 0 where it has none
unfoldable pub lease_end : ℕ → List Lease → ℕ
lease_end x [] = 0
lease_end x (l ∷ ls) = pick (eqb l.client x) l.lease (lease_end x ls)

unfoldable pub is_taken : Lease → Bool
is_taken l = not (eqb l.client 0)

-- a new lease, at the first free place
unfoldable pub with_new_lease : Lease → List Lease → List Lease
with_new_lease n [] = []
with_new_lease n (l ∷ ls) = pick (is_taken l) (l ∷ with_new_lease n ls) (n ∷ ls)

-- the client's lease with the end e
unfoldable pub extended : ℕ → ℕ → List Lease → List Lease
extended x e [] = []
extended x e (l ∷ ls) = pick (eqb l.client x) (record { client = x; lease = e } ∷ ls) (l ∷ extended x e ls)

unfoldable pub span_ok : ℕ → Bool
span_ok span = leb 1 span && leb span longest_span

unfoldable pub manager : ℕ → ℕ → List Lease → LeaseManager
manager time issued ls = record { time = time; issued = issued; leases = ls }

unfoldable pub not_told : LeaseManager → Refusal → LeaseAnswer
not_told m e = record { manager = m; answer = Err e }

unfoldable pub granted : LeaseManager → ℕ → ℕ → LeaseAnswer
granted m x e = record { manager = m; answer = Ok (ByGrant (record { client = x; lease = e })) }

-- ---- Open, with time and span: 1 the span is outside 1 to 86,400; 18 no place; 16 the client number or the end passes 32 bits

unfoldable pub open_of : LeaseManager → ℕ → ℕ → LeaseAnswer
open_of m t span =
    let now = time_at m t in
    let ls = running_at now m.leases in
    let x = suc m.issued in
    pick (not (span_ok span)) (not_told m Malformed)
    (pick (every is_taken ls) (not_told m LeasesFull)
    (pick (ltb last32 x || ltb last32 (now + span)) (not_told m NumbersOut)
    (granted (manager now x (with_new_lease (record { client = x; lease = now + span }) ls)) x (now + span))))

-- ---- Renew, with client, time and span: 1 as Open; 17 its lease does not run; 16 the sum passes 32 bits. The later end holds

unfoldable pub renew_of : LeaseManager → ℕ → ℕ → ℕ → LeaseAnswer
renew_of m x t span =
    let now = time_at m t in
    let ls = running_at now m.leases in
    let e = max (lease_end x ls) (now + span) in
    pick (not (span_ok span)) (not_told m Malformed)
    (pick (eqb (lease_end x ls) 0) (not_told m Unknown)
    (pick (ltb last32 (now + span)) (not_told m NumbersOut)
    (granted (manager now m.issued (extended x e ls)) x e)))

-- ---- Query, with client and time: 17 a number not given out; else a grant, or a notice with the manager's time where no lease runs

unfoldable pub query_of : LeaseManager → ℕ → ℕ → LeaseAnswer
query_of m x t =
    let now = time_at m t in
    let ls = running_at now m.leases in
    pick (eqb x 0 || ltb m.issued x) (not_told m Unknown)
    (pick (eqb (lease_end x ls) 0)
    (record { manager = manager now m.issued ls; answer = Ok (ByNotice (record { client = x; time = now })) })
    (granted (manager now m.issued ls) x (lease_end x ls)))

-- ---- the refusal's number of every answer, and its packet

unfoldable pub told_number : Result Told Refusal → ℕ
told_number a = refusal_of a

unfoldable pub told_bytes : Result Told Refusal → List ℕ
told_bytes (Err e) = []
told_bytes (Ok (ByGrant g)) = grant_bytes g
told_bytes (Ok (ByNotice n)) = notice_bytes notice_kind n
