-- The bytes of a log, from the protocol's log.
--     chain-bytes              the recorded length
--     chain-most               it is under whatever all records end under
--     place-bytes              an earlier log whose bytes end at or under k: as many records as end there, at the most
--     tail-bytes               an earlier log has no more bytes
-- Assumes nothing.
use Prim.Native.Nat.{ℕ, suc, ◌≤◌}
use mathlib.Core.Path.{◌≡◌, refl, sym, ◌∙◌, ap}
use mathlib.Core.Bool.{Bool, true, false}
use mathlib.Core.List.{List, [], ◌∷◌, ◌++◌}
use mathlib.Core.Logic.{◌⊎◌, inl, inr}
use native.Mathlib.Omega.{arith}
use lib.Dec.{leb}
use lib.ListN.{length}
use Rattle.model.specs.declared.PlanEntry.{PlanEntry}
use Rattle.model.specs.Choice.{pick}
use Rattle.model.specs.Limits.{last_server, head_size}
use Rattle.model.specs.Logs.{Entry}
use Rattle.model.specs.States.{State}
use Rattle.model.specs.Apply.{apply, founded, replay, replay_from}
use Rattle.model_invariants.specs.History.{GoodPlan}
use Rattle.model_invariants.proofs.Recovery.{replay-next, apply-size}
use Rattle.proof_protocol.specs.Servers as S
use Rattle.proof_protocol.proofs.Logs.{Tail, Tail-cons}
use Rattle.proof_protocol.proofs.Logs as Logs
use Rattle.proof_records.specs.Likeness.{Pair, entries_in, abstract_in, place_of, Chain, Within}
use Rattle.proof_records.specs.Matched.{bytes_in}
use Rattle.proof_records.proofs.Places.{place_all, place_rises, abstract-length}
use Rattle.proof_records.proofs.Replays.{chain-alike}

-- the replay's recorded length with one more record
pub next-size : (plan : List PlanEntry) (c : ℕ) (es : List Entry) (e : Entry) → (replay plan c (es ++ (e ∷ []))).size ≡ e.end
unfolding apply
next-size plan c es e = ap (λ (st : State). st.size) (replay-next plan c es e) ∙ apply-size e.item e.end (replay plan c es)

module _ (plan : List PlanEntry) (c : ℕ) where
  pub chain-bytes : (zs : List Pair) → Chain plan c zs → (replay plan c (entries_in zs)).size ≡ bytes_in (abstract_in zs)
  unfolding entries_in abstract_in bytes_in replay replay_from founded
  chain-bytes [] d = refl
  chain-bytes (z ∷ zs) d = next-size plan c (entries_in zs) z.entry ∙ (d.0.end ∙ omega (arith, chain-bytes zs d.1, d.0.bytes))

  pub chain-most : (zs : List Pair) (k : ℕ) → head_size ≤ k → Within k zs → (replay plan c (entries_in zs)).size ≤ k
  unfolding entries_in replay replay_from founded
  chain-most [] k h w = h
  chain-most (z ∷ zs) k h w = omega (arith, next-size plan c (entries_in zs) z.entry, w.0)

older_place : (z : Pair) (zs : List Pair) (k : ℕ) → place_of zs k ≤ place_of (z ∷ zs) k
unfolding place_of
older_place z zs k = go (leb z.entry.end k)
  where
    go : (b : Bool) → place_of zs k ≤ pick b (suc (place_of zs k)) (place_of zs k)
    go true = omega arith
    go false = omega arith

module _ (plan : List PlanEntry) (c : ℕ) (g : GoodPlan plan) (h : c ≤ last_server) (k : ℕ) (t : List S.Entry) (le : bytes_in t ≤ k) where
  place-whole : (zs : List Pair) → Chain plan c zs → t ≡ abstract_in zs → length t ≤ place_of zs k
  place-whole zs d e =
      let n : (replay plan c (entries_in zs)).size ≡ bytes_in t = chain-bytes plan c zs d ∙ ap bytes_in (sym e) in
      let m : length t ≡ length zs = ap length e ∙ abstract-length zs in
      omega (arith, place_all zs _ (chain-alike plan c g h zs d).within, place_rises zs (replay plan c (entries_in zs)).size k (omega arith))

  pub place-bytes : (zs : List Pair) → Chain plan c zs → Tail t (abstract_in zs) → length t ≤ place_of zs k
  unfolding entries_in abstract_in
  place-bytes [] d u = place-whole [] d (ends u)
    where
      ends : Tail t [] → t ≡ []
      ends (Tail.whole e) = e
  place-bytes (z ∷ zs) d u = go (Tail-cons t z.abstract (abstract_in zs) u) (λ x. place-bytes zs d.1 x)
    where
      go : (t ≡ z.abstract ∷ abstract_in zs) ⊎ Tail t (abstract_in zs) → (Tail t (abstract_in zs) → length t ≤ place_of zs k) → length t ≤ place_of (z ∷ zs) k
      go (inl e) ih = place-whole (z ∷ zs) d e
      go (inr x) ih = omega (arith, ih x, older_place z zs k)

pub tail-bytes : {t l : List S.Entry} → Tail t l → bytes_in t ≤ bytes_in l
unfolding bytes_in
tail-bytes (Logs.whole e) = rw e (omega arith)
tail-bytes (Logs.within u) = omega (arith, tail-bytes u)
