-- The place of an id in a checkpoint that is empty or keeps its layout, as the code finds it.
--     held_nowhere              the empty one
--     held-within, held_at      another's rows lie within it; the place of one of them
-- Assumes nothing.
use Prim.Native.Nat.{ℕ, ◌+◌, ◌*◌, ◌≤◌}
use mathlib.Core.Path.{◌≡◌, ◌∙◌}
use mathlib.Core.List.{List}
use native.Mathlib.Omega.{arith}
use lib.ListN.{length, drop}
use lib.Dec.{ltb}
use borrow.Author.Tests.{lt-leb}
use Rattle.model.specs.declared.Place.{Place}
use Rattle.model.specs.Choice.{pick}
use Rattle.model.specs.Refusals.{unknown}
use Rattle.model.specs.Tables.{index_of}
use Rattle.model.specs.Checkpoints.{records_part, record_width, clients_of, records_of, fronts, in_checkpoint, place_at, no_place, place_in_checkpoint}
use Rattle.model_laws.proofs.Checkpoints.{Framed}
use Rattle.server_inspect.specs.Places.{is_row_id}
use Rattle.server_inspect.proofs.Kept.{kept-place}

pub held_nowhere : (t : List ℕ) (x c : ℕ) → length t ≡ 0 → {r : Place} → r ≡ no_place unknown → r ≡ place_in_checkpoint x c t
unfolding place_in_checkpoint
held_nowhere t x c e q = rw (lt-leb 1 (length t) (omega (arith, e))) q

module _ {t : List ℕ} (w : Framed t) where
  pub held-within : {m n : ℕ} → m ≡ records_of t → n ≡ clients_of t → records_part n + record_width t * m ≤ length t
  held-within p q = rw (p, q) w.whole

  pub held_at : (x c : ℕ) {m n i : ℕ} {none r : Place} → m ≡ records_of t → n ≡ clients_of t → none ≡ no_place unknown
      → i ≡ index_of (is_row_id x c) (fronts (record_width t) m (drop (records_part n) t)) → r ≡ pick (ltb i m) (place_at in_checkpoint (records_part n + record_width t * i) (record_width t)) none
      → r ≡ place_in_checkpoint x c t
  held_at x c p q z e f = (rw (p, q, z) at f) ∙ kept-place t w x c (rw (p, q) at e)
