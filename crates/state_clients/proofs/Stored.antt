-- The clients' table of a canonical buffer, with one row stored.
--     table_put                     a run of stores inside the table, and the count
--     row_set, row_added, row_dropped     a row replaced, added behind the last, the last taken away
-- Assumes nothing.
use Prim.Native.Nat.{ℕ, suc, ◌+◌, ◌-◌, ◌*◌, ◌≤◌, ◌<◌}
use mathlib.Core.Path.{◌≡◌, refl, sym, ap, ◌∙◌}
use mathlib.Core.List.{List, [], ◌∷◌, ◌++◌}
use native.Mathlib.Omega.{arith}
use native.Mathlib.Nat.{mul-suc}
use lib.ListN.{length, set, get_or, take, drop, replicate, length-set, length-append, replicate-append-replicate, length-replicate}
use lib.Seq.{take_all, take-suc, length-take-le, drop_at, take_at}
use Rattle.model.specs.declared.Floor.{Floor}
use Rattle.model.specs.Limits.{client_count, floor_row}
use Rattle.model.specs.Numbers.{le32}
use Rattle.model.specs.Tables.{bytes_of, written}
use Rattle.model.specs.Images.{floor_bytes}
use Rattle.model.specs.States.{load, clients_in, state_bytes, padded, floors_start, completion_bytes}
use Rattle.model.specs.Operations.{stored}
use Rattle.model_laws.specs.Codec.{Codec}
use Rattle.model_laws.specs.Layout.{head_with, layout, with_floors}
use Rattle.model_laws.proofs.Written.{written_cover, written-again}
use Rattle.model_laws.proofs.Tables.{length-bytes_of, bytes_of-one}
use Rattle.model_laws.proofs.Images.{floor_codec}
use Rattle.model_laws.proofs.States.{padded-length}
use Rattle.model_laws.proofs.Stores.{layout-state, put-floors, padded-set, padded-from, floors-stored}
use Rattle.state_rows.specs.Canonical.{Canonical}
use Rattle.state_rows.proofs.Access.{floors-count}
use Rattle.state_clients.specs.Places.{no_floor}

-- ---- tables

module _ {A : Type 0} (C : Codec A) (n : ℕ) where
  pub padded-add : (ts : List A) (r : A) → length ts < n
      → written (padded C.enc C.width n ts) (C.width * length ts) (C.enc r) ≡ padded C.enc C.width n (ts ++ (r ∷ []))
  padded-add ts r h =
      ap (λ (x : List ℕ). written (padded C.enc C.width n ts) (C.width * length ts) x) (sym (bytes_of-one C.enc r))
      ∙ padded-from C n ts (length ts) (r ∷ []) (omega arith) (omega arith) (omega arith)
      ∙ ap (λ (x : List A). padded C.enc C.width n (x ++ (r ∷ []))) (take_all (length ts) ts (omega arith))

  -- a place past the rows holds zeros
  padded-past : (ts : List A) → length ts < n → written (padded C.enc C.width n ts) (C.width * length ts) (replicate C.width 0) ≡ padded C.enc C.width n ts
  unfolding padded
  padded-past ts h =
      let w : ℕ = C.width in
      let e : n - length ts ≡ suc (n - suc (length ts)) = omega arith in
      let q : w * (n - length ts) ≡ w + w * (n - suc (length ts)) = rw e (omega (arith, mul-suc w (n - suc (length ts)))) in
      let there : take w (drop (w * length ts) (bytes_of C.enc ts ++ replicate (w * (n - length ts)) 0)) ≡ replicate w 0 =
      rw (drop_at (bytes_of C.enc ts) (replicate (w * (n - length ts)) 0) (w * length ts) (length-bytes_of C ts), q, ← replicate-append-replicate)
      (take_at (replicate w 0) (replicate (w * (n - suc (length ts))) 0) w (length-replicate w 0)) in
      written-again (bytes_of C.enc ts ++ replicate (w * (n - length ts)) 0) (w * length ts) w (replicate w 0) (sym there)

  pub padded-drop : (ts : List A) (k : ℕ) (d : A) → length ts ≡ suc k → suc k ≤ n
      → written (padded C.enc C.width n ts) (C.width * k) (replicate C.width 0) ≡ padded C.enc C.width n (take k ts)
  padded-drop ts k d e h =
      let w : ℕ = C.width in
      let us : List A = take k ts in
      let count : length us ≡ k = length-take-le k ts (omega arith) in
      let all : us ++ (get_or ts k d ∷ []) ≡ ts = sym (take-suc ts k d (omega arith)) ∙ take_all (suc k) ts (omega arith) in
      let added : written (padded C.enc w n us) (w * k) (C.enc (get_or ts k d)) ≡ padded C.enc w n ts =
      ap (λ (x : ℕ). written (padded C.enc w n us) (w * x) (C.enc (get_or ts k d))) (sym count)
      ∙ padded-add us (get_or ts k d) (omega arith)
      ∙ ap (padded C.enc w n) all in
      let past : written (padded C.enc w n us) (w * k) (replicate w 0) ≡ padded C.enc w n us =
      ap (λ (x : ℕ). written (padded C.enc w n us) (w * x) (replicate w 0)) (sym count) ∙ padded-past us (omega arith) in
      ap (λ (x : List ℕ). written x (w * k) (replicate w 0)) (sym added)
      ∙ written_cover (padded C.enc w n us) (w * k) (C.enc (get_or ts k d)) (replicate w 0) (omega (arith, C.enc-width (get_or ts k d), length-replicate {A = ℕ} w 0))
      ∙ past

-- ---- the buffer

module _ (s : List ℕ) (w : Canonical s) where
  abbrev fs : List Floor
  fs = (load s).floors

  abbrev m : ℕ
  m = length (load s).floors

  abbrev n : ℕ
  n = length (load s).records

  abbrev F : List ℕ
  F = padded floor_bytes floor_row client_count (load s).floors

  abbrev R : List ℕ
  R = bytes_of completion_bytes (load s).records

  -- as many rows
  with_floors_lem : (gs : List Floor) → length gs ≡ m → layout (load s) m n (padded floor_bytes floor_row client_count gs) R ≡ state_bytes (with_floors gs (load s))
  unfolding with_floors layout head_with
  with_floors_lem gs e = rw (← e) (layout-state (with_floors gs (load s)))

  pub row_set : (i : ℕ) (f : Floor) → i < length (load s).floors → written s (floors_start + floor_row * i) (floor_bytes f) ≡ stored s (with_floors (set (load s).floors i f) (load s))
  unfolding stored
  row_set i f h =
      let size : length F ≡ floor_row * client_count = padded-length floor_codec client_count fs w.fits.floors-count in
      ap (λ (x : List ℕ). written x (floors_start + floor_row * i) (floor_bytes f)) (sym (rw (layout-state (load s)) w.same))
      ∙ put-floors s (load s) m n F R w.fits.plan-count w.fits.points-count (floor_row * i) (floor_bytes f) (omega (arith, floor_codec.enc-width f, w.fits.floors-count))
      ∙ ap (λ (x : List ℕ). written s 0 (layout (load s) m n x R)) (padded-set floor_codec client_count fs i f h)
      ∙ ap (λ (x : List ℕ). written s 0 x) (with_floors_lem (set fs i f) (length-set fs i f))

  -- a run of stores inside the table, and the count
  pub table_put : (gs : List Floor) (k i : ℕ) (vs : List ℕ) → length gs ≡ k → i + length vs ≤ floor_row * client_count → written F i vs ≡ padded floor_bytes floor_row client_count gs
      → written (written s (floors_start + i) vs) 12 (le32 k) ≡ stored s (with_floors gs (load s))
  unfolding stored
  table_put gs k i vs c h e =
      ap (λ (x : ℕ). written (written s (floors_start + i) vs) 12 (le32 x)) (sym c)
      ∙ ap (λ (x : List ℕ). written (written x (floors_start + i) vs) 12 (le32 (length gs))) (sym w.same)
      ∙ floors-stored s (load s) w.fits gs i vs h e

  pub row_added : (f : Floor) (k : ℕ) → k ≡ clients_in s → m < client_count
      → written (written s (floors_start + floor_row * k) (floor_bytes f)) 12 (le32 (k + 1)) ≡ stored s (with_floors (fs ++ (f ∷ [])) (load s))
  row_added f k e h =
      rw (e ∙ sym (floors-count s))
      (table_put (fs ++ (f ∷ [])) (m + 1) (floor_row * m) (floor_bytes f) (length-append fs (f ∷ [])) (omega (arith, floor_codec.enc-width f)) (padded-add floor_codec client_count fs f h))

  no_floor_lem : floor_bytes no_floor ≡ replicate floor_row 0
  unfolding floor_bytes
  no_floor_lem = refl

  pub row_dropped : (k : ℕ) → m ≡ suc k → written (written s (floors_start + floor_row * k) (floor_bytes no_floor)) 12 (le32 k) ≡ stored s (with_floors (take k fs) (load s))
  row_dropped k e =
      table_put (take k fs) k (floor_row * k) (floor_bytes no_floor) (length-take-le k fs (omega arith)) (omega (arith, floor_codec.enc-width no_floor, w.fits.floors-count))
      (rw no_floor_lem (padded-drop floor_codec client_count fs k no_floor e (omega (arith, w.fits.floors-count))))
