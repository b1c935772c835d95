-- An order that explains one run explains another that shows the same, places of the log aside.
--     point-seen                    a point where checkpoints replaced some of the log
--     shown-here, shown-there       a state shown in one run, in the other
--     explained_too
-- Assumes nothing.
use Prim.Native.Nat.{ℕ}
use mathlib.Core.Path.{◌≡◌, refl, sym, ap, ◌∙◌, subst}
use mathlib.Core.List.{List}
use mathlib.Core.Option.{Option, some}
use native.Mathlib.Omega.{arith}
use Rattle.model.specs.declared.Command.{Command}
use Rattle.model.specs.declared.Point.{Point}
use Rattle.model.specs.declared.ResultPacket.{ResultPacket}
use Rattle.model.specs.Sequential.{Marked, OrderEntry, commands, EntryResult, reading_meant}
use Rattle.model.specs.States.{State, point_at}
use Rattle.model.specs.Checkpoints.{placed_point}
use Rattle.model_invariants.specs.Placed.{local, seen_from}
use Rattle.model_invariants.proofs.Placed.{point-placed}
use Rattle.model_invariants.proofs.Seen.{local-zero}
use Rattle.claim.specs.Claim.{Account, SurvivesBy, HolderBy, ExplainedBy, reading_at}
use Rattle.safety.specs.Alike.{Shown, neither, both}

-- ---- a state, places of the log aside

pub point-seen : (b : ℕ) (st : State) (p : ℕ) → point_at (seen_from b st) p ≡ placed_point (local b) (point_at st p)
unfolding seen_from
point-seen b st p = point-placed (local b) (local-zero b) st p

number-seen : (b : ℕ) (st : State) (p : ℕ) → (point_at (seen_from b st) p).move_number ≡ (point_at st p).move_number
unfolding placed_point
number-seen b st p = ap (λ (x : Point). x.move_number) (point-seen b st p)

taken-seen : (b : ℕ) (st : State) (p : ℕ) → (point_at (seen_from b st) p).taken_move ≡ (point_at st p).taken_move
unfolding placed_point
taken-seen b st p = ap (λ (x : Point). x.taken_move) (point-seen b st p)

reading-seen : (b : ℕ) (st : State) (p : ℕ) → reading_at (point_at (seen_from b st) p) ≡ reading_at (point_at st p)
unfolding placed_point reading_at
reading-seen b st p = ap reading_at (point-seen b st p)

pub shown-here : {x y : Option State} → Shown x y → (st : State) → x ≡ some st → (b : ℕ) × (o : State) × (y ≡ some o) × (st ≡ seen_from b o)
shown-here neither st e = let z : ◌≡◌ {A = ℕ} 0 1 = cc in absurd (omega arith)
shown-here (both b o) st e = let z : st ≡ seen_from b o = cc in (b, o, refl, z)

pub shown-there : {x y : Option State} → Shown x y → (o : State) → y ≡ some o → (b : ℕ) × (x ≡ some (seen_from b o))
shown-there neither o e = let z : ◌≡◌ {A = ℕ} 0 1 = cc in absurd (omega arith)
shown-there (both b st) o e = let z : st ≡ o = cc in (b, ap (λ (s : State). some (seen_from b s)) z)

-- ---- an order

-- what issues, completes, survives or is told in the run x does so in the run y, what survives in y survives in x with the time that it notes, and the
-- ends show the same
module _ (plan : List ℕ) (x y : Account) (issues : (n : ℕ) (ks : List Command) → x.Issues n ks → y.Issues n ks)
    (completes : (n : ℕ) (ks : List Command) (r : EntryResult) → x.Completes n ks r → y.Completes n ks r)
    (survives : (n : ℕ) (k : Marked) → x.SurvivesAt n k → y.SurvivesAt n k) (survives-back : (n : ℕ) (k : Marked) → y.SurvivesAt n k → x.SurvivesAt n k)
    (tells : (r : ResultPacket) → x.Tells r → y.Tells r) (notes-back : (n : ℕ) (k : Marked) (t : ℕ) → y.Notes n k t → x.Notes n k t)
    (final : (c : ℕ) → Shown (x.final c) (y.final c)) (recovers : x.Recovers) where
  survivor : (e : OrderEntry) → SurvivesBy plan x e → SurvivesBy plan y e
  survivor e s = record { part = s.part; among = s.among; at = s.at; survives = survives s.at s.part s.survives }

  survivor_back : (e : OrderEntry) → SurvivesBy plan y e → SurvivesBy plan x e
  survivor_back e s = record { part = s.part; among = s.among; at = s.at; survives = survives-back s.at s.part s.survives }

  -- the holder in x, with the state st there, and st as y has it
  holder : (p c b : ℕ) (st : State) → y.final c ≡ some st → HolderBy plan x p c (seen_from b st) → HolderBy plan y p c st
  holder p c b st e H =
      record {
        founded = e;
        greatest =
            λ d other f.
            let s = shown-there (final d) other f in
            omega (arith, H.greatest d (seen_from s.0 other) s.1, number-seen s.0 other p, number-seen b st p);
        taker =
            λ d other f q.
            let s = shown-there (final d) other f in
            let same : (point_at (seen_from s.0 other) p).move_number ≡ (point_at (seen_from b st) p).move_number = number-seen s.0 other p ∙ q ∙ sym (number-seen b st p) in
            omega (arith, H.taker d (seen_from s.0 other) s.1 same, taken-seen s.0 other p, taken-seen b st p);
        home = λ z. H.home (number-seen b st p ∙ z);
      }

  pub explained_too : (order : List OrderEntry) → ExplainedBy plan y order → ExplainedBy plan x order
  explained_too order E =
      record {
        once = E.once;
        survivors = λ m. (λ s. (E.survivors m).0 (survivor m s), λ i. survivor_back m ((E.survivors m).1 i));
        results = λ n k r c. E.results n k r (completes n k r c);
        values =
            λ p c st h H.
            let s = shown-here (final c) st H.founded in
            let b = s.0 in
            let o = s.1 in
            let K : HolderBy plan x p c (seen_from b o) = subst (HolderBy plan x p c) s.3 H in
            ap (λ (z : State). reading_meant (reading_at (point_at z p))) s.3 ∙ ap reading_meant (reading-seen b o p) ∙ E.values p c o h (holder p c b o s.2 K);
        real_time = λ m n a b r c i h s t. E.real_time m n a b r (completes m (commands a) r c) (issues n (commands b) i) h s t;
        sequence = λ m n j k a b s t h e u v i l. E.sequence m n j k a b (survives m j s) (survives n k t) h e u v i l;
        times = λ r t. let e = E.times r (tells r t) in (e.0, e.1, e.2, e.3, notes-back e.0 e.1 r.result.time e.4);
        recovers = recovers;
      }
