-- Logs: every earlier log is a tail, so that what holds of all tails holds of all that a crash may leave.
--     Legit          each record was decided on the replay of what precedes it, by facts that only grow
--     replay-ok      the replay of a legitimate log is StateOk
--     step_at         what one record does to one point;  taken≤move   the latest taken move is never above the move number
--     move_rises, heard_rises   move numbers and heard times rise along a log
--     stands         a given point stands still
-- Assumes nothing.
use mathlib.Core.Path.{◌≡◌, refl, sym, ◌∙◌, ap, subst}
use mathlib.Core.Bool.{Bool, true, false}
use mathlib.Core.List.{List, [], ◌∷◌, Memᴰ}
use mathlib.Core.Logic.{◌⊎◌, inl, inr}
use native.Mathlib.Omega.{arith}
use Prim.Native.Nat.{ℕ, zero, suc, ◌-◌, ◌≤◌, ◌<◌}
use lib.Dec.{eqb}
use lib.ListN.{length, drop, length-drop}
use Rattle.model.specs.Versions.{Version}
use Rattle.model.specs.declared.Command.{Command}
use Rattle.model.specs.Choice.{pick}
use Rattle.model.specs.Plan.{entry_at}
use Rattle.model.specs.Apply.{is_not_client}
use Rattle.proof_protocol.specs.Servers.{Plan, Result, Execution, Image, LogRecord, Entry, Point, State, at_point, executed_point, gave_point, took_point, freed_point, apply_record, apply, founding, replay, Packet}
use Rattle.proof_protocol.specs.Servers as S
use Rattle.proof_protocol.specs.Allowed.{Written, Given}
use Rattle.proof_protocol.specs.Allowed as I
use Rattle.proof_protocol.proofs.Basics.{changed-cases}
use Rattle.proof_protocol.proofs.Floors.{Ascends, raise_ascends, merge_ascends, keep_ascends}
use Rattle.proof_protocol.proofs.Floors as Floors
use Rattle.proof_protocol.proofs.Memory.{Honest, StateOk, keeps, founding-ok}

-- ---- tails

pub data Tail {A : Type 0} (k : List A) : List A → Type 0 where
  whole : {l : List A} → k ≡ l → Tail k l
  within : {a : A} {l : List A} → Tail k l → Tail k (a ∷ l)

pub Tail-refl : {A : Type 0} (l : List A) → Tail l l
Tail-refl l = whole refl

pub Tail-trans : {A : Type 0} {j k l : List A} → Tail j k → Tail k l → Tail j l
Tail-trans t (whole e) = subst (Tail _) e t
Tail-trans t (within u) = within (Tail-trans t u)

pub Tail-cons : {A : Type 0} (k : List A) (a : A) (l : List A) → Tail k (a ∷ l) → (k ≡ a ∷ l) ⊎ Tail k l
Tail-cons k a l (whole e) = inl e
Tail-cons k a l (within t) = inr t

pub Tail-length : {A : Type 0} {k l : List A} → Tail k l → length k ≤ length l
Tail-length (whole e) = rw e (omega arith)
Tail-length (within t) = omega (arith, Tail-length t)

pub Tail-drop : {A : Type 0} (j : ℕ) (l : List A) → Tail (drop j l) l
Tail-drop zero l = whole refl
Tail-drop (suc j) [] = whole refl
Tail-drop (suc j) (a ∷ l) = within (Tail-drop j l)

-- the oldest m of a log
pub oldest_length : {A : Type 0} (m : ℕ) (l : List A) → m ≤ length l → length (drop (length l - m) l) ≡ m
oldest_length m l h = simp length-drop (omega arith)

-- a tail that is not longer than another is a tail of it
pub Tail-short : {A : Type 0} {k j l : List A} → Tail k l → Tail j l → length k ≤ length j → Tail k j
Tail-short t (whole e) h = subst (Tail _) (sym e) t
Tail-short {k} {j} t (within {a = a} {l = l} u) h = go (Tail-cons k a l t) (λ v. Tail-short v u h)
  where
    go : (k ≡ a ∷ l) ⊎ Tail k l → (Tail k l → Tail k j) → Tail k j
    go (inl e) ih = let x = Tail-length u in let y : length k ≡ suc (length l) = ap length e in absurd (omega arith)
    go (inr v) ih = ih v

pub Tail-mem : {A : Type 0} {a : A} {k l : List A} → Tail k l → Memᴰ a k → Memᴰ a l
Tail-mem (whole e) m = subst (Memᴰ _) e m
Tail-mem (within t) m = Memᴰ.tail (Tail-mem t m)

-- ---- legitimate logs

-- each record was decided on the replay of what precedes it; each event is later than every execution known there
pub data Legit (plan : Plan) (Made : Packet → Type 0) (c clock : ℕ) : List Entry → Type 0 where
  empty : Legit plan Made c clock []
  then : {e : Entry} {l : List Entry} → Written plan c (replay plan c l) Made e.item → e.at < clock
      → ((p : ℕ) (d : Execution) → Memᴰ d ((replay plan c l).points p).past → d.at < e.at) → Legit plan Made c clock l → Legit plan Made c clock (e ∷ l)

pub Legit-tail : {plan : Plan} {Made : Packet → Type 0} {c clock : ℕ} {k l : List Entry} → Tail k l → Legit plan Made c clock l → Legit plan Made c clock k
Legit-tail (whole e) g = subst (Legit _ _ _ _) (sym e) g
Legit-tail (within t) (then w a s g) = Legit-tail t g

pub Written-more : {plan : Plan} {M N : Packet → Type 0} {c : ℕ} {s : State} {r : LogRecord} → ((p : Packet) → M p → N p) → Written plan c s M r → Written plan c s N r
Written-more f (I.executing v q x m a b d e is) = I.executing v q x (f _ m) a b d e is
Written-more f (I.going x t m) = I.going x t (f _ m)
Written-more f (I.giving p d h) = I.giving p d h
Written-more f (I.taking i m a b d) = I.taking i (f _ m) a b d
Written-more f (I.freeing p c m h g l) = I.freeing p c m (f _ h) g l

pub Legit-more : {plan : Plan} {M N : Packet → Type 0} {c s t : ℕ} {l : List Entry} → ((p : Packet) → M p → N p) → s ≤ t → Legit plan M c s l → Legit plan N c t l
Legit-more f h empty = empty
Legit-more f h (then {e = e} w a o g) = then {e = e} (Written-more f w) (omega arith) o (Legit-more f h g)

-- floors ascend in every replay
apply_ascends : (s : State) (r : LogRecord) (t : ℕ) → Ascends s.floors → Ascends (apply_record s r t).floors
unfolding apply_record
apply_ascends s (S.executed v k d r) t a = raise_ascends k.client d s.floors a
apply_ascends s (S.gone x y) t a = keep_ascends (is_not_client x) s.floors a
apply_ascends s (S.gave p d m) t a = a
apply_ascends s (S.took i) t a = merge_ascends i.floors s.floors a
apply_ascends s (S.freed p m) t a = a

pub replay_ascends : (plan : Plan) (c : ℕ) (l : List Entry) → Ascends (replay plan c l).floors
unfolding replay apply founding
replay_ascends plan c [] = Floors.no_floors
replay_ascends plan c (e ∷ l) = apply_ascends (replay plan c l) e.item e.at (replay_ascends plan c l)

module _ (plan : Plan) (Made : Packet → Type 0) (hon : Honest plan Made) where
  pub replay-ok : {c clock : ℕ} (l : List Entry) → Legit plan Made c clock l → StateOk plan Made (replay plan c l)
  unfolding replay apply
  replay-ok {c} [] empty = founding-ok plan Made hon c
  replay-ok {c} (e ∷ l) (then w a s g) = keeps plan Made hon c (replay plan c l) e.item e.at s (replay_ascends plan c l) w (replay-ok l g)

applied_count : (s : State) (r : LogRecord) (t : ℕ) → (apply_record s r t).count ≡ suc s.count
unfolding apply_record
applied_count s (S.executed v k d r) t = refl
applied_count s (S.gone x y) t = refl
applied_count s (S.gave p d m) t = refl
applied_count s (S.took i) t = refl
applied_count s (S.freed p m) t = refl

pub count-length : (plan : Plan) (c : ℕ) (l : List Entry) → (replay plan c l).count ≡ length l
unfolding replay apply founding
count-length plan c [] = refl
count-length plan c (e ∷ l) = applied_count (replay plan c l) e.item e.at ∙ ap suc (count-length plan c l)

-- ---- what one record does to point p

pub data Change (c : ℕ) (s : State) (Made : Packet → Type 0) (p : ℕ) (e : Entry) : Point → Type 0 where
  untouched : Change c s Made p e (s.points p)
  ran : (v : Version) (k : Command) (done : ℕ) (r : Result) → e.item ≡ S.executed v k done r → k.point ≡ p → (s.points p).holding ≡ S.held
      → Change c s Made p e (executed_point v k r e.at (s.points p))
  left : (d : ℕ) → e.item ≡ S.gave p d (suc (s.points p).move) → (s.points p).holding ≡ S.held → Change c s Made p e (gave_point d (suc (s.points p).move) (suc s.count) (s.points p))
  came : (i : Image) → e.item ≡ S.took i → Made (S.image i) → i.point ≡ p → i.destination ≡ c → (s.points p).move < i.move → ((s.points p).holding ≡ S.held → ⊥) → Change c s Made p e (took_point i)
  let_go : (d m : ℕ) → Made (S.receipt p d m) → Given (s.points p).holding → (s.points p).move ≤ m → Change c s Made p e (freed_point (s.points p))

module _ (plan : Plan) (Made : Packet → Type 0) (c : ℕ) (s : State) (e : Entry) (p : ℕ) where
  change-at : (q : ℕ) (x : Point) → Change c s Made q e x → Change c s Made p e (at_point s.points q x p)
  change-at q x f = changed-cases (λ n y. Change c s Made n e y) s.points q x f (λ n _. untouched) p

  changes : (r : LogRecord) → e.item ≡ r → Written plan c s Made r → Change c s Made p e ((apply_record s r e.at).points p)
  unfolding apply_record
  changes r h (I.executing v q x m hd b d f is) = change-at q.cmd.point _ (ran v q.cmd q.done x h refl hd)
  changes r h (I.going x t m) = untouched
  changes r h (I.giving q d hd) = change-at q _ (left d h hd)
  changes r h (I.taking i m a b d) = change-at i.point _ (came i h m refl a b d)
  changes r h (I.freeing q d m k g le) = change-at q _ (let_go d m k g le)

-- one step of a legitimate log, seen from point p
pub step_at : (plan : Plan) (Made : Packet → Type 0) (c : ℕ) (e : Entry) (l : List Entry) (p : ℕ) → Written plan c (replay plan c l) Made e.item
    → Change c (replay plan c l) Made p e ((replay plan c (e ∷ l)).points p)
unfolding replay apply
step_at plan Made c e l p w = changes plan Made c (replay plan c l) e p e.item refl w

-- ---- moves and heard times rise along a log

pub change-move : {c : ℕ} {s : State} {Made : Packet → Type 0} {p : ℕ} {e : Entry} {x : Point} → Change c s Made p e x → (s.points p).move ≤ x.move
unfolding executed_point gave_point took_point freed_point
change-move untouched = omega arith
change-move (ran v k done r h q hd) = omega arith
change-move (left d h hd) = omega arith
change-move (came i h m pt dst lt nh) = omega arith
change-move (let_go d m k g le) = omega arith

-- an earlier log has a move number and a heard time not over a later one's
pub move_rises : {plan : Plan} {Made : Packet → Type 0} {c clock : ℕ} {k l : List Entry} (p : ℕ) → Tail k l → Legit plan Made c clock l
    → ((replay plan c k).points p).move ≤ ((replay plan c l).points p).move
move_rises p (whole e) g = rw e (omega arith)
move_rises {plan} {Made} {c} p (within t) (then {e = e} {l = l} w a o g) = omega (arith, change-move (step_at plan Made c e l p w), move_rises p t g)

apply-heard : (s : State) (r : LogRecord) (t : ℕ) → s.heard ≤ (apply_record s r t).heard
unfolding apply_record
apply-heard s (S.executed v k d r) t = omega arith
apply-heard s (S.gone x y) t = omega arith
apply-heard s (S.gave p d m) t = omega arith
apply-heard s (S.took i) t = omega arith
apply-heard s (S.freed p m) t = omega arith

pub heard_rises : (plan : Plan) (c : ℕ) {k l : List Entry} → Tail k l → (replay plan c k).heard ≤ (replay plan c l).heard
unfolding replay apply
heard_rises plan c (whole e) = rw e (omega arith)
heard_rises plan c (within {a = e} {l = l} t) = omega (arith, apply-heard (replay plan c l) e.item e.at, heard_rises plan c t)

change-taken : {c : ℕ} {s : State} {Made : Packet → Type 0} {p : ℕ} {e : Entry} {x : Point} → Change c s Made p e x → (s.points p).taken ≤ (s.points p).move → x.taken ≤ x.move
unfolding executed_point gave_point took_point freed_point
change-taken untouched ih = ih
change-taken (ran v k done r h q hd) ih = ih
change-taken (left d h hd) ih = omega arith
change-taken (came i h m pt dst lt nh) ih = omega arith
change-taken (let_go d m k g le) ih = ih

-- the latest taken move is never above the move number
pub taken≤move : (plan : Plan) (Made : Packet → Type 0) (c clock p : ℕ) (l : List Entry) → Legit plan Made c clock l → ((replay plan c l).points p).taken ≤ ((replay plan c l).points p).move
unfolding replay founding S.founded_point
taken≤move plan Made c clock p [] empty = omega arith
taken≤move plan Made c clock p (e ∷ l) (then w a o g) = change-taken (step_at plan Made c e l p w) (taken≤move plan Made c clock p l g)

-- ---- a given point stands still

pub record Stands (plan : Plan) (c p n : ℕ) (x : Point) (log : List Entry) : Type 0 where
  pub inside : n ≤ length log
  pub still : (l : List Entry) → Tail l log → n ≤ length l → (replay plan c l).points p ≡ x

given-held : {d n : ℕ} → S.given d n ≡ S.held → ⊥
given-held e = let z : ◌≡◌ {A = ℕ} 0 1 = cc in omega arith

given-released : {d n : ℕ} → S.given d n ≡ S.released → ⊥
given-released e = let z : ◌≡◌ {A = ℕ} 0 1 = cc in omega arith

given-absent : {d n : ℕ} → S.given d n ≡ S.absent → ⊥
given-absent e = let z : ◌≡◌ {A = ℕ} 0 1 = cc in omega arith

-- either the last record is the give, or it left the point as it was
data LastGive (s : State) (p n : ℕ) (x : Point) : Type 0 where
  gives : n ≡ suc s.count → LastGive s p n x
  older : s.points p ≡ x → LastGive s p n x

last-give : {c : ℕ} {s : State} {Made : Packet → Type 0} {p : ℕ} {e : Entry} {x : Point} (d n : ℕ) → Change c s Made p e x → x.holding ≡ S.given d n → LastGive s p n x
unfolding executed_point gave_point took_point freed_point
last-give d n untouched h = older refl
last-give d n (ran v k done r q pt hd) h = absurd (given-held (sym h ∙ hd))
last-give {s = s} d n (left d' q hd) h = let z : suc s.count ≡ n = cc in gives (sym z)
last-give d n (came i q m pt dst lt nh) h = absurd (given-held (sym h))
last-give d n (let_go d' m k g le) h = absurd (given-released (sym h))

founding-given : (plan : Plan) (c p d n : ℕ) → ((founding plan c).points p).holding ≡ S.given d n → ⊥
unfolding founding S.founded_point
founding-given plan c p d n h = go (eqb (entry_at plan p).home c) h
  where
    go : (b : Bool) → pick b S.held S.absent ≡ S.given d n → ⊥
    go true q = given-held (sym q)
    go false q = given-absent (sym q)

pub stands : (plan : Plan) (Made : Packet → Type 0) (c clock p d n : ℕ) (log : List Entry) → Legit plan Made c clock log → ((replay plan c log).points p).holding ≡ S.given d n
    → Stands plan c p n ((replay plan c log).points p) log
stands plan Made c clock p d n [] empty h = absurd (founding-given plan c p d n (unfold replay in h))
stands plan Made c clock p d n (e ∷ l) (then w a o g) h = go (last-give d n (step_at plan Made c e l p w) h) (λ q. stands plan Made c clock p d n l g q)
  where
    top : (k : List Entry) → suc (length l) ≤ length k → (k ≡ e ∷ l) ⊎ Tail k l → (replay plan c k).points p ≡ (replay plan c (e ∷ l)).points p
    top k le (inl q) = ap (λ (z : List Entry). (replay plan c z).points p) q
    top k le (inr t) = absurd (omega (arith, Tail-length t))

    under : (replay plan c l).points p ≡ (replay plan c (e ∷ l)).points p → Stands plan c p n ((replay plan c l).points p) l → (k : List Entry) → n ≤ length k → (k ≡ e ∷ l) ⊎ Tail k l
        → (replay plan c k).points p ≡ (replay plan c (e ∷ l)).points p
    under q st k le (inl r) = ap (λ (z : List Entry). (replay plan c z).points p) r
    under q st k le (inr t) = st.still k t le ∙ q

    go : LastGive (replay plan c l) p n ((replay plan c (e ∷ l)).points p) → (((replay plan c l).points p).holding ≡ S.given d n → Stands plan c p n ((replay plan c l).points p) l)
        → Stands plan c p n ((replay plan c (e ∷ l)).points p) (e ∷ l)
    go (gives q) ih = let z = count-length plan c l in record { inside = omega arith; still = λ k t le. top k (omega arith) (Tail-cons k e l t) }
    go (older q) ih =
        let st = ih (ap (λ (x : Point). x.holding) q ∙ h) in
        record { inside = omega (arith, st.inside); still = λ k t le. under q st k le (Tail-cons k e l t) }
