-- The chain of moves of one point: one token (owner, move, past at its arrival), and where every log that a crash may leave stands to it.
--     Place          a log is behind the token, has it (front), or has given it on and no image is made yet (leaving)
--     Chain          every allowed log has its place; images and receipts are no later; the token came from the home or a founded giver
--     append         a new record keeps the chain;  image-made   the first image of a move passes the token on
--     shrink         fewer logs, more packets of other kinds
-- Assumes nothing.
use mathlib.Core.Path.{◌≡◌, refl, sym, ◌∙◌, ap, subst}
use mathlib.Core.Bool.{Bool, true, false}
use mathlib.Core.List.{List, [], ◌∷◌}
use mathlib.Core.Logic.{◌⊎◌, inl, inr}
use native.Mathlib.Omega.{arith}
use Prim.Native.Nat.{ℕ, suc, ◌≤◌, ◌<◌}
use lib.Dec.{eqb}
use borrow.Author.Tests.{eqb-true, eqb-false}
use Rattle.model.specs.Versions.{Version}
use Rattle.model.specs.Plan.{entry_at}
use Rattle.model.specs.declared.Command.{Command}
use Rattle.proof_protocol.specs.Servers.{Plan, Result, Execution, Image, Entry, Completion, Point, State, Holding, executed_point, gave_point, took_point, freed_point, replay, Packet, image_for}
use Rattle.proof_protocol.specs.Servers as S
use Rattle.proof_protocol.specs.Allowed.{Written, Given}
use Rattle.proof_protocol.proofs.Logs.{Tail, whole, within, Tail-trans, Change, untouched, ran, left, came, let_go, step_at, change-move}

pub record Token : Type 0 where
  pub owner : ℕ
  pub move : ℕ
  pub base : List Execution

-- an image of point p with this move, destination and past was made
pub record Imaged (Made : Packet → Type 0) (p move destination : ℕ) (past : List Execution) : Type 0 where
  pub image : Image
  pub made : Made (S.image image)
  pub point : image.point ≡ p
  pub move' : image.move ≡ move
  pub destination' : image.destination ≡ destination
  pub past' : image.past ≡ past

pub data Place (Made : Packet → Type 0) (p : ℕ) (tok : Token) (c : ℕ) (x : Point) : Type 0 where
  behind : (x.holding ≡ S.held → ⊥) → x.move ≤ tok.move → (x.taken < tok.move) ⊎ ((tok.move ≡ 0) × (c ≡ tok.owner → ⊥)) → Tail x.past tok.base
      → (x.move ≡ tok.move → x.past ≡ tok.base) → ((d n : ℕ) → x.holding ≡ S.given d n → Imaged Made p x.move d x.past) → Place Made p tok c x
  front : c ≡ tok.owner → x.holding ≡ S.held → x.move ≡ tok.move → x.taken ≡ tok.move → Tail tok.base x.past → Place Made p tok c x
  leaving : c ≡ tok.owner → Given x.holding → x.move ≡ suc tok.move → x.taken ≡ tok.move → Tail tok.base x.past → Place Made p tok c x

pub record ImageAt (plan : Plan) (Allowed : ℕ → List Entry → Type 0) (p : ℕ) (tok : Token) (i : Image) : Type 0 where
  pub most : i.move ≤ tok.move
  pub tail : Tail i.past tok.base
  pub latest : i.move ≡ tok.move → (i.destination ≡ tok.owner) × (i.past ≡ tok.base)
  pub earlier : i.move < tok.move → (l : List Entry) → Allowed i.destination l → i.move ≤ ((replay plan i.destination l).points p).move

-- where the token came from: the home, or a giver that is founded and never falls back
pub data Origin (plan : Plan) (Made : Packet → Type 0) (Allowed : ℕ → List Entry → Type 0) (Founded : ℕ → Type 0) (p : ℕ) (tok : Token) : Type 0 where
  home : tok.move ≡ 0 → tok.owner ≡ (entry_at plan p).home → tok.base ≡ [] → Origin plan Made Allowed Founded p tok
  from : (c : ℕ) → Founded c → ((l : List Entry) → Allowed c l → tok.move ≤ ((replay plan c l).points p).move) → 0 < tok.move → Imaged Made p tok.move tok.owner tok.base
      → Origin plan Made Allowed Founded p tok

-- Allowed c l: a crash may leave server c with the log l (its whole log included)
pub record Chain (plan : Plan) (Made : Packet → Type 0) (Allowed : ℕ → List Entry → Type 0) (Founded : ℕ → Type 0) (p : ℕ) (tok : Token) : Type 0 where
  pub places : (c : ℕ) (l : List Entry) → Allowed c l → Place Made p tok c ((replay plan c l).points p)
  pub images : (i : Image) → Made (S.image i) → i.point ≡ p → ImageAt plan Allowed p tok i
  pub receipts : (c m : ℕ) → Made (S.receipt p c m) → m ≤ tok.move
  pub giver : Origin plan Made Allowed Founded p tok

-- ---- fewer logs allowed, more packets of other kinds

pub Imaged-more : {M N : Packet → Type 0} {p m d : ℕ} {ds : List Execution} → ((k : Packet) → M k → N k) → Imaged M p m d ds → Imaged N p m d ds
Imaged-more f i = record { image = i.image; made = f _ i.made; point = i.point; move' = i.move'; destination' = i.destination'; past' = i.past' }

pub Place-more : {M N : Packet → Type 0} {p : ℕ} {tok : Token} {c : ℕ} {x : Point} → ((k : Packet) → M k → N k) → Place M p tok c x → Place N p tok c x
Place-more f (behind a b d e g h) = behind a b d e g (λ x y z. Imaged-more f (h x y z))
Place-more f (front a b d e g) = front a b d e g
Place-more f (leaving a b d e g) = leaving a b d e g

pub shrink : {plan : Plan} {K L : Packet → Type 0} {A B : ℕ → List Entry → Type 0} {F G : ℕ → Type 0} {p : ℕ} {tok : Token}
    → ((k : Packet) → K k → L k) → ((i : Image) → i.point ≡ p → L (S.image i) → K (S.image i)) → ((q c m : ℕ) → L (S.receipt q c m) → K (S.receipt q c m) ⊎ (q ≡ p → m ≤ tok.move))
    → ((c : ℕ) (l : List Entry) → B c l → A c l) → ((c : ℕ) → F c → G c) → Chain plan K A F p tok → Chain plan L B G p tok
shrink {plan} {K} {L} {A} {B} {F} {G} {p} {tok} f fi fr a g ch = record {
  places = λ c l b. Place-more f (ch.places c l (a c l b));
  images = λ i m e. let o = ch.images i (fi i e m) e in record { most = o.most; tail = o.tail; latest = o.latest; earlier = λ lt l b. o.earlier lt l (a _ l b) };
  receipts = λ c m r. item c m (fr p c m r);
  giver = go ch.giver;
}
  where
    item : (c m : ℕ) → K (S.receipt p c m) ⊎ (p ≡ p → m ≤ tok.move) → m ≤ tok.move
    item c m (inl k) = ch.receipts c m k
    item c m (inr h) = h refl

    go : Origin plan K A F p tok → Origin plan L B G p tok
    go (home x y z) = home x y z
    go (from c k h pos im) = from c (g c k) (λ l b. h l (a c l b)) pos (Imaged-more f im)

pub place-taken : {Made : Packet → Type 0} {p : ℕ} {tok : Token} {c : ℕ} {x : Point} → Place Made p tok c x → x.taken ≤ x.move → x.taken ≤ tok.move
place-taken (behind a b d e g h) le = omega arith
place-taken (front a b d e g) le = omega arith
place-taken (leaving a b d e g) le = omega arith

-- ---- one record more

pub split : (a b : ℕ) → a ≤ b → (a ≡ b) ⊎ (a < b)
split a b h = dec (eqb a b) refl
  where
    dec : (t : Bool) → eqb a b ≡ t → (a ≡ b) ⊎ (a < b)
    dec true q = inl (eqb-true a b q)
    dec false q = let ne = eqb-false a b q in inr (omega arith)

pub held-given : {h : Holding} → Given h → h ≡ S.held → ⊥
held-given g e = let q = g.is in let z : ◌≡◌ {A = ℕ} 0 1 = cc in omega arith

module _ (plan : Plan) (Made : Packet → Type 0) (Allowed : ℕ → List Entry → Type 0) (Founded : ℕ → Type 0) (p : ℕ) (tok : Token) (ch : Chain plan Made Allowed Founded p tok)
    (c : ℕ) (log : List Entry) (now : Allowed c log) where
  abbrev s : State
  s = replay plan c log

  ran-place : (v : Version) (k : Command) (r : Result) (t : ℕ) → (s.points p).holding ≡ S.held → Place Made p tok c (s.points p) → Place Made p tok c (executed_point v k r t (s.points p))
  unfolding executed_point
  ran-place v k r t hd (behind a b d e g h) = absurd (a hd)
  ran-place v k r t hd (front a b d e g) = front a b d e (within g)
  ran-place v k r t hd (leaving a b d e g) = absurd (held-given b hd)

  left-place : (d n : ℕ) → (s.points p).holding ≡ S.held → Place Made p tok c (s.points p) → Place Made p tok c (gave_point d (suc (s.points p).move) n (s.points p))
  unfolding gave_point
  left-place d n hd (behind a b x e g h) = absurd (a hd)
  left-place d n hd (front a b x e g) = leaving a (record { destination = d; place = n; is = refl }) (ap suc x) e g
  left-place d n hd (leaving a b x e g) = absurd (held-given b hd)

  came_place : (i : Image) → Made (S.image i) → i.point ≡ p → i.destination ≡ c → (s.points p).move < i.move → Place Made p tok c (took_point i)
  unfolding took_point
  came_place i m pt dst lt = go (ch.images i m pt)
    where
      late : i.move < tok.move → ImageAt plan Allowed p tok i → ⊥
      late l o = let q = o.earlier l log (subst (λ (z : ℕ). Allowed z log) (sym dst) now) in let q' : i.move ≤ (s.points p).move = subst
          (λ (z : ℕ). i.move ≤ ((replay plan z log).points p).move) dst q in omega arith

      cases : ImageAt plan Allowed p tok i → (i.move ≡ tok.move) ⊎ (i.move < tok.move) → Place Made p tok c (took_point i)
      cases o (inl e) = front (sym dst ∙ (o.latest e).0) refl e e (whole (sym (o.latest e).1))
      cases o (inr l) = absurd (late l o)

      go : ImageAt plan Allowed p tok i → Place Made p tok c (took_point i)
      go o = cases o (split i.move tok.move o.most)

  freed-place : (d m : ℕ) → Made (S.receipt p d m) → Given (s.points p).holding → (s.points p).move ≤ m → Place Made p tok c (s.points p) → Place Made p tok c (freed_point (s.points p))
  unfolding freed_point
  freed-place d m r g le (behind a b x e f h) = behind (λ q. let z : ◌≡◌ {A = ℕ} 0 1 = cc in omega arith) b x e f (λ d n q. let z : ◌≡◌ {A = ℕ} 0 1 = cc in absurd (omega arith))
  freed-place d m r g le (front a b x e f) = absurd (held-given g b)
  freed-place d m r g le (leaving a b x e f) = let q = ch.receipts d m r in absurd (omega arith)

  change-place : {e : Entry} {x : Point} → Change c s Made p e x → Place Made p tok c (s.points p) → Place Made p tok c x
  change-place untouched o = o
  change-place (ran v k done r h q hd) o = ran-place v k r _ hd o
  change-place (left d h hd) o = left-place d _ hd o
  change-place (came i h m pt dst lt nh) o = came_place i m pt dst lt
  change-place (let_go d m k g le) o = freed-place d m k g le o

  pub new_place : (e : Entry) → Written plan c s Made e.item → Place Made p tok c ((replay plan c (e ∷ log)).points p)
  new_place e w = change-place (step_at plan Made c e log p w) (ch.places c log now)

  -- the chain with one more log allowed
  abbrev Longer : Entry → ℕ → List Entry → Type 0
  Longer e d l = Allowed d l ⊎ ((d ≡ c) × (l ≡ e ∷ log))

  pub append : (e : Entry) → Written plan c s Made e.item → Chain plan Made (Longer e) Founded p tok
  append e w = record {
    places = λ d l a. place d l a;
    images = λ i m pt. let o = ch.images i m pt in record { most = o.most; tail = o.tail; latest = o.latest; earlier = λ lt l a. higher i.destination i.move (o.earlier lt) l a };
    receipts = ch.receipts;
    giver = give ch.giver;
  }
    where
      place : (d : ℕ) (l : List Entry) → Longer e d l → Place Made p tok d ((replay plan d l).points p)
      place d l (inl a) = ch.places d l a
      place d l (inr q) = subst (λ (z : ℕ). Place Made p tok z ((replay plan z l).points p)) (sym q.0)
          (subst (λ (k : List Entry). Place Made p tok c ((replay plan c k).points p)) (sym q.1) (new_place e w))

      higher : (d m : ℕ) → ((l : List Entry) → Allowed d l → m ≤ ((replay plan d l).points p).move) → (l : List Entry) → Longer e d l → m ≤ ((replay plan d l).points p).move
      higher d m f l (inl a) = f l a
      higher d m f l (inr q) =
          let h : m ≤ (s.points p).move = subst (λ (z : ℕ). m ≤ ((replay plan z log).points p).move) q.0 (f log (subst (λ (z : ℕ). Allowed z log) (sym q.0) now)) in
          let k : m ≤ ((replay plan c (e ∷ log)).points p).move = omega (arith, change-move (step_at plan Made c e log p w)) in
          subst (λ (z : ℕ). m ≤ ((replay plan z l).points p).move) (sym q.0) (subst (λ (z : List Entry). m ≤ ((replay plan c z).points p).move) (sym q.1) k)

      give : Origin plan Made Allowed Founded p tok → Origin plan Made (Longer e) Founded p tok
      give (home x y z) = home x y z
      give (from d k h pos im) = from d k (higher d tok.move h) pos im

  -- ---- an image is made

  module _ (N : Packet → Type 0) (f : (k : Packet) → Made k → N k) (d n : ℕ) (rs : List Completion) (isgiven : (s.points p).holding ≡ S.given d n) (fresh : N (S.image (image_for s p d rs)))
      (fi : (i : Image) → N (S.image i) → Made (S.image i) ⊎ (i ≡ image_for s p d rs)) (fr : (q b m : ℕ) → N (S.receipt q b m) → Made (S.receipt q b m))
      (still : (l : List Entry) → Allowed c l → (replay plan c l).points p ≡ s.points p) (fnd : Founded c)
      (tm : (b : ℕ) (l : List Entry) → Allowed b l → ((replay plan b l).points p).taken ≤ ((replay plan b l).points p).move) where
    abbrev x : Point
    x = s.points p

    abbrev img : Image
    img = image_for s p d rs

    new_imaged : Imaged N p x.move d x.past
    unfolding image_for
    new_imaged = record { image = img; made = fresh; point = refl; move' = refl; destination' = refl; past' = refl }

    -- a repeated image says what an earlier one said
    again : Imaged Made p x.move d x.past → Chain plan N Allowed Founded p tok
    unfolding image_for
    again o = record {
      places = λ b l a. Place-more f (ch.places b l a);
      images = λ i m pt. pick i pt (fi i m);
      receipts = λ b m r. ch.receipts b m (fr p b m r);
      giver = orig ch.giver;
    }
      where
        orig : Origin plan Made Allowed Founded p tok → Origin plan N Allowed Founded p tok
        orig (home x y z) = home x y z
        orig (from b k h pos im) = from b k h pos (Imaged-more f im)

        old : ImageAt plan Allowed p tok o.image
        old = ch.images o.image o.made o.point

        pick : (i : Image) → i.point ≡ p → Made (S.image i) ⊎ (i ≡ img) → ImageAt plan Allowed p tok i
        pick i pt (inl m) = ch.images i m pt
        pick i pt (inr e) = subst (λ (j : Image). ImageAt plan Allowed p tok j) (sym e) (record {
          most = subst (λ (z : ℕ). z ≤ tok.move) o.move' old.most;
          tail = subst (λ (z : List Execution). Tail z tok.base) o.past' old.tail;
          latest = λ q. let h = old.latest (o.move' ∙ q) in (sym o.destination' ∙ h.0, sym o.past' ∙ h.1);
          earlier = λ lt l a.
              let lt' : o.image.move < tok.move = subst (λ (z : ℕ). z < tok.move) (sym o.move') lt in
              let e' : o.image.destination ≡ img.destination = o.destination' in
              let h = old.earlier lt' l (subst (λ (z : ℕ). Allowed z l) (sym e') a) in
              let h' : o.image.move ≤ ((replay plan img.destination l).points p).move = subst (λ (z : ℕ). o.image.move ≤ ((replay plan z l).points p).move) e' h in
              subst (λ (z : ℕ). z ≤ ((replay plan img.destination l).points p).move) o.move' h';
        })

    -- the first image of this move: the token goes on
    abbrev tok' : Token
    tok' = record { owner = d; move = suc tok.move; base = x.past }

    module _ (own : c ≡ tok.owner) (mv : x.move ≡ suc tok.move) (tk : x.taken ≡ tok.move) (bs : Tail tok.base x.past) where
      -- this server is now behind
      left_behind : Place N p tok' c x
      left_behind = behind (λ q. given_held' (sym isgiven ∙ q)) (subst (λ (z : ℕ). z ≤ suc tok.move) (sym mv) (omega arith)) (inl (subst (λ (z : ℕ). z < suc tok.move) (sym tk) (omega arith)))
          (whole refl) (λ q. refl) (λ d' n' q. subst (λ (z : ℕ). Imaged N p x.move z x.past) (same_dest (sym isgiven ∙ q)) new_imaged)
        where
          given_held' : S.given d n ≡ S.held → ⊥
          given_held' e = let z : ◌≡◌ {A = ℕ} 0 1 = cc in omega arith

          same_dest : {d' n' : ℕ} → S.given d n ≡ S.given d' n' → d ≡ d'
          same_dest e = cc

      further : (b : ℕ) (l : List Entry) → Allowed b l → Place Made p tok b ((replay plan b l).points p) → Place N p tok' b ((replay plan b l).points p)
      further b l a (behind nh le tkn tl eq im) = behind nh (omega arith) (inl (omega (arith, tm b l a))) (Tail-trans tl bs) (λ q. absurd (omega arith)) (λ d' n' q. Imaged-more f (im d' n' q))
      further b l a (front o hd m t g) =
          let e = still l (subst (λ (z : ℕ). Allowed z l) (o ∙ sym own) a) in absurd (clash (o ∙ sym own) hd e)
        where
          clash : b ≡ c → ((replay plan b l).points p).holding ≡ S.held → (replay plan c l).points p ≡ x → ⊥
          clash bc h e = let g : S.given d n ≡ S.held = sym isgiven ∙ ap (λ (z : Point). z.holding) (sym e) ∙ subst
              (λ (z : ℕ). ((replay plan z l).points p).holding ≡ S.held) bc h in let z : ◌≡◌ {A = ℕ} 0 1 = cc in omega arith
      further b l a (leaving o gv m t g) =
          let bc = o ∙ sym own in
          let e = still l (subst (λ (z : ℕ). Allowed z l) bc a) in
          subst (λ (z : ℕ). Place N p tok' z ((replay plan z l).points p)) (sym bc) (subst (λ (z : Point). Place N p tok' c z) (sym e) left_behind)

      advance : Chain plan N Allowed Founded p tok'
      unfolding image_for
      advance = record {
        places = λ b l a. further b l a (ch.places b l a);
        images = λ i m pt. pick i pt (fi i m);
        receipts = λ b m r. let h = ch.receipts b m (fr p b m r) in omega arith;
        giver = from c fnd (λ l a. subst (λ (z : Point). suc tok.move ≤ z.move) (sym (still l a)) (subst (λ (z : ℕ). suc tok.move ≤ z) (sym mv) (omega arith))) (omega arith)
            (subst (λ (z : ℕ). Imaged N p z d x.past) mv new_imaged);
      }
        where
          at_owner : (i : Image) → ImageAt plan Allowed p tok i → (l : List Entry) → Allowed i.destination l → (i.move ≡ tok.move) ⊎ (i.move < tok.move)
              → i.move ≤ ((replay plan i.destination l).points p).move
          at_owner i o l a (inl e) =
              let q = (o.latest e).0 ∙ sym own in
              let st = still l (subst (λ (z : ℕ). Allowed z l) q a) in
              let h : i.move ≤ ((replay plan c l).points p).move = subst (λ (z : Point). i.move ≤ z.move) (sym st) (subst (λ (z : ℕ). i.move ≤ z) (sym mv) (omega arith)) in
              subst (λ (z : ℕ). i.move ≤ ((replay plan z l).points p).move) (sym q) h
          at_owner i o l a (inr lt) = o.earlier lt l a

          pick : (i : Image) → i.point ≡ p → Made (S.image i) ⊎ (i ≡ img) → ImageAt plan Allowed p tok' i
          pick i pt (inl m) = let o = ch.images i m pt in record {
            most = omega (arith, o.most);
            tail = Tail-trans o.tail bs;
            latest = λ q. absurd (omega (arith, o.most));
            earlier = λ lt l a. at_owner i o l a (split i.move tok.move o.most);
          }
          pick i pt (inr e) = subst (λ (j : Image). ImageAt plan Allowed p tok' j) (sym e) (record {
            most = subst (λ (z : ℕ). z ≤ suc tok.move) (sym mv) (omega arith);
            tail = whole refl;
            latest = λ q. (refl, refl);
            earlier = λ lt l a. absurd (omega (arith, mv));
          })

    pub image-made : (t : Token) × Chain plan N Allowed Founded p t
    image-made = go (ch.places c log now)
      where
        go : Place Made p tok c x → (t : Token) × Chain plan N Allowed Founded p t
        go (behind nh le tkn tl eq im) = (tok, again (im d n isgiven))
        go (front o hd m t g) = let z : ◌≡◌ {A = ℕ} 0 1 = cc in absurd (omega arith)
        go (leaving o gv m t g) = (tok', advance o m t g)
