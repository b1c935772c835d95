-- The fence. Let server c hold a point, with move number M, and have a notice's time t heard and synced. From then on c has heard t, since what is
-- synced stands; and so has every image of a later move and every log with a later move, since each comes from c or from another of them. Whoever
-- holds the point is c or has a later move, so whoever executes a command on it has heard t.
--     seen-issued    what is seen as issued was issued by an earlier change
--     told-image     a new image says what its server's state says
--     alone          where the point came to c with move number M, c holds it or a server with a later move
--     Later          images and logs of later moves have heard t;  later_on   after every later change too
--     fenced         the theorem
-- Assumes nothing.
use mathlib.Core.Path.{◌≡◌, refl, sym, ◌∙◌, ap, subst}
use mathlib.Core.Bool.{false}
use mathlib.Core.List.Memᴰ
use mathlib.Core.List.{List, [], ◌∷◌}
use mathlib.Core.Logic.{◌⊎◌, inl, inr}
use native.Mathlib.Omega.{arith}
use Prim.Native.Nat.{ℕ, zero, suc, ◌-◌, ◌≤◌, ◌<◌}
use lib.ListN.{length}
use Rattle.model.specs.declared.Command.{Command}
use Rattle.model.specs.declared.LeaseManager.{LeaseManager}
use Rattle.model.specs.Plan.{entry_at}
use Rattle.model.specs.Sequential.{Marked}
use Rattle.proof_protocol.specs.Servers.{Plan, Execution, Image, LogRecord, Entry, Point, Packet, replay, apply, apply_record, image_for}
use Rattle.proof_protocol.specs.Servers as S
use Rattle.proof_protocol.specs.World.{World, Server, Change, state_of, step, made_by, seen_by, empty_world, issued, issued_by}
use Rattle.proof_protocol.specs.World as W
use Rattle.proof_protocol.specs.Allowed.{Allowed, Written, Told, Leased, Run}
use Rattle.proof_protocol.specs.Allowed as I
use Rattle.proof_protocol.specs.Explains.{after, At, Issues, Executes}
use Rattle.proof_protocol.specs.Fence.{synced_log, FencedIn, Fence}
use Rattle.proof_protocol.proofs.Basics.{impossible}
use Rattle.proof_protocol.proofs.Logs.{Tail, Tail-refl, Tail-trans, Tail-cons, Tail-drop, Tail-mem, oldest_length, step_at, move_rises, heard_rises}
use Rattle.proof_protocol.proofs.Logs as Logs
use Rattle.proof_protocol.proofs.Token.{Token, Chain, Place, Origin, Imaged, ImageAt, Imaged-more, split, held-given}
use Rattle.proof_protocol.proofs.Token as Tok
use Rattle.proof_protocol.proofs.Core.{In, Leaves, Stood, is_image}
use Rattle.proof_protocol.proofs.Clients.{Saw}
use Rattle.proof_protocol.proofs.Inv.{Inv}
use Rattle.proof_protocol.proofs.Trace.{LogStep, first-world, after-suc, ev, allowed_at, at-is, is-at, inv_at, step-at, synced_on, made_on, through}
use Rattle.proof_protocol.proofs.Trace as Trace
use Rattle.proof_protocol.proofs.Final.{written-issued}

-- ---- a command is issued before it is executed

-- what is seen as issued after a change was seen before it, or the change issues it
issued_by_lem : (w : World) (c : Change) (k : Command) → Saw (step w c).seen (issued k) → Saw w.seen (issued k) ⊎ ((cs : List Change) (n : ℕ) → At cs n c → Issues cs n (k ∷ []))
unfolding step seen_by
issued_by_lem w W.same k m = inl m
issued_by_lem w (W.server c s) k m = inl m
issued_by_lem w (W.tells c p) k m = inl m
issued_by_lem w (W.client x (W.starts t)) k m = inl m
issued_by_lem w (W.client x (W.issues d o p a)) k m = go (Memᴰ.cases_cons m)
  where
    go : (issued k ≡ issued (issued_by d o p a).command) ⊎ Saw w.seen (issued k)
        → Saw w.seen (issued k) ⊎ ((cs : List Change) (n : ℕ) → At cs n (W.client x (W.issues d o p a)) → Issues cs n (k ∷ []))
    go (inl e) = let q : (issued_by d o p a).command ≡ k = cc in
        inr (λ cs n at. record { client = x; state = d; op = o; point = p; argument = a; event = at; its = ap (λ (z : Command). z ∷ []) q })
    go (inr j) = inl j
issued_by_lem w (W.client x (W.resends d n)) k m = inl m
issued_by_lem w (W.client x (W.receives d i p r)) k m = go (Memᴰ.cases_cons m)
  where
    go : (issued k ≡ W.received (W.command_at d i.call) r) ⊎ Saw w.seen (issued k)
        → Saw w.seen (issued k) ⊎ ((cs : List Change) (n : ℕ) → At cs n (W.client x (W.receives d i p r)) → Issues cs n (k ∷ []))
    go (inl e) = let z : ◌≡◌ {A = ℕ} 0 1 = cc in absurd (omega arith)
    go (inr j) = inl j
issued_by_lem w (W.client x (W.relets d t)) k m = inl m
issued_by_lem w (W.leases o p) k m = inl m

-- a change that writes a record may write it
writes_by : {plan : Plan} {w : World} {c : Change} {b : ℕ} {r : LogRecord} {n : ℕ} → c ≡ W.server b (W.writes r n) → Allowed plan w c → Written plan b (state_of plan w b) (In w.made) r
writes_by {plan} {w} {c} {b} {r} {n} e a = go (subst (Allowed plan w) e a)
  where
    go : Allowed plan w (W.server b (W.writes r n)) → Written plan b (state_of plan w b) (In w.made) r
    go (I.writing _ _ _ f k) = k

module _ (plan : Plan) (cs : List Change) (run_ok : Run plan empty_world cs) where
  -- what is seen as issued was issued by an earlier change
  seen-issued : (n : ℕ) → n ≤ length cs → (k : Command) → Saw (after cs n).seen (issued k) → (i : ℕ) × (i < n) × Issues cs i (k ∷ [])
  unfolding empty_world
  seen-issued zero h k m = absurd (Memᴰ.not-nil (subst (λ (w : World). Saw w.seen (issued k)) (first-world plan cs run_ok) m))
  seen-issued (suc n) h k m = go (issued_by_lem (after cs n) (ev plan cs run_ok n) k (subst (λ (w : World). Saw w.seen (issued k)) (after-suc plan cs run_ok n h) m))
      (λ j. seen-issued n (omega arith) k j)
    where
      go : Saw (after cs n).seen (issued k) ⊎ ((cs' : List Change) (n' : ℕ) → At cs' n' (ev plan cs run_ok n) → Issues cs' n' (k ∷ []))
          → (Saw (after cs n).seen (issued k) → (i : ℕ) × (i < n) × Issues cs i (k ∷ [])) → (i : ℕ) × (i < suc n) × Issues cs i (k ∷ [])
      go (inl j) ih = let r = ih j in (r.0, omega (arith, r.1), r.2)
      go (inr f) ih = (n, omega arith, f cs n (is-at cs n _ h refl))

  -- an executed record was written by what its server may write
  wrote_executed : (n c : ℕ) (m : Marked) (x : Executes cs n c m)
      → (n < length cs) × Written plan c (state_of plan (after cs n) c) (In (after cs n).made) (S.executed m.version m.command x.done x.res)
  wrote_executed n c m x = let i = at-is cs n _ x.event in (i.0, writes_by i.1 (allowed_at plan cs run_ok n i.0))

  -- the first promise
  issued-first : (n c : ℕ) (m : Marked) → Executes cs n c m → (i : ℕ) × (i < n) × Issues cs i (m.command ∷ [])
  issued-first n c m x =
      let w = wrote_executed n c m x in
      let h = w.0 in
      seen-issued n (omega arith) m.command (written-issued plan (after cs n) (inv_at plan cs run_ok n) w.1 refl)

-- ---- images

-- the image i says what the state of a server says
record Says (plan : Plan) (w : World) (i : Image) : Type 0 where
  server : ℕ
  move : i.move ≡ ((state_of plan w server).points i.point).move
  heard : i.heard ≡ (state_of plan w server).heard

abbrev Old : Plan → World → Image → Type 0
Old plan w i = In w.made (S.image i) ⊎ Says plan w i

-- a new image says what its server's state says
told-image : (plan : Plan) (w : World) (i : Image) {c : Change} → Allowed plan w c → In (step w c).made (S.image i) → Old plan w i
unfolding step made_by image_for
told-image plan w i a m = go a m
  where
    -- a packet that is no image
    other : (q : Packet) → is_image q ≡ false → In (q ∷ w.made) (S.image i) → Old plan w i
    other q n j = cases (Memᴰ.cases_cons j)
      where
        cases : (S.image i ≡ q) ⊎ In w.made (S.image i) → Old plan w i
        cases (inl e) = impossible (ap is_image e ∙ n)
        cases (inr k) = inl k

    told : (c mark : ℕ) (q : Packet) → Told c mark (state_of plan w c) q → In (q ∷ w.made) (S.image i) → Old plan w i
    told c mark q (I.repeating r k le) j = other _ refl j
    told c mark q (I.imaging p g rs le out all) j = cases (Memᴰ.cases_cons j)
      where
        cases : (S.image i ≡ S.image (image_for (state_of plan w c) p g.destination rs)) ⊎ In w.made (S.image i) → Old plan w i
        cases (inl e) =
            let q : i ≡ image_for (state_of plan w c) p g.destination rs = cc in
            inr (subst (Says plan w) (sym q) (record { server = c; move = refl; heard = refl }))
        cases (inr k) = inl k
    told c mark q (I.receipting p) j = other _ refl j

    leased : (o : LeaseManager) (q : Packet) → Leased w.manager o q → In (q ∷ w.made) (S.image i) → Old plan w i
    leased o q (I.opens t span le f) j = other _ refl j
    leased o q (I.renews x t span le h) j = other _ refl j
    leased o q (I.regrants x t le h) j = other _ refl j
    leased o q (I.notices x t le h nz k) j = other _ refl j

    go : {c : Change} → Allowed plan w c → In (step w c).made (S.image i) → Old plan w i
    go I.nothing j = inl j
    go (I.founding c e) j = inl j
    go (I.writing c r n f wr) j = inl j
    go (I.syncing c k f up le) j = inl j
    go (I.crashing c k f le) j = inl j
    go (I.telling c q f t) j = told c _ q t j
    go (I.starting x t k e) j = inl j
    go (I.issuing x d o p b e sm) j = other _ refl j
    go (I.resending x d k e h) j = other _ refl j
    go (I.receiving x d k p r e n q) j = inl j
    go (I.reletting x d t e k) j = inl j
    go (I.leasing o q l) j = leased o q l j

-- ---- who holds a point

-- point p came to server c with move number m: c is its home, or an image was made
abbrev CameTo : Plan → List Packet → ℕ → ℕ → ℕ → Type 0
CameTo plan made p m c = ((m ≡ 0) × (c ≡ (entry_at plan p).home)) ⊎ ((past : List Execution) × Imaged (In made) p m c past)

module _ (plan : Plan) (made : List Packet) (Allowed : ℕ → List Entry → Type 0) (Founded : ℕ → Type 0) (p : ℕ) (tok : Token) (ch : Chain plan (In made) Allowed Founded p tok) where
  came_to : CameTo plan made p tok.move tok.owner
  came_to = go ch.giver
    where
      go : Origin plan (In made) Allowed Founded p tok → CameTo plan made p tok.move tok.owner
      go (Tok.home z q b) = inl (z, q)
      go (Tok.from c f up pos im) = inr (tok.base, im)

  -- the token is there, or later
  token_at : (m c : ℕ) → CameTo plan made p m c → (tok.owner ≡ c) ⊎ (m < tok.move)
  token_at m c (inl h) = go ch.giver
    where
      go : Origin plan (In made) Allowed Founded p tok → (tok.owner ≡ c) ⊎ (m < tok.move)
      go (Tok.home z q b) = inl (q ∙ sym h.1)
      go (Tok.from b f up pos im) = let z = h.0 in inr (omega arith)
  token_at m c (inr h) = go (split h.1.image.move tok.move o.most)
    where
      o : ImageAt plan Allowed p tok h.1.image
      o = ch.images h.1.image h.1.made h.1.point

      go : (h.1.image.move ≡ tok.move) ⊎ (h.1.image.move < tok.move) → (tok.owner ≡ c) ⊎ (m < tok.move)
      go (inl e) = inl (sym (o.latest e).0 ∙ h.1.destination')
      go (inr lt) = let z = h.1.move' in inr (omega arith)

  alone : (m c : ℕ) → CameTo plan made p m c → (b : ℕ) (l : List Entry) → Allowed b l → ((replay plan b l).points p).holding ≡ S.held → (b ≡ c) ⊎ (m < ((replay plan b l).points p).move)
  alone m c k b l a hd = go (ch.places b l a) (token_at m c k)
    where
      go : Place (In made) p tok b ((replay plan b l).points p) → (tok.owner ≡ c) ⊎ (m < tok.move) → (b ≡ c) ⊎ (m < ((replay plan b l).points p).move)
      go (Tok.behind nh le t q e im) x = absurd (nh hd)
      go (Tok.front o _ e t q) (inl x) = inl (o ∙ x)
      go (Tok.front o _ e t q) (inr x) = inr (omega arith)
      go (Tok.leaving o g e t q) x = absurd (held-given g hd)

-- where server c holds the point: it came to c, and no image or log has a later move
module _ (plan : Plan) (w : World) (inv : Inv plan w) (p c : ℕ) (hd : ((state_of plan w c).points p).holding ≡ S.held) where
  abbrev at : ℕ → Point
  at b = (state_of plan w b).points p

  abbrev tok : Token
  tok = (inv.core.chain p).0

  chain : Chain plan (In w.made) (Leaves w.servers) (Stood w.servers) p tok
  chain = (inv.core.chain p).1

  place : (b : ℕ) → Place (In w.made) p tok b (at b)
  unfolding state_of
  place b = chain.places b (w.servers b).log (Tail-refl _, inv.core.marks b)

  owns : (tok.move ≡ (at c).move) × (tok.owner ≡ c)
  owns = go (place c)
    where
      go : Place (In w.made) p tok c (at c) → (tok.move ≡ (at c).move) × (tok.owner ≡ c)
      go (Tok.behind nh le t q e im) = absurd (nh hd)
      go (Tok.front o _ e t q) = (sym e, sym o)
      go (Tok.leaving o g e t q) = absurd (held-given g hd)

  here : CameTo plan w.made p (at c).move c
  here = subst (CameTo plan w.made p (at c).move) owns.1
      (subst (λ (m : ℕ). CameTo plan w.made p m tok.owner) owns.0 (came_to plan w.made (Leaves w.servers) (Stood w.servers) p tok chain))

  no_image : (i : Image) → In w.made (S.image i) → i.point ≡ p → i.move ≤ (at c).move
  no_image i m e = subst (λ (z : ℕ). i.move ≤ z) owns.0 (chain.images i m e).most

  no_log : (b : ℕ) → (at b).move ≤ (at c).move
  no_log b = go (place b)
    where
      go : Place (In w.made) p tok b (at b) → (at b).move ≤ (at c).move
      go (Tok.behind nh le t q e im) = subst (λ (z : ℕ). (at b).move ≤ z) owns.0 le
      go (Tok.front o _ e t q) = let z = owns.0 in omega arith
      go (Tok.leaving o g e t q) = absurd (held-given g (subst (λ (z : ℕ). (at z).holding ≡ S.held) (sym (o ∙ owns.1)) hd))

-- ---- later moves

-- in world w all of point p with a later move than m has heard t
record Later (plan : Plan) (w : World) (p t m : ℕ) : Type 0 where
  images : (i : Image) → In w.made (S.image i) → i.point ≡ p → m < i.move → t ≤ i.heard
  logs : (b : ℕ) (l : List Entry) → Tail l (w.servers b).log → m < ((replay plan b l).points p).move → t ≤ (replay plan b l).heard

took-heard : (plan : Plan) (b : ℕ) (e : Entry) (l : List Entry) (i : Image) → e.item ≡ S.took i → i.heard ≤ (replay plan b (e ∷ l)).heard
unfolding replay apply apply_record
took-heard plan b e l i h = subst (λ (r : LogRecord). i.heard ≤ (apply_record (replay plan b l) r e.at).heard) (sym h) (omega arith)

module _ (plan : Plan) (w : World) (p t m : ℕ) (later : Later plan w p t m) (holder : (b : ℕ) → ((state_of plan w b).points p).holding ≡ S.held → t ≤ (state_of plan w b).heard) where
  -- one record more: its point had a later move, or was held, or came by an image
  later-record : (b : ℕ) (e : Entry) → Written plan b (state_of plan w b) (In w.made) e.item → m < ((replay plan b (e ∷ (w.servers b).log)).points p).move
      → t ≤ (replay plan b (e ∷ (w.servers b).log)).heard
  unfolding state_of S.executed_point S.gave_point S.took_point S.freed_point
  later-record b e wr = go (step_at plan (In w.made) b e (w.servers b).log p wr)
    where
      log : List Entry
      log = (w.servers b).log

      up : t ≤ (replay plan b log).heard → t ≤ (replay plan b (e ∷ log)).heard
      up h = omega (arith, heard_rises plan b {k = log} {l = e ∷ log} (Logs.within (Tail-refl log)))

      old : m < ((replay plan b log).points p).move → t ≤ (replay plan b (e ∷ log)).heard
      old h = up (later.logs b log (Tail-refl log) h)

      go : {x : Point} → Logs.Change b (replay plan b log) (In w.made) p e x → m < x.move → t ≤ (replay plan b (e ∷ log)).heard
      go Logs.untouched h = old h
      go (Logs.ran v k done r q pt hd) h = old h
      go (Logs.left d q hd) h = up (holder b hd)
      go (Logs.came i q mm pt dst lt nh) h = omega (arith, later.images i mm pt h, took-heard plan b e log i q)
      go (Logs.let_go d k mm g le) h = old h

  later-images : {c : Change} → Allowed plan w c → (i : Image) → In (step w c).made (S.image i) → i.point ≡ p → m < i.move → t ≤ i.heard
  unfolding state_of
  later-images a i j e h = go (told-image plan w i a j)
    where
      go : Old plan w i → t ≤ i.heard
      go (inl k) = later.images i k e h
      go (inr s) =
          let log = (w.servers s.server).log in
          let mv : i.move ≡ ((replay plan s.server log).points p).move = s.move ∙ ap (λ (z : ℕ). ((replay plan s.server log).points z).move) e in
          subst (λ (z : ℕ). t ≤ z) (sym s.heard) (later.logs s.server log (Tail-refl _) (omega arith))

  later_logs : {c : Change} → Allowed plan w c → (b : ℕ) {y : Server} → LogStep w c b y → (l : List Entry) → Tail l y.log → m < ((replay plan b l).points p).move → t ≤ (replay plan b l).heard
  later_logs a b Trace.still l tl h = later.logs b l tl h
  later_logs a b (Trace.grew r n q) l tl h = go (Tail-cons l _ _ tl)
    where
      e : Entry
      e = record { item = r; at = w.clock; bytes = n }

      go : (l ≡ e ∷ (w.servers b).log) ⊎ Tail l (w.servers b).log → t ≤ (replay plan b l).heard
      go (inl z) = subst (λ (k : List Entry). t ≤ (replay plan b k).heard) (sym z) (later-record b e (writes_by q a) (subst (λ (k : List Entry). m < ((replay plan b k).points p).move) z h))
      go (inr z) = later.logs b l z h
  later_logs a b (Trace.cut x u mk k) l tl h = later.logs b l (Tail-trans tl u) h

-- ---- the fence

module _ (plan : Plan) (cs : List Change) (run_ok : Run plan empty_world cs) (n x p : ℕ) (f : FencedIn plan (after cs n) x p) where
  abbrev c : ℕ
  c = f.server

  abbrev t : ℕ
  t = f.time

  -- the move number that the point is held with
  abbrev m : ℕ
  m = ((state_of plan (after cs n) c).points p).move

  -- what was synced stands
  heard_on : (N : ℕ) → n ≤ N → N ≤ length cs → t ≤ (state_of plan (after cs N) c).heard
  unfolding state_of synced_log
  heard_on N a b =
      let s = (after cs n).servers c in
      let len = oldest_length s.mark s.log ((inv_at plan cs run_ok n).core.marks c) in
      let st = synced_on plan cs run_ok n N c (synced_log s) a b (Tail-drop (length s.log - s.mark) s.log) (omega arith) in
      omega (arith, f.heard, heard_rises plan c st.0)

  came_on : (N : ℕ) → n ≤ N → N ≤ length cs → CameTo plan (after cs N).made p m c
  came_on N a b = go (here plan (after cs n) (inv_at plan cs run_ok n) p c f.holds)
    where
      go : CameTo plan (after cs n).made p m c → CameTo plan (after cs N).made p m c
      go (inl h) = inl h
      go (inr h) = inr (h.0, Imaged-more (λ q k. Tail-mem (made_on plan cs run_ok n N a b) k) h.1)

  -- who holds the point has heard t, if later moves have
  holder_heard : (N : ℕ) → n ≤ N → N ≤ length cs → Later plan (after cs N) p t m → (b : ℕ) → ((state_of plan (after cs N) b).points p).holding ≡ S.held → t ≤ (state_of plan (after cs N) b).heard
  unfolding state_of
  holder_heard N a b later d hd =
      let inv = inv_at plan cs run_ok N in
      let k = inv.core.chain p in
      let s = (after cs N).servers in
      go (alone plan (after cs N).made (Leaves s) (Stood s) p k.0 k.1 m c (came_on N a b) d (s d).log (Tail-refl _, inv.core.marks d) hd)
    where
      go : (d ≡ c) ⊎ (m < ((replay plan d ((after cs N).servers d).log).points p).move) → t ≤ (replay plan d ((after cs N).servers d).log).heard
      go (inl e) = subst (λ (z : ℕ). t ≤ (replay plan z ((after cs N).servers z).log).heard) (sym e) (heard_on N a b)
      go (inr lt) = later.logs d ((after cs N).servers d).log (Tail-refl _) lt

  later_on : (N : ℕ) → n ≤ N → N ≤ length cs → Later plan (after cs N) p t m
  unfolding state_of
  later_on N a b = through (λ z. Later plan (after cs z) p t m) (length cs) n first (λ N u v l. next N u v l) N a b
    where
      inv : Inv plan (after cs n)
      inv = inv_at plan cs run_ok n

      first : Later plan (after cs n) p t m
      first = record {
        images = λ i j e h. let z = no_image plan (after cs n) inv p c f.holds i j e in absurd (omega arith);
        logs = λ b l tl h. let z = no_log plan (after cs n) inv p c f.holds b in absurd (omega (arith, move_rises p tl (inv.core.legit b)));
      }

      next : (N : ℕ) → n ≤ N → N < length cs → Later plan (after cs N) p t m → Later plan (after cs (suc N)) p t m
      next N u v l =
          let ok = allowed_at plan cs run_ok N v in
          let holder = holder_heard N u (omega arith) l in
          record {
            images = rw (after-suc plan cs run_ok N v) (later-images plan (after cs N) p t m l holder ok);
            logs = λ b. later_logs plan (after cs N) p t m l holder ok b (step-at plan cs run_ok N v b);
          }

  -- the second promise: an execution needs a lease end after heard time, and no end granted to x is after t
  no_more : (i b : ℕ) (k : Marked) → n ≤ i → Executes cs i b k → k.command.client ≡ x → k.command.point ≡ p → ⊥
  no_more i b k le ex ec ep = let w = wrote_executed plan cs run_ok i b k ex in go w.0 w.1 refl
    where
      go : i < length cs → {y : LogRecord} → Written plan b (state_of plan (after cs i) b) (In (after cs i).made) y → y ≡ S.executed k.version k.command ex.done ex.res → ⊥
      go h (I.executing v q _ mq hd lt fl nr _) e =
          let qk : q.cmd ≡ k.command = cc in
          let inv = inv_at plan cs run_ok i in
          let qp : q.cmd.point ≡ p = ap (λ (z : Command). z.point) qk ∙ ep in
          let qx : q.cmd.client ≡ x = ap (λ (z : Command). z.client) qk ∙ ec in
          let notice = Tail-mem (made_on plan cs run_ok n i le (omega arith)) f.noticed in
          let grant = subst (λ (z : ℕ). In (after cs i).made (S.grant z q.lease)) qx (inv.clients.leased q mq) in
          let last = inv.manager.holds x t q.lease notice grant in
          let isheld = subst (λ (z : ℕ). ((state_of plan (after cs i) b).points z).holding ≡ S.held) qp hd in
          let heard = holder_heard i le (omega arith) (later_on i le (omega arith)) b isheld in
          omega arith
      go h (I.going z u j) e = let z : ◌≡◌ {A = ℕ} 0 1 = cc in omega arith
      go h (I.giving q d hd) e = let z : ◌≡◌ {A = ℕ} 0 1 = cc in omega arith
      go h (I.taking j mj a d g) e = let z : ◌≡◌ {A = ℕ} 0 1 = cc in omega arith
      go h (I.freeing q d j a g u) e = let z : ◌≡◌ {A = ℕ} 0 1 = cc in omega arith

pub fenced : Fence
unfolding Fence
fenced plan cs run_ok = record { issued = issued-first plan cs run_ok; fence = no_more plan cs run_ok }
