-- The servers' invariant over a run.
--     Core           marks within logs, logs legitimate, images good, a chain of moves for every point
--     core_plain, core_receipt, core_image      a packet is made;  core_cut   a log is cut, or a mark rises;  core_write   a record is appended
--     early-past     executions of a past are earlier than now
-- Assumes nothing.
use mathlib.Core.Path.{◌≡◌, refl, sym, ◌∙◌, ap, subst}
use mathlib.Core.Bool.{Bool, true, false}
use mathlib.Core.List.Memᴰ
use mathlib.Core.List.{List, [], ◌∷◌, Memᴰ}
use mathlib.Core.Logic.{◌⊎◌, inl, inr}
use native.Mathlib.Omega.{arith}
use Prim.Native.Nat.{ℕ, suc, ◌≤◌, ◌<◌}
use lib.Dec.{eqb}
use lib.ListN.{length}
use borrow.Author.Tests.{eqb-true, eqb-false}
use Rattle.model.specs.declared.Floor.{Floor}
use Rattle.model.specs.Choice.{pick}
use Rattle.proof_protocol.specs.Servers.{Plan, Id, Completion, Execution, Image, LogRecord, Entry, Point, State, replay, founding, Packet, image_for}
use Rattle.proof_protocol.specs.Servers as S
use Rattle.proof_protocol.specs.World.{Server}
use Rattle.proof_protocol.specs.Allowed.{Written, Given}
use Rattle.proof_protocol.proofs.Basics.{impossible, changed-cases}
use Rattle.proof_protocol.proofs.Memory.{Honest, ImageOk, Remembers, live, image-ok}
use Rattle.proof_protocol.proofs.Memory as Mem
use Rattle.proof_protocol.proofs.Logs.{Tail, Tail-refl, Tail-trans, Tail-cons, Legit, Legit-tail, Legit-more, replay-ok, taken≤move, Stands, stands}
use Rattle.proof_protocol.proofs.Logs as Logs
use Rattle.proof_protocol.proofs.Token.{Token, Chain, place-taken, shrink, append, image-made}

abbrev pub In : List Packet → Packet → Type 0
In made k = Memᴰ k made

-- a crash may leave the log l
abbrev pub Leaves : (ℕ → Server) → ℕ → List Entry → Type 0
Leaves srv c l = Tail l (srv c).log × ((srv c).mark ≤ length l)

abbrev pub Stood : (ℕ → Server) → ℕ → Type 0
Stood srv c = (srv c).founded ≡ true

pub record Core (plan : Plan) (srv : ℕ → Server) (made : List Packet) (clock : ℕ) : Type 0 where
  pub marks : (c : ℕ) → (srv c).mark ≤ length (srv c).log
  pub blank : (c : ℕ) → (srv c).founded ≡ false → ((srv c).log ≡ []) × ((srv c).mark ≡ 0)
  pub legit : (c : ℕ) → Legit plan (In made) c clock (srv c).log
  pub early : (i : Image) → In made (S.image i) → (d : Execution) → Memᴰ d i.past → d.at < clock
  pub images : (i : Image) → In made (S.image i) → ImageOk plan (In made) i
  pub chain : (p : ℕ) → (t : Token) × Chain plan (In made) (Leaves srv) (Stood srv) p t

-- ---- more packets

Remembers-more : {K L : Packet → Type 0} {rs : List Completion} {fs : List Floor} {h q : ℕ} {i : Id} → ((p : Packet) → K p → L p) → Remembers K rs fs h q i → Remembers L rs fs h q i
Remembers-more f (Mem.recorded r m o e) = Mem.recorded r m o e
Remembers-more f (Mem.floored c) = Mem.floored c
Remembers-more f (Mem.heard_of t m l) = Mem.heard_of t (f _ m) l

pub ImageOk-more : {plan : Plan} {K L : Packet → Type 0} {i : Image} → ((p : Packet) → K p → L p) → ImageOk plan K i → ImageOk plan L i
ImageOk-more f o = record {
  point = record { past = o.point.past; value = o.point.value; memory = λ d m. Remembers-more f (o.point.memory d m) };
  on = o.on;
  tells = o.tells;
}

-- a packet that no server's promise rests on
abbrev pub plain : Packet → Bool
plain (S.request q) = true
plain (S.answered i p r) = true
plain (S.receipt p c m) = false
plain (S.notice x t) = true
plain (S.grant x t) = true
plain (S.image i) = false

abbrev pub is_image : Packet → Bool
is_image (S.request q) = false
is_image (S.answered i p r) = false
is_image (S.receipt p c m) = false
is_image (S.notice x t) = false
is_image (S.grant x t) = false
is_image (S.image i) = true

change-early : {c : ℕ} {s : State} {made : List Packet} {p : ℕ} {e : Entry} {x : Point} (clock : ℕ) → e.at < clock
    → ((i : Image) → In made (S.image i) → (d : Execution) → Memᴰ d i.past → d.at < clock)
    → ((d : Execution) → Memᴰ d (s.points p).past → d.at < clock) → Logs.Change c s (In made) p e x → (d : Execution) → Memᴰ d x.past → d.at < clock
unfolding S.executed_point S.gave_point S.took_point S.freed_point
change-early clock lt im ih Logs.untouched d m = ih d m
change-early {s = s} {p = p} {e = e} clock lt im ih (Logs.ran v k done r h q hd) d m = go (Memᴰ.cases_cons m)
  where
    go : (d ≡ record { version = v; cmd = k; res = r; at = e.at }) ⊎ Memᴰ d (s.points p).past → d.at < clock
    go (inl q) = subst (λ (z : Execution). z.at < clock) (sym q) lt
    go (inr j) = ih d j
change-early clock lt im ih (Logs.left d' h hd) d m = ih d m
change-early clock lt im ih (Logs.came i h mm pt dst l nh) d m = im i mm d m
change-early clock lt im ih (Logs.let_go d' k mm g le) d m = ih d m

pub early-past : (plan : Plan) (made : List Packet) (c clock : ℕ) → ((i : Image) → In made (S.image i) → (d : Execution) → Memᴰ d i.past → d.at < clock)
    → (p : ℕ) (l : List Entry) → Legit plan (In made) c clock l → (d : Execution) → Memᴰ d ((replay plan c l).points p).past → d.at < clock
unfolding replay founding S.founded_point
early-past plan made c clock im p [] Logs.empty d m = absurd (Memᴰ.not-nil m)
early-past plan made c clock im p (e ∷ l) (Logs.then w a o g) d m = change-early clock a im (early-past plan made c clock im p l g) (Logs.step_at plan (In made) c e l p w) d m

module _ (plan : Plan) (srv : ℕ → Server) (made : List Packet) (clock : ℕ) (core : Core plan srv made clock) where
  pub core_tick : Core plan srv made (suc clock)
  core_tick = record {
    marks = core.marks;
    blank = core.blank;
    legit = λ c. Legit-more (λ p m. m) (omega arith) (core.legit c);
    early = λ i m d j. let h = core.early i m d j in omega arith;
    images = core.images;
    chain = core.chain;
  }

  more : (k : Packet) → (q : Packet) → In made q → In (k ∷ made) q
  more k q m = Memᴰ.tail m

  pub core_plain : (k : Packet) → plain k ≡ true → Core plan srv (k ∷ made) clock
  core_plain k pl = record {
    marks = core.marks;
    blank = core.blank;
    legit = λ c. Legit-more (more k) (omega arith) (core.legit c);
    early = λ i m. core.early i (fi i (Memᴰ.cases_cons m));
    images = λ i m. ImageOk-more (more k) (core.images i (fi i (Memᴰ.cases_cons m)));
    chain = λ p. let t = core.chain p in (t.0, shrink (more k) (λ i pt m. fi i (Memᴰ.cases_cons m)) (λ q c m r. inl (fr q c m (Memᴰ.cases_cons r))) (λ c l b. b) (λ c f. f) t.1);
  }
    where
      fi : (i : Image) → (S.image i ≡ k) ⊎ In made (S.image i) → In made (S.image i)
      fi i (inl e) = impossible (sym pl ∙ ap plain (sym e))
      fi i (inr m) = m

      fr : (q c m : ℕ) → (S.receipt q c m ≡ k) ⊎ In made (S.receipt q c m) → In made (S.receipt q c m)
      fr q c m (inl e) = impossible (sym pl ∙ ap plain (sym e))
      fr q c m (inr r) = r

  whole-log : (c : ℕ) → Leaves srv c (srv c).log
  whole-log c = (Tail-refl _, core.marks c)

  tm : (p b : ℕ) (l : List Entry) → Leaves srv b l → ((replay plan b l).points p).taken ≤ ((replay plan b l).points p).move
  tm p b l a = taken≤move plan (In made) b clock p l (Legit-tail a.0 (core.legit b))

  -- a receipt names a taken move, which no token is under
  pub core_receipt : (p c : ℕ) → Core plan srv (S.receipt p c ((replay plan c (srv c).log).points p).taken ∷ made) clock
  core_receipt p c = record {
    marks = core.marks;
    blank = core.blank;
    legit = λ b. Legit-more (more k) (omega arith) (core.legit b);
    early = λ i m. core.early i (fi i (Memᴰ.cases_cons m));
    images = λ i m. ImageOk-more (more k) (core.images i (fi i (Memᴰ.cases_cons m)));
    chain = λ q. let t = core.chain q in
        (t.0, shrink (more k) (λ i pt m. fi i (Memᴰ.cases_cons m)) (λ q' b m r. fr q t.0 t.1 q' b m (Memᴰ.cases_cons r)) (λ b l a. a) (λ b f. f) t.1);
  }
    where
      k : Packet
      k = S.receipt p c ((replay plan c (srv c).log).points p).taken

      fi : (i : Image) → (S.image i ≡ k) ⊎ In made (S.image i) → In made (S.image i)
      fi i (inl e) = impossible (ap is_image e)
      fi i (inr m) = m

      fr : (q : ℕ) (t : Token) → Chain plan (In made) (Leaves srv) (Stood srv) q t → (q' b m : ℕ) → (S.receipt q' b m ≡ k) ⊎ In made (S.receipt q' b m)
          → In made (S.receipt q' b m) ⊎ (q' ≡ q → m ≤ t.move)
      fr q t ch q' b m (inl e) = inr (λ qq. top (cc) (cc) qq)
        where
          top : q' ≡ p → m ≡ ((replay plan c (srv c).log).points p).taken → q' ≡ q → m ≤ t.move
          top a f g =
              let pq : p ≡ q = sym a ∙ g in
              let h = place-taken (ch.places c (srv c).log (whole-log c)) (tm q c (srv c).log (whole-log c)) in
              subst (λ (z : ℕ). z ≤ t.move) (ap (λ (z : ℕ). ((replay plan c (srv c).log).points z).taken) (sym pq) ∙ sym f) h
      fr q t ch q' b m (inr r) = inl r

  -- ---- an image

  module _ (hon : Honest plan (In made)) (p c : ℕ) (g : Given ((replay plan c (srv c).log).points p).holding) (rs : List Completion) (le : g.place ≤ (srv c).mark)
      (out : (r : Completion) → Memᴰ r rs → Memᴰ r (replay plan c (srv c).log).records × (r.point ≡ p)) (all : (r : Completion)
      → Memᴰ r (replay plan c (srv c).log).records → r.point ≡ p → Memᴰ r rs)
      (fnd : (srv c).founded ≡ true) where
    abbrev i₀ : Image
    i₀ = image_for (replay plan c (srv c).log) p g.destination rs

    abbrev made' : List Packet
    made' = S.image i₀ ∷ made

    fi : (i : Image) → In made' (S.image i) → In made (S.image i) ⊎ (i ≡ i₀)
    fi i m = go (Memᴰ.cases_cons m)
      where
        go : (S.image i ≡ S.image i₀) ⊎ In made (S.image i) → In made (S.image i) ⊎ (i ≡ i₀)
        go (inl e) = inr cc
        go (inr k) = inl k

    fr : (q b m : ℕ) → In made' (S.receipt q b m) → In made (S.receipt q b m)
    fr q b m r = go (Memᴰ.cases_cons r)
      where
        go : (S.receipt q b m ≡ S.image i₀) ⊎ In made (S.receipt q b m) → In made (S.receipt q b m)
        go (inl e) = impossible (ap is_image (sym e))
        go (inr k) = k

    standing : Stands plan c p g.place ((replay plan c (srv c).log).points p) (srv c).log
    standing = stands plan (In made) c clock p g.destination g.place (srv c).log (core.legit c) g.is

    live_given : live ((replay plan c (srv c).log).points p).holding ≡ true
    live_given = ap live g.is

    here : (t : Token) × Chain plan (In made') (Leaves srv) (Stood srv) p t
    here =
        let t = core.chain p in
        image-made plan (In made) (Leaves srv) (Stood srv) p t.0 t.1 c (srv c).log (whole-log c) (In made') (more (S.image i₀)) g.destination g.place rs g.is
        (Memᴰ.head refl) fi fr
        (λ l a. standing.still l a.0 (omega (arith, a.1))) fnd (tm p)

    elsewhere : (q : ℕ) → (q ≡ p → ⊥) → (t : Token) × Chain plan (In made') (Leaves srv) (Stood srv) q t
    unfolding image_for
    elsewhere q ne = let t = core.chain q in (t.0, shrink (more (S.image i₀)) (λ i pt m. old i pt (fi i m)) (λ q' b m r. inl (fr q' b m r)) (λ b l a. a) (λ b f. f) t.1)
      where
        old : (i : Image) → i.point ≡ q → In made (S.image i) ⊎ (i ≡ i₀) → In made (S.image i)
        old i pt (inl k) = k
        old i pt (inr e) = absurd (ne (sym pt ∙ ap (λ (z : Image). z.point) e))

    pub core_image : Core plan srv made' clock
    unfolding image_for
    core_image = record {
      marks = core.marks;
      blank = core.blank;
      legit = λ b. Legit-more (more (S.image i₀)) (omega arith) (core.legit b);
      early = λ i m d j. soon i d j (fi i m);
      images = λ i m. img i (fi i m);
      chain = λ q. at q (eqb q p) refl;
    }
      where
        soon : (i : Image) (d : Execution) → Memᴰ d i.past → In made (S.image i) ⊎ (i ≡ i₀) → d.at < clock
        soon i d j (inl k) = core.early i k d j
        soon i d j (inr e) = early-past plan made c clock core.early p (srv c).log (core.legit c) d (subst (λ (z : Image). Memᴰ d z.past) e j)

        img : (i : Image) → In made (S.image i) ⊎ (i ≡ i₀) → ImageOk plan (In made') i
        img i (inl k) = ImageOk-more (more (S.image i₀)) (core.images i k)
        img i (inr e) = subst (ImageOk plan (In made')) (sym e) (ImageOk-more (more (S.image i₀))
            (image-ok plan (In made) hon (replay plan c (srv c).log) p g.destination rs out all live_given (replay-ok plan (In made) hon (srv c).log (core.legit c))))

        at : (q : ℕ) (b : Bool) → eqb q p ≡ b → (t : Token) × Chain plan (In made') (Leaves srv) (Stood srv) q t
        at q true e = subst (λ (z : ℕ). (t : Token) × Chain plan (In made') (Leaves srv) (Stood srv) z t) (sym (eqb-true q p e)) here
        at q false e = elsewhere q (eqb-false q p e)

  -- ---- a server changes

  abbrev with : ℕ → Server → ℕ → Server
  with c x d = pick (eqb d c) x (srv d)

  -- found, sync, crash and recover: the log becomes a tail of itself, the mark does not fall
  pub core_cut : (c : ℕ) (x : Server) → x.founded ≡ true → Tail x.log (srv c).log → (srv c).mark ≤ x.mark → x.mark ≤ length x.log → Core plan (with c x) made clock
  core_cut c x f t up le = record {
    marks = changed-cases (λ d k. k.mark ≤ length k.log) srv c x le (λ d _. core.marks d);
    blank = changed-cases (λ d k. k.founded ≡ false → (k.log ≡ []) × (k.mark ≡ 0)) srv c x (λ e. impossible (sym f ∙ e)) (λ d _. core.blank d);
    legit = changed-cases (λ d k. Legit plan (In made) d clock k.log) srv c x (Legit-tail t (core.legit c)) (λ d _. core.legit d);
    early = core.early;
    images = core.images;
    chain = λ p. let k = core.chain p in (
      k.0,
      shrink (λ q m. m) (λ i pt m. m) (λ q b m r. inl r)
          (changed-cases (λ d k. (l : List Entry) → Tail l k.log × (k.mark ≤ length l) → Leaves srv d l) srv c x (λ l a. (Tail-trans a.0 t, omega (arith, a.1))) (λ d _ l a. a))
          (changed-cases (λ d k. (srv d).founded ≡ true → k.founded ≡ true) srv c x (λ _. f) (λ d _ e. e)) k.1,
    );
  }

  -- a record is appended
  pub core_write : (c : ℕ) (r : LogRecord) (n : ℕ) → (srv c).founded ≡ true → Written plan c (replay plan c (srv c).log) (In made) r
      → Core plan (with c (record { founded = (srv c).founded; log = record { item = r; at = clock; bytes = n } ∷ (srv c).log; mark = (srv c).mark })) made (suc clock)
  core_write c r n f w = record {
    marks = changed-cases (λ d k. k.mark ≤ length k.log) srv c x (let h = core.marks c in omega arith) (λ d _. core.marks d);
    blank = changed-cases (λ d k. k.founded ≡ false → (k.log ≡ []) × (k.mark ≡ 0)) srv c x (λ e. impossible (sym f ∙ e)) (λ d _. core.blank d);
    legit = changed-cases (λ d k. Legit plan (In made) d (suc clock) k.log) srv c x
        (Logs.then {e = e} w (omega arith) (λ p. early-past plan made c clock core.early p (srv c).log (core.legit c)) (Legit-more (λ p m. m) (omega arith) (core.legit c)))
        (λ d _. Legit-more (λ p m. m) (omega arith) (core.legit d));
    early = λ i m d j. let h = core.early i m d j in omega arith;
    images = core.images;
    chain = λ p. let k = core.chain p in (
      k.0,
      shrink (λ q m. m) (λ i pt m. m) (λ q b m r. inl r)
          (changed-cases (λ d k. (l : List Entry) → Tail l k.log × (k.mark ≤ length l) → Leaves srv d l ⊎ ((d ≡ c) × (l ≡ e ∷ (srv c).log))) srv c x
          (λ l a. part l a.1 (Tail-cons l e (srv c).log a.0)) (λ d _ l a. inl a))
          (changed-cases (λ d k. (srv d).founded ≡ true → k.founded ≡ true) srv c x (λ q. q) (λ d _ q. q))
          (append plan (In made) (Leaves srv) (Stood srv) p k.0 k.1 c (srv c).log (whole-log c) e w),
    );
  }
    where
      e : Entry
      e = record { item = r; at = clock; bytes = n }

      x : Server
      x = record { founded = (srv c).founded; log = e ∷ (srv c).log; mark = (srv c).mark }

      part : (l : List Entry) → (srv c).mark ≤ length l → (l ≡ e ∷ (srv c).log) ⊎ Tail l (srv c).log → Leaves srv c l ⊎ ((c ≡ c) × (l ≡ e ∷ (srv c).log))
      part l m (inl q) = inr (refl, q)
      part l m (inr t) = inl (t, m)
