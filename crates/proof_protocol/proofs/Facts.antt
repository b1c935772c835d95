-- What results and images rest on.
--     brought        a completion record's execution stands in the log that brought it
--     Grows          pasts grow along a log;  roots   an execution of a past stands in a log, or an image brought it
--     Facts          logs grow; a result told is in a synced log; what an image tells is in synced logs
-- Assumes nothing.
use mathlib.Core.Path.{◌≡◌, refl, sym, ◌∙◌, ap, subst}
use mathlib.Core.List.Memᴰ
use mathlib.Core.List.{List, [], ◌∷◌, map, Memᴰ}
use mathlib.Core.Logic.{◌⊎◌, inl, inr}
use native.Mathlib.Omega.{arith}
use Prim.Native.Nat.{ℕ, suc, ◌≤◌, ◌<◌}
use lib.Dec.{eqb}
use lib.ListN.{length}
use Rattle.model.specs.Versions.{Version}
use Rattle.model.specs.declared.Command.{Command}
use Rattle.model.specs.Tables.{keep}
use Rattle.model.specs.Choice.{pick}
use Rattle.proof_protocol.specs.Servers.{Plan, Id, id_of, Result, Completion, Execution, Image, LogRecord, Entry, Point, State, apply_record, apply, replay, founding, Packet, is_on_other, taken_record}
use Rattle.proof_protocol.specs.Servers as S
use Rattle.proof_protocol.specs.World.{Server}
use Rattle.proof_protocol.proofs.Basics.{keep_out, last-cases, map-out, changed-cases}
use Rattle.proof_protocol.proofs.Memory.{Honest}
use Rattle.proof_protocol.proofs.Logs.{Tail, whole, within, Tail-refl, Tail-trans, Legit, replay-ok, count-length, step_at, Change}
use Rattle.proof_protocol.proofs.Logs as Logs
use Rattle.proof_protocol.proofs.Token.{Token, Chain, Place, ImageAt, split}
use Rattle.proof_protocol.proofs.Token as Tok
use Rattle.proof_protocol.proofs.Core.{In}

-- ---- results

-- a record is new in the last step, with the last place, or was there
newest : (s : State) (e : LogRecord) (t : ℕ) (r : Completion) → Memᴰ r (apply_record s e t).records → (r.place ≡ suc s.count) ⊎ Memᴰ r s.records
unfolding apply_record taken_record
newest s (S.executed v k d x) t r m = go (last-cases s.records (keep_out _ r _ m).0)
  where
    go : (r ≡ record { id = id_of k; point = k.point; res = x; place = suc s.count }) ⊎ Memᴰ r s.records → (r.place ≡ suc s.count) ⊎ Memᴰ r s.records
    go (inl e) = inl (ap (λ (z : Completion). z.place) e)
    go (inr j) = inr j
newest s (S.gone x y) t r m = inr (keep_out _ r _ m).0
newest s (S.gave p d n) t r m = inr m
newest s (S.took i) t r m = go (Memᴰ.append_cases (keep (is_on_other i.point) s.records) (keep_out _ r _ m).0)
  where
    go : Memᴰ r (keep (is_on_other i.point) s.records) ⊎ Memᴰ r (map (taken_record (suc s.count)) i.records) → (r.place ≡ suc s.count) ⊎ Memᴰ r s.records
    go (inl j) = inr (keep_out _ r _ j).0
    go (inr j) = inl (ap (λ (z : Completion). z.place) (map-out _ r i.records j).2)
newest s (S.freed p n) t r m = inr (keep_out _ r _ m).0

pub record Shown (plan : Plan) (c most : ℕ) (log : List Entry) (i : Id) (p : ℕ) (x : Result) : Type 0 where
  pub at : List Entry
  pub tail : Tail at log
  pub short : length at ≤ most
  pub done : Execution
  pub among : Memᴰ done ((replay plan c at).points p).past
  pub id : id_of done.cmd ≡ i
  pub res : done.res ≡ x

module _ (plan : Plan) (Made : Packet → Type 0) (hon : Honest plan Made) (c clock : ℕ) where
  -- a completion record's execution stands in the past at the place that brought it
  pub brought : (l : List Entry) → Legit plan Made c clock l → (r : Completion) → Memᴰ r (replay plan c l).records → Shown plan c r.place l r.id r.point r.res
  unfolding replay apply founding
  brought [] g r m = absurd (Memᴰ.not-nil m)
  brought (e ∷ l) (Logs.then w a o g) r m = go (newest (replay plan c l) e.item e.at r m) (λ j. brought l g r j)
    where
      here : r.place ≡ suc (replay plan c l).count → Shown plan c r.place (e ∷ l) r.id r.point r.res
      here q =
          let ok = replay-ok plan Made hon (e ∷ l) (Logs.then w a o g) in
          let t = (ok r.point).tells r m refl in
          let n = count-length plan c l in
          record { at = e ∷ l; tail = Tail-refl _; short = omega arith; done = t.done; among = t.among; id = t.id; res = t.res }

      go : (r.place ≡ suc (replay plan c l).count) ⊎ Memᴰ r (replay plan c l).records
          → (Memᴰ r (replay plan c l).records → Shown plan c r.place l r.id r.point r.res) → Shown plan c r.place (e ∷ l) r.id r.point r.res
      go (inl q) ih = here q
      go (inr j) ih = let h = ih j in record { at = h.at; tail = within h.tail; short = h.short; done = h.done; among = h.among; id = h.id; res = h.res }

-- ---- pasts grow along a log

pub data Grows (plan : Plan) (c : ℕ) : List Entry → Type 0 where
  nothing : Grows plan c []
  grown : {e : Entry} {l : List Entry} → ((p : ℕ) → Tail ((replay plan c l).points p).past ((replay plan c (e ∷ l)).points p).past) → Grows plan c l → Grows plan c (e ∷ l)

pub Grows-tail : {plan : Plan} {c : ℕ} {k l : List Entry} → Tail k l → Grows plan c l → Grows plan c k
Grows-tail (Logs.whole e) g = subst (Grows _ _) (sym e) g
Grows-tail (Logs.within t) (grown f g) = Grows-tail t g

pub past-tail : {plan : Plan} {c : ℕ} {k l : List Entry} (p : ℕ) → Tail k l → Grows plan c l → Tail ((replay plan c k).points p).past ((replay plan c l).points p).past
past-tail {plan} {c} p (Logs.whole e) g = whole (ap (λ (z : List Entry). ((replay plan c z).points p).past) e)
past-tail p (Logs.within t) (grown f g) = Tail-trans (past-tail p t g) (f p)

module _ (plan : Plan) (Made : Packet → Type 0) (Allowed : ℕ → List Entry → Type 0) (Founded : ℕ → Type 0) (p : ℕ) (tok : Token) (ch : Chain plan Made Allowed Founded p tok)
    (c : ℕ) (log : List Entry) (now : Allowed c log) where
  came_grows : (i : Image) → Made (S.image i) → i.point ≡ p → i.destination ≡ c → ((replay plan c log).points p).move < i.move → (((replay plan c log).points p).holding ≡ S.held → ⊥)
      → Place Made p tok c ((replay plan c log).points p) → Tail ((replay plan c log).points p).past i.past
  came_grows i m pt dst lt nh pl = go pl (split i.move tok.move o.most)
    where
      o : ImageAt plan Allowed p tok i
      o = ch.images i m pt

      go : Place Made p tok c ((replay plan c log).points p) → (i.move ≡ tok.move) ⊎ (i.move < tok.move) → Tail ((replay plan c log).points p).past i.past
      go (Tok.behind a b d t g h) (inl e) = subst (λ (z : List Execution). Tail ((replay plan c log).points p).past z) (sym (o.latest e).1) t
      go (Tok.behind a b d t g h) (inr l) =
          let q = o.earlier l log (subst (λ (z : ℕ). Allowed z log) (sym dst) now) in
          let q' : i.move ≤ ((replay plan c log).points p).move = subst (λ (z : ℕ). i.move ≤ ((replay plan z log).points p).move) dst q in absurd (omega arith)
      go (Tok.front a b d t g) x = absurd (nh b)
      go (Tok.leaving a b d t g) x = absurd (omega (arith, o.most))

  pub new_grows : {e : Entry} {x : Point} → Change c (replay plan c log) Made p e x → Tail ((replay plan c log).points p).past x.past
  unfolding S.executed_point S.gave_point S.took_point S.freed_point
  new_grows Logs.untouched = Tail-refl _
  new_grows (Logs.ran v k done r h q hd) = within (Tail-refl _)
  new_grows (Logs.left d h hd) = Tail-refl _
  new_grows (Logs.came i h m pt dst lt nh) = came_grows i m pt dst lt nh (ch.places c log now)
  new_grows (Logs.let_go d m k g le) = Tail-refl _

-- ---- where executions stand

pub record Stands-in (d : Execution) (most : ℕ) (log : List Entry) : Type 0 where
  pub entry : Entry
  pub rest : List Entry
  pub tail : Tail (entry ∷ rest) log
  pub short : length (entry ∷ rest) ≤ most
  pub done : ℕ
  pub item : entry.item ≡ S.executed d.version d.cmd done d.res
  pub at : entry.at ≡ d.at

abbrev pub Rooted : (ℕ → Server) → Execution → Type 0
Rooted srv d = (c : ℕ) × Stands-in d (srv c).mark (srv c).log

pub deeper : {d : Execution} {m n : ℕ} {k l : List Entry} → Tail k l → m ≤ n → Stands-in d m k → Stands-in d n l
deeper t le s = record { entry = s.entry; rest = s.rest; tail = Tail-trans s.tail t; short = let h = s.short in omega arith; done = s.done; item = s.item; at = s.at }

module _ (plan : Plan) (made : List Packet) (srv : ℕ → Server) (c clock : ℕ) (im : (i : Image) → In made (S.image i) → (d : Execution) → Memᴰ d i.past → Rooted srv d) where
  step_root : (p : ℕ) (e : Entry) (l : List Entry) {x : Point} → ((d : Execution) → Memᴰ d ((replay plan c l).points p).past → Stands-in d (length l) l ⊎ Rooted srv d)
      → Change c (replay plan c l) (In made) p e x
      → (d : Execution) → Memᴰ d x.past → Stands-in d (length (e ∷ l)) (e ∷ l) ⊎ Rooted srv d
  unfolding S.executed_point S.gave_point S.took_point S.freed_point
  step_root p e l ih ch d m = at-step ch m
    where
      up : Stands-in d (length l) l ⊎ Rooted srv d → Stands-in d (suc (length l)) (e ∷ l) ⊎ Rooted srv d
      up (inl s) = inl (deeper (within (Tail-refl l)) (omega arith) s)
      up (inr r) = inr r

      ran_root : (v : Version) (k : Command) (done : ℕ) (r : Result) → e.item ≡ S.executed v k done r → (d ≡ record { version = v; cmd = k; res = r; at = e.at }) ⊎ Memᴰ d
          ((replay plan c l).points p).past → Stands-in d (suc (length l)) (e ∷ l) ⊎ Rooted srv d
      ran_root v k done r h (inl q) = inl (record {
        entry = e;
        rest = l;
        tail = Tail-refl _;
        short = omega arith;
        done = done;
        item = h ∙ ap
            (λ (z : Execution). S.executed z.version z.cmd done z.res) (sym q);
        at = ap (λ (z : Execution). z.at) (sym q);
      })
      ran_root v k done r h (inr j) = up (ih d j)

      at-step : {x : Point} → Change c (replay plan c l) (In made) p e x → Memᴰ d x.past → Stands-in d (suc (length l)) (e ∷ l) ⊎ Rooted srv d
      at-step Logs.untouched j = up (ih d j)
      at-step (Logs.ran v k done r h q hd) j = ran_root v k done r h (Memᴰ.cases_cons j)
      at-step (Logs.left d' h hd) j = up (ih d j)
      at-step (Logs.came i h mm pt dst lt nh) j = inr (im i mm d j)
      at-step (Logs.let_go d' k mm g le) j = up (ih d j)

  pub roots : (p : ℕ) (l : List Entry) → Legit plan (In made) c clock l → (d : Execution) → Memᴰ d ((replay plan c l).points p).past → Stands-in d (length l) l ⊎ Rooted srv d
  unfolding replay founding S.founded_point
  roots p [] g d m = absurd (Memᴰ.not-nil m)
  roots p (e ∷ l) (Logs.then w a o g) d m = step_root p e l (roots p l g) (step_at plan (In made) c e l p w) d m

-- ---- the facts' invariant

pub record Facts (plan : Plan) (srv : ℕ → Server) (made : List Packet) : Type 0 where
  pub grows : (c : ℕ) → Grows plan c (srv c).log
  pub shown : (j : Id) (p : ℕ) (r : Result) → In made (S.answered j p r) → (c : ℕ) × Shown plan c (srv c).mark (srv c).log j p r
  pub rooted : (i : Image) → In made (S.image i) → (d : Execution) → Memᴰ d i.past → Rooted srv d

shown_to : {plan : Plan} {c m n : ℕ} {log log' : List Entry} {j : Id} {p : ℕ} {r : Result} → (s : Shown plan c m log j p r) → Tail s.at log' → m ≤ n → Shown plan c n log' j p r
shown_to s t le = record { at = s.at; tail = t; short = let h = s.short in omega arith; done = s.done; among = s.among; id = s.id; res = s.res }

abbrev pub with : (ℕ → Server) → ℕ → Server → ℕ → Server
with srv c x d = pick (eqb d c) x (srv d)

module _ (plan : Plan) (srv : ℕ → Server) (made : List Packet) (facts : Facts plan srv made) where
  -- the server c becomes x: what stood in its synced part still does
  module _ (c : ℕ) (x : Server) (gr : Grows plan c x.log) (up : (srv c).mark ≤ x.mark) (kept : (l : List Entry) → Tail l (srv c).log → length l ≤ (srv c).mark → Tail l x.log) where
    move-shown : (d : ℕ) (j : Id) (p : ℕ) (r : Result) → Shown plan d (srv d).mark (srv d).log j p r → Shown plan d (with srv c x d).mark (with srv c x d).log j p r
    move-shown d j p r s = changed-cases (λ b y. Shown plan b (srv b).mark (srv b).log j p r → Shown plan b y.mark y.log j p r) srv c x
        (λ s. shown_to s (kept s.at s.tail s.short) up) (λ b _ s. s) d s

    move_root : (d : ℕ) (e : Execution) → Stands-in e (srv d).mark (srv d).log → Stands-in e (with srv c x d).mark (with srv c x d).log
    move_root d e s = changed-cases (λ b y. Stands-in e (srv b).mark (srv b).log → Stands-in e y.mark y.log) srv c x
        (λ s. record { entry = s.entry; rest = s.rest; tail = kept _ s.tail s.short; short = let h = s.short in omega arith; done = s.done; item = s.item; at = s.at }) (λ b _ s. s) d s

    pub facts_server : Facts plan (with srv c x) made
    facts_server = record {
      grows = changed-cases (λ b y. Grows plan b y.log) srv c x gr (λ b _. facts.grows b);
      shown = λ j p r m. let s = facts.shown j p r m in (s.0, move-shown s.0 j p r s.1);
      rooted = λ i m d j. let s = facts.rooted i m d j in (s.0, move_root s.0 d s.1);
    }

  -- packets
  pub facts_told : (q : Packet) → ((j : Id) (p : ℕ) (r : Result) → S.answered j p r ≡ q → (c : ℕ) × Shown plan c (srv c).mark (srv c).log j p r)
      → ((i : Image) → S.image i ≡ q → (d : Execution) → Memᴰ d i.past → Rooted srv d) → Facts plan srv (q ∷ made)
  facts_told q fa fi = record {
    grows = facts.grows;
    shown = λ j p r m. sh j p r (Memᴰ.cases_cons m);
    rooted = λ i m. ro i (Memᴰ.cases_cons m);
  }
    where
      sh : (j : Id) (p : ℕ) (r : Result) → (S.answered j p r ≡ q) ⊎ In made (S.answered j p r) → (c : ℕ) × Shown plan c (srv c).mark (srv c).log j p r
      sh j p r (inl e) = fa j p r e
      sh j p r (inr m) = facts.shown j p r m

      ro : (i : Image) → (S.image i ≡ q) ⊎ In made (S.image i) → (d : Execution) → Memᴰ d i.past → Rooted srv d
      ro i (inl e) = fi i e
      ro i (inr m) = facts.rooted i m
