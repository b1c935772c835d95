-- After a run each point has one past: all its executions that stand in logs, each once, with the rules' results; the holder has it.
--     Holds          the paper's holder;  Top   a past with these properties
--     one-past       every point has one
-- Assumes nothing.
use mathlib.Core.Path.{◌≡◌, refl, sym, ◌∙◌, ap, subst}
use mathlib.Core.Bool.{Bool, true, false}
use mathlib.Core.List.Memᴰ
use mathlib.Core.List.{List, [], ◌∷◌, Memᴰ}
use mathlib.Core.Logic.{◌⊎◌, inl, inr}
use native.Mathlib.Omega.{arith}
use Prim.Native.Nat.{ℕ, suc, ◌≤◌, ◌<◌}
use lib.ListN.{length}
use Rattle.model.specs.Plan.{entry_at}
use Rattle.proof_protocol.specs.Servers.{Plan, Execution, Entry, Point, State, Packet, replay, founding}
use Rattle.proof_protocol.specs.Servers as S
use Rattle.proof_protocol.specs.World.{World, Server, Change, empty_world, run}
use Rattle.proof_protocol.specs.Allowed.{Run}
use Rattle.proof_protocol.proofs.Memory.{Honest, Past, value_after, live}
use Rattle.proof_protocol.proofs.Memory as Mem
use Rattle.proof_protocol.proofs.Logs.{Tail, whole, Tail-refl, Tail-trans, Legit, step_at, replay-ok}
use Rattle.proof_protocol.proofs.Logs as Logs
use Rattle.proof_protocol.proofs.Token.{Token, Chain, Place, Origin}
use Rattle.proof_protocol.proofs.Token as Tok
use Rattle.proof_protocol.proofs.Core.{In, Leaves, Stood}
use Rattle.proof_protocol.proofs.Facts.{Stands-in, Rooted, roots, deeper}
use Rattle.proof_protocol.proofs.Inv.{Inv, honest, run_inv}

-- a point's value is what its past leaves, held or not
value-step : {plan : Plan} {made : List Packet} {c : ℕ} {s : State} {p : ℕ} {e : Entry} {x : Point} → Honest plan (In made) → (s.points p).value ≡ value_after plan p (s.points p).past
    → Logs.Change c s (In made) p e x → x.value ≡ value_after plan p x.past
unfolding S.executed_point S.gave_point S.took_point S.freed_point value_after
value-step hon ih Logs.untouched = ih
value-step hon ih (Logs.ran v k done r h q hd) = refl
value-step hon ih (Logs.left d h hd) = ih
value-step {plan} hon ih (Logs.came i h m pt dst lt nh) = subst (λ (z : ℕ). i.value ≡ value_after plan z i.past) pt (hon.images i m).point.value
value-step hon ih (Logs.let_go d m k g le) = ih

value-past : (plan : Plan) (made : List Packet) → Honest plan (In made) → (c clock p : ℕ) (l : List Entry) → Legit plan (In made) c clock l
    → ((replay plan c l).points p).value ≡ value_after plan p ((replay plan c l).points p).past
unfolding replay founding S.founded_point value_after
value-past plan made hon c clock p [] g = refl
value-past plan made hon c clock p (e ∷ l) (Logs.then w a o g) = value-step hon (value-past plan made hon c clock p l g) (step_at plan (In made) c e l p w)

module _ (plan : Plan) (w : World) (inv : Inv plan w) (p : ℕ) where
  abbrev srv : ℕ → Server
  srv = w.servers

  abbrev at : ℕ → Point
  at c = (replay plan c (srv c).log).points p

  -- Demand 3's holder
  pub record Holds (c : ℕ) : Type 0 where
    pub founded : (srv c).founded ≡ true
    pub greatest : (d : ℕ) → (srv d).founded ≡ true → (at d).move ≤ (at c).move
    pub taker : (d : ℕ) → (srv d).founded ≡ true → (at d).move ≡ (at c).move → (at d).taken ≤ (at c).taken
    pub home : (at c).move ≡ 0 → (entry_at plan p).home ≡ c

  pub record Top (H : List Execution) : Type 0 where
    pub past : Past plan p H
    pub all : (c : ℕ) → Tail (at c).past H
    pub rooted : (d : Execution) → Memᴰ d H → (c : ℕ) × Stands-in d (length (srv c).log) (srv c).log
    pub holder : (c : ℕ) → Holds c → ((at c).past ≡ H) × ((at c).value ≡ value_after plan p H)

  hon : Honest plan (In w.made)
  hon = honest plan w inv

  here : (c : ℕ) → Leaves srv c (srv c).log
  here c = (Tail-refl _, inv.core.marks c)

  worth : (c : ℕ) (H : List Execution) → (at c).past ≡ H → (at c).value ≡ value_after plan p H
  worth c H e = value-past plan w.made hon c w.clock p (srv c).log (inv.core.legit c) ∙ ap (value_after plan p) e

  all_root : (d : Execution) → Rooted srv d → (c : ℕ) × Stands-in d (length (srv c).log) (srv c).log
  all_root d r = (r.0, deeper (Tail-refl _) (inv.core.marks r.0) r.1)

  -- an unfounded server has taken nothing
  untaken : (c : ℕ) → (srv c).founded ≡ false → (at c).taken ≡ 0
  unfolding replay founding S.founded_point
  untaken c e = ap (λ (l : List Entry). ((replay plan c l).points p).taken) (inv.core.blank c e).0

  stood : (c : ℕ) → 0 < (at c).taken → (srv c).founded ≡ true
  stood c h = go (srv c).founded refl
    where
      go : (b : Bool) → (srv c).founded ≡ b → b ≡ true
      go true e = refl
      go false e = absurd (omega (arith, untaken c e))

  module _ (tok : Token) (ch : Chain plan (In w.made) (Leaves srv) (Stood srv) p tok) where
    place : (c : ℕ) → Place (In w.made) p tok c (at c)
    place c = ch.places c (srv c).log (here c)

    -- the owner has it
    module _ (o : ℕ) (own : o ≡ tok.owner) (lv : live (at o).holding ≡ true) (mv : tok.move ≤ (at o).move) (tk : (at o).taken ≡ tok.move) (bs : Tail tok.base (at o).past) where
      below : (c : ℕ) → Place (In w.made) p tok c (at c) → Tail (at c).past (at o).past
      below c (Tok.behind a b d t g h) = Tail-trans t bs
      below c (Tok.front a b d e g) = whole (ap (λ (z : ℕ). (at z).past) (a ∙ sym own))
      below c (Tok.leaving a b d e g) = whole (ap (λ (z : ℕ). (at z).past) (a ∙ sym own))

      late : (c : ℕ) → Holds c → (at c).move ≤ tok.move → ((at c).taken < tok.move) ⊎ ((tok.move ≡ 0) × (c ≡ tok.owner → ⊥)) → Origin plan (In w.made) (Leaves srv) (Stood srv) p tok → ⊥
      late c h le (inl lt) (Tok.home z q b) = omega arith
      late c h le (inr n) (Tok.home z q b) = n.1 (sym (h.home (omega arith)) ∙ sym q)
      late c h le (inr n) (Tok.from d f up pos im) = let z = n.0 in omega arith
      late c h le (inl lt) (Tok.from d f up pos im) =
          let fo = stood o (omega arith) in
          let gr = h.greatest o fo in
          let ta = h.taker o fo (omega arith) in omega arith

      same : (c : ℕ) → Holds c → Place (In w.made) p tok c (at c) → (at c).past ≡ (at o).past
      same c h (Tok.behind a b d t g im) = absurd (late c h b d ch.giver)
      same c h (Tok.front a b d e g) = ap (λ (z : ℕ). (at z).past) (a ∙ sym own)
      same c h (Tok.leaving a b d e g) = ap (λ (z : ℕ). (at z).past) (a ∙ sym own)

      standing : (d : Execution) → Stands-in d (length (srv o).log) (srv o).log ⊎ Rooted srv d → (c : ℕ) × Stands-in d (length (srv c).log) (srv c).log
      standing d (inl s) = (o, s)
      standing d (inr r) = all_root d r

      arrived : Top (at o).past
      arrived = record {
        past = ((replay-ok plan (In w.made) hon (srv o).log (inv.core.legit o) p).ok lv).past;
        all = λ c. below c (place c);
        rooted = λ d m. standing d (roots plan w.made srv o w.clock inv.facts.rooted p (srv o).log (inv.core.legit o) d m);
        holder = λ c h. (same c h (place c), worth c (at o).past (same c h (place c)));
      }

    -- the owner has not taken it (yet, or any more)
    module _ (nh : (at tok.owner).holding ≡ S.held → ⊥) (low : (at tok.owner).move ≤ tok.move)
        (aw : ((at tok.owner).taken < tok.move) ⊎ ((tok.move ≡ 0) × (tok.owner ≡ tok.owner → ⊥))) where
      under : (c : ℕ) → Place (In w.made) p tok c (at c) → Tail (at c).past tok.base
      under c (Tok.behind a b d t g h) = t
      under c (Tok.front a b d e g) = absurd (nh (subst (λ (z : ℕ). (at z).holding ≡ S.held) a b))
      under c (Tok.leaving a b d e g) = let q : (at tok.owner).move ≡ suc tok.move = subst (λ (z : ℕ). (at z).move ≡ suc tok.move) a d in absurd (omega arith)

      good : Origin plan (In w.made) (Leaves srv) (Stood srv) p tok → Past plan p tok.base
      good (Tok.home z q b) = subst (Past plan p) (sym b) Mem.begun
      good (Tok.from d f up pos im) = subst (Past plan p) im.past' (subst (λ (z : ℕ). Past plan z im.image.past) im.point (inv.core.images im.image im.made).point.past)

      root : Origin plan (In w.made) (Leaves srv) (Stood srv) p tok → (d : Execution) → Memᴰ d tok.base → (c : ℕ) × Stands-in d (length (srv c).log) (srv c).log
      root (Tok.home z q b) d m = absurd (Memᴰ.not-nil (subst (λ (l : List Execution). Memᴰ d l) b m))
      root (Tok.from c f up pos im) d m = all_root d (inv.facts.rooted im.image im.made d (subst (λ (l : List Execution). Memᴰ d l) (sym im.past') m))

      held_by : (c : ℕ) → Holds c → Place (In w.made) p tok c (at c) → Origin plan (In w.made) (Leaves srv) (Stood srv) p tok → (at c).past ≡ tok.base
      held_by c h (Tok.behind a b d t g im) (Tok.home z q e) = absurd (no_home aw)
        where
          no_home : ((at tok.owner).taken < tok.move) ⊎ ((tok.move ≡ 0) × (tok.owner ≡ tok.owner → ⊥)) → ⊥
          no_home (inl lt) = omega arith
          no_home (inr n) = n.1 refl
      held_by c h (Tok.behind a b d t g im) (Tok.from x f up pos i) = let q = h.greatest x f in let r = up (srv x).log (here x) in g (omega arith)
      held_by c h (Tok.front a b d e g) og = absurd (nh (subst (λ (z : ℕ). (at z).holding ≡ S.held) a b))
      held_by c h (Tok.leaving a b d e g) og = let q : (at tok.owner).move ≡ suc tok.move = subst (λ (z : ℕ). (at z).move ≡ suc tok.move) a d in absurd (omega arith)

      waiting : Top tok.base
      waiting = record {
        past = good ch.giver;
        all = λ c. under c (place c);
        rooted = root ch.giver;
        holder = λ c h. (held_by c h (place c) ch.giver, worth c tok.base (held_by c h (place c) ch.giver));
      }

    pub top : (H : List Execution) × Top H
    top = go (place tok.owner)
      where
        go : Place (In w.made) p tok tok.owner (at tok.owner) → (H : List Execution) × Top H
        go (Tok.behind a b d t g im) = (tok.base, waiting a b d)
        go (Tok.front a b d e g) = ((at tok.owner).past, arrived tok.owner refl (ap live b) (omega arith) e g)
        go (Tok.leaving a b d e g) = ((at tok.owner).past, arrived tok.owner refl (ap live b.is) (omega arith) e g)

-- after every run, each point has its one past
pub one-past : (plan : Plan) (cs : List Change) (r : Run plan empty_world cs) (p : ℕ) → (H : List Execution) × Top plan (run cs) (run_inv plan cs r) p H
one-past plan cs r p = let k = (run_inv plan cs r).core.chain p in top plan (run cs) (run_inv plan cs r) p k.0 k.1
