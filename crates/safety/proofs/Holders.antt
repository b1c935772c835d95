-- Every point whose home is founded has a holder, after every schedule under the provisos: the clause `values` speaks of it.
--     number-within            a server's number is up to 15
--     counted                  a server that counts has a number up to 15 and a sound state
--     best                     the greatest of the servers below n and the home, by move number, then latest taken move
--     holder
-- Assumes nothing.
use Prim.Native.Nat.{ℕ, zero, suc, ◌≤◌, ◌<◌}
use mathlib.Core.Path.{◌≡◌, refl, sym, ap, ◌∙◌, subst}
use mathlib.Core.Bool.{Bool, true, false}
use mathlib.Core.List.{List, [], ◌∷◌}
use mathlib.Core.Option.{Option, none, some}
use native.Mathlib.Omega.{arith}
use lib.Dec.{ltb}
use borrow.Author.Tests.{ltb-true, ltb-false}
use Rattle.model.specs.Plan.{plan_of, entry_at}
use Rattle.model.specs.Limits.{point_count, last_server}
use Rattle.model.specs.Logs.{LogRecord, executed, gone, gave, took, released, Entry}
use Rattle.model.specs.States.{State, point_at}
use Rattle.model.specs.Apply.{apply_record, apply_executed, apply_gone, apply_gave, apply_took, apply_released, apply, founded, replay_from}
use Rattle.model.specs.Checkpoints.{placed}
use Rattle.claim.specs.World.{Event, Stored, Server}
use Rattle.claim.specs.Provisos.{Provisos}
use Rattle.claim.specs.Claim.{state_given, final_state, Holder}
use Rattle.claim.specs.RecordWorld as R
use Rattle.model_invariants.specs.Sound.{Sound}
use Rattle.model_invariants.specs.History.{Start}
use Rattle.model_invariants.specs.Placed.{seen_from}
use Rattle.model_invariants.proofs.Recovery.{recovered-replay}
use Rattle.safety.proofs.Facts.{holds-sound}
use Rattle.safety.proofs.Tails.{recovered-some}
use Rattle.safety.specs.Alike.{Continues, ServerAlike, nothing, running, storing, crashed}
use Rattle.safety.specs.Holders.{Counted, AtMost, Best}
use Rattle.safety.proofs.Runs.{end-alike}

some_same : {a b : State} → some a ≡ some b → a ≡ b
some_same p = cc

no_state : {A : Type 0} {st : State} → none ≡ some st → A
no_state e = let z : ◌≡◌ {A = ℕ} 0 1 = cc in absurd (omega arith)

-- ---- a server's number

replay-server : (st : State) (es : List Entry) → (replay_from st es).server ≡ st.server
unfolding replay_from apply apply_record apply_executed apply_gone apply_gave apply_took apply_released
replay-server st [] = refl
replay-server st (e ∷ es) = replay-server (apply st e) es ∙ go e.item
  where
    go : (r : LogRecord) → (apply_record r e.end st).server ≡ st.server
    go (executed x) = refl
    go (gone n) = refl
    go (gave g) = refl
    go (took i) = refl
    go (released r) = refl

-- the state that a log starts from has the number that its server was founded with
number-within : {plan : List ℕ} {c : ℕ} {k : Stored} {log : R.Log} {start : State} {es : List Entry} → Continues plan c k log start es → Start start
    → c ≤ last_server
unfolding seen_from placed founded
number-within {plan} {c} {start = start} C S =
    let base : State = C.base in
    let n : base.server ≡ c
    = ap (λ (st : State). st.server) (recovered-replay (founded (plan_of plan) c) base C.before C.replays)
    ∙ replay-server (founded (plan_of plan) c) C.before in
    let m : start.server ≡ base.server = ap (λ (st : State). st.server) C.begins in
    omega (arith, S.sound.server, n, m)

module _ (plan : List ℕ) (es : List Event) (P : Provisos plan es) where
  pub counted : (c : ℕ) (st : State) → final_state plan es c ≡ some st → Counted c st
  unfolding final_state state_given
  counted c st = go ((end-alike plan es P).servers c)
    where
      go : {x : R.Server} {y : Server} → ServerAlike plan c x y → state_given plan y ≡ some st → Counted c st
      go nothing e = no_state e
      go (running K) e = record { number = number-within K.continues K.holds.from; sound = subst Sound (some_same e) (holds-sound K.holds) }
      go (storing K m L) e = record { number = number-within L.continues L.holds.from; sound = subst Sound (some_same e) (holds-sound L.holds) }
      go (crashed K) e =
          let k = recovered-some K in
          record { number = number-within K.continues K.keeps.from; sound = subst Sound (some_same (sym k.1 ∙ e)) k.2 }

  -- ---- the greatest of the servers

  module _ (p : ℕ) (h : p < point_count) where
    taken_under : (c : ℕ) (st : State) → final_state plan es c ≡ some st → (point_at st p).taken_move ≤ (point_at st p).move_number
    taken_under c st e = ((counted c st e).sound.point p (omega arith)).taken_move

    at-most_self : (a : State) → AtMost p a a
    at-most_self a = record { number = omega arith; taken = λ e. omega arith }

    at-most_on : (a b c : State) → AtMost p a b → AtMost p b c → AtMost p a c
    at-most_on a b c x y =
        record {
          number = omega (arith, x.number, y.number);
          taken =
              λ e.
              let m : (point_at a p).move_number ≡ (point_at b p).move_number = omega (arith, e, x.number, y.number) in
              let n : (point_at b p).move_number ≡ (point_at c p).move_number = omega (arith, e, x.number, y.number) in
              omega (arith, x.taken m, y.taken n);
        }

    -- one more server
    more : (n c : ℕ) (st : State) → Best plan es p n c st → (d : ℕ) (new : State) → final_state plan es d ≡ some new → AtMost p st new
        → ((point_at new p).move_number ≡ 0 → (entry_at (plan_of plan) p).home ≡ d)
        → ((x : State) → final_state plan es n ≡ some x → AtMost p x new) → Best plan es p (suc n) d new
    more n c st B d new e up home last =
        record {
          founded = e;
          most = λ k x l q. go k x q (ltb k n) refl l;
          home = home;
        }
      where
        go : (k : ℕ) (x : State) → final_state plan es k ≡ some x → (b : Bool) → ltb k n ≡ b → k < suc n → AtMost p x new
        go k x q true t l = at-most_on x st new (B.most k x (ltb-true _ _ t) q) up
        go k x q false t l =
            let g = ltb-false k n t in
            let z : k ≡ n = omega (arith, l, g) in
            last x (subst (λ (y : ℕ). final_state plan es y ≡ some x) z q)

    -- server n has the state x: the greater of the two
    greater : (n c : ℕ) (st x : State) → Best plan es p n c st → final_state plan es n ≡ some x → (d : ℕ) × (new : State) × Best plan es p (suc n) d new
    greater n c st x B e =
        go (ltb i j) refl (ltb j i) refl (ltb u v) refl
      where
        i : ℕ
        i = (point_at st p).move_number

        j : ℕ
        j = (point_at x p).move_number

        u : ℕ
        u = (point_at st p).taken_move

        v : ℕ
        v = (point_at x p).taken_move

        own : (y : State) → final_state plan es n ≡ some y → y ≡ x
        own y q = some_same (sym q ∙ e)

        keep : AtMost p x st → (d : ℕ) × (new : State) × Best plan es p (suc n) d new
        keep k = (c, st, more n c st B c st B.founded (at-most_self st) B.home (λ y q. subst (λ (z : State). AtMost p z st) (sym (own y q)) k))

        change : AtMost p st x → 1 ≤ (point_at x p).move_number → (d : ℕ) × (new : State) × Best plan es p (suc n) d new
        change k l =
            (n, x, more n c st B n x e k (λ z. absurd (omega (arith, l, z))) (λ y q. subst (λ (z : State). AtMost p z x) (sym (own y q)) (at-most_self x)))

        go : (a : Bool) → ltb i j ≡ a → (b : Bool) → ltb j i ≡ b → (t : Bool) → ltb u v ≡ t → (d : ℕ) × (new : State) × Best plan es p (suc n) d new
        go true a b y t z =
            let k = ltb-true i j a in change (record { number = omega (arith, k); taken = λ q. absurd (omega (arith, k, q)) }) (omega (arith, k))
        go false a true b t z =
            let k = ltb-true j i b in keep (record { number = omega (arith, k); taken = λ q. absurd (omega (arith, k, q)) })
        go false a false b true t =
            let k = ltb-true u v t in
            let l = ltb-false i j a in
            let m = ltb-false j i b in
            change (record { number = omega (arith, l, m); taken = λ q. omega (arith, k) }) (omega (arith, k, taken_under n x e))
        go false a false b false t =
            let k = ltb-false u v t in
            let l = ltb-false i j a in
            let m = ltb-false j i b in
            keep (record { number = omega (arith, l, m); taken = λ q. omega (arith, k) })

    -- server n is not founded
    same : (n c : ℕ) (st : State) → Best plan es p n c st → final_state plan es n ≡ none → (d : ℕ) × (new : State) × Best plan es p (suc n) d new
    same n c st B e = (c, st, more n c st B c st B.founded (at-most_self st) B.home (λ x q. no_state (sym e ∙ q)))

    pub best : (st : State) → final_state plan es (entry_at (plan_of plan) p).home ≡ some st → (n : ℕ) → (c : ℕ) × (best : State) × Best plan es p n c best
    best st e zero = ((entry_at (plan_of plan) p).home, st, record { founded = e; most = λ k x l q. absurd (omega (arith, l)); home = λ z. refl })
    best st e (suc n) = let b = best st e n in go b.0 b.1 b.2 (final_state plan es n) refl
      where
        go : (c : ℕ) (x : State) → Best plan es p n c x → (o : Option State) → final_state plan es n ≡ o → (d : ℕ) × (new : State) × Best plan es p (suc n) d new
        go c x B none q = same n c x B q
        go c x B (some y) q = greater n c x y B q

    pub holder : (st : State) → final_state plan es (entry_at (plan_of plan) p).home ≡ some st → (c : ℕ) × (state : State) × Holder plan es p c state
    holder st e =
        let b = best st e (suc last_server) in
        let B = b.2 in (
          b.0,
          b.1,
          record {
            founded = B.founded;
            greatest = λ d x q. (B.most d x (omega (arith, (counted d x q).number)) q).number;
            taker = λ d x q. (B.most d x (omega (arith, (counted d x q).number)) q).taken;
            home = B.home;
          },
        )
