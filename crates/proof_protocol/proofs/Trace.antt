-- A run, change by change.
--     step-at        a change leaves a server, appends one record to its log, or cuts its log to a tail of it, if it is a crash
--     wrote          which change wrote an entry, and that the entry stands from then on
--     stands_through, synced_on   what no crash cuts off stands, what is synced stands
--     seen_on, made_on            what was seen or made stays so;  through   what each change keeps stays
-- Assumes nothing.
use mathlib.Core.Path.{◌≡◌, refl, sym, ◌∙◌, ap, subst}
use mathlib.Core.List.{List, [], ◌∷◌, ◌++◌}
use mathlib.Core.Logic.{◌⊎◌, inl, inr}
use native.Mathlib.Omega.{arith}
use Prim.Native.Nat.{ℕ, zero, suc, ◌≤◌, ◌<◌}
use mathlib.Core.Option.{some}
use lib.ListN.{length, take, get_or, get_elem?}
use lib.Seq.{take-suc, take-length}
use Rattle.proof_protocol.specs.Servers.{Plan, LogRecord, Entry}
use Rattle.proof_protocol.specs.World.{World, Server, Change, server_after, seen_by, made_by, step, run, run_from, empty_world}
use Rattle.proof_protocol.specs.World as W
use Rattle.proof_protocol.specs.Allowed.{Allowed, Run}
use Rattle.proof_protocol.specs.Allowed as I
use Rattle.proof_protocol.specs.Explains.{after, final, At}
use Rattle.proof_protocol.proofs.Basics.{changed-cases}
use Rattle.proof_protocol.proofs.Logs.{Tail, whole, within, Tail-refl, Tail-trans, Tail-cons, Tail-length, Tail-drop, Tail-short}
use Rattle.proof_protocol.proofs.Token.{split}
use Rattle.proof_protocol.proofs.Inv.{Inv, run_inv}

-- the change c is a crash of server d
abbrev pub Crashes : Change → ℕ → Type 0
Crashes c d = (j : ℕ) × (c ≡ W.server d (W.crashes j))

-- what the change c makes of server d
pub data LogStep (w : World) (c : Change) (d : ℕ) : Server → Type 0 where
  still : LogStep w c d (w.servers d)
  grew : (r : LogRecord) (n : ℕ) → c ≡ W.server d (W.writes r n)
      → LogStep w c d (record { founded = (w.servers d).founded; log = record { item = r; at = w.clock; bytes = n } ∷ (w.servers d).log; mark = (w.servers d).mark })
  cut : (x : Server) → Tail x.log (w.servers d).log → (w.servers d).mark ≤ x.mark → Crashes c d ⊎ Tail (w.servers d).log x.log → LogStep w c d x

nil-tail : (l : List Entry) → Tail [] l
nil-tail [] = whole refl
nil-tail (e ∷ l) = within (nil-tail l)

server-step : (plan : Plan) (w : World) → Inv plan w → {c : Change} → Allowed plan w c → (d : ℕ) → LogStep w c d ((step w c).servers d)
unfolding step server_after
server-step plan w inv I.nothing d = still
server-step plan w inv (I.founding c e) d =
    let b = inv.core.blank c e in
    changed-cases (LogStep w (W.server c W.founds)) w.servers c _ (cut _ (nil-tail _) (omega (arith, b.1)) (inr (whole b.0))) (λ b _. still) d
server-step plan w inv (I.writing c r n f wr) d = changed-cases (LogStep w (W.server c (W.writes r n))) w.servers c _ (grew r n refl) (λ b _. still) d
server-step plan w inv (I.syncing c m f up le) d = changed-cases (LogStep w (W.server c (W.syncs m))) w.servers c _ (cut _ (Tail-refl _) up (inr (Tail-refl _))) (λ b _. still) d
server-step plan w inv (I.crashing c j f le) d = changed-cases (LogStep w (W.server c (W.crashes j))) w.servers c _ (cut _ (Tail-drop j _) (omega arith) (inl (j, refl))) (λ b _. still) d
server-step plan w inv (I.telling c p f t) d = still
server-step plan w inv (I.starting x t m e) d = still
server-step plan w inv (I.issuing x c o p a e sm) d = still
server-step plan w inv (I.resending x c k e h) d = still
server-step plan w inv (I.receiving x c i p r e m q) d = still
server-step plan w inv (I.reletting x c t e m) d = still
server-step plan w inv (I.leasing m p l) d = still

step_ticks : (w : World) (c : Change) → (step w c).clock ≡ suc w.clock
unfolding step
step_ticks w W.same = refl
step_ticks w (W.server c s) = refl
step_ticks w (W.tells c p) = refl
step_ticks w (W.client x k) = refl
step_ticks w (W.leases m p) = refl

behind_more : {A : Type 0} (k l : List A) → Tail l (k ++ l)
behind_more [] l = Tail-refl l
behind_more (a ∷ k) l = within (behind_more k l)

step_sees : (w : World) (c : Change) → Tail w.seen (step w c).seen
unfolding step
step_sees w W.same = Tail-refl _
step_sees w (W.server c s) = Tail-refl _
step_sees w (W.tells c p) = Tail-refl _
step_sees w (W.client x k) = behind_more (seen_by k) w.seen
step_sees w (W.leases m p) = Tail-refl _

step_makes : (w : World) (c : Change) → Tail w.made (step w c).made
unfolding step
step_makes w W.same = Tail-refl _
step_makes w (W.server c s) = Tail-refl _
step_makes w (W.tells c p) = within (Tail-refl _)
step_makes w (W.client x k) = behind_more (made_by k) w.made
step_makes w (W.leases m p) = within (Tail-refl _)

-- ---- change number n

run_snoc : (w : World) (cs : List Change) (c : Change) → run_from w (cs ++ (c ∷ [])) ≡ step (run_from w cs) c
unfolding run_from
run_snoc w [] c = refl
run_snoc w (x ∷ cs) c = run_snoc (step w x) cs c

run-allowed : (plan : Plan) (w : World) (cs : List Change) → Run plan w cs → (n : ℕ) → n < length cs → Allowed plan (run_from w (take n cs)) (get_or cs n W.same)
unfolding run_from
run-allowed plan w [] r n h = absurd (omega arith)
run-allowed plan w (c ∷ cs) (I.then a r) zero h = a
run-allowed plan w (c ∷ cs) (I.then a r) (suc n) h = run-allowed plan (step w c) cs r n (omega arith)

-- the first n changes are a run
pub run_take : {plan : Plan} {w : World} {cs : List Change} (n : ℕ) → Run plan w cs → Run plan w (take n cs)
run_take zero r = I.ended
run_take (suc n) I.ended = I.ended
run_take {w = w} (suc n) (I.then {c = c} a r) = I.then a (run_take {w = step w c} n r)

found_at : {A : Type 0} (l : List A) (n : ℕ) (a z : A) → get_elem? l n ≡ some a → (n < length l) × (get_or l n z ≡ a)
found_at [] n a z e = let y : ◌≡◌ {A = ℕ} 0 1 = cc in absurd (omega arith)
found_at (x ∷ l) zero a z e = let q : x ≡ a = cc in (omega arith, q)
found_at (x ∷ l) (suc n) a z e = let h = found_at l n a z e in (omega (arith, h.0), h.1)

at-found : {A : Type 0} (l : List A) (n : ℕ) (z : A) → n < length l → get_elem? l n ≡ some (get_or l n z)
at-found [] n z h = absurd (omega arith)
at-found (x ∷ l) zero z h = refl
at-found (x ∷ l) (suc n) z h = at-found l n z (omega arith)

pub at-is : (cs : List Change) (n : ℕ) (c : Change) → At cs n c → (n < length cs) × (get_or cs n W.same ≡ c)
unfolding At
at-is cs n c h = found_at cs n c W.same h

pub is-at : (cs : List Change) (n : ℕ) (c : Change) → n < length cs → get_or cs n W.same ≡ c → At cs n c
unfolding At
is-at cs n c h q = at-found cs n W.same h ∙ ap some q

-- what holds at n and is kept by each change from then on holds at N
pub through : (P : ℕ → Type 0) (L n : ℕ) → P n → ((m : ℕ) → n ≤ m → m < L → P m → P (suc m)) → (N : ℕ) → n ≤ N → N ≤ L → P N
through P L n p f zero a b = subst P (omega arith) p
through P L n p f (suc N) a b = go (split n (suc N) a) (λ k. through P L n p f N k (omega arith))
  where
    go : (n ≡ suc N) ⊎ (n < suc N) → (n ≤ N → P N) → P (suc N)
    go (inl e) ih = subst P e p
    go (inr k) ih = f N (omega arith) (omega arith) (ih (omega arith))

module _ (plan : Plan) (cs : List Change) (r : Run plan empty_world cs) where
  abbrev pub ev : ℕ → Change
  ev n = get_or cs n W.same

  abbrev log : ℕ → ℕ → List Entry
  log n c = ((after cs n).servers c).log

  pub after-suc : (n : ℕ) → n < length cs → after cs (suc n) ≡ step (after cs n) (ev n)
  unfolding after run
  after-suc n h = ap (run_from empty_world) (take-suc cs n W.same h) ∙ run_snoc empty_world (take n cs) (ev n)

  pub allowed_at : (n : ℕ) → n < length cs → Allowed plan (after cs n) (ev n)
  unfolding after run
  allowed_at n h = run-allowed plan empty_world cs r n h

  pub inv_at : (n : ℕ) → Inv plan (after cs n)
  unfolding after
  inv_at n = run_inv plan (take n cs) (run_take n r)

  pub step-at : (n : ℕ) → n < length cs → (c : ℕ) → LogStep (after cs n) (ev n) c ((after cs (suc n)).servers c)
  step-at n h c = rw (after-suc n h) (server-step plan (after cs n) (inv_at n) (allowed_at n h) c)

  step-clock : (n : ℕ) → n < length cs → (after cs (suc n)).clock ≡ suc (after cs n).clock
  step-clock n h = rw (after-suc n h) (step_ticks (after cs n) (ev n))

  pub first-world : after cs 0 ≡ empty_world
  unfolding after run run_from
  first-world = refl

  pub clock-is : (n : ℕ) → n ≤ length cs → (after cs n).clock ≡ n
  clock-is zero h = rw first-world (unfold empty_world in refl)
  clock-is (suc n) h = step-clock n h ∙ ap suc (clock-is n (omega arith))

  pub last-world : after cs (length cs) ≡ final cs
  unfolding after final
  last-world = ap run (take-length cs)

  -- ---- who wrote an entry

  pub record Wrote (N c : ℕ) (e : Entry) (rest : List Entry) : Type 0 where
    pub early : e.at < N
    pub before : rest ≡ log e.at c
    pub src : ev e.at ≡ W.server c (W.writes e.item e.bytes)
    pub stays : (m : ℕ) → e.at < m → m ≤ N → Tail (e ∷ rest) (log m c)

  empty-start : (c : ℕ) → log 0 c ≡ []
  unfolding empty_world
  empty-start c = ap (λ (w : World). (w.servers c).log) first-world

  wrote_step : (N c : ℕ) (h : N < length cs) (e : Entry) (rest : List Entry) → Tail (e ∷ rest) (log (suc N) c) → (Tail (e ∷ rest) (log N c) → Wrote N c e rest) → Wrote (suc N) c e rest
  wrote_step N c h e rest t ih = go (step-at N h c) t
    where
      top : (m : ℕ) → m ≡ suc N → Tail (e ∷ rest) (log m c)
      top m q = subst (λ (z : ℕ). Tail (e ∷ rest) (log z c)) (sym q) t

      longer : Wrote N c e rest → Wrote (suc N) c e rest
      longer w = record { early = let k = w.early in omega arith; before = w.before; src = w.src; stays = λ m a b. more m a (split m (suc N) b) }
        where
          more : (m : ℕ) → e.at < m → (m ≡ suc N) ⊎ (m < suc N) → Tail (e ∷ rest) (log m c)
          more m a (inl k) = top m k
          more m a (inr k) = w.stays m a (omega arith)

      new : (x : LogRecord) (k : ℕ) → ev N ≡ W.server c (W.writes x k) → e ≡ record { item = x; at = (after cs N).clock; bytes = k } → rest ≡ log N c → Wrote (suc N) c e rest
      new x k s p q =
          let n : N ≡ e.at = sym (ap (λ (z : Entry). z.at) p ∙ clock-is N (omega arith)) in
          let y : W.writes x k ≡ W.writes e.item e.bytes = sym (ap (λ (z : Entry). W.writes z.item z.bytes) p) in
          record {
            early = omega arith;
            before = subst (λ (z : ℕ). rest ≡ log z c) n q;
            src = subst (λ (z : ℕ). ev z ≡ W.server c (W.writes e.item e.bytes)) n (s ∙ ap (W.server c) y);
            stays = λ m a b. top m (omega arith);
          }

      parts : (x : LogRecord) (k : ℕ) → ev N ≡ W.server c (W.writes x k) → (e ∷ rest ≡ record { item = x; at = (after cs N).clock; bytes = k } ∷ log N c) ⊎ Tail (e ∷ rest) (log N c)
          → Wrote (suc N) c e rest
      parts x k s (inl q) = new x k s (cc) (cc)
      parts x k s (inr u) = longer (ih u)

      go : {y : Server} → LogStep (after cs N) (ev N) c y → Tail (e ∷ rest) y.log → Wrote (suc N) c e rest
      go still v = longer (ih v)
      go (grew x k s) v = parts x k s (Tail-cons _ _ _ v)
      go (cut x u m k) v = longer (ih (Tail-trans v u))

  pub wrote : (N : ℕ) → N ≤ length cs → (c : ℕ) (e : Entry) (rest : List Entry) → Tail (e ∷ rest) (log N c) → Wrote N c e rest
  wrote zero h c e rest t = let k = Tail-length (subst (λ (z : List Entry). Tail (e ∷ rest) z) (empty-start c) t) in absurd (omega arith)
  wrote (suc N) h c e rest t = wrote_step N c h e rest t (λ u. wrote N (omega arith) c e rest u)

  -- ---- what stays

  pub step_cut : (n : ℕ) → n < length cs → (c : ℕ) → Crashes (ev n) c ⊎ Tail (log n c) (log (suc n) c)
  step_cut n h c = go (step-at n h c)
    where
      go : {y : Server} → LogStep (after cs n) (ev n) c y → Crashes (ev n) c ⊎ Tail (log n c) y.log
      go still = inr (Tail-refl _)
      go (grew x k s) = inr (within (Tail-refl _))
      go (cut x u m k) = k

  step-mark : (n : ℕ) → n < length cs → (c : ℕ) → ((after cs n).servers c).mark ≤ ((after cs (suc n)).servers c).mark
  step-mark n h c = go (step-at n h c)
    where
      go : {y : Server} → LogStep (after cs n) (ev n) c y → ((after cs n).servers c).mark ≤ y.mark
      go still = omega arith
      go (grew x k s) = omega arith
      go (cut x u m k) = m

  -- a tail that is not too long for what a change leaves is a tail of it
  step-short : (n : ℕ) → n < length cs → (c : ℕ) (l : List Entry) → Tail l (log n c) → length l ≤ length (log (suc n) c) → Tail l (log (suc n) c)
  step-short n h c l t q = go (step-at n h c) q
    where
      go : {y : Server} → LogStep (after cs n) (ev n) c y → length l ≤ length y.log → Tail l y.log
      go still q = t
      go (grew x k s) q = within t
      go (cut x u m k) q = Tail-short t u q

  -- what no crash cuts off stands
  pub stands_through : (n N c : ℕ) (l : List Entry) → n ≤ N → N ≤ length cs → Tail l (log n c)
      → ((m j : ℕ) → n ≤ m → At cs m (W.server c (W.crashes j)) → length l ≤ length (log (suc m) c)) → Tail l (log N c)
  stands_through n N c l a b t k = through (λ m. Tail l (log m c)) (length cs) n t (λ m u v x. go m u v x (step_cut m v c)) N a b
    where
      go : (m : ℕ) → n ≤ m → m < length cs → Tail l (log m c) → Crashes (ev m) c ⊎ Tail (log m c) (log (suc m) c) → Tail l (log (suc m) c)
      go m u v x (inl j) = step-short m v c l x (k m j.0 u (is-at cs m _ v j.1))
      go m u v x (inr y) = Tail-trans x y

  pub seen_on : (n N : ℕ) → n ≤ N → N ≤ length cs → Tail (after cs n).seen (after cs N).seen
  seen_on n N a b = through (λ m. Tail (after cs n).seen (after cs m).seen) (length cs) n (Tail-refl _) (λ m u v x. Tail-trans x (rw (after-suc m v) (step_sees (after cs m) (ev m)))) N a b

  pub made_on : (n N : ℕ) → n ≤ N → N ≤ length cs → Tail (after cs n).made (after cs N).made
  made_on n N a b = through (λ m. Tail (after cs n).made (after cs m).made) (length cs) n (Tail-refl _) (λ m u v x. Tail-trans x (rw (after-suc m v) (step_makes (after cs m) (ev m)))) N a b

  -- the synced part stands
  pub synced_on : (n N c : ℕ) (l : List Entry) → n ≤ N → N ≤ length cs → Tail l (log n c) → length l ≤ ((after cs n).servers c).mark → Tail l (log N c) × (length l ≤ ((after cs N).servers c).mark)
  synced_on n N c l a b t k = through (λ m. Tail l (log m c) × (length l ≤ ((after cs m).servers c).mark)) (length cs) n (t, k) go N a b
    where
      go : (m : ℕ) → n ≤ m → m < length cs → Tail l (log m c) × (length l ≤ ((after cs m).servers c).mark) → Tail l (log (suc m) c) × (length l ≤ ((after cs (suc m)).servers c).mark)
      go m u v p =
          let x = p.1 in
          let y = step-mark m v c in
          let z = (inv_at (suc m)).core.marks c in
          (step-short m v c l p.0 (omega arith), omega arith)
