-- One order of all executions: the points' pasts merged by a key that rises along each, for one the event's number; its values and answers.
--     merged, ordered            the executions of all points, the newest first; their entries, the oldest first
--     merged_only, merged_good   each point's part of it is that point's past
--     order-values, order_answers  the values after it and the answers in it are the pasts'
--     merged_falls               it falls by the key
-- Assumes nothing.
use mathlib.Core.Path.{◌≡◌, refl, sym, ◌∙◌, ap, subst}
use mathlib.Core.Bool.{Bool, true, false}
use mathlib.Core.List.Memᴰ
use mathlib.Core.List.{List, [], ◌∷◌, ◌++◌, Memᴰ}
use mathlib.Core.Logic.{◌⊎◌, inl, inr}
use native.Mathlib.Omega.{arith}
use Prim.Native.Nat.{ℕ, zero, suc, ◌≤◌, ◌<◌}
use lib.Dec.{ltb, eqb}
use borrow.Author.Tests.{eqb-true, eqb-false, ltb-true, ltb-false}
use Rattle.model.specs.Sequential.{Marked, OrderEntry, single, parts, commands, EntryResult, one, ReadingZ, Values, after_z, opened, answer_z, entered, answer_to, values_with, values_after, Answers, here, later}
use Rattle.model.specs.declared.Command.{Command}
use Rattle.model.specs.Choice.{pick}
use Rattle.proof_protocol.specs.Servers.{Plan, rule_at, Execution}
use Rattle.proof_protocol.proofs.Basics.{impossible, eqb_same}
use Rattle.proof_protocol.proofs.Memory.{Past, begun, more, value_after}

unfoldable pub only : ℕ → List Execution → List Execution
only p [] = []
only p (d ∷ ds) = pick (eqb d.cmd.point p) (d ∷ only p ds) (only p ds)

-- an execution's command with its version
abbrev pub marked : Execution → Marked
marked d = record { version = d.version; command = d.cmd }

-- its entry
abbrev pub entry : Execution → OrderEntry
entry d = single (marked d)

-- the entries, oldest first
unfoldable pub ordered : List Execution → List OrderEntry
ordered [] = []
ordered (d ∷ ds) = ordered ds ++ (entry d ∷ [])

module _ (key : Execution → ℕ) where
  -- greatest key first
  unfoldable pub insert : Execution → List Execution → List Execution
  insert d [] = d ∷ []
  insert d (e ∷ es) = pick (ltb (key e) (key d)) (d ∷ e ∷ es) (e ∷ insert d es)

  unfoldable pub insert_all : List Execution → List Execution → List Execution
  insert_all [] l = l
  insert_all (d ∷ ds) l = insert d (insert_all ds l)

  unfoldable pub merged : (ℕ → List Execution) → ℕ → List Execution
  merged H zero = []
  merged H (suc n) = insert_all (H n) (merged H n)

  -- the key rises along a past, which has its newest first
  abbrev pub Rises : List Execution → Type 0
  Rises [] = Unit {0}
  Rises (d ∷ ds) = ((e : Execution) → Memᴰ e ds → key e < key d) × Rises ds

  only-other : (p : ℕ) (d : Execution) (l : List Execution) → (d.cmd.point ≡ p → ⊥) → only p (insert d l) ≡ only p l
  unfolding only insert
  only-other p d [] ne = go (eqb d.cmd.point p) refl
    where
      go : (b : Bool) → eqb d.cmd.point p ≡ b → pick b (d ∷ []) [] ≡ []
      go true e = absurd (ne (eqb-true _ _ e))
      go false e = refl
  only-other p d (e ∷ es) ne = go (ltb (key e) (key d)) (eqb d.cmd.point p) refl (only-other p d es ne)
    where
      go : (b : Bool) (c : Bool) → eqb d.cmd.point p ≡ c → only p (insert d es) ≡ only p es
          → only p (pick b (d ∷ e ∷ es) (e ∷ insert d es)) ≡ pick (eqb e.cmd.point p) (e ∷ only p es) (only p es)
      go true true q ih = absurd (ne (eqb-true _ _ q))
      go true false q ih = rw q
      go false c q ih = ap (λ (z : List Execution). pick (eqb e.cmd.point p) (e ∷ z) z) ih

  only_here : (p : ℕ) (d : Execution) (l : List Execution) → d.cmd.point ≡ p → ((e : Execution) → Memᴰ e (only p l) → key e < key d) → only p (insert d l) ≡ d ∷ only p l
  unfolding only insert
  only_here p d [] pt h = rw (pt, eqb_same p)
  only_here p d (e ∷ es) pt h = go (ltb (key e) (key d)) refl (eqb e.cmd.point p) refl h (λ k. only_here p d es pt k)
    where
      go : (b : Bool) → ltb (key e) (key d) ≡ b → (c : Bool) → eqb e.cmd.point p ≡ c → ((x : Execution) → Memᴰ x (pick c (e ∷ only p es) (only p es)) → key x < key d)
          → (((x : Execution) → Memᴰ x (only p es) → key x < key d) → only p (insert d es) ≡ d ∷ only p es) → only p (pick b (d ∷ e ∷ es) (e ∷ insert d es)) ≡ d ∷ pick c (e ∷ only p es)
          (only p es)
      go true q c r k ih = rw (pt, eqb_same p, r)
      go false q true r k ih = let z = ltb-false (key e) (key d) q in absurd (omega (arith, k e (Memᴰ.head refl)))
      go false q false r k ih = rw r (ih k)

  module _ (plan : Plan) where
    merge_own : (p : ℕ) (h l : List Execution) → Past plan p h → Rises h → only p l ≡ [] → only p (insert_all h l) ≡ h
    unfolding insert_all
    merge_own p [] l begun up e = e
    merge_own p (d ∷ ds) l (more pt r f old rest) up e =
        let ih = merge_own p ds l rest up.1 e in
        only_here p d (insert_all ds l) pt (λ x m. up.0 x (subst (λ (z : List Execution). Memᴰ x z) ih m)) ∙ ap (λ (z : List Execution). d ∷ z) ih

    merge_other : (p q : ℕ) (h l : List Execution) → Past plan q h → (q ≡ p → ⊥) → only p (insert_all h l) ≡ only p l
    unfolding insert_all
    merge_other p q [] l begun ne = refl
    merge_other p q (d ∷ ds) l (more pt r f old rest) ne = only-other p d (insert_all ds l) (λ e. ne (sym pt ∙ e)) ∙ merge_other p q ds l rest ne

    module _ (H : ℕ → List Execution) (good : (p : ℕ) → Past plan p (H p)) (up : (p : ℕ) → Rises (H p)) where
      none_yet : (p n : ℕ) → n ≤ p → only p (merged H n) ≡ []
      unfolding merged only
      none_yet p zero h = refl
      none_yet p (suc n) h = merge_other p n (H n) (merged H n) (good n) (λ e. absurd (omega arith)) ∙ none_yet p n (omega arith)

      pub merged_only : (p n : ℕ) → p < n → only p (merged H n) ≡ H p
      unfolding merged
      merged_only p zero h = absurd (omega arith)
      merged_only p (suc n) h = go (λ k. merged_only p n k) (eqb n p) refl
        where
          go : (p < n → only p (merged H n) ≡ H p) → (b : Bool) → eqb n p ≡ b → only p (insert_all (H n) (merged H n)) ≡ H p
          go ih true e = let q = eqb-true n p e in subst (λ (z : ℕ). only p (insert_all (H z) (merged H n)) ≡ H p) (sym q) (merge_own p (H p) (merged H n) (good p) (up p) (none_yet p n (omega arith)))
          go ih false e = let ne = eqb-false n p e in merge_other p n (H n) (merged H n) (good n) ne ∙ ih (omega arith)

      pub merged_good : (n p : ℕ) → Past plan p (only p (merged H n))
      merged_good n p = go (ltb p n) refl
        where
          go : (b : Bool) → ltb p n ≡ b → Past plan p (only p (merged H n))
          go true e = subst (Past plan p) (sym (merged_only p n (ltb-true _ _ e))) (good p)
          go false e = subst (Past plan p) (sym (none_yet p n (ltb-false _ _ e))) begun

  pub insert_in : (x d : Execution) (l : List Execution) → (x ≡ d) ⊎ Memᴰ x l → Memᴰ x (insert d l)
  unfolding insert
  insert_in x d [] (inl e) = Memᴰ.head e
  insert_in x d [] (inr m) = absurd (Memᴰ.not-nil m)
  insert_in x d (e ∷ es) m = go (λ k. insert_in x d es k) (ltb (key e) (key d)) m
    where
      go : ((x ≡ d) ⊎ Memᴰ x es → Memᴰ x (insert d es)) → (b : Bool) → (x ≡ d) ⊎ Memᴰ x (e ∷ es) → Memᴰ x (pick b (d ∷ e ∷ es) (e ∷ insert d es))
      go ih true (inl q) = Memᴰ.head q
      go ih true (inr j) = Memᴰ.tail j
      go ih false (inl q) = Memᴰ.tail (ih (inl q))
      go ih false (inr j) = older (Memᴰ.cases_cons j)
        where
          older : (x ≡ e) ⊎ Memᴰ x es → Memᴰ x (e ∷ insert d es)
          older (inl q) = Memᴰ.head q
          older (inr k) = Memᴰ.tail (ih (inr k))

  insert_all_in : (x : Execution) (ds l : List Execution) → Memᴰ x ds ⊎ Memᴰ x l → Memᴰ x (insert_all ds l)
  unfolding insert_all
  insert_all_in x [] l (inl m) = absurd (Memᴰ.not-nil m)
  insert_all_in x [] l (inr m) = m
  insert_all_in x (d ∷ ds) l m = insert_in x d (insert_all ds l) (go (λ k. insert_all_in x ds l k) m)
    where
      one : (Memᴰ x ds ⊎ Memᴰ x l → Memᴰ x (insert_all ds l)) → (x ≡ d) ⊎ Memᴰ x ds → (x ≡ d) ⊎ Memᴰ x (insert_all ds l)
      one ih (inl q) = inl q
      one ih (inr k) = inr (ih (inl k))

      go : (Memᴰ x ds ⊎ Memᴰ x l → Memᴰ x (insert_all ds l)) → Memᴰ x (d ∷ ds) ⊎ Memᴰ x l → (x ≡ d) ⊎ Memᴰ x (insert_all ds l)
      go ih (inl j) = one ih (Memᴰ.cases_cons j)
      go ih (inr j) = inr (ih (inr j))

  pub merged_in : (H : ℕ → List Execution) (x : Execution) (p n : ℕ) → p < n → Memᴰ x (H p) → Memᴰ x (merged H n)
  unfolding merged
  merged_in H x p zero h m = absurd (omega arith)
  merged_in H x p (suc n) h m = insert_all_in x (H n) (merged H n) (go (λ k. merged_in H x p n k m) (eqb n p) refl)
    where
      go : (p < n → Memᴰ x (merged H n)) → (b : Bool) → eqb n p ≡ b → Memᴰ x (H n) ⊎ Memᴰ x (merged H n)
      go ih true e = inl (subst (λ (z : ℕ). Memᴰ x (H z)) (sym (eqb-true n p e)) m)
      go ih false e = let ne = eqb-false n p e in inr (ih (omega arith))

  pub insert_out : (x d : Execution) (l : List Execution) → Memᴰ x (insert d l) → (x ≡ d) ⊎ Memᴰ x l
  unfolding insert
  insert_out x d [] m = Memᴰ.cases_cons m
  insert_out x d (e ∷ es) m = go (λ k. insert_out x d es k) (ltb (key e) (key d)) m
    where
      up : (x ≡ d) ⊎ Memᴰ x es → (x ≡ d) ⊎ Memᴰ x (e ∷ es)
      up (inl q) = inl q
      up (inr j) = inr (Memᴰ.tail j)

      two : (Memᴰ x (insert d es) → (x ≡ d) ⊎ Memᴰ x es) → (x ≡ e) ⊎ Memᴰ x (insert d es) → (x ≡ d) ⊎ Memᴰ x (e ∷ es)
      two ih (inl q) = inr (Memᴰ.head q)
      two ih (inr j) = up (ih j)

      go : (Memᴰ x (insert d es) → (x ≡ d) ⊎ Memᴰ x es) → (b : Bool) → Memᴰ x (pick b (d ∷ e ∷ es) (e ∷ insert d es)) → (x ≡ d) ⊎ Memᴰ x (e ∷ es)
      go ih true j = Memᴰ.cases_cons j
      go ih false j = two ih (Memᴰ.cases_cons j)

  insert_all_out : (x : Execution) (ds l : List Execution) → Memᴰ x (insert_all ds l) → Memᴰ x ds ⊎ Memᴰ x l
  unfolding insert_all
  insert_all_out x [] l m = inr m
  insert_all_out x (d ∷ ds) l m = go (λ k. insert_all_out x ds l k) (insert_out x d (insert_all ds l) m)
    where
      up : Memᴰ x ds ⊎ Memᴰ x l → Memᴰ x (d ∷ ds) ⊎ Memᴰ x l
      up (inl j) = inl (Memᴰ.tail j)
      up (inr j) = inr j

      go : (Memᴰ x (insert_all ds l) → Memᴰ x ds ⊎ Memᴰ x l) → (x ≡ d) ⊎ Memᴰ x (insert_all ds l) → Memᴰ x (d ∷ ds) ⊎ Memᴰ x l
      go ih (inl q) = inl (Memᴰ.head q)
      go ih (inr j) = up (ih j)

  pub merged_out : (H : ℕ → List Execution) (x : Execution) (n : ℕ) → Memᴰ x (merged H n) → (p : ℕ) × Memᴰ x (H p)
  unfolding merged
  merged_out H x zero m = absurd (Memᴰ.not-nil m)
  merged_out H x (suc n) m = go (λ k. merged_out H x n k) (insert_all_out x (H n) (merged H n) m)
    where
      go : (Memᴰ x (merged H n) → (p : ℕ) × Memᴰ x (H p)) → Memᴰ x (H n) ⊎ Memᴰ x (merged H n) → (p : ℕ) × Memᴰ x (H p)
      go ih (inl j) = (n, j)
      go ih (inr j) = ih j

  -- ---- the merged list falls

  pub data Falls : List Execution → Type 0 where
    none : Falls []
    next : {d : Execution} {l : List Execution} → ((e : Execution) → Memᴰ e l → key e ≤ key d) → Falls l → Falls (d ∷ l)

  insert_falls : (d : Execution) (l : List Execution) → Falls l → Falls (insert d l)
  unfolding insert
  insert_falls d [] none = next (λ e m. absurd (Memᴰ.not-nil m)) none
  insert_falls d (x ∷ l) (next f g) = go (ltb (key x) (key d)) refl (insert_falls d l g)
    where
      first' : key x < key d → (e : Execution) → (e ≡ x) ⊎ Memᴰ e l → key e ≤ key d
      first' h e (inl q) = let r : key e ≡ key x = ap key q in omega arith
      first' h e (inr j) = let r = f e j in omega arith

      then' : key d ≤ key x → (e : Execution) → (e ≡ d) ⊎ Memᴰ e l → key e ≤ key x
      then' h e (inl q) = let r : key e ≡ key d = ap key q in omega arith
      then' h e (inr j) = f e j

      go : (b : Bool) → ltb (key x) (key d) ≡ b → Falls (insert d l) → Falls (pick b (d ∷ x ∷ l) (x ∷ insert d l))
      go true q ih = next (λ e m. first' (ltb-true (key x) (key d) q) e (Memᴰ.cases_cons m)) (next f g)
      go false q ih = next (λ e m. then' (ltb-false (key x) (key d) q) e (insert_out e d l m)) ih

  insert_all_falls : (ds l : List Execution) → Falls l → Falls (insert_all ds l)
  unfolding insert_all
  insert_all_falls [] l f = f
  insert_all_falls (d ∷ ds) l f = insert_falls d (insert_all ds l) (insert_all_falls ds l f)

  pub merged_falls : (H : ℕ → List Execution) (n : ℕ) → Falls (merged H n)
  unfolding merged
  merged_falls H zero = none
  merged_falls H (suc n) = insert_all_falls (H n) (merged H n) (merged_falls H n)

-- the event's number rises
pub past_rises : {plan : Plan} {p : ℕ} (ds : List Execution) → Past plan p ds → Rises (λ d. d.at) ds
past_rises [] begun = tt
past_rises (d ∷ ds) (more pt r f old rest) = (old, past_rises ds rest)

module _ (plan : Plan) where
  -- ---- values and answers

  values-last : (b : Values) (xs : List OrderEntry) (c : OrderEntry) → values_after plan b (xs ++ (c ∷ [])) ≡ values_with plan (values_after plan b xs) c
  unfolding values_after
  values-last b [] c = refl
  values-last b (x ∷ xs) c = values-last (values_with plan b x) xs c

  pub tail-good : (d : Execution) (ds : List Execution) → ((p : ℕ) → Past plan p (only p (d ∷ ds))) → (p : ℕ) → Past plan p (only p ds)
  unfolding only
  tail-good d ds g p = go (eqb d.cmd.point p) (g p)
    where
      go : (b : Bool) → Past plan p (pick b (d ∷ only p ds) (only p ds)) → Past plan p (only p ds)
      go true (more pt r f old rest) = rest
      go false k = k

  head-good : (d : Execution) (ds : List Execution) → ((p : ℕ) → Past plan p (only p (d ∷ ds)))
      → d.res.answer ≡ rule_at plan d.version d.cmd (value_after plan d.cmd.point (only d.cmd.point ds))
  unfolding only
  head-good d ds g = go (eqb d.cmd.point d.cmd.point) (eqb_same d.cmd.point) (g d.cmd.point)
    where
      go : (b : Bool) → b ≡ true → Past plan d.cmd.point (pick b (d ∷ only d.cmd.point ds) (only d.cmd.point ds))
          → d.res.answer ≡ rule_at plan d.version d.cmd (value_after plan d.cmd.point (only d.cmd.point ds))
      go true e (more pt r f old rest) = r
      go false e k = impossible (sym e)

  -- the values after the order are the pasts' values
  pub order-values : (l : List Execution) → ((p : ℕ) → Past plan p (only p l)) → (p : ℕ) → values_after plan (opened plan) (ordered l) p ≡ value_after plan p (only p l)
  unfolding ordered values_after values_with entered answer_z only value_after rule_at
  order-values [] g p = refl
  order-values (d ∷ ds) g p = ap (λ (b : Values). b p) (values-last (opened plan) (ordered ds) (entry d))
      ∙ go (order-values ds (tail-good d ds g)) (eqb p d.cmd.point) refl (eqb d.cmd.point p) refl
    where
      go : ((q : ℕ) → values_after plan (opened plan) (ordered ds) q ≡ value_after plan q (only q ds)) → (b : Bool) → eqb p d.cmd.point ≡ b → (c : Bool) → eqb d.cmd.point p ≡ c
          → pick b (after_z (rule_at plan d.version d.cmd (values_after plan (opened plan) (ordered ds) d.cmd.point))) (values_after plan (opened plan) (ordered ds) p)
          ≡ value_after plan p (pick c (d ∷ only p ds) (only p ds))
      go ih true q true r = ap (λ (v : ReadingZ). after_z (rule_at plan d.version d.cmd v)) (ih d.cmd.point) ∙ ap after_z (sym (head-good d ds g))
      go ih true q false r = absurd (eqb-false _ _ r (sym (eqb-true p d.cmd.point q)))
      go ih false q true r = absurd (eqb-false _ _ q (sym (eqb-true d.cmd.point p r)))
      go ih false q false r = ih p

  answers_left : (b : Values) (xs ys : List OrderEntry) (c : List Command) (r : EntryResult) → Answers plan b xs c r → Answers plan b (xs ++ ys) c r
  answers_left b xs ys c r here = here
  answers_left b xs ys c r (later a) = later (answers_left _ _ ys c r a)

  answers_last : (b : Values) (xs : List OrderEntry) (c : OrderEntry) → Answers plan b (xs ++ (c ∷ [])) (commands c) (answer_to plan (values_after plan b xs) c)
  unfolding values_after
  answers_last b [] c = here
  answers_last b (x ∷ xs) c = later (answers_last (values_with plan b x) xs c)

  answer-is : (b : Values) (d : Execution) → answer_to plan b (entry d) ≡ one (rule_at plan d.version d.cmd (b d.cmd.point))
  unfolding answer_to answer_z rule_at
  answer-is b d = refl

  -- the order's answers are those given
  pub order_answers : (l : List Execution) → ((p : ℕ) → Past plan p (only p l)) → (d : Execution) → Memᴰ d l → Answers plan (opened plan) (ordered l) (d.cmd ∷ []) (one d.res.answer)
  unfolding ordered commands parts
  order_answers [] g d m = absurd (Memᴰ.not-nil m)
  order_answers (e ∷ es) g d m = go (λ j. order_answers es (tail-good e es g) d j) (Memᴰ.cases_cons m)
    where
      last : answer_to plan (values_after plan (opened plan) (ordered es)) (entry e) ≡ one e.res.answer
      last = answer-is (values_after plan (opened plan) (ordered es)) e ∙ ap one (ap (rule_at plan e.version e.cmd) (order-values es (tail-good e es g) e.cmd.point) ∙ sym (head-good e es g))

      go : (Memᴰ d es → Answers plan (opened plan) (ordered es) (d.cmd ∷ []) (one d.res.answer)) → (d ≡ e) ⊎ Memᴰ d es
          → Answers plan (opened plan) (ordered es ++ (entry e ∷ [])) (d.cmd ∷ []) (one d.res.answer)
      go ih (inl q) = subst (λ (z : Execution). Answers plan (opened plan) (ordered es ++ (entry e ∷ [])) (z.cmd ∷ []) (one z.res.answer)) (sym q)
          (subst (λ (r : EntryResult). Answers plan (opened plan) (ordered es ++ (entry e ∷ [])) (e.cmd ∷ []) r) last (answers_last (opened plan) (ordered es) (entry e)))
      go ih (inr j) = answers_left _ _ _ _ _ (ih j)
