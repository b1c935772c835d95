-- The clients (paper: desks): every request carries a command that was issued, once for its number, and a lease end that was granted.
--     ClientOk     a client's open calls were issued, its numbers are below the next, its lease end was granted
--     ClientsOk    all clients; every request in flight; no number issued twice; every result received came in a packet of its id
--     clients-other, -request, -put, -issue, -receive   what keeps it
-- Assumes nothing.
use mathlib.Core.Path.{◌≡◌, refl, sym, ◌∙◌, ap, subst}
use mathlib.Core.Bool.{Bool, true, false, ◌&&◌}
use mathlib.Core.List.Memᴰ
use mathlib.Core.List.{List, [], ◌∷◌, Memᴰ}
use mathlib.Core.Logic.{◌⊎◌, inl, inr}
use mathlib.Core.Option.{Option, none, some}
use native.Mathlib.Omega.{arith}
use Prim.Native.Nat.{ℕ, zero, suc, ◌≤◌, ◌<◌}
use lib.Dec.{leb, eqb}
use lib.ListN.{get_or, set, replicate}
use borrow.Author.Tests.{eqb-true, leb-true}
use Rattle.model.specs.declared.Command.{Command}
use Rattle.model.specs.declared.OpenCall.{OpenCall}
use Rattle.model.specs.declared.Client.{Client}
use Rattle.model.specs.Choice.{pick}
use Rattle.model.specs.Limits.{call_window, point_count}
use Rattle.model.specs.Clients.{no_call, place_of, call_at, is_open, with_calls, with_lease, closed, request_for, new_call, with_call, is_own}
use Rattle.proof_protocol.specs.Servers.{Id, id_of, Result, Packet, Asked}
use Rattle.proof_protocol.specs.Servers as S
use Rattle.proof_protocol.specs.World.{Seen, issued, received, command_at, asked_in, new_client}
use Rattle.proof_protocol.proofs.Basics.{impossible, and-true, changed-cases}
use Rattle.proof_protocol.proofs.Memory.{Same}
use Rattle.proof_protocol.proofs.Core.{In}

abbrev pub Saw : List Seen → Seen → Type 0
Saw seen x = Memᴰ x seen

-- a received result came in a packet of this id
pub record Brought (made : List Packet) (k : Command) (r : Result) : Type 0 where
  pub point : ℕ
  pub packet : In made (S.answered (id_of k) point r)

pub record ClientOk (made : List Packet) (seen : List Seen) (x : ℕ) (d : Client) : Type 0 where
  pub own : d.client ≡ x
  pub granted : In made (S.grant x d.lease)
  pub opens : (n : ℕ) → is_open d n ≡ true → Saw seen (issued (command_at d n))
  pub below : (k : Command) → Saw seen (issued k) → k.client ≡ x → k.call < d.next

pub record ClientsOk (clients : ℕ → Option Client) (made : List Packet) (seen : List Seen) : Type 0 where
  pub client : (x : ℕ) (d : Client) → clients x ≡ some d → ClientOk made seen x d
  pub silent : (x : ℕ) → clients x ≡ none → (k : Command) → Saw seen (issued k) → k.client ≡ x → ⊥
  pub leased : (q : Asked) → In made (S.request q) → In made (S.grant q.cmd.client q.lease)
  pub asked : (q : Asked) → In made (S.request q) → Saw seen (issued q.cmd)
  pub small : (k : Command) → Saw seen (issued k) → k.point < point_count
  pub single : (k l : Command) → Saw seen (issued k) → Saw seen (issued l) → Same k l → k ≡ l
  pub results : (k : Command) (r : Result) → Saw seen (received k r) → Saw seen (issued k) × Brought made k r

abbrev pub is_request : Packet → Bool
is_request (S.request q) = true
is_request (S.answered i p r) = false
is_request (S.receipt p c m) = false
is_request (S.notice x t) = false
is_request (S.grant x t) = false
is_request (S.image i) = false

-- ---- open calls

abbrev command_in : ℕ → OpenCall → Command
command_in x k = record { client = x; call = k.call; op = k.op; point = k.point; argument = k.argument }

command-at : (d : Client) (n : ℕ) → command_at d n ≡ command_in d.client (call_at d n)
unfolding command_at
command-at d n = refl

open_is : (d : Client) (n : ℕ) → is_open d n ≡ true → (1 ≤ n) × ((call_at d n).call ≡ n)
unfolding is_open
open_is d n e = let h = and-true {a = leb 1 n} e in (leb-true 1 n h.0, eqb-true _ _ h.1)

open_by : (d e : Client) (n : ℕ) → call_at d n ≡ call_at e n → is_open d n ≡ true → is_open e n ≡ true
unfolding is_open
open_by d e n q h = subst (λ (k : OpenCall). leb 1 n && eqb k.call n ≡ true) q h

-- a place that was set, or another
set_cases : {A : Type 0} (l : List A) (i j : ℕ) (v z : A) → (get_or (set l i v) j z ≡ v) ⊎ (get_or (set l i v) j z ≡ get_or l j z)
set_cases [] i j v z = inr refl
set_cases (a ∷ l) zero zero v z = inl refl
set_cases (a ∷ l) zero (suc j) v z = inr refl
set_cases (a ∷ l) (suc i) zero v z = inr refl
set_cases (a ∷ l) (suc i) (suc j) v z = set_cases l i j v z

same-places : {A : Type 0} (n j : ℕ) (v : A) → get_or (replicate n v) j v ≡ v
same-places zero j v = refl
same-places (suc n) zero v = refl
same-places (suc n) (suc j) v = same-places n j v

new_calls : (x t n : ℕ) → call_at (new_client x t) n ≡ no_call
unfolding call_at
new_calls x t n = same-places call_window (place_of n) no_call

with_call_lem : (d : Client) (k : OpenCall) (n : ℕ) → (call_at (with_call d k) n ≡ k) ⊎ (call_at (with_call d k) n ≡ call_at d n)
unfolding call_at with_call with_calls
with_call_lem d k n = set_cases d.calls (place_of k.call) (place_of n) k no_call

closed-call : (d : Client) (c n : ℕ) → (call_at (closed d c) n ≡ no_call) ⊎ (call_at (closed d c) n ≡ call_at d n)
unfolding call_at closed with_calls
closed-call d c n = set_cases d.calls (place_of c) (place_of n) no_call no_call

none_open : (d : Client) (n : ℕ) → call_at d n ≡ no_call → is_open d n ≡ true → ⊥
none_open d n q e = let h = open_is d n e in let z : (call_at d n).call ≡ 0 = ap (λ (k : OpenCall). k.call) q in let u = h.1 in let v = h.0 in omega arith

-- a client that keeps its number and open calls keeps its commands
command-same : (d e : Client) (n : ℕ) → d.client ≡ e.client → call_at d n ≡ call_at e n → command_at d n ≡ command_at e n
command-same d e n p q = command-at d n ∙ ap (λ (x : ℕ). command_in x (call_at d n)) p ∙ ap (command_in e.client) q ∙ sym (command-at e n)

-- ---- packets

client_more : {made : List Packet} {seen : List Seen} {x : ℕ} {d : Client} (q : Packet) → ClientOk made seen x d → ClientOk (q ∷ made) seen x d
client_more q o = record { own = o.own; granted = Memᴰ.tail o.granted; opens = o.opens; below = o.below }

brought_more : {made : List Packet} {k : Command} {r : Result} (q : Packet) → Brought made k r → Brought (q ∷ made) k r
brought_more q b = record { point = b.point; packet = Memᴰ.tail b.packet }

module _ (clients : ℕ → Option Client) (made : List Packet) (seen : List Seen) (ok : ClientsOk clients made seen) where
  -- a packet that is no request
  pub clients-other : (p : Packet) → is_request p ≡ false → ClientsOk clients (p ∷ made) seen
  clients-other p n = record {
    client = λ x d e. client_more p (ok.client x d e);
    silent = ok.silent;
    leased = λ q m. Memᴰ.tail (ok.leased q (old q (Memᴰ.cases_cons m)));
    asked = λ q m. ok.asked q (old q (Memᴰ.cases_cons m));
    small = ok.small;
    single = ok.single;
    results = λ k r m. let h = ok.results k r m in (h.0, brought_more p h.1);
  }
    where
      old : (q : Asked) → (S.request q ≡ p) ⊎ In made (S.request q) → In made (S.request q)
      old q (inl e) = impossible (ap is_request e ∙ n)
      old q (inr m) = m

  -- a request of an issued command with a granted lease
  pub clients-request : (a : Asked) → Saw seen (issued a.cmd) → In made (S.grant a.cmd.client a.lease) → ClientsOk clients (S.request a ∷ made) seen
  clients-request a s g = record {
    client = λ x d e. client_more (S.request a) (ok.client x d e);
    silent = ok.silent;
    leased = λ q m. Memᴰ.tail (le q (Memᴰ.cases_cons m));
    asked = λ q m. ask q (Memᴰ.cases_cons m);
    small = ok.small;
    single = ok.single;
    results = λ k r m. let h = ok.results k r m in (h.0, brought_more (S.request a) h.1);
  }
    where
      le : (q : Asked) → (S.request q ≡ S.request a) ⊎ In made (S.request q) → In made (S.grant q.cmd.client q.lease)
      le q (inl e) = let z : q ≡ a = cc in subst (λ (y : Asked). In made (S.grant y.cmd.client y.lease)) (sym z) g
      le q (inr m) = ok.leased q m

      ask : (q : Asked) → (S.request q ≡ S.request a) ⊎ In made (S.request q) → Saw seen (issued q.cmd)
      ask q (inl e) = let z : q ≡ a = cc in subst (λ (y : Asked). Saw seen (issued y.cmd)) (sym z) s
      ask q (inr m) = ok.asked q m

  -- ---- a client changes

  abbrev with : ℕ → Client → ℕ → Option Client
  with x d y = pick (eqb y x) (some d) (clients y)

  -- what is asked of one client
  abbrev One : List Seen → ℕ → Option Client → Type 0
  One s x o = (d : Client) → o ≡ some d → ClientOk made s x d

  abbrev Mute : List Seen → ℕ → Option Client → Type 0
  Mute s x o = o ≡ none → (k : Command) → Saw s (issued k) → k.client ≡ x → ⊥

  some-none : {X : Type 0} {d : Client} → some d ≡ none → X
  some-none e = let z : ◌≡◌ {A = ℕ} 0 1 = cc in absurd (omega arith)

  same_some : {s : List Seen} {x : ℕ} {d : Client} → ClientOk made s x d → One s x (some d)
  same_some {s} {x} {d} o e q = let z : d ≡ e = cc in subst (ClientOk made s x) z o

  -- a client is put in its place, with nothing issued or received
  pub clients-put : (x : ℕ) (d : Client) → ClientOk made seen x d → ClientsOk (with x d) made seen
  clients-put x d o = record {
    client = changed-cases (One seen) clients x (some d) (same_some o) (λ y _. ok.client y);
    silent = changed-cases (Mute seen) clients x (some d) (λ e. some-none e) (λ y _. ok.silent y);
    leased = ok.leased;
    asked = ok.asked;
    small = ok.small;
    single = ok.single;
    results = ok.results;
  }

  -- a client starts: no command of its number was issued
  pub start-ok : (x t : ℕ) → In made (S.grant x t) → ((k : Command) → Saw seen (issued k) → k.client ≡ x → ⊥) → ClientOk made seen x (new_client x t)
  start-ok x t g fresh = record { own = refl; granted = g; opens = λ n e. absurd (none_open _ n (new_calls x t n) e); below = λ k s e. absurd (fresh k s e) }

  -- a later lease end
  pub relet_ok : (x t : ℕ) (d : Client) → clients x ≡ some d → In made (S.grant d.client t) → ClientOk made seen x (with_lease d t)
  unfolding with_lease
  relet_ok x t d e g =
      let o = ok.client x d e in
      record {
        own = o.own;
        granted = subst (λ (z : ℕ). In made (S.grant z t)) o.own g;
        opens = λ n h. subst (λ (k : Command). Saw seen (issued k)) (command-same d _ n refl (same-call n)) (o.opens n (open_by _ d n (sym (same-call n)) h));
        below = o.below;
      }
    where
      same-call : (n : ℕ) → call_at d n ≡ call_at (record { client = d.client; lease = t; next = d.next; calls = d.calls }) n
      same-call n = unfold call_at in refl

  -- a command is issued
  module _ (x : ℕ) (d : Client) (o p a : ℕ) (e : clients x ≡ some d) (cp : p < point_count) where
    abbrev call : OpenCall
    call = new_call d o p a

    abbrev d' : Client
    d' = with_call d call

    abbrev c : Command
    c = (request_for d' call).command

    pub issued-is : c ≡ record { client = d.client; call = d.next; op = o; point = p; argument = a }
    unfolding request_for with_call with_calls new_call
    issued-is = refl

    cx : c.client ≡ x
    cx = ap (λ (k : Command). k.client) issued-is ∙ (ok.client x d e).own

    cn : c.call ≡ d.next
    cn = ap (λ (k : Command). k.call) issued-is

    abbrev seen' : List Seen
    seen' = issued c ∷ seen

    same_seen : (k : Command) → Saw seen' (issued k) → (k ≡ c) ⊎ Saw seen (issued k)
    same_seen k m = go (Memᴰ.cases_cons m)
      where
        go : (issued k ≡ issued c) ⊎ Saw seen (issued k) → (k ≡ c) ⊎ Saw seen (issued k)
        go (inl q) = inl cc
        go (inr j) = inr j

    pub not_yet : (k : Command) → Saw seen (issued k) → Same k c → ⊥
    not_yet k m s =
        let h = (ok.client x d e).below k m (ap (λ (z : Id). z.client) s ∙ cx) in
        let u : k.call ≡ c.call = ap (λ (z : Id). z.call) s in
        let v = cn in omega arith

    next-is : d'.next ≡ suc d.next
    unfolding with_call with_calls
    next-is = refl

    client-is : d'.client ≡ d.client
    unfolding with_call with_calls
    client-is = refl

    lease-is : d'.lease ≡ d.lease
    unfolding with_call with_calls
    lease-is = refl

    command-is : command_in d'.client call ≡ c
    unfolding request_for with_call with_calls new_call
    command-is = refl

    issue-ok : ClientOk made seen' x d'
    issue-ok = record {
      own = client-is ∙ old.own;
      granted = subst (λ (z : ℕ). In made (S.grant x z)) (sym lease-is) old.granted;
      opens = λ n h. opens' n h (with_call_lem d call n);
      below = λ k m q. lower k q (same_seen k m);
    }
      where
        old : ClientOk made seen x d
        old = ok.client x d e

        opens' : (n : ℕ) → is_open d' n ≡ true → (call_at d' n ≡ call) ⊎ (call_at d' n ≡ call_at d n) → Saw seen' (issued (command_at d' n))
        opens' n h (inl q) = Memᴰ.head (ap issued (command-at d' n ∙ ap (command_in d'.client) q ∙ command-is))
        opens' n h (inr q) = Memᴰ.tail (subst (λ (k : Command). Saw seen (issued k)) (sym (command-same d' d n client-is q)) (old.opens n (open_by d' d n q h)))

        lower : (k : Command) → k.client ≡ x → (k ≡ c) ⊎ Saw seen (issued k) → k.call < d'.next
        lower k q (inl r) = let u : k.call ≡ d.next = ap (λ (z : Command). z.call) r ∙ cn in let v = next-is in omega arith
        lower k q (inr m) = let u = old.below k m q in let v = next-is in omega arith

    pub clients-issue : ClientsOk (with x d') made seen'
    clients-issue = record {
      client = changed-cases (One seen') clients x (some d') (same_some issue-ok) (λ y ne d₁ q. away y ne d₁ (ok.client y d₁ q));
      silent = changed-cases (Mute seen') clients x (some d') (λ q. some-none q) (λ y ne q k m r. mute y ne q k r (same_seen k m));
      leased = ok.leased;
      asked = λ q m. Memᴰ.tail (ok.asked q m);
      small = λ k m. sm k (same_seen k m);
      single = λ k l m n s. one k l s (same_seen k m) (same_seen l n);
      results = λ k r m. res k r (Memᴰ.cases_cons m);
    }
      where
        far : (y : ℕ) → (y ≡ x → ⊥) → (k : Command) → k.client ≡ y → k ≡ c → ⊥
        far y ne k q r = ne (sym q ∙ ap (λ (z : Command). z.client) r ∙ cx)

        lower : (y : ℕ) (d₁ : Client) → (y ≡ x → ⊥) → ClientOk made seen y d₁ → (k : Command) → k.client ≡ y → (k ≡ c) ⊎ Saw seen (issued k) → k.call < d₁.next
        lower y d₁ ne u k q (inl r) = absurd (far y ne k q r)
        lower y d₁ ne u k q (inr m) = u.below k m q

        away : (y : ℕ) → (y ≡ x → ⊥) → (d₁ : Client) → ClientOk made seen y d₁ → ClientOk made seen' y d₁
        away y ne d₁ u = record { own = u.own; granted = u.granted; opens = λ n h. Memᴰ.tail (u.opens n h); below = λ k m q. lower y d₁ ne u k q (same_seen k m) }

        mute : (y : ℕ) → (y ≡ x → ⊥) → clients y ≡ none → (k : Command) → k.client ≡ y → (k ≡ c) ⊎ Saw seen (issued k) → ⊥
        mute y ne q k r (inl h) = far y ne k r h
        mute y ne q k r (inr m) = ok.silent y q k m r

        sm : (k : Command) → (k ≡ c) ⊎ Saw seen (issued k) → k.point < point_count
        sm k (inl q) = subst (λ (z : ℕ). z < point_count) (sym (ap (λ (z : Command). z.point) (q ∙ issued-is))) cp
        sm k (inr m) = ok.small k m

        one : (k l : Command) → Same k l → (k ≡ c) ⊎ Saw seen (issued k) → (l ≡ c) ⊎ Saw seen (issued l) → k ≡ l
        one k l s (inl u) (inl v) = u ∙ sym v
        one k l s (inl u) (inr n) = absurd (not_yet l n (sym s ∙ ap id_of u))
        one k l s (inr m) (inl v) = absurd (not_yet k m (s ∙ ap id_of v))
        one k l s (inr m) (inr n) = ok.single k l m n s

        res : (k : Command) (r : Result) → (received k r ≡ issued c) ⊎ Saw seen (received k r) → Saw seen' (issued k) × Brought made k r
        res k r (inl q) = let z : ◌≡◌ {A = ℕ} 0 1 = cc in absurd (omega arith)
        res k r (inr m) = let h = ok.results k r m in (Memᴰ.tail h.0, h.1)

    -- its request: the command, and the client's lease end, which was granted
    pub request-issued : Saw seen' (issued (asked_in (request_for d' call)).cmd)
    unfolding asked_in
    request-issued = Memᴰ.head refl

    pub request_leased : In made (S.grant (asked_in (request_for d' call)).cmd.client (asked_in (request_for d' call)).lease)
    unfolding asked_in request_for with_call with_calls
    request_leased = subst (λ (z : ℕ). In made (S.grant z d.lease)) (sym (ok.client x d e).own) (ok.client x d e).granted

  -- a call is sent again
  module _ (x : ℕ) (d : Client) (n : ℕ) (e : clients x ≡ some d) (h : is_open d n ≡ true) where
    pub resent_issued : Saw seen (issued (asked_in (request_for d (call_at d n))).cmd)
    unfolding asked_in request_for
    resent_issued = subst (λ (k : Command). Saw seen (issued k)) (command-at d n) ((ok.client x d e).opens n h)

    pub resent_leased : In made (S.grant (asked_in (request_for d (call_at d n))).cmd.client (asked_in (request_for d (call_at d n))).lease)
    unfolding asked_in request_for
    resent_leased = subst (λ (z : ℕ). In made (S.grant z d.lease)) (sym (ok.client x d e).own) (ok.client x d e).granted

  -- ---- a result is received

  own_is : (d : Client) (k : Id) (p : ℕ) → is_own d k.client k.call p ≡ true → (k.client ≡ d.client) × (is_open d k.call ≡ true)
  unfolding is_own
  own_is d k p q = let h = and-true {a = eqb k.client d.client} q in let g = and-true {a = is_open d k.call} h.1 in (eqb-true _ _ h.0, g.0)

  module _ (x : ℕ) (d : Client) (k : Id) (p : ℕ) (r : Result) (e : clients x ≡ some d) (m : In made (S.answered k p r)) (q : is_own d k.client k.call p ≡ true) where
    abbrev kc : Command
    kc = command_at d k.call

    abbrev after : List Seen
    after = received kc r ∷ seen

    was-issued : Saw seen (issued kc)
    was-issued = (ok.client x d e).opens k.call (own_is d k p q).1

    same_id : k ≡ id_of kc
    same_id =
        let a : k.client ≡ kc.client = (own_is d k p q).0 ∙ sym (ap (λ (z : Command). z.client) (command-at d k.call)) in
        let b : k.call ≡ kc.call = sym (open_is d k.call (own_is d k p q).1).1 ∙ sym (ap (λ (z : Command). z.call) (command-at d k.call)) in
        ap (λ (z : ℕ). record { client = z; call = k.call }) a ∙ ap (λ (z : ℕ). record { client = kc.client; call = z }) b

    old : (l : Command) → Saw after (issued l) → Saw seen (issued l)
    old l j = go (Memᴰ.cases_cons j)
      where
        go : (issued l ≡ received kc r) ⊎ Saw seen (issued l) → Saw seen (issued l)
        go (inl z) = let y : ◌≡◌ {A = ℕ} 0 1 = cc in absurd (omega arith)
        go (inr i) = i

    kept : (y : ℕ) (d₁ : Client) → ClientOk made seen y d₁ → ClientOk made after y d₁
    kept y d₁ o = record { own = o.own; granted = o.granted; opens = λ n h. Memᴰ.tail (o.opens n h); below = λ l j. o.below l (old l j) }

    closed-ok : ClientOk made seen x (closed d k.call)
    unfolding closed with_calls
    closed-ok =
        let o = ok.client x d e in
        record { own = o.own; granted = o.granted; opens = λ n h. opens' n h (unfold_call n); below = o.below }
      where
        unfold_call : (n : ℕ) → (call_at (closed d k.call) n ≡ no_call) ⊎ (call_at (closed d k.call) n ≡ call_at d n)
        unfold_call n = closed-call d k.call n

        opens' : (n : ℕ) → is_open (closed d k.call) n ≡ true → (call_at (closed d k.call) n ≡ no_call) ⊎ (call_at (closed d k.call) n ≡ call_at d n)
            → Saw seen (issued (command_at (closed d k.call) n))
        opens' n h (inl z) = absurd (none_open _ n z h)
        opens' n h (inr z) = subst (λ (l : Command). Saw seen (issued l)) (sym (command-same (closed d k.call) d n refl z)) ((ok.client x d e).opens n (open_by (closed d k.call) d n z h))

    pub clients-receive : ClientsOk (with x (closed d k.call)) made after
    clients-receive = record {
      client = changed-cases (One after) clients x (some (closed d k.call)) (same_some (kept x _ closed-ok)) (λ y _ d₁ z. kept y d₁ (ok.client y d₁ z));
      silent = changed-cases (Mute after) clients x (some (closed d k.call)) (λ z. some-none z) (λ y _ z l j. ok.silent y z l (old l j));
      leased = ok.leased;
      asked = λ a j. Memᴰ.tail (ok.asked a j);
      small = λ l j. ok.small l (old l j);
      single = λ l n i j. ok.single l n (old l i) (old n j);
      results = λ l s j. res l s (Memᴰ.cases_cons j);
    }
      where
        new : (l : Command) (s : Result) → l ≡ kc → s ≡ r → Saw after (issued l) × Brought made l s
        new l s u v = (
          Memᴰ.tail (subst (λ (z : Command). Saw seen (issued z)) (sym u) was-issued),
          record { point = p; packet = subst (λ (z : Result). In made (S.answered (id_of l) p z)) (sym v) (subst (λ (z : Id). In made (S.answered z p r)) (same_id ∙ ap id_of (sym u)) m) },
        )

        res : (l : Command) (s : Result) → (received l s ≡ received kc r) ⊎ Saw seen (received l s) → Saw after (issued l) × Brought made l s
        res l s (inl z) = new l s (cc) (cc)
        res l s (inr j) = let h = ok.results l s j in (Memᴰ.tail h.0, h.1)
