-- What the clause on times of execution gives, of every order that explains a schedule.
--     once-same          two entries of the order that share an id are one
--     one_survivor       an id has one surviving execution
--     again              two results of one id have one time
--     received-time      what a client received was noted by a surviving execution of the command that it completes
-- Assumes nothing.
use Prim.Native.Nat.{ℕ, ◌<◌}
use mathlib.Core.Path.{◌≡◌, refl, sym, ◌∙◌, ap, subst}
use mathlib.Core.Bool.{Bool, true, false}
use mathlib.Core.List.Memᴰ
use mathlib.Core.List.{List, [], ◌∷◌}
use mathlib.Core.Logic.{◌⊎◌, inl, inr}
use native.Mathlib.Omega.{arith}
use lib.Dec.{ltb}
use borrow.Author.Tests.{ltb-true, ltb-false}
use Rattle.std.specs.Prelude.{Ok, Some}
use Rattle.model.specs.declared.Client.{Client}
use Rattle.model.specs.declared.Command.{Command}
use Rattle.model.specs.declared.Packet.TheVariants.{Resulted}
use Rattle.model.specs.declared.ReceiveAnswer.{ReceiveAnswer}
use Rattle.model.specs.declared.Received.TheVariants.{Completed}
use Rattle.model.specs.declared.ResultPacket.{ResultPacket}
use Rattle.model.specs.Clients.{call_at, not_received, receive_with, receive_of}
use Rattle.model.specs.Decisions.{time_for}
use Rattle.model.specs.Packets.{parse_packet}
use Rattle.model.specs.Sequential.{Marked, OrderEntry, single, parts, commands, EntryResult}
use Rattle.model.specs.States.{load}
use Rattle.model.specs.Versions.{Versions}
use Rattle.model_laws.proofs.Clients.{ReceiveCase, receive_case}
use Rattle.model_laws.proofs.Clients as Clients
use Rattle.model_laws.proofs.Tests.{impossible}
use Rattle.claim.specs.World.{Event, running, after}
use Rattle.claim.specs.Claim.{◌∈◌, Once, none_left, one_more, Before, first, later, command_at, Account, ExplainedBy, Explains, Completes, Notes, Tells}
use Rattle.claim.specs.Times.{TimesOf}
use Rattle.claim.proofs.Clients.{at_once}
use Rattle.claim.proofs.Completed.{completed}
use Rattle.claim.proofs.Packets.{packet-stays}

-- ---- an order that has each id once

pub once-same : {order : List OrderEntry} → Once order → (a b : OrderEntry) (k m : Marked) → a ∈ order → b ∈ order → k ∈ parts a → m ∈ parts b
    → k.command.client ≡ m.command.client → k.command.call ≡ m.command.call → a ≡ b
once-same none_left a b k m i j ka mb x c = absurd (Memᴰ.not-nil i)
once-same (one_more {e = e} {es = es} f o) a b k m i j ka mb x c = go (Memᴰ.cases_cons i) (Memᴰ.cases_cons j) (λ u v. once-same o a b k m u v ka mb x c)
  where
    go : (a ≡ e) ⊎ (a ∈ es) → (b ≡ e) ⊎ (b ∈ es) → (a ∈ es → b ∈ es → a ≡ b) → a ≡ b
    go (inl p) (inl q) ih = p ∙ sym q
    go (inl p) (inr v) ih = absurd (f b m k v mb (subst (λ (z : OrderEntry). k ∈ parts z) p ka) (sym x) (sym c))
    go (inr u) (inl q) ih = absurd (f a k m u ka (subst (λ (z : OrderEntry). m ∈ parts z) q mb) x c)
    go (inr u) (inr v) ih = ih u v

-- no entry stands before itself
not-before_itself : {order : List OrderEntry} → Once order → (a : OrderEntry) (m : Marked) → m ∈ parts a → Before a a order → ⊥
not-before_itself (one_more f o) a m i (first j) = f a m m j i i refl refl
not-before_itself (one_more f o) a m i (later b) = not-before_itself o a m i b
not-before_itself none_left a m i b = elim b [ ]

in_single : (m : Marked) → m ∈ parts (single m)
unfolding parts
in_single m = Memᴰ.head refl

single-same : {j k : Marked} → single j ≡ single k → j ≡ k
single-same e = cc

module _ (plan : List ℕ) (seen : Account) (order : List OrderEntry) (E : ExplainedBy plan seen order) where
  -- a survivor's entry
  pub survivor_in : (n : ℕ) (m : Marked) → seen.SurvivesAt n m → single m ∈ order
  survivor_in n m s = (E.survivors (single m)).0 (record { part = m; among = in_single m; at = n; survives = s })

  pub one_survivor : (m n : ℕ) (j k : Marked) → seen.SurvivesAt m j → seen.SurvivesAt n k → j.command.client ≡ k.command.client → j.command.call ≡ k.command.call
      → (m ≡ n) × (j ≡ k)
  one_survivor m n j k s t x c = (go (ltb m n) (ltb n m) refl refl, same)
    where
      same : j ≡ k
      same = single-same (once-same E.once (single j) (single k) j k (survivor_in m j s) (survivor_in n k t) (in_single j) (in_single k) x c)

      -- not one after the other
      never : (u v : ℕ) (i l : Marked) → seen.SurvivesAt u i → seen.SurvivesAt v l → i ≡ l → u < v → ⊥
      never u v i l p q e h =
          not-before_itself E.once (single l) l (in_single l)
          (E.sequence u v i l (single l) (single l) p q h (ap (λ (z : Marked). z.command.point) e) (subst (λ (z : Marked). z ∈ parts (single l)) (sym e) (in_single l)) (in_single l)
          (survivor_in v l q) (survivor_in v l q))

      go : (a b : Bool) → ltb m n ≡ a → ltb n m ≡ b → m ≡ n
      go true b p q = absurd (never m n j k s t same (ltb-true m n p))
      go false true p q = absurd (never n m k j t s (sym same) (ltb-true n m q))
      go false false p q = let u = ltb-false m n p in let v = ltb-false n m q in omega arith

-- ---- over bytes

-- a result that completes a call is of that call
completed_is : (d : Client) (b : List ℕ) (r : ResultPacket) → (receive_of d b).answer ≡ Ok (Completed r)
    → (parse_packet b ≡ Some (Resulted r)) × (r.client ≡ d.client) × ((call_at d r.call).call ≡ r.call)
unfolding receive_of not_received
completed_is d b r s = go (receive_case d (parse_packet b))
  where
    told : {a : ReceiveAnswer} → receive_with d (parse_packet b) ≡ a → a.answer ≡ Ok (Completed r)
    told e = ap (λ (x : ReceiveAnswer). x.answer) (sym e) ∙ s

    go : ReceiveCase d (parse_packet b) → (parse_packet b ≡ Some (Resulted r)) × (r.client ≡ d.client) × ((call_at d r.call).call ≡ r.call)
    go (Clients.ReceiveCase.refused n e) = let f = told e in impossible cc
    go (Clients.ReceiveCase.completed t q own e) =
        let f = told e in
        let z : t ≡ r = cc in (
          q ∙ ap (λ y. Some (Resulted y)) z,
          ap (λ (x : ResultPacket). x.client) (sym z) ∙ own.client-is,
          subst (λ (x : ResultPacket). (call_at d x.call).call ≡ x.call) z own.open_call_lem.at,
        )
    go (Clients.ReceiveCase.denied t q own e) = let f = told e in impossible cc
    go (Clients.ReceiveCase.extended g q k l e) = let f = told e in impossible cc

commands-single : (m : Marked) → commands (single m) ≡ m.command ∷ []
unfolding commands parts
commands-single m = refl

entry-part : (a : OrderEntry) (k : Command) → commands a ≡ k ∷ [] → (m : Marked) × (m ∈ parts a) × (m.command ≡ k)
unfolding commands parts
entry-part (single m) k e = (m, Memᴰ.head refl, let q : m.command ≡ k = cc in q)

module _ (plan : List ℕ) (es : List Event) where
  -- an event notes one time
  noted-once : (n : ℕ) (m : Marked) (t u : ℕ) → Notes es n m t → Notes es n m u → t ≡ u
  noted-once n m t u a b =
      let x = a.0.executes in
      let y = b.0.executes in
      let e = at_once plan es n _ _ x.event y.event in
      let c : a.0.server ≡ b.0.server = cc in
      let v : x.versions ≡ y.versions = cc in
      let f : running x.stored x.state x.log ≡ running y.stored y.state y.log = sym x.up ∙ ap (after es n).servers c ∙ y.up in
      let s : x.state ≡ y.state = cc in
      sym a.1 ∙ ap (λ (z : Versions). time_for z (load x.state)) v ∙ ap (λ (z : List ℕ). time_for y.versions (load z)) s ∙ b.1

  module _ (order : List OrderEntry) (E : Explains plan es order) where
    pub again : (r s : ResultPacket) → Tells es r → Tells es s → r.client ≡ s.client → r.call ≡ s.call → r.result.time ≡ s.result.time
    again r s a b x c =
        let p = E.times r a in
        let q = E.times s b in
        let w = one_survivor plan _ order E p.0 q.0 p.1 q.1 p.4.0 q.4.0 (p.2 ∙ x ∙ sym q.2) (p.3 ∙ c ∙ sym q.3) in
        noted-once q.0 q.1 _ _ (subst (λ (n : ℕ). Notes es n q.1 r.result.time) w.0 (subst (λ (m : Marked). Notes es p.0 m r.result.time) w.1 p.4)) q.4

    pub received-time : (n : ℕ) (ks : List Command) (r : EntryResult) (k : Completes es n ks r)
        → (i : ℕ) × (m : Marked) × (m.command ∷ [] ≡ ks) × Notes es i m k.received.result.time
    unfolding command_at
    received-time n ks r k =
        let h = completed_is k.state k.bytes k.received k.answer in
        let p = E.times k.received (record { number = k.number; bytes = k.bytes; made = packet-stays es n _ _ k.delivered; parsed = h.0 }) in
        let a = completed plan _ order E n ks r k in
        let l = entry-part a.0 (command_at k.state k.received.call) (a.1 ∙ sym k.its) in
        let q : single p.1 ≡ a.0 = once-same E.once (single p.1) a.0 p.1 l.0 (survivor_in plan _ order E p.0 p.1 p.4.0) a.2 (in_single p.1) l.1
        (p.2 ∙ h.1 ∙ ap (λ (z : Command). z.client) (sym l.2)) (p.3 ∙ sym h.2 ∙ ap (λ (z : Command). z.call) (sym l.2)) in
        (p.0, p.1, sym (commands-single p.1) ∙ ap commands q ∙ a.1, p.4)

    pub times_of : TimesOf es
    times_of = record { again = again; received-time = received-time }
